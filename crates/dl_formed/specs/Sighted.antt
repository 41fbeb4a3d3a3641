-- What the code's view of a procedure stands for.
use Rattle.dl_formed.specs.declared.programs.Inside.{Inside}
use Rattle.dl_formed.specs.Programs.{Sight}

abbrev pub sight_of : Inside → Sight
sight_of inside = record { decls = inside.decls.now; number = inside.number; locals = inside.locals.now; variables = inside.variables.now }

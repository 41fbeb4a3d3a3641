use Rattle.std.proofs.Common.{refl}
use Rattle.dl_term.specs.Syntax.{opened}
use Rattle.dl_sound.proofs.Talking.{talking-first, talking-valid, talking-broken}
use Rattle.dl_sound.proofs.names_must_differ.Goals as goal

pub returns-clause-obligations : goal.returns-clause-obligations
unfolding opened
returns-clause-obligations c = refl

pub returns-clause-first : goal.returns-clause-first
returns-clause-first c = talking-first

pub returns-clause-with_one_name : goal.returns-clause-with_one_name
returns-clause-with_one_name c = talking-valid

pub returns-clause-broken : goal.returns-clause-broken
returns-clause-broken c = talking-broken

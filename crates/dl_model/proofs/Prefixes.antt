-- A prefix of a run is a run.
use Rattle.std.proofs.Common.{List, [], ◌∷◌, ◌++◌, refl}
use Rattle.dl_model.specs.declared.history.Entry.{Entry}
use Rattle.dl_model.specs.declared.file.Decls.{Decls}
use Rattle.dl_model.specs.Runs.{Config, Leads}

pub leads-parts : (decls : Decls) (entries more : List Entry) (before after : Config) → Leads decls before (entries ++ more) after →
    (mid : Config) × Leads decls before entries mid × Leads decls mid more after
leads-parts decls [] more before after run = (before, refl, run)
leads-parts decls (entry ∷ entries) more before after (mid, event, run) =
    let rest = leads-parts decls entries more mid after run in
    (rest.0, (mid, event, rest.1), rest.2)

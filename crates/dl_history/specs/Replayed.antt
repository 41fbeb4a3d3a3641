-- What a replay answers.
use Rattle.std.specs.Prelude.{◌≡◌, ℕ, Some, List, take, slice_get}
use Rattle.dl_model.specs.declared.history.Entry.{Entry}
use Rattle.dl_model.specs.declared.file.Decls.{Decls}
use Rattle.dl_model.specs.Runs.{Config, Event, Leads, initial}

-- no event leads on from the configuration
pub record IsNoEvent (decls : Decls) (before : Config) (entry : Entry) : Type 0 where
  pub never : (after : Config) → Event decls before entry after → ⊥

-- The entries up to the position lead on, and the one at the position is no event there.
pub record IsFaultAt (decls : Decls) (before : Config) (entries : List Entry) (position : ℕ) : Type 0 where
  pub config : Config
  pub leads : Leads decls before (take position entries) config
  pub entry : Entry
  pub there : slice_get entries position ≡ Some entry
  pub fault : IsNoEvent decls config entry

-- The entries up to the position are a run, and the one at the position is no event after them.
abbrev pub IsFirstFault : Decls → List Entry → ℕ → Type 0
IsFirstFault decls entries position = IsFaultAt decls (initial decls) entries position

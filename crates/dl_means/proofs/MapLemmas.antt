-- Look-ups by a text.
use Rattle.std.proofs.Common.{◌≡◌, List, [], ◌∷◌, Some, refl, ap}
use Rattle.std.specs.Prelude.{if◌then◌else◌}
use Rattle.std.specs.Str.{bytes_eq}
use Rattle.std.specs.Map.{lookup}
use Rattle.indexmap.proofs.CallerLemmas.{insert_entry-new}
use Rattle.dl_forms.specs.Context.{Text, look_up}

pub look_up-lookup : {X : Type 0} (name : Text) (entries : List (Text × X)) → look_up name entries ≡ lookup (bytes_eq name) entries
look_up-lookup name [] = refl
look_up-lookup name (entry ∷ entries) = ap (λ later. if bytes_eq name entry.0 then Some entry.1 else later) (look_up-lookup name entries)

pub ruleset maps = (look_up-lookup, insert_entry-new)

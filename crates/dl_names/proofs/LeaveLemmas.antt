-- What lists declare.
use Rattle.std.proofs.Common.{◌≡◌, List, [], ◌∷◌, length, refl}
use Rattle.dl_tree.specs.declared.tree.Tree.{Tree}
use Rattle.dl_notation.specs.Environment.{Environment}
use Rattle.dl_notation.specs.Behind.{all_but_first, composition_of}
use Rattle.dl_notation.specs.Obligations.{texts_of}
use Rattle.dl_notation.specs.Worlds.{no_world}

-- a composition of other than two worlds
pub composition_of_others : (env : Environment) (parts : List Tree) → (length parts ≡ 3 → ⊥) → composition_of env (all_but_first (texts_of parts)) ≡ no_world
composition_of_others env [] h = refl
composition_of_others env (a ∷ []) h = refl
composition_of_others env (a ∷ b ∷ []) h = refl
composition_of_others env (a ∷ b ∷ x ∷ []) h = absurd (h refl)
composition_of_others env (a ∷ b ∷ x ∷ y ∷ parts) h = refl

pub ruleset leaving = (composition_of_others)

-- The parts of an obligation as it is shown.
use Rattle.std.proofs.Common.{◌≡◌, Result, Ok, Err, OnOk, List, ◌∷◌, ◌++◌, append_assoc, refl, ap, ◌∙◌}
use Rattle.dl_tree.specs.declared.tree.Tree.{Tree}
use Rattle.dl_tree.specs.declared.tree.Tree.TheVariants as tree
use Rattle.dl_sequent.specs.declared.duty.Duty.{Duty}
use Rattle.dl_sequent.specs.declared.duty.Duty.TheVariants as duty
use Rattle.dl_file.specs.declared.file.File.{File}
use Rattle.dl_faults.specs.Shown.{no_place, obligation, word}
use Rattle.dl_verdict.specs.Parts.{head_of, rest_of}

-- parts, and then others
pub parts-then : (old middle new xs ys : List Tree) → middle ≡ old ++ xs → new ≡ middle ++ ys → new ≡ old ++ (xs ++ ys)
parts-then old middle new xs ys e f = f ∙ (ap (λ (parts : List Tree). parts ++ ys) e ∙ append_assoc old xs ys)

-- the same where the last call may fail
pub parts-done : {X E : Type 0} (r : Result X E) (old middle new xs ys whole : List Tree) → xs ++ ys ≡ whole → middle ≡ old ++ xs → OnOk r (new ≡ middle ++ ys) → OnOk r (new ≡ old ++ whole)
parts-done (Ok x) old middle new xs ys whole e f g = parts-then old middle new xs ys f g ∙ ap (λ (parts : List Tree). old ++ parts) e
parts-done (Err error) old middle new xs ys whole e f g = tt

-- an obligation is its first word and the rest
pub obligation_parts : (file : File) (a : Duty) → obligation file a ≡ tree.List (word (head_of a) ∷ rest_of file a) no_place
obligation_parts file (duty.InitProtocol p) = refl
obligation_parts file (duty.InitInvariant i) = refl
obligation_parts file (duty.StepProtocol p tag receive) = refl
obligation_parts file (duty.StepInvariant i label tag receive) = refl
obligation_parts file (duty.Start proc) = refl
obligation_parts file (duty.Guard proc point) = refl
obligation_parts file (duty.AfterSend proc point) = refl
obligation_parts file (duty.Got proc point) = refl
obligation_parts file (duty.Miss proc point) = refl
obligation_parts file (duty.AfterRead proc point) = refl
obligation_parts file (duty.Body proc point) = refl
obligation_parts file (duty.Exit proc point) = refl
obligation_parts file (duty.Enter proc point) = refl
obligation_parts file (duty.Leave proc point) = refl
obligation_parts file (duty.Stable proc point label tag receive) = refl
obligation_parts file (duty.Frame proc point label tag receive) = refl
obligation_parts file (duty.Deploy node) = refl

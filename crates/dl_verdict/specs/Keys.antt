-- Obligations as keys of a table.
use Rattle.std.specs.Prelude.{ℕ, Bool, false, ◌==◌, ◌&&◌, if◌then◌else◌, List, [], ◌∷◌, ◌++◌}
use Rattle.std.specs.List.{list_any}
use Rattle.dl_sequent.specs.declared.duty.Duty.{Duty}
use Rattle.dl_sequent.specs.declared.duty.Duty.TheVariants as duty
use Rattle.dl_inv.specs.Facts.{agree}
use Rattle.dl_file.specs.declared.file.Proof.{Proof}
use Rattle.dl_verdict.specs.declared.keys.Key.{Key}

abbrev pub at_step : ℕ → ℕ → ℕ → ℕ → ℕ → Bool → Key
at_step kind subject point label tag receive = record { kind = kind; subject = subject; point = point; label = label; tag = tag; receive = receive }

abbrev pub at_point : ℕ → ℕ → ℕ → Key
at_point kind subject point = at_step kind subject point 0 0 false

abbrev pub whole : ℕ → ℕ → Key
whole kind subject = at_point kind subject 0

-- the key of an obligation
abbrev pub key_of : Duty → Key
key_of (duty.InitProtocol p) = whole 0 p
key_of (duty.InitInvariant i) = whole 1 i
key_of (duty.StepProtocol p tag receive) = at_step 2 p 0 0 tag receive
key_of (duty.StepInvariant i label tag receive) = at_step 3 i 0 label tag receive
key_of (duty.Start p) = whole 4 p
key_of (duty.Guard p k) = at_point 5 p k
key_of (duty.AfterSend p k) = at_point 6 p k
key_of (duty.Got p k) = at_point 7 p k
key_of (duty.Miss p k) = at_point 8 p k
key_of (duty.AfterRead p k) = at_point 9 p k
key_of (duty.Body p k) = at_point 10 p k
key_of (duty.Exit p k) = at_point 11 p k
key_of (duty.Enter p k) = at_point 12 p k
key_of (duty.Leave p k) = at_point 13 p k
key_of (duty.Stable p k label tag receive) = at_step 14 p k label tag receive
key_of (duty.Frame p k label tag receive) = at_step 15 p k label tag receive
key_of (duty.Deploy n) = whole 16 n

abbrev pub key_of_proof : Proof → Key
key_of_proof proof = key_of proof.duty

abbrev pub same_key : Key → Key → Bool
same_key a b =
    (a.kind == b.kind) && ((a.subject == b.subject) && ((a.point == b.point) && ((a.label == b.label) && ((a.tag == b.tag) && agree a.receive b.receive))))

-- a key that isn't there yet goes last
abbrev pub with_key : List Key → Key → List Key
with_key keys key = if list_any (same_key key) keys then keys else keys ++ key ∷ []

-- these keys, one after another
abbrev pub with_keys : List Key → List Key → List Key
with_keys keys [] = keys
with_keys keys (key ∷ more) = with_keys (with_key keys key) more

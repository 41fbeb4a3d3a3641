-- The schedule leads to one soup and to one end of each node.
use Rattle.std.proofs.Common.{◌≡◌, ℕ, zero, suc, List, sym, ◌∙◌}
use Rattle.dl_model.specs.declared.program.Proc.{Proc}
use Rattle.dl_soup.specs.Seen.{Seen}
use Rattle.dl_nodes.specs.Serial.{Player, Rounds, IsSerial, round_of}

rounds-same : (procs : List Proc) (budget m n : ℕ) (soup : Seen) (players : List Player) (a b : Seen) (p q : List Player) → Rounds procs budget m soup players a p → Rounds procs budget n soup players b q → (a ≡ b) × (p ≡ q)
rounds-same procs budget zero zero soup players a b p q h g = (sym h.1 ∙ g.1, sym h.2 ∙ g.2)
rounds-same procs budget zero (suc n) soup players a b p q h g = cc (h.0, g.0)
rounds-same procs budget (suc m) zero soup players a b p q h g = cc (h.0, g.0)
rounds-same procs budget (suc m) (suc n) soup players a b p q h g =
    rounds-same procs budget m n (round_of procs budget soup players).soup (round_of procs budget soup players).players a b p q h.1 g.1

pub serial-same : (procs : List Proc) (budget : ℕ) (soup : Seen) (players : List Player) (a b : Seen) (p q : List Player) → IsSerial procs budget soup players a p → IsSerial procs budget soup players b q → (a ≡ b) × (p ≡ q)
serial-same procs budget soup players a b p q (m, h) (n, g) = rounds-same procs budget m n soup players a b p q h g

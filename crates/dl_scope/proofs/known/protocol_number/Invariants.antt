use Rattle.std.proofs.Common.{◌≡◌, ℕ, drop, map}
use Rattle.std.specs.Prelude.{position}
use Rattle.std.specs.List.{position_from}
use Rattle.std.specs.Str.{bytes_eq}
use Rattle.dl_forms.specs.Context.{Text}
use Rattle.dl_notation.specs.Environment.{ProtocolNames}
use Rattle.dl_scope.proofs.known.protocol_number.Given as goal

abbrev pub invariant-loop-i : goal.invariant-loop-i
invariant-loop-i l =
    position_from (bytes_eq l.text) l.i (map (λ (p : Text × ProtocolNames). p.0) (drop l.i l.walk.protocols)) ≡ position (bytes_eq l.text) (map (λ (p : Text × ProtocolNames). p.0) l.walk.protocols)

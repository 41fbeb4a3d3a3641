use Rattle.std.proofs.Common.{map, sym}
use Rattle.std.specs.Str.{bytes_eq}
use Rattle.std.proofs.lemmas.Iterator.Adapters.{position_from-zero}
use Rattle.dl_forms.specs.Context.{Text}
use Rattle.dl_notation.specs.Environment.{ProtocolNames}
use Rattle.dl_scope.proofs.known.protocol_number.Goals as goal

pub loop-i-init : goal.loop-i-init
loop-i-init c = sym (position_from-zero (bytes_eq c.args.text.now) (map (λ (p : Text × ProtocolNames). p.0) c.args.walk.now.protocols))

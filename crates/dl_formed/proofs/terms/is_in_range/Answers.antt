use Rattle.std.proofs.Common.{sym}
use Rattle.dl_formed.proofs.Ranges.{in-range}
use Rattle.dl_formed.proofs.terms.is_in_range.Goals as goal

pub returns : goal.returns
returns c = sym (in-range c.args._value c.ranges._value)

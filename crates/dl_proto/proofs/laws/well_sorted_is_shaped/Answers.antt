use Rattle.dl_proto.proofs.FirstShape.{sorted-shaped}
use Rattle.dl_proto.proofs.laws.well_sorted_is_shaped.Goals as goal

pub returns : goal.returns
returns c = sorted-shaped

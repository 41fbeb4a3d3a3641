use Rattle.dl_report.proofs.Written.{on_push}
use Rattle.dl_report.proofs.append.text.Goals as goal

pub returns : goal.returns
returns c = on_push c.extend_from_slice.result c.extend_from_slice.new.self.items c.args.out.now.items c.args.piece.now c.extend_from_slice.ensures.items

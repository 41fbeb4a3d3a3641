use Rattle.std.proofs.Common.{◌≡◌, [], sym, ◌∙◌}
use Rattle.dl_report.specs.Split.{words_left}
use Rattle.dl_report.proofs.Pieces.{over_is}
use Rattle.dl_report.proofs.words.Words.at_end.Goals as goal

pub returns : goal.returns
returns c =
    let view : c.args.self.now ≡ words_left c.self.inside.over c.self.inside.bytes.now = cc in
    let over = over_is c.self.inside.over c.self.inside.bytes.now in
    (λ e. view ∙ over.0 e, λ e. over.1 (sym view ∙ e))

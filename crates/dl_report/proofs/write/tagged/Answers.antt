use Rattle.std.proofs.Common.{[], ◌∷◌}
use Rattle.dl_report.specs.Layout.{tag_word}
use Rattle.dl_report.specs.Spaced.{spaced}
use Rattle.dl_report.proofs.Written.{on_front}
use Rattle.dl_report.proofs.write.tagged.Goals as goal

pub returns : goal.returns
returns c =
    on_front c.tag.result c.tag.new.out.items c.text.new.out.items c.args.out.now.items c.args.front.now (spaced (tag_word c.args.names.now c.args.decls.now c.args.label c.args.at ∷ []))
    c.in_ok-text.ensures c.tag.ensures

use Rattle.std.proofs.Common.{◌≡◌, ap, sym, subst, ◌∙◌}
use Rattle.dl_state.specs.Known.{Known}
use Rattle.dl_state.specs.Shapes.{shape_state}
use Rattle.dl_proto.specs.Shaped.{IsShaped}
use Rattle.dl_proto.proofs.FirstShape.{first-shaped}
use Rattle.dl_proto.proofs.tests.world.Goals as goal

pub returns-clause-shaped : goal.returns-clause-shaped
returns-clause-shaped c =
    subst (IsShaped c.args.inst.now)
    (sym (c.in_ok-reserve.ensures.state ∙ ap (λ (k : Known). k.state) c.in_ok-world.ensures ∙ ap (λ labels. shape_state (record { nodes = 2; labels = labels })) c.in_ok-one.ensures ∙ c.requires.first))
    (first-shaped c.args.inst.now)

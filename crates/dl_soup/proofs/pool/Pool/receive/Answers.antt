use Rattle.std.proofs.Common.{◌≡◌, ◌<◌, ◌≤◌, ◌∙◌, length, ap, sym, subst, arith}
use Rattle.std.proofs.lemmas.Grind.{common_steps}
use Rattle.dl_model.specs.Steps.{after_receive}
use Rattle.dl_state.specs.Known.{Known}
use Rattle.dl_proto.specs.Given.{ReceiveIsGiven}
use Rattle.dl_proto.specs.Shaped.{IsShaped}
use Rattle.dl_proto.proofs.StepLemmas.{label-known}
use Rattle.dl_soup.proofs.RowLemmas.{all-room, room-at, row-received, rows-count}
use Rattle.dl_soup.proofs.pool.Pool.receive.Goals as goal

pub apply_receive-requires-clause-given : goal.apply_receive-requires-clause-given
apply_receive-requires-clause-given c = subst (λ (k : Known). ReceiveIsGiven c.args.inst.now k.state c.args.label c.args.id c.args.node) (sym c.self.view_is) c.requires.given

pub index_mut-row-requires : goal.index_mut-row-requires
index_mut-row-requires c =
    let shaped : IsShaped c.args.inst.now c.self.inside.state.state = subst (λ (k : Known). IsShaped c.args.inst.now k.state) (sym c.self.view_is) c.requires.shaped in
    let known : c.args.label < length c.self.inside.state.state.labels = label-known c.args.inst.now c.self.inside.state.state c.args.label shaped c.requires.given.label in
    let count : length c.self.inside.live.items ≡ length c.self.inside.state.state.labels = rows-count c.self.inside.live.items c.self.inside.state.state c.self.invariant.live in
    grind (arith, common_steps)

pub invariant_of-self : goal.invariant_of-self
invariant_of-self c =
    let within : c.from.result < length c.self.inside.live.items = grind (arith, common_steps) in
    let received : c.apply_receive.new.state.state ≡ after_receive c.args.inst.now c.self.inside.state.state c.args.node c.args.label c.args.id = ap (λ (k : Known). k.state) c.apply_receive.ensures in
    let spare : c.apply_receive.new.state.spare ≡ c.self.inside.state.spare = ap (λ (k : Known). k.spare) c.apply_receive.ensures in
    let had : c.self.inside.state.spare ≤ c.index_mut-row.result.now.spare = room-at c.self.inside.state.spare c.self.inside.live.items c.from.result c.index_mut-row.result.now within c.index_mut-row.ensures.value c.self.invariant.room in
    record {
      live = row-received c.args.inst.now c.self.inside.live.items c.self.inside.state.state c.apply_receive.new.state.state c.args.node c.from.result c.args.label c.args.id
          c.index_mut-row.result.now c.remove.new.self c.self.invariant.live c.from.ensures within c.index_mut-row.ensures.value c.remove.ensures.ids received;
      room = all-room c.self.inside.state.spare c.apply_receive.new.state.spare c.from.result c.self.inside.live.items c.remove.new.self (omega arith) (omega (arith, c.remove.ensures.spare)) c.self.invariant.room;
    }

pub returns : goal.returns
returns c =
    c.apply_receive.ensures
    ∙ ap (λ (k : Known). record { state = after_receive c.args.inst.now k.state c.args.node c.args.label c.args.id; spare = k.spare }) c.self.view_is

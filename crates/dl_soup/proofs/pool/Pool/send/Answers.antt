use Rattle.std.proofs.Common.{◌≡◌, ◌<◌, ◌≤◌, ◌-◌, ◌∙◌, FitsSigned, length, ap, sym, subst, arith, rules}
use Rattle.std.proofs.lemmas.Grind.{common_steps}
use Rattle.std.proofs.lemmas.Int.{to_z-of_z}
use mir.Syntax.{w64}
use Rattle.dl_term.specs.State.{soup_at}
use Rattle.dl_model.specs.Steps.{after_send}
use Rattle.dl_state.specs.Known.{Known}
use Rattle.dl_proto.specs.Shaped.{IsShaped}
use Rattle.dl_proto.proofs.StepLemmas.{label-known}
use Rattle.dl_soup.specs.IdRows.{IdRow}
use Rattle.dl_soup.proofs.RowLemmas.{all-room, room-at, row-sent, rows-count}
use Rattle.dl_soup.proofs.pool.Pool.send.Goals as goal

pub index_mut-row-requires : goal.index_mut-row-requires
index_mut-row-requires c =
    let shaped : IsShaped c.args.inst.now c.self.inside.state.state = subst (λ (k : Known). IsShaped c.args.inst.now k.state) (sym c.self.view_is) c.requires.shaped in
    let known : c.args.label < length c.self.inside.state.state.labels = label-known c.args.inst.now c.self.inside.state.state c.args.label shaped c.requires.given.label in
    let count : length c.self.inside.live.items ≡ length c.self.inside.state.state.labels = rows-count c.self.inside.live.items c.self.inside.state.state c.self.invariant.live in
    grind (arith, common_steps)

pub invariant_of-self : goal.invariant_of-self
invariant_of-self c =
    let fits : FitsSigned w64 c.args.to = search rules in
    let within : c.from.result < length c.self.inside.live.items = grind (arith, common_steps) in
    let spare : c.apply_send-id.new.state.spare ≤ c.self.inside.state.spare = omega arith in
    let had : c.self.inside.state.spare ≤ c.index_mut-row.result.now.spare = room-at c.self.inside.state.spare c.self.inside.live.items c.from.result c.index_mut-row.result.now within c.index_mut-row.ensures.value c.self.invariant.room in
    let less : c.push.new.self.spare ≡ c.index_mut-row.result.now.spare - 1 = ap (λ (r : IdRow). r.spare) c.push.ensures in
    record {
      live = row-sent c.args.inst.now c.self.inside.live.items c.self.inside.state.state c.apply_send-id.new.state.state c.args.from c.from.result c.args.label c.args.tag c.apply_send-id.result c.args.to c.args.args.now
          c.index_mut-row.result.now c.push.new.self c.self.invariant.live c.from.ensures within c.index_mut-row.ensures.value c.apply_send-id.ensures.id (ap (λ (r : IdRow). r.ids) c.push.ensures)
          (simp to_z-of_z at c.apply_send-id.ensures.state);
      room = all-room c.self.inside.state.spare c.apply_send-id.new.state.spare c.from.result c.self.inside.live.items c.push.new.self spare (omega arith) c.self.invariant.room;
    }

pub returns-clause-id : goal.returns-clause-id
returns-clause-id c = c.apply_send-id.ensures.id ∙ ap (λ (k : Known). length (soup_at k.state c.args.label)) c.self.view_is

pub returns-clause-pool : goal.returns-clause-pool
returns-clause-pool c =
    let fits : FitsSigned w64 c.args.to = search rules in
    let spare : c.apply_send-id.new.state.spare ≡ c.self.inside.state.spare - 1 = omega arith in
    let made = simp to_z-of_z at c.apply_send-id.ensures.state in
    (λ i. record { state = made i; spare = spare i })
    ∙ ap (λ (k : Known). record { state = after_send c.args.inst.now k.state c.args.from c.args.label c.args.tag c.args.to c.args.args.now; spare = k.spare - 1 }) c.self.view_is

use Rattle.std.proofs.Common.{◌<◌, ◌∙◌, ap, sym, pos, length, FitsSigned, arith, rules}
use Rattle.std.proofs.lemmas.Int.{to_z-of_z}
use Rattle.std.proofs.lemmas.Grind.{common_steps}
use mir.Syntax.{w64}
use Rattle.dl_term.specs.State.{Statelet}
use Rattle.dl_model.specs.Steps.{set_cell}
use Rattle.dl_state.proofs.SlotLemmas.{slot-is, known-written}
use Rattle.dl_state.proofs.world.WorldState.set.Goals as goal

pub returns : goal.returns
returns c =
    let within : c.from.result < length c.self.inside.labels.items = grind (arith, common_steps) in
    let fits : FitsSigned w64 c.args.value = search rules in
    let is = slot-is c.self.inside c.args.self.now c.from.result c.args.label c.index_mut-slot.result.now c.self.view_is c.from.ensures within c.index_mut-slot.ensures.value in
    known-written c.self.inside c.args.self.now c.from.result c.args.label (record { board = c.set.new.self; messages = c.index_mut-slot.result.now.messages }) _ c.self.view_is c.from.ensures
    (λ i. record {
      fields = (simp to_z-of_z at c.set.ensures ∙ ap (λ (s : Statelet). set_cell s.fields c.args.field c.args.node (pos c.args.index) c.args.value) (sym is)) i;
      soup = ap (λ (s : Statelet). s.soup) (sym is) i;
    })

use Rattle.std.proofs.Common.{◌<◌, ◌++◌, ◌∷◌, [], ◌∙◌, ap, sym, length, arith}
use Rattle.std.proofs.lemmas.Grind.{common_steps}
use Rattle.dl_term.specs.State.{Statelet}
use Rattle.dl_state.specs.Soup.{Soup}
use Rattle.dl_state.proofs.SlotLemmas.{slot-is, slot-written}
use Rattle.dl_state.proofs.world.WorldState.append.Goals as goal

pub returns-clause-state : goal.returns-clause-state
returns-clause-state c =
    let within : c.from.result < length c.self.inside.labels.items = grind (arith, common_steps) in
    let is = slot-is c.self.inside c.args.self.now c.from.result c.args.label c.index_mut-slot.result.now c.self.view_is c.from.ensures within c.index_mut-slot.ensures.value in
    slot-written c.self.inside c.args.self.now c.from.result c.args.label (record { board = c.index_mut-slot.result.now.board; messages = c.push.new.self }) _ c.self.view_is c.from.ensures
    (λ i. record {
      fields = ap (λ (s : Statelet). s.fields) (sym is) i;
      soup = (ap (λ (s : Soup). s.messages) c.push.ensures ∙ ap (λ (s : Statelet). s.soup ++ c.args.message ∷ []) (sym is)) i;
    })

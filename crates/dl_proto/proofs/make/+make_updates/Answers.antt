use Rattle.std.proofs.Common.{◌≡◌, ◌<◌, ◌-◌, length, take, drop, sym, ◌∙◌, subst, FitsSigned, rules}
use Rattle.std.proofs.lemmas.Int.{to_z-of_z}
use Rattle.std.proofs.lemmas.List.{nil_from_length}
use Rattle.std.proofs.lemmas.List.Elements.{All-take, All-drop}
use Rattle.std.proofs.Common.{arith}
use mir.Syntax.{w64}
use Rattle.dl_term.specs.State.{statelet}
use Rattle.dl_term.specs.Names.{names_of}
use Rattle.dl_model.specs.Lookup.{protocol_at}
use Rattle.dl_state.specs.Known.{Known}
use Rattle.dl_state.specs.Places.{HasPlace}
use Rattle.dl_proto.specs.Ready.{UpdateIsReady}
use Rattle.dl_proto.proofs.UpdateLemmas.{first-rest, distinct-rest, nothing-made, labels-after, known-one, write-place}
use Rattle.dl_proto.proofs.make.+make_updates.Goals as goal

pub returns-in_default : goal.returns-in_default
returns-in_default t c =
    let none : length c.args.updates.now ≡ 0 = omega arith in
    λ i. record {
      state = nothing-made c.args.inst.now c.args.state.now.state c.args.label c.args.node (names_of c.args.env.now) c.args.updates.now (nil_from_length c.args.updates.now none) i;
      spare = c.args.state.now.spare;
    }

pub make_updates-requires : goal.make_updates-requires
make_updates-requires t c = (
  search rules,
  (
    All-take (UpdateIsReady (protocol_at c.args.inst.now c.args.label)) (length c.args.updates.now - 1) (drop 1 c.args.updates.now)
        (All-drop (UpdateIsReady (protocol_at c.args.inst.now c.args.label)) 1 c.args.updates.now c.requires.ready),
    (
      (distinct-rest c.args.updates.now c.first-item.result _ (first-rest c.args.updates.now c.first-item.result c.in-len1-up.len_at_least c.first-item.is) c.requires.once).1,
      (c.requires.shaped, (c.requires.label, c.requires.node)),
    ),
  ),
)

pub set-requires-clause-label : goal.set-requires-clause-label
set-requires-clause-label t c =
    subst (λ (k : Known). c.args.label < length k.state.labels) (sym c.make_updates.ensures)
    (labels-after c.args.inst.now c.args.state.now.state c.args.label c.args.node (names_of c.args.env.now) (take (length c.args.updates.now - 1) (drop 1 c.args.updates.now)) c.requires.shaped c.requires.label)

pub set-requires-clause-place : goal.set-requires-clause-place
set-requires-clause-place t c =
    let ready : UpdateIsReady (protocol_at c.args.inst.now c.args.label) c.first-item.result =
    subst (UpdateIsReady (protocol_at c.args.inst.now c.args.label)) (sym c.first-item.is) (c.requires.ready 0 c.first-item.result c.in-len1-up.len_at_least) in
    subst (λ (k : Known). HasPlace (statelet k.state c.args.label).fields c.first-item.result.field c.args.node c.in-Some.write.index) (sym c.make_updates.ensures)
    (write-place c.args.inst.now c.args.state.now.state c.args.label c.args.node (names_of c.args.env.now) c.first-item.result (take (length c.args.updates.now - 1) (drop 1 c.args.updates.now)) c.in-Some.write.index c.in-Some.write.number
    c.requires.shaped c.requires.label c.requires.node ready c.in-Some.ensures)

pub returns : goal.returns
returns t c =
    let fits : FitsSigned w64 c.in-Some.write.number = search rules in
    c.set.ensures
    ∙ known-one c.args.inst.now c.args.state.now c.make_updates.new.state c.args.label c.args.node (names_of c.args.env.now) c.args.updates.now c.first-item.result (take (length c.args.updates.now - 1) (drop 1 c.args.updates.now))
    c.in-Some.write.index c.in-Some.write.number _ c.requires.shaped c.requires.label
    (first-rest c.args.updates.now c.first-item.result c.in-len1-up.len_at_least c.first-item.is) c.requires.once c.in-Some.ensures (to_z-of_z w64 c.in-Some.write.number fits) c.make_updates.ensures

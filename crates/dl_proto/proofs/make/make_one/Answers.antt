use Rattle.std.proofs.Common.{◌∷◌, [], refl, sym, ◌∙◌, subst, FitsSigned, rules}
use Rattle.std.proofs.lemmas.Int.{to_z-of_z}
use mir.Syntax.{w64}
use Rattle.dl_term.specs.State.{statelet}
use Rattle.dl_term.specs.Names.{names_of}
use Rattle.dl_state.specs.Known.{Known}
use Rattle.dl_state.specs.Places.{HasPlace}
use Rattle.dl_proto.proofs.UpdateLemmas.{known-one, known-none, write-place}
use Rattle.dl_proto.proofs.StepLemmas.{label-known, none-yet}
use Rattle.dl_proto.proofs.make.make_one.Goals as goal

pub returns-in_default : goal.returns-in_default
returns-in_default c =
    known-none c.args.inst.now c.args.state.now c.args.state.now c.args.label c.args.node (names_of c.args.env.now) (c.args.update.now ∷ []) c.args.update.now [] refl c.in_default.ensures
    (none-yet c.args.inst.now c.args.state.now c.args.label c.args.node (names_of c.args.env.now))

pub set-requires-clause-label : goal.set-requires-clause-label
set-requires-clause-label c = label-known c.args.inst.now c.args.state.now.state c.args.label c.requires.shaped c.requires.label

pub set-requires-clause-place : goal.set-requires-clause-place
set-requires-clause-place c =
    subst (λ (k : Known). HasPlace (statelet k.state c.args.label).fields c.args.update.now.field c.args.node c.in-Some.write.index)
    (sym (none-yet c.args.inst.now c.args.state.now c.args.label c.args.node (names_of c.args.env.now)))
    (write-place c.args.inst.now c.args.state.now.state c.args.label c.args.node (names_of c.args.env.now) c.args.update.now [] c.in-Some.write.index c.in-Some.write.number
    c.requires.shaped c.requires.label c.requires.node c.requires.ready c.in-Some.ensures)

pub returns : goal.returns
returns c =
    let fits : FitsSigned w64 c.in-Some.write.number = search rules in
    c.set.ensures
    ∙ known-one c.args.inst.now c.args.state.now c.args.state.now c.args.label c.args.node (names_of c.args.env.now) (c.args.update.now ∷ []) c.args.update.now []
    c.in-Some.write.index c.in-Some.write.number _ c.requires.shaped c.requires.label refl (refl, tt) c.in-Some.ensures (to_z-of_z w64 c.in-Some.write.number fits)
    (none-yet c.args.inst.now c.args.state.now c.args.label c.args.node (names_of c.args.env.now))

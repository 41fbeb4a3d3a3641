use Rattle.std.proofs.Common.{◌≡◌, ◌++◌, List, true, false, sym, ◌∙◌, ap}
use Rattle.std.proofs.lemmas.List.{append-nil}
use Rattle.std.specs.Prelude.{Option}
use Rattle.dl_term.specs.declared.syntax.Lab.TheVariants.{At}
use Rattle.dl_model.specs.declared.protocol.Transition.{Transition}
use Rattle.dl_sequent.specs.declared.duty.Duty.{Duty}
use Rattle.dl_duties.specs.Moves.{kept_duty}
use Rattle.dl_triples.specs.Duties.{receive_of_another, steps_of_another}
use Rattle.dl_inv.proofs.Listing.{joined, where-done}
use Rattle.dl_duties.proofs.Listing.{moved, moved-same}
use Rattle.dl_duties.proofs.listed.add_of_tag.Goals as goal

pub returns-in_default : goal.returns-in_default
returns-in_default c =
    let f = c.args.formula.now in
    let label = At c.args.label in
    let duty = kept_duty c.args.kept c.args.label c.args.tag in
    let sent : List Duty = moved true label c.args.tag c.args.declared.now.send.updates f (duty false) in
    let same = moved-same true label c.args.tag c.as_slice.result.now c.args.declared.now.send.updates f c.duty.result (duty false) c.as_slice.ensures c.duty.ensures in
    let first : c.add_if_touched.new.list ≡ c.args.list.now ++ sent = c.in_ok-add_if_touched.ensures ∙ ap (λ xs. c.args.list.now ++ xs) same in
    let none = ap (λ (o : Option Transition). receive_of_another (duty true) label c.args.tag f o) c.in_default.is in
    joined c.args.list.now sent (receive_of_another (duty true) label c.args.tag f c.args.declared.now.receive) c.add_if_touched.new.list c.add_if_touched.new.list first
    (sym (append-nil c.add_if_touched.new.list) ∙ ap (λ xs. c.add_if_touched.new.list ++ xs) (sym none))

pub returns : goal.returns
returns c =
    let f = c.args.formula.now in
    let label = At c.args.label in
    let duty = kept_duty c.args.kept c.args.label c.args.tag in
    let sent : List Duty = moved true label c.args.tag c.args.declared.now.send.updates f (duty false) in
    let same = moved-same true label c.args.tag c.as_slice.result.now c.args.declared.now.send.updates f c.duty.result (duty false) c.as_slice.ensures c.duty.ensures in
    let first : c.add_if_touched.new.list ≡ c.args.list.now ++ sent = c.in_ok-add_if_touched.ensures ∙ ap (λ xs. c.args.list.now ++ xs) same in
    let received : List Duty = moved false label c.args.tag c.as_slice-2.result.now f c.duty-2.result in
    let here = moved-same false label c.args.tag c.as_slice-2.result.now c.in-Some.transition.updates f c.duty-2.result (duty true) c.as_slice-2.ensures c.duty-2.ensures in
    let some = ap (λ (o : Option Transition). receive_of_another (duty true) label c.args.tag f o) c.in-Some.is in
    where-done c.add_if_touched-2.result (c.add_if_touched-2.new.list ≡ c.add_if_touched.new.list ++ received)
    (c.add_if_touched-2.new.list ≡ c.args.list.now ++ steps_of_another duty label c.args.tag f c.args.declared.now) c.add_if_touched-2.ensures
    (λ e. joined c.args.list.now sent (receive_of_another (duty true) label c.args.tag f c.args.declared.now.receive) c.add_if_touched.new.list c.add_if_touched-2.new.list first
    (e ∙ ap (λ xs. c.add_if_touched.new.list ++ xs) (here ∙ sym some)))

use Rattle.std.proofs.Common.{rules, ◌≡◌, ◌∷◌, []}
use Rattle.std.specs.Prelude.{codes}
use Rattle.dl_notation.specs.Values.{form_value, value}
use Rattle.dl_rules.specs.Bounds.{values_of}
use Rattle.dl_rules.proofs.SliceLemmas.{four}
use Rattle.dl_rules.proofs.ValueLemmas.{choice_values, if_value}
use Rattle.dl_rules.proofs.values.+value.Goals as goal

pub list_value-returns-in_ok-no-in-len4 : goal.list_value-returns-in_ok-no-in-len4
list_value-returns-in_ok-no-in-len4 t c =
    let a = c.left-item-then-parts-lt5.result in let b = c.right-item-then-parts-lt5.result in let x = c.yes-item.result in let y = c.no-item.result in
    let whole : c.args.parts.now ≡ a ∷ b ∷ x ∷ y ∷ [] =
    four c.args.parts.now a b x y c.in-len4.len_at_least c.in-len4.len_below c.left-item-then-parts-lt5.is c.right-item-then-parts-lt5.is c.yes-item.is c.no-item.is in
    let words = (codes "me", c.args.me) ∷ c.args.words.now.entries in
    let el : c.in_ok-left-in-len4.left ≡ value a words = search rules in
    let er : c.in_ok-right-in-len4.right ≡ value b words = search rules in
    let eu : c.in_ok-yes-in-len4.yes ≡ value x words = search rules in
    let ev : c.in_ok-no-in-len4.no ≡ value y words = search rules in
    let same = choice_values c.args.word.now words c.args.parts.now a b x y
    c.in_ok-left-in-len4.left c.in_ok-right-in-len4.right c.in_ok-yes-in-len4.yes c.in_ok-no-in-len4.no whole el er eu ev in
    if_value c.choice_value.result (form_value c.args.word.now (c.in_ok-left-in-len4.left ∷ c.in_ok-right-in-len4.right ∷ c.in_ok-yes-in-len4.yes ∷ c.in_ok-no-in-len4.no ∷ []))
    (form_value c.args.word.now (values_of words c.args.parts.now)) c.choice_value.ensures same (search rules)

use Rattle.std.proofs.Common.{rules, arith, ◌≡◌, ℕ, length, take, sym, subst}
use Rattle.std.specs.Prelude.{None, slice_get}
use Rattle.dl_means.proofs.TextLemmas.{none-there, one-more, same-whole}
use Rattle.dl_means.proofs.told.has_texts.Goals as goal

pub loop-at-preserved : goal.loop-at-preserved
loop-at-preserved c =
    one-more c.args.names.now.texts c.args.texts.now c.loop-at.at c.index-texts-at.result c.loop-at.invariant (c.has_text.ensures c.if-not-has_text.false) c.loop-at-test.true (sym c.index-texts-at.is)

pub returns : goal.returns
returns c = λ h.
    let known = c.args.names.now.texts in
    let texts = c.args.texts.now in
    let all : c.loop-at.at ≡ length texts = omega arith in
    let count : c.in-Ok.count ≡ length texts = search rules in
    let none : slice_get known c.in-Ok.count ≡ None = none-there c.text.result c.is_none.result (slice_get known c.in-Ok.count) c.is_none.ensures h c.text.ensures in
    same-whole known texts (subst (λ (n : ℕ). take n known ≡ take n texts) all c.loop-at.invariant) (subst (λ (n : ℕ). slice_get known n ≡ None) count none)

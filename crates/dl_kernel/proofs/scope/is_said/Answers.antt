use Rattle.std.proofs.Common.{◌≡◌, Bool, true, false, ◌||◌, ◌∙◌, ap}
use Rattle.std.specs.List.{list_any}
use Rattle.dl_model.specs.declared.sequent.Hypothesis.{Hypothesis}
use Rattle.dl_sequent.specs.Clean.{mentions}
use Rattle.dl_kernel.proofs.scope.is_said.Goals as goal

either-first : (r a b : Bool) → r ≡ a → r ≡ true → r ≡ (a || b)
either-first r true b e h = e
either-first r false b e h = absurd (cc)

either-last : (r a b m : Bool) → r ≡ a → r ≡ false → m ≡ b → m ≡ (a || b)
either-last r true b m e h g = absurd (cc)
either-last r false b m e h g = g

pub returns-then-some_fact_mentions : goal.returns-then-some_fact_mentions
returns-then-some_fact_mentions c =
    either-first c.some_fact_mentions.result _ (mentions c.args.sequent.now.goal c.args.name)
    (c.some_fact_mentions.ensures ∙ ap (list_any (λ (h : Hypothesis). mentions h.formula c.args.name)) c.as_slice.ensures) c.if-some_fact_mentions.true

pub returns-else-some_fact_mentions : goal.returns-else-some_fact_mentions
returns-else-some_fact_mentions c =
    either-last c.some_fact_mentions.result _ (mentions c.args.sequent.now.goal c.args.name) c.is_mentioned.result
    (c.some_fact_mentions.ensures ∙ ap (list_any (λ (h : Hypothesis). mentions h.formula c.args.name)) c.as_slice.ensures) c.if-some_fact_mentions.false c.is_mentioned.ensures

-- A term that is made for a read has the terms of its node and its index as parts, unless these are those of the step.
use Rattle.std.proofs.Common.{◌≡◌, ◌<◌, ◌≤◌, ◌+◌, ℕ, zero, suc, ℤ, pos, Bool, true, false, Option, Some, None, refl, ap, sym, subst, arith}
use Rattle.dl_term.specs.declared.syntax.Lab.{Lab}
use Rattle.dl_term.specs.declared.syntax.Term.{Term, Num, Word, Var, Field, Row, If}
use Rattle.dl_term.specs.Syntax.{opened}
use Rattle.dl_term.specs.Measures.{parts}
use Rattle.dl_term.specs.Same.{same_term}
use Rattle.dl_term.proofs.SameLemmas.{term-is}
use Rattle.std.specs.Prelude.{if◌then◌else◌}
use Rattle.dl_model.specs.declared.protocol.Update.{Update}
use Rattle.dl_wp.specs.Choices.{constant, differ, pick}
use Rattle.dl_wp.specs.Steps.{Step, seen, seen_index}
use Rattle.dl_wp.specs.Before.{update_at, field_before, row_before, read_before, row_read_before}
use Rattle.dl_wp.specs.Code.{index_in}
use Rattle.dl_wp.specs.First.{first_at, is_node_term, chain, at_node, value_first, read_first}

chosen-grows : (same apart : Bool) (a b x y : Term) (n : ℕ) → (same ≡ true → n ≤ parts x) → n ≤ parts y → n ≤ parts a → n ≤ parts (if same then x else if apart then y else If a b x y)
unfolding opened
chosen-grows true apart a b x y n h k e = h refl
chosen-grows false true a b x y n h k e = k
chosen-grows false false a b x y n h k e = omega (e, arith)

-- where the first term is too large to be the second one, it is a part of the choice
pub pick-grows : (a b x y : Term) → parts b < parts a → parts a ≤ parts y → parts a ≤ parts (pick a b x y)
pick-grows a b x y large k = chosen-grows (same_term a b) (differ (constant a) (constant b)) a b x y (parts a)
    (λ same. let one = ap parts (term-is a b same) in absurd (omega (one, large, arith))) k (omega arith)

-- what is a part of both outcomes is one of the choice
chosen-has : (same apart : Bool) (a b x y : Term) (n : ℕ) → n ≤ parts x → n ≤ parts y → n ≤ parts (if same then x else if apart then y else If a b x y)
unfolding opened
chosen-has true apart a b x y n h k = h
chosen-has false true a b x y n h k = k
chosen-has false false a b x y n h k = omega (h, arith)

pub pick-has : (a b x y : Term) (n : ℕ) → n ≤ parts x → n ≤ parts y → n ≤ parts (pick a b x y)
pick-has a b x y n h k = chosen-has (same_term a b) (differ (constant a) (constant b)) a b x y n h k

field-old : (label : Lab) (field : ℕ) (node : Term) → parts node ≤ parts (Field label field node)
unfolding opened
field-old label field node = omega arith

row-old : (label : Lab) (field : ℕ) (node index : Term) → parts node ≤ parts (Row label field node index)
unfolding opened
row-old label field node index = omega arith

row-old-index : (label : Lab) (field : ℕ) (node index : Term) → parts index ≤ parts (Row label field node index)
unfolding opened
row-old-index label field node index = omega arith

field-one : (step : Step) (u : Option Update) (node old : Term) → parts step.node < parts node → parts node ≤ parts old → parts node ≤ parts (field_before step u node old)
field-one step None node old large k = k
field-one step (Some u) node old large k = pick-grows node step.node (seen step u.value) old large k

pub field_grows : (step : Step) (label : Lab) (field : ℕ) (node : Term) → parts step.node < parts node → parts node ≤ parts (read_before step label field node)
field_grows step label field node large = field-one step (update_at step label field) node (Field label field node) large (field-old label field node)

row-one : (step : Step) (u : Option Update) (node index old : Term) → parts step.node < parts node → parts node ≤ parts old → parts node ≤ parts (row_before step u node index old)
row-one step None node index old large k = k
row-one step (Some u) node index old large k = pick-grows node step.node (pick index (seen_index step u.index) (seen step u.value) old) old large k

pub row_grows : (step : Step) (label : Lab) (field : ℕ) (node index : Term) → parts step.node < parts node → parts node ≤ parts (row_read_before step label field node index)
row_grows step label field node index large = row-one step (update_at step label field) node index (Row label field node index) large (row-old label field node index)

row-index-one : (step : Step) (u : Option Update) (node index old : Term) → parts (index_in step u) < parts index → parts index ≤ parts old → parts index ≤ parts (row_before step u node index old)
row-index-one step None node index old large k = k
row-index-one step (Some u) node index old large k =
    pick-has node step.node (pick index (seen_index step u.index) (seen step u.value) old) old (parts index)
    (pick-grows index (seen_index step u.index) (seen step u.value) old large k) k

pub row_index_grows : (step : Step) (label : Lab) (field : ℕ) (node index : Term) → parts (index_in step (update_at step label field)) < parts index → parts index ≤ parts (row_read_before step label field node index)
row_index_grows step label field node index large = row-index-one step (update_at step label field) node index (Row label field node index) large (row-old-index label field node index)

-- ---- the first state

large-term : (nodes : ℕ) (t : Term) → 1 < parts t → is_node_term nodes t ≡ false
large-term nodes (Num v) large = absurd (omega (large, arith))
large-term nodes (Word x v) large = absurd (omega (large, arith))
large-term nodes (Var x) large = absurd (omega (large, arith))
large-term nodes _ large = refl

chain-has : (t : Term) (at : ℕ → Term) (n count : ℕ) → 1 ≤ count → (parts t ≤ parts (chain t at n count)) × (parts (at n) ≤ parts (chain t at n count))
unfolding opened
chain-has t at n zero some = absurd (omega (some, arith))
chain-has t at n (suc count) some = (omega arith, omega arith)

-- a term that is no node stands in the chain of nodes
at-stays : (nodes : ℕ) (t : Term) (at : Term → Term) (b : Bool) → is_node_term nodes t ≡ b → 1 ≤ nodes → 1 < parts t → parts t ≤ parts (at_node nodes t at)
at-stays nodes t at b e some large =
    subst (λ test. parts t ≤ parts (if test then at t else chain t (λ n. at (Num (pos n))) 0 nodes)) (sym (large-term nodes t large)) (chain-has t (λ n. at (Num (pos n))) 0 nodes some).0

pub node_stays : (nodes : ℕ) (first node : Term) (index : Option Term) → 1 ≤ nodes → 1 < parts node → parts node ≤ parts (read_first nodes first index node)
node_stays nodes first node index some large = at-stays nodes node (value_first nodes first index) _ refl some large

-- what has so many parts at each node has them at this one
at-has : (nodes : ℕ) (t : Term) (at : Term → Term) (n : ℕ) (b : Bool) → 1 ≤ nodes → ((u : Term) → n ≤ parts (at u)) → n ≤ parts (if b then at t else chain t (λ n. at (Num (pos n))) 0 nodes)
at-has nodes t at n true some h = h t
at-has nodes t at n false some h = let one = h (Num (pos 0)) in let rest = (chain-has t (λ n. at (Num (pos n))) 0 nodes some).1 in omega (one, rest, arith)

pub index_stays : (nodes : ℕ) (first node index : Term) → 1 ≤ nodes → 1 < parts index → parts index ≤ parts (read_first nodes first (Some index) node)
index_stays nodes first node index some large =
    at-has nodes node (value_first nodes first (Some index)) (parts index) (is_node_term nodes node) some
    (λ u. at-stays nodes index (λ i. first_at first u) _ refl some large)

-- A formula with terms for variables, and what a block asks for where some way through it comes to no point, is no smaller than
-- what it is made from.
use Rattle.std.proofs.Common.{◌≡◌, ◌≤◌, ◌<◌, ◌+◌, ℕ, Bool, true, false, ◌&&◌, ◌||◌, if◌then◌else◌, ◌==◌, List, [], ◌∷◌, max, refl, sym, ◌∙◌, ap, arith, Option, Some, None}
use Rattle.std.proofs.lemmas.Bool.{ltb-true, lt-ltb}
use Rattle.std.specs.Prelude.{nat_lt, unwrap_or, pos}
use Rattle.std.specs.List.{list_all, list_any}
use Rattle.dl_term.specs.Syntax.{opened}
use Rattle.dl_term.specs.declared.syntax.Lab.{Lab}
use Rattle.dl_term.specs.declared.syntax.Lab.TheVariants.{Own}
use Rattle.dl_term.specs.declared.syntax.Term.{Term, Num, Word, Var, Field', Row', Len, Msg, Add', Sub', Mul', If', more_of-Term as one, end_of-Term as end}
use Rattle.dl_term.specs.declared.syntax.Formula.{Formula, True, False, Eq, Lt, Le, Not, Not', And, And', Or', Implies, Implies', All', Exists', Each', Any', more_of-Formula as one_formula, end_of-Formula as end_formula}
use Rattle.dl_term.specs.Measures.{parts, formula_parts, nesting, formula_nesting, is_oversized}
use Rattle.dl_model.specs.declared.program.Command.{Command, Send, Await, Poll, Read, Set, If' as IfShape, While', Call}
use Rattle.dl_model.specs.Block.{Block, Done, Sends, Awaits, Polls, Reads, Sets, Ifs, Whiles, Calls, row_block}
use Rattle.dl_subst.specs.Change.{Change, inside, changed_term, changed}
use Rattle.dl_subst.specs.Substitution.{put_for_variable, for_variable, substituted, term_for, put_for_variables, for_variables, terms_put}
use Rattle.dl_triples.specs.Points.{pre_of}
use Rattle.dl_points.specs.Passing.{block_passes, command_passes, pre_of_command, pre_of_commands}

-- ---- terms and formulas that are no larger

abbrev pub TermFits : Term → Term → Type 0
TermFits t u = (parts t ≤ parts u) × (nesting t ≤ nesting u)

abbrev pub Fits : Formula → Formula → Type 0
Fits f g = (formula_parts f ≤ formula_parts g) × (formula_nesting f ≤ formula_nesting g)

pub fits-then : (f g h : Formula) → Fits f g → Fits g h → Fits f h
fits-then f g h a b = (omega (a.0, b.0, arith), omega (a.1, b.1, arith))

over-one : (a b many deep deeper : Bool) → (a ≡ true → many ≡ true) → (b ≡ true → deep ≡ true) → (a || b) ≡ true → (many || deep) ≡ true
over-one true b many deep deeper h k e = ap (λ x. x || deep) (h refl)
over-one false true true deep deeper h k e = refl
over-one false true false deep deeper h k e = k refl
over-one false false many deep deeper h k e = cc

pub larger-too : (f g : Formula) → Fits f g → is_oversized f ≡ true → is_oversized g ≡ true
larger-too f g fits e =
    over-one (nat_lt 1000000 (formula_parts f)) (nat_lt 4000 (formula_nesting f)) (nat_lt 1000000 (formula_parts g)) (nat_lt 4000 (formula_nesting g)) true
    (λ h. lt-ltb 1000000 (formula_parts g) (let k = ltb-true 1000000 (formula_parts f) h in omega (k, fits.0, arith)))
    (λ h. lt-ltb 4000 (formula_nesting g) (let k = ltb-true 4000 (formula_nesting f) h in omega (k, fits.1, arith))) e

-- a term has a part, and nests
term-some : (t : Term) → (1 ≤ parts t) × (1 ≤ nesting t)
unfolding opened
term-some (Num v) = (omega arith, omega arith)
term-some (Word x v) = (omega arith, omega arith)
term-some (Var x) = (omega arith, omega arith)
term-some (Field' label field _ (one node end)) = (omega arith, omega arith)
term-some (Row' label field _ (one node end) _ (one index end)) = (omega arith, omega arith)
term-some (Len label) = (omega arith, omega arith)
term-some (Msg m part) = (omega arith, omega arith)
term-some (Add' _ (one a end) _ (one b end)) = (omega arith, omega arith)
term-some (Sub' _ (one a end) _ (one b end)) = (omega arith, omega arith)
term-some (Mul' _ (one a end) _ (one b end)) = (omega arith, omega arith)
term-some (If' _ (one a end) _ (one b end) _ (one x end) _ (one y end)) = (omega arith, omega arith)

-- ---- a change that puts no smaller terms

module _ (c : Change) (grows : (t u : Term) → c.put t ≡ Some u → TermFits t u) where
  put-fits : (t within : Term) (o : Option Term) → c.put t ≡ o → TermFits t within → TermFits t (unwrap_or o within)
  put-fits t within (Some u) e h = grows t u e
  put-fits t within None e h = h

  inside-fits : (t : Term) → TermFits t (inside c t)
  unfolding opened
  inside-fits (Num v) = (omega (arith), omega (arith))
  inside-fits (Word x v) = (omega (arith), omega (arith))
  inside-fits (Var x) = (omega (arith), omega (arith))
  inside-fits (Field' label field _ (one node end)) = let e0 = put-fits node (inside c node) (c.put node) refl (inside-fits node) in (omega (e0.0, arith), omega (e0.1, arith))
  inside-fits (Row' label field _ (one node end) _ (one index end)) = let e0 = put-fits node (inside c node) (c.put node) refl (inside-fits node) in let e1 = put-fits index (inside c index) (c.put index) refl (inside-fits index) in (omega (e0.0, e1.0, arith), omega (e0.1, e1.1, arith))
  inside-fits (Len label) = (omega (arith), omega (arith))
  inside-fits (Msg m part) = (omega (arith), omega (arith))
  inside-fits (Add' _ (one a end) _ (one b end)) = let e0 = put-fits a (inside c a) (c.put a) refl (inside-fits a) in let e1 = put-fits b (inside c b) (c.put b) refl (inside-fits b) in (omega (e0.0, e1.0, arith), omega (e0.1, e1.1, arith))
  inside-fits (Sub' _ (one a end) _ (one b end)) = let e0 = put-fits a (inside c a) (c.put a) refl (inside-fits a) in let e1 = put-fits b (inside c b) (c.put b) refl (inside-fits b) in (omega (e0.0, e1.0, arith), omega (e0.1, e1.1, arith))
  inside-fits (Mul' _ (one a end) _ (one b end)) = let e0 = put-fits a (inside c a) (c.put a) refl (inside-fits a) in let e1 = put-fits b (inside c b) (c.put b) refl (inside-fits b) in (omega (e0.0, e1.0, arith), omega (e0.1, e1.1, arith))
  inside-fits (If' _ (one a end) _ (one b end) _ (one x end) _ (one y end)) = let e0 = put-fits a (inside c a) (c.put a) refl (inside-fits a) in let e1 = put-fits b (inside c b) (c.put b) refl (inside-fits b) in let e2 = put-fits x (inside c x) (c.put x) refl (inside-fits x) in let e3 = put-fits y (inside c y) (c.put y) refl (inside-fits y) in (omega (e0.0, e1.0, e2.0, e3.0, arith), omega (e0.1, e1.1, e2.1, e3.1, arith))

  term-fits : (t : Term) → TermFits t (changed_term c t)
  term-fits t = put-fits t (inside c t) (c.put t) refl (inside-fits t)

  stops-fits : (b : Bool) (f g : Formula) → Fits f g → Fits f (if b then f else g)
  stops-fits true f g h = (omega arith, omega arith)
  stops-fits false f g h = h

  pub formula-fits : (f : Formula) → Fits f (changed c f)
  unfolding opened
  formula-fits True = (omega (arith), omega (arith))
  formula-fits False = (omega (arith), omega (arith))
  formula-fits (Eq a b) = let e0 = term-fits a in let e1 = term-fits b in (omega (e0.0, e1.0, arith), omega (e0.1, e1.1, arith))
  formula-fits (Lt a b) = let e0 = term-fits a in let e1 = term-fits b in (omega (e0.0, e1.0, arith), omega (e0.1, e1.1, arith))
  formula-fits (Le a b) = let e0 = term-fits a in let e1 = term-fits b in (omega (e0.0, e1.0, arith), omega (e0.1, e1.1, arith))
  formula-fits (Not' _ (one_formula f end_formula)) = let e0 = formula-fits f in (omega (e0.0, arith), omega (e0.1, arith))
  formula-fits (And' _ (one_formula f end_formula) _ (one_formula g end_formula)) = let e0 = formula-fits f in let e1 = formula-fits g in (omega (e0.0, e1.0, arith), omega (e0.1, e1.1, arith))
  formula-fits (Or' _ (one_formula f end_formula) _ (one_formula g end_formula)) = let e0 = formula-fits f in let e1 = formula-fits g in (omega (e0.0, e1.0, arith), omega (e0.1, e1.1, arith))
  formula-fits (Implies' _ (one_formula f end_formula) _ (one_formula g end_formula)) = let e0 = formula-fits f in let e1 = formula-fits g in (omega (e0.0, e1.0, arith), omega (e0.1, e1.1, arith))
  formula-fits (All' x _ (one_formula f end_formula)) = let e0 = stops-fits (c.stops_at_variable x) f (changed c f) (formula-fits f) in (omega (e0.0, arith), omega (e0.1, arith))
  formula-fits (Exists' x _ (one_formula f end_formula)) = let e0 = stops-fits (c.stops_at_variable x) f (changed c f) (formula-fits f) in (omega (e0.0, arith), omega (e0.1, arith))
  formula-fits (Each' m label tag _ (one_formula f end_formula)) = let e0 = stops-fits (c.stops_at_message m) f (changed c f) (formula-fits f) in (omega (e0.0, arith), omega (e0.1, arith))
  formula-fits (Any' m label tag _ (one_formula f end_formula)) = let e0 = stops-fits (c.stops_at_message m) f (changed c f) (formula-fits f) in (omega (e0.0, arith), omega (e0.1, arith))

-- ---- a term for a variable, and terms for several ones

var-fits : (x : ℕ) (u : Term) → TermFits (Var x) u
var-fits x u = let e = term-some u in (omega (e.0, arith), omega (e.1, arith))

put-one : (x : ℕ) (new t u : Term) → put_for_variable x new t ≡ Some u → TermFits t u
unfolding opened
put-one x new (Num v) u e = absurd (cc e)
put-one x new (Word y v) u e = absurd (cc e)
put-one x new (Var y) u e = var-fits y u
put-one x new (Field' label field _ (one node end)) u e = absurd (cc e)
put-one x new (Row' label field _ (one node end) _ (one index end)) u e = absurd (cc e)
put-one x new (Len label) u e = absurd (cc e)
put-one x new (Msg m part) u e = absurd (cc e)
put-one x new (Add' _ (one a end) _ (one b end)) u e = absurd (cc e)
put-one x new (Sub' _ (one a end) _ (one b end)) u e = absurd (cc e)
put-one x new (Mul' _ (one a end) _ (one b end)) u e = absurd (cc e)
put-one x new (If' _ (one a end) _ (one b end) _ (one w end) _ (one y end)) u e = absurd (cc e)

pub substituted-fits : (f : Formula) (x : ℕ) (new : Term) → Fits f (substituted f x new)
substituted-fits f x new = formula-fits (for_variable x new) (put-one x new) f

put-several : (xs : List ℕ) (terms : List Term) (t u : Term) → put_for_variables xs terms t ≡ Some u → TermFits t u
unfolding opened
put-several xs terms (Num v) u e = absurd (cc e)
put-several xs terms (Word y v) u e = absurd (cc e)
put-several xs terms (Var y) u e = var-fits y u
put-several xs terms (Field' label field _ (one node end)) u e = absurd (cc e)
put-several xs terms (Row' label field _ (one node end) _ (one index end)) u e = absurd (cc e)
put-several xs terms (Len label) u e = absurd (cc e)
put-several xs terms (Msg m part) u e = absurd (cc e)
put-several xs terms (Add' _ (one a end) _ (one b end)) u e = absurd (cc e)
put-several xs terms (Sub' _ (one a end) _ (one b end)) u e = absurd (cc e)
put-several xs terms (Mul' _ (one a end) _ (one b end)) u e = absurd (cc e)
put-several xs terms (If' _ (one a end) _ (one b end) _ (one w end) _ (one y end)) u e = absurd (cc e)

pub put-fits-in : (f : Formula) (xs : List ℕ) (terms : List Term) (own : Lab) → Fits f (terms_put f xs terms own)
put-fits-in f xs terms own = formula-fits (for_variables xs terms own) (put-several xs terms) f

-- ---- what is asked for

choice-left : (test f g : Formula) → Fits f (And (Implies test f) (Implies (Not test) g))
unfolding opened
choice-left test f g = (omega arith, omega arith)

choice-right : (test f g : Formula) → Fits g (And (Implies test f) (Implies (Not test) g))
unfolding opened
choice-right test f g = (omega arith, omega arith)

-- a choice is too large where a side is
pub either-side : (test f g : Formula) → (is_oversized f || is_oversized g) ≡ true → is_oversized (And (Implies test f) (Implies (Not test) g)) ≡ true
either-side test f g h = go (is_oversized f) refl h
  where
    go : (b : Bool) → is_oversized f ≡ b → (b || is_oversized g) ≡ true → is_oversized (And (Implies test f) (Implies (Not test) g)) ≡ true
    go true e k = larger-too f (And (Implies test f) (Implies (Not test) g)) (choice-left test f g) e
    go false e k = larger-too g (And (Implies test f) (Implies (Not test) g)) (choice-right test f g) k

both-true : (a b : Bool) → (a && b) ≡ true → (a ≡ true) × (b ≡ true)
both-true true b h = (refl, h)
both-true false b h = absurd (cc h)

-- where one side lets the way through
sides-fit : (test : Formula) (left right : Block) (after : Formula) (b : Bool) → block_passes left ≡ b → (b || block_passes right) ≡ true →
    (block_passes left ≡ true → Fits after (pre_of left after)) → (block_passes right ≡ true → Fits after (pre_of right after)) →
    Fits after (And (Implies test (pre_of left after)) (Implies (Not test) (pre_of right after)))
sides-fit test left right after true e h l r =
    fits-then after (pre_of left after) (And (Implies test (pre_of left after)) (Implies (Not test) (pre_of right after))) (l e) (choice-left test (pre_of left after) (pre_of right after))
sides-fit test left right after false e h l r =
    fits-then after (pre_of right after) (And (Implies test (pre_of left after)) (Implies (Not test) (pre_of right after))) (r h) (choice-right test (pre_of left after) (pre_of right after))

pub block-fits : (block : Block) (after : Formula) → block_passes block ≡ true → Fits after (pre_of block after)
block-fits Done after h = (omega arith, omega arith)
block-fits (Sends note label tag to args rest) after h = absurd (cc h)
block-fits (Awaits note label tag sender args rest) after h = absurd (cc h)
block-fits (Polls note got label tag sender args rest) after h = absurd (cc h)
block-fits (Reads note into label field index rest) after h = absurd (cc h)
block-fits (Sets target value rest) after h =
    fits-then after (pre_of rest after) (substituted (pre_of rest after) target value) (block-fits rest after h) (substituted-fits (pre_of rest after) target value)
block-fits (Ifs test left right rest) after h =
    let both = both-true (block_passes left || block_passes right) (block_passes rest) h in
    fits-then after (pre_of rest after) (pre_of (Ifs test left right rest) after) (block-fits rest after both.1)
    (sides-fit test left right (pre_of rest after) (block_passes left) refl both.0 (block-fits left (pre_of rest after)) (block-fits right (pre_of rest after)))
block-fits (Whiles test note body rest) after h = absurd (cc h)
block-fits (Calls note frame into callee args rest) after h = absurd (cc h)

pub command-fits : (command : Command) (after : Formula) → command_passes command ≡ true → Fits after (pre_of_command command after)
command-fits (Send note label tag to args) after h = absurd (cc h)
command-fits (Await note label tag sender args) after h = absurd (cc h)
command-fits (Poll note got label tag sender args) after h = absurd (cc h)
command-fits (Read note into label field index) after h = absurd (cc h)
command-fits (Set target value) after h = substituted-fits after target value
command-fits (IfShape test s left t right) after h = sides-fit test (row_block left) (row_block right) after (block_passes (row_block left)) refl h (block-fits (row_block left) after) (block-fits (row_block right) after)
command-fits (While' test note s body) after h = absurd (cc h)
command-fits (Call note frame into callee args) after h = absurd (cc h)

pub commands-fit : (commands : List Command) (after : Formula) → list_all command_passes commands ≡ true → Fits after (pre_of_commands commands after)
commands-fit [] after h = (omega arith, omega arith)
commands-fit (command ∷ commands) after h =
    let both = both-true (command_passes command) (list_all command_passes commands) h in
    fits-then after (pre_of_commands commands after) (pre_of_command command (pre_of_commands commands after))
    (commands-fit commands after both.1) (command-fits command (pre_of_commands commands after) both.0)

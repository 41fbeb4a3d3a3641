-- Names that are added to a set.
use Rattle.std.proofs.Common.{◌≡◌, ℕ, ◌+◌, ◌<◌, ◌==◌, Bool, true, false, ◌||◌, if◌then◌else◌, List, [], ◌∷◌, ◌++◌, append_assoc, length, get_or, drop, refl, sym, ap, subst, ◌∙◌, inl, inr}
use Rattle.std.specs.List.{flat_map, AllByRecursion as Each}
use Rattle.std.proofs.lemmas.Bool.{eqb-true, eq-eqb}
use Rattle.std.proofs.lemmas.List.{drop_more}
use Rattle.std.proofs.lemmas.List.Folds.{list_any-append}
use Rattle.dl_term.specs.Syntax.{opened}
use Rattle.dl_term.specs.declared.syntax.Formula.{Formula}
use Rattle.dl_term.specs.declared.syntax.Formula.TheVariants.{And, Or, Implies}
use Rattle.dl_model.specs.declared.program.Command.{Command, Send, Await, Poll, Read, Set, If', While', Call}
use Rattle.dl_model.specs.declared.program.Command.TheVariants.{If as IfOf, While as WhileOf}
use Rattle.dl_model.specs.declared.program.Proc.{Proc}
use Rattle.dl_model.specs.declared.file.Decls.{Decls}
use Rattle.dl_model.specs.Sorts.{has}
use Rattle.dl_model.specs.Spoken.{bound_names}
use Rattle.dl_model.specs.Block.{Block, block_of, followed, row_block}
use Rattle.dl_model.specs.Formed.{block_bound, file_bound}
use Rattle.dl_model.proofs.Small.{or-true-left, or-true-right, either-true}
use Rattle.dl_formed.proofs.Judging.{bound_of_proc}
use Rattle.dl_faults.proofs.Walking.{yes-block, no-block, no_row, body-block}
use Rattle.dl_formed_file.specs.Bound.{with_name, with_names, protocol_bound, hook_bound, invariant_bound, command_bound, proc_bound, bound_anywhere}

pub names_added : (names xs ys : List ℕ) → with_names (with_names names xs) ys ≡ with_names names (xs ++ ys)
names_added names [] ys = refl
names_added names (x ∷ xs) ys = names_added (with_name names x) xs ys

-- what the item at a place binds was added
pub item-added : {X : Type 0} (f : X → List ℕ) (names more all : List ℕ) (xs : List X) (i : ℕ) (x : X) → i < length xs → x ≡ get_or xs i x →
    more ≡ with_names names (f x) → with_names names (flat_map f (drop i xs)) ≡ all → with_names more (flat_map f (drop (i + 1) xs)) ≡ all
item-added f names more all xs i x h is added before =
    let rest = flat_map f (drop (i + 1) xs) in
    ap (λ (set : List ℕ). with_names set rest) (added ∙ ap (λ y. with_names names (f y)) is)
    ∙ (names_added names (f (get_or xs i x)) rest ∙ (sym (ap (λ ys. with_names names (flat_map f ys)) (drop_more xs i x h)) ∙ before))

-- ---- what a formula binds

pub names-And : (f g : Formula) → bound_names (And f g) ≡ bound_names f ++ bound_names g
unfolding opened
names-And f g = refl

pub names-Or : (f g : Formula) → bound_names (Or f g) ≡ bound_names f ++ bound_names g
unfolding opened
names-Or f g = refl

pub names-Implies : (f g : Formula) → bound_names (Implies f g) ≡ bound_names f ++ bound_names g
unfolding opened
names-Implies f g = refl

-- ---- what a set has

with-false : (a b : Bool) → (a || (b || false)) ≡ (a || b)
with-false true b = refl
with-false false true = refl
with-false false false = refl

absorbed : (a b : Bool) → (b ≡ true → a ≡ true) → a ≡ (a || b)
absorbed true b h = refl
absorbed false true h = h refl
absorbed false false h = refl

name-added : (n x : ℕ) (names : List ℕ) → has (with_name names x) n ≡ (has names n || (n == x))
name-added n x names = go (has names x) refl
  where
    go : (b : Bool) → has names x ≡ b → has (if b then names else names ++ x ∷ []) n ≡ (has names n || (n == x))
    go true e = absorbed (has names n) (n == x) (λ h. subst (λ (m : ℕ). has names m ≡ true) (sym (eqb-true n x h)) e)
    go false e = list_any-append (λ m. n == m) names (x ∷ []) ∙ with-false (has names n) (n == x)

or-turned : (a b c : Bool) → ((a || b) || c) ≡ (a || (b || c))
or-turned true b c = refl
or-turned false b c = refl

or-nothing : (a : Bool) → a ≡ (a || false)
or-nothing true = refl
or-nothing false = refl

has-added : (n : ℕ) (names xs : List ℕ) → has (with_names names xs) n ≡ (has names n || has xs n)
has-added n names [] = or-nothing (has names n)
has-added n names (x ∷ xs) =
    has-added n (with_name names x) xs
    ∙ (ap (λ b. b || has xs n) (name-added n x names) ∙ or-turned (has names n) (n == x) (has xs n))

-- the set of a list has just what the list has
pub same-had : (n : ℕ) (xs : List ℕ) → has (with_names [] xs) n ≡ has xs n
same-had n xs = has-added n [] xs

-- ---- each name of a set

pub each-had : (P : ℕ → Type 0) (xs : List ℕ) → Each P xs → (n : ℕ) → has xs n ≡ true → P n
each-had P [] e n h = absurd (cc h)
each-had P (x ∷ xs) e n h = elim (either-true (n == x) (has xs n) h) [
  | inl same ↦ subst P (sym (eqb-true n x same)) e.0
  | inr there ↦ each-had P xs e.1 n there
]

pub had-each : (P : ℕ → Type 0) (xs : List ℕ) → ((n : ℕ) → has xs n ≡ true → P n) → Each P xs
had-each P [] h = tt
had-each P (x ∷ xs) h = (
  h x (or-true-left (x == x) (has xs x) (eq-eqb x x refl)),
  had-each P xs (λ n there. h n (or-true-right (n == x) (has xs n) there)),
)

-- ---- what procedures bind

command-first : (command : Command) (rest : Block) → block_bound (followed command rest) ≡ command_bound command ++ block_bound rest
command-first (Send note label tag to args) rest = refl
command-first (Await note label tag sender args) rest = refl
command-first (Poll note got label tag sender args) rest = refl
command-first (Read note into label field index) rest = refl
command-first (Set target value) rest = refl
command-first (If' test s left t right) rest = sym (append_assoc (block_bound (row_block left)) (block_bound (row_block right)) (block_bound rest))
command-first (While' test note s body) rest = sym (append_assoc (bound_names note) (block_bound (row_block body)) (block_bound rest))
command-first (Call note frame into callee args) rest = sym (append_assoc (bound_names note) (bound_names frame) (block_bound rest))

pub commands-bound : (commands : List Command) → flat_map command_bound commands ≡ block_bound (block_of commands)
commands-bound [] = refl
commands-bound (command ∷ commands) =
    ap (λ (names : List ℕ). command_bound command ++ names) (commands-bound commands) ∙ sym (command-first command (block_of commands))

-- a choice, by the commands of its sides
pub bound-If : (test : Formula) (chosen other : List Command) → command_bound (IfOf test chosen other) ≡ flat_map command_bound chosen ++ flat_map command_bound other
bound-If test chosen other =
    ap (λ b. block_bound b ++ block_bound (row_block (no_row (IfOf test chosen other)).1)) (yes-block test chosen other)
    ∙ ap (λ b. block_bound (block_of chosen) ++ block_bound b) (no-block test chosen other)
    ∙ ap (λ (names : List ℕ). names ++ block_bound (block_of other)) (sym (commands-bound chosen))
    ∙ ap (λ (names : List ℕ). flat_map command_bound chosen ++ names) (sym (commands-bound other))

-- a loop, by the commands of its body
pub bound-While : (test note : Formula) (body : List Command) → command_bound (WhileOf test note body) ≡ bound_names note ++ flat_map command_bound body
bound-While test note body =
    ap (λ b. bound_names note ++ block_bound b) (body-block test note body)
    ∙ ap (λ (names : List ℕ). bound_names note ++ names) (sym (commands-bound body))

same-procs : (procs : List Proc) → flat_map proc_bound procs ≡ flat_map bound_of_proc procs
same-procs [] = refl
same-procs (proc ∷ procs) =
    ap (λ (names : List ℕ). (bound_names proc.pre ++ (bound_names proc.post ++ names)) ++ flat_map proc_bound procs) (commands-bound proc.body)
    ∙ ap (λ (names : List ℕ). bound_of_proc proc ++ names) (same-procs procs)

-- the code finds the names that are bound anywhere in the file
pub all-bound : (decls : Decls) → bound_anywhere decls ≡ file_bound decls
all-bound decls =
    ap (λ (last : List ℕ). flat_map protocol_bound decls.inst.protocols ++ (flat_map hook_bound decls.hooks ++ (flat_map invariant_bound decls.invariants ++ last)))
    (same-procs decls.procs)

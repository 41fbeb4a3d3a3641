-- The steps of rules that enter a quantifier, take an instance or change a formula.
use Rattle.std.proofs.Common.{◌≡◌, ℕ, zero, suc, Bool, true, false, not, ◌&&◌, ◌||◌, ◌==◌, if◌then◌else◌, List, [], ◌∷◌, ◌++◌, map, Option, Some, None, is_some, refl, sym, ◌∙◌, ap, subst, eqb-true, arith}
use Rattle.std.specs.Option.{option_map, option_and_then}
use Rattle.std.specs.List.{list_all, list_any, find}
use Rattle.dl_term.specs.declared.syntax.Lab.{Lab}
use Rattle.dl_term.specs.declared.syntax.Lab.TheVariants.{Own, At}
use Rattle.dl_term.specs.declared.syntax.Part.{Part}
use Rattle.dl_term.specs.declared.syntax.Part.TheVariants.{Id, From, To, Live, Arg}
use Rattle.dl_term.specs.declared.syntax.Term.{Term, Num, Word, Var, Field', Row', Len, Msg, Add', Sub', Mul', If', more_of-Term as one_term, end_of-Term as end_term}
use Rattle.dl_term.specs.declared.syntax.Formula.{Formula, True, Eq, more_of-Formula as one, end_of-Formula as end}
use Rattle.dl_term.specs.Measures.{is_oversized}
use Rattle.dl_model.specs.declared.protocol.Instances.{Instances}
use Rattle.dl_model.specs.declared.sequent.Hypothesis.{Hypothesis}
use Rattle.dl_model.specs.declared.sequent.Sequent.{Sequent}
use Rattle.dl_model.specs.Sorts.{has}
use Rattle.dl_subst.specs.Change.{captures}
use Rattle.dl_subst.specs.Substitution.{for_term, replaced}
use Rattle.dl_sequent.specs.declared.script.Given.{Given}
use Rattle.dl_sequent.specs.declared.script.Given.TheVariants.{Node, Message}
use Rattle.dl_sequent.specs.Clean.{knows, is_told_apart, var_names, message_names, fact_names, are_distinct, is_clean, is_new}
use Rattle.dl_sequent.specs.Sizes.{is_too_large}
use Rattle.dl_sequent.specs.Bounds.{Declared, sort_of, message_of, node_sort, bounds_of, lies_in, is_node_term}
use Rattle.dl_kernel.specs.declared.parts.Equation.{Equation}
use Rattle.dl_kernel.specs.declared.parts.Quantified.{Quantified}
use Rattle.dl_kernel.specs.declared.parts.Quantified.TheVariants.{Nodes, Messages}
use Rattle.dl_kernel.specs.Parts.{as_equation, as_universal, as_existential}
use Rattle.dl_kernel.specs.Lines.{goal_word}
use Rattle.dl_kernel.specs.Steps.{with_fact, with_goal, with_variable, with_message, fact_in, fact_of, part_of, one_left, put_node, put_message, label_number, with_new, at_new, put_in, enter, given_node, given_message, is_allowed, at_node, is_message_of, at_message, instance, target, put_fact, put_target, id_of, are_alike, are_one, put_term, put_id, rewritten, rewrite_by, only_clean}
use Rattle.dl_kernel.specs.Seen.{one_if, IsOversized, IsPastLimit}
use Rattle.dl_kernel.proofs.CleanLemmas.{fits, clean-goal, clean-added, one-clean}
use Rattle.dl_kernel.proofs.ApartLemmas.{left, right, both}
use Rattle.dl_kernel.proofs.LeftLemmas.{clean-goal-fits, clean-fact-fits, quantified-fits, universal-fits, existential-fits, node-fits, message-fits, other-fits, term-fits, clean-variable, clean-message, variable-known, message-known, large-goal, large-fact}

-- one sequent that is clean and too large
pub past-one : (t : Sequent) → is_clean t ≡ true → is_too_large t ≡ true → IsPastLimit (only_clean (Some (t ∷ [])))
past-one t clean large = subst (λ b. IsPastLimit (if b && true then Some (t ∷ []) else None)) (sym clean) (ap (λ b. b || false) large)

pub oversized : (o : Option Formula) → IsOversized o → (f : Formula) × (o ≡ Some f) × (is_oversized f ≡ true)
oversized None h = absurd h
oversized (Some f) h = (f, refl, h)

-- ---- entering a quantifier

pub entered : (put : Sequent → Formula → Sequent) (inst : Instances) (s n : Sequent) (x : ℕ) (q : Quantified) (f : Formula) → is_new s x ≡ true → Some n ≡ with_new inst s x q → at_new x q ≡ Some f → Some (put n f ∷ []) ≡ enter put inst s x (Some q)
entered put inst s n x q f new e made =
    (λ i. put_in put (e i) (sym made i)) ∙ ap (λ b. if b then put_in put (with_new inst s x q) (at_new x q) else None) (sym new)

pub none-named : (put : Sequent → Formula → Sequent) (inst : Instances) (s : Sequent) (x : ℕ) (q : Quantified) → is_new s x ≡ true → None ≡ with_new inst s x q → None ≡ enter put inst s x (Some q)
none-named put inst s x q new e =
    ap (λ o. put_in put o (at_new x q)) e ∙ ap (λ b. if b then put_in put (with_new inst s x q) (at_new x q) else None) (sym new)

put_in-none : (put : Sequent → Formula → Sequent) (o : Option Sequent) → None ≡ put_in put o None
put_in-none put None = refl
put_in-none put (Some s) = refl

pub none-made : (put : Sequent → Formula → Sequent) (inst : Instances) (s : Sequent) (x : ℕ) (q : Quantified) → is_new s x ≡ true → None ≡ at_new x q → None ≡ enter put inst s x (Some q)
none-made put inst s x q new e =
    put_in-none put (with_new inst s x q) ∙ ap (put_in put (with_new inst s x q)) e ∙ ap (λ b. if b then put_in put (with_new inst s x q) (at_new x q) else None) (sym new)

pub not-entered : (put : Sequent → Formula → Sequent) (inst : Instances) (s t : Sequent) (x : ℕ) (o : Option Quantified) → is_new s x ≡ false → one_if false t ≡ only_clean (enter put inst s x o)
not-entered put inst s t x None new = refl
not-entered put inst s t x (Some q) new = ap (λ b. only_clean (if b then put_in put (with_new inst s x q) (at_new x q) else None)) (sym new)

-- a quantified formula of the sequent, by which a new name enters
pub record IsWithin (s : Sequent) (g : Formula) : Type 0 where
  pub there : (t : Sequent) → t.facts ≡ s.facts → t.goal ≡ s.goal → is_clean t ≡ true → fits t g ≡ true

pub goal-within : (s : Sequent) → IsWithin s s.goal
goal-within s = record { there = λ t facts goal clean. subst (λ g. fits t g ≡ true) goal (clean-goal-fits t clean) }

pub fact-within : (s : Sequent) (hyp : ℕ) (g : Formula) → fact_of s hyp ≡ Some g → IsWithin s g
fact-within s hyp g e = record { there = λ t facts goal clean. clean-fact-fits t hyp g clean (ap (λ hs. fact_in hs hyp) facts ∙ e) }

-- the sequent with the new name is clean, and so is what is said of the name there
new-fits : (inst : Instances) (s n : Sequent) (x : ℕ) (q : Quantified) (g f : Formula) → is_clean s ≡ true → is_new s x ≡ true → IsWithin s g → ((t : Sequent) → fits t g ≡ true → quantified-fits t q ≡ true) → Some n ≡ with_new inst s x q → at_new x q ≡ Some f
    → (is_clean n ≡ true) × (fits n f ≡ true)
new-fits inst s n x (Nodes y body) g f clean new within parts e made =
    let m = with_variable s x (node_sort inst.nodes) in
    let is : n ≡ m = cc in
    let fine : is_clean m ≡ true = clean-variable s x (node_sort inst.nodes) new ∙ clean in
    let there : fits m f ≡ true = node-fits m y body f (Var x) (parts m (within.there m refl refl fine)) (variable-known s x (node_sort inst.nodes)) made in
    (ap is_clean is ∙ fine, ap (λ t. fits t f) is ∙ there)
new-fits inst s n x (Messages k lab tag body) g f clean new within parts e made = by_label (label_number lab) e
  where
    by_label : (l : Option ℕ) → Some n ≡ option_map (λ number. with_message s x number tag) l → (is_clean n ≡ true) × (fits n f ≡ true)
    by_label None e = cc
    by_label (Some number) e =
        let m = with_message s x number tag in
        let is : n ≡ m = cc in
        let fine : is_clean m ≡ true = clean-message s x number tag new ∙ clean in
        let there : fits m f ≡ true = message-fits m k x body f (parts m (within.there m refl refl fine)) (message-known s x number tag) made in
        (ap is_clean is ∙ fine, ap (λ t. fits t f) is ∙ there)

-- a new name for what the goal binds: the sequent with the new name has another goal for a while
pub new-goal : (inst : Instances) (s n : Sequent) (x : ℕ) (q : Quantified) → Some n ≡ with_new inst (with_goal s True) x q → Some (with_goal n s.goal) ≡ with_new inst s x q
new-goal inst s n x (Nodes y body) e =
    let is : n ≡ with_variable (with_goal s True) x (node_sort inst.nodes) = cc in
    ap (λ t. Some (with_goal t s.goal)) is
new-goal inst s n x (Messages k lab tag body) e = by_label (label_number lab) e
  where
    by_label : (l : Option ℕ) → Some n ≡ option_map (λ number. with_message (with_goal s True) x number tag) l → Some (with_goal n s.goal) ≡ option_map (λ number. with_message s x number tag) l
    by_label None e = cc
    by_label (Some number) e =
        let is : n ≡ with_message (with_goal s True) x number tag = cc in
        ap (λ t. Some (with_goal t s.goal)) is

pub no-goal : (inst : Instances) (s : Sequent) (x : ℕ) (q : Quantified) → None ≡ with_new inst (with_goal s True) x q → None ≡ with_new inst s x q
no-goal inst s x (Nodes y body) e = cc
no-goal inst s x (Messages k lab tag body) e = by_label (label_number lab) e
  where
    by_label : (l : Option ℕ) → None ≡ option_map (λ number. with_message (with_goal s True) x number tag) l → None ≡ option_map (λ number. with_message s x number tag) l
    by_label None e = refl
    by_label (Some number) e = cc

-- what the call that adds the name says
pub found-name : (fine : Bool) (n : Sequent) (o : Option Sequent) → fine ≡ true → (if fine then Some n else None) ≡ o → Some n ≡ o
found-name true n o e h = h
found-name false n o e h = cc

pub no-name : (fine : Bool) (n : Sequent) (o : Option Sequent) → fine ≡ false → (if fine then Some n else None) ≡ o → None ≡ o
no-name true n o e h = cc
no-name false n o e h = h

module _ (inst : Instances) (s n : Sequent) (x : ℕ) (q : Quantified) (clean : is_clean s ≡ true) (new : is_new s x ≡ true) where
  pub open-clean : (f : Formula) → as_universal s.goal ≡ Some q → Some n ≡ with_new inst (with_goal s True) x q → at_new x q ≡ Some f → is_clean n ≡ true
  open-clean f e named made =
      let it = new-fits inst s (with_goal n s.goal) x q s.goal f clean new (goal-within s) (λ t h. universal-fits t s.goal q e h) (new-goal inst s n x q named) made in
      sym (clean-goal (with_goal n s.goal) n.goal it.0) ∙ goal-true n named
    where
      true-told : (q : Quantified) (n : Sequent) → Some n ≡ with_new inst (with_goal s True) x q → n.goal ≡ True
      true-told (Nodes y body) n e = let is : n ≡ with_variable (with_goal s True) x (node_sort inst.nodes) = cc in ap (λ (t : Sequent). t.goal) is
      true-told (Messages k lab tag body) n e = by_label (label_number lab) e
        where
          by_label : (l : Option ℕ) → Some n ≡ option_map (λ number. with_message (with_goal s True) x number tag) l → n.goal ≡ True
          by_label None e = cc
          by_label (Some number) e = let is : n ≡ with_message (with_goal s True) x number tag = cc in ap (λ (t : Sequent). t.goal) is

      goal-true : (n : Sequent) → Some n ≡ with_new inst (with_goal s True) x q → fits (with_goal n s.goal) n.goal ≡ true
      goal-true n e = ap (fits (with_goal n s.goal)) (true-told q n e)

  pub open-done : (f : Formula) (t : Sequent) (fine : Bool) → as_universal s.goal ≡ Some q → Some n ≡ with_new inst (with_goal s True) x q → at_new x q ≡ Some f → t ≡ with_goal n f → fine ≡ is_clean t → one_if fine t ≡ only_clean (enter with_goal inst s x (as_universal s.goal))
  open-done f t fine e named made is h =
      one-clean t fine h
      ∙ ap (λ u. only_clean (Some (u ∷ []))) is
      ∙ ap only_clean (entered with_goal inst s (with_goal n s.goal) x q f new (new-goal inst s n x q named) made)
      ∙ ap (λ o. only_clean (enter with_goal inst s x o)) (sym e)

  pub open-limit : as_universal s.goal ≡ Some q → Some n ≡ with_new inst (with_goal s True) x q → IsOversized (at_new x q) → IsPastLimit (only_clean (enter with_goal inst s x (as_universal s.goal)))
  open-limit e named big =
      let f = oversized (at_new x q) big in
      let it = new-fits inst s (with_goal n s.goal) x q s.goal f.0 clean new (goal-within s) (λ t h. universal-fits t s.goal q e h) (new-goal inst s n x q named) f.1 in
      subst (λ o. IsPastLimit (only_clean o)) (entered with_goal inst s (with_goal n s.goal) x q f.0 new (new-goal inst s n x q named) f.1 ∙ ap (enter with_goal inst s x) (sym e))
      (past-one (with_goal n f.0) (sym (clean-goal (with_goal n s.goal) f.0 it.0) ∙ it.1) (large-goal n f.0 f.2))

  pub open-unnamed : (t : Sequent) → as_universal s.goal ≡ Some q → None ≡ with_new inst (with_goal s True) x q → one_if false t ≡ only_clean (enter with_goal inst s x (as_universal s.goal))
  open-unnamed t e named = ap only_clean (none-named with_goal inst s x q new (no-goal inst s x q named)) ∙ ap (λ o. only_clean (enter with_goal inst s x o)) (sym e)

  pub open-unmade : (t : Sequent) → as_universal s.goal ≡ Some q → None ≡ at_new x q → one_if false t ≡ only_clean (enter with_goal inst s x (as_universal s.goal))
  open-unmade t e made = ap only_clean (none-made with_goal inst s x q new made) ∙ ap (λ o. only_clean (enter with_goal inst s x o)) (sym e)

  pub unpack-clean : (g f : Formula) → IsWithin s g → as_existential g ≡ Some q → Some n ≡ with_new inst s x q → at_new x q ≡ Some f → is_clean n ≡ true
  unpack-clean g f within e named made = (new-fits inst s n x q g f clean new within (λ t h. existential-fits t g q e h) named made).0

  pub unpack-done : (name : ℕ) (g f : Formula) (hyp : ℕ) (left : Option (List Sequent)) → fact_of s hyp ≡ Some g → as_existential g ≡ Some q → Some n ≡ with_new inst s x q → at_new x q ≡ Some f → left ≡ only_clean (Some (with_fact n name f ∷ []))
      → left ≡ only_clean (enter (λ t. with_fact t name) inst s x (part_of as_existential s hyp))
  unpack-done name g f hyp left is e named made h =
      h ∙ ap only_clean (entered (λ t. with_fact t name) inst s n x q f new named made)
      ∙ ap (λ o. only_clean (enter (λ t. with_fact t name) inst s x o)) (sym (ap (option_and_then as_existential) is ∙ e))

  pub unpack-limit : (name : ℕ) (g : Formula) (hyp : ℕ) → fact_of s hyp ≡ Some g → as_existential g ≡ Some q → has (fact_names s) name ≡ false → Some n ≡ with_new inst s x q → n.facts ≡ s.facts → IsOversized (at_new x q)
      → IsPastLimit (only_clean (enter (λ t. with_fact t name) inst s x (part_of as_existential s hyp)))
  unpack-limit name g hyp is e fresh named same big =
      let f = oversized (at_new x q) big in
      let it = new-fits inst s n x q g f.0 clean new (fact-within s hyp g is) (λ t h. existential-fits t g q e h) named f.1 in
      let free : has (fact_names n) name ≡ false = ap (λ (hs : List Hypothesis). has (map (λ (h : Hypothesis). h.name) hs) name) same ∙ fresh in
      subst (λ o. IsPastLimit (only_clean o)) (entered (λ t. with_fact t name) inst s n x q f.0 new named f.1 ∙ ap (enter (λ t. with_fact t name) inst s x) (sym (ap (option_and_then as_existential) is ∙ e)))
      (past-one (with_fact n name f.0) (sym (clean-added n name f.0 it.0) ∙ both (not (has (fact_names n) name)) (fits n f.0) (ap not free) it.1) (large-fact n name f.0 f.2))

-- ---- what is given

same-bounds : (inst : Instances) (s : Sequent) (g : Formula) (t : Term) → bounds_of inst (with_goal s g) t ≡ bounds_of inst s t
same-bounds inst s g (Num v) = refl
same-bounds inst s g (Word sym v) = refl
same-bounds inst s g (Var name) = refl
same-bounds inst s g (Field' label field _ (one_term node end_term)) = refl
same-bounds inst s g (Row' label field _ (one_term node end_term) _ (one_term index end_term)) = refl
same-bounds inst s g (Msg name part) = refl
same-bounds inst s g (Len label) = refl
same-bounds inst s g (Add' _ (one_term a end_term) _ (one_term b end_term)) = refl
same-bounds inst s g (Sub' _ (one_term a end_term) _ (one_term b end_term)) = refl
same-bounds inst s g (Mul' _ (one_term a end_term) _ (one_term b end_term)) = refl
same-bounds inst s g (If' _ (one_term a end_term) _ (one_term b end_term) _ (one_term x end_term) _ (one_term y end_term)) = refl

same-node : (inst : Instances) (s : Sequent) (g : Formula) (o : Option Term) (y : ℕ) (body : Formula) → at_node inst (with_goal s g) o y body ≡ at_node inst s o y body
same-node inst s g None y body = refl
same-node inst s g (Some t) y body = ap (λ o. if lies_in o (node_sort inst.nodes) && knows (var_names s) (message_names s) t then put_node y body t else None) (same-bounds inst s g t)

pub same-instance : (inst : Instances) (s : Sequent) (g : Formula) (what : Given) (q : Quantified) → instance inst (with_goal s g) what q ≡ instance inst s what q
same-instance inst s g (Node t) (Nodes y body) = same-node inst s g (Some t) y body
same-instance inst s g (Message name) (Nodes y body) = same-node inst s g (given_node s (Message name)) y body
same-instance inst s g (Node t) (Messages m lab tag body) = refl
same-instance inst s g (Message name) (Messages m lab tag body) = refl

is-some : {X : Type 0} (o : Option X) → is_some o ≡ true → (x : X) × (o ≡ Some x)
is-some (Some x) h = (x, refl)
is-some None h = cc

-- a message that the sequent lists is one of its names
pub listed : (ms : List Declared) (name : ℕ) (m : Declared) → message_of ms name ≡ Some m → has (map (λ (m : Declared). m.0) ms) name ≡ true
listed [] name m e = cc
listed (k ∷ ks) name m e = by_test (k.0 == name) refl e (λ f. listed ks name m f)
  where
    sym-eqb : (x y : ℕ) → (x == y) ≡ (y == x)
    sym-eqb x y = grind arith

    or-true : (a b : Bool) → b ≡ true → (a || b) ≡ true
    or-true true b h = refl
    or-true false b h = h

    by_test : (b : Bool) → (k.0 == name) ≡ b → (if b then Some k else find (λ (m : Declared). m.0 == name) ks) ≡ Some m → (message_of ks name ≡ Some m → has (map (λ (m : Declared). m.0) ks) name ≡ true) → has (map (λ (m : Declared). m.0) (k ∷ ks)) name ≡ true
    by_test true t e rest = ap (λ b. b || has (map (λ (m : Declared). m.0) ks) name) (sym-eqb name k.0 ∙ t)
    by_test false t e rest = or-true (name == k.0) _ (rest e)

stands-listed : (ms : List Declared) (name : ℕ) (o : Option Declared) (label : Option ℕ) (tag : ℕ) → message_of ms name ≡ o → is_message_of o label tag ≡ true → has (map (λ (m : Declared). m.0) ms) name ≡ true
stands-listed ms name None label tag e h = cc
stands-listed ms name (Some m) label tag e h = listed ms name m e

given-known : (inst : Instances) (s : Sequent) (t : Term) → is_allowed inst s t ≡ true → knows (var_names s) (message_names s) t ≡ true
given-known inst s t h = right (is_node_term inst s t) (knows (var_names s) (message_names s) t) h

node-at-fits : (inst : Instances) (s : Sequent) (o : Option Term) (y : ℕ) (body f : Formula) → quantified-fits s (Nodes y body) ≡ true → at_node inst s o y body ≡ Some f → fits s f ≡ true
node-at-fits inst s None y body f h e = cc
node-at-fits inst s (Some t) y body f h e = by_test (is_allowed inst s t) refl e
  where
    by_test : (b : Bool) → is_allowed inst s t ≡ b → (if b then put_node y body t else None) ≡ Some f → fits s f ≡ true
    by_test true a e = node-fits s y body f t h (given-known inst s t a) e
    by_test false a e = cc

message-at-fits : (s : Sequent) (o : Option ℕ) (m : ℕ) (lab : Lab) (tag : ℕ) (body f : Formula) → quantified-fits s (Messages m lab tag body) ≡ true → at_message s o m lab tag body ≡ Some f → fits s f ≡ true
message-at-fits s None m lab tag body f h e = cc
message-at-fits s (Some k) m lab tag body f h e = by_test (is_message_of (message_of s.messages k) (label_number lab) tag) refl e
  where
    by_test : (b : Bool) → is_message_of (message_of s.messages k) (label_number lab) tag ≡ b → (if b then put_message m body k else None) ≡ Some f → fits s f ≡ true
    by_test true a e = message-fits s m k body f h (stands-listed s.messages k (message_of s.messages k) (label_number lab) tag refl a) e
    by_test false a e = cc

pub instance-fits : (inst : Instances) (s : Sequent) (what : Given) (q : Quantified) (f : Formula) → quantified-fits s q ≡ true → instance inst s what q ≡ Some f → fits s f ≡ true
instance-fits inst s what (Nodes y body) f h e = node-at-fits inst s (given_node s what) y body f h e
instance-fits inst s what (Messages m lab tag body) f h e = message-at-fits s (given_message what) m lab tag body f h e

pub give-limit : (inst : Instances) (s : Sequent) (what : Given) (q : Quantified) → is_clean s ≡ true → as_existential s.goal ≡ Some q → IsOversized (instance inst s what q) → IsPastLimit (only_clean (one_left (option_map (with_goal s) (option_and_then (instance inst s what) (as_existential s.goal)))))
give-limit inst s what q clean e big =
    let f = oversized (instance inst s what q) big in
    let fit = instance-fits inst s what q f.0 (existential-fits s s.goal q e (clean-goal-fits s clean)) f.1 in
    subst (λ o. IsPastLimit (only_clean (one_left (option_map (with_goal s) o)))) (sym (ap (option_and_then (instance inst s what)) e ∙ f.1))
    (past-one (with_goal s f.0) (sym (clean-goal s f.0 clean) ∙ fit) (large-goal s f.0 f.2))

pub inst-limit : (inst : Instances) (s : Sequent) (what : Given) (q : Quantified) (hyp name : ℕ) → is_clean s ≡ true → part_of as_universal s hyp ≡ Some q → has (fact_names s) name ≡ false → IsOversized (instance inst s what q)
    → IsPastLimit (only_clean (one_left (option_map (with_fact s name) (option_and_then (instance inst s what) (part_of as_universal s hyp)))))
inst-limit inst s what q hyp name clean e fresh big =
    let f = oversized (instance inst s what q) big in
    let g = found (fact_of s hyp) as_universal q e in
    let fit = instance-fits inst s what q f.0 (universal-fits s g.0 q g.2 (clean-fact-fits s hyp g.0 clean g.1)) f.1 in
    subst (λ o. IsPastLimit (only_clean (one_left (option_map (with_fact s name) o)))) (sym (ap (option_and_then (instance inst s what)) e ∙ f.1))
    (past-one (with_fact s name f.0) (sym (clean-added s name f.0 clean) ∙ both (not (has (fact_names s) name)) (fits s f.0) (ap not fresh) fit) (large-fact s name f.0 f.2))
  where
    found : {X Y : Type 0} (o : Option X) (f : X → Option Y) (y : Y) → option_and_then f o ≡ Some y → (x : X) × (o ≡ Some x) × (f x ≡ Some y)
    found (Some x) f y h = (x, refl, h)
    found None f y h = cc

-- Names by which every variable and every part of a message reads the same give a formula one truth.
use Rattle.std.proofs.Common.{◌≡◌, ◌≤◌, ℕ, zero, suc, ℤ, pos, ◌+ℤ◌, ◌-ℤ◌, ◌*ℤ◌, Bool, true, false, not, ◌&&◌, ◌||◌, ◌==◌, if◌then◌else◌, int_lt, int_le, List, [], ◌∷◌, length, slice_get, unwrap_or, Option, Some, None, refl, sym, ◌∙◌, ap, subst, arith}
use Rattle.std.specs.Ordering.{int_eq}
use Rattle.std.specs.List.{AllByRecursion as Every}
use Rattle.dl_term.specs.declared.syntax.Part.{Part}
use Rattle.dl_term.specs.declared.syntax.Part.TheVariants.{Id, From, To, Live, Arg}
use Rattle.dl_term.specs.declared.syntax.Sort.{Sort}
use Rattle.dl_term.specs.declared.syntax.Term.{Term, Num, Word, Var, Field', Row', Len, Msg, Add', Sub', Mul', If', more_of-Term as one, end_of-Term as end}
use Rattle.dl_term.specs.declared.syntax.Formula.{Formula, True, False, Eq, Lt, Le, Not', And', Or', Implies', All', Exists', Each', Any', more_of-Formula as one_formula, end_of-Formula as end_formula}
use Rattle.dl_term.specs.State.{Message, State, item, field_at, soup_at, message_at, part_of, part_at}
use Rattle.dl_term.specs.Names.{Meant, Stored, Given, Names, with_number, with_message, label_of}
use Rattle.dl_term.specs.Meaning.{value, holds, part_in, every_below, some_below, every_message, some_message}
use Rattle.dl_model.specs.declared.protocol.Tag.{Tag}
use Rattle.dl_model.specs.declared.protocol.Protocol.{Protocol}
use Rattle.dl_model.specs.declared.protocol.Instances.{Instances}
use Rattle.dl_model.specs.Sorts.{in_sort, all_in_sorts}
use Rattle.dl_model.specs.Lookup.{Parameter, no_protocol, no_tag, protocol_in, tag_at, arg_sorts}
use Rattle.dl_model.specs.States.{MessageIsSorted, IsWellSorted}
use Rattle.dl_model.specs.Formed.{TagIsFormed, InstancesAreFormed}
use Rattle.dl_subst.specs.Change.{captures}
use Rattle.dl_subst.specs.Substitution.{for_message, new_part, message_substituted}
use Rattle.dl_subst.proofs.Whole.{holds-message_substituted}
use Rattle.dl_kernel.specs.Steps.{parts_of}

pub record ReadAlike (n m : Names) (state : State) : Type 0 where
  pub own : n.own ≡ m.own
  pub number : (x : ℕ) → n.number x ≡ m.number x
  pub part : (k : ℕ) (p : Part) → part_in state (n.message k) p ≡ part_in state (m.message k) p

value-read : (t : Term) (n m : Names) (state : State) → ReadAlike n m state → value t n state ≡ value t m state
value-read (Num v) n m state h = refl
value-read (Word sym v) n m state h = refl
value-read (Var sym) n m state h = h.number sym
value-read (Field' label field _ (one node end)) n m state h =
    let v = value-read node n m state h in
    λ i. field_at state (label_of (h.own i) label) field (v i) (pos 0)
value-read (Row' label field _ (one node end) _ (one index end)) n m state h =
    let v = value-read node n m state h in
    let w = value-read index n m state h in
    λ i. field_at state (label_of (h.own i) label) field (v i) (w i)
value-read (Len label) n m state h = λ i. pos (length (soup_at state (label_of (h.own i) label)))
value-read (Msg msg part) n m state h = h.part msg part
value-read (Add' _ (one a end) _ (one b end)) n m state h = let v = value-read a n m state h in let w = value-read b n m state h in λ i. v i +ℤ w i
value-read (Sub' _ (one a end) _ (one b end)) n m state h = let v = value-read a n m state h in let w = value-read b n m state h in λ i. v i -ℤ w i
value-read (Mul' _ (one a end) _ (one b end)) n m state h = let v = value-read a n m state h in let w = value-read b n m state h in λ i. v i *ℤ w i
value-read (If' _ (one a end) _ (one b end) _ (one x end) _ (one y end)) n m state h =
    let p = value-read a n m state h in
    let q = value-read b n m state h in
    let r = value-read x n m state h in
    let s = value-read y n m state h in
    λ i. if int_eq (p i) (q i) then r i else s i

with-number : (n m : Names) (state : State) (x : ℕ) (v : ℤ) → ReadAlike n m state → ReadAlike (with_number n x v) (with_number m x v) state
with-number n m state x v h = record {
  own = h.own;
  number = λ z. ap (λ k. if z == x then v else k) (h.number z);
  part = h.part;
}

chosen : (state : State) (test : Bool) (new : Meant) (o p : Option Meant) (q : Part) → part_in state o q ≡ part_in state p q → part_in state (if test then Some new else o) q ≡ part_in state (if test then Some new else p) q
chosen state true new o p q h = refl
chosen state false new o p q h = h

with-message : (n m : Names) (state : State) (k : ℕ) (new : Meant) → ReadAlike n m state → ReadAlike (with_message n k new) (with_message m k new) state
with-message n m state k new h = record {
  own = h.own;
  number = h.number;
  part = λ z q. chosen state (z == k) new (n.message z) (m.message z) q (h.part z q);
}

pub holds-read : (f : Formula) (n m : Names) (state : State) → ReadAlike n m state → holds f n state ≡ holds f m state
holds-read True n m state h = refl
holds-read False n m state h = refl
holds-read (Eq a b) n m state h = let v = value-read a n m state h in let w = value-read b n m state h in λ i. int_eq (v i) (w i)
holds-read (Lt a b) n m state h = let v = value-read a n m state h in let w = value-read b n m state h in λ i. int_lt (v i) (w i)
holds-read (Le a b) n m state h = let v = value-read a n m state h in let w = value-read b n m state h in λ i. int_le (v i) (w i)
holds-read (Not' _ (one_formula f end_formula)) n m state h = ap not (holds-read f n m state h)
holds-read (And' _ (one_formula f end_formula) _ (one_formula g end_formula)) n m state h = let v = holds-read f n m state h in let w = holds-read g n m state h in λ i. v i && w i
holds-read (Or' _ (one_formula f end_formula) _ (one_formula g end_formula)) n m state h = let v = holds-read f n m state h in let w = holds-read g n m state h in λ i. v i || w i
holds-read (Implies' _ (one_formula f end_formula) _ (one_formula g end_formula)) n m state h = let v = holds-read f n m state h in let w = holds-read g n m state h in λ i. not (v i) || w i
holds-read (All' x _ (one_formula f end_formula)) n m state h =
    let v = λ (node : ℕ). holds-read f (with_number n x (pos node)) (with_number m x (pos node)) state (with-number n m state x (pos node) h) in
    λ i. every_below state.nodes (λ node. v node i)
holds-read (Exists' x _ (one_formula f end_formula)) n m state h =
    let v = λ (node : ℕ). holds-read f (with_number n x (pos node)) (with_number m x (pos node)) state (with-number n m state x (pos node) h) in
    λ i. some_below state.nodes (λ node. v node i)
holds-read (Each' k label tag _ (one_formula f end_formula)) n m state h =
    let v = λ (id : ℕ). holds-read f (with_message n k (Stored (label_of n.own label) id)) (with_message m k (Stored (label_of n.own label) id)) state (with-message n m state k (Stored (label_of n.own label) id) h) in
    (λ i. every_message state (label_of n.own label) tag (λ id. v id i))
    ∙ (λ i. every_message state (label_of (h.own i) label) tag (λ id. holds f (with_message m k (Stored (label_of (h.own i) label) id)) state))
holds-read (Any' k label tag _ (one_formula f end_formula)) n m state h =
    let v = λ (id : ℕ). holds-read f (with_message n k (Stored (label_of n.own label) id)) (with_message m k (Stored (label_of n.own label) id)) state (with-message n m state k (Stored (label_of n.own label) id) h) in
    (λ i. some_message state (label_of n.own label) tag (λ id. v id i))
    ∙ (λ i. some_message state (label_of (h.own i) label) tag (λ id. holds f (with_message m k (Stored (label_of (h.own i) label) id)) state))

-- ---- the parts of a message of a well-sorted state

many-args : (sorts : List Sort) (values : List ℤ) → all_in_sorts sorts values ≡ true → length values ≤ length sorts
many-args [] [] h = omega arith
many-args (s ∷ ss) (v ∷ vs) h = let more : length vs ≤ length ss = many-args ss vs (right (in_sort s v) (all_in_sorts ss vs) h) in omega arith
  where
    right : (a b : Bool) → (a && b) ≡ true → b ≡ true
    right true b h = h
    right false b h = cc
many-args [] (v ∷ vs) h = cc
many-args (s ∷ ss) [] h = cc

length-sorts : (args : List Parameter) → length (arg_sorts args) ≡ length args
length-sorts [] = refl
length-sorts (a ∷ as') = ap suc (length-sorts as')

every-at : {X : Type 0} (P : X → Type 0) (xs : List X) (k : ℕ) (x : X) → slice_get xs k ≡ Some x → Every P xs → P x
every-at P [] k x e h = cc
every-at P (y ∷ ys) zero x e h = let is : y ≡ x = cc in subst P is h.0
every-at P (y ∷ ys) (suc k) x e h = every-at P ys k x e h.1

-- a tag has at most 8 arguments
few-args : (inst : Instances) (label tag : ℕ) → InstancesAreFormed inst → length (tag_at inst label tag).args ≤ 8
few-args inst label tag formed = by_number (slice_get inst.of label)
  where
    by_tag : (p : Protocol) (o : Option Tag) → Every (TagIsFormed p) p.tags → slice_get p.tags tag ≡ o → length (unwrap_or o no_tag).args ≤ 8
    by_tag p None all e = omega arith
    by_tag p (Some t) all e = (every-at (TagIsFormed p) p.tags tag t e all).args.0

    by_protocol : (number : ℕ) (o : Option Protocol) → slice_get inst.protocols number ≡ o → length (unwrap_or (slice_get (unwrap_or o no_protocol).tags tag) no_tag).args ≤ 8
    by_protocol number None e = omega arith
    by_protocol number (Some p) e = by_tag p (slice_get p.tags tag) (formed.protocols number p e).tags refl

    by_number : (o : Option ℕ) → length (unwrap_or (slice_get (protocol_in inst o).tags tag) no_tag).args ≤ 8
    by_number None = omega arith
    by_number (Some number) = by_protocol number (slice_get inst.protocols number) refl

past-end : (values : List ℤ) (k : ℕ) → length values ≤ k → item values (pos k) (pos 0) ≡ pos 0
past-end [] k h = refl
past-end (v ∷ vs) zero h = absurd (omega arith)
past-end (v ∷ vs) (suc k) h = past-end vs k (omega arith)

no-argument : (inst : Instances) (state : State) (label id k : ℕ) → InstancesAreFormed inst → IsWellSorted inst state → 8 ≤ k → part_at state label id (Arg k) ≡ pos 0
no-argument inst state label id k formed sorted h = by_message (message_at state label id) refl
  where
    by_message : (o : Option Message) → message_at state label id ≡ o → part_of id o (Arg k) ≡ pos 0
    by_message None e = refl
    by_message (Some m) e =
        let is = every-at (MessageIsSorted inst label) (soup_at state label) id m e ((sorted.each label).soup) in
        let many = many-args (arg_sorts (tag_at inst label m.tag).args) m.args is.args in
        let same = length-sorts (tag_at inst label m.tag).args in
        let few = few-args inst label m.tag formed in
        past-end m.args k (omega arith)

-- the parts that are put for a message read as those of the other one
part-put : (inst : Instances) (state : State) (names : Names) (k label id : ℕ) → InstancesAreFormed inst → IsWellSorted inst state → names.message k ≡ Some (Stored label id) → (p : Part)
    → value (new_part (parts_of k) p) names state ≡ part_at state label id p
part-put inst state names k label id formed sorted e Id = ap (λ o. part_in state o Id) e
part-put inst state names k label id formed sorted e From = ap (λ o. part_in state o From) e
part-put inst state names k label id formed sorted e To = ap (λ o. part_in state o To) e
part-put inst state names k label id formed sorted e Live = ap (λ o. part_in state o Live) e
part-put inst state names k label id formed sorted e (Arg zero) = ap (λ o. part_in state o (Arg 0)) e
part-put inst state names k label id formed sorted e (Arg (suc zero)) = ap (λ o. part_in state o (Arg 1)) e
part-put inst state names k label id formed sorted e (Arg (suc (suc zero))) = ap (λ o. part_in state o (Arg 2)) e
part-put inst state names k label id formed sorted e (Arg (suc (suc (suc zero)))) = ap (λ o. part_in state o (Arg 3)) e
part-put inst state names k label id formed sorted e (Arg (suc (suc (suc (suc zero))))) = ap (λ o. part_in state o (Arg 4)) e
part-put inst state names k label id formed sorted e (Arg (suc (suc (suc (suc (suc zero)))))) = ap (λ o. part_in state o (Arg 5)) e
part-put inst state names k label id formed sorted e (Arg (suc (suc (suc (suc (suc (suc zero))))))) = ap (λ o. part_in state o (Arg 6)) e
part-put inst state names k label id formed sorted e (Arg (suc (suc (suc (suc (suc (suc (suc zero)))))))) = ap (λ o. part_in state o (Arg 7)) e
part-put inst state names k label id formed sorted e (Arg (suc (suc (suc (suc (suc (suc (suc (suc j))))))))) =
    sym (no-argument inst state label id (suc (suc (suc (suc (suc (suc (suc (suc j)))))))) formed sorted (omega arith))

given-stored : (state : State) (test : Bool) (parts : Part → ℤ) (label id : ℕ) (o : Option Meant) (p : Part) → parts p ≡ part_at state label id p → part_in state (if test then Some (Given parts) else o) p ≡ part_in state (if test then Some (Stored label id) else o) p
given-stored state true parts label id o p h = h
given-stored state false parts label id o p h = refl

-- a formula with the parts of the message k for those of m holds where the formula holds with m as the message k
pub holds-message_put : (inst : Instances) (f : Formula) (m k label id : ℕ) (names : Names) (state : State) → InstancesAreFormed inst → IsWellSorted inst state
    → captures (for_message m (parts_of k)) f ≡ false → names.message k ≡ Some (Stored label id)
    → holds (message_substituted f m (parts_of k)) names state ≡ holds f (with_message names m (Stored label id)) state
holds-message_put inst f m k label id names state formed sorted clear e =
    holds-message_substituted f m (parts_of k) names state clear
    ∙ holds-read f (with_message names m (Given (λ part. value (new_part (parts_of k) part) names state))) (with_message names m (Stored label id)) state (record {
      own = refl;
      number = λ x. refl;
      part = λ z p. given-stored state (z == m) (λ part. value (new_part (parts_of k) part) names state) label id (names.message z) p (part-put inst state names k label id formed sorted e p);
    })

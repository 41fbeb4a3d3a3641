-- The first state is well-sorted, and each step of a node leads from a well-sorted state to a well-sorted one.
use Rattle.std.proofs.Common.{◌≡◌, ℕ, zero, suc, ◌+◌, ◌<◌, ◌≤◌, ℤ, pos, negsuc, Bool, true, false, Some, List, [], ◌∷◌, ◌++◌, refl, ap, sym, ◌∙◌, subst, cond, length, map, arith}
use Rattle.std.specs.Prelude.{Option, None, slice_get, unwrap_or, replicate}
use Rattle.dl_term.specs.declared.syntax.Sort.{Sort}
use Rattle.dl_term.specs.State.{State, Statelet, Message, statelet}
use Rattle.dl_term.specs.Names.{Names}
use Rattle.dl_model.specs.Sorts.{in_sort}
use Rattle.dl_model.specs.Lookup.{protocol_in, protocol_at, tag_at, sort_in, no_protocol, no_tag}
use Rattle.dl_model.specs.Steps.{change, put, index_of, update_fits, updated, set_cell, with_statelet, message_in, Step, Sending, Receiving, CanStep, names_of_send, names_of_receive, receive_at, consumed, statelet_sent, statelet_received, after_step}
use Rattle.std.specs.List.{AllByRecursion as Each, AllZip, range_with_len}
use Rattle.dl_model.specs.States.{FieldIsSorted, MessageIsSorted, StateletIsSorted, IsWellSorted, first_value, first_row, first_column, first_statelet, first_state, width}
use Rattle.dl_model.specs.Formed.{FieldIsFormed, InstancesAreFormed}
use Rattle.dl_term.specs.Meaning.{value, holds}
use Rattle.dl_model.specs.declared.protocol.Tag.{Tag}
use Rattle.dl_model.specs.declared.protocol.FieldDecl.{FieldDecl}
use Rattle.dl_model.specs.declared.protocol.Update.{Update}
use Rattle.dl_model.specs.declared.protocol.Protocol.{Protocol}
use Rattle.dl_model.specs.declared.protocol.Instances.{Instances}
use Rattle.dl_model.proofs.Small.{and-right, each-map}

-- ---- lists

pub each-change : {X : Type 0} (P : X → Type 0) (f : X → X) (xs : List X) (n : ℕ) → Each P xs → ((x : X) → P x → P (f x)) → Each P (change f xs n)
each-change P f [] n e h = tt
each-change P f (x ∷ xs) zero e h = (h x e.0, e.1)
each-change P f (x ∷ xs) (suc n) e h = (e.0, each-change P f xs n e.1 h)

pub length-change : {X : Type 0} (f : X → X) (xs : List X) (n : ℕ) → length (change f xs n) ≡ length xs
length-change f [] n = refl
length-change f (x ∷ xs) zero = refl
length-change f (x ∷ xs) (suc n) = ap suc (length-change f xs n)

each-put : (P : ℤ → Type 0) (row : List ℤ) (index new : ℤ) → Each P row → P new → Each P (put new row index)
each-put P row (pos index) new e h = each-change P (λ old. new) row index e (λ old p. h)
each-put P row (negsuc index) new e h = e

length-put : (row : List ℤ) (index new : ℤ) → length (put new row index) ≡ length row
length-put row (pos index) new = length-change (λ old. new) row index
length-put row (negsuc index) new = refl

each-end : {X : Type 0} (P : X → Type 0) (xs : List X) (x : X) → Each P xs → P x → Each P (xs ++ x ∷ [])
each-end P [] x e h = (h, tt)
each-end P (y ∷ ys) x e h = (e.0, each-end P ys x e.1 h)

each-replicate : {X : Type 0} (P : X → Type 0) (n : ℕ) (x : X) → P x → Each P (replicate n x)
each-replicate P zero x h = tt
each-replicate P (suc n) x h = (h, each-replicate P n x h)

length-replicate : {X : Type 0} (n : ℕ) (x : X) → length (replicate n x) ≡ n
length-replicate zero x = refl
length-replicate (suc n) x = ap suc (length-replicate n x)

length-range : {X : Type 0} (f : ℕ → X) (n k : ℕ) → length (map f (range_with_len k n)) ≡ n
length-range f zero k = refl
length-range f (suc n) k = ap suc (length-range f n (k + 1))

each-range : {X : Type 0} (P : X → Type 0) (f : ℕ → X) (n k m : ℕ) → k + n ≤ m → ((i : ℕ) → i < m → P (f i)) → Each P (map f (range_with_len k n))
each-range P f zero k m b h = tt
each-range P f (suc n) k m b h = (h k (omega arith), each-range P f n (k + 1) m (omega arith) h)

-- ---- fields

row-set : (v : ℤ) (row : List ℤ) (sort : Sort) (index : ℤ) → in_sort sort v ≡ true → Each (λ w. in_sort sort w ≡ true) row → Each (λ w. in_sort sort w ≡ true) (put v row index)
row-set v row sort index h e = each-put (λ w. in_sort sort w ≡ true) row index v e h

column-set : (nodes : ℕ) (f : FieldDecl) (column : List (List ℤ)) (node : ℕ) (index v : ℤ) → in_sort f.sort v ≡ true → FieldIsSorted nodes f column →
    FieldIsSorted nodes f (change (λ row. put v row index) column node)
column-set nodes f column node index v h s = record {
  height = length-change (λ row. put v row index) column node ∙ s.height;
  widths = each-change (λ row. length row ≡ width nodes f) (λ row. put v row index) column node s.widths (λ row e. length-put row index v ∙ e);
  sorted = each-change (Each (λ w. in_sort f.sort w ≡ true)) (λ row. put v row index) column node s.sorted (λ row e. row-set v row f.sort index h e);
}

fields-change : (nodes : ℕ) (fields : List FieldDecl) (columns : List (List (List ℤ))) (g : List (List ℤ) → List (List ℤ)) (n : ℕ) → AllZip (FieldIsSorted nodes) fields columns →
    ((f : FieldDecl) → slice_get fields n ≡ Some f → (column : List (List ℤ)) → FieldIsSorted nodes f column → FieldIsSorted nodes f (g column)) → AllZip (FieldIsSorted nodes) fields (change g columns n)
fields-change nodes [] [] g n s h = tt
fields-change nodes [] (column ∷ columns) g n s h = absurd s
fields-change nodes (f ∷ fields) [] g n s h = absurd s
fields-change nodes (f ∷ fields) (column ∷ columns) g zero s h = (h f refl column s.0, s.1)
fields-change nodes (f ∷ fields) (column ∷ columns) g (suc n) s h = (s.0, fields-change nodes fields columns g n s.1 h)

pub set-fits : (nodes : ℕ) (fields : List FieldDecl) (columns : List (List (List ℤ))) (field node : ℕ) (index v : ℤ) → AllZip (FieldIsSorted nodes) fields columns →
    in_sort (sort_in (slice_get fields field)) v ≡ true → AllZip (FieldIsSorted nodes) fields (set_cell columns field node index v)
set-fits nodes fields columns field node index v s h =
    fields-change nodes fields columns (λ column. change (λ row. put v row index) column node) field s
    (λ f e column c. column-set nodes f column node index v (subst (λ o. in_sort (sort_in o) v ≡ true) e h) c)

pub set-if : (nodes : ℕ) (fields : List FieldDecl) (columns : List (List (List ℤ))) (field node : ℕ) (index v : ℤ) (b : Bool) → AllZip (FieldIsSorted nodes) fields columns →
    (b ≡ true → in_sort (sort_in (slice_get fields field)) v ≡ true) → AllZip (FieldIsSorted nodes) fields (cond b (set_cell columns field node index v) columns)
set-if nodes fields columns field node index v true s h = set-fits nodes fields columns field node index v s (h refl)
set-if nodes fields columns field node index v false s h = s

updated-sorted : (inst : Instances) (label : ℕ) (names : Names) (s : State) (node : ℕ) (us : List Update) (columns : List (List (List ℤ))) →
    AllZip (FieldIsSorted inst.nodes) (protocol_at inst label).fields columns → AllZip (FieldIsSorted inst.nodes) (protocol_at inst label).fields (updated inst label names s node us columns)
updated-sorted inst label names s node [] columns h = h
updated-sorted inst label names s node (u ∷ us) columns h =
    updated-sorted inst label names s node us _
    (set-if inst.nodes (protocol_at inst label).fields columns u.field node (index_of u.index names s) (value u.value names s) (update_fits inst label names s u) h
    (λ e. and-right _ _ e))

-- ---- statelets

-- a statelet after another one, or the same, was written
pub statelet-written : (P : Statelet → Type 0) (xs : List Statelet) (new e : Statelet) (label other : ℕ) →
    P (unwrap_or (slice_get xs other) e) → (other ≡ label → P new) → P (unwrap_or (slice_get (change (λ old. new) xs label) other) e)
statelet-written P [] new e label other h k = h
statelet-written P (x ∷ xs) new e zero zero h k = k refl
statelet-written P (x ∷ xs) new e zero (suc other) h k = h
statelet-written P (x ∷ xs) new e (suc label) zero h k = h
statelet-written P (x ∷ xs) new e (suc label) (suc other) h k = statelet-written P xs new e label other h (λ q. k (ap suc q))

written-sorted : (inst : Instances) (s : State) (label : ℕ) (new : Statelet) → IsWellSorted inst s → StateletIsSorted inst label new → IsWellSorted inst (with_statelet s label new)
written-sorted inst s label new h w = record {
  nodes = h.nodes;
  labels = length-change (λ old. new) s.labels label ∙ h.labels;
  each = λ other. statelet-written (StateletIsSorted inst other) s.labels new (record { fields = []; soup = [] }) label other (h.each other)
      (λ e. subst (λ l. StateletIsSorted inst l new) (sym e) w);
}

consumed-sorted : (inst : Instances) (label : ℕ) (m : Message) → MessageIsSorted inst label m → MessageIsSorted inst label (consumed m)
consumed-sorted inst label m h = record { tag = h.tag; from = h.from; to = h.to; args = h.args }

-- a tag whose send has a guard that holds is one of the protocol's
tag-known : (tags : List Tag) (tag : ℕ) (names : Names) (s : State) → holds (unwrap_or (slice_get tags tag) no_tag).send.guard names s ≡ true → tag < length tags
tag-known [] tag names s h = cc
tag-known (t ∷ tags) zero names s h = omega arith
tag-known (t ∷ tags) (suc tag) names s h = let b = tag-known tags tag names s h in omega arith

pub step-sorted : (inst : Instances) (s : State) (node : ℕ) (step : Step) → IsWellSorted inst s → node < inst.nodes → CanStep inst s node step → IsWellSorted inst (after_step inst s node step)
step-sorted inst s node (Sending label tag to args) h k c = written-sorted inst s label (statelet_sent inst s node label tag to args) h (record {
  fields = updated-sorted inst label (names_of_send inst label tag node to args) s node (tag_at inst label tag).send.updates (statelet s label).fields (h.each label).fields;
  soup = each-end (MessageIsSorted inst label) (statelet s label).soup _ (h.each label).soup (record { tag = tag-known (protocol_at inst label).tags tag (names_of_send inst label tag node to args) s c.guard; from = k; to = c.addressee; args = c.arguments });
})
step-sorted inst s node (Receiving label id) h k c = written-sorted inst s label (statelet_received inst s node label id) h (record {
  fields = updated-sorted inst label (names_of_receive inst label (message_in s label id) node) s node (receive_at inst label (message_in s label id)).updates (statelet s label).fields (h.each label).fields;
  soup = each-change (MessageIsSorted inst label) consumed (statelet s label).soup id (h.each label).soup (consumed-sorted inst label);
})

-- ---- the first state

first-fields : (nodes : ℕ) (fields : List FieldDecl) → Each (λ f. (node : ℕ) → node < nodes → in_sort f.sort (first_value f node) ≡ true) fields →
    AllZip (FieldIsSorted nodes) fields (map (first_column nodes) fields)
first-fields nodes [] h = tt
first-fields nodes (f ∷ fields) h = (
  record {
    height = length-range (first_row nodes f) nodes 0;
    widths = each-range (λ row. length row ≡ width nodes f) (first_row nodes f) nodes 0 nodes (omega arith) (λ node b. length-replicate (width nodes f) (first_value f node));
    sorted = each-range (Each (λ v. in_sort f.sort v ≡ true)) (first_row nodes f) nodes 0 nodes (omega arith)
        (λ node b. each-replicate (λ v. in_sort f.sort v ≡ true) (width nodes f) (first_value f node) (h.0 node b));
  },
  first-fields nodes fields h.1,
)

first-at : (inst : Instances) (P : Protocol → Statelet → Type 0) (of : List ℕ) (label : ℕ) → P no_protocol (record { fields = []; soup = [] }) → ((p : ℕ) → slice_get of label ≡ Some p → P (protocol_in inst (Some p)) (first_statelet inst p)) →
    P (protocol_in inst (slice_get of label)) (unwrap_or (slice_get (map (first_statelet inst) of) label) (record { fields = []; soup = [] }))
first-at inst P [] label h k = h
first-at inst P (p ∷ of) zero h k = k p refl
first-at inst P (p ∷ of) (suc label) h k = first-at inst P of label h k

length-mapped : {X Y : Type 0} (f : X → Y) (xs : List X) → length (map f xs) ≡ length xs
length-mapped f [] = refl
length-mapped f (x ∷ xs) = ap suc (length-mapped f xs)

-- what holds of no protocol and of each declared one holds of the protocol of each label
pub protocol-has : (inst : Instances) (P : Protocol → Type 0) → P no_protocol → ((p : ℕ) (protocol : Protocol) → slice_get inst.protocols p ≡ Some protocol → P protocol) →
    (o : Option ℕ) → P (protocol_in inst o)
protocol-has inst P h k None = h
protocol-has inst P h k (Some p) = go (slice_get inst.protocols p) refl
  where
    go : (o : Option Protocol) → slice_get inst.protocols p ≡ o → P (unwrap_or o no_protocol)
    go None e = h
    go (Some protocol) e = k p protocol e

pub firsts-fit : (inst : Instances) → InstancesAreFormed inst → (o : Option ℕ) →
    Each (λ f. (node : ℕ) → node < inst.nodes → in_sort f.sort (first_value f node) ≡ true) (protocol_in inst o).fields
firsts-fit inst h o = protocol-has inst (λ protocol. Each (λ f. (node : ℕ) → node < inst.nodes → in_sort f.sort (first_value f node) ≡ true) protocol.fields) tt
    (λ p protocol e. each-map (FieldIsFormed inst.nodes) _ protocol.fields (h.protocols p protocol e).fields (λ f k. k.first_in_sort)) o

pub first-sorted : (inst : Instances) → InstancesAreFormed inst → IsWellSorted inst (first_state inst)
first-sorted inst h = record {
  nodes = refl;
  labels = length-mapped (first_statelet inst) inst.of;
  each = λ label. record {
    fields = first-at inst (λ p st. AllZip (FieldIsSorted inst.nodes) p.fields st.fields) inst.of label tt
        (λ p e. first-fields inst.nodes (protocol_in inst (Some p)).fields (firsts-fit inst h (Some p)));
    soup = first-at inst (λ p st. Each (MessageIsSorted inst label) st.soup) inst.of label tt (λ p e. tt);
  };
}

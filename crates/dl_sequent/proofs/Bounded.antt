-- A term lies between its bounds in every well-sorted state.
use Rattle.std.proofs.Common.{◌≡◌, ◌<◌, ℕ, zero, suc, ℤ, pos, negsuc, ◌≤ℤ◌, ◌-ℤ◌, int_le, T, Bool, true, false, ◌&&◌, ◌==◌, if◌then◌else◌, List, [], ◌∷◌, length, slice_get, unwrap_or, Option, Some, None, IfSome, refl, sym, ◌∙◌, ap, subst, eqb-true, lt-ltb, arith}
use Rattle.std.proofs.lemmas.Int.{ints}
use Rattle.std.specs.Int.Signed.{le_z_yes}
use borrow.Author.Tests.{ltb-true}
use Rattle.std.specs.Option.{option_map, option_and_then}
use Rattle.std.specs.List.{AllByRecursion as Each, AllZip, find}
use Rattle.dl_term.specs.declared.syntax.Lab.{Lab}
use Rattle.dl_term.specs.declared.syntax.Lab.TheVariants.{Own, At}
use Rattle.dl_term.specs.declared.syntax.Part.{Part}
use Rattle.dl_term.specs.declared.syntax.Part.TheVariants.{Id, From, To, Live, Arg}
use Rattle.dl_term.specs.declared.syntax.Sort.{Sort}
use Rattle.dl_term.specs.declared.syntax.Term.{Term, Num, Word, Var, Field', Row', Len, Msg, Add', Sub', Mul', If', more_of-Term as one, end_of-Term as end}
use Rattle.dl_term.specs.State.{Message, State, item, cell, statelet, field_at, soup_at, tag_of, part_of, part_at}
use Rattle.dl_term.specs.Names.{Names, label_of}
use Rattle.dl_term.specs.Meaning.{value, part_in, IsMessageOf}
use Rattle.dl_model.specs.declared.protocol.FieldDecl.{FieldDecl}
use Rattle.dl_model.specs.declared.protocol.Tag.{Tag}
use Rattle.dl_model.specs.declared.protocol.Protocol.{Protocol}
use Rattle.dl_model.specs.declared.protocol.Instances.{Instances}
use Rattle.dl_model.specs.declared.sequent.Sequent.{Sequent}
use Rattle.dl_model.specs.Sorts.{in_sort, is_node, all_in_sorts}
use Rattle.dl_model.specs.Lookup.{Parameter, no_protocol, no_tag, protocol_in, protocol_at, tag_at, arg_sorts}
use Rattle.dl_model.specs.Scopes.{protocol_found}
use Rattle.dl_model.specs.States.{FieldIsSorted, MessageIsSorted, IsWellSorted}
use Rattle.dl_model.specs.Sequents.{message_label, StandsForMessage}
use Rattle.dl_sequent.specs.Bounds.{sort_of, Declared, message_of, written_label, protocol_of, node_sort, live_sort, one_number, field_sort, arg_in, part_sort, bounds_of, lies_in, is_node_term}
use Rattle.dl_sequent.specs.Grounds.{IsGrounded, IsOwn, LiesBetween, StandsForNode}

-- a sort holds 0
abbrev pub HoldsZero : Sort → Type 0
HoldsZero sort = in_sort sort (pos 0) ≡ true

both : (a b : Bool) → a ≡ true → b ≡ true → (a && b) ≡ true
both a b p q = rw (p, q) refl

and-left : (a b : Bool) → (a && b) ≡ true → a ≡ true
and-left true b h = refl
and-left false b h = cc

and-right : (a b : Bool) → (a && b) ≡ true → b ≡ true
and-right true b h = h
and-right false b h = cc

from-T : (b : Bool) → T b → b ≡ true
from-T true h = refl
from-T false h = absurd h

to-T : (b : Bool) → b ≡ true → T b
to-T true h = tt
to-T false h = cc

le-true : (a b : ℤ) → int_le a b ≡ true → a ≤ℤ b
le-true a b h = le_z_yes (to-T (int_le a b) h)

le-test : (a b : ℤ) → a ≤ℤ b → int_le a b ≡ true
le-test a b h = from-T (int_le a b) h.le

at-value : (v : ℤ) (sort : Sort) → Some (one_number v) ≡ Some sort → in_sort sort v ≡ true
at-value v sort h =
    let is : one_number v ≡ sort = cc in
    let same : int_le v v ≡ true = le-test v v (omega (arith, ints)) in
    subst (λ (s : Sort). in_sort s v ≡ true) is (both _ _ same same)

-- what `map` or a step after it made of an option
then-found : {X Y : Type 0} (o : Option X) (f : X → Option Y) (y : Y) → option_and_then f o ≡ Some y → (x : X) × (o ≡ Some x) × (f x ≡ Some y)
then-found (Some x) f y h = (x, refl, h)
then-found None f y h = cc

map-found : {X Y : Type 0} (o : Option X) (f : X → Y) (y : Y) → option_map f o ≡ Some y → (x : X) × (o ≡ Some x) × (f x ≡ y)
map-found (Some x) f y h = let is : f x ≡ y = cc in (x, refl, is)
map-found None f y h = cc

-- ---- variables and messages of the sequent

-- what is found passes the test, and what is said of each element is said of it
pub found-is : {X : Type 0} (test : X → Bool) (P : X → Type 0) (xs : List X) (x : X) → find test xs ≡ Some x → Each P xs → (test x ≡ true) × P x
found-is test P [] x h each = cc
found-is test P (y ∷ ys) x h each = by_test (test y) refl h (λ g. found-is test P ys x g each.1)
  where
    by_test : (b : Bool) → test y ≡ b → (if b then Some y else find test ys) ≡ Some x → (find test ys ≡ Some x → (test x ≡ true) × P x) → (test x ≡ true) × P x
    by_test true e g later = let is : y ≡ x = cc in (subst (λ z. test z ≡ true) is e, subst P is each.0)
    by_test false e g later = later g

variable-fits : (vars : List Parameter) (name : ℕ) (sort : Sort) (numbers : ℕ → ℤ) → sort_of vars name ≡ Some sort → Each (λ (v : Parameter). in_sort v.1 (numbers v.0) ≡ true) vars → in_sort sort (numbers name) ≡ true
variable-fits vars name sort numbers h each =
    let var = map-found (find (λ (v : Parameter). v.0 == name) vars) (λ (v : Parameter). v.1) sort h in
    let is = found-is (λ (v : Parameter). v.0 == name) (λ (v : Parameter). in_sort v.1 (numbers v.0) ≡ true) vars var.0 var.1 each in
    subst (λ x. in_sort sort (numbers x) ≡ true) (eqb-true var.0.0 name is.0)
    (subst (λ (s : Sort). in_sort s (numbers var.0.0) ≡ true) var.2 is.1)

pub message-stands : (messages : List Declared) (name : ℕ) (m : Declared) (own : ℕ) (state : State) (names : Names) → message_of messages name ≡ Some m
    → Each (λ (k : Declared). StandsForMessage state names k.0 (message_label own k.1) k.2) messages → StandsForMessage state names name (message_label own m.1) m.2
message-stands messages name m own state names h each =
    let is = found-is (λ (k : Declared). k.0 == name) (λ (k : Declared). StandsForMessage state names k.0 (message_label own k.1) k.2) messages m h each in
    subst (λ x. StandsForMessage state names x (message_label own m.1) m.2) (eqb-true m.0 name is.0) is.1

-- ---- what the state of a label has

each-at : {X : Type 0} (P : X → Type 0) (xs : List X) (i : ℕ) (x : X) → slice_get xs i ≡ Some x → Each P xs → P x
each-at P [] i x e h = cc
each-at P (y ∷ ys) zero x e h = let is : y ≡ x = cc in subst P is h.0
each-at P (y ∷ ys) (suc i) x e h = each-at P ys i x e h.1

found-protocol : (inst : Instances) (number : Option ℕ) (p : Protocol) → protocol_found inst number ≡ Some p → protocol_in inst number ≡ p
found-protocol inst (Some number) p h = ap (λ o. unwrap_or o no_protocol) h
found-protocol inst None p h = cc

-- the protocol of the label that a formula writes
label-protocol : (inst : Instances) (own : Option ℕ) (label : Lab) (p : Protocol) (self : ℕ) → protocol_of inst own label ≡ Some p → IsOwn inst own self → protocol_at inst (label_of self label) ≡ p
label-protocol inst (Some number) Own p self e is = ap (protocol_in inst) is ∙ found-protocol inst (Some number) p e
label-protocol inst None Own p self e is = cc
label-protocol inst own (At label) p self e is = found-protocol inst (slice_get inst.of label) p e

number-of : (inst : Instances) (number : Option ℕ) (p : Protocol) → protocol_found inst number ≡ Some p → (n : ℕ) × (slice_get inst.protocols n ≡ Some p)
number-of inst (Some number) p h = (number, h)
number-of inst None p h = cc

protocol-number : (inst : Instances) (own : Option ℕ) (label : Lab) (p : Protocol) → protocol_of inst own label ≡ Some p → (n : ℕ) × (slice_get inst.protocols n ≡ Some p)
protocol-number inst own Own p e = number-of inst own p e
protocol-number inst own (At label) p e = number-of inst (slice_get inst.of label) p e

item-sorted : (sort : Sort) (cells : List ℤ) (index : ℤ) → HoldsZero sort → Each (λ v. in_sort sort v ≡ true) cells → in_sort sort (item cells index (pos 0)) ≡ true
item-sorted sort [] (pos i) zero_in each = zero_in
item-sorted sort cells (negsuc i) zero_in each = zero_in
item-sorted sort (v ∷ vs) (pos zero) zero_in each = each.0
item-sorted sort (v ∷ vs) (pos (suc i)) zero_in each = item-sorted sort vs (pos i) zero_in each.1

column-sorted : (sort : Sort) (column : List (List ℤ)) (node index : ℤ) → HoldsZero sort → Each (Each (λ v. in_sort sort v ≡ true)) column → in_sort sort (item (item column node []) index (pos 0)) ≡ true
column-sorted sort [] (pos i) index zero_in each = item-sorted sort [] index zero_in tt
column-sorted sort column (negsuc i) index zero_in each = item-sorted sort [] index zero_in tt
column-sorted sort (c ∷ cs) (pos zero) index zero_in each = item-sorted sort c index zero_in each.0
column-sorted sort (c ∷ cs) (pos (suc i)) index zero_in each = column-sorted sort cs (pos i) index zero_in each.1

cell-sorted : (nodes : ℕ) (fs : List FieldDecl) (columns : List (List (List ℤ))) (field : ℕ) (f : FieldDecl) (node index : ℤ) → slice_get fs field ≡ Some f → HoldsZero f.sort → AllZip (FieldIsSorted nodes) fs columns → in_sort f.sort (cell columns field node index) ≡ true
cell-sorted nodes [] [] field f node index e zero_in all = cc
cell-sorted nodes [] (c ∷ cs) field f node index e zero_in all = absurd all
cell-sorted nodes (g ∷ gs) [] field f node index e zero_in all = absurd all
cell-sorted nodes (g ∷ gs) (c ∷ cs) zero f node index e zero_in all =
    let is : g ≡ f = cc in
    column-sorted f.sort c node index zero_in (subst (λ (x : FieldDecl). Each (Each (λ v. in_sort x.sort v ≡ true)) c) is all.0.sorted)
cell-sorted nodes (g ∷ gs) (c ∷ cs) (suc field) f node index e zero_in all = cell-sorted nodes gs cs field f node index e zero_in all.1

field-fits : (inst : Instances) (own : Option ℕ) (label : Lab) (field : ℕ) (sort : Sort) (self : ℕ) (state : State) (node index : ℤ) → field_sort (protocol_of inst own label) field ≡ Some sort → IsOwn inst own self → IsGrounded inst → IsWellSorted inst state
    → in_sort sort (field_at state (label_of self label) field node index) ≡ true
field-fits inst own label field sort self state node index e is grounded sorted =
    let p = then-found (protocol_of inst own label) (λ (p : Protocol). option_map (λ (f : FieldDecl). f.sort) (slice_get p.fields field)) sort e in
    let f = map-found (slice_get p.0.fields field) (λ (f : FieldDecl). f.sort) sort p.2 in
    let number = protocol-number inst own label p.0 p.1 in
    let zero_in = each-at (λ (f : FieldDecl). HoldsZero f.sort) p.0.fields field f.0 f.1 (grounded.zeros number.0 p.0 number.1) in
    let columns = (sorted.each (label_of self label)).fields in
    let there = subst (λ (q : Protocol). AllZip (FieldIsSorted inst.nodes) q.fields (statelet state (label_of self label)).fields) (label-protocol inst own label p.0 self p.1 is) columns in
    subst (λ (s : Sort). in_sort s (field_at state (label_of self label) field node index) ≡ true) f.2
    (cell-sorted inst.nodes p.0.fields (statelet state (label_of self label)).fields field f.0 node index f.1 zero_in there)

-- ---- the parts of a message

node-in-sort : (nodes : ℕ) (v : ℤ) → is_node nodes v ≡ true → in_sort (node_sort nodes) v ≡ true
node-in-sort nodes (pos n) h =
    let lt : n < nodes = ltb-true n nodes h in
    both _ _ (le-test (pos 0) (pos n) (omega (arith, ints))) (le-test (pos n) (pos nodes -ℤ pos 1) (omega (arith, ints)))
node-in-sort nodes (negsuc n) h = cc

live-fits : (live : Bool) → in_sort live_sort (if live then pos 1 else pos 0) ≡ true
live-fits true = refl
live-fits false = refl

args-fit : (args : List Parameter) (values : List ℤ) (k : ℕ) → all_in_sorts (arg_sorts args) values ≡ true → in_sort (arg_in (slice_get args k)) (item values (pos k) (pos 0)) ≡ true
args-fit [] [] k h = refl
args-fit [] (v ∷ vs) k h = cc
args-fit (a ∷ rest) [] k h = cc
args-fit (a ∷ rest) (v ∷ vs) zero h = and-left _ _ h
args-fit (a ∷ rest) (v ∷ vs) (suc k) h = args-fit rest vs k (and-right (in_sort a.1 v) _ h)

message-sorted : (inst : Instances) (label : ℕ) (soup : List Message) (id : ℕ) → id < length soup → Each (MessageIsSorted inst label) soup → (m : Message) × (slice_get soup id ≡ Some m) × MessageIsSorted inst label m
message-sorted inst label [] id lt each = absurd (omega arith)
message-sorted inst label (m ∷ ms) zero lt each = (m, refl, each.0)
message-sorted inst label (m ∷ ms) (suc id) lt each = message-sorted inst label ms id (omega arith) each.1

-- a message's label, as it is written and as it is told
label-told : (own label : ℕ) → label_of own (written_label label) ≡ message_label own label
label-told own label = by_test (label == 255)
  where
    by_test : (test : Bool) → label_of own (if test then Own else At label) ≡ (if test then own else label)
    by_test true = refl
    by_test false = refl

part-fits : (inst : Instances) (own : Option ℕ) (part : Part) (m : Declared) (sort : Sort) (self id : ℕ) (state : State) → part_sort inst own part m ≡ Some sort → IsOwn inst own self → IsWellSorted inst state
    → IsMessageOf state (message_label self m.1) m.2 id → in_sort sort (part_at state (message_label self m.1) id part) ≡ true
part-fits inst own Id m sort self id state e is sorted this = cc
part-fits inst own From m sort self id state e is sorted this =
    let there = message-sorted inst (message_label self m.1) (soup_at state (message_label self m.1)) id this.0 (sorted.each (message_label self m.1)).soup in
    let same : node_sort inst.nodes ≡ sort = cc in
    subst (λ (s : Sort). in_sort s (part_at state (message_label self m.1) id From) ≡ true) same
    (ap (λ o. in_sort (node_sort inst.nodes) (part_of id o From)) there.1 ∙ node-in-sort inst.nodes (pos there.0.from) (lt-ltb _ _ there.2.from))
part-fits inst own To m sort self id state e is sorted this =
    let there = message-sorted inst (message_label self m.1) (soup_at state (message_label self m.1)) id this.0 (sorted.each (message_label self m.1)).soup in
    let same : node_sort inst.nodes ≡ sort = cc in
    subst (λ (s : Sort). in_sort s (part_at state (message_label self m.1) id To) ≡ true) same
    (ap (λ o. in_sort (node_sort inst.nodes) (part_of id o To)) there.1 ∙ node-in-sort inst.nodes there.0.to there.2.to)
part-fits inst own Live m sort self id state e is sorted this =
    let there = message-sorted inst (message_label self m.1) (soup_at state (message_label self m.1)) id this.0 (sorted.each (message_label self m.1)).soup in
    let same : live_sort ≡ sort = cc in
    subst (λ (s : Sort). in_sort s (part_at state (message_label self m.1) id Live) ≡ true) same
    (ap (λ o. in_sort live_sort (part_of id o Live)) there.1 ∙ live-fits there.0.live)
part-fits inst own (Arg k) m sort self id state e is sorted this =
    let p = then-found (protocol_of inst own (written_label m.1)) (λ (p : Protocol). option_map (λ (t : Tag). arg_in (slice_get t.args k)) (slice_get p.tags m.2)) sort e in
    let t = map-found (slice_get p.0.tags m.2) (λ (t : Tag). arg_in (slice_get t.args k)) sort p.2 in
    let there = message-sorted inst (message_label self m.1) (soup_at state (message_label self m.1)) id this.0 (sorted.each (message_label self m.1)).soup in
    let label_is : protocol_at inst (message_label self m.1) ≡ p.0 = subst (λ l. protocol_at inst l ≡ p.0) (label-told self m.1) (label-protocol inst own (written_label m.1) p.0 self p.1 is) in
    let tag_is : there.0.tag ≡ m.2 = sym (ap tag_of there.1) ∙ this.1 in
    let declared : tag_at inst (message_label self m.1) there.0.tag ≡ t.0 = (λ i. unwrap_or (slice_get (label_is i).tags (tag_is i)) no_tag) ∙ ap (λ o. unwrap_or o no_tag) t.1 in
    let args = subst (λ (d : Tag). all_in_sorts (arg_sorts d.args) there.0.args ≡ true) declared there.2.args in
    subst (λ (s : Sort). in_sort s (part_at state (message_label self m.1) id (Arg k)) ≡ true) t.2
    (ap (λ o. in_sort (arg_in (slice_get t.0.args k)) (part_of id o (Arg k))) there.1 ∙ args-fit t.0.args there.0.args k args)

-- ---- terms

pub bounds-sound : (inst : Instances) (s : Sequent) (t : Term) (sort : Sort) → IsGrounded inst → bounds_of inst s t ≡ Some sort → LiesBetween inst s t sort
bounds-sound inst s (Num v) sort grounded e own state names is sorted fits = at-value v sort e
bounds-sound inst s (Word sym v) sort grounded e own state names is sorted fits = at-value v sort e
bounds-sound inst s (Var name) sort grounded e own state names is sorted fits = variable-fits s.vars name sort names.number e fits.variables
bounds-sound inst s (Field' label field _ (one node end)) sort grounded e own state names is sorted fits =
    subst (λ l. in_sort sort (field_at state (label_of l label) field (value node names state) (pos 0)) ≡ true) (sym fits.own_label)
    (field-fits inst s.own label field sort own state (value node names state) (pos 0) e is grounded sorted)
bounds-sound inst s (Row' label field _ (one node end) _ (one index end)) sort grounded e own state names is sorted fits =
    subst (λ l. in_sort sort (field_at state (label_of l label) field (value node names state) (value index names state)) ≡ true) (sym fits.own_label)
    (field-fits inst s.own label field sort own state (value node names state) (value index names state) e is grounded sorted)
bounds-sound inst s (Msg name part) sort grounded e own state names is sorted fits =
    let m = then-found (message_of s.messages name) (part_sort inst s.own part) sort e in
    let stands = message-stands s.messages name m.0 own state names m.1 fits.messages in
    subst (λ o. in_sort sort (part_in state o part) ≡ true) (sym stands.1)
    (part-fits inst s.own part m.0 sort own stands.0 state m.2 is sorted stands.2)
bounds-sound inst s (Len label) sort grounded e own state names is sorted fits = cc
bounds-sound inst s (Add' _ (one a end) _ (one b end)) sort grounded e own state names is sorted fits = cc
bounds-sound inst s (Sub' _ (one a end) _ (one b end)) sort grounded e own state names is sorted fits = cc
bounds-sound inst s (Mul' _ (one a end) _ (one b end)) sort grounded e own state names is sorted fits = cc
bounds-sound inst s (If' _ (one a end) _ (one b end) _ (one x end) _ (one y end)) sort grounded e own state names is sorted fits = cc

pub some-bounds-sound : (inst : Instances) (s : Sequent) (t : Term) (o : Option Sort) → IsGrounded inst → o ≡ bounds_of inst s t → IfSome o (λ sort. LiesBetween inst s t sort)
some-bounds-sound inst s t None grounded e = tt
some-bounds-sound inst s t (Some sort) grounded e = bounds-sound inst s t sort grounded (sym e)

node-back : (nodes : ℕ) (v : ℤ) (sort : Sort) → lies_in (Some sort) (node_sort nodes) ≡ true → in_sort sort v ≡ true → (k : ℕ) × (v ≡ pos k) × (k < nodes)
node-back nodes (pos k) sort h g =
    let b = le-true sort.high (pos nodes -ℤ pos 1) (and-right (int_le (pos 0) sort.low) _ h) in
    let d = le-true (pos k) sort.high (and-right (int_le sort.low (pos k)) _ g) in
    (k, refl, omega (arith, ints, b, d))
node-back nodes (negsuc k) sort h g =
    let a = le-true (pos 0) sort.low (and-left (int_le (pos 0) sort.low) _ h) in
    let c = le-true sort.low (negsuc k) (and-left (int_le sort.low (negsuc k)) _ g) in
    absurd (omega (arith, ints, a, c))

-- a node term stands for a node
pub node-term-sound : (inst : Instances) (s : Sequent) (t : Term) → IsGrounded inst → is_node_term inst s t ≡ true → StandsForNode inst s t
node-term-sound inst s t grounded h own state names is sorted fits = by_bounds (bounds_of inst s t) refl h
  where
    by_bounds : (o : Option Sort) → bounds_of inst s t ≡ o → lies_in o (node_sort inst.nodes) ≡ true → (k : ℕ) × (value t names state ≡ pos k) × (k < inst.nodes)
    by_bounds None e g = cc
    by_bounds (Some sort) e g = node-back inst.nodes (value t names state) sort g (bounds-sound inst s t sort grounded e own state names is sorted fits)

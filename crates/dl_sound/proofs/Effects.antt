-- What a move does to the state, and that it keeps each formula that it does not touch.
use Rattle.std.proofs.Common.{◌≡◌, ℕ, zero, suc, ◌<◌, ◌==◌, ℤ, pos, negsuc, Bool, true, false, Some, List, [], ◌∷◌, ◌++◌, refl, ap, sym, ◌∙◌, cond, length, map, arith, ◌⊎◌, inl, inr}
use Rattle.std.proofs.lemmas.Bool.{eqb-false}
use Rattle.std.specs.Prelude.{slice_get, unwrap_or}
use Rattle.dl_term.specs.declared.syntax.Part.{Part}
use Rattle.dl_term.specs.declared.syntax.Part.TheVariants.{Id, From, To, Live, Arg}
use Rattle.dl_term.specs.declared.syntax.Formula.{Formula}
use Rattle.dl_term.specs.State.{State, Statelet, Message, statelet, soup_at, message_at, tag_of, part_of, part_at, item, cell, field_at}
use Rattle.dl_term.specs.Names.{Names}
use Rattle.dl_model.specs.Sorts.{has}
use Rattle.dl_model.specs.Lookup.{tag_at}
use Rattle.dl_model.specs.Steps.{change, put, set_cell, update_fits, updated, index_of, Step, Sending, Receiving, label_of_step, after_step, message_in, consumed, statelet_sent, statelet_received, names_of_send, names_of_receive, receive_at}
use Rattle.dl_model.specs.Spoken.{bound_names}
use Rattle.dl_model.specs.Words.{me_word}
use Rattle.dl_inv.specs.Touched.{fields_of, formula_touched, none_live}
use Rattle.dl_sound.specs.Touched.{touch_of, Known}
use Rattle.dl_term.specs.Meaning.{value, holds}
use Rattle.dl_model.specs.declared.protocol.Update.{Update}
use Rattle.dl_model.specs.declared.protocol.Instances.{Instances}
use Rattle.dl_model.proofs.Sorted.{length-change, statelet-written}
use Rattle.dl_sound.proofs.Kept.{statelet-other}
use Rattle.dl_sound.proofs.Untouched.{Effect, holds-untouched}
use Rattle.dl_model.proofs.Small.{or-left, or-right}

-- ---- lists

pub change-other : {X : Type 0} (f : X → X) (xs : List X) (n m : ℕ) → (m ≡ n → ⊥) → slice_get (change f xs n) m ≡ slice_get xs m
change-other f [] n m h = refl
change-other f (x ∷ xs) zero zero h = absurd (h refl)
change-other f (x ∷ xs) zero (suc m) h = refl
change-other f (x ∷ xs) (suc n) zero h = refl
change-other f (x ∷ xs) (suc n) (suc m) h = change-other f xs n m (λ e. h (ap suc e))

pub get-append : {X : Type 0} (xs ys : List X) (n : ℕ) → n < length xs → slice_get (xs ++ ys) n ≡ slice_get xs n
get-append [] ys n h = absurd (omega arith)
get-append (x ∷ xs) ys zero h = refl
get-append (x ∷ xs) ys (suc n) h = get-append xs ys n (omega arith)

pub get-end : {X : Type 0} (xs : List X) (y : X) → slice_get (xs ++ y ∷ []) (length xs) ≡ Some y
get-end [] y = refl
get-end (x ∷ xs) y = get-end xs y

pub length-end : {X : Type 0} (xs : List X) (y : X) → length (xs ++ y ∷ []) ≡ suc (length xs)
length-end [] y = refl
length-end (x ∷ xs) y = ap suc (length-end xs y)

-- ---- fields

pub cell-field : (columns : List (List (List ℤ))) (f mover : ℕ) (i v : ℤ) (field : ℕ) (node index : ℤ) → (field ≡ f → ⊥) → cell (set_cell columns f mover i v) field node index ≡ cell columns field node index
cell-field columns f mover i v field node index h = ap (λ o. item (item (unwrap_or o []) node []) index (pos 0)) (change-other (λ column. change (λ row. put v row i) column mover) columns f field h)

row-other : (g : List ℤ → List ℤ) (column : List (List ℤ)) (mover : ℕ) (node : ℤ) → (node ≡ pos mover → ⊥) → item (change g column mover) node [] ≡ item column node []
row-other g column mover (pos n) h = ap (λ o. unwrap_or o []) (change-other g column mover n (λ e. h (ap pos e)))
row-other g column mover (negsuc n) h = refl

column-other : (g : List (List ℤ) → List (List ℤ)) (node : ℤ) → ((column : List (List ℤ)) → item (g column) node [] ≡ item column node []) → (columns : List (List (List ℤ))) (f field : ℕ) →
    item (unwrap_or (slice_get (change g columns f) field) []) node [] ≡ item (unwrap_or (slice_get columns field) []) node []
column-other g node h [] f field = refl
column-other g node h (c ∷ cs) zero zero = h c
column-other g node h (c ∷ cs) zero (suc field) = refl
column-other g node h (c ∷ cs) (suc f) zero = refl
column-other g node h (c ∷ cs) (suc f) (suc field) = column-other g node h cs f field

cell-node : (columns : List (List (List ℤ))) (f mover : ℕ) (i v : ℤ) (field : ℕ) (node index : ℤ) → (node ≡ pos mover → ⊥) → cell (set_cell columns f mover i v) field node index ≡ cell columns field node index
cell-node columns f mover i v field node index h =
    ap (λ row. item row index (pos 0)) (column-other (λ column. change (λ row. put v row i) column mover) node (λ column. row-other (λ row. put v row i) column mover node h) columns f field)

cell-if : (b : Bool) (columns : List (List (List ℤ))) (f mover : ℕ) (i v : ℤ) (field : ℕ) (node index : ℤ) → cell (set_cell columns f mover i v) field node index ≡ cell columns field node index →
    cell (cond b (set_cell columns f mover i v) columns) field node index ≡ cell columns field node index
cell-if true columns f mover i v field node index h = h
cell-if false columns f mover i v field node index h = refl

pub updated-field : (inst : Instances) (label : ℕ) (names : Names) (s : State) (mover : ℕ) (us : List Update) (columns : List (List (List ℤ))) (field : ℕ) (node index : ℤ) → has (map (λ u. u.field) us) field ≡ false →
    cell (updated inst label names s mover us columns) field node index ≡ cell columns field node index
updated-field inst label names s mover [] columns field node index h = refl
updated-field inst label names s mover (u ∷ us) columns field node index h =
    updated-field inst label names s mover us _ field node index (or-right (field == u.field) _ h)
    ∙ cell-if (update_fits inst label names s u) columns u.field mover (index_of u.index names s) (value u.value names s) field node index
    (cell-field columns u.field mover (index_of u.index names s) (value u.value names s) field node index (eqb-false field u.field (or-left (field == u.field) _ h)))

updated-node : (inst : Instances) (label : ℕ) (names : Names) (s : State) (mover : ℕ) (us : List Update) (columns : List (List (List ℤ))) (field : ℕ) (node index : ℤ) → (node ≡ pos mover → ⊥) →
    cell (updated inst label names s mover us columns) field node index ≡ cell columns field node index
updated-node inst label names s mover [] columns field node index h = refl
updated-node inst label names s mover (u ∷ us) columns field node index h =
    updated-node inst label names s mover us _ field node index h
    ∙ cell-if (update_fits inst label names s u) columns u.field mover (index_of u.index names s) (value u.value names s) field node index
    (cell-node columns u.field mover (index_of u.index names s) (value u.value names s) field node index h)

-- ---- messages

pub consumed-tag : (soup : List Message) (k id : ℕ) → tag_of (slice_get soup id) ≡ tag_of (slice_get (change consumed soup k) id)
consumed-tag [] k id = refl
consumed-tag (m ∷ ms) zero zero = refl
consumed-tag (m ∷ ms) zero (suc id) = refl
consumed-tag (m ∷ ms) (suc k) zero = refl
consumed-tag (m ∷ ms) (suc k) (suc id) = consumed-tag ms k id

consumed-stays_one : (m : Message) (id : ℕ) (part : Part) → (part ≡ Live → ⊥) → part_of id (Some m) part ≡ part_of id (Some (consumed m)) part
consumed-stays_one m id Id h = refl
consumed-stays_one m id From h = refl
consumed-stays_one m id To h = refl
consumed-stays_one m id Live h = absurd (h refl)
consumed-stays_one m id (Arg k) h = refl

pub consumed-stays : (soup : List Message) (k at id : ℕ) (part : Part) → (part ≡ Live → ⊥) → part_of id (slice_get soup at) part ≡ part_of id (slice_get (change consumed soup k) at) part
consumed-stays [] k at id part h = refl
consumed-stays (m ∷ ms) zero zero id part h = consumed-stays_one m id part h
consumed-stays (m ∷ ms) zero (suc at) id part h = refl
consumed-stays (m ∷ ms) (suc k) zero id part h = refl
consumed-stays (m ∷ ms) (suc k) (suc at) id part h = consumed-stays ms k at id part h

tag-there : (soup : List Message) (k id : ℕ) (e : Message) → id < length soup → id ≡ k → tag_of (slice_get soup id) ≡ (unwrap_or (slice_get soup k) e).tag
tag-there [] k id e w q = absurd (omega arith)
tag-there (m ∷ ms) zero zero e w q = refl
tag-there (m ∷ ms) zero (suc id) e w q = absurd (omega arith)
tag-there (m ∷ ms) (suc k) zero e w q = absurd (omega arith)
tag-there (m ∷ ms) (suc k) (suc id) e w q = tag-there ms k id e (omega arith) (omega arith)

-- ---- moves

-- what holds of the statelet before and of the written one holds of the statelet there
at-written : (P : Statelet → Type 0) (s : State) (new : Statelet) (label : ℕ) → P (statelet s label) → P new → P (unwrap_or (slice_get (change (λ old. new) s.labels label) label) (record { fields = []; soup = [] }))
at-written P s new label h k = statelet-written P s.labels new (record { fields = []; soup = [] }) label label h (λ e. k)

pub move-effect : (inst : Instances) (s : State) (mover own : ℕ) (spares : Bool) (move : Step) → Effect (label_of_step move) (touch_of inst s own spares move) mover s (after_step inst s mover move)
move-effect inst s mover own spares (Sending label tag to args) = record {
  nodes = refl;
  others = λ other n. statelet-other inst s mover (Sending label tag to args) other n;
  fields = λ field node index h. at-written (λ st. field_at s label field node index ≡ cell st.fields field node index) s (statelet_sent inst s mover label tag to args) label refl
      (sym (updated-field inst label (names_of_send inst label tag mover to args) s mover (tag_at inst label tag).send.updates (statelet s label).fields field node index h));
  cells = λ field node index h. at-written (λ st. field_at s label field node index ≡ cell st.fields field node index) s (statelet_sent inst s mover label tag to args) label refl
      (sym (updated-node inst label (names_of_send inst label tag mover to args) s mover (tag_at inst label tag).send.updates (statelet s label).fields field node index h));
  tags = λ id w. at-written (λ st. tag_of (message_at s label id) ≡ tag_of (slice_get st.soup id)) s (statelet_sent inst s mover label tag to args) label refl (sym (ap tag_of (get-append (soup_at s label) _ id w)));
  stays = λ id part w n. at-written (λ st. part_at s label id part ≡ part_of id (slice_get st.soup id) part) s (statelet_sent inst s mover label tag to args) label refl
      (sym (ap (λ m. part_of id m part) (get-append (soup_at s label) _ id w)));
  lives = λ id w g. at-written (λ st. part_at s label id Live ≡ part_of id (slice_get st.soup id) Live) s (statelet_sent inst s mover label tag to args) label refl
      (sym (ap (λ m. part_of id m Live) (get-append (soup_at s label) _ id w)));
  size = at-written (λ st. (length st.soup ≡ length (soup_at s label)) ⊎ ((true ≡ true) × (length st.soup ≡ suc (length (soup_at s label))) × (tag_of (slice_get st.soup (length (soup_at s label))) ≡ tag)))
      s (statelet_sent inst s mover label tag to args) label (inl refl) (inr (refl, length-end (soup_at s label) _, ap tag_of (get-end (soup_at s label) _)));
}
move-effect inst s mover own spares (Receiving label id) = record {
  nodes = refl;
  others = λ other n. statelet-other inst s mover (Receiving label id) other n;
  fields = λ field node index h. at-written (λ st. field_at s label field node index ≡ cell st.fields field node index) s (statelet_received inst s mover label id) label refl
      (sym (updated-field inst label (names_of_receive inst label (message_in s label id) mover) s mover (receive_at inst label (message_in s label id)).updates (statelet s label).fields field node index h));
  cells = λ field node index h. at-written (λ st. field_at s label field node index ≡ cell st.fields field node index) s (statelet_received inst s mover label id) label refl
      (sym (updated-node inst label (names_of_receive inst label (message_in s label id) mover) s mover (receive_at inst label (message_in s label id)).updates (statelet s label).fields field node index h));
  tags = λ k w. at-written (λ st. tag_of (message_at s label k) ≡ tag_of (slice_get st.soup k)) s (statelet_received inst s mover label id) label refl (consumed-tag (soup_at s label) id k);
  stays = λ k part w n. at-written (λ st. part_at s label k part ≡ part_of k (slice_get st.soup k) part) s (statelet_received inst s mover label id) label refl (consumed-stays (soup_at s label) id k k part n);
  lives = λ k w g. at-written (λ st. part_at s label k Live ≡ part_of k (slice_get st.soup k) Live) s (statelet_received inst s mover label id) label refl
      (sym (ap (λ m. part_of k m Live) (change-other consumed (soup_at s label) id k (λ e. other-tag k w g e))));
  size = at-written (λ st. (length st.soup ≡ length (soup_at s label)) ⊎ ((false ≡ true) × (length st.soup ≡ suc (length (soup_at s label))) × (tag_of (slice_get st.soup (length (soup_at s label))) ≡ (message_in s label id).tag)))
      s (statelet_received inst s mover label id) label (inl refl) (inl (length-change consumed (soup_at s label) id));
}
  where
    other-tag : (k : ℕ) → k < length (soup_at s label) → (false ≡ true) ⊎ (tag_of (message_at s label k) ≡ (message_in s label id).tag → ⊥) → k ≡ id → ⊥
    other-tag k w (inl e) q = cc
    other-tag k w (inr n) q = n (tag-there (soup_at s label) id k _ w q)

-- a formula without names of messages
pub untouched-kept : (inst : Instances) (s : State) (mover own : ℕ) (spares : Bool) (move : Step) (f : Formula) (names : Names) → formula_touched (touch_of inst s own spares move) none_live f ≡ false → has (bound_names f) me_word ≡ false →
    Known own (label_of_step move) (touch_of inst s own spares move) mover none_live names s → holds f names s ≡ holds f names (after_step inst s mover move)
untouched-kept inst s mover own spares (Sending label tag to args) f names h m k =
    holds-untouched own label tag (fields_of (tag_at inst label tag).send.updates) true spares mover s (after_step inst s mover (Sending label tag to args)) (move-effect inst s mover own spares (Sending label tag to args)) f none_live names h m k
untouched-kept inst s mover own spares (Receiving label id) f names h m k =
    holds-untouched own label (message_in s label id).tag (fields_of (receive_at inst label (message_in s label id)).updates) false spares mover s (after_step inst s mover (Receiving label id)) (move-effect inst s mover own spares (Receiving label id)) f none_live names h m k

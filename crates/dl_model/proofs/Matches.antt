-- The test of a match decides it.
use Rattle.std.proofs.Common.{◌≡◌, ◌↔◌, ℕ, zero, suc, ◌+◌, ◌<◌, ◌≤◌, ◌==◌, ℤ, pos, Bool, true, false, ◌&&◌, inl, inr, cond, length, arith, eq-eqb, List, ◌∷◌, refl, ap, sym, ◌∙◌, subst}
use Rattle.std.proofs.lemmas.Bool.{cases_eq, eqb-true}
use Rattle.std.proofs.lemmas.Bool.Decides.{Decides-int_eq}
use Rattle.std.specs.Ordering.{int_eq}
use Rattle.std.specs.List.{filter, range_with_len}
use Rattle.dl_term.specs.State.{State, soup_at}
use Rattle.dl_term.specs.Meaning.{holds}
use Rattle.dl_model.specs.declared.protocol.Instances.{Instances}
use Rattle.dl_model.specs.Sorts.{all_in_sorts, has}
use Rattle.dl_model.specs.Lookup.{tag_at, arg_sorts}
use Rattle.dl_model.specs.Steps.{IsReceivable, message_in, names_of_receive, receive_at}
use Rattle.dl_model.specs.Runs.{IsMatch}
use Rattle.dl_model.specs.Delivery.{is_receivable, is_match, matches}
use Rattle.dl_model.proofs.Small.{and-left, and-right, and-both, or-true-left, or-true-right, either-true}

int-same : (x y : ℤ) → int_eq x y ≡ true → x ≡ y
int-same x y e = (Decides-int_eq x y).0 e

receivable-read : (inst : Instances) (state : State) (node label id : ℕ) → is_receivable inst state node label (message_in state label id) ≡ true → IsReceivable inst state node label id
receivable-read inst state node label id h =
    let m = message_in state label id in
    let addressed = and-left (m.live && int_eq m.to (pos node)) _ h in
    let rest = and-right (m.live && int_eq m.to (pos node)) _ h in
    let more = and-right (all_in_sorts (arg_sorts (tag_at inst label m.tag).args) m.args) _ rest in
    record {
      live = and-left m.live _ addressed;
      mine = int-same m.to (pos node) (and-right m.live _ addressed);
      arguments = and-left (all_in_sorts (arg_sorts (tag_at inst label m.tag).args) m.args) _ rest;
      guard = and-left (holds (receive_at inst label m).guard (names_of_receive inst label m node) state) _ more;
      updates = and-right (holds (receive_at inst label m).guard (names_of_receive inst label m node) state) _ more;
    }

receivable-told : (inst : Instances) (state : State) (node label id : ℕ) → IsReceivable inst state node label id → is_receivable inst state node label (message_in state label id) ≡ true
receivable-told inst state node label id h =
    let m = message_in state label id in
    and-both (m.live && int_eq m.to (pos node)) _ (and-both m.live _ h.live ((Decides-int_eq m.to (pos node)).1 h.mine))
    (and-both (all_in_sorts (arg_sorts (tag_at inst label m.tag).args) m.args) _ h.arguments
    (and-both (holds (receive_at inst label m).guard (names_of_receive inst label m node) state) _ h.guard h.updates))

-- ---- the ids that pass a test

kept : (b : Bool) (k id : ℕ) (xs : List ℕ) → has xs id ≡ true → has (cond b (k ∷ xs) xs) id ≡ true
kept true k id xs h = or-true-right (id == k) _ h
kept false k id xs h = h

filtered-there : (p : ℕ → Bool) (n k id : ℕ) → p id ≡ true → k ≤ id → id < k + n → has (filter p (range_with_len k n)) id ≡ true
filtered-there p zero k id h l b = absurd (omega arith)
filtered-there p (suc n) k id h l b = elim (cases_eq id k) [
  | inl e ↦ subst (λ c. has (cond c (k ∷ filter p (range_with_len (k + 1) n)) (filter p (range_with_len (k + 1) n))) id ≡ true) (sym (ap p (sym e) ∙ h))
      (or-true-left (id == k) _ (eq-eqb id k e))
  | inr e ↦ kept (p k) k id (filter p (range_with_len (k + 1) n)) (filtered-there p n (k + 1) id h (omega arith) (omega arith))
]

filtered-back : (p : ℕ → Bool) (n k id : ℕ) → has (filter p (range_with_len k n)) id ≡ true → (p id ≡ true) × (id < k + n)
filtered-back p zero k id h = cc
filtered-back p (suc n) k id h = go (p k) refl h (filtered-back p n (k + 1) id)
  where
    go : (b : Bool) → p k ≡ b → has (cond b (k ∷ filter p (range_with_len (k + 1) n)) (filter p (range_with_len (k + 1) n))) id ≡ true →
        (has (filter p (range_with_len (k + 1) n)) id ≡ true → (p id ≡ true) × (id < k + 1 + n)) → (p id ≡ true) × (id < k + suc n)
    go true e t more = elim (either-true (id == k) (has (filter p (range_with_len (k + 1) n)) id) t) [
      | inl q ↦ let same = eqb-true id k q in (ap p same ∙ e, omega arith)
      | inr q ↦ let r = more q in let b = r.1 in (r.0, omega arith)
    ]
    go false e t more = let r = more t in let b = r.1 in (r.0, omega arith)

pub matches-are : (inst : Instances) (state : State) (node label tag id : ℕ) → (has (matches inst state node label tag) id ≡ true) ↔ IsMatch inst state node label tag id
matches-are inst state node label tag id = record {
  0 = λ h.
      let r = filtered-back (is_match inst state node label tag) (length (soup_at state label)) 0 id h in
      let b = r.1 in
      let tagged = and-left ((message_in state label id).tag == tag) _ r.0 in
      record {
        known = omega arith;
        tagged = eqb-true (message_in state label id).tag tag tagged;
        receivable = receivable-read inst state node label id (and-right ((message_in state label id).tag == tag) _ r.0);
      };
  1 = λ m.
      let b = m.known in
      filtered-there (is_match inst state node label tag) (length (soup_at state label)) 0 id
      (and-both ((message_in state label id).tag == tag) _ (eq-eqb (message_in state label id).tag tag m.tagged) (receivable-told inst state node label id m.receivable)) (omega arith) (omega arith);
}

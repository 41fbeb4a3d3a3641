-- Splitting, joining and closing keep the rule: a seat is dealt, the last seat takes in another, and the table is closed.
use Rattle.std.proofs.Common.{◌≡◌, ◌≢◌, ℕ, zero, suc, ◌+◌, ◌<◌, ◌≤◌, true, false, cond, List, [], ◌∷◌, ◌++◌, length, get_or, All, Contains, set, refl, sym, ap, ◌∙◌, subst, inl, inr, ⊎_elim, arith, length-append, length-set, Option, Some, None}
use mathlib.Core.Option.{some, none, some-injective, some-ne-none}
use mathlib.Core.Option as maybe
use mathlib.Core.Logic.{dite}
use native.Mathlib.Decide.{ℕ_discrete}
use lib.ListN.{get_elem?}
use Rattle.atomic_table.specs.Table.{State, Splits, Joins, Final, Seen}
use Rattle.atomic_table.proofs.Lists.{at_longer, set_else}
use Rattle.dl_turn.specs.declared.view.View.{View}
use Rattle.dl_turn.specs.Lists.{GrownByOthers}
use Rattle.dl_turn.specs.Views.{Claim, busy, waiting, head, tail, gave, seated, took, spent}
use Rattle.dl_turn.specs.Rule.{AllBack, Fits, Slot, Ordered, Closed}
use Rattle.dl_turn.proofs.Views.{at_push, put, put_here, put_else, waiting_set, waiting_push, own_none, head_all, tail_all, tail_distinct, head_apart, length_tail}
use Rattle.dl_turn.proofs.Keeps.{clash, off, each_set, slot_set}

module _ {T I G : Type 0} (entries : T → List (ℕ × I)) (ground : T → G) (numbers : List ℕ) (base : G) where
  abbrev V : Type 0
  V = View I G

  slot_push : (log : List (ℕ × I)) (homes : List (maybe.Option (Option T))) (views more : List V) → Slot entries ground log base homes views → Slot entries ground log base homes (views ++ more)
  slot_push log homes views more (inl h) = inl h
  slot_push log homes views more (inr h) = inr (h.0, h.1, at_longer views more h.0 h.1 h.2, h.3)

  pub splits : (id : ℕ) (v : V) → v.is_maker ≡ true → v.to_deal ≢ [] → Splits (Ordered entries ground numbers base) id v (gave v) (seated v)
  splits id v is_maker left s r at =
      let f = r.each id v at in
      let k = f.is_maker is_maker in
      let n : ℕ = head v.to_deal in
      let count : ℕ = length s.views in
      let who : ℕ → ℕ = put r.who n (count + 2) in
      let fresh : r.who n ≡ 0 = head_all (λ m. r.who m ≡ 0) v.to_deal left k.new in
      let keep : (m : ℕ) → r.who m ≢ 0 → who m ≡ r.who m = λ m some. put_else r.who n (count + 2) m (λ same. some (ap r.who same ∙ fresh)) in
      let views : List V = set s.views id (gave v) in
      let wide : length views ≡ count = length-set s.views id (gave v) in
      let long : length (views ++ seated v ∷ []) ≡ count + 1 = length-append views (seated v ∷ []) ∙ ap (λ (m : ℕ). m + 1) wide in
      let room : count + length v.to_deal ≤ 17 = k.few in
      let still : (es : List (Claim I G)) → All (λ (x : Claim I G). (r.who x.0 ≡ 1) × GrownByOthers x.0 x.1 r.log × (x.2 ≡ Some base)) es → All (λ (x : Claim I G). (who x.0 ≡ 1) × GrownByOthers x.0 x.1 r.log × (x.2 ≡ Some base)) es =
      λ es h i d b. (let t = h i d b in let x : Claim I G = get_or es i d in (keep x.0 (λ z. (let p : 1 ≡ 0 = sym t.0 ∙ z in omega arith)) ∙ t.0, t.1, t.2)) in
      let shorter : suc (length (tail v.to_deal)) ≡ length v.to_deal = length_tail v.to_deal left in
      record {
        serving = r.serving;
        drawn = r.drawn;
        log = r.log;
        who = who;
        holder = r.holder;
        words = r.words;
        few = omega arith;
        line = let p : waiting (views ++ seated v ∷ []) ≡ waiting views + 0 = waiting_push views (seated v) in let q : waiting views + busy v ≡ waiting s.views + busy v = waiting_set s.views id v (gave v) at in let l : r.serving + waiting s.views ≡ r.drawn = r.line in omega arith;
        named = λ i d b z. r.named i d b (sym (keep (get_or r.log i d).0 (r.named i d b)) ∙ z);
        known = λ m had. dite (ℕ_discrete m n) (λ same. subst (Contains numbers) (sym same) (head_all (λ (x : ℕ). Contains numbers x) v.to_deal left k.among)) (λ ne. r.known m (λ z. had (put_else r.who n (count + 2) m ne ∙ z)));
        each = subst (λ (c : ℕ). (j : ℕ) (u : V) → get_elem? (views ++ seated v ∷ []) j ≡ some u → Fits numbers r.serving r.drawn c r.log base who r.holder j u) (sym long)
            (λ j u e. ⊎_elim
            (λ was. each_set (Fits numbers r.serving r.drawn (count + 1) r.log base who r.holder) s.views id (gave v)
            record {
              ground = f.ground;
              named = λ l. absurd (clash v.is_live l k.apart);
              grown = f.grown;
              is_live = f.is_live;
              from = f.from;
              below = f.below;
              holds = f.holds;
              is_waiting = f.is_waiting;
              first = f.first;
              whole = f.whole;
              joined = still v.joined f.joined;
              is_maker = λ _. record {
                only = k.only;
                apart = k.apart;
                ground = k.ground;
                few = omega arith;
                new = λ i d b. let m : ℕ = get_or (tail v.to_deal) i d in put_else r.who n (count + 2) m (head_apart v.to_deal left k.distinct i d b) ∙ tail_all (λ (x : ℕ). r.who x ≡ 0) v.to_deal k.new i d b;
                distinct = tail_distinct v.to_deal k.distinct;
                among = tail_all (λ (x : ℕ). Contains numbers x) v.to_deal k.among;
              };
            }
            (λ i x ne a. let g = r.each i x a in record {
              ground = g.ground;
              named = λ l. keep x.number (λ z. (let p : i + 2 ≡ 0 = sym (g.named l) ∙ z in omega arith)) ∙ g.named l;
              grown = g.grown;
              is_live = g.is_live;
              from = g.from;
              below = g.below;
              holds = g.holds;
              is_waiting = g.is_waiting;
              first = g.first;
              whole = g.whole;
              joined = still x.joined g.joined;
              is_maker = λ m. absurd (ne ((g.is_maker m).only ∙ sym k.only));
            }) j u was)
            (λ new. subst (λ (x : V). Fits numbers r.serving r.drawn (count + 1) r.log base who r.holder j x) new.1
            record {
              ground = λ _. k.ground;
              named = λ _. put_here r.who n (count + 2) ∙ ap (λ (m : ℕ). m + 2) (sym (new.0 ∙ wide));
              grown = λ _. record { added = r.log; begins = refl; others = own_none r.who n r.log fresh r.named };
              is_live = λ x. absurd (off x);
              from = λ x. absurd (off x);
              below = λ x. absurd (off x);
              holds = λ x. absurd (off x);
              is_waiting = λ x. absurd (off x);
              first = λ x. absurd (off x);
              whole = λ x. absurd (off x);
              joined = λ i d b. absurd (omega arith);
              is_maker = λ x. absurd (off x);
            })
            (at_push views (seated v) u j e));
        slot = slot_push r.log s.homes views (seated v ∷ []) (slot_set entries ground numbers base r.log s.homes s.views id v (gave v) at (λ i. i) r.slot);
      }

  pub joins : (id : ℕ) (v : V) (other : ℕ) (w : V) → v.is_live ≡ true → w.is_live ≡ true → w.is_waiting ≡ false → Joins (Ordered entries ground numbers base) id v other w (took v w) spent
  joins id v other w mine_live is_live idle s r at apart there =
      let f = r.each id v at in
      let there' : get_elem? s.views other ≡ some w = sym (set_else s.views id other (took v w) apart) ∙ there in
      let o = r.each other w there' in
      let n : ℕ = w.number in
      let who : ℕ → ℕ = put r.who n 1 in
      let mine : r.who n ≡ other + 2 = o.named is_live in
      let keep : (m : ℕ) → r.who m ≢ other + 2 → who m ≡ r.who m = λ m had. put_else r.who n 1 m (λ same. had (ap r.who same ∙ mine)) in
      let views : List V = set s.views id (took v w) in
      let count : ℕ = length s.views in
      let long : length (set views other spent) ≡ count = length-set views other spent ∙ length-set s.views id (took v w) in
      let free : busy w ≡ 0 = ap (λ b. cond b 1 0) idle in
      let still : (es : List (Claim I G)) → All (λ (x : Claim I G). (r.who x.0 ≡ 1) × GrownByOthers x.0 x.1 r.log × (x.2 ≡ Some base)) es → All (λ (x : Claim I G). (who x.0 ≡ 1) × GrownByOthers x.0 x.1 r.log × (x.2 ≡ Some base)) es =
      λ es h i d b. (let t = h i d b in let x : Claim I G = get_or es i d in (keep x.0 (λ z. (let p : 1 ≡ other + 2 = sym t.0 ∙ z in omega arith)) ∙ t.0, t.1, t.2)) in
      record {
        serving = r.serving;
        drawn = r.drawn;
        log = r.log;
        who = who;
        holder = r.holder;
        words = r.words;
        few = subst (λ (c : ℕ). c ≤ 17) (sym long) r.few;
        line = let p : waiting (set views other spent) + busy w ≡ waiting views + 0 = waiting_set views other w spent there in let q : waiting views + busy v ≡ waiting s.views + busy v = waiting_set s.views id v (took v w) at in let l : r.serving + waiting s.views ≡ r.drawn = r.line in omega arith;
        named = λ i d b z. named_still r.who n other mine (get_or r.log i d).0 (r.named i d b) z;
        known = λ m had. r.known m (known_before r.who n other mine m had);
        each = subst (λ (c : ℕ). (j : ℕ) (u : V) → get_elem? (set views other spent) j ≡ some u → Fits numbers r.serving r.drawn c r.log base who r.holder j u) (sym long)
            (each_set (Fits numbers r.serving r.drawn count r.log base who r.holder) views other spent
            record {
              ground = λ x. absurd (off x);
              named = λ x. absurd (off x);
              grown = λ x. absurd (off x);
              is_live = λ x. absurd (off x);
              from = λ x. absurd (off x);
              below = λ x. absurd (off x);
              holds = λ x. absurd (off x);
              is_waiting = λ x. absurd (off x);
              first = λ x. absurd (off x);
              whole = λ x. absurd (off x);
              joined = λ i d b. absurd (omega arith);
              is_maker = λ x. absurd (off x);
            }
            (λ j u away e. each_set (λ i x. i ≢ other → Fits numbers r.serving r.drawn count r.log base who r.holder i x) s.views id (took v w)
            (λ away'. record {
              ground = f.ground;
              named = λ l. keep v.number (λ z. (let p : id + 2 ≡ other + 2 = sym (f.named l) ∙ z in away' (omega arith))) ∙ f.named l;
              grown = f.grown;
              is_live = f.is_live;
              from = f.from;
              below = f.below;
              holds = f.holds;
              is_waiting = f.is_waiting;
              first = f.first;
              whole = f.whole;
              joined = ended_more who r.log (n, w.seen, w.ground) v.joined (put_here r.who n 1, o.grown is_live, o.ground is_live) (still v.joined f.joined);
              is_maker = λ m. absurd (clash v.is_live mine_live (f.is_maker m).apart);
            })
            (λ i x ne a away'. let g = r.each i x a in record {
              ground = g.ground;
              named = λ l. keep x.number (λ z. (let p : i + 2 ≡ other + 2 = sym (g.named l) ∙ z in away' (omega arith))) ∙ g.named l;
              grown = g.grown;
              is_live = g.is_live;
              from = g.from;
              below = g.below;
              holds = g.holds;
              is_waiting = g.is_waiting;
              first = g.first;
              whole = g.whole;
              joined = still x.joined g.joined;
              is_maker = λ m. let k = g.is_maker m in record {
                only = k.only;
                apart = k.apart;
                ground = k.ground;
                few = k.few;
                new = λ q d b. let z = k.new q d b in keep (get_or x.to_deal q d) (λ y. (let p : 0 ≡ other + 2 = sym z ∙ y in omega arith)) ∙ z;
                distinct = k.distinct;
                among = k.among;
              };
            }) j u e away));
        slot = slot_set entries ground numbers base r.log s.homes views other w spent there (λ i. absurd (clash w.is_waiting (o.is_waiting i) idle)) (slot_set entries ground numbers base r.log s.homes s.views id v (took v w) at (λ i. i) r.slot);
      }
    where
      named_still : (who : ℕ → ℕ) (n other : ℕ) → who n ≡ other + 2 → (m : ℕ) → who m ≢ 0 → put who n 1 m ≡ 0 → ⊥
      named_still who n other mine m had z = dite (ℕ_discrete m n) (λ same. (let p : 1 ≡ 0 = sym (put_here who n 1) ∙ (ap (put who n 1) (sym same) ∙ z) in absurd (omega arith))) (λ ne. had (sym (put_else who n 1 m ne) ∙ z))

      known_before : (who : ℕ → ℕ) (n other : ℕ) → who n ≡ other + 2 → (m : ℕ) → put who n 1 m ≢ 0 → who m ≢ 0
      known_before who n other mine m had z = dite (ℕ_discrete m n) (λ same. (let p : 0 ≡ other + 2 = sym z ∙ (ap who same ∙ mine) in absurd (omega arith))) (λ ne. had (put_else who n 1 m ne ∙ z))

      ended_more : (who : ℕ → ℕ) (log : List (ℕ × I)) (e : Claim I G) (es : List (Claim I G)) → (who e.0 ≡ 1) × GrownByOthers e.0 e.1 log × (e.2 ≡ Some base) → All (λ (x : Claim I G). (who x.0 ≡ 1) × GrownByOthers x.0 x.1 log × (x.2 ≡ Some base)) es
          → All (λ (x : Claim I G). (who x.0 ≡ 1) × GrownByOthers x.0 x.1 log × (x.2 ≡ Some base)) (e ∷ es)
      ended_more who log e es first h zero d b = first
      ended_more who log e es first h (suc i) d b = let y : i < length es = omega arith in h i d y

  -- the slot has the value, of which the rule holds
  abbrev Found : V → List (Option T) → Type 0
  Found v xs = (value : T) × (get_elem? xs 0 ≡ some (Some value)) × Closed entries ground numbers base v value

  pub closes : (id : ℕ) (v : V) (ws : List ℕ) (xs : List (Option T)) → v.is_live ≡ true → v.is_waiting ≡ false → AllBack numbers v → Final (Seen (Ordered entries ground numbers base) id v) ws xs → Found v xs
  closes id v ws xs is_live idle back h = go h.0 h.1.0 h.1.1 h.4 h.1.0.slot
    where
      go : (s : State (Option T) V) (r : Ordered entries ground numbers base s) → get_elem? s.views id ≡ some v → ((i : ℕ) (y : Option T) → get_elem? s.homes i ≡ some (some y) → get_elem? xs i ≡ some y)
          → Slot entries ground r.log base s.homes s.views → Found v xs
      go s r at came (inl t) = let f = r.each id v at in (
        t.0,
        came 0 (Some t.0) t.1,
        record {
          stands = t.3;
          named = subst (All (λ (e : ℕ × I). Contains numbers e.0)) (sym t.2) (λ i d b. r.known (get_or r.log i d).0 (r.named i d b));
          grown = subst (λ (l : List (ℕ × I)). GrownByOthers v.number v.seen l) (sym t.2) (f.grown is_live);
          mine = f.ground is_live;
          joined = subst (λ (l : List (ℕ × I)). All (λ (e : Claim I G). GrownByOthers e.0 e.1 l × (e.2 ≡ Some base)) v.joined) (sym t.2) (λ i d b. let h = f.joined i d b in (h.1, h.2));
        },
      )
      go s r at came (inr t) =
          let f = r.each id v at in
          let g = r.each t.0 t.1 t.2 in
          let named = g.named (g.is_live (g.is_waiting t.3)) in
          let n : ℕ = t.1.number in
          absurd (⊎_elim
          (λ (same : v.number ≡ n). let p : t.0 + 2 ≡ id + 2 = sym named ∙ (ap r.who (sym same) ∙ f.named is_live) in let one : t.0 ≡ id = omega arith in
          clash v.is_waiting (subst (λ (u : V). u.is_waiting ≡ true) (some-injective t.1 v (sym t.2 ∙ (ap (get_elem? s.views) one ∙ at))) (g.is_waiting t.3)) idle)
          (λ (k : (k : ℕ) × (k < length v.joined) × ((d : Claim I G) → (get_or v.joined k d).0 ≡ n)). let d : Claim I G = (0, [], None) in let e = f.joined k.0 d k.1 in let p : t.0 + 2 ≡ 1 = sym named ∙ (ap r.who (sym (k.2 d)) ∙ e.0) in omega arith)
          (back n (r.known n (λ z. (let p : t.0 + 2 ≡ 0 = sym named ∙ z in omega arith)))))

  -- the value that was found is the one that is taken
  pub taken : (v : V) (xs : List (Option T)) (r : Option T) → Found v xs → get_elem? xs 0 ≡ some r → (value : T) × (r ≡ Some value) × Closed entries ground numbers base v value
  taken v xs r found at = (found.0, some-injective r (Some found.0) (sym at ∙ found.1), found.2)

  -- and the rule's last fact holds of what was unwrapped
  pub taken_closed : (v : V) (xs : List (Option T)) (r : Option T) (value : T) → Found v xs → get_elem? xs 0 ≡ some r → r ≡ Some value → Closed entries ground numbers base v value
  taken_closed v xs r value found at is = let t = taken v xs r found at in subst (Closed entries ground numbers base v) (same t.0 value (sym t.1 ∙ is)) t.2
    where
      same : (a b : T) → Some a ≡ Some b → a ≡ b
      same a b p = cc

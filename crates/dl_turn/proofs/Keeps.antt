-- The steps of a seat keep the rule: it draws a turn, looks, and ends its turn.
use Rattle.std.proofs.Common.{◌≡◌, ◌≢◌, ℕ, zero, suc, ◌+◌, ◌%◌, ◌^◌, ◌<◌, ◌≤◌, Bool, true, false, true≢false, cond, List, [], ◌∷◌, ◌++◌, length, get_or, All, set, refl, sym, ap, ◌∙◌, subst, inl, inr, ⊎_elim, arith, length-set, Option, Some, le_trans}
use mathlib.Core.Option.{some, none, some-injective, some-ne-none}
use mathlib.Core.Option as maybe
use mathlib.Core.Logic.{dite}
use native.Mathlib.Decide.{ℕ_discrete}
use native.Mathlib.Nat.{mod-add-mod}
use lib.ListN.{get_elem?}
use lib.Seq.{set-get_or}
use Rattle.std.proofs.lemmas.List.Elements.{All-append}
use Rattle.atomic_table.specs.Table.{State, Me, Act, keeps, takes, gives, stepped, Valid, carried_after, Allows}
use Rattle.atomic_table.proofs.Lists.{at_set, set_again, set_here, set_else, one_turn}
use Rattle.dl_turn.specs.declared.view.View.{View}
use Rattle.dl_turn.specs.Lists.{GrownByOthers}
use Rattle.dl_turn.specs.Views.{Claim, busy, waiting, queued, entered, parted, drew, looked, advanced}
use Rattle.dl_turn.specs.Rule.{Fits, Slot, Ordered}
use Rattle.dl_turn.proofs.Views.{set_at, put, put_here, put_else, waiting_set, waiting_below, grown_none, grown_more}

pub clash : (b : Bool) → b ≡ true → b ≡ false → ⊥
clash b p q = true≢false (sym p ∙ q)

pub off : false ≡ true → ⊥
off e = true≢false (sym e)

-- what holds of the new element and of each other one
pub each_set : {A : Type 0} (P : ℕ → A → Type 0) (l : List A) (i : ℕ) (a : A) → P i a → ((j : ℕ) (b : A) → j ≢ i → get_elem? l j ≡ some b → P j b) → (j : ℕ) (b : A) → get_elem? (set l i a) j ≡ some b → P j b
each_set {A} P l i a mine others j b e = ⊎_elim (λ (t : (j ≡ i) × (a ≡ b)). subst (λ (x : ℕ). P x b) (sym t.0) (subst (P i) t.1 mine)) (λ (t : (j ≢ i) × (get_elem? l j ≡ some b)). others j b t.0 t.1) (at_set l i j a b e)

module _ {T I G : Type 0} (entries : T → List (ℕ × I)) (ground : T → G) (numbers : List ℕ) (base : G) where
  abbrev V : Type 0
  V = View I G

  abbrev St : Type 0
  St = State (Option T) V

  abbrev M : Type 0
  M = Me (Option T) V

  abbrev Goes : St → ℕ → M → ℕ → ℕ → (ℕ → M → Type 0) → Type 0
  Goes s id me i y told = (w : V) × (a : Act (Option T)) × Valid s.homes me.1 a × Ordered entries ground numbers base (stepped s i y id me.1 w a) × told (get_or s.words i 0) (w, carried_after me.1 a)

  pub slot_set : (log : List (ℕ × I)) (homes : List (maybe.Option (Option T))) (views : List V) (id : ℕ) (v w : V) → get_elem? views id ≡ some v → (v.is_inside ≡ true → w.is_inside ≡ true)
      → Slot entries ground log base homes views → Slot entries ground log base homes (set views id w)
  slot_set log homes views id v w at still (inl h) = inl h
  slot_set log homes views id v w at still (inr h) = dite (ℕ_discrete h.0 id)
      (λ e. inr (id, w, set_at views id v w at, still (subst (λ (u : V). u.is_inside ≡ true) (some-injective h.1 v (sym h.2 ∙ (ap (get_elem? views) e ∙ at))) h.3)))
      (λ ne. inr (h.0, h.1, set_else views id h.0 w ne ∙ h.2, h.3))

  pub draws : (n id : ℕ) (me : M) → me.0.is_live ≡ true → me.0.is_waiting ≡ false → Allows (Ordered entries ground numbers base) n id me 1 (λ k. (k + 1) % 2 ^ 64) (drew me)
  draws n id me is_live idle s r deep at wide =
      let f = r.each id me.0 at in
      let w : V = queued me.0 r.drawn in
      let line : r.serving + waiting s.views ≡ r.drawn = r.line in
      let more : waiting (set s.views id w) + busy me.0 ≡ waiting s.views + 1 = waiting_set s.views id me.0 w at in
      let none_yet : busy me.0 ≡ 0 = ap (λ b. cond b 1 0) idle in
      let holder : ℕ → ℕ = put r.holder r.drawn id in (
        w,
        keeps,
        tt,
        record {
          serving = r.serving;
          drawn = r.drawn + 1;
          log = r.log;
          who = r.who;
          holder = holder;
          words = subst (λ (ws : List ℕ). set ws 1 ((get_or ws 1 0 + 1) % 2 ^ 64) ≡ (r.serving % 2 ^ 64) ∷ ((r.drawn + 1) % 2 ^ 64) ∷ []) (sym r.words) (ap (λ (k : ℕ). (r.serving % 2 ^ 64) ∷ k ∷ []) (mod-add-mod r.drawn (2 ^ 64) 1));
          few = subst (λ (k : ℕ). k ≤ 17) (sym (length-set s.views id w)) r.few;
          line = omega arith;
          named = r.named;
          known = r.known;
          each = subst (λ (k : ℕ). (j : ℕ) (u : V) → get_elem? (set s.views id w) j ≡ some u → Fits numbers r.serving (r.drawn + 1) k r.log base r.who holder j u) (sym (length-set s.views id w))
              (each_set (Fits numbers r.serving (r.drawn + 1) (length s.views) r.log base r.who holder) s.views id w
              record {
                ground = f.ground;
                named = f.named;
                grown = f.grown;
                is_live = λ _. is_live;
                from = λ _. omega arith;
                below = λ _. omega arith;
                holds = λ _. put_here r.holder r.drawn id;
                is_waiting = λ _. refl;
                first = λ i. absurd (clash me.0.is_waiting (f.is_waiting i) idle);
                whole = f.whole;
                joined = f.joined;
                is_maker = λ m. absurd (clash me.0.is_live is_live (f.is_maker m).apart);
              }
              (λ j u ne e. let g = r.each j u e in record {
                ground = g.ground;
                named = g.named;
                grown = g.grown;
                is_live = g.is_live;
                from = g.from;
                below = λ x. let b : u.turn < r.drawn = g.below x in omega arith;
                holds = λ x. let b : u.turn < r.drawn = g.below x in put_else r.holder r.drawn id u.turn (λ same. omega arith) ∙ g.holds x;
                is_waiting = g.is_waiting;
                first = g.first;
                whole = g.whole;
                joined = g.joined;
                is_maker = g.is_maker;
              }));
          slot = slot_set r.log s.homes s.views id me.0 w at (λ i. i) r.slot;
        },
        (r.drawn, subst (λ (ws : List ℕ). r.drawn % 2 ^ 64 ≡ get_or ws 1 0) (sym r.words) refl, refl),
      )

  pub looks : (n id : ℕ) (me : M) → me.1 ≡ [] → me.0.is_live ≡ true → me.0.is_waiting ≡ true → me.0.is_inside ≡ false → Allows (Ordered entries ground numbers base) n id me 0 (λ k. k) (looked entries ground me)
  looks n id me bare is_live is_waiting out s r deep at wide =
      dite (ℕ_discrete (get_or s.words 0 0) (me.0.turn % 2 ^ 64)) hit miss
    where
      f : Fits numbers r.serving r.drawn (length s.views) r.log base r.who r.holder id me.0
      f = r.each id me.0 at

      miss : get_or s.words 0 0 ≢ me.0.turn % 2 ^ 64 → Goes s id me 0 (get_or s.words 0 0) (looked entries ground me)
      miss ne = (
        me.0,
        keeps,
        tt,
        subst (λ (z : List ℕ × List V). Ordered entries ground numbers base record { words = z.0; homes = s.homes; views = z.1 }) (λ k. (sym (set-get_or s.words 0 0) k, sym (set_again s.views id me.0 at) k)) r,
        ((λ e. absurd (ne e)), λ _. refl),
      )

      open_at : r.serving ≡ me.0.turn → Slot entries ground r.log base s.homes s.views → Goes s id me 0 (get_or s.words 0 0) (looked entries ground me)
      open_at same (inl h) = let w : V = entered me.0 (entries h.0) in (
        w,
        takes 0 (Some h.0),
        h.1,
        record {
          serving = r.serving;
          drawn = r.drawn;
          log = r.log;
          who = r.who;
          holder = r.holder;
          words = set-get_or s.words 0 0 ∙ r.words;
          few = subst (λ (k : ℕ). k ≤ 17) (sym (length-set s.views id w)) r.few;
          line = let m : waiting (set s.views id w) + busy me.0 ≡ waiting s.views + busy me.0 = waiting_set s.views id me.0 w at in let l : r.serving + waiting s.views ≡ r.drawn = r.line in omega arith;
          named = r.named;
          known = r.known;
          each = subst (λ (k : ℕ). (j : ℕ) (u : V) → get_elem? (set s.views id w) j ≡ some u → Fits numbers r.serving r.drawn k r.log base r.who r.holder j u) (sym (length-set s.views id w))
              (each_set (Fits numbers r.serving r.drawn (length s.views) r.log base r.who r.holder) s.views id w
              record {
                ground = f.ground;
                named = f.named;
                grown = λ _. subst (λ (seen : List (ℕ × I)). GrownByOthers me.0.number seen r.log) (sym h.2) (grown_none r.log me.0.number);
                is_live = f.is_live;
                from = f.from;
                below = f.below;
                holds = f.holds;
                is_waiting = λ _. is_waiting;
                first = λ _. sym same;
                whole = λ _. h.2;
                joined = f.joined;
                is_maker = λ m. absurd (clash me.0.is_live is_live (f.is_maker m).apart);
              }
              (λ j u ne e. r.each j u e));
          slot = inr (id, w, set_at s.views id me.0 w at, refl);
        },
        (
          (λ _. record {
            value = h.0;
            holds = ap (λ (l : List (ℕ × Option T)). (0, Some h.0) ∷ l) bare;
            view = refl;
            grown = subst (λ (l : List (ℕ × I)). GrownByOthers me.0.number me.0.seen l) (sym h.2) (f.grown is_live);
            stands = f.ground is_live ∙ ap Some (sym h.3);
          }),
          λ ne. absurd (ne (ap (λ (ws : List ℕ). get_or ws 0 0) r.words ∙ ap (λ (k : ℕ). k % 2 ^ 64) same)),
        ),
      )
      open_at same (inr h) =
          let g = r.each h.0 h.1 h.2 in
          let one : h.0 ≡ id = sym (g.holds (g.is_waiting h.3)) ∙ (ap r.holder (g.first h.3 ∙ same) ∙ f.holds is_waiting) in
          let me_too : h.1 ≡ me.0 = some-injective h.1 me.0 (sym h.2 ∙ (ap (get_elem? s.views) one ∙ at)) in
          absurd (clash me.0.is_inside (subst (λ (u : V). u.is_inside ≡ true) me_too h.3) out)

      hit : get_or s.words 0 0 ≡ me.0.turn % 2 ^ 64 → Goes s id me 0 (get_or s.words 0 0) (looked entries ground me)
      hit e =
          let from : r.serving ≤ me.0.turn = f.from is_waiting in
          let below : me.0.turn < r.drawn = f.below is_waiting in
          let line : r.serving + waiting s.views ≡ r.drawn = r.line in
          let few : waiting s.views ≤ 17 = le_trans (waiting_below s.views) r.few in
          open_at (one_turn r.serving me.0.turn (2 ^ 64) from (omega arith) (sym (ap (λ (ws : List ℕ). get_or ws 0 0) r.words) ∙ e)) r.slot

  parts_at : (id : ℕ) (v : V) (value : T) (item : I) → v.is_inside ≡ true → entries value ≡ v.seen ++ (v.number, item) ∷ [] → v.ground ≡ Some (ground value)
      → Allows (Ordered entries ground numbers base) 1 id (v, (0, Some value) ∷ []) 0 (λ k. (k + 1) % 2 ^ 64) (advanced entries ground (v, (0, Some value) ∷ []))
  parts_at id v value item ins is stands s r deep at wide =
      let f = r.each id v at in
      let is_waiting : v.is_waiting ≡ true = f.is_waiting ins in
      let is_live : v.is_live ≡ true = f.is_live is_waiting in
      let turn : v.turn ≡ r.serving = f.first ins in
      let mine : r.who v.number ≡ id + 2 = f.named is_live in
      let e : ℕ × I = (v.number, item) in
      let whole : entries value ≡ r.log ++ e ∷ [] = is ∙ ap (λ (l : List (ℕ × I)). l ++ e ∷ []) (f.whole ins) in
      let w : V = parted v (entries value) in
      let line : r.serving + waiting s.views ≡ r.drawn = r.line in
      let less : waiting (set s.views id w) + busy v ≡ waiting s.views + 0 = waiting_set s.views id v w at in
      let still : (es : List (Claim I G)) → All (λ (x : Claim I G). (r.who x.0 ≡ 1) × GrownByOthers x.0 x.1 r.log × (x.2 ≡ Some base)) es → All (λ (x : Claim I G). (r.who x.0 ≡ 1) × GrownByOthers x.0 x.1 (entries value) × (x.2 ≡ Some base)) es =
      λ es h i d a. (let t = h i d a in let x : Claim I G = get_or es i d in
      (t.0, subst (λ (l : List (ℕ × I)). GrownByOthers x.0 x.1 l) (sym whole) (grown_more r.log x.1 x.0 e (λ same. (let p : id + 2 ≡ 1 = sym mine ∙ (ap r.who same ∙ t.0) in omega arith)) t.1), t.2)) in
      let one : busy v ≡ 1 = ap (λ b. cond b 1 0) is_waiting in (
        w,
        gives,
        tt,
        record {
          serving = r.serving + 1;
          drawn = r.drawn;
          log = entries value;
          who = r.who;
          holder = r.holder;
          known = r.known;
          words = subst (λ (ws : List ℕ). set ws 0 ((get_or ws 0 0 + 1) % 2 ^ 64) ≡ ((r.serving + 1) % 2 ^ 64) ∷ (r.drawn % 2 ^ 64) ∷ []) (sym r.words) (ap (λ (k : ℕ). k ∷ (r.drawn % 2 ^ 64) ∷ []) (mod-add-mod r.serving (2 ^ 64) 1));
          few = subst (λ (k : ℕ). k ≤ 17) (sym (length-set s.views id w)) r.few;
          line = omega arith;
          named = subst (All (λ (x : ℕ × I). r.who x.0 ≢ 0)) (sym whole) (All-append (λ (x : ℕ × I). r.who x.0 ≢ 0) r.log (e ∷ []) r.named (named_one r.who id e mine));
          each = subst (λ (k : ℕ). (j : ℕ) (u : V) → get_elem? (set s.views id w) j ≡ some u → Fits numbers (r.serving + 1) r.drawn k (entries value) base r.who r.holder j u) (sym (length-set s.views id w))
              (each_set (Fits numbers (r.serving + 1) r.drawn (length s.views) (entries value) base r.who r.holder) s.views id w
              record {
                ground = f.ground;
                named = f.named;
                grown = λ _. grown_none (entries value) v.number;
                is_live = λ x. absurd (off x);
                from = λ x. absurd (off x);
                below = λ x. absurd (off x);
                holds = λ x. absurd (off x);
                is_waiting = λ x. absurd (off x);
                first = λ x. absurd (off x);
                whole = λ x. absurd (off x);
                joined = still v.joined f.joined;
                is_maker = λ m. absurd (clash v.is_live is_live (f.is_maker m).apart);
              }
              (λ j u ne a. let g = r.each j u a in
              let apart : u.is_live ≡ true → v.number ≢ u.number = λ l same. (let p : id + 2 ≡ j + 2 = sym mine ∙ (ap r.who same ∙ g.named l) in ne (omega arith)) in
              let later : u.is_waiting ≡ true → u.turn ≢ r.serving = λ x same. ne (sym (g.holds x) ∙ (ap r.holder (same ∙ sym turn) ∙ f.holds is_waiting)) in
              record {
                ground = g.ground;
                named = g.named;
                grown = λ l. subst (λ (k : List (ℕ × I)). GrownByOthers u.number u.seen k) (sym whole) (grown_more r.log u.seen u.number e (apart l) (g.grown l));
                is_live = g.is_live;
                from = λ x. let b : r.serving ≤ u.turn = g.from x in let c : u.turn ≢ r.serving = later x in omega arith;
                below = g.below;
                holds = g.holds;
                is_waiting = g.is_waiting;
                first = λ x. absurd (later (g.is_waiting x) (g.first x));
                whole = λ x. absurd (later (g.is_waiting x) (g.first x));
                joined = still u.joined g.joined;
                is_maker = g.is_maker;
              }));
          slot = inl (value, set_here s.homes 0 (some (Some value)) (omega arith), refl, some_same (sym stands ∙ f.ground is_live));
        },
        (value, refl, refl),
      )
    where
      named_one : (who : ℕ → ℕ) (id : ℕ) (e : ℕ × I) → who e.0 ≡ id + 2 → All (λ (x : ℕ × I). who x.0 ≢ 0) (e ∷ [])
      named_one who id e h zero d b z = let p : id + 2 ≡ 0 = sym h ∙ z in omega arith
      named_one who id e h (suc k) d b z = omega arith

      some_same : {a b : G} → Some a ≡ Some b → a ≡ b
      some_same p = cc

  pub parts : (n id : ℕ) (me : M) (value : T) (item : I) → n ≡ 1 → me.1 ≡ (0, Some value) ∷ [] → me.0.is_inside ≡ true → entries value ≡ me.0.seen ++ (me.0.number, item) ∷ [] → me.0.ground ≡ Some (ground value)
      → Allows (Ordered entries ground numbers base) n id me 0 (λ k. (k + 1) % 2 ^ 64) (advanced entries ground me)
  parts n id me value item one carries ins is stands = subst (λ (z : ℕ × List (ℕ × Option T)). Allows (Ordered entries ground numbers base) z.0 id (me.0, z.1) 0 (λ k. (k + 1) % 2 ^ 64) (advanced entries ground (me.0, z.1))) (λ k. (sym one k, sym carries k)) (parts_at id me.0 value item ins is stands)

-- A history that leads on has no fault, and one that doesn't has one first fault.
use Rattle.std.proofs.Common.{◌≡◌, ℕ, zero, suc, List, [], ◌∷◌, take, refl, ap, subst}
use Rattle.dl_model.specs.declared.history.Entry.{Entry}
use Rattle.dl_model.specs.declared.file.Decls.{Decls}
use Rattle.dl_model.specs.Runs.{Config, Event, Leads}
use Rattle.dl_model.proofs.Small.{some-same}
use Rattle.dl_history.specs.Replayed.{IsFaultAt}
use Rattle.dl_history.proofs.Histories.{event-same}

-- the first entry leads on, and the fault is among the others
fault-later : (d : Decls) (before mid : Config) (e : Entry) (es : List Entry) (k : ℕ) → Event d before e mid → IsFaultAt d before (e ∷ es) (suc k) → IsFaultAt d mid es k
fault-later d before mid e es k event f =
    let there : (m : Config) × Event d before e m × Leads d m (take k es) f.config = f.leads in
    record {
      config = f.config;
      leads = subst (λ m. Leads d m (take k es) f.config) (event-same d before e there.0 mid there.1 event) there.2;
      entry = f.entry;
      there = f.there;
      fault = f.fault;
    }

pub fault-apart : (d : Decls) (before : Config) (es : List Entry) (after : Config) (k : ℕ) → Leads d before es after → IsFaultAt d before es k → ⊥
fault-apart d before [] after k l f = cc f.there
fault-apart d before (e ∷ es) after zero (mid, event, l) f =
    let here : before ≡ f.config = f.leads in
    f.fault.never mid (subst (λ c. Event d c f.entry mid) here (subst (λ x. Event d before x mid) (some-same e f.entry f.there) event))
fault-apart d before (e ∷ es) after (suc k) (mid, event, l) f = fault-apart d mid es after k l (fault-later d before mid e es k event f)

-- a fault at the first entry is no event there
fault-here : (d : Decls) (before mid : Config) (e : Entry) (es : List Entry) → IsFaultAt d before (e ∷ es) 0 → Event d before e mid → ⊥
fault-here d before mid e es f event =
    let here : before ≡ f.config = f.leads in
    f.fault.never mid (subst (λ c. Event d c f.entry mid) here (subst (λ x. Event d before x mid) (some-same e f.entry f.there) event))

pub fault-one : (d : Decls) (before : Config) (es : List Entry) (a b : ℕ) → IsFaultAt d before es a → IsFaultAt d before es b → a ≡ b
fault-one d before [] a b f g = cc f.there
fault-one d before (e ∷ es) zero zero f g = refl
fault-one d before (e ∷ es) zero (suc b) f g =
    let there : (m : Config) × Event d before e m × Leads d m (take b es) g.config = g.leads in
    absurd (fault-here d before there.0 e es f there.1)
fault-one d before (e ∷ es) (suc a) zero f g =
    let there : (m : Config) × Event d before e m × Leads d m (take a es) f.config = f.leads in
    absurd (fault-here d before there.0 e es g there.1)
fault-one d before (e ∷ es) (suc a) (suc b) f g =
    let there : (m : Config) × Event d before e m × Leads d m (take a es) f.config = f.leads in
    ap suc (fault-one d there.0 es a b (fault-later d before there.0 e es a there.1 f) (fault-later d before there.0 e es b there.1 g))

-- One event after another.
use Rattle.std.proofs.Common.{◌≡◌, ℕ, zero, suc, ◌+◌, ◌<◌, Some, Err, Result, List, [], ◌∷◌, take, length, get_or, add-one, refl, sym, subst}
use Rattle.std.specs.Prelude.{slice_get}
use Rattle.std.proofs.lemmas.Option.{slice_get-get_or}
use Rattle.dl_model.specs.declared.history.Entry.{Entry}
use Rattle.dl_model.specs.declared.file.Decls.{Decls}
use Rattle.dl_model.specs.Runs.{Config, Event, Leads}
use Rattle.dl_model.proofs.Small.{some-same}
use Rattle.dl_history.specs.declared.config.Config.{Config as Kept}
use Rattle.dl_history.specs.declared.fault.ReplayFault.{ReplayFault}
use Rattle.dl_history.specs.declared.fault.ReplayFault.TheVariants.{At}
use Rattle.dl_history.specs.Replayed.{IsNoEvent, IsFaultAt}

-- one entry more, at the end
leads-longer : (d : Decls) (es : List Entry) (k : ℕ) (before mid after : Config) (e : Entry) → slice_get es k ≡ Some e → Leads d before (take k es) mid → Event d mid e after → Leads d before (take (suc k) es) after
leads-longer d [] k before mid after e s l event = cc
leads-longer d (x ∷ xs) zero before mid after e s l event =
    (after, subst (λ y. Event d before y after) (sym (some-same x e s)) (subst (λ c. Event d c e after) (sym l) event), refl)
leads-longer d (x ∷ xs) (suc k) before mid after e s (m, first, l) event = (m, first, leads-longer d xs k m mid after e s l event)

pub leads-next : (d : Decls) (es : List Entry) (k : ℕ) (x : Entry) (before mid after : Config) → k < length es → Leads d before (take k es) mid → Event d mid (get_or es k x) after → Leads d before (take (k + 1) es) after
leads-next d es k x before mid after lt l event =
    subst (λ n. Leads d before (take n es) after) (sym (add-one k)) (leads-longer d es k before mid after (get_or es k x) (slice_get-get_or es k x lt) l event)

pub fault-next : (d : Decls) (es : List Entry) (k : ℕ) (x : Entry) (before mid : Config) → k < length es → Leads d before (take k es) mid → IsNoEvent d mid (get_or es k x) → IsFaultAt d before es k
fault-next d es k x before mid lt l fault = record { config = mid; leads = l; entry = get_or es k x; there = slice_get-get_or es k x lt; fault = fault }

pub fault-is : (a b : ℕ) → ◌≡◌ {A = Result Kept ReplayFault} (Err (At a)) (Err (At b)) → a ≡ b
fault-is a b e = cc

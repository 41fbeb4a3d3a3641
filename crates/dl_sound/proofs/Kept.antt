-- Each move keeps the coherences and the invariants, and so does every run of free nodes.
use Rattle.std.proofs.Common.{◌≡◌, ℕ, ◌<◌, Bool, true, false, Option, Some, None, List, [], ◌∷◌, refl, ap, sym, ◌∙◌, subst, ◌⊎◌, inl, inr}
use Rattle.std.proofs.lemmas.Bool.{cases_eq}
use Rattle.std.specs.Prelude.{slice_get}
use Rattle.dl_term.specs.declared.syntax.Lab.{Lab}
use Rattle.dl_term.specs.declared.syntax.Lab.TheVariants.{Own, At}
use Rattle.dl_term.specs.declared.syntax.Formula.{Formula}
use Rattle.dl_term.specs.State.{State, statelet}
use Rattle.dl_term.specs.Names.{no_names, label_of}
use Rattle.dl_model.specs.Sorts.{has}
use Rattle.dl_model.specs.Lookup.{protocol_at, world_at, composed}
use Rattle.dl_model.specs.Worlds.{Injects}
use Rattle.dl_model.specs.States.{IsWellSorted, first_state}
use Rattle.dl_model.specs.Steps.{Step, Sending, Receiving, CanStep, Meets, after_step, label_of_step, statelet_sent, statelet_received}
use Rattle.dl_model.specs.Runs.{Config, FreeEvent, IsFreeCall, step_of, state_after, Leads, initial_free}
use Rattle.dl_model.specs.Safe.{coherence_holds, coherent, invariant_holds, MeetsInvariants, EachFreeRunMeetsInvariants}
use Rattle.dl_sound.proofs.Needed.{StateNeeds, IsOwn, IsIn, injects-owned, injects-covered}
use Rattle.dl_model.specs.Spoken.{labels_of}
use Rattle.dl_sound.specs.Obligations.{FactsBefore, Facts, StateObligations}
use Rattle.dl_model.specs.declared.history.Call.{Call}
use Rattle.dl_model.specs.declared.history.Call.TheVariants as call
use Rattle.dl_model.specs.declared.history.Reply.{Reply}
use Rattle.dl_model.specs.declared.history.Reply.TheVariants as reply
use Rattle.dl_model.specs.declared.history.Entry.{Entry}
use Rattle.dl_model.specs.declared.protocol.Instances.{Instances}
use Rattle.dl_model.specs.declared.file.World.{World}
use Rattle.dl_model.specs.declared.file.Invariant.{Invariant}
use Rattle.dl_model.specs.declared.file.Decls.{Decls}
use Rattle.dl_sound.proofs.Agree.{holds-same}
use Rattle.std.specs.List.{AllByRecursion as Each}
use Rattle.dl_model.proofs.Sorted.{step-sorted, first-sorted, statelet-written}

-- ---- worlds

pub meets-small : (d : Decls) (small large : World) (s : State) (node : ℕ) (move : Step) → Injects d small large → Meets d large s node move → Meets d small s node move
meets-small d small large s node (Sending label tag to args) i h = λ hook m c t. h hook (injects-owned d small large i hook m) c t
meets-small d small large s node (Receiving label id) i h = tt

pub meets-large : (d : Decls) (small large : World) (s : State) (node : ℕ) (move : Step) → Injects d small large → has small.labels (label_of_step move) ≡ true →
    Meets d small s node move → Meets d large s node move
meets-large d small large s node (Sending label tag to args) i l h =
    λ hook m c t. h hook (injects-covered d small large i hook m (subst (λ x. has small.labels x ≡ true) (sym c) l)) c t
meets-large d small large s node (Receiving label id) i l h = tt

pub facts-of : (d : Decls) (world : World) (s : State) → Injects d world (composed d) → MeetsInvariants d s → Facts d world s
facts-of d world s i g = record { coherences = λ label m. g.coherences label (i.labels label m); invariants = λ k invariant e v. g.invariants k invariant e }

facts-before : (d : Decls) (n : ℕ) (world : World) (s : State) → Injects d world (composed d) → MeetsInvariants d s → FactsBefore d n world s
facts-before d n world s i g = record { coherences = λ label m. g.coherences label (i.labels label m); invariants = λ k invariant b e v. g.invariants k invariant e }

-- ---- other labels

pub statelet-other : (inst : Instances) (s : State) (node : ℕ) (move : Step) (label : ℕ) → (label ≡ label_of_step move → ⊥) → statelet s label ≡ statelet (after_step inst s node move) label
statelet-other inst s node (Sending at tag to args) label h =
    statelet-written (λ st. statelet s label ≡ st) s.labels (statelet_sent inst s node at tag to args) (record { fields = []; soup = [] }) at label refl (λ e. absurd (h e))
statelet-other inst s node (Receiving at id) label h =
    statelet-written (λ st. statelet s label ≡ st) s.labels (statelet_received inst s node at id) (record { fields = []; soup = [] }) at label refl (λ e. absurd (h e))

pub nodes-moved : (inst : Instances) (s : State) (node : ℕ) (move : Step) → s.nodes ≡ (after_step inst s node move).nodes
nodes-moved inst s node (Sending label tag to args) = refl
nodes-moved inst s node (Receiving label id) = refl

own_label : (s s' : State) (label : ℕ) → statelet s label ≡ statelet s' label → (lab : Lab) → IsOwn lab → statelet s (label_of label lab) ≡ statelet s' (label_of label lab)
own_label s s' label h Own i = h
own_label s s' label h (At l) i = absurd i

world_label : (world : World) (s s' : State) (own : ℕ) → ((label : ℕ) → has world.labels label ≡ true → statelet s label ≡ statelet s' label) → (lab : Lab) → IsIn world lab →
    statelet s (label_of own lab) ≡ statelet s' (label_of own lab)
world_label world s s' own h Own i = cc
world_label world s s' own h (At label) i = h label i

coherence-other : (c : Option Formula) (label : ℕ) (s s' : State) → ((f : Formula) → c ≡ Some f → Each IsOwn (labels_of f)) → s.nodes ≡ s'.nodes → statelet s label ≡ statelet s' label →
    coherence_holds c label s ≡ coherence_holds c label s'
coherence-other None label s s' h n e = refl
coherence-other (Some f) label s s' h n e = holds-same IsOwn s s' f (no_names label) (h f refl) (record { nodes = n; labels = own_label s s' label e; messages = λ m l id q. cc })

closed-other : (world : World) (invariant : Invariant) (s s' : State) → Each (IsIn world) (labels_of invariant.formula) → s.nodes ≡ s'.nodes →
    ((label : ℕ) → has world.labels label ≡ true → statelet s label ≡ statelet s' label) → invariant_holds invariant s ≡ invariant_holds invariant s'
closed-other world invariant s s' h n e = holds-same (IsIn world) s s' invariant.formula (no_names 0) h (record { nodes = n; labels = world_label world s s' 0 e; messages = λ m l id q. cc })

pub true-or-false : (b : Bool) → (b ≡ true) ⊎ (b ≡ false)
true-or-false true = inl refl
true-or-false false = inr refl

pub apart : (xs : List ℕ) (a b : ℕ) → has xs a ≡ true → has xs b ≡ false → a ≡ b → ⊥
apart xs a b h k e = cc (ap (has xs) e)

-- ---- a move

module _ (d : Decls) (formed : StateNeeds d) (duties : StateObligations d) (s : State) (node : ℕ) (move : Step)
    (sorted : IsWellSorted d.inst s) (good : MeetsInvariants d s) (known : node < d.inst.nodes) (can : CanStep d.inst s node move) (meets : Meets d (composed d) s node move) where
  coherence-kept : (label : ℕ) → has (composed d).labels label ≡ true → coherent d.inst label (after_step d.inst s node move) ≡ true
  coherence-kept label m = elim (cases_eq label (label_of_step move)) [
    | inl e ↦ subst (λ l. coherent d.inst l (after_step d.inst s node move) ≡ true) (sym e)
        (duties.protocols.step s node move sorted known (subst (λ l. coherent d.inst l s ≡ true) e (good.coherences label m)) can)
    | inr n ↦ sym (coherence-other (protocol_at d.inst label).coherence label s (after_step d.inst s node move) (formed.coherences label) (nodes-moved d.inst s node move) (statelet-other d.inst s node move label n))
        ∙ good.coherences label m
  ]

  invariant-kept : (i : ℕ) (invariant : Invariant) → slice_get d.invariants i ≡ Some invariant → invariant_holds invariant (after_step d.inst s node move) ≡ true
  invariant-kept i invariant e = elim (true-or-false (has (world_at d invariant.world).labels (label_of_step move))) [
    | inl m ↦ (duties.invariants i invariant e).step s node move sorted known (facts-before d i (world_at d invariant.world) s (formed.injected i invariant e) good) (good.invariants i invariant e) m can
        (meets-small d (world_at d invariant.world) (composed d) s node move (formed.injected i invariant e) meets)
    | inr n ↦ sym (closed-other (world_at d invariant.world) invariant s (after_step d.inst s node move) (formed.invariants i invariant e) (nodes-moved d.inst s node move)
        (λ label m. statelet-other d.inst s node move label (apart (world_at d invariant.world).labels label (label_of_step move) m n)))
        ∙ good.invariants i invariant e
  ]

  pub good-kept : MeetsInvariants d (after_step d.inst s node move)
  good-kept = record { coherences = coherence-kept; invariants = invariant-kept }

-- the move can be made, and meets the hooks of the composed world
abbrev pub IsStep : Decls → State → ℕ → Option Step → Type 0
IsStep d s node (Some move) = CanStep d.inst s node move × Meets d (composed d) s node move
IsStep d s node None = Unit {0}

pub record IsSound (d : Decls) (s : State) : Type 0 where
  pub sorted : IsWellSorted d.inst s
  pub good : MeetsInvariants d s

pub step-sound : (d : Decls) → StateNeeds d → StateObligations d → (s : State) (node : ℕ) (move : Option Step) → IsSound d s → node < d.inst.nodes → IsStep d s node move → IsSound d (state_after d.inst s node move)
step-sound d formed duties s node (Some move) h k c = record {
  sorted = step-sorted d.inst s node move h.sorted k c.0;
  good = good-kept d formed duties s node move h.sorted h.good k c.0 c.1;
}
step-sound d formed duties s node None h k c = h

pub first-sound : (d : Decls) → StateNeeds d → StateObligations d → IsSound d (first_state d.inst)
first-sound d formed duties = record {
  sorted = first-sorted d.inst formed.inst;
  good = record { coherences = λ label m. duties.protocols.init label; invariants = λ i invariant e. (duties.invariants i invariant e).init };
}

-- ---- free nodes

pub free-step : (d : Decls) (s : State) (node : ℕ) (c : Call) (r : Reply) → IsFreeCall d s node c r → IsStep d s node (step_of c r)
free-step d s node (call.Send label tag to args) (reply.Sent id) h = (h.1, h.2)
free-step d s node (call.Poll label tag) (reply.Got id from args) h = (h.match.receivable, tt)
free-step d s node (call.Send label tag to args) _ h = absurd h
free-step d s node (call.Poll label tag) _ h = absurd h
free-step d s node (call.Await label tag) _ h = absurd h
free-step d s node (call.Read label field index) _ h = absurd h

pub free-sound : (d : Decls) → StateNeeds d → StateObligations d → (before : Config) (e : Entry) (after : Config) → e.node < d.inst.nodes → FreeEvent d before e after → IsSound d before.state → IsSound d after.state
free-sound d formed duties before e after k f h =
    subst (IsSound d) (sym f.state) (step-sound d formed duties before.state e.node (step_of e.call e.reply) h k (free-step d before.state e.node e.call e.reply f.allowed))

free-run : (d : Decls) → StateNeeds d → StateObligations d → (es : List Entry) (before after : Config) → Leads d before es after → ((node : ℕ) → before.machines node ≡ None) → IsSound d before.state → IsSound d after.state
free-run d formed duties [] before after l n h = subst (λ c. IsSound d c.state) l h
free-run d formed duties (e ∷ es) before after (mid, event, l) n h = elim event.acts [
  | inl p ↦ absurd (cc (n e.node, p.there))
  | inr f ↦ free-run d formed duties es mid after l (λ node. f.machines node ∙ n node) (free-sound d formed duties before e mid event.node f h)
]

pub free-good : (d : Decls) → StateNeeds d → StateObligations d → EachFreeRunMeetsInvariants d
free-good d formed duties es c l = (free-run d formed duties es (initial_free d) c l (λ node. refl) (first-sound d formed duties)).good

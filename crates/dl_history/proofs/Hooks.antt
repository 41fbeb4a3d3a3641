-- Hooks that a send meets, one by one and all.
use Rattle.std.proofs.Common.{◌≡◌, ◌↔◌, ℕ, ◌==◌, ℤ, Bool, true, false, ◌&&◌, Some, None, List, [], ◌∷◌, refl, ap, sym, ◌∙◌, subst, cond, eq-eqb, inl, inr}
use Rattle.std.proofs.lemmas.Bool.{eqb-true}
use Rattle.std.specs.Prelude.{slice_get, unwrap_or, Option}
use Rattle.std.specs.List.{list_all}
use Rattle.dl_term.specs.State.{State}
use Rattle.dl_term.specs.Meaning.{holds}
use Rattle.dl_term.specs.declared.syntax.Formula.{True}
use Rattle.dl_term.specs.Measures.{EachIsNarrow}
use Rattle.dl_model.specs.Words.{send_names}
use Rattle.dl_model.specs.declared.protocol.Hook.{Hook}
use Rattle.dl_model.specs.declared.file.Decls.{Decls}
use Rattle.dl_model.specs.Sorts.{has}
use Rattle.dl_model.specs.Lookup.{hook_at, composed}
use Rattle.dl_model.specs.Formed.{IsFormed, HookIsFormed}
use Rattle.dl_model.specs.Steps.{Sending, Meets, hook_holds}
use Rattle.dl_model.proofs.Small.{and-left, and-right, and-both, or-true-left, or-true-right, either-true}
use Rattle.dl_proto.proofs.Options.{each-at}
use Rattle.dl_history.specs.Taken.{hook_met}

if-true : (b x : Bool) → b ≡ true → cond b x true ≡ true → x ≡ true
if-true true x e h = h
if-true false x e h = cc

if-either : (b x : Bool) → (b ≡ true → x ≡ true) → cond b x true ≡ true
if-either true x h = h refl
if-either false x h = refl

-- the send meets each of these hooks
abbrev MeetsEach : Decls → State → ℕ → ℕ → ℕ → ℤ → List ℤ → List ℕ → Type 0
MeetsEach d s node label tag to args hooks =
    (hook : ℕ) → has hooks hook ≡ true → (hook_at d hook).client ≡ label → (hook_at d hook).tag ≡ tag → hook_holds d s hook node to args ≡ true

all-meet : (d : Decls) (s : State) (node label tag : ℕ) (to : ℤ) (args : List ℤ) (hooks : List ℕ) → list_all (hook_met d s node label tag to args) hooks ≡ true → MeetsEach d s node label tag to args hooks
all-meet d s node label tag to args [] h hook e client same = cc
all-meet d s node label tag to args (k ∷ ks) h hook e client same = elim (either-true (hook == k) (has ks hook) e) [
  | inl q ↦
      let here : hook_met d s node label tag to args hook ≡ true = subst (λ n. hook_met d s node label tag to args n ≡ true) (sym (eqb-true hook k q)) (and-left (hook_met d s node label tag to args k) _ h) in
      if-true (((hook_at d hook).client == label) && ((hook_at d hook).tag == tag)) (hook_holds d s hook node to args)
      (and-both ((hook_at d hook).client == label) _ (eq-eqb (hook_at d hook).client label client) (eq-eqb (hook_at d hook).tag tag same)) here
  | inr q ↦ all-meet d s node label tag to args ks (and-right (hook_met d s node label tag to args k) _ h) hook q client same
]

meet-all : (d : Decls) (s : State) (node label tag : ℕ) (to : ℤ) (args : List ℤ) (hooks : List ℕ) → MeetsEach d s node label tag to args hooks → list_all (hook_met d s node label tag to args) hooks ≡ true
meet-all d s node label tag to args [] h = refl
meet-all d s node label tag to args (k ∷ ks) h = and-both (hook_met d s node label tag to args k) _
    (if-either (((hook_at d k).client == label) && ((hook_at d k).tag == tag)) (hook_holds d s k node to args)
    (λ t. h k (or-true-left (k == k) _ (eq-eqb k k refl))
    (eqb-true (hook_at d k).client label (and-left ((hook_at d k).client == label) _ t))
    (eqb-true (hook_at d k).tag tag (and-right ((hook_at d k).client == label) _ t))))
    (meet-all d s node label tag to args ks (λ hook e. h hook (or-true-right (hook == k) _ e)))

pub meets-all : (d : Decls) (s : State) (node label tag : ℕ) (to : ℤ) (args : List ℤ) (b : Bool) → b ≡ list_all (hook_met d s node label tag to args) (composed d).hooks
    → (b ≡ true) ↔ Meets d (composed d) s node (Sending label tag to args)
meets-all d s node label tag to args b e = record {
  0 = λ t. all-meet d s node label tag to args (composed d).hooks (sym e ∙ t);
  1 = λ h. e ∙ meet-all d s node label tag to args (composed d).hooks h;
}

-- a hook of a formed file is evaluated within 128 bits
pub hook-narrow : (d : Decls) (k : ℕ) (hook : Hook) → IsFormed d → slice_get d.hooks k ≡ Some hook → EachIsNarrow hook.formula
hook-narrow d k hook h e = (each-at (HookIsFormed d.inst) d.hooks k hook h.hooks e).formula.0.1

-- what the hook asks
abbrev asked : State → ℕ → ℕ → ℕ → ℤ → List ℤ → Hook → Bool
asked s node label tag to args hook = cond ((hook.client == label) && (hook.tag == tag)) (holds hook.formula (send_names 0 hook.args node to args) s) true

pub hook-met : (d : Decls) (s : State) (node label tag : ℕ) (to : ℤ) (args : List ℤ) (k : ℕ) (hook : Hook) (b : Bool) → slice_get d.hooks k ≡ Some hook → b ≡ asked s node label tag to args hook
    → b ≡ hook_met d s node label tag to args k
hook-met d s node label tag to args k hook b e is =
    is ∙ ap (asked s node label tag to args) (sym (ap (λ o. unwrap_or {T = Hook} o (record { sym = 0; core = 0; client = 0; tag = 0; args = []; formula = True })) e))

-- where no hook stands it is one that always holds
pub no-hook-met : (d : Decls) (s : State) (node label tag : ℕ) (to : ℤ) (args : List ℤ) (k : ℕ) → slice_get d.hooks k ≡ None → hook_met d s node label tag to args k ≡ true
no-hook-met d s node label tag to args k e =
    if-either (((hook_at d k).client == label) && ((hook_at d k).tag == tag)) (hook_holds d s k node to args) (λ t. ap (λ o. held o) e)
  where
    held : Option Hook → Bool
    held o = holds (unwrap_or o (record { sym = 0; core = 0; client = 0; tag = 0; args = []; formula = True })).formula
        (send_names 0 (unwrap_or o (record { sym = 0; core = 0; client = 0; tag = 0; args = []; formula = True })).args node to args) s

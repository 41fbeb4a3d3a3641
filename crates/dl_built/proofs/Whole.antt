-- An obligation is that of its procedure, or of none.
use Rattle.std.proofs.Common.{◌≡◌, ◌≤◌, ℕ, zero, suc, Bool, true, false, List, Option, Some, None, refl, sym, ◌∙◌, ap, arith}
use Rattle.dl_model.specs.declared.file.Decls.{Decls}
use Rattle.dl_model.specs.declared.sequent.Sequent.{Sequent}
use Rattle.dl_model.specs.Lookup.{proc_at}
use Rattle.dl_sequent.specs.declared.duty.Duty.{Duty}
use Rattle.dl_sequent.specs.declared.duty.Duty.TheVariants.{InitProtocol, InitInvariant, StepProtocol, StepInvariant, Start, Guard, AfterSend, Got, Miss, AfterRead, Body, Exit, Enter, Leave, Stable, Frame, Deploy}
use Rattle.dl_model.specs.declared.program.Proc.{Proc}
use Rattle.dl_triples.specs.Obligations.{sequent_of}
use Rattle.dl_triples.specs.Points.{note_of, point_at}
use Rattle.dl_triples.specs.Built.{captured, captured_in, sequent_in, proc_number, other_sequent, stays_at}

some-is : (a b : ℕ) → Some a ≡ Some b → a ≡ b
some-is a b e = cc

stable-is : (d : Decls) (p k label tag : ℕ) (receive : Bool) (names : List ℕ) → sequent_in d (proc_at d.procs p) (Stable p k label tag receive) names ≡ sequent_of d (Stable p k label tag receive) names
stable-is d p zero label tag receive names = refl
stable-is d p (suc k) label tag receive names = refl

pub of-proc : (d : Decls) (duty : Duty) (names : List ℕ) (n : ℕ) → proc_number duty ≡ Some n → sequent_in d (proc_at d.procs n) duty names ≡ sequent_of d duty names
of-proc d (InitProtocol p) names n e = absurd (cc e)
of-proc d (InitInvariant i) names n e = absurd (cc e)
of-proc d (StepProtocol p tag receive) names n e = absurd (cc e)
of-proc d (StepInvariant i label tag receive) names n e = absurd (cc e)
of-proc d (Start p) names n e = ap (λ m. sequent_in d (proc_at d.procs m) (Start p) names) (sym (some-is p n e)) ∙ refl
of-proc d (Guard p k) names n e = ap (λ m. sequent_in d (proc_at d.procs m) (Guard p k) names) (sym (some-is p n e)) ∙ refl
of-proc d (AfterSend p k) names n e = ap (λ m. sequent_in d (proc_at d.procs m) (AfterSend p k) names) (sym (some-is p n e)) ∙ refl
of-proc d (Got p k) names n e = ap (λ m. sequent_in d (proc_at d.procs m) (Got p k) names) (sym (some-is p n e)) ∙ refl
of-proc d (Miss p k) names n e = ap (λ m. sequent_in d (proc_at d.procs m) (Miss p k) names) (sym (some-is p n e)) ∙ refl
of-proc d (AfterRead p k) names n e = ap (λ m. sequent_in d (proc_at d.procs m) (AfterRead p k) names) (sym (some-is p n e)) ∙ refl
of-proc d (Body p k) names n e = ap (λ m. sequent_in d (proc_at d.procs m) (Body p k) names) (sym (some-is p n e)) ∙ refl
of-proc d (Exit p k) names n e = ap (λ m. sequent_in d (proc_at d.procs m) (Exit p k) names) (sym (some-is p n e)) ∙ refl
of-proc d (Enter p k) names n e = ap (λ m. sequent_in d (proc_at d.procs m) (Enter p k) names) (sym (some-is p n e)) ∙ refl
of-proc d (Leave p k) names n e = ap (λ m. sequent_in d (proc_at d.procs m) (Leave p k) names) (sym (some-is p n e)) ∙ refl
of-proc d (Stable p k label tag receive) names n e = ap (λ m. sequent_in d (proc_at d.procs m) (Stable p k label tag receive) names) (sym (some-is p n e)) ∙ stable-is d p k label tag receive names
of-proc d (Frame p k label tag receive) names n e = ap (λ m. sequent_in d (proc_at d.procs m) (Frame p k label tag receive) names) (sym (some-is p n e)) ∙ refl
of-proc d (Deploy node) names n e = absurd (cc e)

pub captured-of-proc : (d : Decls) (duty : Duty) (names : List ℕ) (n : ℕ) → proc_number duty ≡ Some n → captured_in d (proc_at d.procs n) duty names ≡ captured d duty names
captured-of-proc d (InitProtocol p) names n e = absurd (cc e)
captured-of-proc d (InitInvariant i) names n e = absurd (cc e)
captured-of-proc d (StepProtocol p tag receive) names n e = absurd (cc e)
captured-of-proc d (StepInvariant i label tag receive) names n e = absurd (cc e)
captured-of-proc d (Start p) names n e = ap (λ m. captured_in d (proc_at d.procs m) (Start p) names) (sym (some-is p n e)) ∙ refl
captured-of-proc d (Guard p k) names n e = ap (λ m. captured_in d (proc_at d.procs m) (Guard p k) names) (sym (some-is p n e)) ∙ refl
captured-of-proc d (AfterSend p k) names n e = ap (λ m. captured_in d (proc_at d.procs m) (AfterSend p k) names) (sym (some-is p n e)) ∙ refl
captured-of-proc d (Got p k) names n e = ap (λ m. captured_in d (proc_at d.procs m) (Got p k) names) (sym (some-is p n e)) ∙ refl
captured-of-proc d (Miss p k) names n e = ap (λ m. captured_in d (proc_at d.procs m) (Miss p k) names) (sym (some-is p n e)) ∙ refl
captured-of-proc d (AfterRead p k) names n e = ap (λ m. captured_in d (proc_at d.procs m) (AfterRead p k) names) (sym (some-is p n e)) ∙ refl
captured-of-proc d (Body p k) names n e = ap (λ m. captured_in d (proc_at d.procs m) (Body p k) names) (sym (some-is p n e)) ∙ refl
captured-of-proc d (Exit p k) names n e = ap (λ m. captured_in d (proc_at d.procs m) (Exit p k) names) (sym (some-is p n e)) ∙ refl
captured-of-proc d (Enter p k) names n e = ap (λ m. captured_in d (proc_at d.procs m) (Enter p k) names) (sym (some-is p n e)) ∙ refl
captured-of-proc d (Leave p k) names n e = ap (λ m. captured_in d (proc_at d.procs m) (Leave p k) names) (sym (some-is p n e)) ∙ refl
captured-of-proc d (Stable p k label tag receive) names n e = ap (λ m. captured_in d (proc_at d.procs m) (Stable p k label tag receive) names) (sym (some-is p n e)) ∙ refl
captured-of-proc d (Frame p k label tag receive) names n e = ap (λ m. captured_in d (proc_at d.procs m) (Frame p k label tag receive) names) (sym (some-is p n e)) ∙ refl
captured-of-proc d (Deploy node) names n e = absurd (cc e)

pub of-none : (d : Decls) (duty : Duty) (names : List ℕ) → proc_number duty ≡ None → other_sequent d duty ≡ sequent_of d duty names
of-none d (InitProtocol p) names e = refl
of-none d (InitInvariant i) names e = refl
of-none d (StepProtocol p tag receive) names e = refl
of-none d (StepInvariant i label tag receive) names e = refl
of-none d (Start p) names e = absurd (cc e)
of-none d (Guard p k) names e = absurd (cc e)
of-none d (AfterSend p k) names e = absurd (cc e)
of-none d (Got p k) names e = absurd (cc e)
of-none d (Miss p k) names e = absurd (cc e)
of-none d (AfterRead p k) names e = absurd (cc e)
of-none d (Body p k) names e = absurd (cc e)
of-none d (Exit p k) names e = absurd (cc e)
of-none d (Enter p k) names e = absurd (cc e)
of-none d (Leave p k) names e = absurd (cc e)
of-none d (Stable p k label tag receive) names e = absurd (cc e)
of-none d (Frame p k label tag receive) names e = absurd (cc e)
of-none d (Deploy node) names e = refl

-- ---- what has to stay at a point after the point 0

pub stays-later : (proc : Proc) (k : ℕ) → 1 ≤ k → note_of (point_at proc k).block ≡ stays_at proc k
stays-later proc zero h = absurd (omega (h, arith))
stays-later proc (suc k) h = refl

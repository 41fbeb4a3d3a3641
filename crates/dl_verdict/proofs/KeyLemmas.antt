-- Two obligations have the same key just where they are the same one.
use Rattle.std.proofs.Common.{◌≡◌, ℕ, ◌==◌, Bool, true, false, if◌then◌else◌, refl, sym, subst, ◌∙◌, eq-eqb}
use Rattle.std.proofs.lemmas.Bool.{eqb-true}
use Rattle.dl_model.proofs.Small.{and-left, and-right, and-both}
use Rattle.dl_sequent.specs.declared.duty.Duty.{Duty}
use Rattle.dl_sequent.specs.declared.duty.Duty.TheVariants as duty
use Rattle.dl_inv.specs.Facts.{agree}
use Rattle.dl_faults.specs.Obligations.{same_duty}
use Rattle.dl_faults.proofs.Same.{same-is, same-itself, agree-is, agree-itself}
use Rattle.dl_verdict.specs.declared.keys.Key.{Key}
use Rattle.dl_verdict.specs.Keys.{key_of, same_key}

-- ---- keys that are the same

pub record HasSame (a b : Key) : Type 0 where
  pub kind : a.kind ≡ b.kind
  pub subject : a.subject ≡ b.subject
  pub point : a.point ≡ b.point
  pub label : a.label ≡ b.label
  pub tag : a.tag ≡ b.tag
  pub receive : a.receive ≡ b.receive

key-told : (a b : Key) → same_key a b ≡ true → HasSame a b
key-told a b h =
    let after_kind = and-right (a.kind == b.kind) _ h in
    let after_subject = and-right (a.subject == b.subject) _ after_kind in
    let after_point = and-right (a.point == b.point) _ after_subject in
    let after_label = and-right (a.label == b.label) _ after_point in
    record {
      kind = eqb-true a.kind b.kind (and-left (a.kind == b.kind) _ h);
      subject = eqb-true a.subject b.subject (and-left (a.subject == b.subject) _ after_kind);
      point = eqb-true a.point b.point (and-left (a.point == b.point) _ after_subject);
      label = eqb-true a.label b.label (and-left (a.label == b.label) _ after_point);
      tag = eqb-true a.tag b.tag (and-left (a.tag == b.tag) _ after_label);
      receive = agree-is a.receive b.receive (and-right (a.tag == b.tag) _ after_label);
    }

agree-both : (a b : Bool) → a ≡ b → agree a b ≡ true
agree-both a b e = subst (λ (x : Bool). agree a x ≡ true) e (agree-itself a)

told-key : (a b : Key) → HasSame a b → same_key a b ≡ true
told-key a b s =
    and-both (a.kind == b.kind) _ (eq-eqb a.kind b.kind s.kind)
    (and-both (a.subject == b.subject) _ (eq-eqb a.subject b.subject s.subject)
    (and-both (a.point == b.point) _ (eq-eqb a.point b.point s.point)
    (and-both (a.label == b.label) _ (eq-eqb a.label b.label s.label)
    (and-both (a.tag == b.tag) _ (eq-eqb a.tag b.tag s.tag) (agree-both a.receive b.receive s.receive)))))

pub key-itself : (a : Key) → same_key a a ≡ true
key-itself a = told-key a a (record { kind = refl; subject = refl; point = refl; label = refl; tag = refl; receive = refl })

pub key-through : (a b c : Key) → same_key a b ≡ true → same_key b c ≡ true → same_key a c ≡ true
key-through a b c h k =
    let s = key-told a b h in
    let t = key-told b c k in
    told-key a c (record {
      kind = s.kind ∙ t.kind;
      subject = s.subject ∙ t.subject;
      point = s.point ∙ t.point;
      label = s.label ∙ t.label;
      tag = s.tag ∙ t.tag;
      receive = s.receive ∙ t.receive;
    })

-- ---- the obligation of a key

abbrev obligation_of : (kind subject point label tag : ℕ) → Bool → Duty
obligation_of kind subject point label tag receive =
    if kind == 0 then duty.InitProtocol subject
    else if kind == 1 then duty.InitInvariant subject
    else if kind == 2 then duty.StepProtocol subject tag receive
    else if kind == 3 then duty.StepInvariant subject label tag receive
    else if kind == 4 then duty.Start subject
    else if kind == 5 then duty.Guard subject point
    else if kind == 6 then duty.AfterSend subject point
    else if kind == 7 then duty.Got subject point
    else if kind == 8 then duty.Miss subject point
    else if kind == 9 then duty.AfterRead subject point
    else if kind == 10 then duty.Body subject point
    else if kind == 11 then duty.Exit subject point
    else if kind == 12 then duty.Enter subject point
    else if kind == 13 then duty.Leave subject point
    else if kind == 14 then duty.Stable subject point label tag receive
    else if kind == 15 then duty.Frame subject point label tag receive
    else duty.Deploy subject

abbrev decoded : Key → Duty
decoded key = obligation_of key.kind key.subject key.point key.label key.tag key.receive

decoded-key : (a : Duty) → decoded (key_of a) ≡ a
decoded-key (duty.InitProtocol p) = refl
decoded-key (duty.InitInvariant i) = refl
decoded-key (duty.StepProtocol p tag receive) = refl
decoded-key (duty.StepInvariant i label tag receive) = refl
decoded-key (duty.Start p) = refl
decoded-key (duty.Guard p k) = refl
decoded-key (duty.AfterSend p k) = refl
decoded-key (duty.Got p k) = refl
decoded-key (duty.Miss p k) = refl
decoded-key (duty.AfterRead p k) = refl
decoded-key (duty.Body p k) = refl
decoded-key (duty.Exit p k) = refl
decoded-key (duty.Enter p k) = refl
decoded-key (duty.Leave p k) = refl
decoded-key (duty.Stable p k label tag receive) = refl
decoded-key (duty.Frame p k label tag receive) = refl
decoded-key (duty.Deploy n) = refl

decoded-same : (a b : Key) → HasSame a b → decoded a ≡ decoded b
decoded-same a b s = λ j. obligation_of (s.kind j) (s.subject j) (s.point j) (s.label j) (s.tag j) (s.receive j)

key-duty : (a b : Duty) → same_key (key_of a) (key_of b) ≡ true → a ≡ b
key-duty a b h = sym (decoded-key a) ∙ (decoded-same (key_of a) (key_of b) (key-told (key_of a) (key_of b) h) ∙ decoded-key b)

-- ---- both tests

same-truth : (b c : Bool) → (b ≡ true → c ≡ true) → (c ≡ true → b ≡ true) → b ≡ c
same-truth true c h k = sym (h refl)
same-truth false true h k = k refl
same-truth false false h k = refl

pub keys-tell : (a b : Duty) → same_key (key_of a) (key_of b) ≡ same_duty a b
keys-tell a b = same-truth (same_key (key_of a) (key_of b)) (same_duty a b)
    (λ h. subst (λ (d : Duty). same_duty a d ≡ true) (key-duty a b h) (same-itself a))
    (λ h. subst (λ (d : Duty). same_key (key_of a) (key_of d) ≡ true) (same-is a b h) (key-itself (key_of a)))

pub same-back : (a b : Duty) → same_duty a b ≡ same_duty b a
same-back a b = same-truth (same_duty a b) (same_duty b a) (turned a b) (turned b a)
  where
    turned : (x y : Duty) → same_duty x y ≡ true → same_duty y x ≡ true
    turned x y h = subst (λ (d : Duty). same_duty y d ≡ true) (sym (same-is x y h)) (same-itself y)

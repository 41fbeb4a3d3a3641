-- Rules by the number of their sub-scripts.
use Rattle.std.proofs.Common.{◌≡◌, ℕ, true, Option, refl}
use Rattle.dl_term.specs.declared.syntax.Term.{Term}
use Rattle.dl_term.specs.declared.syntax.Formula.{Formula}
use Rattle.dl_linear.specs.declared.certificate.Certificate.{Certificate}
use Rattle.dl_sequent.specs.declared.script.Given.{Given}
use Rattle.dl_sequent.specs.declared.script.Script.{Script}
use Rattle.dl_sequent.specs.declared.script.Rule.{Rule, By, Close, Split, Pick, Intro, Open, Give, Parts, Cases, Apply, Inst, Unpack, Have, Decide, Rewrite, Reduce, Range, Linear}
use Rattle.dl_sequent.specs.declared.script.Rule.TheBlock as r
use Rattle.dl_sequent.specs.declared.script.Rule.TheBlock.{more_of-Script as more, end_of-Script as end}
use Rattle.dl_kernel.specs.Opened.{opened}
use Rattle.dl_kernel.specs.Kinds.{has_one_script}

-- a rule that doesn't close the goal, and hasn't two sub-scripts
pub record IsOther (rule : Rule) : Type 0 where
  pub by : (hyp : ℕ) → rule ≡ By hyp → ⊥
  pub close : rule ≡ Close → ⊥
  pub linear : (first : Certificate) (second : Option Certificate) → rule ≡ Linear first second → ⊥
  pub split : (a b : Script) → rule ≡ Split a b → ⊥
  pub cases : (hyp name : ℕ) (a b : Script) → rule ≡ Cases hyp name a b → ⊥
  pub apply : (hyp name : ℕ) (a b : Script) → rule ≡ Apply hyp name a b → ⊥
  pub have : (formula : Formula) (name : ℕ) (a b : Script) → rule ≡ Have formula name a b → ⊥
  pub decide : (formula : Formula) (name : ℕ) (a b : Script) → rule ≡ Decide formula name a b → ⊥

pub other-has-one : (rule : Rule) → IsOther rule → has_one_script rule ≡ true
unfolding opened
other-has-one (r.By hyp) h = absurd (h.by hyp refl)
other-has-one r.Close h = absurd (h.close refl)
other-has-one (r.Split' _ (more a p end) _ (more b q end)) h = absurd (h.split (record { rule = a; place = p }) (record { rule = b; place = q }) refl)
other-has-one (r.Pick' part _ _) h = refl
other-has-one (r.Intro' name _ _) h = refl
other-has-one (r.Open' x _ _) h = refl
other-has-one (r.Give' what _ _) h = refl
other-has-one (r.Parts' hyp left right _ _) h = refl
other-has-one (r.Cases' hyp name _ (more a p end) _ (more b q end)) h = absurd (h.cases hyp name (record { rule = a; place = p }) (record { rule = b; place = q }) refl)
other-has-one (r.Apply' hyp name _ (more a p end) _ (more b q end)) h = absurd (h.apply hyp name (record { rule = a; place = p }) (record { rule = b; place = q }) refl)
other-has-one (r.Inst' hyp what name _ _) h = refl
other-has-one (r.Unpack' hyp x name _ _) h = refl
other-has-one (r.Have' f name _ (more a p end) _ (more b q end)) h = absurd (h.have f name (record { rule = a; place = p }) (record { rule = b; place = q }) refl)
other-has-one (r.Decide' f name _ (more a p end) _ (more b q end)) h = absurd (h.decide f name (record { rule = a; place = p }) (record { rule = b; place = q }) refl)
other-has-one (r.Rewrite' hyp at _ _) h = refl
other-has-one (r.Reduce' hyp at _ _) h = refl
other-has-one (r.Range' t name _ _) h = refl
other-has-one (r.Linear first second) h = absurd (h.linear first second refl)

-- none of the rules with one sub-script
pub record IsNone (rule : Rule) : Type 0 where
  pub pick : (part : ℕ) (a : Script) → rule ≡ Pick part a → ⊥
  pub intro : (name : ℕ) (a : Script) → rule ≡ Intro name a → ⊥
  pub opens : (x : ℕ) (a : Script) → rule ≡ Open x a → ⊥
  pub give : (what : Given) (a : Script) → rule ≡ Give what a → ⊥
  pub parts : (hyp left right : ℕ) (a : Script) → rule ≡ Parts hyp left right a → ⊥
  pub inst : (hyp : ℕ) (what : Given) (name : ℕ) (a : Script) → rule ≡ Inst hyp what name a → ⊥
  pub unpack : (hyp x name : ℕ) (a : Script) → rule ≡ Unpack hyp x name a → ⊥
  pub rewrite : (hyp at : ℕ) (a : Script) → rule ≡ Rewrite hyp at a → ⊥
  pub reduce : (hyp at : ℕ) (a : Script) → rule ≡ Reduce hyp at a → ⊥
  pub range : (t : Term) (name : ℕ) (a : Script) → rule ≡ Range t name a → ⊥

pub none-is-left : (rule : Rule) → IsNone rule → has_one_script rule ≡ true → ⊥
unfolding opened
none-is-left (r.By hyp) h one = cc
none-is-left r.Close h one = cc
none-is-left (r.Split' _ _ _ _) h one = cc
none-is-left (r.Pick' part _ (more a p end)) h one = h.pick part (record { rule = a; place = p }) refl
none-is-left (r.Intro' name _ (more a p end)) h one = h.intro name (record { rule = a; place = p }) refl
none-is-left (r.Open' x _ (more a p end)) h one = h.opens x (record { rule = a; place = p }) refl
none-is-left (r.Give' what _ (more a p end)) h one = h.give what (record { rule = a; place = p }) refl
none-is-left (r.Parts' hyp left right _ (more a p end)) h one = h.parts hyp left right (record { rule = a; place = p }) refl
none-is-left (r.Cases' hyp name _ _ _ _) h one = cc
none-is-left (r.Apply' hyp name _ _ _ _) h one = cc
none-is-left (r.Inst' hyp what name _ (more a p end)) h one = h.inst hyp what name (record { rule = a; place = p }) refl
none-is-left (r.Unpack' hyp x name _ (more a p end)) h one = h.unpack hyp x name (record { rule = a; place = p }) refl
none-is-left (r.Have' f name _ _ _ _) h one = cc
none-is-left (r.Decide' f name _ _ _ _) h one = cc
none-is-left (r.Rewrite' hyp at _ (more a p end)) h one = h.rewrite hyp at (record { rule = a; place = p }) refl
none-is-left (r.Reduce' hyp at _ (more a p end)) h one = h.reduce hyp at (record { rule = a; place = p }) refl
none-is-left (r.Range' t name _ (more a p end)) h one = h.range t name (record { rule = a; place = p }) refl
none-is-left (r.Linear first second) h one = cc

use Rattle.std.proofs.Common.{◌≡◌, refl, Some, None, false}
use Rattle.dl_forms.specs.Form.{head_named}
use Rattle.dl_forms.specs.Table.{reserved}
use Rattle.dl_notation.specs.declared.role.ListRole.TheVariants as list
use Rattle.dl_notation.specs.Environment.{nothing}
use Rattle.dl_notation.specs.Examples.{column, named_early, proved_twice, shadowed_local}
use Rattle.dl_notation.specs.Judge.{OfForms, OfNames, list_fault}
use Rattle.dl_notation.proofs.BehindLemmas.{computing}
use Rattle.dl_notation.proofs.laws.faults_of_programs_compute.Goals as goal

shadow-form : list_fault shadowed_local (OfForms false) list.File ≡ None
unfolding head_named reserved
shadow-form = simp computing refl

shadow-names : list_fault shadowed_local (OfNames nothing) list.File ≡ Some (13, column 75)
unfolding head_named reserved
shadow-names = simp computing refl

pub returns-clause-shadow : goal.returns-clause-shadow
returns-clause-shadow c = rw (shadow-form, shadow-names) refl

twice-form : list_fault proved_twice (OfForms false) list.File ≡ None
unfolding head_named reserved
twice-form = simp computing refl

twice-names : list_fault proved_twice (OfNames nothing) list.File ≡ Some (12, column 119)
unfolding head_named reserved
twice-names = simp computing refl

pub returns-clause-twice : goal.returns-clause-twice
returns-clause-twice c = rw (twice-form, twice-names) refl

early-form : list_fault named_early (OfForms false) list.File ≡ None
unfolding head_named reserved
early-form = simp computing refl

early-names : list_fault named_early (OfNames nothing) list.File ≡ Some (11, column 120)
unfolding head_named reserved
early-names = simp computing refl

pub returns-clause-early : goal.returns-clause-early
returns-clause-early c = rw (early-form, early-names) refl

use Rattle.std.proofs.Common.{◌≡◌, refl, None, false}
use Rattle.dl_forms.specs.Form.{head_named}
use Rattle.dl_forms.specs.Table.{reserved}
use Rattle.dl_notation.specs.declared.role.ListRole.TheVariants as list
use Rattle.dl_notation.specs.Environment.{nothing}
use Rattle.dl_notation.specs.Examples.{counter}
use Rattle.dl_notation.specs.Judge.{OfForms, OfNames, list_fault}
use Rattle.dl_notation.proofs.BehindLemmas.{computing}
use Rattle.dl_notation.proofs.laws.faultless_file_computes.Goals as goal

file-form : list_fault counter (OfForms false) list.File ≡ None
unfolding head_named reserved
file-form = simp computing refl

file-names : list_fault counter (OfNames nothing) list.File ≡ None
unfolding head_named reserved
file-names = simp computing refl

pub returns : goal.returns
returns c = rw (file-form, file-names) refl

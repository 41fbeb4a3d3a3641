use Rattle.std.proofs.Common.{rules, ◌≡◌, refl, arith, subst, sym}
use Rattle.dl_model.specs.declared.protocol.Instances.{Instances}
use Rattle.dl_forms.specs.declared.scope.Scope.{Scope}
use Rattle.dl_forms.specs.Read.{IsFormed}
use Rattle.dl_forms.specs.Numbered.{AreNumbered}
use Rattle.dl_forms.specs.Table.{NameTable, reserved}
use Rattle.dl_trials_forms.proofs.forms.fault_of.Goals as goal

pub read_formula-requires-clause-formed : goal.read_formula-requires-clause-formed
read_formula-requires-clause-formed c =
    rw (c.nothing.ensures, c.no_instances.ensures)
    (record { labels = refl; few_labels = omega arith; few_fields = search rules; few_tags = search rules })

pub read_formula-requires-clause-known : goal.read_formula-requires-clause-known
unfolding reserved
read_formula-requires-clause-known c =
    rw (c.in_ok-names.ensures, c.nothing.ensures, c.no_instances.ensures)
    (record { vars = tt; messages = tt; words = tt; labels = tt; declared = tt; protocols = tt; sorts = tt; marks = refl })

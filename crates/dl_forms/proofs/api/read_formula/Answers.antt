use Rattle.std.proofs.Common.{◌≡◌, [], None, subst}
use Rattle.dl_forms.specs.declared.position.Position.TheVariants as position
use Rattle.dl_forms.specs.Context.{Context}
use Rattle.dl_forms.specs.Judge.{first_fault}
use Rattle.dl_forms.specs.Read.{IsFault}
use Rattle.dl_forms.proofs.SteadyLemmas.{context-same}
use Rattle.dl_forms.proofs.api.read_formula.Goals as goal

pub returns-in-Ok-clause-sound : goal.returns-in-Ok-clause-sound
returns-in-Ok-clause-sound c =
    subst (λ (context : Context). first_fault context position.Formula c.args.tree.now ≡ None)
    (context-same c.args.names.now c.number_names.new.names c.number_names.ensures.kept c.args.scope.now c.args.inst.now c.requires.known) c.in-Ok.ensures.sound

pub returns-in-Err-clause-err : goal.returns-in-Err-clause-err
returns-in-Err-clause-err c =
    subst (λ (context : Context). IsFault (first_fault context position.Formula c.args.tree.now) c.in-Err.fault)
    (context-same c.args.names.now c.number_names.new.names c.number_names.ensures.kept c.args.scope.now c.args.inst.now c.requires.known) c.in-Err.ensures.err

use Rattle.std.proofs.Common.{◌≡◌, [], None, subst, IfOk, IfErr}
use Rattle.dl_forms.specs.declared.position.Position.TheVariants as position
use Rattle.dl_forms.specs.Context.{Context}
use Rattle.dl_forms.specs.Judge.{first_fault}
use Rattle.dl_forms.specs.Read.{IsFault}
use Rattle.dl_forms.proofs.SteadyLemmas.{context-same}
use Rattle.dl_forms.proofs.api.read_term.Goals as goal

pub returns-clause-sound : goal.returns-clause-sound
returns-clause-sound c =
    subst (λ (context : Context). IfOk c.numbered_term.result (λ term. first_fault context position.Term c.args.tree.now ≡ None))
    (context-same c.args.names.now c.number_names.new.names c.number_names.ensures.kept c.args.scope.now c.args.inst.now c.requires.known) c.numbered_term.ensures.sound

pub returns-clause-err : goal.returns-clause-err
returns-clause-err c =
    subst (λ (context : Context). IfErr c.numbered_term.result (λ e. IsFault (first_fault context position.Term c.args.tree.now) e))
    (context-same c.args.names.now c.number_names.new.names c.number_names.ensures.kept c.args.scope.now c.args.inst.now c.requires.known) c.numbered_term.ensures.err

use Rattle.std.proofs.Common.{◌≡◌, sym, ◌∙◌, subst}
use Rattle.dl_model.specs.Lookup.{deploy_of}
use Rattle.dl_model.specs.States.{first_state}
use Rattle.dl_proto.specs.Shaped.{IsShaped}
use Rattle.dl_proto.proofs.FirstShape.{first-shaped}
use Rattle.dl_history.proofs.Starting.{started-meant, started-given}
use Rattle.dl_history.proofs.start.start.Goals as goal

pub returns-clause-first : goal.returns-clause-first
returns-clause-first c = started-meant c.args.decls.now c.in_ok-state.state.state c.in_ok-machines.machines (c.in_ok-state.ensures.state ∙ c.requires.shape) c.in_ok-machines.ensures

pub returns-clause-given : goal.returns-clause-given
returns-clause-given c =
    let d = c.args.decls.now in
    let is : c.in_ok-state.state.state ≡ first_state d.inst = c.in_ok-state.ensures.state ∙ c.requires.shape in
    record {
      shaped = subst (IsShaped d.inst) (sym is) (first-shaped d.inst);
      conts = started-given d (deploy_of d).programs c.in_ok-machines.machines c.requires.formed c.in_ok-machines.ensures;
    }

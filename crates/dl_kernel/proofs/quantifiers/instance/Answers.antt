use Rattle.std.proofs.Common.{◌≡◌, ap}
use Rattle.dl_kernel.specs.declared.parts.Quantified.TheVariants.{Nodes, Messages}
use Rattle.dl_kernel.specs.Steps.{instance}
use Rattle.dl_kernel.proofs.EnterLemmas.{made-as, oversized-as}
use Rattle.dl_kernel.proofs.quantifiers.instance.Goals as goal

pub returns-in-Nodes-clause-made : goal.returns-in-Nodes-clause-made
returns-in-Nodes-clause-made c =
    let q : Nodes c.in-Nodes.sym c.in-Nodes.body ≡ c.args.quantified.now = cc in
    made-as c.at_given_node.result _ _ (ap (instance c.args.inst.now c.args.sequent.now c.args.what.now) q) c.at_given_node.ensures.made

pub returns-in-Nodes-clause-limit : goal.returns-in-Nodes-clause-limit
returns-in-Nodes-clause-limit c =
    let q : Nodes c.in-Nodes.sym c.in-Nodes.body ≡ c.args.quantified.now = cc in
    oversized-as _ _ (ap (instance c.args.inst.now c.args.sequent.now c.args.what.now) q) c.at_given_node.ensures.limit

pub returns-in-Messages-clause-made : goal.returns-in-Messages-clause-made
returns-in-Messages-clause-made c =
    let q : Messages c.in-Messages.msg c.in-Messages.label c.in-Messages.tag c.in-Messages.body ≡ c.args.quantified.now = cc in
    made-as c.at_given_message.result _ _ (ap (instance c.args.inst.now c.args.sequent.now c.args.what.now) q) c.at_given_message.ensures.made

pub returns-in-Messages-clause-limit : goal.returns-in-Messages-clause-limit
returns-in-Messages-clause-limit c =
    let q : Messages c.in-Messages.msg c.in-Messages.label c.in-Messages.tag c.in-Messages.body ≡ c.args.quantified.now = cc in
    oversized-as _ _ (ap (instance c.args.inst.now c.args.sequent.now c.args.what.now) q) c.at_given_message.ensures.limit

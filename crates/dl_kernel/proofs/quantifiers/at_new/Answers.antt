use Rattle.std.proofs.Common.{◌≡◌, ap}
use Rattle.dl_kernel.specs.declared.parts.Quantified.TheVariants.{Nodes, Messages}
use Rattle.dl_kernel.specs.Steps.{at_new}
use Rattle.dl_kernel.proofs.EnterLemmas.{made-as, oversized-as}
use Rattle.dl_kernel.proofs.quantifiers.at_new.Goals as goal

pub returns-in-Nodes-clause-made : goal.returns-in-Nodes-clause-made
returns-in-Nodes-clause-made c =
    let q : Nodes c.in-Nodes.sym c.in-Nodes.body ≡ c.args.quantified.now = cc in
    made-as c.put_node.result _ _ (ap (at_new c.args.name) q) c.put_node.ensures.made

pub returns-in-Nodes-clause-limit : goal.returns-in-Nodes-clause-limit
returns-in-Nodes-clause-limit c =
    let q : Nodes c.in-Nodes.sym c.in-Nodes.body ≡ c.args.quantified.now = cc in
    oversized-as _ _ (ap (at_new c.args.name) q) c.put_node.ensures.limit

pub returns-in-Messages-clause-made : goal.returns-in-Messages-clause-made
returns-in-Messages-clause-made c =
    let q : Messages c.in-Messages.msg c.in-Messages.label c.in-Messages.tag c.in-Messages.body ≡ c.args.quantified.now = cc in
    made-as c.put_message.result _ _ (ap (at_new c.args.name) q) c.put_message.ensures.made

pub returns-in-Messages-clause-limit : goal.returns-in-Messages-clause-limit
returns-in-Messages-clause-limit c =
    let q : Messages c.in-Messages.msg c.in-Messages.label c.in-Messages.tag c.in-Messages.body ≡ c.args.quantified.now = cc in
    oversized-as _ _ (ap (at_new c.args.name) q) c.put_message.ensures.limit

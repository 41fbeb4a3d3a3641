use Rattle.std.proofs.Common.{◌∙◌}
use Rattle.dl_verdict.proofs.checked.counts.Goals as goal

pub returns : goal.returns
returns c = λ j. record {
  nodes = c.args.file.now.decls.inst.nodes;
  labels = (c.in_ok-labels.ensures ∙ c.len.ensures) j;
  hooks = (c.in_ok-hooks.ensures ∙ c.len-2.ensures) j;
  invariants = (c.in_ok-invariants.ensures ∙ c.len-3.ensures) j;
  programs = (c.in_ok-programs.ensures ∙ c.deployed.ensures) j;
  obligations = c.requires j;
}

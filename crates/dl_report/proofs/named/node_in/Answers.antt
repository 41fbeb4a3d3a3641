use Rattle.std.proofs.Common.{◌≡◌, ◌-◌, ◌<◌, ◌≤◌, true, false, ap, sym, ◌∙◌, arith}
use Rattle.std.specs.Prelude.{bytes_eq}
use Rattle.dl_report.specs.Layout.{node_word}
use Rattle.dl_report.specs.Reading.{node_from}
use Rattle.dl_report.proofs.Loops.{node_hit, node_miss, node_none}
use Rattle.dl_report.proofs.named.node_in.Goals as goal

pub loop-node-init : goal.loop-node-init
loop-node-init c =
    let all : c.args.decls.now.inst.nodes - 0 ≡ c.args.decls.now.inst.nodes = omega arith in
    ap (λ k. node_from c.args.names.now c.args.word.now 0 k) all

pub returns-then-has_text : goal.returns-then-has_text
returns-then-has_text c =
    let lt : c.loop-node.node < c.args.decls.now.inst.nodes = omega arith in
    let is : bytes_eq (node_word c.args.names.now c.loop-node.node) c.args.word.now ≡ true = sym c.has_text.ensures ∙ c.if-has_text.true in
    sym (node_hit c.args.names.now c.args.word.now c.args.decls.now.inst.nodes c.loop-node.node lt is) ∙ c.loop-node.invariant

pub loop-node-preserved : goal.loop-node-preserved
loop-node-preserved c =
    let lt : c.loop-node.node < c.args.decls.now.inst.nodes = omega arith in
    let not_so : bytes_eq (node_word c.args.names.now c.loop-node.node) c.args.word.now ≡ false = sym c.has_text.ensures ∙ c.if-has_text.false in
    sym (node_miss c.args.names.now c.args.word.now c.args.decls.now.inst.nodes c.loop-node.node lt not_so) ∙ c.loop-node.invariant

pub returns : goal.returns
returns c =
    let past : c.args.decls.now.inst.nodes ≤ c.loop-node.node = omega arith in
    sym (node_none c.args.names.now c.args.word.now c.args.decls.now.inst.nodes c.loop-node.node past) ∙ c.loop-node.invariant

use Rattle.std.proofs.Common.{rules, pos, ◌≡◌, ◌<◌, true, false, not, ◌||◌, ◌&&◌, ◌==◌, sym, length}
use Rattle.dl_term.specs.State.{message_at, tag_of, soup_at}
use Rattle.dl_term.specs.Names.{names_of, with_number, with_message, Stored}
use Rattle.dl_term.specs.Meaning.{holds}
use Rattle.dl_term.proofs.Quantifiers.{every_below-false, some_below-true}
use Rattle.dl_term.proofs.evaluate.+holds.Goals as goal

pub at_every_node-returns-then-not-holds : goal.at_every_node-returns-then-not-holds
at_every_node-returns-then-not-holds g t c =
    let below : c.loop-node.node < (g.V.View.state c.args.state.now).nodes = search rules in
    let fails : holds c.args.body.now (with_number (names_of c.args.env.now) c.args.sym (pos c.loop-node.node)) (g.V.View.state c.args.state.now) ≡ false = search rules in
    sym (every_below-false c.loop-node.node _ _ below fails)

pub at_some_node-returns-then-holds : goal.at_some_node-returns-then-holds
at_some_node-returns-then-holds g t c =
    let below : c.loop-node.node < (g.V.View.state c.args.state.now).nodes = search rules in
    let passes : holds c.args.body.now (with_number (names_of c.args.env.now) c.args.sym (pos c.loop-node.node)) (g.V.View.state c.args.state.now) ≡ true = search rules in
    sym (some_below-true c.loop-node.node _ _ below passes)

pub at_every_message-returns-then-not-holds : goal.at_every_message-returns-then-not-holds
at_every_message-returns-then-not-holds g t c =
    let below : c.loop-id.id < length (soup_at (g.V.View.state c.args.state.now) c.args.label) = search rules in
    let fails : (not (tag_of (message_at (g.V.View.state c.args.state.now) c.args.label c.loop-id.id) == c.args.tag) || holds c.args.body.now (with_message (names_of c.args.env.now) c.args.msg (Stored c.args.label c.loop-id.id)) (g.V.View.state c.args.state.now)) ≡ false = search rules in
    sym (every_below-false c.loop-id.id _ _ below fails)

pub at_some_message-returns-then-holds : goal.at_some_message-returns-then-holds
at_some_message-returns-then-holds g t c =
    let below : c.loop-id.id < length (soup_at (g.V.View.state c.args.state.now) c.args.label) = search rules in
    let passes : ((tag_of (message_at (g.V.View.state c.args.state.now) c.args.label c.loop-id.id) == c.args.tag) && holds c.args.body.now (with_message (names_of c.args.env.now) c.args.msg (Stored c.args.label c.loop-id.id)) (g.V.View.state c.args.state.now)) ≡ true = search rules in
    sym (some_below-true c.loop-id.id _ _ below passes)

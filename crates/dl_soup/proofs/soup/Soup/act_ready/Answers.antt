use Rattle.std.proofs.Common.{◌≡◌, ◌<◌, ap, sym, ◌∙◌, subst, arith}
use Rattle.dl_soup.specs.Given.{CallIsGiven}
use Rattle.dl_soup.specs.Seen.{Seen}
use Rattle.dl_soup.proofs.ActLemmas.{act-chosen, act-kept, act-replies, act-reply, act-seen, made-reply, made-seen, wait-kept, wait-reply, wait-seen}
use Rattle.dl_soup.proofs.soup.Soup.act_ready.Goals as goal

pub answer-reply-requires-clause-formed : goal.answer-reply-requires-clause-formed
answer-reply-requires-clause-formed c = c.self.invariant.kept.formed

pub answer-reply-requires-clause-shaped : goal.answer-reply-requires-clause-shaped
answer-reply-requires-clause-shaped c = c.self.invariant.kept.shaped

pub answer-reply-requires-clause-given : goal.answer-reply-requires-clause-given
answer-reply-requires-clause-given c = subst (λ (s : Seen). CallIsGiven s.inst c.args.node c.args.call.now) (sym c.self.view_is) c.requires.given

pub answer-reply-requires-clause-room : goal.answer-reply-requires-clause-room
answer-reply-requires-clause-room c =
    let same : c.self.inside.history.spare ≡ c.args.self.now.spare = ap (λ (s : Seen). s.spare) c.self.view_is in
    omega (arith, c.self.invariant.room)

pub push-requires : goal.push-requires
push-requires c =
    let same : c.self.inside.history.spare ≡ c.args.self.now.spare = ap (λ (s : Seen). s.spare) c.self.view_is in
    omega arith

-- ---- where it would wait

pub invariant_of-self : goal.invariant_of-self
invariant_of-self c =
    wait-kept c.self.inside c.args.node c.args.call.now c.answer-reply.result c.answer-reply.new.turn c.answer-reply.new.pool c.self.invariant
    (sym c.waits.ensures ∙ c.if-waits.true) c.answer-reply.ensures.state c.answer-reply.ensures.spare c.answer-reply.ensures.turn

pub returns-then-waits-clause-reply : goal.returns-then-waits-clause-reply
returns-then-waits-clause-reply c =
    wait-reply c.args.self.now c.args.node c.args.call.now c.answer-reply.result
    (act-reply c.self.inside c.args.self.now c.args.node c.args.call.now c.answer-reply.result c.self.view_is c.self.invariant c.answer-reply.ensures.reply)
    (sym c.waits.ensures ∙ c.if-waits.true)

pub returns-then-waits-clause-soup : goal.returns-then-waits-clause-soup
returns-then-waits-clause-soup c =
    wait-seen c.self.inside c.args.self.now c.args.node c.args.ticks c.args.call.now c.answer-reply.result c.answer-reply.new.pool c.self.view_is
    (act-reply c.self.inside c.args.self.now c.args.node c.args.call.now c.answer-reply.result c.self.view_is c.self.invariant c.answer-reply.ensures.reply)
    (sym c.waits.ensures ∙ c.if-waits.true) c.answer-reply.ensures.state

pub returns-then-waits-clause-kept : goal.returns-then-waits-clause-kept
returns-then-waits-clause-kept c =
    (wait-kept c.self.inside c.args.node c.args.call.now c.answer-reply.result c.answer-reply.new.turn c.answer-reply.new.pool c.self.invariant
    (sym c.waits.ensures ∙ c.if-waits.true) c.answer-reply.ensures.state c.answer-reply.ensures.spare c.answer-reply.ensures.turn).kept

-- ---- where it is made

pub invariant_of-self-2 : goal.invariant_of-self-2
invariant_of-self-2 c =
    let same : c.self.inside.history.spare ≡ c.args.self.now.spare = ap (λ (s : Seen). s.spare) c.self.view_is in
    let some : 0 < c.self.inside.history.spare = omega arith in
    act-kept c.self.inside c.args.node c.args.ticks c.args.call.now c.answer-reply.result c.answer-reply.new.turn c.answer-reply.new.pool c.push.new.self c.self.invariant
    (subst (λ (s : Seen). CallIsGiven s.inst c.args.node c.args.call.now) (sym c.self.view_is) c.requires.given)
    c.answer-reply.ensures.reply c.answer-reply.ensures.state c.answer-reply.ensures.spare c.answer-reply.ensures.turn c.push.ensures some

pub returns-clause-reply : goal.returns-clause-reply
returns-clause-reply c =
    made-reply c.args.self.now c.args.node c.args.call.now c.answer-reply.result
    (act-reply c.self.inside c.args.self.now c.args.node c.args.call.now c.answer-reply.result c.self.view_is c.self.invariant c.answer-reply.ensures.reply)
    (sym c.waits.ensures ∙ c.if-waits.false)

pub returns-clause-soup : goal.returns-clause-soup
returns-clause-soup c =
    let told = act-reply c.self.inside c.args.self.now c.args.node c.args.call.now c.answer-reply.result c.self.view_is c.self.invariant c.answer-reply.ensures.reply in
    made-seen c.args.self.now _ c.args.node c.args.ticks c.args.call.now c.answer-reply.result told (sym c.waits.ensures ∙ c.if-waits.false)
    (act-seen c.self.inside c.args.self.now c.args.node c.args.ticks c.args.call.now c.answer-reply.result c.answer-reply.new.pool c.push.new.self c.self.view_is told
    c.answer-reply.ensures.state c.push.ensures)

pub returns-clause-replies : goal.returns-clause-replies
returns-clause-replies c =
    act-replies c.args.self.now c.args.node c.args.call.now c.answer-reply.result
    (act-reply c.self.inside c.args.self.now c.args.node c.args.call.now c.answer-reply.result c.self.view_is c.self.invariant c.answer-reply.ensures.reply)

pub returns-clause-chosen : goal.returns-clause-chosen
returns-clause-chosen c =
    act-chosen c.args.self.now c.args.node c.args.call.now c.answer-reply.result
    (act-reply c.self.inside c.args.self.now c.args.node c.args.call.now c.answer-reply.result c.self.view_is c.self.invariant c.answer-reply.ensures.reply)

pub returns-clause-kept : goal.returns-clause-kept
returns-clause-kept c =
    let same : c.self.inside.history.spare ≡ c.args.self.now.spare = ap (λ (s : Seen). s.spare) c.self.view_is in
    let some : 0 < c.self.inside.history.spare = omega arith in
    (act-kept c.self.inside c.args.node c.args.ticks c.args.call.now c.answer-reply.result c.answer-reply.new.turn c.answer-reply.new.pool c.push.new.self c.self.invariant
    (subst (λ (s : Seen). CallIsGiven s.inst c.args.node c.args.call.now) (sym c.self.view_is) c.requires.given)
    c.answer-reply.ensures.reply c.answer-reply.ensures.state c.answer-reply.ensures.spare c.answer-reply.ensures.turn c.push.ensures some).kept

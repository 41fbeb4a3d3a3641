use Rattle.std.proofs.Common.{◌<◌, List, length, slice_set, sym, ◌∙◌, ap, subst}
use Rattle.std.specs.List.{AllByRecursion as Each}
use Rattle.dl_model.proofs.Small.{some-same}
use Rattle.dl_prog.specs.Places.{machine_of}
use Rattle.dl_proto.proofs.Options.{each-at}
use Rattle.dl_history.specs.Given.{ContIsGiven}
use Rattle.dl_history.specs.Runners.{Runner}
use Rattle.dl_history.specs.Taken.{IsRefused}
use Rattle.dl_history.proofs.Telling.{found-item}
use Rattle.dl_history.proofs.Places.{each-replaced}
use Rattle.dl_history.proofs.config.Machines.take_turn.Goals as goal

pub take_turn-requires-clause-ready : goal.take_turn-requires-clause-ready
take_turn-requires-clause-ready c =
    let old = c.args.self.now in
    let within : c.args.place < length c.self.inside.items.items = subst (λ (rs : List Runner). c.args.place < length rs) (sym c.self.view_is) c.requires.place in
    let there = found-item c.self.inside.items.items old c.args.place c.index_mut-runner.result.now c.self.view_is within c.index_mut-runner.ensures.value in
    (each-at (ContIsGiven c.args.decls.now) old c.args.place c.index_mut-runner.result.now c.requires.conts there).ready

pub take_turn-requires-clause-sends : goal.take_turn-requires-clause-sends
take_turn-requires-clause-sends c =
    let old = c.args.self.now in
    let within : c.args.place < length c.self.inside.items.items = subst (λ (rs : List Runner). c.args.place < length rs) (sym c.self.view_is) c.requires.place in
    let there = found-item c.self.inside.items.items old c.args.place c.index_mut-runner.result.now c.self.view_is within c.index_mut-runner.ensures.value in
    (each-at (ContIsGiven c.args.decls.now) old c.args.place c.index_mut-runner.result.now c.requires.conts there).sends

pub returns-clause-conts : goal.returns-clause-conts
returns-clause-conts c = λ t.
    each-replaced (ContIsGiven c.args.decls.now) c.self.inside.items.items c.args.place (record { 0 = c.index_mut-runner.result.now.0; 1 = c.take_turn.new.cont })
    (subst (Each (ContIsGiven c.args.decls.now)) (sym c.self.view_is) c.requires.conts) (record { ready = c.take_turn.ensures.ready; sends = c.take_turn.ensures.sends t })

pub returns-clause-taken : goal.returns-clause-taken
returns-clause-taken c = λ t.
    let old = c.args.self.now in
    let within : c.args.place < length c.self.inside.items.items = subst (λ (rs : List Runner). c.args.place < length rs) (sym c.self.view_is) c.requires.place in
    let there = found-item c.self.inside.items.items old c.args.place c.index_mut-runner.result.now c.self.view_is within c.index_mut-runner.ensures.value in
    record {
      runner = c.index_mut-runner.result.now;
      there = there;
      cont = c.take_turn.new.cont;
      taken = c.take_turn.ensures.taken t;
      others = ap (λ (rs : List Runner). slice_set rs c.args.place (record { 0 = c.index_mut-runner.result.now.0; 1 = c.take_turn.new.cont })) c.self.view_is;
    }

pub returns-clause-refused : goal.returns-clause-refused
returns-clause-refused c = λ f runner is.
    let d = c.args.decls.now in
    let old = c.args.self.now in
    let within : c.args.place < length c.self.inside.items.items = subst (λ (rs : List Runner). c.args.place < length rs) (sym c.self.view_is) c.requires.place in
    let there = found-item c.self.inside.items.items old c.args.place c.index_mut-runner.result.now c.self.view_is within c.index_mut-runner.ensures.value in
    subst (λ (r : Runner). IsRefused d c.args.state.now.state c.args.entry.now (machine_of d.procs r.1)) (some-same c.index_mut-runner.result.now runner (sym there ∙ is)) (c.take_turn.ensures.refused f)

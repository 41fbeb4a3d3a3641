use Rattle.std.proofs.Common.{◌≡◌, length, arith}
use Rattle.std.proofs.lemmas.List.{nil_from_length}
use Rattle.dl_term.specs.Names.{names_of}
use Rattle.dl_model.specs.Lookup.{arg_names}
use Rattle.dl_model.specs.Words.{with_numbers}
use Rattle.dl_proto.proofs.StepLemmas.{with-none, known-named}
use Rattle.dl_proto.proofs.make.make.Goals as goal

pub returns-in-empty : goal.returns-in-empty
returns-in-empty c =
    let none : length c.args.params.now ≡ 0 = omega arith in
    known-named c.args.inst.now c.args.state.now c.make_most.new.state c.args.label c.args.node (names_of c.args.env.now)
    (with_numbers (names_of c.args.env.now) (arg_names c.args.params.now) c.args.numbers.now) c.as_slice.result.now c.args.transition.now.updates
    (with-none (names_of c.args.env.now) c.args.params.now c.args.numbers.now (nil_from_length c.args.params.now none)) c.as_slice.ensures c.make_most.ensures

use Rattle.std.proofs.Common.{◌≡◌, pos, length, slice_index_or, FitsSigned, arith, rules}
use Rattle.std.proofs.lemmas.Int.{to_z-of_z}
use Rattle.std.proofs.lemmas.List.{nil_from_length}
use mir.Syntax.{w64}
use Rattle.dl_term.specs.Names.{names_of}
use Rattle.dl_model.specs.Lookup.{arg_names}
use Rattle.dl_model.specs.Words.{with_numbers}
use Rattle.dl_proto.proofs.StepLemmas.{with-first, with-none, known-named}
use Rattle.dl_proto.proofs.make.+make_with.Goals as goal

pub returns-in_default : goal.returns-in_default
returns-in_default t c =
    let none : length c.args.params.now ≡ 0 = omega arith in
    known-named c.args.inst.now c.args.state.now c.make_updates.new.state c.args.label c.args.node (names_of c.args.env.now)
    (with_numbers (names_of c.args.env.now) (arg_names c.args.params.now) c.args.numbers.now) c.as_slice.result.now c.args.transition.now.updates
    (with-none (names_of c.args.env.now) c.args.params.now c.args.numbers.now (nil_from_length c.args.params.now none)) c.as_slice.ensures c.make_updates.ensures

pub returns : goal.returns
returns t c =
    let fits : FitsSigned w64 (slice_index_or c.args.numbers.now 0 (pos 0)) = search rules in
    known-named c.args.inst.now c.args.state.now c.make_with.new.state c.args.label c.args.node _
    (with_numbers (names_of c.args.env.now) (arg_names c.args.params.now) c.args.numbers.now) c.args.transition.now.updates c.args.transition.now.updates
    (with-first (names_of c.args.env.now) c.args.params.now c.args.numbers.now _ _ c.in-len1-up.len_at_least c.in-len1-up-numbers.len_at_least (to_z-of_z w64 (slice_index_or c.args.numbers.now 0 (pos 0)) fits))
    (λ i. c.args.transition.now.updates) c.make_with.ensures

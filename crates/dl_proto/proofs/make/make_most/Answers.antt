use Rattle.std.proofs.Common.{◌≡◌, length, sym, ap, ◌∙◌, arith}
use Rattle.std.proofs.lemmas.List.{nil_from_length}
use Rattle.dl_term.specs.Names.{names_of}
use Rattle.dl_proto.proofs.UpdateLemmas.{nothing-made, only-one}
use Rattle.dl_proto.specs.Writes.{known_updates}
use Rattle.dl_proto.proofs.make.make_most.Goals as goal

pub returns-in-empty : goal.returns-in-empty
returns-in-empty c =
    let none : length c.args.updates.now ≡ 0 = omega arith in
    λ i. record {
      state = nothing-made c.args.inst.now c.args.state.now.state c.args.label c.args.node (names_of c.args.env.now) c.args.updates.now (nil_from_length c.args.updates.now none) i;
      spare = c.args.state.now.spare;
    }

pub returns-in-len1 : goal.returns-in-len1
returns-in-len1 c =
    c.make_one.ensures
    ∙ ap (λ us. known_updates c.args.inst.now c.args.state.now c.args.label c.args.node (names_of c.args.env.now) us)
    (sym (only-one c.args.updates.now c.update-item.result c.in-len1.len_at_least c.in-len1.len_below c.update-item.is))

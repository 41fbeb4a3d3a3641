use Rattle.std.proofs.Common.{rules, ◌≡◌, sym, ap, ◌∙◌, Some, position}
use Rattle.std.proofs.lemmas.List.Quantifiers.{position-Some}
use Rattle.std.proofs.lemmas.Option.{slice_get-get_or}
use Rattle.std.proofs.lemmas.Slice.Eq.{bytes_eq-Decides}
use Rattle.std.specs.Prelude.{get_or}
use Rattle.std.specs.Str.{bytes_eq}
use Rattle.dl_forms.proofs.table.Names.number.Goals as goal

pub returns-in-Some-clause-number : goal.returns-in-Some-clause-number
returns-in-Some-clause-number c =
    let here : position (bytes_eq c.args.name.now) c.args.self.now.texts ≡ Some c.in-Some.at = search rules in
    let found = position-Some (bytes_eq c.args.name.now) c.args.self.now.texts c.in-Some.at c.args.name.now here in
    slice_get-get_or c.args.self.now.texts c.in-Some.at c.args.name.now found.0
    ∙ ap Some (sym ((bytes_eq-Decides c.args.name.now (get_or c.args.self.now.texts c.in-Some.at c.args.name.now)).0 found.1))

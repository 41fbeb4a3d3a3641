-- Sums, part by part.
use Rattle.std.proofs.Common.{◌≡◌, List, ◌∷◌, map, refl, ap, ◌∙◌}
use Rattle.std.specs.Prelude.{codes}
use mathlib.Core.Former.{Count}
use Rattle.dl_linear.specs.declared.certificate.Multiple.{Multiple}
use Rattle.dl_linear.specs.declared.certificate.Certificate.{Certificate, Sum}
use Rattle.dl_linear.specs.declared.certificate.Certificate.TheBlock.{Sum', Row_of-Multiple as Parts, more_of-Multiple as more, end_of-Multiple as none, items-the_row-Multiple as items, items_hidden-the_row-Multiple-0 as items_hidden}
use Rattle.dl_forms.specs.Table.{NameTable}
use Rattle.dl_forms.specs.Show.{form}
use Rattle.dl_shown.specs.Scripts.{multiplied, multiple_of, certificate_of, multiples_of}

abbrev parts_of : Certificate → (n : Count) × Parts n
parts_of (Sum' _ parts) = (_, parts)
parts_of _ = (_, none)

multiples-items : (names : NameTable) (n : Count) (parts : Parts n) → multiples_of names parts ≡ map (multiple_of names) (items n parts)
multiples-items names n none = refl
multiples-items names n (more factor certificate rest) = ap (λ trees. multiplied factor (certificate_of names certificate) ∷ trees) (multiples-items names _ rest)

pub sum-shown : (names : NameTable) (multiples : List Multiple) → certificate_of names (Sum multiples) ≡ form (codes "add") (map (multiple_of names) multiples)
sum-shown names multiples =
    let row = parts_of (Sum multiples) in
    ap (form (codes "add")) (multiples-items names row.0 row.1 ∙ ap (map (multiple_of names)) (items_hidden multiples))

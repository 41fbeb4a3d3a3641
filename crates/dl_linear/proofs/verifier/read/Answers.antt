use Rattle.std.proofs.Common.{◌≡◌, ℕ, zero, suc, ℤ, pos, List, [], ◌∷◌, slice_index_or, slice_get, None, refl, sym, ap, ◌∙◌}
use Rattle.std.specs.Option.{option_copied}
use Rattle.dl_linear.specs.Rows.{row_of}
use Rattle.dl_linear.specs.Columns.{in_column}
use Rattle.dl_linear.proofs.verifier.read.Goals as goal

past : (xs : List ℤ) (i : ℕ) → slice_get xs i ≡ None → pos 0 ≡ slice_index_or xs i (pos 0)
past [] i h = refl
past (x ∷ xs) zero h = cc
past (x ∷ xs) (suc i) h = past xs i h

pub returns-in-None : goal.returns-in-None
returns-in-None c =
    past c.args.line.now.coefs c.in-Atom.atom (sym c.get.ensures.value ∙ ap option_copied c.in-None.is)
    ∙ ap ((λ column. in_column column (row_of c.args.line.now))) (sym c.in-Atom.is)

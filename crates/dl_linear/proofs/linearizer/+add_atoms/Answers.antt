use Rattle.std.proofs.Common.{◌≡◌, OnOk, subst}
use Rattle.dl_linear.proofs.Reading.{atoms-atom}
use Rattle.dl_linear.proofs.linearizer.+add_atoms.Goals as goal

pub returns-in_default : goal.returns-in_default
returns-in_default t c =
    let same = atoms-atom c.args.term.now c.args.atoms.now (record { number = c.in_default.not-Num; word = c.in_default.not-Word; add = c.in_default.not-Add; sub = c.in_default.not-Sub; mul = c.in_default.not-Mul }) in
    subst (λ atoms. OnOk c.add_atom-in_default.result (c.add_atom-in_default.new.atoms ≡ atoms)) same c.add_atom-in_default.ensures

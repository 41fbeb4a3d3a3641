-- The instances of the tests are formed.
use Rattle.std.proofs.Common.{◌≡◌, ◌<◌, ℕ, zero, suc, true, false, pos, negsuc, None, [], ◌∷◌, refl, lit<, arith}
use Rattle.dl_term.specs.declared.syntax.Term.{Num, Var}
use Rattle.dl_model.specs.declared.protocol.FieldDecl.{FieldDecl}
use Rattle.dl_model.specs.declared.protocol.Protocol.{Protocol}
use Rattle.dl_model.specs.declared.protocol.Instances.{Instances}
use Rattle.dl_model.specs.Sorts.{in_sort}
use Rattle.dl_model.specs.Formed.{ProtocolIsFormed, InstancesAreFormed}
use Rattle.dl_model.specs.States.{first_value}
use Rattle.dl_model.proofs.Examples.{one-of}

abbrev pub number : FieldDecl
number = record { sym = 21; row = false; sort = record { low = pos 0; high = pos 1 }; first = Var 4 }

abbrev pub marks : FieldDecl
marks = record { sym = 22; row = true; sort = record { low = negsuc 4; high = pos 5 }; first = Num (negsuc 2) }

abbrev pub protocol : Protocol
protocol = record { sym = 20; fields = number ∷ marks ∷ []; tags = []; coherence = None }

abbrev pub instances : Instances
instances = record { nodes = 2; protocols = protocol ∷ []; of = 0 ∷ 0 ∷ [] }

number-sorted : (node : ℕ) → node < 2 → in_sort number.sort (first_value number node) ≡ true
number-sorted zero b = refl
number-sorted (suc zero) b = refl
number-sorted (suc (suc node)) b = absurd (omega arith)

protocol-formed : ProtocolIsFormed 2 protocol
protocol-formed = record {
  few_fields = omega arith;
  few_tags = omega arith;
  field_names = record { distinct = (refl, (refl, tt)); allowed = (omega arith, (omega arith, tt)) };
  tag_names = record { distinct = tt; allowed = tt };
  fields = (
    record { sort = record { low = refl; high = refl; holds_zero = refl }; first = (refl, tt); first_in_sort = number-sorted },
    (record { sort = record { low = refl; high = refl; holds_zero = refl }; first = (refl, lit< tt); first_in_sort = λ node b. refl }, tt),
  );
  tags = tt;
  coherence = tt;
}

pub instances-formed : InstancesAreFormed instances
instances-formed = record { protocols = one-of (λ n p. ProtocolIsFormed 2 p) protocol protocol-formed; labels = (lit< tt, (lit< tt, tt)) }

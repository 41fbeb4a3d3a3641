-- The swappers of the model's examples are formed.
use Rattle.std.proofs.Common.{refl, lit<, arith}
use Rattle.dl_term.specs.Syntax.{opened}
use Rattle.dl_model.specs.Sorts.{IsSort}
use Rattle.dl_model.specs.Formed.{ProtocolIsFormed, InstancesAreFormed}
use Rattle.dl_model.specs.Examples.{int, swapper, swappers}
use Rattle.dl_model.proofs.Examples.{one-of, bool-sort}

int-sort : IsSort int
int-sort = record { low = refl; high = refl; holds_zero = refl }

swapper-formed : ProtocolIsFormed 2 swapper
unfolding opened
swapper-formed = record {
  few_fields = omega arith;
  few_tags = omega arith;
  field_names = record { distinct = (refl, (refl, (refl, tt))); allowed = (omega arith, (omega arith, (omega arith, tt))) };
  tag_names = record { distinct = (refl, tt); allowed = (omega arith, tt) };
  fields = (
    record { sort = bool-sort; first = (refl, lit< tt); first_in_sort = λ node b. refl },
    (
      record { sort = int-sort; first = (refl, lit< tt); first_in_sort = λ node b. refl },
      (record { sort = bool-sort; first = (refl, lit< tt); first_in_sort = λ node b. refl }, tt),
    ),
  );
  tags = (
    record {
      args = (omega arith, tt);
      names = record { distinct = tt; allowed = tt };
      send = record {
        guard = ((tt, tt), refl);
        updates = (
          record { field = refl; index = tt; value = (((refl, refl), tt), refl) },
          (
            record { field = refl; index = tt; value = (((refl, refl), tt), refl) },
            (record { field = refl; index = ((refl, tt), refl); value = ((refl, lit< tt), refl) }, tt),
          ),
        );
        once = (refl, (refl, (refl, tt)));
      };
      receive = tt;
    },
    tt,
  );
  coherence = tt;
}

pub swappers-formed : InstancesAreFormed swappers
swappers-formed = record { protocols = one-of (λ n protocol. ProtocolIsFormed 2 protocol) swapper swapper-formed; labels = (lit< tt, tt) }

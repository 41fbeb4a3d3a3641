-- The test of injection tells whether a world can be injected into another one.
use Rattle.std.proofs.Common.{◌≡◌, ℕ, Bool, true, false, ◌&&◌, ◌++◌, refl, ap, sym, ◌∙◌}
use Rattle.std.specs.List.{list_all}
use Rattle.dl_model.specs.declared.file.World.{World}
use Rattle.dl_model.specs.declared.file.Decls.{Decls}
use Rattle.dl_model.specs.Sorts.{has}
use Rattle.dl_model.specs.Lookup.{hook_at}
use Rattle.dl_model.specs.Worlds.{Injects}
use Rattle.dl_model.proofs.Small.{and-left, and-right, and-both}
use Rattle.dl_inv.specs.Facts.{agree, hook_agrees, injects}
use Rattle.dl_inv.proofs.Lists.{all-at, all-of-each, has-front, has-back}

agree-is : (a b : Bool) → agree a b ≡ true → a ≡ b
agree-is true b h = sym h
agree-is false true h = cc
agree-is false false h = refl

is-agree : (a b : Bool) → a ≡ b → agree a b ≡ true
is-agree true b h = sym h
is-agree false true h = cc
is-agree false false h = refl

module _ (d : Decls) (small large : World) where
  hook-told : (hook : ℕ) (a b : Bool) → has small.hooks hook ≡ a → has large.hooks hook ≡ b → list_all (hook_agrees d small large) (small.hooks ++ large.hooks) ≡ true
      → has small.hooks hook ≡ (has large.hooks hook && has small.labels (hook_at d hook).client)
  hook-told hook true b ea eb h = agree-is _ _ (all-at (hook_agrees d small large) (small.hooks ++ large.hooks) hook h (has-front small.hooks large.hooks hook ea))
  hook-told hook false true ea eb h = agree-is _ _ (all-at (hook_agrees d small large) (small.hooks ++ large.hooks) hook h (has-back small.hooks large.hooks hook eb))
  hook-told hook false false ea eb h = ea ∙ sym (ap (λ b. b && has small.labels (hook_at d hook).client) eb)

  pub injects-is : injects d small large ≡ true → Injects d small large
  injects-is h = record {
    labels = λ label m. all-at (has large.labels) small.labels label (and-left _ _ h) m;
    hooks = λ hook. hook-told hook (has small.hooks hook) (has large.hooks hook) refl refl (and-right (list_all (has large.labels) small.labels) _ h);
  }

  pub is-injects : Injects d small large → injects d small large ≡ true
  is-injects i = and-both _ _
      (all-of-each (has large.labels) small.labels i.labels)
      (all-of-each (hook_agrees d small large) (small.hooks ++ large.hooks) (λ hook m. is-agree _ _ (i.hooks hook)))

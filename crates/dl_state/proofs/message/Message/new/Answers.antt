use Rattle.std.proofs.Common.{◌≡◌, ◌≤◌, ◌-◌, ℕ, ℤ, pos, List, ◌++◌, length, drop, arith, ◌∙◌, rules}
use Rattle.std.specs.Prelude.{replicate}
use Rattle.std.proofs.lemmas.List.{length-append, length-drop, drop_at, drop-replicate}
use Rattle.dl_state.proofs.message.Message.new.Goals as goal

places : (xs : List ℤ) (n : ℕ) → length xs ≡ n → n ≤ 8 → length (xs ++ drop n (replicate 8 (pos 0))) ≡ 8
places xs n e h = omega (arith, length-append xs (drop n (replicate 8 (pos 0))), length-drop n (replicate 8 (pos 0)))

others : (xs : List ℤ) (n : ℕ) → length xs ≡ n → drop n (xs ++ drop n (replicate 8 (pos 0))) ≡ replicate (8 - n) (pos 0)
others xs n e = drop_at xs (drop n (replicate 8 (pos 0))) n e ∙ drop-replicate n 8 (pos 0)

pub invariant_of-result : goal.invariant_of-result
invariant_of-result c =
    let same : length c.copy_from_slice.new.self ≡ length c.args.args.now = search rules in
    record {
      places = places c.copy_from_slice.new.self _ same c.requires;
      few = c.requires;
      others = others c.copy_from_slice.new.self _ same;
    }

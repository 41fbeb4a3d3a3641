-- The chain of a term over some nodes, by its first link.
use Rattle.std.proofs.Common.{◌≡◌, ◌<◌, ◌≤◌, ◌+◌, ◌-◌, ℕ, zero, suc, pos, refl, ap, ◌∙◌, arith}
use Rattle.dl_term.specs.declared.syntax.Term.{Term, Num, If}
use Rattle.dl_term.specs.Syntax.{opened}
use Rattle.dl_term.specs.Measures.{parts}
use Rattle.dl_wp.specs.First.{chain}

pub chain_next : (t : Term) (at : ℕ → Term) (n count : ℕ) → 1 ≤ count → chain t at n count ≡ If t (Num (pos n)) (at n) (chain t at (n + 1) (count - 1))
chain_next t at n zero some = absurd (omega (some, arith))
chain_next t at n (suc count) some =
    let fewer : suc count - 1 ≡ count = omega arith in
    let next : n + 1 ≡ suc n = omega arith in
    rw (fewer, next) refl

link-parts : (a b x y : Term) → parts (If a b x y) ≡ 1 + parts a + (parts b + (parts x + parts y))
unfolding opened
link-parts a b x y = omega arith

pub chain_parts : (t : Term) (at : ℕ → Term) (n count : ℕ) → 1 ≤ count →
    parts (chain t at n count) ≡ 2 + parts t + (parts (at n) + parts (chain t at (n + 1) (count - 1)))
chain_parts t at n count some =
    let whole = ap parts (chain_next t at n count some) in
    let link = link-parts t (Num (pos n)) (at n) (chain t at (n + 1) (count - 1)) in
    omega (whole, link, arith)

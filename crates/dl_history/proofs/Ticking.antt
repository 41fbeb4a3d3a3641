-- Ticks, one after another.
use Rattle.std.proofs.Common.{◌≡◌, ℕ, zero, suc, ◌+◌, ◌-◌, ◌<◌, List, refl, sym, subst, arith}
use Rattle.dl_model.specs.declared.program.Proc.{Proc}
use Rattle.dl_model.specs.declared.history.Call.{Call}
use Rattle.dl_model.specs.Machine.{Machine, Ticks, Asks, next, Ticked}
use Rattle.dl_history.specs.Taken.{Reaches}
use Rattle.dl_history.proofs.Histories.{ticked-same}

-- one tick more, at the end
pub ticked-more : (procs : List Proc) (k : ℕ) (a b c : Machine) → Ticked procs k a b → next procs b ≡ Ticks c → Ticked procs (suc k) a c
ticked-more procs zero a b c t e = (c, subst (λ m. next procs m ≡ Ticks c) (sym t) e, refl)
ticked-more procs (suc k) a b c t e = (t.0, t.1, ticked-more procs k t.0 b c t.2 e)

-- the ticks after the first ones begin with another tick
ticked-further : (procs : List Proc) (k j : ℕ) (a c : Machine) → Ticked procs (k + suc j) a c → (b : Machine) × Ticked procs k a b × ((m : Machine) × (next procs b ≡ Ticks m))
ticked-further procs zero j a c t =
    let first : zero + suc j ≡ suc j = omega arith in
    let more : Ticked procs (suc j) a c = subst (λ n. Ticked procs n a c) first t in
    (a, refl, (more.0, more.1))
ticked-further procs (suc k) j a c t =
    let first : suc k + suc j ≡ suc (k + suc j) = omega arith in
    let more : Ticked procs (suc (k + suc j)) a c = subst (λ n. Ticked procs n a c) first t in
    let rest = ticked-further procs k j more.0 c more.2 in
    (rest.0, (more.0, more.1, rest.1), rest.2)

-- where the machine makes no tick after the first ones, it does not make more
pub ticked-stopped : (procs : List Proc) (n k : ℕ) (a b : Machine) → k < n → Ticked procs k a b → ((m : Machine) → next procs b ≡ Ticks m → ⊥) → (c : Machine) → Ticked procs n a c → ⊥
ticked-stopped procs n k a b lt t never c more =
    let split : n ≡ k + suc (n - suc k) = omega arith in
    let there = ticked-further procs k (n - suc k) a c (subst (λ i. Ticked procs i a c) split more) in
    never there.2.0 (subst (λ m. next procs m ≡ Ticks there.2.0) (ticked-same procs k a there.0 b there.1 t) there.2.1)

-- a machine that is not at the call after its ticks never reaches it
pub not-reached : (procs : List Proc) (k : ℕ) (asked : Call) (a b : Machine) → Ticked procs k a b → (next procs b ≡ Asks asked → ⊥) → (asking : Machine) → Reaches procs k asked a asking → ⊥
not-reached procs k asked a b t never asking r =
    never (subst (λ m. next procs m ≡ Asks asked) (ticked-same procs k a asking b r.ticks t) r.asks)

-- Why a read or a write fails: each fault raises a count, which never falls.
use Rattle.std.specs.Prelude.{◌≡◌, ℕ, ◌+◌, ◌-◌, ◌^◌, ◌≤◌, ◌<◌, min, List, length, Result, MatchResult, OnOk, OnErr, IfOk, ◌⊎◌}

-- the last value of a counter
abbrev pub last_count : ℕ
last_count = 2 ^ 64 - 1

-- one more, up to a counter's last value
abbrev pub counted : ℕ → ℕ
counted count = min (count + 1) last_count

-- the count became greater, or stands at a counter's last value
abbrev pub Rose : ℕ → ℕ → Type 0
Rose before now = counted before ≤ now

-- a failure comes only where the count rose, and every other answer leaves the count as it was
pub record HasCause {T E : Type 0} (before now : ℕ) (result : Result T E) : Type 0 where
  pub later : before ≤ now
  pub failed : OnErr result (Rose before now)
  pub kept : OnOk result (now ≡ before)

-- the same of a write, which also fails where it takes nothing of bytes that aren't empty
pub record HasWriteCause {E : Type 0} (before now : ℕ) (result : Result ℕ E) (bytes : List ℕ) : Type 0 where
  pub later : before ≤ now
  pub failed : OnErr result (Rose before now)
  pub nothing : IfOk result (λ count. count ≡ 0 → 0 < length bytes → Rose before now)
  pub kept : IfOk result (λ count. (0 < count) ⊎ (length bytes ≡ 0) → now ≡ before)

-- a failure comes only where the count rose, and where it became greater there is no other answer
pub record HasExactCause (before now : ℕ) (fault : Type 0) : Type 0 where
  pub later : before ≤ now
  pub failed : fault → Rose before now
  pub risen : before < now → fault

-- each failure is counted once, and nothing else is
abbrev pub CountsFailure : {T E : Type 0} → ℕ → ℕ → Result T E → Type 0
CountsFailure before now result = MatchResult result (λ _. now ≡ before) (λ _. now ≡ counted before)

-- Counts of what happened outside: they never fall, and stand at their last value.
use Rattle.std.specs.Prelude.{◌≡◌, ◌<◌, ◌⊎◌, ℕ, ◌+◌, ◌-◌, ◌^◌, min}

-- the last value of a count
abbrev pub last_count : ℕ
last_count = 2 ^ 64 - 1

-- the count after one more, which stands at its last value
abbrev pub counted : ℕ → ℕ
counted n = min (n + 1) last_count

-- the count rose, or it stands at its last value, which stands for that
abbrev pub Rose : ℕ → ℕ → Type 0
Rose old new = (old < new) ⊎ (new ≡ last_count)

-- Selects that start past 128 bits, and copies.
use Rattle.std.proofs.Common.{◌≡◌, ℕ, ◌+◌, ◌-◌, ◌*◌, ◌%◌, ◌^◌, ◌<◌, ◌≤◌, min, Bool, true, false, sym, ap, ◌∙◌, ⊎_elim, add-one, arith}
use Rattle.std.proofs.Math.Nat.{mod-add-mod, min-eq_left}
use Rattle.std.proofs.lemmas.Nat.{mul-mod_first}
use Rattle.std.proofs.lemmas.Bool.{cases_lt}
use Rattle.vlog_const.specs.declared.whole.Whole.{Whole}
use Rattle.vlog_const.specs.Words.{low}
use Rattle.vlog_const.specs.Selects.{capped, window, copies}
use Rattle.vlog_const.proofs.WordLemmas.{low-low, shifted_out, shifted_off}

-- far below and far above no bit is reached
far : (bits : ℕ) (below : Bool) (m n : ℕ) → bits < 2 ^ 128 → n ≤ 128 → 128 ≤ m → window bits (record { negative = below; magnitude = m }) n ≡ 0
unfolding window
far bits true m n h e f = shifted_out n bits m (omega arith)
far bits false m n h e f = rw (shifted_off bits m h f) (zero_low n)
  where
    zero_low : (n : ℕ) → 0 % 2 ^ n ≡ 0
    zero_low n = omega arith

pub window-capped : (bits : ℕ) (s : Whole) (n : ℕ) → bits < 2 ^ 128 → n ≤ 128 → window bits (capped s) n ≡ window bits s n
window-capped bits s n h e = ⊎_elim
    (λ near. ap (λ (m : ℕ). window bits (record { negative = s.negative; magnitude = m }) n) (min-eq_left (omega (arith, near))))
    (λ past. far bits s.negative (min s.magnitude (2 ^ 128 - 1)) n h e (omega (arith, past)) ∙ sym (far bits s.negative s.magnitude n h e (omega (arith, past))))
    (cases_lt s.magnitude 128)

-- the sum of 128 bits, cut
pub moved-low : (w x more : ℕ) → w ≤ 128 → (x % 2 ^ 128 + more) % 2 ^ 128 % 2 ^ w ≡ (x + more) % 2 ^ w
moved-low w x more h = ap (λ (t : ℕ). t % 2 ^ w) (mod-add-mod x (2 ^ 128) more) ∙ low-low w (x + more) h

-- one copy more
pub copies-more : (n w bits all : ℕ) → low all (low all (copies n w bits) * 2 ^ w + bits) ≡ low all (copies (n + 1) w bits)
unfolding copies
copies-more n w bits all =
    rw add-one
    (sym (mod-add-mod (copies n w bits % 2 ^ all * 2 ^ w) (2 ^ all) bits)
    ∙ ap (λ (t : ℕ). (t + bits) % 2 ^ all) (mul-mod_first (copies n w bits) (2 ^ w) (2 ^ all))
    ∙ mod-add-mod (copies n w bits * 2 ^ w) (2 ^ all) bits)

pub ruleset select_steps = (window-capped)

pub ruleset moved_steps = (low-low, moved-low, copies-more)

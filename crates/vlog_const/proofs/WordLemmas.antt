-- Sums, products and shifts of 128 bits, cut to fewer.
use Rattle.std.proofs.Common.{◌≡◌, ℕ, ◌+◌, ◌-◌, ◌*◌, ◌/◌, ◌%◌, ◌^◌, ◌<◌, ◌≤◌, nat_le, false, sym, ap, ◌∙◌, arith}
use Rattle.std.proofs.lemmas.Nat.{and_mask, pow_pos, pow-add, one_shl}
use Rattle.std.proofs.lemmas.Bool.Decides.{nat_tests}
use Rattle.std.proofs.Math.Pow.{mod-mod-pow, pow_mono}
use Rattle.std.proofs.Math.Nat.{mul_left_comm, mul-mod_right, div-eq_of_lt}

-- the lowest bits of the lowest 128 are the lowest bits
pub low-low : (w n : ℕ) → w ≤ 128 → n % 2 ^ 128 % 2 ^ w ≡ n % 2 ^ w
low-low w n h =
    let e : (128 - w) + w ≡ 128 = omega arith in
    rw (ap (λ (k : ℕ). n % 2 ^ k % 2 ^ w) (sym e)) (mod-mod-pow n (128 - w) w)

-- past the width nothing is left
pub shifted_out : (w a n : ℕ) → w ≤ n → (a * 2 ^ n) % 2 ^ w ≡ 0
shifted_out w a n h =
    let e : w + (n - w) ≡ n = omega arith in
    let product : a * (2 ^ w * 2 ^ (n - w)) ≡ 2 ^ w * (a * 2 ^ (n - w)) = mul_left_comm a (2 ^ w) (2 ^ (n - w)) in
    rw (ap (λ (k : ℕ). (a * 2 ^ k) % 2 ^ w) (sym e) ∙ ap (λ (k : ℕ). (a * k) % 2 ^ w) (pow-add 2 w (n - w)) ∙ ap (λ (k : ℕ). k % 2 ^ w) product)
    (mul-mod_right (2 ^ w) (a * 2 ^ (n - w)))

pub shifted_off : (a n : ℕ) → a < 2 ^ 128 → 128 ≤ n → a / 2 ^ n ≡ 0
shifted_off a n h e = div-eq_of_lt (omega (arith, pow_mono {i = 128} {j = n} e))

-- nothing stands above a width that is no less
pub no_fill : (w wider : ℕ) → wider ≤ w → 2 ^ wider - 2 ^ w ≡ 0
no_fill w wider h = omega (arith, pow_mono {i = wider} {j = w} h)

-- a number of 128 bits is below any higher bit
pub no_top : (k a : ℕ) → a < 2 ^ 128 → 128 ≤ k → nat_le (2 ^ k) a ≡ false
no_top k a h e =
    let above : a < 2 ^ k = omega (arith, pow_mono {i = 128} {j = k} e) in
    grind (arith, nat_tests)

pub ruleset word_steps = (low-low, and_mask, shifted_out, shifted_off, one_shl, no_fill, no_top)

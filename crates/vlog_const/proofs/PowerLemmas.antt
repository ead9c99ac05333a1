-- Powers modulo m by squaring: a square for two in the exponent, and one factor more where the exponent is odd.
use Rattle.std.proofs.Common.{◌≡◌, ℕ, ◌+◌, ◌*◌, ◌/◌, ◌%◌, ◌^◌, sym, ap, ◌∙◌, arith}
use Rattle.std.proofs.lemmas.Nat.{pow-add, mul-pow, pow-mod, mul-mod_first, mul-mod_second}
use Rattle.std.proofs.Math.Nat.{mul_assoc, mul_comm, pow-suc, pow-zero, mul-one, one-mul}

squared : (b k : ℕ) → (b * b) ^ k ≡ b ^ (k + k)
squared b k = mul-pow b b k ∙ sym (pow-add b k k)

-- the base may be cut
cut : (p q k m : ℕ) → (p * (q % m) ^ k) % m ≡ (p * q ^ k) % m
cut p q k m =
    sym (mul-mod_second p ((q % m) ^ k) m) ∙ ap (λ (x : ℕ). (p * x) % m) (pow-mod q k m) ∙ mul-mod_second p (q ^ k) m

pub even_step : (p b e m : ℕ) → (e % 2 ≡ 1 → ⊥) → (p * ((b * b) % m) ^ (e / 2)) % m ≡ (p * b ^ e) % m
even_step p b e m h =
    cut p (b * b) (e / 2) m ∙ ap (λ (x : ℕ). (p * x) % m) (squared b (e / 2) ∙ ap (λ (x : ℕ). b ^ x) (omega arith))

odd_power : (p b e : ℕ) → e % 2 ≡ 1 → p * b * (b * b) ^ (e / 2) ≡ p * b ^ e
odd_power p b e h =
    ap (λ (x : ℕ). p * b * x) (squared b (e / 2)) ∙ mul_assoc p b _ ∙ ap (λ (x : ℕ). p * x) (mul_comm b _)
    ∙ ap (λ (x : ℕ). p * x) (sym (pow-suc b (e / 2 + e / 2)) ∙ ap (λ (x : ℕ). b ^ x) (omega arith))

pub odd_step : (p b e m : ℕ) → e % 2 ≡ 1 → ((p * b) % m * ((b * b) % m) ^ (e / 2)) % m ≡ (p * b ^ e) % m
odd_step p b e m h =
    mul-mod_first (p * b) (((b * b) % m) ^ (e / 2)) m ∙ cut (p * b) (b * b) (e / 2) m ∙ ap (λ (x : ℕ). x % m) (odd_power p b e h)

pub first_step : (b e m : ℕ) → (1 * b ^ e) % m ≡ (b ^ e) % m
first_step b e m = ap (λ (x : ℕ). x % m) (one-mul (b ^ e))

pub last_step : (p b e m : ℕ) → e ≡ 0 → (p * b ^ e) % m ≡ p % m
last_step p b e m h = ap (λ (x : ℕ). (p * b ^ x) % m) h ∙ ap (λ (x : ℕ). (p * x) % m) (pow-zero b) ∙ ap (λ (x : ℕ). x % m) (mul-one p)

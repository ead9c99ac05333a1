-- Bits between two positions, as far as some number that no position reaches.
use Rattle.std.proofs.Common.{◌≡◌, ◌⊎◌, ℕ, ◌+◌, ◌-◌, ◌≤◌, min, List, length, take, drop, sym, ap, ◌∙◌, ⊎_elim, arith}
use Rattle.std.proofs.lemmas.List.{length-take, take_all, drop_all}
use Rattle.elab_weight.specs.Reaches.{between}

-- past the last bit all ends are alike
between-high : (ns : List ℕ) (a b c : ℕ) → length ns ≤ b → length ns ≤ c → between a b ns ≡ between a c ns
unfolding between
between-high ns a b c h k = ap (drop a) (take_all b ns h ∙ sym (take_all c ns k))

-- and all beginnings
between-low : (ns : List ℕ) (a b c d : ℕ) → length ns ≤ a → length ns ≤ c → between a b ns ≡ between c d ns
unfolding between
between-low ns a b c d h k =
    drop_all a (take b ns) (omega (arith, length-take b ns, h)) ∙ sym (drop_all c (take d ns) (omega (arith, length-take d ns, k)))

min-cases : (n m : ℕ) → (n ≤ m × (min n m ≡ n)) ⊎ (m ≤ n × (min n m ≡ m))
min-cases n m = grind arith

pub upwards : (ns : List ℕ) (low high l m : ℕ) → l + length ns ≤ m → between (min low m - l) (min high m - l) ns ≡ between (low - l) (high - l) ns
upwards ns low high l m far =
    ⊎_elim
    (λ p. ap (λ k. between (k - l) (min high m - l) ns) p.1 ∙ ⊎_elim
    (λ q. ap (λ k. between (low - l) (k - l) ns) q.1)
    (λ q. between-high ns (low - l) (min high m - l) (high - l) (omega (arith, q.1, far)) (omega (arith, q.0, far)))
    (min-cases high m))
    (λ p. between-low ns (min low m - l) (min high m - l) (low - l) (high - l) (omega (arith, p.1, far)) (omega (arith, p.0, far)))
    (min-cases low m)

past : (a n m : ℕ) → a ≤ m → a - min n m ≡ a - n
past a n m far = ⊎_elim (λ p. ap (λ k. a - k) p.1) (λ p. omega (arith, p.0, p.1, far)) (min-cases n m)

pub downwards : (ns : List ℕ) (low high l m : ℕ) → l + 1 ≤ m → between ((l + 1) - min high m) ((l + 1) - min low m) ns ≡ between ((l + 1) - high) ((l + 1) - low) ns
downwards ns low high l m far =
    ap (λ k. between k ((l + 1) - min low m) ns) (past (l + 1) high m far) ∙ ap (λ k. between ((l + 1) - high) k ns) (past (l + 1) low m far)

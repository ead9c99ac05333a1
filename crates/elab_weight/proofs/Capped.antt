-- Sums and products of numbers as far as the limit.
use Rattle.std.proofs.Common.{◌≡◌, ◌⊎◌, ℕ, zero, true, nat_le, ◌+◌, ◌*◌, ◌≤◌, ◌<◌, refl, sym, ap, ◌∙◌, ⊎_elim, le_trans, le_of_eq, le-mul_of_pos_right, eq-zero-or-pos, mul_comm, mul-zero, arith}
use Rattle.rdc_outside.specs.declared.source.Place.{Place}
use Rattle.elab_weight.specs.Limits.{capped, most_weight, weighed}

-- one of two, for each number
pub capped-cases : (n : ℕ) → (n ≤ 1048576 × (capped n ≡ n)) ⊎ (1048576 ≤ n × (capped n ≡ 1048576))
unfolding capped most_weight
capped-cases n = grind arith

pub capped-left : (a b : ℕ) → capped (capped a + b) ≡ capped (a + b)
unfolding capped most_weight
capped-left a b = grind arith

pub capped-right : (a b : ℕ) → capped (a + capped b) ≡ capped (a + b)
unfolding capped most_weight
capped-right a b = grind arith

capped-small : (n : ℕ) → n ≤ 1048576 → capped n ≡ n
unfolding capped most_weight
capped-small n h = grind (arith, h)

capped-great : (n : ℕ) → 1048576 ≤ n → capped n ≡ 1048576
unfolding capped most_weight
capped-great n h = grind (arith, h)

-- past the limit by the one factor, if the other one isn't 0
past : (a b : ℕ) → 1048576 ≤ a → zero < b → capped (a * b) ≡ 1048576
past a b h k = capped-great (a * b) (le_trans h (le-mul_of_pos_right a k))

nothing : (a b : ℕ) → b ≡ 0 → capped (capped a * capped b) ≡ capped (a * b)
nothing a b z =
    ap (λ n. capped (capped a * n)) (ap capped z ∙ capped-small 0 (omega arith)) ∙ ap capped (mul-zero (capped a)) ∙ sym (ap (λ n. capped (a * n)) z ∙ ap capped (mul-zero a))

capped-pos : (b : ℕ) → zero < b → zero < capped b
unfolding capped most_weight
capped-pos b h = grind (arith, h)

-- the first one past the limit
great-left : (a b : ℕ) → 1048576 ≤ a → capped (capped a * capped b) ≡ capped (a * b)
great-left a b h =
    ⊎_elim (λ (z : b ≡ 0). nothing a b z)
    (λ (z : zero < b). past (capped a) (capped b) (le_of_eq (sym (capped-great a h))) (capped-pos b z) ∙ sym (past a b h z))
    (eq-zero-or-pos b)

turned : (a b : ℕ) → capped (capped b * capped a) ≡ capped (b * a) → capped (capped a * capped b) ≡ capped (a * b)
turned a b h = ap capped (mul_comm (capped a) (capped b)) ∙ h ∙ ap capped (mul_comm b a)

pub capped-times : (a b : ℕ) → capped (capped a * capped b) ≡ capped (a * b)
capped-times a b =
    ⊎_elim (λ p. ⊎_elim (λ q. ap (λ n. capped (n * capped b)) p.1 ∙ ap (λ n. capped (a * n)) q.1) (λ q. turned a b (great-left b a q.0)) (capped-cases b))
    (λ p. great-left a b p.0) (capped-cases a)

capped-twice : (n : ℕ) → capped (capped n) ≡ capped n
unfolding capped most_weight
capped-twice n = grind arith

pub times-left : (a b : ℕ) → capped (capped a * b) ≡ capped (a * b)
times-left a b = sym (capped-times (capped a) b) ∙ ap (λ n. capped (n * capped b)) (capped-twice a) ∙ capped-times a b

pub times-right : (a b : ℕ) → capped (a * capped b) ≡ capped (a * b)
times-right a b = sym (capped-times a (capped b)) ∙ ap (λ n. capped (capped a * n)) (capped-twice b) ∙ capped-times a b

-- two of which each is known as far as the limit
pub two-sum : (x y a b r : ℕ) → x ≡ capped a → y ≡ capped b → r ≡ capped (x + y) → r ≡ capped (a + b)
two-sum x y a b r one other sum =
    sum ∙ ap (λ n. capped (n + y)) one ∙ ap (λ n. capped (capped a + n)) other ∙ capped-left a (capped b) ∙ capped-right a b

-- three, the last of which is not looked at past the limit
all-three : (s p h c m : ℕ) → m ≡ s + p + h → capped (m + c) ≡ capped (s + (p + h + c))
all-three s p h c m is = ap capped (omega (arith, is))

two-so-far : (s p h w k v : ℕ) → w ≡ capped (s + p) → k ≡ capped h → v ≡ capped (w + k) → v ≡ capped (s + p + h)
two-so-far s p h w k v one other sum = two-sum w k (s + p) h v one other sum

pub body-all : (s p h c w k v l r : ℕ) → w ≡ capped (s + p) → k ≡ capped h → v ≡ capped (w + k) → l ≡ capped c → r ≡ capped (v + l) → r ≡ capped (s + (p + h + c))
body-all s p h c w k v l r one other sum last whole =
    two-sum v l (s + p + h) c r (two-so-far s p h w k v one other sum) last whole ∙ all-three s p h c (s + p + h) refl

most-stays : (m c v : ℕ) → v ≡ capped m → nat_le most_weight v ≡ true → v ≡ capped (m + c)
unfolding capped most_weight
most-stays m c v is most = grind (arith, is, most)

pub body-most : (s p h c w k v : ℕ) → w ≡ capped (s + p) → k ≡ capped h → v ≡ capped (w + k) → nat_le most_weight v ≡ true → v ≡ capped (s + (p + h + c))
body-most s p h c w k v one other sum most =
    most-stays (s + p + h) c v (two-so-far s p h w k v one other sum) most ∙ all-three s p h c (s + p + h) refl

pub weighed-capped : (place : Place) (n : ℕ) → weighed place (capped n) ≡ weighed place n
unfolding weighed capped most_weight
weighed-capped place n = grind arith

-- for tactics
pub ruleset products = (times-left, times-right)

pub ruleset sums = (capped-left, capped-right)

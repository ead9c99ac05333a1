-- Arithmetic, comparisons and reductions of words, least significant bit first, gate by gate.
--   masked, inverted, zeros                a bit over a word, each bit's inverse, and no bit at 1
--   sum_bit, carry_of, sum_of, carry_out   the adder, bit by bit, and its last carry
--   add_of, sub_of, neg_of                 a + b, a - b, -a
--   products_of, mul_of                    a * b
--   any_of, all_of, parity_of              OR, AND and XOR of the bits
--   eq_of, lt_bit, lt_from, lt_of          a == b, and a < b of unsigned words
--   top_inverted, lt_signed_of             a < b of signed words
use Rattle.std.specs.Prelude.{ℕ, ◌+◌, List, [], ◌∷◌, length, map, replicate}
use Rattle.rdc_tern.specs.declared.value.Tern.{Tern}
use Rattle.rdc_tern.specs.declared.value.Tern.TheVariants.{Zero, One}
use Rattle.rdc_tern.specs.Kleene.{not_of, and_of, or_of, xor_of}
use Rattle.rdc_tern.specs.Shifts.{raised}

-- each bit AND the one bit
abbrev pub masked : Tern → List Tern → List Tern
masked bit w = map (λ a. and_of a bit) w

-- each bit's inverse
abbrev pub inverted : List Tern → List Tern
inverted w = map not_of w

-- as wide a word of zeros
abbrev pub zeros : List Tern → List Tern
zeros w = replicate (length w) Zero

-- one bit of a sum, of two bits and the carry into it
abbrev pub sum_bit : Tern → Tern → Tern → Tern
sum_bit c a b = xor_of (xor_of a b) c

-- the carry out of it
abbrev pub carry_of : Tern → Tern → Tern → Tern
carry_of c a b = or_of (and_of a b) (and_of c (xor_of a b))

-- the bits of a sum from one carry on, cut to the narrower word
abbrev pub sum_of : Tern → List Tern → List Tern → List Tern
sum_of c [] y = []
sum_of c (a ∷ x) [] = []
sum_of c (a ∷ x) (b ∷ y) = sum_bit c a b ∷ sum_of (carry_of c a b) x y

-- the carry that is cut off
abbrev pub carry_out : Tern → List Tern → List Tern → Tern
carry_out c [] y = c
carry_out c (a ∷ x) [] = c
carry_out c (a ∷ x) (b ∷ y) = carry_out (carry_of c a b) x y

-- a + b
abbrev pub add_of : List Tern → List Tern → List Tern
add_of a b = sum_of Zero a b

-- a - b, which is a + ~b with a first carry of 1
abbrev pub sub_of : List Tern → List Tern → List Tern
sub_of a b = sum_of One a (inverted b)

-- -a, which is 0 - a
abbrev pub neg_of : List Tern → List Tern
neg_of a = sub_of (zeros a) a

-- what is added so far, and from bit i of b on a moved up by i, each bit AND that bit of b
abbrev pub products_of : List Tern → List Tern → ℕ → List Tern → List Tern
products_of so_far a i [] = so_far
products_of so_far a i (bit ∷ b) = products_of (add_of so_far (masked bit (raised Zero i a))) a (i + 1) b

-- a * b
abbrev pub mul_of : List Tern → List Tern → List Tern
mul_of a b = products_of (zeros a) a 0 b

-- the OR of the bits, of none 0
abbrev pub any_of : List Tern → Tern
any_of [] = Zero
any_of (a ∷ w) = or_of a (any_of w)

-- the AND of the bits, of none 1
abbrev pub all_of : List Tern → Tern
all_of [] = One
all_of (a ∷ w) = and_of a (all_of w)

-- the XOR of the bits, of none 0
abbrev pub parity_of : List Tern → Tern
parity_of [] = Zero
parity_of (a ∷ w) = xor_of a (parity_of w)

-- a == b: the AND over the bits of not (a xor b)
abbrev pub eq_of : List Tern → List Tern → Tern
eq_of [] y = One
eq_of (a ∷ x) [] = One
eq_of (a ∷ x) (b ∷ y) = and_of (not_of (xor_of a b)) (eq_of x y)

-- less by this bit, or equal in it and less by those below it
abbrev pub lt_bit : Tern → Tern → Tern → Tern
lt_bit so_far a b = or_of (and_of (not_of a) b) (and_of (not_of (xor_of a b)) so_far)

-- bit by bit upward, from what the bits below gave
abbrev pub lt_from : Tern → List Tern → List Tern → Tern
lt_from so_far [] y = so_far
lt_from so_far (a ∷ x) [] = so_far
lt_from so_far (a ∷ x) (b ∷ y) = lt_from (lt_bit so_far a b) x y

-- a < b
abbrev pub lt_of : List Tern → List Tern → Tern
lt_of a b = lt_from Zero a b

-- the word with its top bit inverted
abbrev pub top_inverted : List Tern → List Tern
top_inverted [] = []
top_inverted (a ∷ []) = not_of a ∷ []
top_inverted (a ∷ b ∷ w) = a ∷ top_inverted (b ∷ w)

-- a < b of signed words
abbrev pub lt_signed_of : List Tern → List Tern → Tern
lt_signed_of a b = lt_of (top_inverted a) (top_inverted b)

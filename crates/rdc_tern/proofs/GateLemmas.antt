-- Serves specs/Kleene.antt: the gates on constants, in the order, and on settled values.
use Rattle.std.proofs.Common.{◌≡◌, rules}
use Rattle.rdc_tern.specs.declared.value.Tern.{Tern}
use Rattle.rdc_tern.specs.declared.value.Tern.TheVariants.{Zero, One}
use Rattle.rdc_tern.specs.Kleene.{not_of, and_of, or_of, xor_of, mux_of, IsBelow, IsSettled}
use Rattle.rdc_tern.specs.Words.{sum_bit, carry_of, lt_bit}

pub or_assoc : (a b c : Tern) → or_of (or_of a b) c ≡ or_of a (or_of b c)
or_assoc a b c = search rules

pub and_assoc : (a b c : Tern) → and_of (and_of a b) c ≡ and_of a (and_of b c)
and_assoc a b c = search rules

pub xor_assoc : (a b c : Tern) → xor_of (xor_of a b) c ≡ xor_of a (xor_of b c)
xor_assoc a b c = search rules

pub or_zero : (a : Tern) → or_of a Zero ≡ a
or_zero a = search rules

pub and_one : (a : Tern) → and_of a One ≡ a
and_one a = search rules

pub and_zero : (a : Tern) → and_of a Zero ≡ Zero
and_zero a = search rules

pub xor_zero : (a : Tern) → xor_of a Zero ≡ a
xor_zero a = search rules

pub not_not : (a : Tern) → not_of (not_of a) ≡ a
not_not a = search rules

pub mux_one : (a b : Tern) → mux_of One a b ≡ a
mux_one a b = search rules

pub mux_zero : (a b : Tern) → mux_of Zero a b ≡ b
mux_zero a b = search rules

pub plus_zero : (a : Tern) → sum_bit Zero a Zero ≡ a
plus_zero a = search rules

pub carry_zero : (a : Tern) → carry_of Zero a Zero ≡ Zero
carry_zero a = search rules

pub not_below : (a b : Tern) → IsBelow a b → IsBelow (not_of a) (not_of b)
not_below a b h = search rules

pub and_below : (a b c d : Tern) → IsBelow a b → IsBelow c d → IsBelow (and_of a c) (and_of b d)
and_below a b c d h k = search rules

pub or_below : (a b c d : Tern) → IsBelow a b → IsBelow c d → IsBelow (or_of a c) (or_of b d)
or_below a b c d h k = search rules

pub xor_below : (a b c d : Tern) → IsBelow a b → IsBelow c d → IsBelow (xor_of a c) (xor_of b d)
xor_below a b c d h k = search rules

pub zero_settled : IsSettled Zero
zero_settled = λ e. cc

pub one_settled : IsSettled One
one_settled = λ e. cc

pub not_settled : (a : Tern) → IsSettled a → IsSettled (not_of a)
not_settled a h = search rules

pub and_settled : (a b : Tern) → IsSettled a → IsSettled b → IsSettled (and_of a b)
and_settled a b h k = search rules

pub or_settled : (a b : Tern) → IsSettled a → IsSettled b → IsSettled (or_of a b)
or_settled a b h k = search rules

pub xor_settled : (a b : Tern) → IsSettled a → IsSettled b → IsSettled (xor_of a b)
xor_settled a b h k = search rules

pub carry_settled : (c a b : Tern) → IsSettled c → IsSettled a → IsSettled b → IsSettled (carry_of c a b)
carry_settled c a b hc ha hb = search rules

pub lt_bit_settled : (s a b : Tern) → IsSettled s → IsSettled a → IsSettled b → IsSettled (lt_bit s a b)
lt_bit_settled s a b hs ha hb = search rules

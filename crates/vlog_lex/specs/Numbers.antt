-- Numbers: a plain one in decimal digits, or a size, a base and digits (IEEE 1364-2005, 3.5.1).
--     value_of ds              the value of decimal digits, `_` among them
--     is_size ds, is_small ds  what may stand before a base, and alone
--     goes_on base, is_digit_of base     the bytes that are read as digits, and those that the base has
--     based_at bs, number_at bs          how many bytes the number in front takes, if it is one
use Rattle.std.specs.Prelude.{ℕ, ◌+◌, ◌*◌, ◌-◌, Bool, true, false, not, ◌&&◌, ◌||◌, ◌==◌, nat_le, if◌then◌else◌, List, [], ◌∷◌, take, drop, slice_index, Option, Some, None}
use Rattle.std.specs.List.{prefix_len, list_all}
use Rattle.vlog_lex.specs.Bytes.{is_within, is_blank, is_size_digit}

-- the value with one more digit; `_` adds nothing
unfoldable pub with_digit : ℕ → ℕ → ℕ
with_digit v d = if d == 95 then v else 10 * v + (d - 48)

-- the value of v and the digits behind it
unfoldable pub value_from : ℕ → List ℕ → ℕ
value_from v [] = v
value_from v (d ∷ ds) = value_from (with_digit v d) ds

abbrev pub value_of : List ℕ → ℕ
value_of ds = value_from 0 ds

-- no size, or one of 1 to 128
unfoldable pub is_size : List ℕ → Bool
is_size [] = true
is_size (d ∷ ds) = nat_le (value_of (d ∷ ds)) 128 && not (nat_le (value_of (d ∷ ds)) 0)

-- a plain number has 32 bits
unfoldable pub is_small : List ℕ → Bool
is_small ds = nat_le (value_of ds) 4294967295

unfoldable pub is_binary : ℕ → Bool
is_binary b = b == 98 || b == 66

unfoldable pub is_octal : ℕ → Bool
is_octal b = b == 111 || b == 79

unfoldable pub is_hexadecimal : ℕ → Bool
is_hexadecimal b = b == 104 || b == 72

unfoldable pub is_decimal : ℕ → Bool
is_decimal b = b == 100 || b == 68

-- b, o, d or h, in either case
unfoldable pub is_base : ℕ → Bool
is_base b = is_binary b || is_octal b || is_decimal b || is_hexadecimal b

-- a digit x, z or ?
unfoldable pub is_unknown : ℕ → Bool
is_unknown d = d == 120 || d == 88 || d == 122 || d == 90 || d == 63

-- a to f, in either case
unfoldable pub is_hex_letter : ℕ → Bool
is_hex_letter d = is_within 97 102 d || is_within 65 70 d

-- digits, `_`, x, z and ? go on with a number of any base, a to f with a hexadecimal one alone
unfoldable pub goes_on : ℕ → ℕ → Bool
goes_on base d = is_size_digit d || is_unknown d || (is_hexadecimal base && is_hex_letter d)

-- what the base has of these; a decimal number has no x, z and ?
unfoldable pub is_digit_of : ℕ → ℕ → Bool
is_digit_of base d =
    if is_binary base then is_within 48 49 d || d == 95 || is_unknown d
    else (if is_octal base then is_within 48 55 d || d == 95 || is_unknown d
    else (if is_decimal base then is_size_digit d
    else true))

-- at least one digit, each of the base, and `_` not as the first
unfoldable pub are_digits_of : ℕ → List ℕ → Bool
are_digits_of base [] = false
are_digits_of base (d ∷ ds) = not (d == 95) && list_all (is_digit_of base) (d ∷ ds)

-- the base, blanks, and all bytes that go on with the number
unfoldable pub digits_at : List ℕ → Option ℕ
digits_at [] = None
digits_at (base ∷ bs) =
    let space = prefix_len is_blank bs in
    let count = prefix_len (goes_on base) (drop space bs) in
    if is_base base && are_digits_of base (take count (drop space bs)) then Some (1 + space + count) else None

-- what stands behind the `'`: s or S for a signed number or nothing, the base, blanks, digits
unfoldable pub based_at : List ℕ → Option ℕ
based_at [] = None
based_at (b ∷ bs) = if b == 115 || b == 83 then (elim (digits_at bs) [ None ↦ None | Some n ↦ Some (1 + n) ]) else digits_at (b ∷ bs)

-- the number in front: with a base, where `'` stands behind the first digits and blanks, or else those digits, if any
unfoldable pub number_at : List ℕ → Option ℕ
number_at bs =
    let size = prefix_len is_size_digit bs in
    let space = prefix_len is_blank (drop size bs) in
    let rest = drop space (drop size bs) in
    if slice_index rest 0 == 39
    then (if is_size (take size bs) then (elim (based_at (drop 1 rest)) [ None ↦ None | Some n ↦ Some (size + space + 1 + n) ]) else None)
    else (if not (size == 0) && is_small (take size bs) then Some size else None)

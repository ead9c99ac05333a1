-- What a number is worth (IEEE 1364-2005, 3.5.1). Its text is well formed, which the lexer sees to.
--     is_z d, is_x d               z and x digits
--     radix base, digit_value d    what a digit counts
--     counted worth r v ds         what digits are worth, by what each counts
--     plain_in ds, based_in size bs, number_in bs      a number without and with a base, and either
--     number_of l                  the number that a lexeme is, if it is one and has no x digit
--     has_x l, has_z l             it has such a digit
use Rattle.std.specs.Prelude.{ℕ, ◌+◌, ◌*◌, ◌-◌, ◌^◌, ◌%◌, Bool, true, false, not, ◌&&◌, ◌||◌, ◌==◌, if◌then◌else◌, List, [], ◌∷◌, take, drop, slice_index, Option, Some, None}
use Rattle.std.specs.List.{prefix_len, list_any}
use Rattle.vlog_lex.specs.Bytes.{is_within, is_blank, is_digit, is_size_digit}
use Rattle.vlog_lex.specs.Numbers.{value_of, is_size, is_small, is_binary, is_octal, is_hexadecimal}
use Rattle.vlog_tree.specs.declared.number.Base.{Base}
use Rattle.vlog_tree.specs.declared.number.Base.TheVariants.{Binary, Octal, Decimal, Hexadecimal}
use Rattle.vlog_tree.specs.declared.number.Number.{Number}
use Rattle.vlog_tree.specs.Lexemes.{Lexeme, digits_of}

-- z, Z or ?
unfoldable pub is_z : ℕ → Bool
is_z d = d == 122 || d == 90 || d == 63

-- x or X
unfoldable pub is_x : ℕ → Bool
is_x d = d == 120 || d == 88

-- b, o, h, or else d
unfoldable pub base_of : ℕ → Base
base_of b = if is_binary b then Binary else (if is_octal b then Octal else (if is_hexadecimal b then Hexadecimal else Decimal))

unfoldable pub radix : Base → ℕ
radix Binary = 2
radix Octal = 8
radix Decimal = 10
radix Hexadecimal = 16

-- a letter counts 10 to 15, and a digit x or z 0
unfoldable pub digit_value : ℕ → ℕ
digit_value d = if is_digit d then d - 48 else (if is_within 97 102 d then d - 87 else (if is_within 65 70 d then d - 55 else 0))

-- a z digit takes all positions of a digit
unfoldable pub z_value : ℕ → ℕ → ℕ
z_value r d = if is_z d then r - 1 else 0

-- what v and the digits behind it are worth, each digit by what it counts; `_` adds nothing
unfoldable pub counted : (ℕ → ℕ) → ℕ → ℕ → List ℕ → ℕ
counted worth r v [] = v
counted worth r v (d ∷ ds) = counted worth r (if d == 95 then v else r * v + worth d) ds

-- what stands to the left of the first digit: z where it is one
unfoldable pub z_before : List ℕ → ℕ
z_before ds = if is_z (slice_index ds 0) then 2 ^ 128 - 1 else 0

-- decimal digits alone: a signed number of 32 bits
unfoldable pub plain_in : List ℕ → Option Number
plain_in ds = if is_small ds then Some (record { sized = false; signed = true; base = Decimal; width = 32; bits = value_of ds; z = 0 }) else None

-- the size, or 32
unfoldable pub width_of : List ℕ → ℕ
width_of [] = 32
width_of (d ∷ ds) = value_of (d ∷ ds)

-- whether a size is written
unfoldable pub is_sized : List ℕ → Bool
is_sized [] = false
is_sized (d ∷ ds) = true

-- the digits behind a base, cut to the width
unfoldable pub worth : Bool → Bool → Base → ℕ → List ℕ → Number
worth sized signed base width ds = record {
  sized = sized;
  signed = signed;
  base = base;
  width = width;
  bits = counted digit_value (radix base) 0 ds % 2 ^ width;
  z = counted (z_value (radix base)) (radix base) (z_before ds) ds % 2 ^ width;
}

-- s or S
unfoldable pub is_sign : ℕ → Bool
is_sign b = b == 115 || b == 83

-- what stands behind the size and the sign: a base, blanks, digits
unfoldable pub digits_behind : List ℕ → Bool → List ℕ → Number
digits_behind size signed bs =
    let ds = drop (prefix_len is_blank (drop 1 bs)) (drop 1 bs) in
    worth (is_sized size) signed (base_of (slice_index bs 0)) (width_of size) ds

-- what stands behind the size and the `'`: a sign or none, and so on
unfoldable pub based_in : List ℕ → List ℕ → Option Number
based_in size bs =
    if is_size size
    then (if is_sign (slice_index bs 0) then Some (digits_behind size true (drop 1 bs)) else Some (digits_behind size false bs))
    else None

-- the number of such bytes
unfoldable pub number_in : List ℕ → Option Number
number_in bs =
    let count = prefix_len is_size_digit bs in
    let rest = drop (prefix_len is_blank (drop count bs)) (drop count bs) in
    if slice_index rest 0 == 39 then based_in (take count bs) (drop 1 rest) else plain_in (take count bs)

-- the lexeme is a number with such a digit
unfoldable pub has_x : Lexeme → Bool
has_x l = list_any is_x (digits_of l)

unfoldable pub has_z : Lexeme → Bool
has_z l = list_any is_z (digits_of l)

-- the number of such bytes, if there are any, none of them x
unfoldable pub settled_in : List ℕ → Option Number
settled_in [] = None
settled_in (b ∷ bs) = if list_any is_x (b ∷ bs) then None else number_in (b ∷ bs)

-- the number that a lexeme is, if it is one, and has no x digit
unfoldable pub number_of : Lexeme → Option Number
number_of l = settled_in (digits_of l)

-- Selects of a constant's bits, bits side by side, and copies of bits.
--     Whole, whole v               a number with its sign, and that of a value
--     window bits start n          the n positions from `start` up, those outside the bits 0
--     part_start, part_width       where a part select begins, and how wide it is
--     beside, joined, copies       side by side
--     index_worth, select_worth, concat_worth, repeat_worth
use Rattle.std.specs.Prelude.{if◌then◌else◌, ℕ, zero, suc, ◌+◌, ◌-◌, ◌*◌, ◌/◌, ◌^◌, min, true, false, nat_le, List, [], ◌∷◌, Ok}
use Rattle.rdc_outside.specs.declared.source.Place.{Place}
use Rattle.vlog_tree.specs.declared.expr.Part.{Part}
use Rattle.vlog_tree.specs.declared.expr.Part.TheVariants.{Fixed, Up, Down}
use Rattle.vlog_const.specs.declared.answer.ConstValue.{ConstValue}
use Rattle.vlog_const.specs.declared.whole.Whole.{Whole}
use Rattle.vlog_const.specs.Names.{Values}
use Rattle.vlog_const.specs.Widths.{bit, unsigned, joined_shape, repeated_shape}
use Rattle.vlog_const.specs.Words.{low, is_negative, magnitude}
use Rattle.vlog_const.specs.Worths.{Or_fault, ◌>>=◌, Worth, fixed, narrow, shape_of, alone, settled, named}

-- a number with its sign
abbrev pub whole : ConstValue → Whole
whole v = record { negative = is_negative v.signed v.width v.bits; magnitude = magnitude v.signed v.width v.bits }

-- a number less k
unfoldable pub lowered : Whole → ℕ → Whole
lowered a k =
    if a.negative then record { negative = true; magnitude = a.magnitude + k }
    else (if nat_le k a.magnitude then record { negative = false; magnitude = a.magnitude - k }
    else record { negative = true; magnitude = k - a.magnitude })

-- a number as far as 128 bits go
abbrev pub capped : Whole → Whole
capped a = record { negative = a.negative; magnitude = min a.magnitude (2 ^ 128 - 1) }

-- how many a count is; a negative one is none
abbrev pub counted : Whole → ℕ
counted n = if n.negative then 0 else n.magnitude

-- how many positions stand from `msb` down to `lsb`
unfoldable pub span : Whole → Whole → ℕ
span msb lsb =
    if msb.negative then (if lsb.negative then (lsb.magnitude + 1) - msb.magnitude else 0)
    else (if lsb.negative then msb.magnitude + 1 + lsb.magnitude else (msb.magnitude + 1) - lsb.magnitude)

-- the n positions from `start` up; those outside the bits are 0
unfoldable pub window : ℕ → Whole → ℕ → ℕ
window bits start n = low n (if start.negative then bits * 2 ^ start.magnitude else bits / 2 ^ start.magnitude)

-- the lowest position of a part, from what stands in its brackets
unfoldable pub part_start : Part → Whole → Whole → Whole
part_start Fixed i j = j
part_start Up i j = i
part_start Down i j = lowered i (counted j - 1)

unfoldable pub part_width : Part → Whole → Whole → ℕ
part_width Fixed i j = span i j
part_width Up i j = counted j
part_width Down i j = counted j

-- name [ index ]
unfoldable pub index_worth : Place → ConstValue → ConstValue → Worth
index_worth place v i = fixed place bit (window v.bits (whole i) 1)

-- name [ i : j ], name [ i +: j ], name [ i -: j ]
unfoldable pub select_worth : Place → ConstValue → Part → ConstValue → ConstValue → Or_fault Worth
select_worth place v part i j = do
  w ← narrow place (part_width part (whole i) (whole j))
  Ok (fixed place (unsigned w) (window v.bits (part_start part (whole i) (whole j)) w))

-- the value of a name, for a select
unfoldable pub selected : Values → Place → List ℕ → Or_fault ConstValue
selected values place name = do
  a ← named values place name
  alone a

-- { a, b }, where that has at most 128 bits
unfoldable pub beside : Place → ConstValue → ConstValue → Or_fault ConstValue
beside place a b = do
  w ← narrow place (joined_shape (shape_of a) (shape_of b)).width
  Ok (record { bits = low w (a.bits * 2 ^ b.width + b.bits); width = w; signed = false })

-- members from left to right, the next one on the right of those so far
unfoldable pub joined : Place → ConstValue → List (Or_fault Worth) → Or_fault ConstValue
joined place so_far [] = Ok so_far
joined place so_far (member ∷ members) = do
  a ← member
  v ← alone a
  more ← beside place so_far v
  joined place more members

-- no bits
abbrev pub nothing : ConstValue
nothing = record { bits = 0; width = 0; signed = false }

unfoldable pub concat_worth : Place → List (Or_fault Worth) → Or_fault Worth
concat_worth place members = do
  v ← joined place nothing members
  Ok (fixed place (unsigned v.width) v.bits)

-- n copies of w bits, side by side
unfoldable pub copies : ℕ → ℕ → ℕ → ℕ
copies zero w bits = 0
copies (suc n) w bits = copies n w bits * 2 ^ w + bits

unfoldable pub repeat_worth : Place → ConstValue → ConstValue → Or_fault Worth
repeat_worth place n v = settled place (repeated_shape (counted (whole n)) (shape_of v)) (copies (counted (whole n)) v.width v.bits)

-- Kleene's tables on 0, 1 and X, and the order in which X is above both.
--   not_of, and_of, or_of, xor_of    the gates
--   mux_of, join_of                  the selection, and what two values agree on
--   IsBelow, IsSettled               the order, and what is no X
use Rattle.std.specs.Prelude.{◌≡◌, ◌≢◌, ◌⊎◌}
use Rattle.rdc_tern.specs.declared.value.Tern.{Tern}
use Rattle.rdc_tern.specs.declared.value.Tern.TheVariants.{Zero, One, Unsettled}

-- the inverter
abbrev pub not_of : Tern → Tern
not_of Zero = One
not_of One = Zero
not_of Unsettled = Unsettled

-- 0 where an input is 0, 1 where both are 1, else X
abbrev pub and_of : Tern → Tern → Tern
and_of Zero b = Zero
and_of One b = b
and_of Unsettled Zero = Zero
and_of Unsettled One = Unsettled
and_of Unsettled Unsettled = Unsettled

-- 1 where an input is 1, 0 where both are 0, else X
abbrev pub or_of : Tern → Tern → Tern
or_of One b = One
or_of Zero b = b
or_of Unsettled One = One
or_of Unsettled Zero = Unsettled
or_of Unsettled Unsettled = Unsettled

-- X where an input is X, else whether they differ
abbrev pub xor_of : Tern → Tern → Tern
xor_of Zero b = b
xor_of One b = not_of b
xor_of Unsettled b = Unsettled

-- the selection as gates: (s and a) or (not s and b)
abbrev pub mux_of : Tern → Tern → Tern → Tern
mux_of s a b = or_of (and_of s a) (and_of (not_of s) b)

-- what both sides are, else X
abbrev pub join_of : Tern → Tern → Tern
join_of Zero Zero = Zero
join_of One One = One
join_of a b = Unsettled

-- b tells no more than a: it is a, or X
abbrev pub IsBelow : Tern → Tern → Type 0
IsBelow a b = (b ≡ a) ⊎ (b ≡ Unsettled)

-- neither changing nor unknown
abbrev pub IsSettled : Tern → Type 0
IsSettled a = a ≢ Unsettled

-- Signals by their names, and the signals that bits belong to.
--     owner ss ss n              the name of the first signal that has a bit
--     kind_of ss name            what may assign the signal of a name
--     is_register, is_variable   a register; a register or an integer
--     is_named names name        whether a name is one of these
use Rattle.std.specs.Prelude.{if◌then◌else◌, ℕ, Bool, true, false, List, [], ◌∷◌, Option, Some, None}
use Rattle.std.specs.List.{list_any}
use Rattle.std.specs.Str.{bytes_eq}
use Rattle.design_form.specs.declared.signal.Signal.{Signal}
use Rattle.design_form.specs.declared.signal.SignalKind.{SignalKind}
use Rattle.design_form.specs.declared.signal.SignalKind.TheVariants.{Wire, Register, Integer}
use Rattle.design_form.specs.Numbers.{signal_of}
use Rattle.elab_bits.specs.Touches.{is_among}
use Rattle.elab_bits.specs.Selects.{all_bits}

-- of some signals of a design, the name of the first one that has the bit
unfoldable pub owner_in : List Signal → ℕ → List Signal → List ℕ
owner_in ss n [] = []
owner_in ss n (s ∷ more) = if is_among (all_bits ss s.name) n then s.name else owner_in ss n more

abbrev pub owner : List Signal → ℕ → List ℕ
owner ss n = owner_in ss n ss

unfoldable pub kind_if : Option Signal → Option SignalKind
kind_if None = None
kind_if (Some s) = Some s.kind

-- what may assign the signal of a name
abbrev pub kind_of : List Signal → List ℕ → Option SignalKind
kind_of ss name = kind_if (signal_of ss name)

unfoldable pub is_register : Option SignalKind → Bool
is_register None = false
is_register (Some Wire) = false
is_register (Some Register) = true
is_register (Some Integer) = false

unfoldable pub is_variable : Option SignalKind → Bool
is_variable None = false
is_variable (Some Wire) = false
is_variable (Some Register) = true
is_variable (Some Integer) = true

-- whether a name is one of these
unfoldable pub is_named : List (List ℕ) → List ℕ → Bool
is_named names name = list_any (λ n. bytes_eq name n) names

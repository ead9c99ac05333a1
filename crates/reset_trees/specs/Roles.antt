-- What lines say of the sources of a net.
--     level_in, level_of             the level at which a reset is asserted
--     clock_in_line, pin_role_in     the clock that a line declares, and the source that a pin may read by it
--     IsClockPort, MayBePinned       what some line says
use Rattle.std.specs.Prelude.{◌≡◌, ℕ, Bool, ◌==◌, if◌then◌else◌, List, [], ◌∷◌, Option, Some, None, Contains}
use Rattle.cons_bind.specs.declared.bound.BoundForm.{BoundForm}
use Rattle.cons_bind.specs.declared.bound.BoundForm.TheVariants.{Clock, Reset, Tie, Steady, Track, Order, Isolate, Quiet, Waive}

-- the level of source s, if the line declares it a reset
abbrev pub level_in : BoundForm → ℕ → Option Bool
level_in (Clock p) s = None
level_in (Reset t high) s = if t == s then Some high else None
level_in (Tie p one) s = None
level_in (Steady p) s = None
level_in (Track flops) s = None
level_in (Order a b) s = None
level_in (Isolate reset node one) s = None
level_in (Quiet reset c) s = None
level_in (Waive flop reason) s = None

-- the first, or else the second
abbrev pub or_level : Option Bool → Option Bool → Option Bool
or_level None other = other
or_level (Some high) other = Some high

-- the level at which the lines declare source s a reset, by the first that does
abbrev pub level_of : List BoundForm → ℕ → Option Bool
level_of [] s = None
level_of (form ∷ lines) s = or_level (level_in form s) (level_of lines s)

-- the port that the line declares a clock
abbrev pub clock_in_line : BoundForm → Option ℕ
clock_in_line (Clock p) = Some p
clock_in_line (Reset s high) = None
clock_in_line (Tie p one) = None
clock_in_line (Steady p) = None
clock_in_line (Track flops) = None
clock_in_line (Order a b) = None
clock_in_line (Isolate reset node one) = None
clock_in_line (Quiet reset c) = None
clock_in_line (Waive flop reason) = None

-- the source that a pin may read by the line: a reset, a tied port, or one that is steady
abbrev pub pin_role_in : BoundForm → Option ℕ
pin_role_in (Clock p) = None
pin_role_in (Reset s high) = Some s
pin_role_in (Tie p one) = Some p
pin_role_in (Steady p) = Some p
pin_role_in (Track flops) = None
pin_role_in (Order a b) = None
pin_role_in (Isolate reset node one) = None
pin_role_in (Quiet reset c) = None
pin_role_in (Waive flop reason) = None

-- some line declares port c a clock
abbrev pub IsClockPort : List BoundForm → ℕ → Type 0
IsClockPort lines c = (form : BoundForm) × Contains lines form × (clock_in_line form ≡ Some c)

-- some line says what source s is, where a pin reads it
abbrev pub MayBePinned : List BoundForm → ℕ → Type 0
MayBePinned lines s = (form : BoundForm) × Contains lines form × (pin_role_in form ≡ Some s)

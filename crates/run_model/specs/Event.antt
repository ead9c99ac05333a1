-- What an event does.
--   is_clock, is_edge, is_clocked    which flops an edge clocks
--   taken, edge_value                what an edge gives a source
--   calm_value, release_value        what Calm and Release give it
--   is_input, driven                 what Drive gives it
--   moved, after                     the state without up, and the state after the event
use Rattle.std.specs.Prelude.{ℕ, Bool, true, false, not, ◌&&◌, ◌==◌, if◌then◌else◌, List, [], ◌∷◌, Option, Some, None}
use Rattle.rdc_tern.specs.declared.value.Tern.{Tern}
use Rattle.rdc_tern.specs.declared.value.Tern.TheVariants.{Unsettled}
use Rattle.rdc_tern.specs.Kleene.{join_of}
use Rattle.run_model.specs.declared.event.Event.{Event}
use Rattle.run_model.specs.declared.event.Event.TheVariants.{Rise, Fall, Strike, Calm, Release, Drive}
use Rattle.run_model.specs.State.{State, settled, with_value}
use Rattle.run_model.specs.Machine.{FlopMeaning, Meaning, APort, AFlop, Machine, Phase, Inactive, Active, Unsure, phase_of}
use Rattle.run_model.specs.Up.{up}

-- whether a flop's clock is this one
abbrev pub is_clock : Option ℕ → ℕ → Bool
is_clock None c = false
is_clock (Some k) c = k == c

-- whether a flop's edge, rising or falling, is this one
abbrev pub is_edge : Bool → Bool → Bool
is_edge true rising = rising
is_edge false rising = not rising

-- whether an edge of a clock clocks the flop
abbrev pub is_clocked : FlopMeaning → ℕ → Bool → Bool
is_clocked f c rising = is_clock f.clock c && is_edge f.rising rising

-- what a clocked flop takes, by what its pin does: its data, its old value, or X unless they agree
abbrev pub taken : Phase → Tern → Tern → Tern
taken Inactive old new = new
taken Active old new = old
taken Unsure old new = join_of old new

-- the value of a source after an edge, all flops reading the old state
abbrev pub edge_value : Meaning → ℕ → Bool → State → Tern → Tern
edge_value APort c rising s v = v
edge_value (AFlop f) c rising s v = if is_clocked f c rising then taken (phase_of f s) v (f.reads.value s) else v

-- what Calm gives a source: a reset port is asserted, a flop has its reset value
abbrev pub calm_value : Meaning → Option Bool → Tern → Tern
calm_value APort None v = v
calm_value APort (Some high) v = settled high
calm_value (AFlop f) level v = settled f.reset

-- what Release gives a source
abbrev pub release_value : Option Bool → Tern → Tern
release_value None v = v
release_value (Some high) v = settled (not high)

-- a data input is a port that is neither a reset nor a clock nor tied
abbrev pub is_input : Meaning → Option Bool → Option Bool → Bool
is_input APort None None = true
is_input APort None (Some value) = false
is_input APort (Some high) fixed = false
is_input (AFlop f) declared fixed = false

-- what a list of levels makes of a source's value: the last one that names it counts
abbrev pub driven : List (ℕ × Bool) → ℕ → Tern → Tern
driven [] n v = v
driven (x ∷ xs) n v = driven xs n (if n == x.0 then settled x.1 else v)

-- the state after what the event itself changes
abbrev pub moved : Machine → State → Event → State
moved m s (Rise c) n = edge_value (m.source n) c true s (s n)
moved m s (Fall c) n = edge_value (m.source n) c false s (s n)
moved m s (Strike r) n = with_value s r Unsettled n
moved m s (Calm k) n = with_value s k (calm_value (m.source k) (m.declared k) (s k)) n
moved m s (Release r) n = with_value s r (release_value (m.declared r) (s r)) n
moved m s (Drive levels) n = if is_input (m.source n) (m.declared n) (m.fixed n) then driven levels n (s n) else s n

-- the state after the event: a Calm changes nothing else, any other event is followed by up
abbrev pub after : Machine → State → Event → State
after m s (Rise c) = up m (moved m s (Rise c))
after m s (Fall c) = up m (moved m s (Fall c))
after m s (Strike r) = up m (moved m s (Strike r))
after m s (Calm k) = moved m s (Calm k)
after m s (Release r) = up m (moved m s (Release r))
after m s (Drive levels) = up m (moved m s (Drive levels))

-- Which flops read across resets, by structure alone.
--     is_same design roles f      the edge of a flop is the same
--     is_crossing, is_same_edge      the same of a source's kind
--     crosses design roles      some edge crosses
use Rattle.std.specs.Prelude.{Bool, true, false, not, ◌&&◌, ◌==◌, if◌then◌else◌, List}
use Rattle.std.specs.List.{list_any, list_all}
use Rattle.thin_form.specs.Formula.{sources_in}
use Rattle.thin_form.specs.Design.{Flop, Kind, Input, Register, Design, kind_at}
use Rattle.thin_cons.specs.Roles.{role_at}
use Rattle.thin_cons.specs.declared.role.Role.{Role}
use Rattle.thin_cons.specs.declared.role.Role.TheVariants.{Free, Clock, Reset}

-- a source that no reset line names
abbrev pub is_no_reset : Role → Bool
is_no_reset Free = true
is_no_reset Clock = true
is_no_reset (Reset high) = false

-- two flops have one pin: equal root and equal level
abbrev pub has_pin_of : Flop → Flop → Bool
has_pin_of f g = (f.pin == g.pin) && (if f.high then g.high else not g.high)

-- what a flop may read without a crossing: a port that is no reset, or a register with its own pin
abbrev pub reads_same : Flop → Role → Kind → Bool
reads_same f role Input = is_no_reset role
reads_same f role (Register g) = has_pin_of f g

-- the edge of a flop is the same: no reset port stands in the cone of what it takes, and each flop there has its own pin
abbrev pub is_same : Design → List Role → Flop → Bool
is_same design roles f = list_all (λ n. reads_same f (role_at roles n) (kind_at design n)) (sources_in f.next)

-- a flop whose edge is the same
abbrev pub is_same_edge : Design → List Role → Kind → Bool
is_same_edge design roles Input = false
is_same_edge design roles (Register f) = is_same design roles f

-- a flop whose edge crosses
abbrev pub is_crossing : Design → List Role → Kind → Bool
is_crossing design roles Input = false
is_crossing design roles (Register f) = not (is_same design roles f)

-- some edge crosses
abbrev pub crosses : Design → List Role → Bool
crosses design roles = list_any (λ s. is_crossing design roles s.kind) design.sources

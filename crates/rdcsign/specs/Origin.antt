-- What the sources in a cone have in common.
--     origin_of_source, met      the origin of one source, and of two cones together
--     origin_of design roles f      the origin of what a formula reads
--     allows f origin      a flop with that cone is the same
use Rattle.std.specs.Prelude.{Bool, true, false, not, ◌&&◌, ◌==◌, if◌then◌else◌, List}
use Rattle.thin_form.specs.Formula.{Formula, Source, Not, And, Or}
use Rattle.thin_form.specs.Design.{Flop, Kind, Input, Register, Design, kind_at}
use Rattle.thin_cons.specs.Roles.{role_at}
use Rattle.thin_cons.specs.declared.role.Role.{Role}
use Rattle.rdcsign.specs.Verdict.{is_no_reset}
use Rattle.rdcsign.specs.declared.origin.Origin.{Origin}
use Rattle.rdcsign.specs.declared.origin.Origin.TheVariants.{Ports, Flops, Mixed}

-- a port that is no reset, flops of the register's pin, or a reset
abbrev pub origin_of_source : Role → Kind → Origin
origin_of_source role Input = if is_no_reset role then Ports else Mixed
origin_of_source role (Register g) = Flops g.pin g.high

-- the origin of two cones together
abbrev pub met : Origin → Origin → Origin
met Ports b = b
met (Flops pin high) Ports = Flops pin high
met (Flops pin high) (Flops pin' high') = if (pin == pin') && (if high then high' else not high') then Flops pin high else Mixed
met (Flops pin high) Mixed = Mixed
met Mixed b = Mixed

-- the origin of what a formula reads
abbrev pub origin_of : Design → List Role → Formula → Origin
origin_of design roles (Source n) = origin_of_source (role_at roles n) (kind_at design n)
origin_of design roles (Not a) = origin_of design roles a
origin_of design roles (And a b) = met (origin_of design roles a) (origin_of design roles b)
origin_of design roles (Or a b) = met (origin_of design roles a) (origin_of design roles b)

-- a flop that reads this crosses from no other reset
abbrev pub allows : Flop → Origin → Bool
allows f Ports = true
allows f (Flops pin high) = (f.pin == pin) && (if f.high then high else not high)
allows f Mixed = false

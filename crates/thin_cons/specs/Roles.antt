-- What the lines of a file make of the sources of a design. The role of a source stands at its number.
--     port_of d, role_of d      the port that a declaration names, and what it makes of it
--     role_in ds name           what the declarations make of a name
--     role_at roles n           the role of source n
--     IsInput design name       the name is an input port's
--     AreOnce ds                no port is declared twice
--     AreRoles design ds roles  the declarations are of input ports, each once, and give the sources these roles
--     reads_clock roles f       a clock stands in a formula
--     IsMet roles f             the flop's clock, pin and formula have the roles that they need
--     IsMetAt design roles n    source n is no flop, or is met
--     AreMet design roles       each flop and each wire is met
--     Declares design bytes roles      the bytes give the sources of the design these roles
use Rattle.std.specs.Prelude.{◌≡◌, ◌≢◌, ℕ, ◌<◌, Bool, true, false, if◌then◌else◌, List, [], ◌∷◌, map, length, slice_index_or, bytes_eq}
use Rattle.std.specs.List.{AllByRecursion, list_any}
use Rattle.thin_form.specs.Formula.{Formula, sources_in}
use Rattle.thin_form.specs.Design.{Flop, Input, Register, Design, name_at, kind_at}
use Rattle.thin_cons.specs.Forms.{Declaration, Clock, Reset, IsFile}
use Rattle.thin_cons.specs.declared.role.Role.{Role}
use Rattle.thin_cons.specs.declared.role.Role.TheVariants as roles

-- the port that a declaration names
abbrev pub port_of : Declaration → List ℕ
port_of (Clock port) = port
port_of (Reset port high) = port

-- what a declaration makes of its port
abbrev pub role_of : Declaration → Role
role_of (Clock port) = roles.Clock
role_of (Reset port high) = roles.Reset high

-- what the declarations make of a name: free where none names it
abbrev pub role_in : List Declaration → List ℕ → Role
role_in [] name = roles.Free
role_in (d ∷ declarations) name = if bytes_eq (port_of d) name then role_of d else role_in declarations name

-- the role of source n
abbrev pub role_at : List Role → ℕ → Role
role_at list n = slice_index_or list n roles.Free

-- some input port of the design has the name
abbrev pub IsInput : Design → List ℕ → Type 0
IsInput design name = (n : ℕ) × (n < length design.sources) × (name_at design n ≡ name) × (kind_at design n ≡ Input)

-- no port is declared twice
abbrev pub AreOnce : List Declaration → Type 0
AreOnce [] = Unit {0}
AreOnce (d ∷ declarations) = AllByRecursion (λ other. port_of other ≢ port_of d) declarations × AreOnce declarations

-- the declarations are of input ports, each declared once, and the roles of the sources are theirs
pub record AreRoles (design : Design) (declarations : List Declaration) (list : List Role) : Type 0 where
  pub inputs : AllByRecursion (λ d. IsInput design (port_of d)) declarations
  pub once : AreOnce declarations
  pub roles : list ≡ map (λ s. role_in declarations s.name) design.sources

-- the role is a clock's
abbrev pub is_clock : Role → Bool
is_clock roles.Free = false
is_clock roles.Clock = true
is_clock (roles.Reset high) = false

-- a clock stands in the formula
abbrev pub reads_clock : List Role → Formula → Bool
reads_clock list f = list_any (λ n. is_clock (role_at list n)) (sources_in f)

-- the flop's clock is a clock, its pin a reset of its level, and no clock stands in what it takes
pub record IsMet (list : List Role) (f : Flop) : Type 0 where
  pub clock : role_at list f.clock ≡ roles.Clock
  pub pin : role_at list f.pin ≡ roles.Reset f.high
  pub next : reads_clock list f.next ≡ false

-- source n is met, where it is a flop
abbrev pub IsMetAt : Design → List Role → ℕ → Type 0
IsMetAt design list n = (f : Flop) → kind_at design n ≡ Register f → IsMet list f

-- each flop of the design is met
abbrev pub AreFlopsMet : Design → List Role → Type 0
AreFlopsMet design list = (n : ℕ) → n < length design.sources → IsMetAt design list n

-- no clock stands in a wire's formula
abbrev pub AreWiresMet : Design → List Role → Type 0
AreWiresMet design list = AllByRecursion (λ w. reads_clock list w.value ≡ false) design.wires

-- no clock is read or tested, and each flop's clock and pin have their roles
pub record AreMet (design : Design) (list : List Role) : Type 0 where
  pub flops : AreFlopsMet design list
  pub wires : AreWiresMet design list

-- the bytes are a file of declarations that give the sources of the design these roles and meet its flops and wires
pub record Declares (design : Design) (bytes : List ℕ) (list : List Role) : Type 0 where
  pub declarations : List Declaration
  pub file : IsFile bytes declarations
  pub roles : AreRoles design declarations list
  pub met : AreMet design list

-- What a design of this form does: its machine, in the words of the event model. A source's number is its place in name order.
--     copy_of n, pin_of n high      the net that is source n, and the pin that it is
--     flop_meaning, meaning_of      what a source is
--     level_of, clock_value      what its role makes of it
--     flops_from      the flops, in pin order
--     machine_of design roles      the machine
use Rattle.std.specs.Prelude.{ℕ, ◌+◌, ◌==◌, Bool, true, false, List, [], ◌∷◌, length, Option, Some, None}
use Rattle.thin_form.specs.Design.{Flop, Kind, Input, Register, Source, Design, kind_at}
use Rattle.thin_cons.specs.Roles.{role_at}
use Rattle.thin_cons.specs.declared.role.Role.{Role}
use Rattle.thin_cons.specs.declared.role.Role.TheVariants.{Free, Clock, Reset}
use Rattle.run_model.specs.Machine.{Logic, Pin, FlopMeaning, Meaning, APort, AFlop, Machine}
use Rattle.rdcsign.specs.FormulaValue.{logic_of}

-- a net that is one source
abbrev pub copy_of : ℕ → Logic
copy_of n = record { value = λ state. state n; cone = λ k. k == n }

-- a pin that is one source
abbrev pub pin_of : ℕ → Bool → Pin
pin_of n high = record { logic = copy_of n; high = high; root = n; copied = Some n }

-- a flop takes what its formula computes at the rising edge of its clock, and is reset by its pin
abbrev pub flop_meaning : Flop → FlopMeaning
flop_meaning f = record { clock = Some f.clock; rising = true; reads = logic_of f.next; pin = Some (pin_of f.pin f.high); reset = f.reset }

-- what a source is: a port, or a flop
abbrev pub meaning_of : Kind → Meaning
meaning_of Input = APort
meaning_of (Register f) = AFlop (flop_meaning f)

-- the active level of a declared reset
abbrev pub level_of : Role → Option Bool
level_of Free = None
level_of Clock = None
level_of (Reset high) = Some high

-- a clock has the value 0 in every state
abbrev pub clock_value : Role → Option Bool
clock_value Free = None
clock_value Clock = Some false
clock_value (Reset high) = None

-- a register's number, and not an input's
abbrev pub put_flop : Kind → ℕ → List ℕ → List ℕ
put_flop Input n ns = ns
put_flop (Register f) n ns = n ∷ ns

-- the numbers of the flops, where the first source has number n
abbrev pub flops_from : ℕ → List Source → List ℕ
flops_from n [] = []
flops_from n (s ∷ ss) = put_flop s.kind n (flops_from (n + 1) ss)

-- the machine of a design under the roles of its sources; no pin reads a flop, so name order is a pin order
abbrev pub machine_of : Design → List Role → Machine
machine_of design roles = record {
  count = length design.sources;
  source = λ n. meaning_of (kind_at design n);
  declared = λ n. level_of (role_at roles n);
  fixed = λ n. clock_value (role_at roles n);
  order = flops_from 0 design.sources;
}

-- Named bits and sources, put together from what is declared.
--     wires_of ds, registers_of ds     how many are wires, and registers
--     bits_of ws ds                    the bits, where these are the nodes of the wires
--     entries_of fs ks ds              the sources, where these are the flops and the nodes that they read
use Rattle.std.specs.Prelude.{ℕ, ◌+◌, true, false, List, [], ◌∷◌, slice_index_or, slice_index}
use Rattle.thin_tree.specs.Tree.{Declared}
use Rattle.thin_tree.specs.declared.tree.Class.{Class}
use Rattle.thin_tree.specs.declared.tree.Class.TheVariants as class
use Rattle.thin_form.specs.Netlist.{Entry, NetBit}
use Rattle.thin_form.specs.declared.kind.Flop.{Flop}
use Rattle.thin_form.specs.declared.kind.Kind.TheVariants.{Input, Register}

-- one where the class is that of wires
abbrev pub one_wire : Class → ℕ
one_wire class.Input = 0
one_wire class.Net = 1
one_wire class.Register = 0

-- one where the class is that of registers
abbrev pub one_register : Class → ℕ
one_register class.Input = 0
one_register class.Net = 0
one_register class.Register = 1

-- how many are wires
abbrev pub wires_of : List Declared → ℕ
wires_of [] = 0
wires_of (d ∷ ds) = one_wire d.class + wires_of ds

-- how many are registers
abbrev pub registers_of : List Declared → ℕ
registers_of [] = 0
registers_of (d ∷ ds) = one_register d.class + registers_of ds

-- the bits, by the number of the next source and of the next wire
abbrev pub bits_from : ℕ → ℕ → List ℕ → List Declared → List NetBit
bits_from n w ws [] = []
bits_from n w ws (d ∷ ds) = elim d.class [
  | class.Input ↦ record { name = d.name; node = n; wire = false } ∷ bits_from (n + 1) w ws ds
  | class.Net ↦ record { name = d.name; node = slice_index ws w; wire = true } ∷ bits_from n (w + 1) ws ds
  | class.Register ↦ record { name = d.name; node = n; wire = false } ∷ bits_from (n + 1) w ws ds
]

-- the bits, where these are the nodes of the wires
abbrev pub bits_of : List ℕ → List Declared → List NetBit
bits_of ws ds = bits_from 0 0 ws ds

-- a flop with the node that it reads
abbrev pub with_data : Flop → ℕ → Flop
with_data f k = record f { «data» = k }

-- no flop
abbrev pub no_flop : Flop
no_flop = record { clock = 0; pin = 0; high = false; reset = false; «data» = 0 }

-- the sources, by the number of the next bit and of the next register
abbrev pub entries_from : ℕ → ℕ → List Flop → List ℕ → List Declared → List Entry
entries_from b r fs ks [] = []
entries_from b r fs ks (d ∷ ds) = elim d.class [
  | class.Input ↦ record { name = d.name; kind = Input; bit = b } ∷ entries_from (b + 1) r fs ks ds
  | class.Net ↦ entries_from (b + 1) r fs ks ds
  | class.Register ↦ record { name = d.name; kind = Register (with_data (slice_index_or fs r no_flop) (slice_index ks r)); bit = b } ∷ entries_from (b + 1) (r + 1) fs ks ds
]

-- the sources, where these are the flops and the nodes that they read
abbrev pub entries_of : List Flop → List ℕ → List Declared → List Entry
entries_of fs ks ds = entries_from 0 0 fs ks ds

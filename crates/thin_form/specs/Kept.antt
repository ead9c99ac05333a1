-- Sources and bits as code keeps them, without where their names lie in memory.
use Rattle.std.specs.Prelude.{List, map}
use Rattle.thin_form.specs.Netlist as nets
use Rattle.thin_form.specs.declared.kind.Node.{Node}
use Rattle.thin_form.specs.declared.kind.Bit.{Bit}
use Rattle.thin_form.specs.declared.entry.Entry.{Entry}

-- a source, without where its name lies in memory
abbrev pub an_entry : Entry → nets.Entry
an_entry s = record { name = s.name.now; kind = s.kind; bit = s.bit }

-- sources, each so
abbrev pub entries : List Entry → List nets.Entry
entries ss = map an_entry ss

-- a bit, without where its name lies in memory
abbrev pub a_bit : Bit → nets.NetBit
a_bit b = record { name = b.name.now; node = b.node; wire = b.wire }

-- bits, each so
abbrev pub all_bits : List Bit → List nets.NetBit
all_bits bs = map a_bit bs

-- a netlist of these parts
abbrev pub kept : List Entry → List Bit → List Node → nets.Netlist
kept ss bs nodes = record { sources = entries ss; bits = all_bits bs; nodes = nodes }

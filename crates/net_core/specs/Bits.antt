-- A bit as an entry of a table.
use Rattle.std.specs.Prelude.{String, string_bytes}
use Rattle.net_view.specs.FlopNet.{Bit}
use Rattle.net_core.specs.declared.bit_table.Place.{Place}

-- the bit of a name that stands at a place
abbrev pub bit_of : {Z : Type 0} → String Z × Place → Bit
bit_of e = record { name = string_bytes e.0; node = e.1.node; root = e.1.root }

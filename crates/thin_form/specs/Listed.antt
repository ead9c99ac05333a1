-- Lists of names as code keeps them, without where the names lie in memory.
use Rattle.thin_tree.specs.Written.{texts}
use Rattle.thin_form.specs.Numbers.{Lists}
use Rattle.thin_form.specs.declared.names.Names.{Names}

-- the lists, without where the names lie in memory
abbrev pub lists : Names → Lists
lists n = record { inputs = texts n.inputs.now; sources = texts n.sources.now; wires = texts n.wires.now; clocks = n.clocks.now }

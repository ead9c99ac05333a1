-- What is made, and behind it what is left, is all.
use Rattle.std.proofs.Common.{◌≡◌, ◌++◌, drop, map}
use Rattle.elab_decls.specs.Tables.{table_of}
use Rattle.elab_binds.specs.Bindings.{pin_of}
use Rattle.elab_binds.proofs.pins.pins_of_module.Given as goal

abbrev pub invariant-loop-port : goal.invariant-loop-port
invariant-loop-port l = l.pins.items ++ map (pin_of (table_of l.entries).at) (drop l.port-index l.ports) ≡ map (pin_of (table_of l.entries).at) l.ports

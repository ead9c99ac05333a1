-- What is left decides.
use Rattle.std.proofs.Common.{◌≡◌, None, drop}
use Rattle.std.specs.List.{flat_map}
use Rattle.std.specs.Option.{option_copied}
use Rattle.elab_decls.specs.Mentions.{said_of_port, spread}
use Rattle.elab_decls.specs.Tables.{entries, table_of}
use Rattle.elab_decls.proofs.reader.enter_ports.Given as goal

abbrev pub invariant-loop-port : goal.invariant-loop-port
invariant-loop-port l =
    entries (table_of l.table) (flat_map said_of_port (spread (option_copied l.last) (drop l.port-index l.ports))) ≡ entries (table_of l.fn.table) (flat_map said_of_port (spread None l.ports))

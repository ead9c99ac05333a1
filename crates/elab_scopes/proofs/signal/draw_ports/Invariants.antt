-- What is left decides.
use Rattle.std.proofs.Common.{◌≡◌, None, drop}
use Rattle.std.specs.Option.{option_copied}
use Rattle.elab_decls.specs.Mentions.{spread}
use Rattle.elab_decls.specs.Tables.{table_of}
use Rattle.elab_scopes.specs.Tables.{drawn_of}
use Rattle.elab_scopes.specs.Threads.{threaded}
use Rattle.elab_scopes.specs.Signals.{signals_of_port}
use Rattle.elab_scopes.proofs.signal.draw_ports.Given as goal

abbrev pub invariant-loop-port : goal.invariant-loop-port
invariant-loop-port l =
    threaded (signals_of_port l.manner.prefix.now (table_of l.manner.entries.now).at) (drawn_of l.d) (spread (option_copied l.last) (drop l.port-index l.ports))
    ≡ threaded (signals_of_port l.manner.prefix.now (table_of l.manner.entries.now).at) (drawn_of l.fn.d) (spread None l.ports)

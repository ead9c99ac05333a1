use Rattle.std.proofs.Common.{◌≡◌, arith}
use Rattle.std.specs.Option.{option_copied}
use Rattle.elab_decls.specs.Tables.{table_of}
use Rattle.elab_scopes.specs.Tables.{drawn_of}
use Rattle.elab_scopes.specs.Signals.{signals_of_port}
use Rattle.elab_scopes.proofs.ThreadLemmas.{port_more, port_stops, ports_done}
use Rattle.elab_scopes.proofs.signal.draw_ports.Goals as goal

pub loop-port-preserved : goal.loop-port-preserved
loop-port-preserved c =
    port_more (signals_of_port c.args.manner.now.prefix.now (table_of c.args.manner.now.entries.now).at) (option_copied c.loop-port.last) (option_copied c.last_after-last.result) (drawn_of c.loop-port.d) (drawn_of c.draw_port.new.d) (drawn_of c.args.d.now) c.args.ports.now c.loop-port.port-index c.port-item.result (omega arith) c.port-item.is c.last_after-last.ensures c.loop-port.invariant c.in-Ok.ensures

pub returns-in-Err : goal.returns-in-Err
returns-in-Err c =
    port_stops (signals_of_port c.args.manner.now.prefix.now (table_of c.args.manner.now.entries.now).at) (option_copied c.loop-port.last) (drawn_of c.loop-port.d) (drawn_of c.args.d.now) c.in-Err.fault c.args.ports.now c.loop-port.port-index c.port-item.result (omega arith) c.port-item.is c.loop-port.invariant c.in-Err.ensures

pub returns : goal.returns
returns c = ports_done (signals_of_port c.args.manner.now.prefix.now (table_of c.args.manner.now.entries.now).at) (option_copied c.loop-port.last) (drawn_of c.loop-port.d) (drawn_of c.args.d.now) c.args.ports.now c.loop-port.port-index (omega arith) c.loop-port.invariant

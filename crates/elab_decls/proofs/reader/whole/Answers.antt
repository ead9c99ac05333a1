use Rattle.std.proofs.Common.{arith}
use Rattle.std.specs.Option.{option_copied}
use Rattle.elab_decls.specs.Tables.{table_of}
use Rattle.elab_decls.proofs.ListLemmas.{port_more, port_stops, ports_ended}
use Rattle.elab_decls.proofs.reader.whole.Goals as goal

pub loop-port-preserved : goal.loop-port-preserved
loop-port-preserved c =
    port_more (option_copied c.loop-port.last) (option_copied c.last_after-last.result) (table_of c.args.table.now) c.args.ports.now c.loop-port.port-index c.port-item.result (omega arith) c.port-item.is c.last_after-last.ensures c.loop-port.invariant c.in-Ok.ensures

pub returns-in-Err : goal.returns-in-Err
returns-in-Err c =
    port_stops (option_copied c.loop-port.last) (table_of c.args.table.now) c.in-Err.fault c.args.ports.now c.loop-port.port-index c.port-item.result (omega arith) c.port-item.is c.loop-port.invariant c.in-Err.ensures

pub returns : goal.returns
returns c = ports_ended (option_copied c.loop-port.last) (table_of c.args.table.now) c.args.ports.now c.loop-port.port-index (omega arith) c.loop-port.invariant

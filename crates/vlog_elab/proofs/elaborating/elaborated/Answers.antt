use Rattle.elab_items.specs.Tables.{lib_of}
use Rattle.elab_tree.specs.Tables.{lent, state_of}
use Rattle.vlog_elab.proofs.AnswerLemmas.{top_fault, ports_fault, hierarchy_fault, last_answer}
use Rattle.vlog_elab.proofs.elaborating.elaborated.Goals as goal

pub returns-in-Err : goal.returns-in-Err
returns-in-Err c = top_fault (lib_of c.args.library.now) c.args.name.now c.in-Err.fault c.in-Err.ensures

pub returns-in-Err-top_ports : goal.returns-in-Err-top_ports
returns-in-Err-top_ports c = ports_fault (lib_of c.args.library.now) c.args.name.now (lent c.in-Ok.top) c.in-Err-top_ports.fault c.in-Ok.ensures c.in-Err-top_ports.ensures

pub returns-in-Err-grown_from : goal.returns-in-Err-grown_from
returns-in-Err-grown_from c = hierarchy_fault (lib_of c.args.library.now) c.args.name.now (lent c.in-Ok.top) c.in-Ok-top_ports.ports.items c.in-Err-grown_from.fault c.in-Ok.ensures c.in-Ok-top_ports.ensures c.in-Err-grown_from.ensures

pub returns : goal.returns
returns c = last_answer (lib_of c.args.library.now) c.args.name.now (lent c.in-Ok.top) c.in-Ok-top_ports.ports.items (state_of c.in-Ok-grown_from.g) (state_of c.ordered-signals.new.g) c.ordered-signals.result.items c.finished.result
    c.in-Ok.ensures c.in-Ok-top_ports.ensures c.in-Ok-grown_from.ensures c.ordered-signals.ensures.order (c.ordered-signals.ensures.rest c.ordered-signals.result.items c.in-Ok-top_ports.ports.items) c.ordered-signals.ensures.size c.finished.ensures

-- A load that fails is listed, unless it wanted memory.
use Rattle.vlog_pre.specs.Turns.{IsFaultOf}
use Rattle.vlog_pre.proofs.TurnLemmas.{listed_fault}
use Rattle.vlog_pre.proofs.loading.load.Goals as goal

pub returns-in-Err-clause-listed : goal.returns-in-Err-clause-listed
returns-in-Err-clause-listed g c =
    let is : IsFaultOf c.as_str.result.now c.in-Err.fault c.fault_of.result = rw (c.as_str.ensures.value, ← c.as_str-in-Err.ensures.value) c.fault_of.ensures in
    rw (c.in-Err.ensures.listed, ← c.as_str.ensures.value) (listed_fault (g.S.Shelf.calls c.args.shelf.now) c.as_str.result.now c.in-Err.fault c.fault_of.result is)

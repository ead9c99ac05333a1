-- Each way in which a turn ends.
use Rattle.std.proofs.Common.{map}
use Rattle.std.specs.String.{string_bytes}
use Rattle.vlog_pre.specs.Known.{state_of}
use Rattle.vlog_pre.proofs.TurnLemmas.{turn_refused, turn_goes_on, turn_loads, turn_fails}
use Rattle.vlog_pre.proofs.expansion.turn.Goals as goal

pub returns-in-Err-clause-value : goal.returns-in-Err-clause-value
returns-in-Err-clause-value g c =
    turn_refused (g.S.Shelf.files c.args.shelf.now) (g.S.Shelf.calls c.args.shelf.now) (state_of c.args.known.now) (state_of c.step.new.known) (map string_bytes c.args.files.now) c.args.reader.now.items c.step.new.reader.items c.in-Err.fault c.in-Err.ensures.step c.requires.named

pub returns-in-Ok-GoesOn-clause-value : goal.returns-in-Ok-GoesOn-clause-value
returns-in-Ok-GoesOn-clause-value g c =
    let did = rw c.in-Ok-GoesOn.field-0-is at c.in-Ok-GoesOn.ensures in
    turn_goes_on (g.S.Shelf.files c.args.shelf.now) (g.S.Shelf.calls c.args.shelf.now) (state_of c.args.known.now) (state_of c.step.new.known) (map string_bytes c.args.files.now) c.args.reader.now.items c.step.new.reader.items did.step did.nearer.files

pub returns-in-Ok-clause-value : goal.returns-in-Ok-clause-value
returns-in-Ok-clause-value g c =
    let did = rw c.in-Ok-Loads.field-0-is at c.in-Ok-Loads.ensures in
    turn_loads (g.S.Shelf.files c.args.shelf.now) (g.S.Shelf.calls c.args.shelf.now) (g.S.Shelf.calls c.load.new.shelf) (state_of c.args.known.now) (state_of c.step.new.known) (state_of c.load.new.known) (map string_bytes c.load.new.files) c.args.reader.now.items c.step.new.reader.items c.load.new.reader.items (string_bytes c.in-Ok-Loads.name) c.step.new.reader.names did.step did.nearer.files c.in-Ok.ensures.value c.in-Ok.ensures.listed

pub returns-in-Err-load-clause-value : goal.returns-in-Err-load-clause-value
returns-in-Err-load-clause-value g c =
    let did = rw c.in-Ok-Loads.field-0-is at c.in-Ok-Loads.ensures in
    turn_fails (g.S.Shelf.files c.args.shelf.now) (g.S.Shelf.calls c.args.shelf.now) (g.S.Shelf.calls c.load.new.shelf) (state_of c.args.known.now) (state_of c.step.new.known) (state_of c.load.new.known) (map string_bytes c.load.new.files) c.args.reader.now.items c.step.new.reader.items c.load.new.reader.items (string_bytes c.in-Ok-Loads.name) c.step.new.reader.names c.in-Err-load.fault did.step c.in-Err-load.ensures.value c.in-Err-load.ensures.listed

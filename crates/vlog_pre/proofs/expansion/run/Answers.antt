-- The turns so far, a copy, and one turn more.
use Rattle.std.proofs.Common.{arith, Ok, refl, ◌∙◌, map}
use Rattle.std.specs.String.{string_bytes}
use Rattle.vlog_pre.specs.Known.{state_of}
use Rattle.vlog_pre.specs.Turns.{IsTurn}
use Rattle.vlog_pre.proofs.CopyLemmas.{copy_turn}
use Rattle.vlog_pre.proofs.ReachLemmas.{turn_more, turn_stops, turn_want}
use Rattle.vlog_pre.proofs.expansion.run.Goals as goal

pub turns-preserved : goal.turns-preserved
turns-preserved g c =
    let told = g.S.Shelf.files c.args.shelf.now in
    let calls = g.S.Shelf.calls c.args.shelf.now in
    let between = g.S.Shelf.calls c.turns.shelf in
    let names = map string_bytes c.turns.files in
    let copied : IsTurn told calls (state_of c.args.known.now) c.args.reader.now.items (Ok tt) (state_of c.copy.new.known) names c.copy.new.reader.items between =
    turn_more told calls between between (state_of c.args.known.now) (state_of c.turns.known) (state_of c.copy.new.known) names names c.args.reader.now.items c.turns.reader.items c.copy.new.reader.items c.turns.invariant.reached (copy_turn told between (state_of c.turns.known) (state_of c.copy.new.known) names c.turns.reader.items c.copy.new.reader.items c.in-Ok.ensures.copied) in
    record {
      reached = turn_more told calls between (g.S.Shelf.calls c.turn.new.shelf) (state_of c.args.known.now) (state_of c.copy.new.known) (state_of c.turn.new.known) names (map string_bytes c.turn.new.files) c.args.reader.now.items c.copy.new.reader.items c.turn.new.reader.items copied (rw (← c.turns.invariant.same) c.in-Ok-turn.ensures.value);
      same = c.turn.ensures.same ∙ c.turns.invariant.same;
      faults = omega (arith, c.turn.ensures.faults, c.turns.invariant.faults);
      absences = omega (arith, c.turn.ensures.absences, c.turns.invariant.absences);
      excesses = omega (arith, c.turn.ensures.excesses, c.turns.invariant.excesses);
      bounded = c.in-Ok-turn.ensures.bounded;
      even = omega (arith, c.in-Ok-turn.ensures.even, c.in-Ok.ensures.copied.even, c.turns.invariant.even);
      few = c.in-Ok-turn.ensures.few;
      named = c.in-Ok-turn.ensures.named;
      small = c.in-Ok-turn.ensures.small;
    }

pub returns-in-Err-clause-value : goal.returns-in-Err-clause-value
returns-in-Err-clause-value g c =
    let told = g.S.Shelf.files c.args.shelf.now in
    let calls = g.S.Shelf.calls c.args.shelf.now in
    let between = g.S.Shelf.calls c.turns.shelf in
    let names = map string_bytes c.turns.files in
    let copied : IsTurn told calls (state_of c.args.known.now) c.args.reader.now.items (Ok tt) (state_of c.copy.new.known) names c.copy.new.reader.items between =
    turn_more told calls between between (state_of c.args.known.now) (state_of c.turns.known) (state_of c.copy.new.known) names names c.args.reader.now.items c.turns.reader.items c.copy.new.reader.items c.turns.invariant.reached (copy_turn told between (state_of c.turns.known) (state_of c.copy.new.known) names c.turns.reader.items c.copy.new.reader.items c.in-Ok.ensures.copied) in
    turn_stops told calls between (g.S.Shelf.calls c.turn.new.shelf) (state_of c.args.known.now) (state_of c.copy.new.known) (state_of c.turn.new.known) names (map string_bytes c.turn.new.files) c.args.reader.now.items c.copy.new.reader.items c.turn.new.reader.items c.in-Err.fault copied (rw (← c.turns.invariant.same) c.in-Err.ensures.value)

pub returns-in_default-clause-value : goal.returns-in_default-clause-value
returns-in_default-clause-value g c =
    turn_want (g.S.Shelf.files c.args.shelf.now) (g.S.Shelf.calls c.args.shelf.now) (g.S.Shelf.calls c.turns.shelf) (state_of c.args.known.now) (state_of c.turns.known) (state_of c.copy.new.known) (map string_bytes c.turns.files) (map string_bytes c.turns.files) c.args.reader.now.items c.turns.reader.items c.copy.new.reader.items _ refl c.turns.invariant.reached

-- From the first turn to the answer.
use Rattle.std.proofs.Common.{map}
use Rattle.std.specs.String.{string_bytes}
use Rattle.vlog_pre.specs.Known.{state_of}
use Rattle.vlog_pre.proofs.ReachLemmas.{answer_end, answer_refusal, answer_none}
use Rattle.vlog_pre.proofs.expansion.expand.Goals as goal

pub returns-clause-value : goal.returns-clause-value
returns-clause-value g c =
    answer_end (g.S.Shelf.files c.args.shelf.now) (map string_bytes c.args.names.now) (g.S.Shelf.calls c.args.shelf.now) (g.S.Shelf.calls c.run.new.shelf) (state_of c.first_known-known.result) (state_of c.run.new.known) (map string_bytes c.run.new.files) c.in-Ok.reader.items c.run.new.reader.items c.text_of.result c.first_known-known.ensures c.in-Ok.ensures.items c.in-Ok-run.ensures.whole c.text_of.ensures.value c.in-Ok-run.ensures.value

pub returns-in-Err-clause-value : goal.returns-in-Err-clause-value
returns-in-Err-clause-value g c =
    answer_refusal (g.S.Shelf.files c.args.shelf.now) (map string_bytes c.args.names.now) (g.S.Shelf.calls c.args.shelf.now) (g.S.Shelf.calls c.run.new.shelf) (state_of c.first_known-known.result) (state_of c.run.new.known) c.in-Ok.reader.items c.run.new.reader.items _ c.first_known-known.ensures c.in-Ok.ensures.items c.in-Err.ensures.value

pub returns-in_default-clause-value : goal.returns-in_default-clause-value
returns-in_default-clause-value g c =
    answer_none (g.S.Shelf.files c.args.shelf.now) (map string_bytes c.args.names.now) (g.S.Shelf.calls c.args.shelf.now) c.wanting.result c.wanting.ensures

-- Nothing is open yet, and the names are those given.
use Rattle.std.proofs.Common.{refl}
use Rattle.vlog_items.proofs.StackLemmas.{named_given}
use Rattle.vlog_items.proofs.reading.Reader.new.Goals as goal

pub returns-clause-items : goal.returns-clause-items
returns-clause-items c = rw (c.empty_frame.ensures.done, c.new.ensures.items, named_given c.in_ok-names_to_come.field-0.items, c.in_ok-names_to_come.ensures) refl

-- In an open frame no name that is to come stands first.
use Rattle.std.proofs.Common.{map}
use Rattle.vlog_items.specs.Stack.{named}
use Rattle.vlog_items.proofs.StackLemmas.{open_ahead}
use Rattle.vlog_items.proofs.reading.Reader.take_name.Goals as goal

pub returns-then-not-self-clause-none : goal.returns-then-not-self-clause-none
returns-then-not-self-clause-none c = rw (← c.self.view_is) (open_ahead c.self.inside.top c.self.inside.below.items (map named c.self.inside.coming.items) c.if-not-self.true)

-- A replacement goes on by one byte.
use Rattle.std.proofs.Common.{arith}
use Rattle.vlog_items.proofs.StackLemmas.{use_steps, use_ends}
use Rattle.vlog_items.proofs.frames.Frame.step_in_use.Goals as goal

pub returns-then-self-len-clause-items : goal.returns-then-self-len-clause-items
returns-then-self-len-clause-items c = λ within items. rw (c.requires.open, c.requires.origin) (use_ends within c.args.self.now.place c.args.self.now.bytes.items c.args.self.now.at items (omega (arith, c.if-self-len.true, c.len.ensures)))

pub returns-else-self-len-clause-items : goal.returns-else-self-len-clause-items
returns-else-self-len-clause-items c = λ within items. rw (c.requires.open, c.requires.origin) (use_steps within _ _ _ items (c.args.self.now.open c.requires.origin c.requires.open))

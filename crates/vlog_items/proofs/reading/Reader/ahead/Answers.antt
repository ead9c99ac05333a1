-- Where nothing is open, a name that is to come stands first.
use Rattle.std.proofs.Common.{arith, sym, false-eqb, ◌<◌, length}
use Rattle.vlog_items.proofs.StackLemmas.{ahead_coming}
use Rattle.vlog_items.proofs.reading.Reader.ahead.Goals as goal

pub returns-else-is_empty : goal.returns-else-is_empty
returns-else-is_empty c =
    let some : 0 < length c.self.inside.coming.items = omega (arith, false-eqb _ 0 c.if-is_empty.ensures) in
    rw (← c.self.view_is) (sym (ahead_coming c.self.inside.top c.self.inside.below.items c.self.inside.coming.items c.if-not-self.false (c.self.invariant c.if-not-self.false) some))

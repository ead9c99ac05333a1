-- There is an entry for each span.
use Rattle.std.proofs.Common.{rules}
use Rattle.rdc_outside.proofs.PileLemmas.{length-entries_of}
use Rattle.rdc_outside.proofs.pile.Pile.len.Goals as goal

pub returns : goal.returns
returns c = let each = length-entries_of c.self.inside.spans.items c.self.inside.text.items in rw (← c.self.view_is, each) (search rules)

use Rattle.std.proofs.Common.{◌∙◌}
use Rattle.elab_items.proofs.AroundLemmas.{entry-here, entry-outside, entry-nowhere}
use Rattle.elab_items.proofs.scopes.+entry_in.Goals as goal

pub returns-in-empty : goal.returns-in-empty
returns-in-empty t c = entry-nowhere c.args.around.now c.args.name.now c.in-empty.len_below

pub returns-in-Some : goal.returns-in-Some
returns-in-Some t c = entry-here c.args.around.now c.last-item.result c.args.name.now c.in-Some.entry.now c.in-len1-up.len_at_least c.last-item.is c.in-Some.ensures

pub returns-in-None : goal.returns-in-None
returns-in-None t c = c.entry_in.ensures ∙ entry-outside c.args.around.now c.last-item.result c.args.name.now c.in-len1-up.len_at_least c.last-item.is c.in-None.ensures

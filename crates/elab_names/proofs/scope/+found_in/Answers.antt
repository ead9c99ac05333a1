use Rattle.std.proofs.Common.{◌∙◌}
use Rattle.elab_names.proofs.NameLemmas.{found-here, found-outside, found-nowhere}
use Rattle.elab_names.proofs.scope.+found_in.Goals as goal

pub returns-in-empty : goal.returns-in-empty
returns-in-empty t c = found-nowhere c.args.frames.now c.args.name.now c.in-empty.len_below

pub returns-in-Some : goal.returns-in-Some
returns-in-Some t c = found-here c.args.frames.now c.last-item.result c.args.name.now c.in-Some.meaning.now c.in-len1-up.len_at_least c.last-item.is c.in-Some.ensures

pub returns-in-None : goal.returns-in-None
returns-in-None t c = c.found_in.ensures ∙ found-outside c.args.frames.now c.last-item.result c.args.name.now c.in-len1-up.len_at_least c.last-item.is c.in-None.ensures

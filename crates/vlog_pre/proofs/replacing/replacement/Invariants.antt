-- What was put out, and what is left of the text, give the replacement.
use Rattle.std.proofs.Common.{◌≡◌, ◌++◌, [], length, false}
use Rattle.vlog_items.specs.declared.modes.Mode.TheVariants.{Plain}
use Rattle.vlog_pre.specs.Uses.{replaced_from}
use Rattle.vlog_pre.proofs.replacing.replacement.Given as goal

abbrev pub invariant-bytes : goal.invariant-bytes
invariant-bytes l =
    l.out.items ++ replaced_from l.parameters l.arguments l.mode l.ticked l.word.items l.rest ≡ replaced_from l.parameters l.arguments Plain false [] l.text

abbrev pub decreases-bytes : goal.decreases-bytes
decreases-bytes l = length l.rest

-- The text so far, and what is left, give the whole text.
use Rattle.std.proofs.Common.{◌≡◌, ◌≤◌, [], length, false}
use Rattle.vlog_items.specs.declared.modes.Mode.TheVariants.{Plain}
use Rattle.vlog_pre.specs.Macros.{text_from}
use Rattle.vlog_pre.proofs.texts.text.Given as goal

abbrev pub invariant-bytes : goal.invariant-bytes
invariant-bytes l = record {
  read : text_from l.mode l.continued l.text l.reader.items ≡ text_from Plain false [] l.initial.reader.items;
  names : l.reader.names ≡ l.initial.reader.names;
  shorter : length l.reader.items ≤ length l.initial.reader.items;
}

abbrev pub decreases-bytes : goal.decreases-bytes
decreases-bytes l = length l.reader.items

-- What follows the run is what follows the rest of it.
use Rattle.std.proofs.Common.{◌≡◌, ◌≤◌, length}
use Rattle.vlog_items.specs.Bytes.{is_in}
use Rattle.vlog_items.specs.Items.{after_run}
use Rattle.vlog_items.proofs.reading.Reader.skip.Given as goal

abbrev pub invariant-bytes : goal.invariant-bytes
invariant-bytes l = record {
  items : after_run (is_in l.class) l.self.items ≡ after_run (is_in l.class) l.initial.self.items;
  shorter : length l.self.items ≤ length l.initial.self.items;
  names : l.self.names ≡ l.initial.self.names;
}

abbrev pub decreases-bytes : goal.decreases-bytes
decreases-bytes l = length l.self.items

-- The bytes so far and those of what is left are the run.
use Rattle.std.proofs.Common.{◌≡◌, ◌≤◌, ◌++◌, length}
use Rattle.vlog_items.specs.Bytes.{is_in}
use Rattle.vlog_items.specs.Items.{run_of, after_run}
use Rattle.vlog_items.proofs.reading.Reader.run.Given as goal

abbrev pub invariant-bytes : goal.invariant-bytes
invariant-bytes l = record {
  value : l.bytes.items ++ run_of (is_in l.class) l.self.items ≡ run_of (is_in l.class) l.initial.self.items;
  items : after_run (is_in l.class) l.self.items ≡ after_run (is_in l.class) l.initial.self.items;
  shorter : length l.self.items ≤ length l.initial.self.items;
  names : l.self.names ≡ l.initial.self.names;
}

abbrev pub decreases-bytes : goal.decreases-bytes
decreases-bytes l = length l.self.items

use Rattle.std.proofs.Common.{◌≡◌, ◌-◌, length}
use Rattle.std.specs.List.{range_with_len}
use Rattle.net_view.specs.QueueOf.{QueueOf}
use Rattle.net_view.proofs.queue.Queue.new.Given as goal

abbrev pub invariant-items : goal.invariant-items
invariant-items l = record {
  queue : QueueOf l.queue (range_with_len l.f (length l.needs - l.f));
  same : l.queue.needs.now ≡ l.needs;
}

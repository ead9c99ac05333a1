use Rattle.std.proofs.Common.{◌≡◌, ◌-◌, length, [], drop}
use Rattle.net_view.specs.QueueOf.{QueueOf}
use Rattle.net_view.proofs.queue.least_first.Given as goal

abbrev pub invariant-listing : goal.invariant-listing
invariant-listing l = record {
  queue : QueueOf l.queue [];
  same : l.queue.needs.now ≡ l.needs;
}

abbrev pub decreases-listing : goal.decreases-listing
decreases-listing l = length l.needs - length l.queue.order.items

abbrev pub invariant-waiting : goal.invariant-waiting
invariant-waiting l = record {
  queue : QueueOf l.queue (drop l.f-index l.f-items);
  same : l.queue.needs.now ≡ l.needs;
  order : l.queue.order.items ≡ l.initial.queue.order.items;
}

-- The statements that are left decide all.
use Rattle.std.proofs.Common.{◌≡◌, ◌≤◌, drop, length, map}
use Rattle.design_form.specs.Extents.{shape_of}
use Rattle.proc_values.specs.Cases.{body_at, chain, with_body}
use Rattle.proc_values.specs.Labels.{any_hit}
use Rattle.proc_values.specs.Bodies.{in_order, run}
use Rattle.proc_values.specs.Marks.{IsReady, IsSide, Moves}
use Rattle.proc_values.proofs.body.+running.Given as goal

abbrev pub invariant-run_all-loop-i : goal.invariant-run_all-loop-i
invariant-run_all-loop-i l = record {
  left : in_order (map (run l.design l.reads l.bits) (drop l.i l.ss)) (record { now = l.now; next = l.next }) ≡ in_order (map (run l.design l.reads l.bits) l.ss) (record { now = l.fn.now; next = l.fn.next });
  now_moves : Moves l.reads l.fn.now l.now;
  next_moves : Moves l.bits l.fn.next l.next;
}

-- The items from the last one up to here.
abbrev pub invariant-tried_items-loop-left : goal.invariant-tried_items-loop-left
invariant-tried_items-loop-left l = record {
  side : IsSide l.reads l.bits (record { now = l.fn.now; next = l.fn.next })
      (chain l.reads l.bits (any_hit l.design l.fn.now l.choice.how (shape_of l.choice.context) l.choice.word.items) l.at l.left (map (with_body (run l.design l.reads l.bits)) (drop l.left l.arms)) (body_at l.at (map (with_body (run l.design l.reads l.bits)) l.arms)) (record { now = l.fn.now; next = l.fn.next }))
      l.side.seen.items l.side.becomes.items;
  now : l.now ≡ l.fn.now;
  next : l.next ≡ l.fn.next;
  inside : l.left ≤ length l.arms;
  seen_long : length l.side.seen.items ≡ length l.reads;
  becomes_long : length l.side.becomes.items ≡ length l.bits;
  ready : IsReady l.reads l.bits l.read_marks l.marks l.now l.next;
}

abbrev pub decreases-tried_items-loop-left : goal.decreases-tried_items-loop-left
decreases-tried_items-loop-left l = l.left

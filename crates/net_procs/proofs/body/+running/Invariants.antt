-- The statements that are left.
use Rattle.std.proofs.Common.{◌≤◌, drop, length, map}
use Rattle.design_form.specs.Extents.{shape_of}
use Rattle.net_words.proofs.BuildLemmas.{IsLeft}
use Rattle.proc_values.specs.Cases.{with_body}
use Rattle.net_procs.specs.Bodies.{in_order, run}
use Rattle.net_procs.specs.Cases.{case_run}
use Rattle.net_procs.specs.Labels.{any_hit}
use Rattle.net_procs.specs.Ready.{run_of, IsChoice, IsFit}
use Rattle.net_procs.proofs.Steps.{down}
use Rattle.net_procs.proofs.BodySteps.{item_on}
use Rattle.net_procs.proofs.body.+running.Given as goal

abbrev pub invariant-run_all-loop-i : goal.invariant-run_all-loop-i
invariant-run_all-loop-i l =
    let f = run l.frame.design.now l.frame.reads.now l.frame.bits.now in
    record {
      left : IsLeft (in_order (map f l.ss) (run_of l.fn.wires)) l.fn.net l.net (in_order (map f (drop l.i l.ss)) (run_of l.wires));
      fits : IsFit l.frame.design.now l.frame.reads.now l.frame.bits.now l.net (run_of l.wires);
      longer : length l.fn.net ≤ length l.net;
    }

-- The items above the last one that is drawn.
abbrev pub invariant-run_items-loop-left : goal.invariant-run_items-loop-left
invariant-run_items-loop-left l =
    let reads = l.frame.reads.now in
    let bits = l.frame.bits.now in
    let f = run l.frame.design.now reads bits in
    let hit = any_hit l.frame.design.now l.wires.seen.items l.choice.how (shape_of l.choice.context) l.choice.word.items in
    record {
      above : IsLeft (case_run reads bits hit l.at (map (with_body f) l.arms) (run_of l.wires)) l.fn.net l.net (down (item_on reads bits hit l.at f l.arms (run_of l.wires)) l.left (run_of l.rest));
      fits : IsFit l.frame.design.now reads bits l.net (run_of l.rest);
      choice : IsChoice l.net l.choice;
      start : IsFit l.frame.design.now reads bits l.net (run_of l.wires);
      longer : length l.fn.net ≤ length l.net;
      inside : l.left ≤ length l.arms;
    }

abbrev pub decreases-run_items-loop-left : goal.decreases-run_items-loop-left
decreases-run_items-loop-left l = l.left

-- The labels that are left.
use Rattle.std.proofs.Common.{◌≤◌, drop, length}
use Rattle.design_form.specs.Extents.{shape_of}
use Rattle.net_words.specs.Builds.{AreThere}
use Rattle.net_words.proofs.BuildLemmas.{IsLeft, behind}
use Rattle.net_procs.specs.Labels.{label_hits}
use Rattle.net_procs.proofs.labels.label_hits.Given as goal

abbrev pub invariant-loop-i : goal.invariant-loop-i
invariant-loop-i l = record {
  left :
      IsLeft (label_hits l.design l.nodes l.choice.how (shape_of l.choice.context) l.choice.word.items l.labels) l.fn.net l.net
      (behind l.hits.items (label_hits l.design l.nodes l.choice.how (shape_of l.choice.context) l.choice.word.items (drop l.i l.labels)));
  there : AreThere l.net l.hits.items;
  longer : length l.fn.net ≤ length l.net;
}

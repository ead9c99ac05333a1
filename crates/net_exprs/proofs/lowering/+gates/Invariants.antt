-- The members from the first one up to here.
use Rattle.std.proofs.Common.{◌≤◌, ◌+◌, ◌*◌, max, length, map, drop, reverse}
use denote.Param.Weighed.{most}
use Rattle.vlog_tree.proofs.expr.Expr.TheLaws.{the_size}
use Rattle.net_words.specs.Builds.{AreThere}
use Rattle.net_words.proofs.BuildLemmas.{IsLeft}
use Rattle.net_exprs.specs.Lowered.{lowered, joined}
use Rattle.net_exprs.specs.Names.{wired_in}
use Rattle.net_exprs.proofs.Rows.{under}
use Rattle.net_exprs.proofs.lowering.+gates.Given as goal

abbrev pub invariant-joined-loop-member : goal.invariant-joined-loop-member
invariant-joined-loop-member l = record {
  left :
      IsLeft (joined (map (lowered (wired_in l.design l.nodes)) l.members)) l.fn.net l.net
      (under (reverse l.all.items) (joined (map (lowered (wired_in l.design l.nodes)) (drop l.member-index l.members))));
  there : AreThere l.net (reverse l.all.items);
  longer : length l.fn.net ≤ length l.net;
}

-- ---- each goes down the expression, or to a function that is lower here

abbrev pub decreases-formed : goal.decreases-formed
decreases-formed l = 16 * (the_size l.e.now) + 0

abbrev pub decreases-lower : goal.decreases-lower
decreases-lower l = 16 * (the_size l.e.now) + 1

abbrev pub decreases-lower_alone : goal.decreases-lower_alone
decreases-lower_alone l = 16 * (the_size l.e.now) + 2

abbrev pub decreases-unary : goal.decreases-unary
decreases-unary l = 16 * (the_size l.inner.now) + 2

abbrev pub decreases-binary : goal.decreases-binary
decreases-binary l = 16 * (max (the_size l.left.now) (the_size l.right.now)) + 2

abbrev pub decreases-picked_by : goal.decreases-picked_by
decreases-picked_by l = 16 * (the_size l.at.now) + 2

abbrev pub decreases-index : goal.decreases-index
decreases-index l = 16 * (the_size l.at.now) + 3

abbrev pub decreases-part_from : goal.decreases-part_from
decreases-part_from l = 16 * (the_size l.first.now) + 3

abbrev pub decreases-joined : goal.decreases-joined
decreases-joined l = 16 * (most (λ x. the_size x) l.members.now) + 3

abbrev pub decreases-choice : goal.decreases-choice
decreases-choice l = 16 * (max (the_size l.test.now) (max (the_size l.left.now) (the_size l.right.now))) + 3

abbrev pub decreases-concat : goal.decreases-concat
decreases-concat l = 16 * (most (λ x. the_size x) l.members.now) + 4

abbrev pub decreases-repeat : goal.decreases-repeat
decreases-repeat l = 16 * (most (λ x. the_size x) l.members.now) + 5

-- The literals that are left decide the union.
use Rattle.std.proofs.Common.{◌+◌, pos, drop, arith, sym, ap, ◌∙◌}
use Rattle.sat_chain.specs.Marks.{at, merged, turned}
use Rattle.sat_chain.proofs.MarkLemmas.{merged_more, turned_more, merged_done, turned_done}
use Rattle.sat_chain.proofs.marks.merge.Goals as goal

pub loop-lit-preserved : goal.loop-lit-preserved
loop-lit-preserved c = record {
  union =
      ap (λ u. merged u (drop (c.loop-lit.lit-index + 1) c.args.clause.now)) c.put_in-now.ensures.union
      ∙ merged_more (at c.loop-lit.marks) c.args.clause.now c.loop-lit.lit-index (pos 0) (omega arith)
      ∙ c.loop-lit.invariant.union;
  live = c.put_in-now.ensures.live;
  turned =
      let more = turned_more (at c.loop-lit.marks) c.args.clause.now c.loop-lit.lit-index (pos 0) (omega arith) in
      let here = ap (λ u. turned u (drop (c.loop-lit.lit-index + 1) c.args.clause.now)) c.put_in-now.ensures.union in
      omega (arith, more, here, c.put_in-now.ensures.turned, c.loop-lit.invariant.turned);
  few = omega (arith, c.put_in-now.ensures.one, c.loop-lit.invariant.few);
}

pub returns-clause-union : goal.returns-clause-union
returns-clause-union c = sym (merged_done (at c.loop-lit.marks) c.args.clause.now c.loop-lit.lit-index (omega arith)) ∙ c.loop-lit.invariant.union

pub returns-clause-turned : goal.returns-clause-turned
returns-clause-turned c = omega (arith, turned_done (at c.loop-lit.marks) c.args.clause.now c.loop-lit.lit-index (omega arith), c.loop-lit.invariant.turned)

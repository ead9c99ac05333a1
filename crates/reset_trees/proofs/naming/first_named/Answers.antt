-- Each source is looked at.
use Rattle.std.proofs.Common.{ℕ, ◌+◌, ◌<◌, Option, sym, subst, arith}
use Rattle.std.specs.Prelude.{IfSome}
use Rattle.reset_trees.specs.Tables.{names_in}
use Rattle.reset_trees.proofs.FirstLemmas.{IsBest, best_none, best_take, best_skip, best_whole, better_inside, later_inside, inside_all, marked_inside}
use Rattle.reset_trees.proofs.naming.first_named.Goals as goal
use Rattle.reset_trees.proofs.naming.first_named.Goals.{then-marks-s, else-marks-s}

pub sources-init : goal.sources-init
sources-init c = record { best = best_none (names_in c.args.names.now) c.args.marks.now; inside = tt }

pub sources-preserved : goal.sources-preserved
sources-preserved c =
    let names = names_in c.args.names.now in
    let marks = c.args.marks.now in
    let s = c.sources.s in
    let Done : Option ℕ → Type 0 = λ o. record { best : IsBest names marks (s + 1) o; inside : IfSome o (λ b. b < s + 1) } in
    elim c.if-marks-s.branch [
      | then-marks-s w ↦ subst Done (sym w.best-is) (record {
        best = best_take names marks s c.sources.best w.better-best.result w.if-marks-s.true c.sources.invariant.best w.better-best.ensures;
        inside = better_inside names c.sources.best s w.better-best.result c.sources.invariant.inside w.better-best.ensures;
      })
      | else-marks-s w ↦ subst Done (sym w.best-is) (record {
        best = best_skip names marks s c.sources.best w.if-marks-s.false c.sources.invariant.best;
        inside = later_inside c.sources.best s c.sources.invariant.inside;
      })
    ]

pub returns : goal.returns
returns c = record {
  first = best_whole (names_in c.args.names.now) c.args.marks.now c.sources.s c.sources.best (λ s h. let low = marked_inside c.args.marks.now s h in omega arith) c.sources.invariant.best;
  inside = inside_all c.sources.best c.sources.s _ (omega arith) c.sources.invariant.inside;
}

-- The tables are those of the net and of the lines.
use Rattle.std.proofs.Common.{ℕ, List, Bool, Option, sym, subst}
use Rattle.std.proofs.lemmas.Result.{IfOk-weaker}
use Rattle.cons_bind.specs.Binding.{forms_of}
use Rattle.cons_bind.specs.declared.bound.BoundLine.{BoundLine}
use Rattle.reset_trees.specs.Domains.{AreInside}
use Rattle.reset_trees.specs.Marking.{AreLevels}
use Rattle.reset_trees.proofs.marks.calm_marks.Goals as goal

pub levels_of-requires : goal.levels_of-requires
levels_of-requires g c =
    subst (λ (n : ℕ). AreInside n (forms_of c.as_slice.result.now)) (sym c.sources.ensures) (subst (λ (ls : List BoundLine). AreInside (g.V.View.source_count c.args.view.now) (forms_of ls)) (sym c.as_slice.ensures) c.requires.lines)

pub returns : goal.returns
returns g c =
    let lines = forms_of c.args.bound.now.lines in
    let are : AreLevels lines c.deref-2.result.now =
    subst (λ (ls : List (Option Bool)). AreLevels lines ls) (sym c.deref-2.ensures.value) (subst (λ (bs : List BoundLine). AreLevels (forms_of bs) c.in_ok-levels.levels.items) c.as_slice.ensures c.in_ok-levels.ensures.levels) in
    IfOk-weaker c.calms_of.result _ _ (λ calms h. h lines are) c.calms_of.ensures

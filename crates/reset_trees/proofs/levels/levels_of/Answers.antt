-- Each line is looked at.
use Rattle.std.proofs.Common.{◌≡◌, ◌<◌, ◌+◌, ℕ, List, Bool, Option, length, take, sym, subst, ap, ◌∙◌, arith}
use Rattle.std.specs.Prelude.{IfSome}
use Rattle.cons_bind.specs.Binding.{forms_of}
use Rattle.reset_trees.specs.Domains.{reset_in}
use Rattle.reset_trees.specs.Marking.{level_at, AreLevels}
use Rattle.reset_trees.specs.Roles.{level_in, or_level}
use Rattle.reset_trees.proofs.LevelLemmas.{levels_more, level_inside}
use Rattle.reset_trees.proofs.StepLemmas.{written_back}
use Rattle.reset_trees.proofs.levels.levels_of.Goals as goal

pub note_level-requires : goal.note_level-requires
note_level-requires c =
    subst (λ (n : ℕ). IfSome (reset_in c.line-item.result.form) (λ s. s < n)) (sym (ap length c.deref_mut.ensures.value ∙ c.lines.invariant.len))
    (level_inside c.args.count c.args.lines.now c.lines.line-index c.line-item.result c.requires c.lines-test.true c.line-item.is)

pub lines-preserved : goal.lines-preserved
lines-preserved c =
    let lines = c.args.lines.now in
    let k = c.lines.line-index in
    let form = c.line-item.result.form in
    let new = c.note_level.new.levels in
    let items = c.lines.levels.items in
    let same : length new ≡ length items = c.note_level.auto.levels ∙ ap length c.deref_mut.ensures.value in
    let back = written_back new items c.lines.levels.len same (omega (arith, same, c.lines.levels.ok)) in
    record {
      levels = subst (λ (ls : List (Option Bool)). AreLevels (forms_of (take (k + 1) lines)) ls) (sym back)
          (levels_more lines k c.line-item.result items new c.lines-test.true c.line-item.is c.lines.invariant.levels
          (λ s. c.note_level.ensures s ∙ ap (λ (ls : List (Option Bool)). or_level (level_at ls s) (level_in form s)) c.deref_mut.ensures.value));
      len = ap length back ∙ same ∙ c.lines.invariant.len;
    }

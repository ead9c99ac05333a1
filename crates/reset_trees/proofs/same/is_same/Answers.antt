-- Each source that is read is looked at.
use Rattle.std.proofs.Common.{get_or, refl, subst, List, ℕ, Contains}
use Rattle.std.proofs.lemmas.List.{take_all}
use Rattle.reset_trees.specs.Marking.{ReadsSame}
use Rattle.reset_trees.proofs.SameLemmas.{reads_more}
use Rattle.reset_trees.proofs.same.is_same.Goals as goal

pub read-preserved : goal.read-preserved
read-preserved c =
    reads_more c.args.kinds.now c.args.levels.now c.args.flop.now c.args.read.now c.read.s-index (get_or c.args.read.now c.read.s-index 0) c.read-test.true refl (c.requires.inside c.read.s-index 0 c.read-test.true)
    (c.is_same_source.ensures.0 c.if-not-is_same_source.false) c.read.invariant

pub returns : goal.returns
returns c =
    let all = subst (λ (zs : List ℕ). ReadsSame c.args.kinds.now c.args.levels.now c.args.flop.now (Contains zs)) (take_all c.read.s-index c.args.read.now c.read-test.false) c.read.invariant in
    (λ _. all, λ _. refl)

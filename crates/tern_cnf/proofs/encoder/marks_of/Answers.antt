-- A mark for each number that was read.
use Rattle.std.proofs.Common.{subst, refl, List, ℕ}
use Rattle.std.proofs.lemmas.List.{take_all}
use Rattle.tern_cnf.specs.Grown.{AreMarks}
use Rattle.tern_cnf.proofs.GrownLemmas.{marks_none, marks_more}
use Rattle.tern_cnf.proofs.encoder.marks_of.Goals as goal

pub loop-k-init : goal.loop-k-init
loop-k-init c = rw (c.in-Ok.ensures.items_if_clones_equal (λ y e. e)) (marks_none c.args.nodes)

pub loop-k-preserved : goal.loop-k-preserved
loop-k-preserved c = marks_more c.loop-k.marks.items c.args.listed.now c.args.nodes c.loop-k.k-index _ c.loop-k-test.true refl (c.requires c.loop-k.k-index 0 c.loop-k-test.true) c.loop-k.invariant

pub returns : goal.returns
returns c = subst (λ (ks : List ℕ). AreMarks c.loop-k.marks.items ks c.args.nodes) (take_all c.loop-k.k-index c.args.listed.now c.loop-k-test.false) c.loop-k.invariant

-- The last byte decides.
use Rattle.std.proofs.Common.{◌∙◌, arith}
use Rattle.cons_file.proofs.LinesLemmas.{without_return-last, without_return-other}
use Rattle.cons_file.proofs.scanner.shortened.Goals as goal
use Rattle.cons_file.proofs.scanner.shortened.Goals.{else-count-gt0-via-then-count-gt0+else-line-count-eq13, else-count-gt0-via-else-count-gt0}

pub returns-then-line-count-eq13 : goal.returns-then-line-count-eq13
returns-then-line-count-eq13 c = c.split_at.ensures.front ∙ without_return-last c.args.line.now c.if-count-gt0.true c.if-line-count-eq13.true

pub returns-else-count-gt0 : goal.returns-else-count-gt0
returns-else-count-gt0 c =
    elim c.else-count-gt0.branch [
      | else-count-gt0-via-then-count-gt0+else-line-count-eq13 w ↦ without_return-other c.args.line.now (λ lt e. w.if-line-count-eq13.false e)
      | else-count-gt0-via-else-count-gt0 w ↦ without_return-other c.args.line.now (λ lt e. omega (arith, w.if-count-gt0.false))
    ]

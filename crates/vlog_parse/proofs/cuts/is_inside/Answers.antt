use Rattle.vlog_parse.proofs.CutLemmas.{inside_by, none_inside}
use Rattle.vlog_parse.proofs.cuts.is_inside.Goals as goal

pub returns-then-left-gt0 : goal.returns-then-left-gt0
returns-then-left-gt0 c = inside_by c.args.cursor.now c.left.result c.sees_word.result c.left.ensures c.if-left-gt0.true c.sees_word.ensures

pub returns-else-left-gt0 : goal.returns-else-left-gt0
returns-else-left-gt0 c = none_inside c.args.cursor.now c.left.result c.left.ensures c.if-left-gt0.false

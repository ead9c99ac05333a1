use Rattle.std.proofs.Common.{◌<◌, get_or, arith}
use Rattle.vlog_lex.specs.Numbers.{value_from, value_of, with_digit}
use Rattle.vlog_lex.proofs.NumberLemmas.{value_past}
use Rattle.vlog_expr.proofs.numbers.value_of.Goals as goal

pub returns-then-value-most : goal.returns-then-value-most
returns-then-value-most c =
    let next : c.args.most < with_digit c.loop-rest.value (get_or c.loop-rest.rest.now 0 0) = omega arith in
    let past : c.args.most < value_from c.loop-rest.value c.loop-rest.rest.now = value_past _ _ _ c.in-len1-up.len_at_least next in
    omega (arith, c.loop-rest.invariant.left)

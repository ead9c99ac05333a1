use Rattle.vlog_const.specs.Names.{values_of}
use Rattle.vlog_const.proofs.WorthForms.{between-worth, chosen-worth}
use Rattle.vlog_const.proofs.constants.+parts.Goals as goal

pub operand-returns-in-Binary-clause-value : goal.operand-returns-in-Binary-clause-value
operand-returns-in-Binary-clause-value t c =
    between-worth (values_of c.args.env.now) _ _ _ _ _ _ _ c.between.result c.in-Binary.is c.get-in-Binary.ensures c.get-in-Binary-2.ensures
    (c.between.ensures.value _ _ c.operand-left.ensures.value c.operand-right.ensures.value)

pub operand-returns-in_ok-alone-in-Conditional-clause-value : goal.operand-returns-in_ok-alone-in-Conditional-clause-value
operand-returns-in_ok-alone-in-Conditional-clause-value t c =
    chosen-worth (values_of c.args.env.now) _ _ _ _ _ _ _ _ c.in_ok-alone-in-Conditional.field-0 _ c.chosen.result c.in-Conditional.is c.get-in-Conditional.ensures c.get-in-Conditional-2.ensures c.get-in-Conditional-3.ensures
    c.in_ok-alone-in-Conditional.ensures.value c.is_true-first.ensures (c.chosen.ensures.value _ _ c.operand-left-in-Conditional.ensures.value c.operand-right-in-Conditional.ensures.value)

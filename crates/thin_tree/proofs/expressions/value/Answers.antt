use Rattle.std.proofs.Common.{map, Some, ap, ◌∙◌}
use Rattle.thin_tree.specs.Form.{said}
use Rattle.thin_tree.specs.Postfix.{step_of, expression_of}
use Rattle.thin_tree.proofs.Pushed.{value_said, value_whole}
use Rattle.thin_tree.proofs.expressions.value.Goals as goal

pub of-requires : goal.of-requires
of-requires c = value_whole (said c.args.e.now) c.in_ok-push.field-0 _ (map step_of c.push.new.steps.items) c.if-not-branch.false (ap (map step_of) c.new-steps.ensures.items) c.in_ok-push.ensures

pub returns : goal.returns
returns c = ap (λ z. Some (expression_of z)) c.of.ensures ∙ value_said (said c.args.e.now) c.in_ok-push.field-0 _ (map step_of c.push.new.steps.items) c.if-not-branch.false (ap (map step_of) c.new-steps.ensures.items) c.in_ok-push.ensures

use Rattle.std.proofs.Common.{ap, sym, ◌∙◌}
use Rattle.elab_weight.specs.Choices.{choice_weight}
use Rattle.elab_weight.specs.Limits.{capped}
use Rattle.elab_weight.proofs.Capped.{body-all, body-most}
use Rattle.elab_weight.proofs.drivers.body_weight.Goals as goal

pub returns-then-is_most : goal.returns-then-is_most
returns-then-is_most c =
    body-most c.args.so_far _ c.args.unrolled.now.headers _ _ _ _ c.in_ok-weight.ensures c.capped.ensures c.plus-weight.ensures (sym c.is_most.ensures ∙ c.if-is_most.true)

pub returns : goal.returns
returns c =
    body-all c.args.so_far _ c.args.unrolled.now.headers _ _ _ _ _ _ c.in_ok-weight.ensures c.capped.ensures c.plus-weight.ensures
    (c.in_ok-choices.ensures ∙ ap (λ n. capped (choice_weight c.args.design.now n c.args.unrolled.now.body)) c.in_ok-bits.ensures) c.plus.ensures

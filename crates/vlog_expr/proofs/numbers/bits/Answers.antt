use Rattle.std.proofs.Common.{◌≡◌, ◌^◌, ◌%◌, ap, ◌∙◌}
use Rattle.vlog_tree.specs.Numbers.{counted, digit_value}
use Rattle.vlog_expr.proofs.CountedLemmas.{cut}
use Rattle.vlog_expr.proofs.numbers.bits.Goals as goal

pub returns : goal.returns
returns c =
    c.low.ensures ∙ (ap (λ n. n % 2 ^ c.args.width) c.bits_of.ensures
    ∙ (cut (counted digit_value c.radix.result 0 c.args.digits.now) c.args.width c.requires.most
    ∙ ap (λ r. counted digit_value r 0 c.args.digits.now % 2 ^ c.args.width) c.radix.ensures.value))

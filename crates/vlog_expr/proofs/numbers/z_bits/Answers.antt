use Rattle.std.proofs.Common.{◌≡◌, ◌^◌, ◌%◌, ap, ◌∙◌}
use Rattle.vlog_tree.specs.Numbers.{counted, z_value, z_before}
use Rattle.vlog_expr.proofs.CountedLemmas.{cut}
use Rattle.vlog_expr.proofs.numbers.z_bits.Goals as goal

pub returns : goal.returns
returns c =
    c.low.ensures ∙ (ap (λ n. n % 2 ^ c.args.width) c.z_of.ensures
    ∙ (cut (counted (z_value c.radix.result) c.radix.result (z_before c.args.digits.now) c.args.digits.now) c.args.width c.requires.most
    ∙ ap (λ r. counted (z_value r) r (z_before c.args.digits.now) c.args.digits.now % 2 ^ c.args.width) c.radix.ensures.value))

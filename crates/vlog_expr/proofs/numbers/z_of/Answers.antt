use Rattle.std.proofs.Common.{◌≡◌, ◌^◌, ◌%◌, ◌+◌, ◌*◌, drop, get_or, length, sym, ap, ◌∙◌, arith, ◌<◌}
use Rattle.std.specs.Prelude.{◌==◌, if◌then◌else◌}
use Rattle.vlog_tree.specs.Numbers.{counted, digit_value, z_value, z_before}
use Rattle.vlog_expr.proofs.CountedLemmas.{counted_next, counted_end}
use Rattle.vlog_expr.proofs.numbers.z_of.Goals as goal

pub loop-d-preserved : goal.loop-d-preserved
loop-d-preserved c = record {
  left =
      let ds = c.args.digits.now in
      let i = c.loop-d.d-index in
      let r = c.args.radix in
      ap (λ v. counted (z_value c.args.radix) r v (drop (i + 1) ds) % 2 ^ 128) (c.with_worth-value.ensures ∙ ap (λ w. (if get_or ds i 0 == 95 then c.loop-d.value else r * c.loop-d.value + w) % 2 ^ 128) (c.z_value.ensures))
      ∙ (counted_next (z_value c.args.radix) r c.loop-d.value (2 ^ 128) i ds c.loop-d-test.true ∙ c.loop-d.invariant.left);
  fits = c.with_worth-value.type_inv;
}

pub returns : goal.returns
returns c = sym (counted_end (z_value c.args.radix) c.args.radix c.loop-d.value (2 ^ 128) c.loop-d.d-index c.args.digits.now c.loop-d-test.false c.loop-d.invariant.fits) ∙ c.loop-d.invariant.left

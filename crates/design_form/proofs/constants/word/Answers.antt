use Rattle.std.proofs.Common.{◌≡◌, ◌<◌, true, nat_lt, Ok, Err, refl, arith}
use Rattle.std.proofs.lemmas.Bool.Decides.{nat_tests}
use Rattle.vlog_tree.specs.declared.expr.Expr.{Expr}
use Rattle.vlog_const.specs.declared.shape.Shape.{Shape}
use Rattle.vlog_const.specs.Names.{Values, no_values}
use Rattle.vlog_const.specs.Worths.{Or_fault, Worth, and_then, narrow}
use Rattle.vlog_const.specs.Constants.{worth, worth_in, value_in}
use Rattle.design_form.specs.Extents.{shape_of}
use Rattle.design_form.specs.Bits.{bits}
use Rattle.design_form.specs.Values.{constant_bits}
use Rattle.design_form.proofs.constants.word.Goals as goal

-- past 128 bits there is no constant
past : (c : Shape) (r : Or_fault Worth) → 128 < c.width → constant_bits c.width (worth_in c r) ≡ bits c.width 0
unfolding constant_bits worth_in and_then narrow
past c (Err fault) h = refl
past c (Ok a) h =
    let e : nat_lt 128 c.width ≡ true = grind (arith, nat_tests) in
    rw e refl

too_wide : (values : Values) (c : Shape) (e : Expr) → 128 < c.width → constant_bits c.width (value_in values c e) ≡ bits c.width 0
unfolding value_in
too_wide values c e h = past c (worth values e) h

pub returns-then-context-gt128 : goal.returns-then-context-gt128
returns-then-context-gt128 c = rw (too_wide no_values (shape_of c.args.context) c.args.e.now (omega arith)) c.bits.ensures

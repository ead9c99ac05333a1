-- Serves src/constants.rt and src/lowering.rt: the width of a constant in a context, and which contexts have none.
use Rattle.std.proofs.Common.{◌≡◌, ℕ, ◌<◌, Ok, Err, IsErr, refl, sym, ap, arith}
use Rattle.vlog_tree.specs.declared.expr.Expr.{Expr}
use Rattle.vlog_const.specs.declared.shape.Shape.{Shape}
use Rattle.vlog_const.specs.declared.answer.ConstValue.{ConstValue}
use Rattle.vlog_const.specs.Names.{no_values}
use Rattle.vlog_const.specs.Worths.{Or_fault, narrow, in_context, valued}
use Rattle.vlog_const.specs.Constants.{worth, worth_in, value_in}
use Rattle.design_form.specs.Bits.{bits}
use Rattle.design_form.specs.Values.{constant_bits}
use Rattle.net_exprs.specs.Constants.{constants}
use Rattle.design_form.proofs.WorthForms.{first_step, same_answer, narrow_tells}

-- a constant in a context has its width, and the context at most 128 bits
pub value_tells : (c : Shape) (e : Expr) (v : ConstValue) → value_in no_values c e ≡ Ok v → (v.width ≡ c.width) × (c.width < 129)
unfolding value_in worth_in in_context
value_tells c e v is =
    let step = first_step (worth no_values e) _ v is in
    let context = first_step (narrow step.0.place c.width) _ v step.1.1 in
    let value = first_step (step.0.value c) (λ bits. Ok (valued c bits)) v context.1.1 in
    let few = (narrow_tells step.0.place c.width context.0 context.1.0).1 in
    (sym (ap (λ (x : ConstValue). x.width) (same_answer (Ok (valued c value.0)) (valued c value.0) v refl value.1.1)), omega (arith, few))

pub too_wide : (c : Shape) (e : Expr) → 128 < c.width → IsErr (value_in no_values c e)
too_wide c e wide = by (value_in no_values c e) refl
  where
    by : (r : Or_fault ConstValue) → value_in no_values c e ≡ r → IsErr r
    by (Err fault) is = refl
    by (Ok v) is = absurd (omega (arith, wide, (value_tells c e v is).1))

-- the bits of what is computed
pub value_constant : (w : ℕ) (r : Or_fault ConstValue) (v : ConstValue) → r ≡ Ok v → constants (bits w v.bits) ≡ constants (constant_bits w r)
unfolding constant_bits
value_constant w r v is = sym (ap (λ (x : Or_fault ConstValue). constants (constant_bits w x)) is)

pub none_constant : (w : ℕ) (r : Or_fault ConstValue) → IsErr r → constants (bits w 0) ≡ constants (constant_bits w r)
unfolding constant_bits
none_constant w (Ok v) none = absurd cc
none_constant w (Err fault) none = refl

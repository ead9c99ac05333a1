-- Constants in contexts that are wider than any of them.
use Rattle.std.proofs.Common.{◌≡◌, ◌⊎◌, ◌<◌, true, nat_lt, Ok, Err, inl, inr, refl, sym, ap, ◌∙◌, ⊎_elim, arith}
use Rattle.std.proofs.lemmas.Bool.Decides.{nat_tests}
use Rattle.vlog_tree.specs.declared.expr.Expr.{Expr}
use Rattle.vlog_const.specs.declared.answer.ConstFault.{ConstFault}
use Rattle.vlog_const.specs.declared.answer.ConstFault.TheVariants as const
use Rattle.vlog_const.specs.declared.answer.ConstValue.{ConstValue}
use Rattle.vlog_const.specs.declared.shape.Shape.{Shape}
use Rattle.vlog_const.specs.Names.{Values, no_values}
use Rattle.vlog_const.specs.Worths as worths
use Rattle.vlog_const.specs.Worths.{Worth, narrow}
use Rattle.vlog_const.specs.Constants.{worth, worth_in, value_in}
use Rattle.elab_names.specs.declared.fault.ElabFault.{ElabFault}
use Rattle.elab_names.specs.declared.fault.ElabFault.TheVariants.{Memory}
use Rattle.elab_names.specs.Answers.{and_then, lifted, fault_of}
use Rattle.elab_sound.specs.Selects.{computed}

-- past 128 bits there is no constant, however wide the context
pub past : (c k : Shape) (r : worths.Or_fault Worth) → 128 < c.width → 128 < k.width → worth_in k r ≡ worth_in c r
unfolding worth_in worths.and_then narrow
past c k (Err fault) h g = refl
past c k (Ok a) h g =
    let e : nat_lt 128 c.width ≡ true = grind (arith, nat_tests) in
    let f : nat_lt 128 k.width ≡ true = grind (arith, nat_tests) in
    rw e (rw f refl)

valued : (values : Values) (k c : Shape) (e : Expr) → values ≡ no_values → ((r : worths.Or_fault Worth) → worth_in k r ≡ worth_in c r) → value_in no_values c e ≡ value_in values k e
unfolding value_in
valued values k c e none same = sym (same (worth no_values e)) ∙ ap (λ (vs : Values). worth_in k (worth vs e)) (sym none)

pub has_value : (values : Values) (k c : Shape) (e : Expr) (v : ConstValue) → values ≡ no_values → ((r : worths.Or_fault Worth) → worth_in k r ≡ worth_in c r) → value_in values k e ≡ Ok v → computed c e ≡ Ok tt
unfolding computed lifted and_then
has_value values k c e v none same is = ap (λ r. and_then (lifted r) (λ (w : ConstValue). Ok tt)) (valued values k c e none same ∙ is)

pub has_none : (values : Values) (k c : Shape) (e : Expr) (cause : ConstFault) (fault : ElabFault) → values ≡ no_values → ((r : worths.Or_fault Worth) → worth_in k r ≡ worth_in c r)
    → fault ≡ fault_of cause → (cause ≡ const.Memory) ⊎ (value_in values k e ≡ Err cause) → (fault ≡ Memory) ⊎ (computed c e ≡ Err fault)
unfolding computed lifted and_then fault_of
has_none values k c e cause fault none same is answer = ⊎_elim
    (λ lack. inl (is ∙ ap fault_of lack))
    (λ bad. inr (ap (λ r. and_then (lifted r) (λ (w : ConstValue). Ok tt)) (valued values k c e none same ∙ bad) ∙ ap Err (sym is)))
    answer

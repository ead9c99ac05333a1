-- What a call answers that a constant expression is asked of.
use Rattle.std.proofs.Common.{◌≡◌, ◌⊎◌, Result, Ok, Err, inl, inr, refl, sym, ap, subst, ◌∙◌, ⊎_elim}
use Rattle.vlog_const.specs.declared.answer.ConstValue.{ConstValue}
use Rattle.vlog_const.specs.Names.{Values, no_values}
use Rattle.vlog_const.specs.declared.answer.ConstFault.{ConstFault}
use Rattle.vlog_const.specs.declared.answer.ConstFault.TheVariants as const
use Rattle.elab_names.specs.declared.fault.ElabFault.{ElabFault}
use Rattle.elab_names.specs.declared.fault.ElabFault.TheVariants.{Memory}
use Rattle.elab_names.specs.Answers.{Or_fault, and_then, fault_of, lifted}

memory : fault_of const.Memory ≡ Memory
unfolding fault_of
memory = refl

pub lifted-ok : {A : Type 0} (r : Result A ConstFault) (a : A) → r ≡ Ok a → lifted r ≡ Ok a
unfolding lifted
lifted-ok r a is = ap lifted is

lifted-err : {A : Type 0} (r : Result A ConstFault) (cause : ConstFault) (fault : ElabFault) → fault ≡ fault_of cause → (cause ≡ const.Memory) ⊎ (r ≡ Err cause)
    → (fault ≡ Memory) ⊎ (lifted r ≡ Err fault)
unfolding lifted
lifted-err {A} r cause fault is answer = ⊎_elim
    (λ none. inl (is ∙ ap fault_of none ∙ memory))
    (λ same. inr (ap lifted same ∙ ap (λ (f : ElabFault). let q : Or_fault A = Err f in q) (sym is)))
    answer

-- of a table without names
pub alone-err : (ask : Values → Result ConstValue ConstFault) (values : Values) (cause : ConstFault) (fault : ElabFault) → values ≡ no_values → fault ≡ fault_of cause
    → (cause ≡ const.Memory) ⊎ (ask values ≡ Err cause) → (fault ≡ Memory) ⊎ (lifted (ask no_values) ≡ Err fault)
alone-err ask values cause fault none is answer =
    lifted-err (ask no_values) cause fault is (subst (λ (v : Values). (cause ≡ const.Memory) ⊎ (ask v ≡ Err cause)) none answer)

pub ruleset lifts = (lifted-ok)

-- ---- steps that have a value

abbrev good : {A : Type 0} → A → Or_fault A → A
good d (Ok x) = x
good d (Err fault) = d

-- one answer has one value
pub same_answer : {A : Type 0} (r : Or_fault A) (x y : A) → r ≡ Ok x → r ≡ Ok y → x ≡ y
same_answer r x y h k = ap (good x) (sym h ∙ k)

-- what follows has a value where its first step has one
pub first_step : {A B : Type 0} (r : Or_fault A) (f : A → Or_fault B) (y : B) → and_then r f ≡ Ok y → (x : A) × ((r ≡ Ok x) × (f x ≡ Ok y))
unfolding and_then
first_step (Ok x) f y h = (x, (refl, h))
first_step (Err fault) f y h = absurd cc

pub lifted_tells : {A : Type 0} (r : Result A ConstFault) (x : A) → lifted r ≡ Ok x → r ≡ Ok x
unfolding lifted
lifted_tells (Ok a) x h = ap Ok (same_answer (Ok a) a x refl h)
lifted_tells (Err fault) x h = absurd cc

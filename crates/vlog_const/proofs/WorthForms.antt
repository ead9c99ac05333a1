-- What an operator and a choice are worth by themselves, from their parts.
use Rattle.std.proofs.Common.{◌≡◌, Bool, Result, Ok, Err, refl, sym, ap, subst, ◌∙◌}
use Rattle.rdc_outside.specs.declared.source.Place.{Place}
use Rattle.vlog_tree.specs.declared.operator.Binary as binary
use Rattle.vlog_tree.specs.declared.expr.Expr.{Expr, fold-roll-Expr}
use Rattle.vlog_tree.specs.declared.expr.Expr.TheOpen.{Expr-F}
use Rattle.vlog_tree.specs.declared.expr.Expr.TheVariants.{Binary, Conditional, rolls-Binary, rolls-Conditional}
use Rattle.vlog_const.specs.declared.operand.Operand.{Operand}
use Rattle.vlog_const.specs.declared.answer.ConstValue.{ConstValue}
use Rattle.vlog_const.specs.declared.answer.ConstFault.{ConstFault}
use Rattle.vlog_const.specs.Names.{Values}
use Rattle.vlog_const.specs.Worths.{Or_fault, Worth, and_then, alone, is_true}
use Rattle.vlog_const.specs.Operations.{binary_worth, choice_worth}
use Rattle.vlog_const.specs.Constants.{worth, worth_by_parts}
use Rattle.vlog_const.specs.Terms.{Answers, worth_of}

worth-Binary : (values : Values) (place : Place) (op : binary.Binary) (x y : Expr)
    → worth values (Binary place op x y) ≡ and_then (worth values x) (λ a. and_then (worth values y) (binary_worth place op a))
unfolding worth worth_by_parts
worth-Binary values place op x y = ap (worth values) (sym (rolls-Binary place op x y)) ∙ fold-roll-Expr (Or_fault Worth) (worth_by_parts values) (Expr-F.Binary place op x y)

worth-Conditional : (values : Values) (place : Place) (test x y : Expr)
    → worth values (Conditional place test x y) ≡ and_then (worth values test) (λ t. and_then (alone t) (λ v. and_then (worth values x) (λ a. and_then (worth values y) (λ b. Ok (choice_worth place (is_true v) a b)))))
unfolding worth worth_by_parts
worth-Conditional values place test x y = ap (worth values) (sym (rolls-Conditional place test x y)) ∙ fold-roll-Expr (Or_fault Worth) (worth_by_parts values) (Expr-F.Conditional place test x y)

-- steps may be grouped either way
grouped : {A B C : Type 0} (r : Or_fault A) (f : A → Or_fault B) (g : B → Or_fault C) → and_then r (λ a. and_then (f a) g) ≡ and_then (and_then r f) g
unfolding and_then
grouped (Ok a) f g = refl
grouped (Err fault) f g = refl

then-ok : {A B : Type 0} (r : Or_fault A) (v : A) (g : A → Or_fault B) → r ≡ Ok v → and_then r g ≡ g v
unfolding and_then
then-ok {A} r v g is = subst (λ (q : Or_fault A). and_then q g ≡ g v) (sym is) refl

-- what is answered for the parts is answered for the whole
pub between-worth : (values : Values) (e x y a b : Expr) (place : Place) (op : binary.Binary) (r : Result Operand ConstFault) → e ≡ Binary place op x y → a ≡ x → b ≡ y
    → Answers worth_of r (and_then (worth values a) (λ l. and_then (worth values b) (binary_worth place op l))) → Answers worth_of r (worth values e)
between-worth values e x y a b place op r is left right answer =
    let parts = ap (worth values) is ∙ worth-Binary values place op x y in
    let given = subst (λ (q : Expr). Answers worth_of r (and_then (worth values x) (λ l. and_then (worth values q) (binary_worth place op l)))) right
    (subst (λ (q : Expr). Answers worth_of r (and_then (worth values q) (λ l. and_then (worth values b) (binary_worth place op l)))) left answer) in
    subst (λ (w : Or_fault Worth). Answers worth_of r w) (sym parts) given

pub chosen-worth : (values : Values) (e test x y t a b : Expr) (place : Place) (v : ConstValue) (first : Bool) (r : Result Operand ConstFault) → e ≡ Conditional place test x y → t ≡ test → a ≡ x → b ≡ y
    → and_then (worth values t) alone ≡ Ok v → first ≡ is_true v
    → Answers worth_of r (and_then (worth values a) (λ l. and_then (worth values b) (λ m. Ok (choice_worth place first l m)))) → Answers worth_of r (worth values e)
chosen-worth values e test x y t a b place v first r is same left right decided first-is answer =
    let decides = λ (w : ConstValue). and_then (worth values x) (λ l. and_then (worth values y) (λ m. Ok (choice_worth place (is_true w) l m))) in
    let parts = ap (worth values) is ∙ worth-Conditional values place test x y ∙ grouped (worth values test) alone decides in
    let decided' = subst (λ (q : Expr). and_then (worth values q) alone ≡ Ok v) same decided in
    let given = subst (λ (q : Expr). Answers worth_of r (and_then (worth values x) (λ l. and_then (worth values q) (λ m. Ok (choice_worth place (is_true v) l m))))) right
    (subst (λ (q : Expr). Answers worth_of r (and_then (worth values q) (λ l. and_then (worth values b) (λ m. Ok (choice_worth place (is_true v) l m))))) left
    (subst (λ (z : Bool). Answers worth_of r (and_then (worth values a) (λ l. and_then (worth values b) (λ m. Ok (choice_worth place z l m))))) first-is answer)) in
    subst (λ (w : Or_fault Worth). Answers worth_of r w) (sym (parts ∙ then-ok (and_then (worth values test) alone) v decides decided')) given

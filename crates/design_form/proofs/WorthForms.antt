-- Serves specs/ConstantLaws.antt: what each form of a constant expression is worth, and what an answer tells of its steps.
use Rattle.std.proofs.Common.{◌≡◌, ℕ, ◌≤◌, Bool, true, false, if◌then◌else◌, nat_lt, List, map, Ok, Err, refl, sym, ap, ◌∙◌, le-ltb, ltb-false}
use Rattle.rdc_outside.specs.declared.source.Place.{Place}
use Rattle.vlog_tree.specs.declared.expr.Expr.{Expr, fold-roll-Expr}
use Rattle.vlog_tree.specs.declared.expr.Expr.TheOpen.{Expr-F}
use Rattle.vlog_tree.specs.declared.expr.Expr.TheVariants.{Number, Name, Index, Select, Brackets, Concat, Repeat, Unary, Binary, Conditional, rolls-Number, rolls-Name, rolls-Index, rolls-Select, rolls-Brackets, rolls-Concat, rolls-Repeat, rolls-Unary, rolls-Binary, rolls-Conditional}
use Rattle.vlog_tree.specs.declared.expr.Part.{Part}
use Rattle.vlog_tree.specs.declared.number.Number as n
use Rattle.vlog_tree.specs.declared.operator.Unary as u
use Rattle.vlog_tree.specs.declared.operator.Binary as b
use Rattle.vlog_const.specs.declared.answer.ConstFault.TheVariants.{TooWide}
use Rattle.vlog_const.specs.Names.{Values}
use Rattle.vlog_const.specs.Worths.{Or_fault, and_then, Worth, narrow, alone, is_true, number, named}
use Rattle.vlog_const.specs.Selects.{index_worth, select_worth, selected, joined, nothing, concat_worth, repeat_worth}
use Rattle.vlog_const.specs.Operations.{unary_worth, binary_worth, choice_worth}
use Rattle.vlog_const.specs.Constants.{worth, worth_by_parts}

-- ---- forms

pub worth-Number : (values : Values) (place : Place) (x : n.Number) → worth values (Number place x) ≡ number place x
unfolding worth worth_by_parts
worth-Number values place x = ap (worth values) (sym (rolls-Number place x)) ∙ fold-roll-Expr (Or_fault Worth) (worth_by_parts values) (Expr-F.Number place x)

pub worth-Name : (values : Values) (place : Place) (name : List ℕ) → worth values (Name place name) ≡ named values place name
unfolding worth worth_by_parts
worth-Name values place name = ap (worth values) (sym (rolls-Name place name)) ∙ fold-roll-Expr (Or_fault Worth) (worth_by_parts values) (Expr-F.Name place name)

pub worth-Index : (values : Values) (place : Place) (name : List ℕ) (i : Expr)
    → worth values (Index place name i) ≡ and_then (selected values place name) (λ v. and_then (worth values i) (λ a. and_then (alone a) (λ at. Ok (index_worth place v at))))
unfolding worth worth_by_parts
worth-Index values place name i = ap (worth values) (sym (rolls-Index place name i)) ∙ fold-roll-Expr (Or_fault Worth) (worth_by_parts values) (Expr-F.Index place name i)

pub worth-Select : (values : Values) (place : Place) (name : List ℕ) (how : Part) (first second : Expr)
    → worth values (Select how place name first second) ≡ and_then (selected values place name) (λ v. and_then (worth values first) (λ a. and_then (alone a) (λ i. and_then (worth values second) (λ b. and_then (alone b) (λ j. select_worth place v how i j)))))
unfolding worth worth_by_parts
worth-Select values place name how first second = ap (worth values) (sym (rolls-Select how place name first second)) ∙ fold-roll-Expr (Or_fault Worth) (worth_by_parts values) (Expr-F.Select how place name first second)

pub worth-Brackets : (values : Values) (place : Place) (e : Expr) → worth values (Brackets place e) ≡ and_then (worth values e) (λ a. Ok (record a { place = place }))
unfolding worth worth_by_parts
worth-Brackets values place e = ap (worth values) (sym (rolls-Brackets place e)) ∙ fold-roll-Expr (Or_fault Worth) (worth_by_parts values) (Expr-F.Brackets place e)

pub worth-Concat : (values : Values) (place : Place) (es : List Expr) → worth values (Concat place es) ≡ concat_worth place (map (worth values) es)
unfolding worth worth_by_parts
worth-Concat values place es = ap (worth values) (sym (rolls-Concat place es)) ∙ fold-roll-Expr (Or_fault Worth) (worth_by_parts values) (Expr-F.Concat place es)

pub worth-Repeat : (values : Values) (place : Place) (k : Expr) (es : List Expr)
    → worth values (Repeat place k es) ≡ and_then (worth values k) (λ a. and_then (alone a) (λ m. and_then (joined place nothing (map (worth values) es)) (λ v. repeat_worth place m v)))
unfolding worth worth_by_parts
worth-Repeat values place k es = ap (worth values) (sym (rolls-Repeat place k es)) ∙ fold-roll-Expr (Or_fault Worth) (worth_by_parts values) (Expr-F.Repeat place k es)

pub worth-Unary : (values : Values) (place : Place) (op : u.Unary) (e : Expr) → worth values (Unary place op e) ≡ and_then (worth values e) (λ a. unary_worth place op a)
unfolding worth worth_by_parts
worth-Unary values place op e = ap (worth values) (sym (rolls-Unary place op e)) ∙ fold-roll-Expr (Or_fault Worth) (worth_by_parts values) (Expr-F.Unary place op e)

pub worth-Binary : (values : Values) (place : Place) (op : b.Binary) (x y : Expr) → worth values (Binary place op x y) ≡ and_then (worth values x) (λ a. and_then (worth values y) (λ c. binary_worth place op a c))
unfolding worth worth_by_parts
worth-Binary values place op x y = ap (worth values) (sym (rolls-Binary place op x y)) ∙ fold-roll-Expr (Or_fault Worth) (worth_by_parts values) (Expr-F.Binary place op x y)

pub worth-Conditional : (values : Values) (place : Place) (test x y : Expr)
    → worth values (Conditional place test x y) ≡ and_then (worth values test) (λ t. and_then (alone t) (λ v. and_then (worth values x) (λ a. and_then (worth values y) (λ c. Ok (choice_worth place (is_true v) a c)))))
unfolding worth worth_by_parts
worth-Conditional values place test x y = ap (worth values) (sym (rolls-Conditional place test x y)) ∙ fold-roll-Expr (Or_fault Worth) (worth_by_parts values) (Expr-F.Conditional place test x y)

-- ---- steps

abbrev good : {A : Type 0} → A → Or_fault A → A
good d (Ok x) = x
good d (Err fault) = d

-- one answer has one value
pub same_answer : {A : Type 0} (r : Or_fault A) (x y : A) → r ≡ Ok x → r ≡ Ok y → x ≡ y
same_answer r x y h k = ap (good x) (sym h ∙ k)

-- what follows has a value where its first step has one
pub first_step : {A B : Type 0} (r : Or_fault A) (f : A → Or_fault B) (y : B) → and_then r f ≡ Ok y → (x : A) × ((r ≡ Ok x) × (f x ≡ Ok y))
unfolding and_then
first_step (Ok x) f y h = (x, (refl, h))
first_step (Err fault) f y h = absurd cc

-- and gives what that gives
pub then_step : {A B : Type 0} (r : Or_fault A) (f : A → Or_fault B) (x : A) → r ≡ Ok x → and_then r f ≡ f x
unfolding and_then
then_step r f x h = ap (λ s. and_then s f) h

-- a width that is answered is the one asked for, at most 128
pub narrow_tells : (place : Place) (n k : ℕ) → narrow place n ≡ Ok k → (n ≡ k) × (n ≤ 128)
unfolding narrow
narrow_tells place n k h = by (nat_lt 128 n) refl h
  where
    by : (t : Bool) → nat_lt 128 n ≡ t → (if t then Err (TooWide place) else Ok n) ≡ Ok k → (n ≡ k) × (n ≤ 128)
    by true e h = absurd cc
    by false e h = (same_answer (Ok n) n k refl h, ltb-false 128 n e)

pub narrow_gives : (place : Place) (n : ℕ) → n ≤ 128 → narrow place n ≡ Ok n
unfolding narrow
narrow_gives place n h = ap (λ (t : Bool). if t then Err (TooWide place) else Ok n) (le-ltb 128 n h)

-- Serves specs/Laws.antt: where no name has a value an expression stays as it is.
use Rattle.std.proofs.Common.{◌≡◌, ℕ, true, List, [], ◌∷◌, ◌++◌, map, Option, None, Ok, Err, refl, sym, ap, subst, ◌∙◌, append_assoc}
use Rattle.std.proofs.lemmas.List.{append-nil}
use Rattle.rdc_outside.specs.declared.source.Place.{Place}
use Rattle.vlog_tree.specs.declared.expr.Expr.{Expr, ind-Expr, map-Expr, roll-Expr, fold-roll-Expr}
use Rattle.vlog_tree.specs.declared.expr.Expr.TheOpen.{Expr-F}
use Rattle.vlog_tree.specs.declared.expr.Expr.TheVariants.{Number, Name, Index, Select, Brackets, Concat, Repeat, Unary, Binary, Conditional, rolls-Number, rolls-Name, rolls-Index, rolls-Select, rolls-Brackets, rolls-Concat, rolls-Repeat, rolls-Unary, rolls-Binary, rolls-Conditional}
use Rattle.vlog_tree.specs.declared.expr.Part.{Part}
use Rattle.vlog_tree.specs.declared.number.Number as number
use Rattle.vlog_tree.specs.declared.operator.Unary as u
use Rattle.vlog_tree.specs.declared.operator.Binary as b
use Rattle.vlog_const.specs.declared.answer.ConstValue.{ConstValue}
use Rattle.vlog_const.specs.declared.answer.ConstFault.TheVariants.{NotConstant}
use Rattle.vlog_const.specs.Names.{Values, no_values}
use Rattle.vlog_const.specs.Worths as worths
use Rattle.vlog_const.specs.Worths.{and_then as worth_then, alone, named, looked_up}
use Rattle.vlog_const.specs.Selects.{selected}
use Rattle.vlog_const.specs.Constants.{value_of}
use Rattle.design_form.specs.ConstantLaws.{number_or, written}
use Rattle.design_form.proofs.WorthForms.{worth-Name, worth-Index, worth-Select}
use Rattle.proc_loops.specs.Faults.{and_then}
use Rattle.proc_loops.specs.Names.{sooner, first_among, first_name, first_by_parts}
use Rattle.proc_loops.specs.Scopes.{stands}
use Rattle.proc_loops.specs.Unrolled.{built, put_in, all_put_in}
use Rattle.proc_loops.proofs.WrittenForms.{written-Number, written-Name, written-Index, written-Select, written-Brackets, written-Concat, written-Repeat, written-Unary, written-Binary, written-Conditional}

-- ---- names have no value

no-Name : (place : Place) (name : List ℕ) → value_of no_values (Name place name) ≡ Err (NotConstant place)
unfolding value_of named looked_up worth_then
no-Name place name = ap (λ r. worth_then r alone) (worth-Name no_values place name)

no-Index : (place : Place) (name : List ℕ) (i : Expr) → value_of no_values (Index place name i) ≡ Err (NotConstant place)
unfolding value_of selected named looked_up worth_then
no-Index place name i = ap (λ r. worth_then r alone) (worth-Index no_values place name i)

no-Select : (how : Part) (place : Place) (name : List ℕ) (i j : Expr) → value_of no_values (Select how place name i j) ≡ Err (NotConstant place)
unfolding value_of selected named looked_up worth_then
no-Select how place name i j = ap (λ r. worth_then r alone) (worth-Select no_values place name how i j)

stays : (place : Place) (e : Expr) (r : worths.Or_fault ConstValue) → r ≡ Err (NotConstant place) → number_or place e r ≡ e
unfolding number_or
stays place e r is = ap (number_or place e) is

-- ---- expressions

abbrev first : Expr → Option Place
first = first_name (stands true no_values)

abbrev algebra : Expr-F (Option Place) → Option Place
algebra = first_by_parts (stands true no_values)

pub record IsPlain (e : Expr) : Type 0 where
  pub same : written no_values e ≡ e
  pub none : first_name (stands true no_values) e ≡ None

abbrev Plain : Type 0
Plain = (e : Expr) × IsPlain e

abbrev plain : Plain → Expr
plain e = e.0

-- none of both
pub neither : (p q : Option Place) → p ≡ None → q ≡ None → sooner p q ≡ None
neither p q is also = ap (λ z. sooner z q) is ∙ also

same_members : (es : List Plain) → map (written no_values) (map plain es) ≡ map plain es
same_members [] = refl
same_members (e ∷ es) = ap (λ x. x ∷ map (written no_values) (map plain es)) e.1.same ∙ ap (λ xs. e.0 ∷ xs) (same_members es)

no_members : (es : List Plain) → first_among (map first (map plain es)) ≡ None
unfolding first_among
no_members [] = refl
no_members (e ∷ es) = neither (first e.0) (first_among (map first (map plain es))) e.1.none (no_members es)

by_form : (e f : Expr) → e ≡ f → IsPlain f → IsPlain e
by_form e f rolls h = subst IsPlain (sym rolls) h

number_plain : (place : Place) (n : number.Number) → IsPlain (Number place n)
unfolding first_name first_by_parts
number_plain place n = record { same = written-Number no_values place n; none = ap first (sym (rolls-Number place n)) ∙ fold-roll-Expr (Option Place) algebra (Expr-F.Number place n) }

name_plain : (place : Place) (name : List ℕ) → IsPlain (Name place name)
unfolding first_name first_by_parts
name_plain place name = record {
  same = written-Name no_values place name ∙ stays place (Name place name) _ (no-Name place name);
  none = ap first (sym (rolls-Name place name)) ∙ fold-roll-Expr (Option Place) algebra (Expr-F.Name place name);
}

index_plain : (place : Place) (name : List ℕ) (i : Plain) → IsPlain (Index place name i.0)
unfolding first_name first_by_parts
index_plain place name i = record {
  same = written-Index no_values place name i.0 ∙ stays place (Index place name (written no_values i.0)) _ (no-Index place name i.0) ∙ ap (Index place name) i.1.same;
  none = ap first (sym (rolls-Index place name i.0)) ∙ fold-roll-Expr (Option Place) algebra (Expr-F.Index place name i.0) ∙ i.1.none;
}

select_plain : (how : Part) (place : Place) (name : List ℕ) (i j : Plain) → IsPlain (Select how place name i.0 j.0)
unfolding first_name first_by_parts
select_plain how place name i j = record {
  same = written-Select no_values place name how i.0 j.0 ∙ stays place (Select how place name (written no_values i.0) (written no_values j.0)) _ (no-Select how place name i.0 j.0)
      ∙ ap (λ x. Select how place name x (written no_values j.0)) i.1.same ∙ ap (Select how place name i.0) j.1.same;
  none = ap first (sym (rolls-Select how place name i.0 j.0)) ∙ fold-roll-Expr (Option Place) algebra (Expr-F.Select how place name i.0 j.0) ∙ neither (first i.0) (first j.0) i.1.none j.1.none;
}

brackets_plain : (place : Place) (a : Plain) → IsPlain (Brackets place a.0)
unfolding first_name first_by_parts
brackets_plain place a = record {
  same = written-Brackets no_values place a.0 ∙ ap (Brackets place) a.1.same;
  none = ap first (sym (rolls-Brackets place a.0)) ∙ fold-roll-Expr (Option Place) algebra (Expr-F.Brackets place a.0) ∙ a.1.none;
}

concat_plain : (place : Place) (es : List Plain) → IsPlain (Concat place (map plain es))
unfolding first_name first_by_parts
concat_plain place es = record {
  same = written-Concat no_values place (map plain es) ∙ ap (Concat place) (same_members es);
  none = ap first (sym (rolls-Concat place (map plain es))) ∙ fold-roll-Expr (Option Place) algebra (Expr-F.Concat place (map plain es)) ∙ no_members es;
}

repeat_plain : (place : Place) (n : Plain) (es : List Plain) → IsPlain (Repeat place n.0 (map plain es))
unfolding first_name first_by_parts
repeat_plain place n es = record {
  same = written-Repeat no_values place n.0 (map plain es) ∙ ap (λ k. Repeat place k (map (written no_values) (map plain es))) n.1.same ∙ ap (Repeat place n.0) (same_members es);
  none = ap first (sym (rolls-Repeat place n.0 (map plain es))) ∙ fold-roll-Expr (Option Place) algebra (Expr-F.Repeat place n.0 (map plain es)) ∙ neither (first n.0) (first_among (map first (map plain es))) n.1.none (no_members es);
}

unary_plain : (place : Place) (op : u.Unary) (a : Plain) → IsPlain (Unary place op a.0)
unfolding first_name first_by_parts
unary_plain place op a = record {
  same = written-Unary no_values place op a.0 ∙ ap (Unary place op) a.1.same;
  none = ap first (sym (rolls-Unary place op a.0)) ∙ fold-roll-Expr (Option Place) algebra (Expr-F.Unary place op a.0) ∙ a.1.none;
}

binary_plain : (place : Place) (op : b.Binary) (x y : Plain) → IsPlain (Binary place op x.0 y.0)
unfolding first_name first_by_parts
binary_plain place op x y = record {
  same = written-Binary no_values place op x.0 y.0 ∙ ap (λ z. Binary place op z (written no_values y.0)) x.1.same ∙ ap (Binary place op x.0) y.1.same;
  none = ap first (sym (rolls-Binary place op x.0 y.0)) ∙ fold-roll-Expr (Option Place) algebra (Expr-F.Binary place op x.0 y.0) ∙ neither (first x.0) (first y.0) x.1.none y.1.none;
}

choice_plain : (place : Place) (t x y : Plain) → IsPlain (Conditional place t.0 x.0 y.0)
unfolding first_name first_by_parts
choice_plain place t x y = record {
  same = written-Conditional no_values place t.0 x.0 y.0 ∙ ap (λ z. Conditional place z (written no_values x.0) (written no_values y.0)) t.1.same ∙ ap (λ z. Conditional place t.0 z (written no_values y.0)) x.1.same
      ∙ ap (Conditional place t.0 x.0) y.1.same;
  none = ap first (sym (rolls-Conditional place t.0 x.0 y.0)) ∙ fold-roll-Expr (Option Place) algebra (Expr-F.Conditional place t.0 x.0 y.0)
      ∙ neither (first t.0) (sooner (first x.0) (first y.0)) t.1.none (neither (first x.0) (first y.0) x.1.none y.1.none);
}

by_parts : (y : Expr-F Plain) → IsPlain (roll-Expr (map-Expr Plain Expr plain y))
by_parts (Expr-F.Number place n) = by_form _ _ (rolls-Number place n) (number_plain place n)
by_parts (Expr-F.Name place name) = by_form _ _ (rolls-Name place name) (name_plain place name)
by_parts (Expr-F.Index place name i) = by_form _ _ (rolls-Index place name i.0) (index_plain place name i)
by_parts (Expr-F.Select how place name i j) = by_form _ _ (rolls-Select how place name i.0 j.0) (select_plain how place name i j)
by_parts (Expr-F.Brackets place a) = by_form _ _ (rolls-Brackets place a.0) (brackets_plain place a)
by_parts (Expr-F.Concat place es) = by_form _ _ (rolls-Concat place (map plain es)) (concat_plain place es)
by_parts (Expr-F.Repeat place n es) = by_form _ _ (rolls-Repeat place n.0 (map plain es)) (repeat_plain place n es)
by_parts (Expr-F.Unary place op a) = by_form _ _ (rolls-Unary place op a.0) (unary_plain place op a)
by_parts (Expr-F.Binary place op x y) = by_form _ _ (rolls-Binary place op x.0 y.0) (binary_plain place op x y)
by_parts (Expr-F.Conditional place t x y) = by_form _ _ (rolls-Conditional place t.0 x.0 y.0) (choice_plain place t x y)

pub all_plain : (e : Expr) → IsPlain e
all_plain e = ind-Expr IsPlain (λ x y is. subst (λ z. IsPlain (roll-Expr z)) is (by_parts y)) e

-- ---- what is put in

pub put_in_plain : (e : Expr) → put_in no_values e ≡ Ok e
unfolding put_in built
put_in_plain e = ap (λ z. built z (first_name (stands true no_values) z)) (all_plain e).same ∙ ap (built e) (all_plain e).none

pub all_put_in_plain : (done es : List Expr) → all_put_in no_values done es ≡ Ok (done ++ es)
unfolding all_put_in and_then
all_put_in_plain done [] = ap (λ z. Ok z) (sym (append-nil done))
all_put_in_plain done (e ∷ es) = ap (λ r. and_then r (λ x. all_put_in no_values (done ++ x ∷ []) es)) (put_in_plain e) ∙ all_put_in_plain (done ++ e ∷ []) es ∙ ap (λ z. Ok z) (append_assoc done (e ∷ []) es)

pub written_none : (values : Values) (e : Expr) → values ≡ no_values → written values e ≡ e
written_none values e is = ap (λ z. written z e) is ∙ (all_plain e).same

-- Serves src/writing.rt: a number where there is a value, and else what stands there.
use Rattle.std.proofs.Common.{◌≡◌, ℕ, List, map, Option, Some, None, Ok, Err, IfOk, Result, refl, subst}
use Rattle.rdc_outside.specs.declared.source.Place.{Place}
use Rattle.vlog_tree.specs.declared.expr.Expr.{Expr}
use Rattle.vlog_tree.specs.declared.expr.Expr.TheVariants.{Name, Index, Select, Repeat, Binary, Conditional}
use Rattle.vlog_tree.specs.declared.expr.Part.{Part}
use Rattle.vlog_tree.specs.declared.operator.Binary as b
use Rattle.vlog_const.specs.Names.{Values}
use Rattle.vlog_const.specs.Constants.{value_of}
use Rattle.vlog_const.specs.declared.answer.ConstValue.{ConstValue}
use Rattle.vlog_const.specs.Worths as worths
use Rattle.design_form.specs.ConstantLaws.{as_number, number_or, written}
use Rattle.proc_loops.specs.Constants.{value_if}
use Rattle.proc_loops.proofs.WrittenForms.{written-Name, written-Index, written-Select, written-Repeat, written-Binary, written-Conditional}

pub numbered : (place : Place) (rest : Expr) (r : worths.Or_fault ConstValue) (v : ConstValue) → value_if r ≡ Some v → number_or place rest r ≡ as_number place v
unfolding number_or
numbered place rest (Ok w) v is = cc
numbered place rest (Err fault) v is = cc

pub kept : (place : Place) (rest : Expr) (r : worths.Or_fault ConstValue) → value_if r ≡ None → number_or place rest r ≡ rest
unfolding number_or
kept place rest (Ok w) is = cc
kept place rest (Err fault) is = refl

-- what is answered with another name
pub renamed : {A E : Type 0} (r : Result A E) (x y : A) → x ≡ y → IfOk r (λ w. w ≡ x) → IfOk r (λ w. w ≡ y)
renamed r x y e h = subst (λ z. IfOk r (λ w. w ≡ z)) e h

-- ---- forms, as the code makes them

pub name-some : (values : Values) (e : Expr) (place : Place) (name : List ℕ) (found : Option ConstValue) (v : ConstValue) → e ≡ Name place name → found ≡ value_if (value_of values e) → found ≡ Some v → as_number place v ≡ written values e
name-some values e place name found v is gives some =
    let form = written-Name values place name in
    let step = numbered place (Name place name) (value_of values (Name place name)) v (cc) in
    cc

pub name-none : (values : Values) (e : Expr) (place : Place) (name other : List ℕ) (found : Option ConstValue) → e ≡ Name place name → found ≡ value_if (value_of values e) → found ≡ None → other ≡ name → Name place other ≡ written values e
name-none values e place name other found is gives none same =
    let form = written-Name values place name in
    let step = kept place (Name place name) (value_of values (Name place name)) (cc) in
    cc

pub index-some : (values : Values) (e : Expr) (place : Place) (name : List ℕ) (i : Expr) (found : Option ConstValue) (v : ConstValue) → e ≡ Index place name i → found ≡ value_if (value_of values e) → found ≡ Some v → as_number place v ≡ written values e
index-some values e place name i found v is gives some =
    let form = written-Index values place name i in
    let step = numbered place (Index place name (written values i)) (value_of values (Index place name i)) v (cc) in
    cc

pub index-none : (values : Values) (e : Expr) (place : Place) (name other : List ℕ) (i at : Expr) (found : Option ConstValue) → e ≡ Index place name i → found ≡ value_if (value_of values e) → found ≡ None → other ≡ name → at ≡ i → Index place other (written values at) ≡ written values e
index-none values e place name other i at found is gives none same there =
    let form = written-Index values place name i in
    let step = kept place (Index place name (written values i)) (value_of values (Index place name i)) (cc) in
    cc

pub select-some : (values : Values) (e : Expr) (how : Part) (place : Place) (name : List ℕ) (i j : Expr) (found : Option ConstValue) (v : ConstValue) → e ≡ Select how place name i j → found ≡ value_if (value_of values e) → found ≡ Some v → as_number place v ≡ written values e
select-some values e how place name i j found v is gives some =
    let form = written-Select values place name how i j in
    let step = numbered place (Select how place name (written values i) (written values j)) (value_of values (Select how place name i j)) v (cc) in
    cc

pub select-none : (values : Values) (e : Expr) (how : Part) (place : Place) (name other : List ℕ) (i j first second : Expr) (found : Option ConstValue) → e ≡ Select how place name i j → found ≡ value_if (value_of values e) → found ≡ None → other ≡ name → first ≡ i → second ≡ j → Select how place other (written values first) (written values second) ≡ written values e
select-none values e how place name other i j first second found is gives none same is_first is_second =
    let form = written-Select values place name how i j in
    let step = kept place (Select how place name (written values i) (written values j)) (value_of values (Select how place name i j)) (cc) in
    cc

pub repeat-form : (values : Values) (e : Expr) (place : Place) (n k : Expr) (es ms : List Expr) → e ≡ Repeat place n es → k ≡ n → ms ≡ es → Repeat place (written values k) (map (written values) ms) ≡ written values e
repeat-form values e place n k es ms is same alike = let form = written-Repeat values place n es in cc

pub binary-form : (values : Values) (e : Expr) (place : Place) (op : b.Binary) (x y left right : Expr) → e ≡ Binary place op x y → left ≡ x → right ≡ y → Binary place op (written values left) (written values right) ≡ written values e
binary-form values e place op x y left right is same alike = let form = written-Binary values place op x y in cc

pub choice-form : (values : Values) (e : Expr) (place : Place) (t x y test left right : Expr) → e ≡ Conditional place t x y → test ≡ t → left ≡ x → right ≡ y → Conditional place (written values test) (written values left) (written values right) ≡ written values e
choice-form values e place t x y test left right is there same alike = let form = written-Conditional values place t x y in cc

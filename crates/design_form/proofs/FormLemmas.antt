-- What an expression of some form is worth, from what its parts are.
use Rattle.std.proofs.Common.{◌≡◌, ℕ, suc, ◌+◌, ◌<◌, ◌≤◌, List, length, map, drop, get_or, sym, ap, ◌∙◌, add-one, arith}
use Rattle.std.proofs.Math.Seq.{drop-cons}
use Rattle.std.proofs.lemmas.List.{drop_all}
use Rattle.rdc_outside.specs.declared.source.Place.{Place}
use Rattle.vlog_tree.specs.declared.expr.Expr.{Expr}
use Rattle.vlog_tree.specs.declared.expr.Expr.TheVariants.{Select, Unary as Op, Binary as Between}
use Rattle.vlog_tree.specs.declared.expr.Part.{Part}
use Rattle.vlog_tree.specs.declared.operator.Unary.{Unary}
use Rattle.vlog_tree.specs.declared.operator.Binary.{Binary}
use Rattle.rdc_tern.specs.declared.value.Tern.{Tern}
use Rattle.vlog_const.specs.declared.shape.Shape.{Shape}
use Rattle.vlog_const.specs.declared.shape.Family.{Family}
use Rattle.vlog_const.specs.Widths.{unsigned, family_of, shape_in, unary_shape, binary_shape}
use Rattle.design_form.specs.Selects.{Seen}
use Rattle.design_form.specs.Values.{Valued, valued, joined_width, select_width, select_valued, unary_valued, binary_valued}
use Rattle.design_form.proofs.ValueLemmas.{valued-Select, valued-Unary, valued-Binary}

-- the shape of an expression that is of a form
pub shape-by : (names : List ℕ → Seen) (e f : Expr) (v : Valued) (s : Shape) → e ≡ f → valued names f ≡ v → s ≡ v.shape → s ≡ (valued names e).shape
shape-by names e f v s is form h = h ∙ ap (λ (x : Valued). x.shape) (sym form) ∙ ap (λ (x : Expr). (valued names x).shape) (sym is)

-- its word in a context
pub word-by : (names : List ℕ → Seen) (e f : Expr) (v : Valued) (c : Shape) (w : List Tern) → e ≡ f → valued names f ≡ v → w ≡ v.word c → w ≡ (valued names e).word c
word-by names e f v c w is form h = h ∙ ap (λ (x : Valued). x.word c) (sym form) ∙ ap (λ (x : Expr). (valued names x).word c) (sym is)

-- ---- shapes

pub select-shape : (names : List ℕ → Seen) (e i j x y : Expr) (place : Place) (name n : List ℕ) (how : Part)
    → e ≡ Select how place name i j → x ≡ i → y ≡ j → n ≡ name → unsigned (select_width (names n) how x y) ≡ (valued names e).shape
select-shape names e i j x y place name n how is one other called =
    shape-by names e (Select how place name i j) (select_valued (names name) how i (valued names i) j) _ is (valued-Select names place name how i j)
    (ap (λ (m : List ℕ). unsigned (select_width (names m) how x y)) called ∙ ap (λ (z : Expr). unsigned (select_width (names name) how z y)) one ∙ ap (λ (z : Expr). unsigned (select_width (names name) how i z)) other)

pub unary-form-shape : (names : List ℕ → Seen) (e inner x : Expr) (place : Place) (op : Unary) → e ≡ Op place op inner → x ≡ inner → unary_shape op (valued names x).shape ≡ (valued names e).shape
unary-form-shape names e inner x place op is same =
    shape-by names e (Op place op inner) (unary_valued op (valued names inner)) _ is (valued-Unary names place op inner) (ap (λ (z : Expr). unary_shape op (valued names z).shape) same)

pub binary-shape : (names : List ℕ → Seen) (e left right x y : Expr) (place : Place) (op : Binary) (f : Family) (a b r : Shape)
    → e ≡ Between place op left right → x ≡ left → y ≡ right → f ≡ family_of op → a ≡ (valued names x).shape → b ≡ (valued names y).shape → r ≡ shape_in f a b → r ≡ (valued names e).shape
unfolding binary_shape
binary-shape names e left right x y place op f a b r is one other family first second result =
    shape-by names e (Between place op left right) (binary_valued (Between place op left right) op (valued names left) (valued names right)) r is (valued-Binary names place op left right)
    (result ∙ ap (λ (g : Family). shape_in g a b) family ∙ ap (λ (s : Shape). shape_in (family_of op) s b) (first ∙ ap (λ (z : Expr). (valued names z).shape) one)
    ∙ ap (λ (s : Shape). shape_in (family_of op) (valued names left).shape s) (second ∙ ap (λ (z : Expr). (valued names z).shape) other))

-- ---- members

-- the width of one member more
pub wider : (f : Expr → Valued) (xs : List Expr) (i : ℕ) (x : Expr) (so_far more new whole : ℕ)
    → i < length xs → x ≡ get_or xs i x → more ≡ (f x).shape.width → new ≡ so_far + more → joined_width (map f (drop i xs)) + so_far ≡ whole → joined_width (map f (drop (i + 1) xs)) + new ≡ whole
unfolding joined_width
wider f xs i x so_far more new whole lt is width sum h =
    let step : joined_width (map f (drop i xs)) ≡ joined_width (map f (drop (i + 1) xs)) + (f x).shape.width =
    rw add-one (ap (λ (ys : List Expr). joined_width (map f ys)) (drop-cons xs i x lt) ∙ ap (λ (z : Expr). joined_width (map f (drop (suc i) xs)) + (f z).shape.width) (sym is)) in
    omega arith

pub wide : (f : Expr → Valued) (xs : List Expr) (i so_far whole : ℕ) → length xs ≤ i → joined_width (map f (drop i xs)) + so_far ≡ whole → so_far ≡ whole
unfolding joined_width
wide f xs i so_far whole le h =
    let none : 0 + so_far ≡ whole = ap (λ (ys : List Expr). joined_width (map f ys) + so_far) (sym (drop_all i xs le)) ∙ h in
    omega arith

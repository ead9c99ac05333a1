-- The word of an expression of some form, from the words of its parts.
use Rattle.std.proofs.Common.{◌≡◌, ℕ, suc, ◌<◌, Bool, true, false, if◌then◌else◌, List, ◌++◌, length, map, drop, get_or, refl, sym, ap, subst, ◌∙◌, [], Result, Ok, Err, IfOk, arith}
use Rattle.std.proofs.Math.Seq.{drop-cons}
use Rattle.std.proofs.lemmas.List.{drop_all}
use Rattle.rdc_outside.specs.declared.source.Place.{Place}
use Rattle.vlog_tree.specs.declared.expr.Expr.{Expr}
use Rattle.vlog_tree.specs.declared.expr.Expr.TheVariants.{Index, Select, Concat, Repeat, Unary as Op, Binary as Between, Conditional}
use Rattle.vlog_tree.specs.declared.expr.Part.{Part}
use Rattle.vlog_tree.specs.declared.expr.Part.TheVariants.{Down}
use Rattle.vlog_tree.specs.declared.operator.Unary.{Unary}
use Rattle.vlog_tree.specs.declared.operator.Binary.{Binary}
use Rattle.rdc_tern.specs.declared.value.Tern.{Tern}
use Rattle.rdc_tern.specs.Shifts.{select_of}
use Rattle.rdc_tern.specs.Words.{any_of}
use Rattle.vlog_const.specs.declared.shape.Shape.{Shape}
use Rattle.vlog_const.specs.declared.shape.Family.{Family}
use Rattle.vlog_const.specs.Names.{no_values}
use Rattle.vlog_const.specs.Widths.{operand_family, family_of, common, left_in, right_in, unary_context, left_context, right_context}
use Rattle.vlog_const.specs.Constants.{value_in}
use Rattle.design_form.specs.Extents.{AreAlike}
use Rattle.design_form.specs.Bits.{extended, copies}
use Rattle.design_form.specs.Gates.{before, between}
use Rattle.design_form.specs.Selects.{Seen, picked}
use Rattle.design_form.specs.Values.{Valued, valued, word_alone, joined, constant_bits, count_alone, is_computed, select_word, binary_word, gates_word, index_valued, select_valued, concat_valued, repeat_valued, unary_valued, binary_valued, choice_valued}
use Rattle.design_form.proofs.ValueLemmas.{valued-Index, valued-Select, valued-Concat, valued-Repeat, valued-Unary, valued-Binary, valued-Conditional}
use Rattle.design_form.proofs.FormLemmas.{word-by}
use Rattle.design_form.proofs.WidthLemmas.{length-word_in, alike}

-- ---- selects, and members side by side

pub index-form : (names : List ℕ → Seen) (e at x : Expr) (place : Place) (name n : List ℕ) (c : Shape) → e ≡ Index place name at → x ≡ at → n ≡ name → (index_valued (names n) (valued names x)).word c ≡ (valued names e).word c
index-form names e at x place name n c is same called =
    word-by names e (Index place name at) (index_valued (names name) (valued names at)) c _ is (valued-Index names place name at)
    (ap (λ (m : List ℕ). (index_valued (names m) (valued names x)).word c) called ∙ ap (λ (z : Expr). (index_valued (names name) (valued names z)).word c) same)

pub select-form : (names : List ℕ → Seen) (e i j x y : Expr) (place : Place) (name n : List ℕ) (how : Part) (c : Shape)
    → e ≡ Select how place name i j → x ≡ i → y ≡ j → n ≡ name → (select_valued (names n) how x (valued names x) y).word c ≡ (valued names e).word c
select-form names e i j x y place name n how c is one other called =
    word-by names e (Select how place name i j) (select_valued (names name) how i (valued names i) j) c _ is (valued-Select names place name how i j)
    (ap (λ (m : List ℕ). (select_valued (names m) how x (valued names x) y).word c) called ∙ ap (λ (z : Expr). (select_valued (names name) how z (valued names z) y).word c) one ∙ ap (λ (z : Expr). (select_valued (names name) how i (valued names i) z).word c) other)

pub concat-form : (names : List ℕ → Seen) (e : Expr) (es xs : List Expr) (place : Place) (c : Shape) → e ≡ Concat place es → xs ≡ es → (concat_valued (map (valued names) xs)).word c ≡ (valued names e).word c
concat-form names e es xs place c is same =
    word-by names e (Concat place es) (concat_valued (map (valued names) es)) c _ is (valued-Concat names place es) (ap (λ (ys : List Expr). (concat_valued (map (valued names) ys)).word c) same)

pub repeat-form : (names : List ℕ → Seen) (e n k : Expr) (es xs : List Expr) (place : Place) (c : Shape)
    → e ≡ Repeat place n es → k ≡ n → xs ≡ es → (repeat_valued (count_alone k) (map (valued names) xs)).word c ≡ (valued names e).word c
repeat-form names e n k es xs place c is one same =
    word-by names e (Repeat place n es) (repeat_valued (count_alone n) (map (valued names) es)) c _ is (valued-Repeat names place n es)
    (ap (λ (z : Expr). (repeat_valued (count_alone z) (map (valued names) xs)).word c) one ∙ ap (λ (ys : List Expr). (repeat_valued (count_alone n) (map (valued names) ys)).word c) same)

-- what holds of every answer holds of one
pub of-one : {A E : Type 0} (r : Result A E) (f : A → List Tern) (g : Valued → List Tern) (a : Valued) → IfOk r (λ w. (b : Valued) → f w ≡ g b) → IfOk r (λ w. f w ≡ g a)
of-one (Ok w) f g a h = h a
of-one (Err fault) f g a h = h

-- ---- operators

-- an operand: its word in the context that is handed to it
handed : (names : List ℕ → Seen) (inner x : Expr) (l c : Shape) (w : List Tern) → x ≡ inner → w ≡ (valued names x).word l → l ≡ c → w ≡ (valued names inner).word c
handed names inner x l c w same operand context = operand ∙ ap (λ (z : Expr). (valued names z).word l) same ∙ ap (valued names inner).word context

pub unary-form : (names : List ℕ → Seen) (e inner x : Expr) (place : Place) (op : Unary) (c : Shape) → e ≡ Op place op inner → x ≡ inner → (unary_valued op (valued names x)).word c ≡ (valued names e).word c
unary-form names e inner x place op c is same =
    word-by names e (Op place op inner) (unary_valued op (valued names inner)) c _ is (valued-Unary names place op inner) (ap (λ (z : Expr). (unary_valued op (valued names z)).word c) same)

-- a choice that is decided
decided : (b : Bool) (x y : List Tern) → b ≡ false → (if b then x else y) ≡ y
decided true x y h = absurd cc
decided false x y h = refl

decided_true : (b : Bool) (x y : List Tern) → b ≡ true → (if b then x else y) ≡ x
decided_true true x y h = refl
decided_true false x y h = absurd cc

pub computed-word : (names : List ℕ → Seen) (e left right : Expr) (place : Place) (op : Binary) (c : Shape) (r : List Tern)
    → e ≡ Between place op left right → is_computed op ≡ true → r ≡ constant_bits c.width (value_in no_values c e) → r ≡ (valued names e).word c
unfolding binary_word
computed-word names e left right place op c r is computed result =
    word-by names e (Between place op left right) (binary_valued (Between place op left right) op (valued names left) (valued names right)) c r is (valued-Binary names place op left right)
    (result ∙ ap (λ (z : Expr). constant_bits c.width (value_in no_values c z)) is ∙ sym (decided_true (is_computed op) _ _ computed))

pub binary-word : (names : List ℕ → Seen) (e left right x y : Expr) (place : Place) (op : Binary) (signed : Bool) (l m c : Shape) (w v r : List Tern)
    → e ≡ Between place op left right → is_computed op ≡ false → x ≡ left → y ≡ right
    → l ≡ left_context op (valued names x).shape (valued names y).shape c → m ≡ right_context op (valued names x).shape (valued names y).shape c → ((k : Shape) (a b : List Tern) → between op signed k a b ≡ between op (common (valued names x).shape (valued names y).shape).signed k a b)
    → w ≡ (valued names x).word l → v ≡ (valued names y).word m → r ≡ between op signed c w v → r ≡ (valued names e).word c
unfolding binary_word
binary-word names e left right x y place op signed l m c w v r is gates one other at-left at-right both operand further result =
    word-by names e (Between place op left right) (binary_valued (Between place op left right) op (valued names left) (valued names right)) c r is (valued-Binary names place op left right)
    (result ∙ both c w v
    ∙ ap (λ (z : List Tern). between op (common (valued names x).shape (valued names y).shape).signed c z v) (operand ∙ ap (valued names x).word at-left)
    ∙ ap (between op (common (valued names x).shape (valued names y).shape).signed c _) (further ∙ ap (valued names y).word at-right)
    ∙ ap (λ (z : Expr). gates_word op (valued names z) (valued names y) c) one ∙ ap (λ (z : Expr). gates_word op (valued names left) (valued names z) c) other
    ∙ sym (decided (is_computed op) _ _ gates))

pub choice-word : (names : List ℕ → Seen) (e test left right z x y : Expr) (place : Place) (c : Shape) (t : Tern) (s w v r : List Tern)
    → e ≡ Conditional place test left right → z ≡ test → x ≡ left → y ≡ right → s ≡ word_alone (valued names z) → t ≡ any_of s → w ≡ (valued names x).word c → v ≡ (valued names y).word c → r ≡ select_of t w v → r ≡ (valued names e).word c
choice-word names e test left right z x y place c t s w v r is which one other selects selection operand further result =
    word-by names e (Conditional place test left right) (choice_valued (valued names test) (valued names left) (valued names right)) c r is (valued-Conditional names place test left right)
    (result ∙ ap (λ (k : Tern). select_of k w v) (selection ∙ ap any_of (selects ∙ ap (λ (k : Expr). word_alone (valued names k)) which))
    ∙ ap (λ (k : List Tern). select_of (any_of (word_alone (valued names test))) k v) (handed names left x c c w one operand refl)
    ∙ ap (select_of (any_of (word_alone (valued names test))) _) (handed names right y c c v other further refl))

-- the bits of one member more, from the last one up
pub longer : (f : Expr → Valued) (xs : List Expr) (i k : ℕ) (x : Expr) (so_far more new : List Tern)
    → k ≡ suc i → i < length xs → x ≡ get_or xs i x → more ≡ word_alone (f x) → new ≡ so_far ++ more → so_far ≡ joined (map f (drop k xs)) → new ≡ joined (map f (drop i xs))
unfolding joined
longer f xs i k x so_far more new next lt is bits sum h =
    sum ∙ ap (λ (z : List Tern). z ++ more) (h ∙ ap (λ (n : ℕ). joined (map f (drop n xs))) next) ∙ ap (λ (z : List Tern). joined (map f (drop (suc i) xs)) ++ z) (bits ∙ ap (λ (z : Expr). word_alone (f z)) is)
    ∙ sym (ap (λ (ys : List Expr). joined (map f ys)) (drop-cons xs i x lt))

-- no bits of no members
pub none : (f : Expr → Valued) (xs : List Expr) (so_far : List Tern) → so_far ≡ [] → so_far ≡ joined (map f (drop (length xs) xs))
unfolding joined
none f xs so_far h = h ∙ ap (λ (ys : List Expr). joined (map f ys)) (sym (drop_all (length xs) xs (omega arith)))

-- ---- widths

pub width-of : (names : List ℕ → Seen) (x : Expr) (l : Shape) (w : List Tern) → w ≡ (valued names x).word l → length w ≡ l.width
width-of names x l w h = ap length h ∙ length-word_in names x l

pub alike-words : (names : List ℕ → Seen) (x y : Expr) (op : Binary) (a b l m c : Shape) (w v : List Tern)
    → l ≡ left_context op a b c → m ≡ right_context op a b c → w ≡ (valued names x).word l → v ≡ (valued names y).word m → AreAlike (family_of op) w v
unfolding left_context right_context
alike-words names x y op a b l m c w v at-left at-right operand further =
    alike (family_of op) a b c w v (width-of names x l w operand ∙ ap (λ (s : Shape). s.width) at-left) (width-of names y m v further ∙ ap (λ (s : Shape). s.width) at-right)

pub equal-words : (names : List ℕ → Seen) (x y : Expr) (c : Shape) (w v : List Tern) → w ≡ (valued names x).word c → v ≡ (valued names y).word c → length w ≡ length v
equal-words names x y c w v h k = width-of names x c w h ∙ sym (width-of names y c v k)

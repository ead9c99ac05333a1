-- Serves src/lowering.rt: an expression of some form, from what its parts are.
use Rattle.std.proofs.Common.{◌≡◌, ℕ, ◌+◌, ◌<◌, ◌≤◌, Bool, true, false, if◌then◌else◌, List, [], ◌∷◌, ◌++◌, length, map, drop, get_or, reverse, Ok, Err, IsErr, refl, sym, ap, subst, ◌∙◌, add-one, drop-cons}
use Rattle.std.proofs.lemmas.List.{drop_all, reverse-append, reverse-reverse}
use Rattle.rdc_outside.specs.declared.source.Place.{Place}
use Rattle.vlog_tree.specs.declared.expr.Expr.{Expr}
use Rattle.vlog_tree.specs.declared.expr.Expr.TheVariants.{Number, Name, Index, Select, Brackets, Concat, Repeat, Unary as Op, Binary as Between, Conditional}
use Rattle.vlog_tree.specs.declared.expr.Part.{Part}
use Rattle.vlog_tree.specs.declared.number.Number as n
use Rattle.vlog_tree.specs.declared.operator.Unary.{Unary}
use Rattle.vlog_tree.specs.declared.operator.Binary.{Binary}
use Rattle.vlog_const.specs.declared.shape.Shape.{Shape}
use Rattle.vlog_const.specs.declared.shape.Family.{Family}
use Rattle.vlog_const.specs.declared.shape.Family.TheVariants.{Contextual, Compared, Alone, Leading}
use Rattle.vlog_const.specs.declared.answer.ConstValue.{ConstValue}
use Rattle.vlog_const.specs.Names.{no_values}
use Rattle.vlog_const.specs.Worths.{Or_fault}
use Rattle.vlog_const.specs.Widths.{operand_family, family_of, unary_context, left_context, right_context, left_in, right_in}
use Rattle.vlog_const.specs.Constants.{value_in}
use Rattle.design_form.specs.Bits.{bits}
use Rattle.design_form.specs.Values.{constant_bits, count_alone, is_computed}
use Rattle.net_view.specs.View.{Numbered}
use Rattle.net_words.specs.Builds.{Build, ◌>>=◌, return}
use Rattle.net_words.proofs.BuildLemmas.{IsLeft}
use Rattle.net_exprs.specs.Wired.{Wired}
use Rattle.net_exprs.specs.Alike.{AreAlike, Fits}
use Rattle.net_exprs.specs.Constants.{constants, value_or}
use Rattle.net_exprs.specs.Lowered.{Formed, Lowered, lowered, by_value, fixed, named, index_formed, select_formed, concat_formed, repeat_formed, unary_formed, binary_word, gates_word, choice_word, joined, built_alone}
use Rattle.net_exprs.proofs.LoweredForms.{is_by_value, lowered-Number, lowered-Name, lowered-Index, lowered-Select, lowered-Brackets, lowered-Concat, lowered-Repeat, lowered-Unary, lowered-Binary, lowered-Conditional}
use Rattle.net_exprs.proofs.Rows.{under, member_first, all_members, no_members}

-- ---- a constant, and what is none

word_is : (names : List ℕ → Wired) (e : Expr) (c : Shape) → (lowered names e).word c ≡ value_or (value_in no_values c e) ((lowered names e).formed.gates c)
word_is names e c = ap (λ (x : Lowered). x.word c) (is_by_value names e)

pub of_value : (names : List ℕ → Wired) (e : Expr) (c : Shape) (v : ConstValue) → value_in no_values c e ≡ Ok v → (lowered names e).word c ≡ constants (bits v.width v.bits)
of_value names e c v is = word_is names e c ∙ ap (λ (r : Or_fault ConstValue). value_or r ((lowered names e).formed.gates c)) is

built_or : (r : Or_fault ConstValue) (b : Build (List ℕ)) → IsErr r → value_or r b ≡ b
built_or (Ok v) b none = absurd cc
built_or (Err fault) b none = refl

pub of_form : (names : List ℕ → Wired) (e : Expr) (c : Shape) → IsErr (value_in no_values c e) → (lowered names e).word c ≡ (lowered names e).formed.gates c
of_form names e c none = word_is names e c ∙ built_or (value_in no_values c e) ((lowered names e).formed.gates c) none

-- ---- forms

by_form : (names : List ℕ → Wired) (e f : Expr) (a : Formed) (c : Shape) → e ≡ f → lowered names f ≡ by_value f a → a.gates c ≡ (lowered names e).formed.gates c
by_form names e f a c is form = ap (λ (x : Lowered). x.formed.gates c) (sym form) ∙ ap (λ (x : Expr). (lowered names x).formed.gates c) (sym is)

pub number_form : (names : List ℕ → Wired) (e : Expr) (place : Place) (x y : n.Number) (s : Bool) (c : Shape) → e ≡ Number place x → y ≡ x
    → (fixed (record { width = y.width; signed = s }) (constants (bits y.width y.bits))).gates c ≡ (lowered names e).formed.gates c
number_form names e place x y s c is same =
    ap (λ (z : n.Number). (fixed (record { width = z.width; signed = s }) (constants (bits z.width z.bits))).gates c) same ∙ by_form names e (Number place x) _ c is (lowered-Number names place x)

pub name_form : (names : List ℕ → Wired) (e : Expr) (place : Place) (name n : List ℕ) (c : Shape) → e ≡ Name place name → n ≡ name → (named (names n)).gates c ≡ (lowered names e).formed.gates c
name_form names e place name n c is called = ap (λ (m : List ℕ). (named (names m)).gates c) called ∙ by_form names e (Name place name) _ c is (lowered-Name names place name)

pub index_form : (names : List ℕ → Wired) (e at x : Expr) (place : Place) (name n : List ℕ) (c : Shape) → e ≡ Index place name at → x ≡ at → n ≡ name
    → (index_formed (names n) (lowered names x)).gates c ≡ (lowered names e).formed.gates c
index_form names e at x place name n c is same called =
    ap (λ (m : List ℕ). (index_formed (names m) (lowered names x)).gates c) called ∙ ap (λ (z : Expr). (index_formed (names name) (lowered names z)).gates c) same
    ∙ by_form names e (Index place name at) _ c is (lowered-Index names place name at)

pub select_form : (names : List ℕ → Wired) (e i j x y : Expr) (place : Place) (name n : List ℕ) (how part : Part) (c : Shape) → e ≡ Select how place name i j → x ≡ i → y ≡ j → n ≡ name → part ≡ how
    → (select_formed (names n) part x (lowered names x) y).gates c ≡ (lowered names e).formed.gates c
select_form names e i j x y place name n how part c is one other called written =
    ap (λ (p : Part). (select_formed (names n) p x (lowered names x) y).gates c) written
    ∙ ap (λ (m : List ℕ). (select_formed (names m) how x (lowered names x) y).gates c) called ∙ ap (λ (z : Expr). (select_formed (names name) how z (lowered names z) y).gates c) one
    ∙ ap (λ (z : Expr). (select_formed (names name) how i (lowered names i) z).gates c) other
    ∙ by_form names e (Select how place name i j) _ c is (lowered-Select names place name how i j)

pub brackets_form : (names : List ℕ → Wired) (e a x : Expr) (place : Place) (c : Shape) → e ≡ Brackets place a → x ≡ a → (lowered names x).word c ≡ (lowered names e).formed.gates c
brackets_form names e a x place c is same = ap (λ (z : Expr). (lowered names z).word c) same ∙ by_form names e (Brackets place a) _ c is (lowered-Brackets names place a)

pub concat_form : (names : List ℕ → Wired) (e : Expr) (es xs : List Expr) (place : Place) (c : Shape) → e ≡ Concat place es → xs ≡ es → (concat_formed (map (lowered names) xs)).gates c ≡ (lowered names e).formed.gates c
concat_form names e es xs place c is same = ap (λ (ys : List Expr). (concat_formed (map (lowered names) ys)).gates c) same ∙ by_form names e (Concat place es) _ c is (lowered-Concat names place es)

pub repeat_form : (names : List ℕ → Wired) (e n k : Expr) (es xs : List Expr) (place : Place) (c : Shape) → e ≡ Repeat place n es → k ≡ n → xs ≡ es
    → (repeat_formed (count_alone k) (map (lowered names) xs)).gates c ≡ (lowered names e).formed.gates c
repeat_form names e n k es xs place c is one same =
    ap (λ (z : Expr). (repeat_formed (count_alone z) (map (lowered names) xs)).gates c) one ∙ ap (λ (ys : List Expr). (repeat_formed (count_alone n) (map (lowered names) ys)).gates c) same
    ∙ by_form names e (Repeat place n es) _ c is (lowered-Repeat names place n es)

pub unary_form : (names : List ℕ → Wired) (e inner x : Expr) (place : Place) (op : Unary) (c : Shape) → e ≡ Op place op inner → x ≡ inner → (unary_formed op (lowered names x)).gates c ≡ (lowered names e).formed.gates c
unary_form names e inner x place op c is same = ap (λ (z : Expr). (unary_formed op (lowered names z)).gates c) same ∙ by_form names e (Op place op inner) _ c is (lowered-Unary names place op inner)

decided : {A : Type 0} (b : Bool) (x y : A) → b ≡ false → y ≡ (if b then x else y)
decided true x y h = absurd cc
decided false x y h = refl

decided_true : {A : Type 0} (b : Bool) (x y : A) → b ≡ true → x ≡ (if b then x else y)
decided_true true x y h = refl
decided_true false x y h = absurd cc

pub computed_form : (names : List ℕ → Wired) (e left right : Expr) (place : Place) (op : Binary) (c : Shape) → e ≡ Between place op left right → is_computed op ≡ true
    → constants (constant_bits c.width (value_in no_values c e)) ≡ (lowered names e).formed.gates c
unfolding binary_word
computed_form names e left right place op c is computed =
    ap (λ (z : Expr). constants (constant_bits c.width (value_in no_values c z))) is ∙ decided_true (is_computed op) _ (gates_word op (lowered names left) (lowered names right) c) computed
    ∙ by_form names e (Between place op left right) _ c is (lowered-Binary names place op left right)

pub binary_form : (names : List ℕ → Wired) (e left right x y : Expr) (place : Place) (op : Binary) (c : Shape) → e ≡ Between place op left right → is_computed op ≡ false → x ≡ left → y ≡ right
    → gates_word op (lowered names x) (lowered names y) c ≡ (lowered names e).formed.gates c
unfolding binary_word
binary_form names e left right x y place op c is gates one other =
    ap (λ (z : Expr). gates_word op (lowered names z) (lowered names y) c) one ∙ ap (λ (z : Expr). gates_word op (lowered names left) (lowered names z) c) other
    ∙ decided (is_computed op) (constants (constant_bits c.width (value_in no_values c (Between place op left right)))) _ gates
    ∙ by_form names e (Between place op left right) _ c is (lowered-Binary names place op left right)

pub choice_form : (names : List ℕ → Wired) (e test left right z x y : Expr) (place : Place) (c : Shape) → e ≡ Conditional place test left right → z ≡ test → x ≡ left → y ≡ right
    → choice_word (lowered names z) (lowered names x) (lowered names y) c ≡ (lowered names e).formed.gates c
choice_form names e test left right z x y place c is which one other =
    ap (λ (k : Expr). choice_word (lowered names k) (lowered names x) (lowered names y) c) which ∙ ap (λ (k : Expr). choice_word (lowered names test) (lowered names k) (lowered names y) c) one
    ∙ ap (λ (k : Expr). choice_word (lowered names test) (lowered names left) (lowered names k) c) other
    ∙ by_form names e (Conditional place test left right) _ c is (lowered-Conditional names place test left right)

-- ---- contexts

pub unary_fits : (op : Unary) (a c : Shape) (w : List ℕ) → length w ≡ (unary_context op a c).width → Fits (operand_family op) c w
unfolding unary_context
unary_fits op a c w = by (operand_family op)
  where
    by : (f : Family) → length w ≡ (left_in f a a c).width → Fits f c w
    by Contextual h = h
    by Compared h = tt
    by Alone h = tt
    by Leading h = tt

pub sides_alike : (op : Binary) (a b c : Shape) (x y : List ℕ) → length x ≡ (left_context op a b c).width → length y ≡ (right_context op a b c).width → AreAlike (family_of op) c x y
unfolding left_context right_context
sides_alike op a b c x y = by (family_of op)
  where
    by : (f : Family) → length x ≡ (left_in f a b c).width → length y ≡ (right_in f a b c).width → AreAlike f c x y
    by Contextual h k = (h, k)
    by Compared h k = h ∙ sym k
    by Alone h k = tt
    by Leading h k = h

-- ---- members

pub joined_first : (f : Expr → Lowered) (es : List Expr) (net : List Numbered) (all : List ℕ) → all ≡ [] → IsLeft (joined (map f es)) net net (under (reverse all) (joined (map f (drop 0 es))))
joined_first f es net all none = subst (λ (w : List ℕ). IsLeft (joined (map f es)) net net (under (reverse w) (joined (map f es)))) (sym none) (no_members (joined (map f es)) net)

pub joined_here : {whole : Build (List ℕ)} {old now : List Numbered} (f : Expr → Lowered) (es : List Expr) (i : ℕ) (x : Expr) (above : List ℕ) → i < length es → x ≡ get_or es i x
    → IsLeft whole old now (under above (joined (map f (drop i es)))) → IsLeft whole old now (built_alone (f x) >>= (λ top. under (top ++ above) (joined (map f (drop (i + 1) es)))))
unfolding joined
joined_here {whole} {old} {now} f es i x above inside is left =
    member_first above (built_alone (f x)) (joined (map f (drop (i + 1) es)))
    (subst (λ (ys : List Expr). IsLeft whole old now (under above (joined (map f ys)))) (drop-cons es i x inside ∙ (λ k. sym is k ∷ drop (sym (add-one i) k) es)) left)

pub joined_whole : {whole : Build (List ℕ)} {old now : List Numbered} (f : Expr → Lowered) (es : List Expr) (i : ℕ) (above : List ℕ) → length es ≤ i
    → IsLeft whole old now (under above (joined (map f (drop i es)))) → IsLeft whole old now (return above)
unfolding joined
joined_whole {whole} {old} {now} f es i above past left = all_members above (subst (λ (ys : List Expr). IsLeft whole old now (under above (joined (map f ys)))) (drop_all i es past) left)

-- the bits of one member more, from the top down
pub turned : (so_far bits back new : List ℕ) → back ≡ reverse bits → new ≡ so_far ++ back → reverse new ≡ bits ++ reverse so_far
turned so_far bits back new is sum = ap reverse (sum ∙ ap (λ (w : List ℕ). so_far ++ w) is) ∙ reverse-append so_far (reverse bits) ∙ ap (λ (w : List ℕ). w ++ reverse so_far) (reverse-reverse bits)

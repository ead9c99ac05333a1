-- Serves specs/Laws.antt: what is put in is worth what the expression was worth.
use Rattle.std.proofs.Common.{◌≡◌, ℕ, ◌+◌, ◌-◌, ◌*◌, ◌/◌, ◌%◌, ◌^◌, ◌<◌, ◌≤◌, Bool, true, false, not, ◌&&◌, ◌||◌, nat_le, nat_lt, if◌then◌else◌, List, [], ◌∷◌, map, Option, Some, None, Ok, Err, refl, sym, ap, subst, ◌∙◌, arith, mod-lt, pow_pos}
use Rattle.std.proofs.lemmas.Bool.Decides.{nat_tests}
use Rattle.rdc_outside.specs.declared.source.Place.{Place}
use Rattle.vlog_tree.specs.declared.expr.Expr.{Expr, ind-Expr, map-Expr, roll-Expr}
use Rattle.vlog_tree.specs.declared.expr.Expr.TheOpen.{Expr-F}
use Rattle.vlog_tree.specs.declared.expr.Expr.TheVariants.{Number, Name, Index, Select, Brackets, Concat, Repeat, Unary, Binary, Conditional, rolls-Number, rolls-Name, rolls-Index, rolls-Select, rolls-Brackets, rolls-Concat, rolls-Repeat, rolls-Unary, rolls-Binary, rolls-Conditional}
use Rattle.vlog_tree.specs.declared.expr.Part.{Part}
use Rattle.vlog_tree.specs.declared.expr.Part.TheVariants.{Fixed, Up, Down}
use Rattle.vlog_tree.specs.declared.operator.Unary as u
use Rattle.vlog_tree.specs.declared.operator.Binary as b
use Rattle.vlog_const.specs.declared.shape.Shape.{Shape}
use Rattle.vlog_const.specs.declared.answer.ConstValue.{ConstValue}
use Rattle.vlog_const.specs.declared.answer.ConstFault.{ConstFault}
use Rattle.vlog_const.specs.declared.answer.ConstFault.TheVariants.{NotConstant}
use Rattle.vlog_const.specs.declared.whole.Whole.{Whole}
use Rattle.vlog_const.specs.Names.{Values, no_values}
use Rattle.vlog_const.specs.Widths.{unsigned}
use Rattle.vlog_const.specs.Words.{low, is_negative, extended}
use Rattle.vlog_const.specs.Worths as w
use Rattle.vlog_const.specs.Worths.{Worth, alone, narrow, settled, in_context, is_true, number, looked_up, shape_of, valued}
use Rattle.vlog_const.specs.Selects.{whole, counted, span, lowered, window, part_start, part_width, joined, nothing, index_worth, select_worth, concat_worth, repeat_worth}
use Rattle.vlog_const.specs.Selects as s
use Rattle.vlog_const.specs.Operations.{unary_worth, binary_worth, choice_worth}
use Rattle.vlog_const.specs.Constants.{worth, value_of}
use Rattle.design_form.proofs.SettledWords.{low-id}
use Rattle.design_form.proofs.WorthForms.{worth-Number, worth-Name, worth-Index, worth-Select, worth-Brackets, worth-Concat, worth-Repeat, worth-Unary, worth-Binary, worth-Conditional, narrow_gives}
use Rattle.design_form.proofs.WorthForms as c
use Rattle.elab_names.specs.declared.fault.ElabFault.TheVariants.{BadRange, NotBuilt}
use Rattle.elab_names.specs.declared.meaning.Meaning.{Meaning}
use Rattle.elab_names.specs.declared.meaning.Meaning.TheVariants.{Constant, Signal, Other}
use Rattle.elab_names.specs.Answers.{Or_fault, and_then, gathered, lifted}
use Rattle.elab_names.specs.Meanings.{Frames, found}
use Rattle.elab_names.specs.Selects.{as_number, holds_name, piece, position, bit_in, fits, start_of, count_of, part_of, is_variable, part_in}
use Rattle.elab_names.specs.Expressions.{meant, named, indexed, selected, put_in}
use Rattle.elab_names.specs.Laws.{constant_of, constants_of, IsValue, HoldValues}
use Rattle.elab_names.proofs.AnswerLemmas.{same_answer, first_step, lifted_tells}
use Rattle.elab_names.proofs.PutForms.{put-Number, put-Name, put-Index, put-Select, put-Brackets, put-Concat, put-Repeat, put-Unary, put-Binary, put-Conditional}

-- ---- tests

unless : {A : Type 0} (t : Bool) (r : Or_fault A) (q : Or_fault A) (x : A) → (if t then r else q) ≡ Ok x → ((y : A) → r ≡ Ok y → ⊥) → (t ≡ false) × (q ≡ Ok x)
unless true r q x h never = absurd (never x h)
unless false r q x h never = (refl, h)

either : (a b : Bool) → (a || b) ≡ false → (a ≡ false) × (b ≡ false)
either true b h = absurd cc
either false b h = (refl, h)

negated_is : (a : Bool) → not a ≡ false → a ≡ true
negated_is true h = refl
negated_is false h = absurd cc

both : (a b : Bool) → (a && b) ≡ true → (a ≡ true) × (b ≡ true)
both true b h = (refl, h)
both false b h = absurd cc

at_most : (a b : ℕ) → nat_le a b ≡ true → a ≤ b
at_most a b h = grind (arith, nat_tests)

less : (a b : ℕ) → nat_lt a b ≡ true → a < b
less a b h = grind (arith, nat_tests)

within : (a b : ℕ) → a ≤ b → nat_le a b ≡ true
within a b h = grind (arith, nat_tests)

-- ---- values

unfilled : (b : Bool) (x w : ℕ) → (if b then x + (2 ^ w - 2 ^ w) else x) ≡ x
unfilled true x w = omega arith
unfilled false x w = refl

own_context : (s : Shape) (x : ℕ) → x < 2 ^ s.width → low s.width (extended s.width s x) ≡ x
unfolding extended
own_context s x h =
    let inner = unfilled (is_negative s.signed s.width x) x s.width in
    let small = low-id s.width x h in
    ap (λ (k : ℕ). k % 2 ^ s.width % 2 ^ s.width) inner ∙ ap (λ (k : ℕ). k % 2 ^ s.width) small ∙ small

settled_is : (place : Place) (s : Shape) (x : ℕ) → s.width ≤ 128 → x < 2 ^ s.width → settled place s x ≡ Ok (w.fixed place s x)
unfolding settled
settled_is place s x few small =
    c.then_step (narrow place s.width) (λ k. Ok (w.fixed place s (low s.width x))) s.width (narrow_gives place s.width few)
    ∙ ap (λ (k : ℕ). Ok (w.fixed place s k)) (low-id s.width x small)

-- a select of a constant is one of its own bits
selected_is : (values : Values) (place : Place) (name : List ℕ) (v : ConstValue) → values name ≡ Some v → IsValue v → s.selected values place name ≡ Ok v
unfolding s.selected w.named looked_up alone in_context w.and_then
selected_is values place name v is holds =
    ap (λ (o : Option ConstValue). w.and_then (w.and_then (looked_up place o) (λ x. settled place (shape_of x) x.bits)) alone) is
    ∙ ap (λ (r : w.Or_fault Worth). w.and_then r alone) (settled_is place (shape_of v) v.bits holds.width holds.bits)
    ∙ ap (λ (k : ℕ). let q : w.Or_fault ConstValue = Ok (record { bits = k; width = v.width; signed = v.signed }) in q) (own_context (shape_of v) v.bits holds.bits)

selected_none : (values : Values) (place : Place) (name : List ℕ) → values name ≡ None → s.selected values place name ≡ Err (NotConstant place)
unfolding s.selected w.named looked_up w.and_then
selected_none values place name is = ap (λ (o : Option ConstValue). w.and_then (w.and_then (looked_up place o) (λ x. settled place (shape_of x) x.bits)) alone) is

-- what a piece is worth as a number
piece_worth : (place : Place) (v : ConstValue) (start n : ℕ) → n ≤ 128 → worth no_values (as_number place (piece v start n)) ≡ Ok (w.fixed place (unsigned n) (low n (v.bits / 2 ^ start)))
unfolding number
piece_worth place v start n few = worth-Number no_values place _ ∙ settled_is place (unsigned n) (low n (v.bits / 2 ^ start)) few (mod-lt _ (pow_pos n))

-- ---- steps

-- what a part is asked for that has a value
asked : {A : Type 0} (r : w.Or_fault Worth) (n : ConstValue) (g : ConstValue → w.Or_fault A) → w.and_then r alone ≡ Ok n → w.and_then r (λ a. w.and_then (alone a) g) ≡ g n
unfolding w.and_then
asked (Ok a) n g h = c.then_step (alone a) g n h
asked (Err fault) n g h = absurd cc

err_step : {A B : Type 0} (r : w.Or_fault A) (g : A → w.Or_fault B) (fault : ConstFault) → r ≡ Err fault → w.and_then r g ≡ Err fault
unfolding w.and_then
err_step r g fault h = ap (λ q. w.and_then q g) h

-- ---- parts of a constant

-- a part of a constant, between two numbers
abbrev reach : Place → ConstValue → Part → Whole → Whole → w.Or_fault Worth
reach place v how i j = w.and_then (narrow place (part_width how i j)) (λ n. Ok (w.fixed place (unsigned n) (window v.bits (part_start how i j) n)))

-- a part that a constant has, between numbers that are not below 0
part_worth : (place : Place) (v : ConstValue) (how : Part) (i j : ℕ) → v.width ≤ 128 → fits how v.width i j ≡ true
    → worth no_values (as_number place (piece v (start_of how i j) (count_of how i j))) ≡ reach place v how (record { negative = false; magnitude = i }) (record { negative = false; magnitude = j })
unfolding fits start_of count_of part_width part_start span lowered window
part_worth place v Fixed i j few has =
    let parts = both (nat_le j i) (nat_lt i v.width) has in
    let under : i < v.width = less i v.width parts.1 in
    let most : (i + 1) - j ≤ 128 = omega arith in
    piece_worth place v j ((i + 1) - j) most
    ∙ sym (c.then_step (narrow place ((i + 1) - j)) (λ n. Ok (w.fixed place (unsigned n) (low n (v.bits / 2 ^ j)))) ((i + 1) - j) (narrow_gives place ((i + 1) - j) most))
part_worth place v Up i j few has =
    let parts = both (nat_le 1 j) (nat_le (i + j) v.width) has in
    let under : i + j ≤ v.width = at_most (i + j) v.width parts.1 in
    let most : j ≤ 128 = omega arith in
    piece_worth place v i j most
    ∙ sym (c.then_step (narrow place j) (λ n. Ok (w.fixed place (unsigned n) (low n (v.bits / 2 ^ i)))) j (narrow_gives place j most))
part_worth place v Down i j few has =
    let parts = both (nat_le 1 j) (nat_le j (i + 1) && nat_lt i v.width) has in
    let ends = both (nat_le j (i + 1)) (nat_lt i v.width) parts.1 in
    let some : 1 ≤ j = at_most 1 j parts.0 in
    let inside : j ≤ i + 1 = at_most j (i + 1) ends.0 in
    let under : i < v.width = less i v.width ends.1 in
    let most : j ≤ 128 = omega arith in
    let start : i - (j - 1) ≡ (i + 1) - j = omega arith in
    let from : Whole → w.Or_fault Worth = λ p. w.and_then (narrow place j) (λ n. Ok (w.fixed place (unsigned n) (low n (if p.negative then v.bits * 2 ^ p.magnitude else v.bits / 2 ^ p.magnitude)))) in
    let below : Whole = record { negative = true; magnitude = (j - 1) - i } in
    let at : ℕ → Whole = λ m. record { negative = false; magnitude = m } in
    piece_worth place v ((i + 1) - j) j most
    ∙ sym (ap (λ (t : Bool). from (if t then at (i - (j - 1)) else below)) (within (j - 1) i (omega arith))
    ∙ ap (λ (m : ℕ). from (at m)) start
    ∙ c.then_step (narrow place j) (λ n. Ok (w.fixed place (unsigned n) (low n (v.bits / 2 ^ ((i + 1) - j))))) j (narrow_gives place j most))

-- a number that is not below 0
upward : (a : Whole) → a.negative ≡ false → a ≡ record { negative = false; magnitude = a.magnitude }
upward a h = ap (λ (t : Bool). let q : Whole = record { negative = t; magnitude = a.magnitude } in q) h

part_of_worth : (place : Place) (v : ConstValue) (how : Part) (i j : Whole) (p : ConstValue) → v.width ≤ 128 → part_of place v how i j ≡ Ok p → worth no_values (as_number place p) ≡ reach place v how i j
unfolding part_of
part_of_worth place v how i j p few is =
    let guard = unless ((i.negative || j.negative) || not (fits how v.width i.magnitude j.magnitude)) _ _ p is (λ y h. cc) in
    let tests = either (i.negative || j.negative) (not (fits how v.width i.magnitude j.magnitude)) guard.0 in
    let signs = either i.negative j.negative tests.0 in
    let same = same_answer (Ok (piece v (start_of how i.magnitude j.magnitude) (count_of how i.magnitude j.magnitude))) _ p refl guard.1 in
    ap (λ (x : ConstValue). worth no_values (as_number place x)) (sym same)
    ∙ part_worth place v how i.magnitude j.magnitude few (negated_is (fits how v.width i.magnitude j.magnitude) tests.1)
    ∙ ap (λ (x : Whole). reach place v how x (record { negative = false; magnitude = j.magnitude })) (sym (upward i signs.0))
    ∙ ap (λ (y : Whole). reach place v how i y) (sym (upward j signs.1))

bit_worth : (place : Place) (v : ConstValue) (i : Whole) (start : ℕ) → position place v.width i ≡ Ok start → worth no_values (as_number place (piece v start 1)) ≡ Ok (w.fixed place (unsigned 1) (window v.bits i 1))
unfolding position window
bit_worth place v i start is =
    let guard = unless (i.negative || not (nat_lt i.magnitude v.width)) _ _ start is (λ y h. cc) in
    let tests = either i.negative (not (nat_lt i.magnitude v.width)) guard.0 in
    let same = same_answer (Ok i.magnitude) i.magnitude start refl guard.1 in
    piece_worth place v start 1 (omega arith)
    ∙ ap (λ (m : ℕ). Ok (w.fixed place (unsigned 1) (low 1 (v.bits / 2 ^ m)))) (sym same)
    ∙ ap (λ (t : Bool). Ok (w.fixed place (unsigned 1) (low 1 (if t then v.bits * 2 ^ i.magnitude else v.bits / 2 ^ i.magnitude)))) (sym tests.0)

-- ---- the induction

module _ (frames : Frames) (hold : HoldValues frames) where
  abbrev values : Values
  values = constants_of frames

  abbrev IsSo : Expr → Type 0
  IsSo e = (x : Expr) → put_in frames e ≡ Ok x → worth no_values x ≡ worth values e

  abbrev So : Type 0
  So = (e : Expr) × IsSo e

  means : (name : List ℕ) (m : Option Meaning) → found frames name ≡ m → values name ≡ constant_of m
  means name m e = ap constant_of e

  -- the same of a name
  of_name : (place : Place) (name : List ℕ) (x : Expr) (m : Option Meaning) → found frames name ≡ m → and_then (meant place name m) (named place) ≡ Ok x → worth no_values x ≡ worth values (Name place name)
  unfolding meant named constant_of number w.named looked_up and_then w.and_then
  of_name place name x None e h = absurd cc
  of_name place name x (Some Other) e h = absurd cc
  of_name place name x (Some (Constant v)) e h =
      ap (worth no_values) (sym (same_answer (Ok (as_number place v)) (as_number place v) x refl h)) ∙ worth-Number no_values place _
      ∙ sym (worth-Name values place name ∙ ap (λ (o : Option ConstValue). w.and_then (looked_up place o) (λ q. settled place (shape_of q) q.bits)) (means name _ e))
  of_name place name x (Some (Signal t)) e h =
      ap (worth no_values) (sym (same_answer (Ok (Name place t.printed)) (Name place t.printed) x refl h)) ∙ worth-Name no_values place t.printed
      ∙ sym (worth-Name values place name ∙ ap (λ (o : Option ConstValue). w.and_then (looked_up place o) (λ q. settled place (shape_of q) q.bits)) (means name _ e))

  -- of name [ i ]
  bit_case : (place : Place) (name : List ℕ) (m : So) (x : Expr) (v : ConstValue) → found frames name ≡ Some (Constant v) → and_then (put_in frames m.0) (bit_in place v) ≡ Ok x → worth no_values x ≡ worth values (Index place name m.0)
  unfolding bit_in value_of constant_of index_worth worth
  bit_case place name m x v e h =
      let last : ConstValue → w.Or_fault Worth = λ at. Ok (index_worth place v at) in
      let first = first_step (put_in frames m.0) (bit_in place v) x h in
      let guard = unless (holds_name first.0) _ _ x first.1.1 (λ y k. cc) in
      let second = first_step (lifted (value_of no_values first.0)) (λ at. and_then (position place v.width (whole at)) (λ start. Ok (as_number place (piece v start 1)))) x guard.1 in
      let third = first_step (position place v.width (whole second.0)) (λ start. Ok (as_number place (piece v start 1))) x second.1.1 in
      let same = same_answer (Ok (as_number place (piece v third.0 1))) (as_number place (piece v third.0 1)) x refl third.1.1 in
      let value = lifted_tells (value_of no_values first.0) second.0 second.1.0 in
      ap (worth no_values) (sym same) ∙ bit_worth place v (whole second.0) third.0 third.1.0
      ∙ sym (worth-Index values place name m.0
      ∙ c.then_step (s.selected values place name) (λ q. w.and_then (worth values m.0) (λ b. w.and_then (alone b) (λ at. Ok (index_worth place q at)))) v (selected_is values place name v (means name _ e) (hold name v e))
      ∙ ap (λ (r : w.Or_fault Worth). w.and_then r (λ b. w.and_then (alone b) last)) (sym (m.1 first.0 first.1.0))
      ∙ asked (worth no_values first.0) second.0 last value)

  of_index : (place : Place) (name : List ℕ) (i : So) (x : Expr) (m : Option Meaning) → found frames name ≡ m → and_then (meant place name m) (λ q. and_then (put_in frames i.0) (indexed place q)) ≡ Ok x
      → worth no_values x ≡ worth values (Index place name i.0)
  unfolding meant indexed constant_of and_then
  of_index place name i x None e h = absurd cc
  of_index place name i x (Some Other) e h = absurd cc
  of_index place name i x (Some (Constant v)) e h = bit_case place name i x v e h
  of_index place name i x (Some (Signal t)) e h =
      let rest : Expr → ConstValue → w.Or_fault Worth = λ a q. w.and_then (worth no_values a) (λ b. w.and_then (alone b) (λ at. Ok (index_worth place q at))) in
      let first = first_step (put_in frames i.0) (λ a. Ok (Index place t.printed a)) x h in
      let same = same_answer (Ok (Index place t.printed first.0)) (Index place t.printed first.0) x refl first.1.1 in
      ap (worth no_values) (sym same) ∙ worth-Index no_values place t.printed first.0
      ∙ err_step (s.selected no_values place t.printed) (rest first.0) (NotConstant place) (selected_none no_values place t.printed refl)
      ∙ sym (worth-Index values place name i.0
      ∙ err_step (s.selected values place name) (λ q. w.and_then (worth values i.0) (λ b. w.and_then (alone b) (λ at. Ok (index_worth place q at)))) (NotConstant place) (selected_none values place name (means name _ e)))

  -- of name [ i : j ] and its like
  piece_case : (place : Place) (name : List ℕ) (how : Part) (i j : So) (x : Expr) (v : ConstValue) → found frames name ≡ Some (Constant v)
      → and_then (put_in frames i.0) (λ a. and_then (put_in frames j.0) (part_in place v how a)) ≡ Ok x → worth no_values x ≡ worth values (Select how place name i.0 j.0)
  unfolding part_in value_of constant_of select_worth
  piece_case place name how i j x v e h =
      let all : ConstValue → ConstValue → ConstValue → w.Or_fault Worth = λ q m n. select_worth place q how m n in
      let first = first_step (put_in frames i.0) (λ a. and_then (put_in frames j.0) (part_in place v how a)) x h in
      let second = first_step (put_in frames j.0) (part_in place v how first.0) x first.1.1 in
      let guard = unless (is_variable how first.0) _ _ x second.1.1 (λ y k. cc) in
      let chosen : ConstValue → ConstValue → Or_fault Expr = λ m n. and_then (part_of place v how (whole m) (whole n)) (λ p. Ok (as_number place p)) in
      let third = first_step (lifted (value_of no_values first.0)) (λ m. and_then (lifted (value_of no_values second.0)) (chosen m)) x guard.1 in
      let fourth = first_step (lifted (value_of no_values second.0)) (chosen third.0) x third.1.1 in
      let fifth = first_step (part_of place v how (whole third.0) (whole fourth.0)) (λ p. Ok (as_number place p)) x fourth.1.1 in
      let same = same_answer (Ok (as_number place fifth.0)) (as_number place fifth.0) x refl fifth.1.1 in
      let from = lifted_tells (value_of no_values first.0) third.0 third.1.0 in
      let to = lifted_tells (value_of no_values second.0) fourth.0 fourth.1.0 in
      ap (worth no_values) (sym same) ∙ part_of_worth place v how (whole third.0) (whole fourth.0) fifth.0 (hold name v e).width fifth.1.0
      ∙ sym (worth-Select values place name how i.0 j.0
      ∙ c.then_step (s.selected values place name) (λ q. w.and_then (worth values i.0) (λ a. w.and_then (alone a) (λ m. w.and_then (worth values j.0) (λ b. w.and_then (alone b) (all q m))))) v (selected_is values place name v (means name _ e) (hold name v e))
      ∙ ap (λ (r : w.Or_fault Worth). w.and_then r (λ a. w.and_then (alone a) (λ m. w.and_then (worth values j.0) (λ b. w.and_then (alone b) (all v m))))) (sym (i.1 first.0 first.1.0))
      ∙ asked (worth no_values first.0) third.0 (λ m. w.and_then (worth values j.0) (λ b. w.and_then (alone b) (all v m))) from
      ∙ ap (λ (r : w.Or_fault Worth). w.and_then r (λ b. w.and_then (alone b) (all v third.0))) (sym (j.1 second.0 second.1.0))
      ∙ asked (worth no_values second.0) fourth.0 (all v third.0) to)

  of_select : (place : Place) (name : List ℕ) (how : Part) (i j : So) (x : Expr) (m : Option Meaning) → found frames name ≡ m
      → and_then (meant place name m) (λ q. and_then (put_in frames i.0) (λ a. and_then (put_in frames j.0) (selected place q how a))) ≡ Ok x → worth no_values x ≡ worth values (Select how place name i.0 j.0)
  unfolding meant selected constant_of and_then
  of_select place name how i j x None e h = absurd cc
  of_select place name how i j x (Some Other) e h = absurd cc
  of_select place name how i j x (Some (Constant v)) e h = piece_case place name how i j x v e h
  of_select place name how i j x (Some (Signal t)) e h =
      let all : Values → Expr → Expr → ConstValue → w.Or_fault Worth = λ vs a b q. w.and_then (worth vs a) (λ p. w.and_then (alone p) (λ m. w.and_then (worth vs b) (λ r. w.and_then (alone r) (λ n. select_worth place q how m n)))) in
      let first = first_step (put_in frames i.0) (λ a. and_then (put_in frames j.0) (λ b. Ok (Select how place t.printed a b))) x h in
      let second = first_step (put_in frames j.0) (λ b. Ok (Select how place t.printed first.0 b)) x first.1.1 in
      let same = same_answer (Ok (Select how place t.printed first.0 second.0)) (Select how place t.printed first.0 second.0) x refl second.1.1 in
      ap (worth no_values) (sym same) ∙ worth-Select no_values place t.printed how first.0 second.0
      ∙ err_step (s.selected no_values place t.printed) (all no_values first.0 second.0) (NotConstant place) (selected_none no_values place t.printed refl)
      ∙ sym (worth-Select values place name how i.0 j.0
      ∙ err_step (s.selected values place name) (all values i.0 j.0) (NotConstant place) (selected_none values place name (means name _ e)))

  -- of members
  members : (es : List So) (xs : List Expr) → gathered (map (put_in frames) (map (λ p. p.0) es)) ≡ Ok xs → map (worth no_values) xs ≡ map (worth values) (map (λ p. p.0) es)
  unfolding gathered and_then
  members [] xs h = ap (λ (ys : List Expr). map (worth no_values) ys) (sym (same_answer (Ok []) [] xs refl h))
  members (m ∷ es) xs h =
      let rest = gathered (map (put_in frames) (map (λ p. p.0) es)) in
      let first = first_step (put_in frames m.0) (λ a. and_then rest (λ ys. Ok (a ∷ ys))) xs h in
      let second = first_step rest (λ ys. Ok (first.0 ∷ ys)) xs first.1.1 in
      let same = same_answer (Ok (first.0 ∷ second.0)) (first.0 ∷ second.0) xs refl second.1.1 in
      ap (λ (ys : List Expr). map (worth no_values) ys) (sym same)
      ∙ ap (λ (r : w.Or_fault Worth). r ∷ map (worth no_values) second.0) (m.1 first.0 first.1.0)
      ∙ ap (λ (rs : List (w.Or_fault Worth)). worth values m.0 ∷ rs) (members es second.0 second.1.0)

  of_brackets : (place : Place) (m : So) → IsSo (Brackets place m.0)
  of_brackets place m x is =
      let h = sym (put-Brackets frames place m.0) ∙ is in
      let first = first_step (put_in frames m.0) (λ a. Ok (Brackets place a)) x h in
      let same = same_answer (Ok (Brackets place first.0)) (Brackets place first.0) x refl first.1.1 in
      ap (worth no_values) (sym same) ∙ worth-Brackets no_values place first.0
      ∙ ap (λ (r : w.Or_fault Worth). w.and_then r (λ a. Ok (record a { place = place }))) (m.1 first.0 first.1.0) ∙ sym (worth-Brackets values place m.0)

  of_concat : (place : Place) (es : List So) → IsSo (Concat place (map (λ p. p.0) es))
  of_concat place es x is =
      let h = sym (put-Concat frames place (map (λ p. p.0) es)) ∙ is in
      let first = first_step (gathered (map (put_in frames) (map (λ p. p.0) es))) (λ xs. Ok (Concat place xs)) x h in
      let same = same_answer (Ok (Concat place first.0)) (Concat place first.0) x refl first.1.1 in
      ap (worth no_values) (sym same) ∙ worth-Concat no_values place first.0
      ∙ ap (concat_worth place) (members es first.0 first.1.0) ∙ sym (worth-Concat values place (map (λ p. p.0) es))

  of_repeat : (place : Place) (k : So) (es : List So) → IsSo (Repeat place k.0 (map (λ p. p.0) es))
  of_repeat place k es x is =
      let h = sym (put-Repeat frames place k.0 (map (λ p. p.0) es)) ∙ is in
      let rest = gathered (map (put_in frames) (map (λ p. p.0) es)) in
      let first = first_step (put_in frames k.0) (λ n. and_then rest (λ xs. Ok (Repeat place n xs))) x h in
      let second = first_step rest (λ xs. Ok (Repeat place first.0 xs)) x first.1.1 in
      let same = same_answer (Ok (Repeat place first.0 second.0)) (Repeat place first.0 second.0) x refl second.1.1 in
      let copies : w.Or_fault Worth → List (w.Or_fault Worth) → w.Or_fault Worth = λ r rs. w.and_then r (λ a. w.and_then (alone a) (λ m. w.and_then (joined place nothing rs) (λ v. repeat_worth place m v))) in
      ap (worth no_values) (sym same) ∙ worth-Repeat no_values place first.0 second.0
      ∙ ap (λ (r : w.Or_fault Worth). copies r (map (worth no_values) second.0)) (k.1 first.0 first.1.0)
      ∙ ap (copies (worth values k.0)) (members es second.0 second.1.0) ∙ sym (worth-Repeat values place k.0 (map (λ p. p.0) es))

  of_unary : (place : Place) (op : u.Unary) (m : So) → IsSo (Unary place op m.0)
  of_unary place op m x is =
      let h = sym (put-Unary frames place op m.0) ∙ is in
      let first = first_step (put_in frames m.0) (λ a. Ok (Unary place op a)) x h in
      let same = same_answer (Ok (Unary place op first.0)) (Unary place op first.0) x refl first.1.1 in
      ap (worth no_values) (sym same) ∙ worth-Unary no_values place op first.0
      ∙ ap (λ (r : w.Or_fault Worth). w.and_then r (λ a. unary_worth place op a)) (m.1 first.0 first.1.0) ∙ sym (worth-Unary values place op m.0)

  of_binary : (place : Place) (op : b.Binary) (l r : So) → IsSo (Binary place op l.0 r.0)
  of_binary place op l r x is =
      let h = sym (put-Binary frames place op l.0 r.0) ∙ is in
      let first = first_step (put_in frames l.0) (λ p. and_then (put_in frames r.0) (λ q. Ok (Binary place op p q))) x h in
      let second = first_step (put_in frames r.0) (λ q. Ok (Binary place op first.0 q)) x first.1.1 in
      let same = same_answer (Ok (Binary place op first.0 second.0)) (Binary place op first.0 second.0) x refl second.1.1 in
      let whole_of : w.Or_fault Worth → w.Or_fault Worth → w.Or_fault Worth = λ p q. w.and_then p (λ a. w.and_then q (λ d. binary_worth place op a d)) in
      ap (worth no_values) (sym same) ∙ worth-Binary no_values place op first.0 second.0
      ∙ ap (λ (p : w.Or_fault Worth). whole_of p (worth no_values second.0)) (l.1 first.0 first.1.0)
      ∙ ap (whole_of (worth values l.0)) (r.1 second.0 second.1.0) ∙ sym (worth-Binary values place op l.0 r.0)

  of_choice : (place : Place) (t l r : So) → IsSo (Conditional place t.0 l.0 r.0)
  of_choice place t l r x is =
      let h = sym (put-Conditional frames place t.0 l.0 r.0) ∙ is in
      let first = first_step (put_in frames t.0) (λ o. and_then (put_in frames l.0) (λ p. and_then (put_in frames r.0) (λ q. Ok (Conditional place o p q)))) x h in
      let second = first_step (put_in frames l.0) (λ p. and_then (put_in frames r.0) (λ q. Ok (Conditional place first.0 p q))) x first.1.1 in
      let third = first_step (put_in frames r.0) (λ q. Ok (Conditional place first.0 second.0 q)) x second.1.1 in
      let same = same_answer (Ok (Conditional place first.0 second.0 third.0)) (Conditional place first.0 second.0 third.0) x refl third.1.1 in
      let whole_of : w.Or_fault Worth → w.Or_fault Worth → w.Or_fault Worth → w.Or_fault Worth = λ o p q. w.and_then o (λ m. w.and_then (alone m) (λ v. w.and_then p (λ a. w.and_then q (λ d. Ok (choice_worth place (is_true v) a d))))) in
      ap (worth no_values) (sym same) ∙ worth-Conditional no_values place first.0 second.0 third.0
      ∙ ap (λ (o : w.Or_fault Worth). whole_of o (worth no_values second.0) (worth no_values third.0)) (t.1 first.0 first.1.0)
      ∙ ap (λ (p : w.Or_fault Worth). whole_of (worth values t.0) p (worth no_values third.0)) (l.1 second.0 second.1.0)
      ∙ ap (whole_of (worth values t.0) (worth values l.0)) (r.1 third.0 third.1.0) ∙ sym (worth-Conditional values place t.0 l.0 r.0)

  by_parts : (y : Expr-F So) → IsSo (roll-Expr (map-Expr So Expr (λ p. p.0) y))
  by_parts (Expr-F.Number place n) = subst IsSo (sym (rolls-Number place n)) (λ x is. ap (worth no_values) (sym (same_answer (Ok (Number place n)) (Number place n) x refl (sym (put-Number frames place n) ∙ is))) ∙ worth-Number no_values place n ∙ sym (worth-Number values place n))
  by_parts (Expr-F.Name place name) = subst IsSo (sym (rolls-Name place name)) (λ x is. of_name place name x (found frames name) refl (sym (put-Name frames place name) ∙ is))
  by_parts (Expr-F.Index place name i) = subst IsSo (sym (rolls-Index place name i.0)) (λ x is. of_index place name i x (found frames name) refl (sym (put-Index frames place name i.0) ∙ is))
  by_parts (Expr-F.Select how place name i j) = subst IsSo (sym (rolls-Select how place name i.0 j.0)) (λ x is. of_select place name how i j x (found frames name) refl (sym (put-Select frames how place name i.0 j.0) ∙ is))
  by_parts (Expr-F.Brackets place m) = subst IsSo (sym (rolls-Brackets place m.0)) (of_brackets place m)
  by_parts (Expr-F.Concat place es) = subst IsSo (sym (rolls-Concat place (map (λ p. p.0) es))) (of_concat place es)
  by_parts (Expr-F.Repeat place k es) = subst IsSo (sym (rolls-Repeat place k.0 (map (λ p. p.0) es))) (of_repeat place k es)
  by_parts (Expr-F.Unary place op m) = subst IsSo (sym (rolls-Unary place op m.0)) (of_unary place op m)
  by_parts (Expr-F.Binary place op l r) = subst IsSo (sym (rolls-Binary place op l.0 r.0)) (of_binary place op l r)
  by_parts (Expr-F.Conditional place t l r) = subst IsSo (sym (rolls-Conditional place t.0 l.0 r.0)) (of_choice place t l r)

  pub kept : (e : Expr) → IsSo e
  kept e = ind-Expr IsSo (λ x y is. subst (λ z. IsSo (roll-Expr z)) is (by_parts y)) e

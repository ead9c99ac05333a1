-- Serves contexts: an expression in a context that covers it, and its OR with nothing.
use Rattle.std.proofs.Common.{◌≡◌, ℕ, zero, suc, ◌-◌, ◌≤◌, max, Bool, true, false, ◌&&◌, List, [], ◌∷◌, ◌++◌, length, take, replicate, refl, sym, ap, ◌∙◌, subst, arith}
use Rattle.std.proofs.Math.Bool.{beq}
use Rattle.std.proofs.Math.Seq.{take-nil}
use Rattle.std.proofs.Math.Nat.{sub-zero}
use Rattle.rdc_outside.specs.declared.source.Place.{Place}
use Rattle.vlog_tree.specs.declared.expr.Expr.{Expr}
use Rattle.vlog_tree.specs.declared.expr.Expr.TheVariants as e
use Rattle.vlog_tree.specs.declared.number.Number.{Number}
use Rattle.vlog_tree.specs.declared.number.Base.TheVariants.{Decimal}
use Rattle.vlog_tree.specs.declared.operator.Binary.TheVariants as binary
use Rattle.rdc_tern.specs.declared.value.Tern.{Tern}
use Rattle.rdc_tern.specs.declared.value.Tern.TheVariants.{Zero}
use Rattle.rdc_tern.specs.Kleene.{or_of}
use Rattle.rdc_tern.proofs.GateLemmas.{or_zero}
use Rattle.vlog_const.specs.declared.shape.Shape.{Shape}
use Rattle.vlog_const.specs.Widths.{common, within, binary_shape, family_of, left_context, right_context}
use Rattle.vlog_const.specs.Operations.{is_division, is_power}
use Rattle.design_form.specs.declared.parts.Parts.{Parts}
use Rattle.design_form.specs.Bits.{bits, each, extended, fill_of}
use Rattle.design_form.specs.Gates.{gate_of, arithmetic, between_in}
use Rattle.design_form.specs.Selects.{Seen}
use Rattle.design_form.specs.State.{seen_in}
use Rattle.design_form.specs.Values.{Valued, valued, word_in, word_within, binary_word, binary_valued, is_computed, fixed}
use Rattle.design_form.proofs.ValueLemmas.{valued-Binary, valued-Number}
use Rattle.design_form.proofs.WidthLemmas.{length-word_in}
use Rattle.design_sizes.specs.Sizes.{shape_of}
use Rattle.proc_values.specs.Covers.{Covers, nothing}
use Rattle.proc_values.proofs.ShapeLemmas.{same_shape}

pub same_sign : (a b : Bool) → beq a b ≡ true → a ≡ b
same_sign true true h = refl
same_sign true false h = absurd (cc)
same_sign false true h = absurd (cc)
same_sign false false h = refl

wide_as : (c s : Shape) (b : Bool) → Covers c s → b ≡ c.signed → record { width = max s.width c.width; signed = b } ≡ c
wide_as c s b covers sign =
    let wide : max s.width c.width ≡ c.width = omega (arith, covers.width) in
    (λ k. record { width = wide k; signed = sign k })

-- by its own sign
pub own_word : (d : Parts) (a : List Tern) (c own : Shape) (x : Expr) → own ≡ shape_of d x → Covers c (shape_of d x) → own.signed ≡ c.signed → word_within (seen_in d a) c.width x ≡ word_in (seen_in d a) c x
own_word d a c own x is covers sign =
    let shape = same_shape d a x in
    ap (λ (s : Shape). word_in (seen_in d a) (within c.width s) x) shape
    ∙ ap (λ (s : Shape). word_in (seen_in d a) s x) (wide_as c (shape_of d x) (shape_of d x).signed covers (ap (λ (s : Shape). s.signed) (sym is) ∙ sign))

or_nothing : (x : List Tern) (n : ℕ) → length x ≡ n → each (gate_of binary.Or) x (replicate n Zero) ≡ x
unfolding each gate_of
or_nothing [] zero wide = refl
or_nothing [] (suc n) wide = absurd (omega (arith, wide))
or_nothing (t ∷ x) zero wide = absurd (omega (arith, wide))
or_nothing (t ∷ x) (suc n) wide = (λ k. or_zero t k ∷ or_nothing x n (omega (arith, wide)) k)

fill_nothing : (signed : Bool) → fill_of signed [] ≡ Zero
unfolding fill_of
fill_nothing true = refl
fill_nothing false = refl

no_bits : (c : Shape) → extended c [] ≡ replicate c.width Zero
unfolding extended
no_bits c = (λ k. take-nil c.width k ++ replicate (c.width - 0) (fill_nothing c.signed k)) ∙ ap (λ (n : ℕ). replicate n Zero) (sub-zero c.width)

and_false : (b : Bool) → (b && false) ≡ false
and_false true = refl
and_false false = refl

or_context : (c s : Shape) → Covers c s → c.signed ≡ false → record { width = max (max s.width 0) c.width; signed = s.signed && false } ≡ c
or_context c s covers sign =
    let wide : max (max s.width 0) c.width ≡ c.width = omega (arith, covers.width) in
    (λ k. record { width = wide k; signed = (and_false s.signed ∙ sym sign) k })

or_gates : (v : Valued) (x : Expr) (place : Place) (c : Shape) → (binary_valued (e.Binary place binary.Or x (e.Number place nothing)) binary.Or v (fixed (record { width = 0; signed = false }) [])).word c ≡ each (gate_of binary.Or) (v.word c) (extended c [])
unfolding binary_word is_computed is_division is_power between_in arithmetic family_of left_context right_context
or_gates v x place c = refl

-- its OR with nothing
pub or_word : (d : Parts) (a : List Tern) (c : Shape) (place : Place) (x : Expr) → Covers c (shape_of d x) → c.signed ≡ false
    → word_within (seen_in d a) c.width (e.Binary place binary.Or x (e.Number place nothing)) ≡ word_in (seen_in d a) c x
unfolding bits binary_shape family_of
or_word d a c place x covers sign =
    let names = seen_in d a in
    let whole = e.Binary place binary.Or x (e.Number place nothing) in
    let v = binary_valued whole binary.Or (valued names x) (fixed (record { width = 0; signed = false }) []) in
    let formed : valued names whole ≡ v = valued-Binary names place binary.Or x (e.Number place nothing) ∙ ap (binary_valued whole binary.Or (valued names x)) (valued-Number names place nothing) in
    ap (λ (u : Valued). u.word (within c.width u.shape)) formed
    ∙ ap (λ (s : Shape). v.word (record { width = max (max s.width 0) c.width; signed = s.signed && false })) (same_shape d a x)
    ∙ ap v.word (or_context c (shape_of d x) covers sign)
    ∙ or_gates (valued names x) x place c
    ∙ ap (λ (w : List Tern). each (gate_of binary.Or) (word_in names c x) w) (no_bits c)
    ∙ or_nothing (word_in names c x) c.width (length-word_in names x c)

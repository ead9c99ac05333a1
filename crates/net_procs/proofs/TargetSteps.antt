-- Serves src/targets.rt: how a select is written, by its index, and strokes that are there.
use Rattle.std.proofs.Common.{◌≡◌, ◌⊎◌, ℕ, List, All, Option, Some, None, Result, Ok, Err, IfOk, inl, inr, refl, sym, ap, subst}
use Rattle.vlog_tree.specs.declared.expr.Expr.{Expr}
use Rattle.vlog_tree.specs.declared.expr.Part.{Part}
use Rattle.vlog_tree.specs.declared.expr.Part.TheVariants.{Fixed, Up, Down}
use Rattle.vlog_const.specs.declared.whole.Whole.{Whole}
use Rattle.design_form.specs.declared.parts.Parts.{Parts}
use Rattle.design_form.specs.Values.{number_alone, count_alone}
use Rattle.elab_bits.specs.Selects.{all_bits, range_of, constant}
use Rattle.net_gates.specs.declared.fault.GateFault.{GateFault}
use Rattle.net_words.specs.Builds.{return}
use Rattle.proc_values.specs.Targets.{fixed_start}
use Rattle.net_procs.specs.declared.stroke.Stroke.{Stroke}
use Rattle.net_procs.specs.Ready.{IsStroke}
use Rattle.net_procs.specs.Targets.{at_start, onto_starts, onto_select, onto_part, select_strokes}

pub strokes_inside : {A : Type 0} (f : A → List Stroke) (count : ℕ) (x : List Stroke) (r : Result A GateFault) → IfOk r (λ ks. f ks ≡ x) → All (IsStroke count) x → IfOk r (λ ks. All (IsStroke count) (f ks))
strokes_inside f count x (Ok ks) is there = subst (λ (y : List Stroke). All (IsStroke count) y) (sym is) there
strokes_inside f count x (Err e) is there = tt

pub at_constant : (d : Parts) (nodes : List ℕ) (how : Part) (name : List ℕ) (o : Option Whole) (i : Whole) (e : Expr) (n : ℕ) (w : List ℕ) → o ≡ Some i
    → return (at_start (fixed_start how (range_of d.signals name) n i) (range_of d.signals name) (all_bits d.signals name) n w) ≡ onto_select d nodes how name o e n w
unfolding onto_select
at_constant d nodes how name o i e n w is = ap (λ (x : Option Whole). onto_select d nodes how name x e n w) (sym is)

pub at_index : (d : Parts) (nodes : List ℕ) (how : Part) (name : List ℕ) (o : Option Whole) (e : Expr) (n : ℕ) (w : List ℕ) → o ≡ None → onto_starts d nodes how name e n w ≡ onto_select d nodes how name o e n w
unfolding onto_select
at_index d nodes how name o e n w is = ap (λ (x : Option Whole). onto_select d nodes how name x e n w) (sym is)

pub written_fixed : (d : Parts) (nodes : List ℕ) (how : Part) (name : List ℕ) (i j : Expr) (w : List ℕ) → how ≡ Fixed
    → return (onto_part (range_of d.signals name) (all_bits d.signals name) (number_alone i) (number_alone j) w) ≡ select_strokes d nodes how name i j w
unfolding select_strokes
written_fixed d nodes how name i j w is = ap (λ (p : Part). select_strokes d nodes p name i j w) (sym is)

pub not_fixed : (how : Part) → (how ≡ Up) ⊎ (how ≡ Down) → how ≡ Fixed → ⊥
not_fixed how (inl up) fixed = absurd cc
not_fixed how (inr down) fixed = absurd cc

pub written_moving : (d : Parts) (nodes : List ℕ) (how : Part) (name : List ℕ) (i j : Expr) (n : ℕ) (w : List ℕ) → (how ≡ Fixed → ⊥) → n ≡ count_alone j
    → onto_select d nodes how name (constant i) i n w ≡ select_strokes d nodes how name i j w
unfolding select_strokes
written_moving d nodes Fixed name i j n w moves wide = absurd (moves refl)
written_moving d nodes Up name i j n w moves wide = ap (λ (k : ℕ). onto_select d nodes Up name (constant i) i k w) wide
written_moving d nodes Down name i j n w moves wide = ap (λ (k : ℕ). onto_select d nodes Down name (constant i) i k w) wide

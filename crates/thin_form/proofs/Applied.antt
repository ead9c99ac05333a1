-- Terms and the values on a stack, one term after another.
use Rattle.std.proofs.Common.{◌≡◌, ℕ, zero, suc, ◌+◌, ◌<◌, ◌≤◌, List, [], ◌∷◌, ◌++◌, length, get_or, reverse, drop, Option, Some, None, inl, inr, refl, sym, ap, subst, ◌∙◌, arith}
use Rattle.std.specs.List.{AllByRecursion}
use Rattle.std.proofs.lemmas.List.{get_or-map, drop_more, drop_all, length-append}
use Rattle.thin_form.specs.Formula as formula
use Rattle.thin_form.specs.Formula.{Formula}
use Rattle.thin_form.specs.Netlist.{formula_at, formula_of, formulas, IsGateBelow}
use Rattle.thin_form.specs.Walk.{IsIn}
use Rattle.thin_form.specs.Values.{after_term, after_terms, wires_in, sources_in, formulas_at, IsGrown, IsReadable}
use Rattle.thin_form.specs.declared.kind.Node.{Node}
use Rattle.thin_form.specs.declared.term.Term.{Term}
use Rattle.thin_form.specs.declared.term.Term.TheVariants.{Source, Wire, Not, And, Or}
use Rattle.thin_form.proofs.Ways.{end_first}
use Rattle.thin_form.proofs.Formulas.{kept_formula, new_formula, kept_formulas, still_below, longer, grown_by}

abbrev AreBelow : List Node → List ℕ → Type 0
AreBelow nodes ks = AllByRecursion (λ k. k < length nodes) ks

pub below_pushed : (nodes : List Node) (st pushed : List ℕ) (k : ℕ) → pushed ≡ st ++ k ∷ [] → k < length nodes → AllByRecursion (λ k. k < length nodes) (reverse st) → AllByRecursion (λ k. k < length nodes) (reverse pushed)
below_pushed nodes st pushed k e lt low = subst (AreBelow nodes) (sym (end_first st pushed k e)) (lt, low)

-- a gate at the end, and its number on the stack
module _ (old new : List Node) (rest pushed : List ℕ) (k : ℕ) (g : Node) (made : new ≡ old ++ g ∷ []) (lower : IsGateBelow (length old) g) (number : k ≡ length old) (put : pushed ≡ rest ++ k ∷ []) (low : AllByRecursion (λ k. k < length old) (reverse rest)) where
  grows : IsGrown old new
  grows = subst (IsGrown old) (sym made) (grown_by old g lower)

  last_is : k < length new
  last_is = omega (arith, ap length made, length-append {A = Node} old (g ∷ []))

  pub gate_below : AllByRecursion (λ k. k < length new) (reverse pushed)
  gate_below = below_pushed new rest pushed k put last_is (still_below old new (reverse rest) grows low)

  pub gate_values : formulas_at new (reverse pushed) ≡ formula_of (formulas old) g ∷ formulas_at old (reverse rest)
  gate_values =
      let shape = end_first rest pushed k put in
      let value : formula_at (formulas new) k ≡ formula_of (formulas old) g = ap (λ (xs : List Node). formula_at (formulas xs) k) made ∙ ap (formula_at (formulas (old ++ g ∷ []))) number ∙ new_formula old g in
      let others = kept_formulas old new (reverse rest) grows low in
      ap (formulas_at new) shape ∙ cc

-- ---- what a term reads is read by the terms

wire_later : (t : Term) (ts : List Term) (w : ℕ) → IsIn w (wires_in ts) → IsIn w (wires_in (t ∷ ts))
wire_later (Source n) ts w h = h
wire_later (Wire v) ts w h = inr h
wire_later Not ts w h = h
wire_later And ts w h = h
wire_later Or ts w h = h

wire_first : (t : Term) (ts : List Term) (w : ℕ) → IsIn w (wires_in (t ∷ [])) → IsIn w (wires_in (t ∷ ts))
wire_first (Source n) ts w h = absurd h
wire_first (Wire v) ts w (inl e) = inl e
wire_first (Wire v) ts w (inr h) = absurd h
wire_first Not ts w h = absurd h
wire_first And ts w h = absurd h
wire_first Or ts w h = absurd h

wire_at : (ts : List Term) (i : ℕ) (d : Term) (w : ℕ) → i < length ts → IsIn w (wires_in (get_or ts i d ∷ [])) → IsIn w (wires_in ts)
wire_at [] i d w lt h = absurd (omega arith)
wire_at (t ∷ ts) zero d w lt h = wire_first t ts w h
wire_at (t ∷ ts) (suc i) d w lt h = wire_later t ts w (wire_at ts i d w (omega arith) h)

source_later : (t : Term) (ts : List Term) (n : ℕ) → IsIn n (sources_in ts) → IsIn n (sources_in (t ∷ ts))
source_later (Source m) ts n h = inr h
source_later (Wire v) ts n h = h
source_later Not ts n h = h
source_later And ts n h = h
source_later Or ts n h = h

source_first : (t : Term) (ts : List Term) (n : ℕ) → IsIn n (sources_in (t ∷ [])) → IsIn n (sources_in (t ∷ ts))
source_first (Source m) ts n (inl e) = inl e
source_first (Source m) ts n (inr h) = absurd h
source_first (Wire v) ts n h = absurd h
source_first Not ts n h = absurd h
source_first And ts n h = absurd h
source_first Or ts n h = absurd h

source_at : (ts : List Term) (i : ℕ) (d : Term) (n : ℕ) → i < length ts → IsIn n (sources_in (get_or ts i d ∷ [])) → IsIn n (sources_in ts)
source_at [] i d n lt h = absurd (omega arith)
source_at (t ∷ ts) zero d n lt h = source_first t ts n h
source_at (t ∷ ts) (suc i) d n lt h = source_later t ts n (source_at ts i d n (omega arith) h)

-- what was readable is readable with more nodes
pub readable_grown : (old new : List Node) (wires : List ℕ) (ts : List Term) → IsGrown old new → IsReadable old wires ts → IsReadable new wires ts
readable_grown old new wires ts grown is = record {
  reads_wires = λ w h. let was = is.reads_wires w h in (was.0, omega (arith, was.1, longer old new grown));
  reads_sources = λ n h. let was = is.reads_sources n h in (omega (arith, was.0, longer old new grown), kept_formula old new n grown was.0 ∙ was.1);
}

pub readable_at : (nodes : List Node) (wires : List ℕ) (ts : List Term) (i : ℕ) (d : Term) → i < length ts → IsReadable nodes wires ts → IsReadable nodes wires (get_or ts i d ∷ [])
readable_at nodes wires ts i d lt is = record { reads_wires = λ w h. is.reads_wires w (wire_at ts i d w lt h); reads_sources = λ n h. is.reads_sources n (source_at ts i d n lt h) }

-- ---- one term after another

pub wire_value : (nodes : List Node) (wires : List ℕ) (w : ℕ) → w < length wires → formula_at (formulas_at nodes wires) w ≡ formula_at (formulas nodes) (get_or wires w 0)
wire_value nodes wires w lt = get_or-map (formula_at (formulas nodes)) wires w 0 (formula.Source 0) lt

after_grown : (old new : List Node) (wires : List ℕ) (t : Term) (fs : List Formula) → IsGrown old new → IsReadable old wires (t ∷ []) → after_term (formulas_at new wires) t fs ≡ after_term (formulas_at old wires) t fs
after_grown old new wires (Source n) fs grown is = refl
after_grown old new wires (Wire w) fs grown is =
    let was = is.reads_wires w (inl refl) in
    ap (λ (f : Formula). Some (f ∷ fs)) (wire_value new wires w was.0 ∙ kept_formula old new (get_or wires w 0) grown was.1 ∙ sym (wire_value old wires w was.0))
after_grown old new wires Not [] grown is = refl
after_grown old new wires Not (f ∷ fs) grown is = refl
after_grown old new wires And [] grown is = refl
after_grown old new wires And (g ∷ []) grown is = refl
after_grown old new wires And (g ∷ (f ∷ fs)) grown is = refl
after_grown old new wires Or [] grown is = refl
after_grown old new wires Or (g ∷ []) grown is = refl
after_grown old new wires Or (g ∷ (f ∷ fs)) grown is = refl

module _ (old now : List Node) (wires : List ℕ) (ts : List Term) (i : ℕ) (d : Term) (fs : List Formula) (r : Option (List Formula)) (lt : i < length ts) (grown : IsGrown old now) (is : IsReadable old wires ts) (so_far : after_terms (formulas_at old wires) (drop i ts) fs ≡ r) where
  next_is : (o : Option (List Formula)) → after_term (formulas_at now wires) (get_or ts i d) fs ≡ o → r ≡ elim o [ None ↦ None | Some more ↦ after_terms (formulas_at old wires) (drop (i + 1) ts) more ]
  unfolding after_terms
  next_is o here =
      sym so_far ∙ ap (λ (xs : List Term). after_terms (formulas_at old wires) xs fs) (drop_more ts i d lt)
      ∙ ap (λ (p : Option (List Formula)). elim p [ None ↦ None | Some more ↦ after_terms (formulas_at old wires) (drop (i + 1) ts) more ]) (sym (after_grown old now wires (get_or ts i d) fs grown (readable_at old wires ts i d lt is)) ∙ here)

  pub term_more : (gs : List Formula) → after_term (formulas_at now wires) (get_or ts i d) fs ≡ Some gs → after_terms (formulas_at old wires) (drop (i + 1) ts) gs ≡ r
  term_more gs here = sym (next_is (Some gs) here)

  pub term_lacks : after_term (formulas_at now wires) (get_or ts i d) fs ≡ None → r ≡ None
  term_lacks here = next_is None here

pub terms_ended : (ws : List Formula) (ts : List Term) (i : ℕ) (fs : List Formula) (r : Option (List Formula)) → length ts ≤ i → after_terms ws (drop i ts) fs ≡ r → r ≡ Some fs
unfolding after_terms
terms_ended ws ts i fs r le so_far = sym so_far ∙ ap (λ (xs : List Term). after_terms ws xs fs) (drop_all i ts le)

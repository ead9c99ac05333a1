-- What nodes compute does not change when further nodes follow.
use Rattle.std.proofs.Common.{◌≡◌, ℕ, zero, suc, ◌+◌, ◌-◌, ◌<◌, ◌≤◌, List, [], ◌∷◌, ◌++◌, length, get_or, refl, sym, ap, subst, ◌∙◌, append_assoc, arith}
use Rattle.std.specs.List.{AllByRecursion}
use Rattle.std.proofs.lemmas.List.{length-append, append-nil}
use Rattle.thin_form.specs.Formula as formula
use Rattle.thin_form.specs.Formula.{Formula}
use Rattle.thin_form.specs.Netlist.{formula_at, formula_of, formulas_after, formulas, source_nodes, AreGatesFrom, IsGateBelow}
use Rattle.thin_form.specs.Values.{formulas_at, IsGrown}
use Rattle.thin_form.specs.declared.kind.Node.{Node}
use Rattle.thin_form.specs.declared.kind.Node.TheVariants as node

after_append : (fs : List Formula) (xs ys : List Node) → formulas_after fs (xs ++ ys) ≡ formulas_after (formulas_after fs xs) ys
after_append fs [] ys = refl
after_append fs (x ∷ xs) ys = after_append (fs ++ formula_of fs x ∷ []) xs ys

length_after : (fs : List Formula) (xs : List Node) → length (formulas_after fs xs) ≡ length fs + length xs
length_after fs [] = omega arith
length_after fs (x ∷ xs) = omega (arith, length_after (fs ++ formula_of fs x ∷ []) xs, length-append fs (formula_of fs x ∷ []))

pub length-formulas : (xs : List Node) → length (formulas xs) ≡ length xs
length-formulas xs = omega (arith, length_after [] xs)

get_front : (fs gs : List Formula) (k : ℕ) (d : Formula) → k < length fs → get_or (fs ++ gs) k d ≡ get_or fs k d
get_front [] gs k d lt = absurd (omega arith)
get_front (f ∷ fs) gs zero d lt = refl
get_front (f ∷ fs) gs (suc k) d lt = get_front fs gs k d (omega arith)

get_end : (fs : List Formula) (g d : Formula) → get_or (fs ++ g ∷ []) (length fs) d ≡ g
get_end [] g d = refl
get_end (f ∷ fs) g d = get_end fs g d

kept_after : (fs : List Formula) (xs : List Node) (k : ℕ) → k < length fs → formula_at (formulas_after fs xs) k ≡ formula_at fs k
kept_after fs [] k lt = refl
kept_after fs (x ∷ xs) k lt = kept_after (fs ++ formula_of fs x ∷ []) xs k (omega (arith, length-append fs (formula_of fs x ∷ []))) ∙ get_front fs (formula_of fs x ∷ []) k (formula.Source 0) lt

-- a node computes what it did
pub kept_formula : (old new : List Node) (k : ℕ) → IsGrown old new → k < length old → formula_at (formulas new) k ≡ formula_at (formulas old) k
kept_formula old new k grown lt =
    ap (λ (xs : List Node). formula_at (formulas xs) k) grown.parts ∙ ap (λ (fs : List Formula). formula_at fs k) (after_append [] old grown.gates) ∙ kept_after (formulas old) grown.gates k (omega (arith, length-formulas old))

-- what a further node computes
pub new_formula : (old : List Node) (x : Node) → formula_at (formulas (old ++ x ∷ [])) (length old) ≡ formula_of (formulas old) x
new_formula old x =
    ap (λ (fs : List Formula). formula_at fs (length old)) (after_append [] old (x ∷ []))
    ∙ ap (formula_at (formulas old ++ formula_of (formulas old) x ∷ [])) (sym (length-formulas old)) ∙ get_end (formulas old) (formula_of (formulas old) x) (formula.Source 0)

pub kept_formulas : (old new : List Node) (ks : List ℕ) → IsGrown old new → AllByRecursion (λ k. k < length old) ks → formulas_at new ks ≡ formulas_at old ks
kept_formulas old new [] grown low = refl
kept_formulas old new (k ∷ ks) grown low = let first = kept_formula old new k grown low.0 in let rest = kept_formulas old new ks grown low.1 in cc

pub longer : (old new : List Node) → IsGrown old new → length old ≤ length new
longer old new grown = omega (arith, ap length grown.parts, length-append old grown.gates)

pub still_below : (old new : List Node) (ks : List ℕ) → IsGrown old new → AllByRecursion (λ k. k < length old) ks → AllByRecursion (λ k. k < length new) ks
still_below old new [] grown low = tt
still_below old new (k ∷ ks) grown low = (omega (arith, low.0, longer old new grown), still_below old new ks grown low.1)

pub not_grown : (old : List Node) → IsGrown old old
not_grown old = record { gates = []; parts = sym (append-nil old); lower = tt }

pub grown_by : (old : List Node) (x : Node) → IsGateBelow (length old) x → IsGrown old (old ++ x ∷ [])
grown_by old x lower = record { gates = x ∷ []; parts = refl; lower = (lower, tt) }

gates_append : (k : ℕ) (xs ys : List Node) → AreGatesFrom k xs → AreGatesFrom (k + length xs) ys → AreGatesFrom k (xs ++ ys)
gates_append k [] ys lower also = subst (λ (j : ℕ). AreGatesFrom j ys) (omega arith) also
gates_append k (x ∷ xs) ys lower also = (lower.0, gates_append (k + 1) xs ys lower.1 (subst (λ (j : ℕ). AreGatesFrom j ys) (omega arith) also))

pub grown_further : (a b c : List Node) → IsGrown a b → IsGrown b c → IsGrown a c
grown_further a b c first then =
    let len : length b ≡ length a + length first.gates = ap length first.parts ∙ length-append a first.gates in
    record {
      gates = first.gates ++ then.gates;
      parts = then.parts ∙ ap (λ (xs : List Node). xs ++ then.gates) first.parts ∙ append_assoc a first.gates then.gates;
      lower = gates_append (length a) first.gates then.gates first.lower (subst (λ (j : ℕ). AreGatesFrom j then.gates) len then.lower);
    }

-- ---- the nodes of sources

pub length-sources : (k count : ℕ) → length (source_nodes k count) ≡ count
length-sources k zero = refl
length-sources k (suc count) = ap suc (length-sources (k + 1) count)

source_after : (fs : List Formula) (k count i : ℕ) → i < count → formula_at (formulas_after fs (source_nodes k count)) (length fs + i) ≡ formula.Source (k + i)
source_after fs k zero i lt = absurd (omega arith)
source_after fs k (suc count) zero lt =
    let longer_now : length fs + 0 < length (fs ++ formula.Source k ∷ []) = omega (arith, length-append fs (formula.Source k ∷ [])) in
    kept_after (fs ++ formula.Source k ∷ []) (source_nodes (k + 1) count) (length fs + 0) longer_now
    ∙ ap (λ (j : ℕ). formula_at (fs ++ formula.Source k ∷ []) j) (let same : length fs + 0 ≡ length fs = omega arith in same)
    ∙ get_end fs (formula.Source k) (formula.Source 0) ∙ ap formula.Source (let same : k ≡ k + 0 = omega arith in same)
source_after fs k (suc count) (suc i) lt =
    let len = length-append fs (formula.Source k ∷ []) in
    ap (formula_at (formulas_after (fs ++ formula.Source k ∷ []) (source_nodes (k + 1) count))) (let same : length fs + suc i ≡ length (fs ++ formula.Source k ∷ []) + i = omega (arith, len) in same)
    ∙ source_after (fs ++ formula.Source k ∷ []) (k + 1) count i (omega arith) ∙ ap formula.Source (let same : k + 1 + i ≡ k + suc i = omega arith in same)

-- a source is the node of its number
pub source_formula : (count n : ℕ) → n < count → formula_at (formulas (source_nodes 0 count)) n ≡ formula.Source n
source_formula count n lt =
    let same : 0 + n ≡ n = omega arith in
    ap (formula_at (formulas (source_nodes 0 count))) (sym same) ∙ source_after [] 0 count n lt ∙ ap formula.Source same

-- one more source
pub one_more_source : (n count : ℕ) (xs whole : List Node) → n < count → xs ++ source_nodes n (count - n) ≡ whole → (xs ++ node.Source n ∷ []) ++ source_nodes (n + 1) (count - (n + 1)) ≡ whole
one_more_source n count xs whole lt so_far =
    let left : count - n ≡ suc (count - (n + 1)) = omega arith in
    append_assoc xs (node.Source n ∷ []) (source_nodes (n + 1) (count - (n + 1))) ∙ ap (λ (m : ℕ). xs ++ source_nodes n m) (sym left) ∙ so_far

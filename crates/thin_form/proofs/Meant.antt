-- The nodes of wires and registers compute what the module means.
use Rattle.std.proofs.Common.{◌≡◌, inl, inr, ℕ, ◌<◌, Bool, true, false, ◌||◌, List, [], ◌∷◌, map, length, get_or, Some, None, refl, sym, ap, subst, ◌∙◌, arith}
use Rattle.std.specs.List.{AllByRecursion, IsDistinct}
use Rattle.std.specs.List.Sorted.{IsPermutation}
use Rattle.std.specs.Str.{bytes_eq}
use Rattle.std.proofs.lemmas.Bool.{cases_Bool}
use Rattle.std.proofs.lemmas.List.{length-map, get_or-map}
use Rattle.std.proofs.lemmas.List.Elements.{All-from_recursion, recursion_from_All}
use Rattle.std.proofs.lemmas.List.Sorted.{All-permutation}
use Rattle.std.proofs.lemmas.Map.Keys.{IsDistinct-head, IsDistinct-tail}
use Rattle.thin_tree.specs.Tree.{Assignment, Process, Expr, Name}
use Rattle.thin_form.specs.Formula.{Formula}
use Rattle.thin_form.specs.Netlist.{formula_at, formulas}
use Rattle.thin_form.specs.Meaning as means
use Rattle.thin_form.specs.Meaning.{place, value_for, process_for, IsFormulaOf}
use Rattle.thin_form.specs.Rules.{targets, cleared, is_among}
use Rattle.thin_form.specs.Numbers.{Lists}
use Rattle.thin_form.specs.Walk.{IsIn, IsReadyAfter, IsOrder}
use Rattle.thin_form.specs.Values.{wires_in, formulas_at, IsMade, AreMade}
use Rattle.thin_form.specs.declared.kind.Node.{Node}
use Rattle.thin_form.specs.declared.term.Term.{Term}
use Rattle.thin_form.proofs.Naming.{place_lt, name_at_place, eq_same, eq_sym}
use Rattle.thin_form.proofs.Applied.{wire_value}
use Rattle.thin_form.proofs.Exprs.{IsTerms}
use Rattle.thin_form.proofs.Computed.{computed, value_is, wire_read}
use Rattle.thin_form.proofs.Ruled.{AreTerms}
use Rattle.thin_form.proofs.Sound.{no_assignment, wires_count, rules_count, target_at, target_among, terms_of_wire}
use Rattle.thin_form.proofs.Wired.{each_at}

-- ---- what is assigned to a name, and by which process

skip_value : (t : List ℕ) (v : Expr) (xs ys : List Assignment) → AllByRecursion (λ n. bytes_eq t n ≡ false) (targets ys) → AllByRecursion (λ a. value_for a.target xs ≡ Some a.value) ys → AllByRecursion (λ a. value_for a.target (record { target = t; value = v } ∷ xs) ≡ Some a.value) ys
skip_value t v xs [] apart all = tt
skip_value t v xs (y ∷ ys) apart all = (rw apart.0 all.0, skip_value t v xs ys apart.1 all.1)

value_found : (xs : List Assignment) → IsDistinct bytes_eq (targets xs) → AllByRecursion (λ a. value_for a.target xs ≡ Some a.value) xs
value_found [] once = tt
value_found (x ∷ xs) once = (
  rw (eq_same x.target x.target refl) refl,
  skip_value x.target x.value xs xs (IsDistinct-head bytes_eq x.target (targets xs) once) (value_found xs (IsDistinct-tail bytes_eq x.target (targets xs) once)),
)

skip_process : (p : Process) (ps qs : List Process) → AllByRecursion (λ n. bytes_eq p.cleared n ≡ false) (cleared qs) → AllByRecursion (λ q. process_for q.cleared ps ≡ Some q) qs → AllByRecursion (λ q. process_for q.cleared (p ∷ ps) ≡ Some q) qs
skip_process p ps [] apart all = tt
skip_process p ps (q ∷ qs) apart all = (rw apart.0 all.0, skip_process p ps qs apart.1 all.1)

process_found : (ps : List Process) → IsDistinct bytes_eq (cleared ps) → AllByRecursion (λ q. process_for q.cleared ps ≡ Some q) ps
process_found [] once = tt
process_found (p ∷ ps) once = (
  rw (eq_same p.cleared p.cleared refl) refl,
  skip_process p ps ps (IsDistinct-head bytes_eq p.cleared (cleared ps) once) (process_found ps (IsDistinct-tail bytes_eq p.cleared (cleared ps) once)),
)

-- the value that is assigned, wherever the assignment stands
pub value_moved : (xs ys : List Assignment) → IsPermutation xs ys → IsDistinct bytes_eq (targets xs) → AllByRecursion (λ a. value_for a.target xs ≡ Some a.value) ys
value_moved xs ys moved once = recursion_from_All (λ a. value_for a.target xs ≡ Some a.value) ys (All-permutation (λ a. value_for a.target xs ≡ Some a.value) xs ys moved (All-from_recursion (λ a. value_for a.target xs ≡ Some a.value) xs (value_found xs once)))

pub process_moved : (ps qs : List Process) → IsPermutation ps qs → IsDistinct bytes_eq (cleared ps) → AllByRecursion (λ q. process_for q.cleared ps ≡ Some q) qs
process_moved ps qs moved once = recursion_from_All (λ q. process_for q.cleared ps ≡ Some q) qs (All-permutation (λ q. process_for q.cleared ps ≡ Some q) ps qs moved (All-from_recursion (λ q. process_for q.cleared ps ≡ Some q) ps (process_found ps once)))

pub no_process : (ps : List Process) (n : List ℕ) → is_among n (cleared ps) ≡ false → process_for n ps ≡ None
no_process [] n none = refl
no_process (p ∷ ps) n none = elim (cases_Bool (bytes_eq p.cleared n)) [
  | inl same ↦ absurd (let here : is_among n (cleared (p ∷ ps)) ≡ true = rw (eq_sym n p.cleared, same) refl in cc)
  | inr other ↦ rw other (no_process ps n (sym (ap (λ (b : Bool). b || is_among n (cleared ps)) (eq_sym n p.cleared ∙ other)) ∙ none))
]

-- ---- wires

module _ (l : Lists) (assigns text : List Assignment) (rs : List (List Term)) (nodes : List Node) (wires : List ℕ)
    (named_so : targets assigns ≡ l.wires) (once : IsDistinct bytes_eq l.wires) (apart : (n : List ℕ) → is_among n l.wires ≡ true → is_among n l.sources ≡ false) (are : AreTerms l (map (λ a. a.value) assigns) rs)
    (found : AllByRecursion (λ a. value_for a.target text ≡ Some a.value) assigns) (made : AreMade nodes wires rs wires) where
  -- the formulas of the wires
  abbrev wire_formulas : List Formula
  wire_formulas = formulas_at nodes wires

  -- the node of wire w computes what its name means
  abbrev Means : ℕ → Type 0
  Means w = IsFormulaOf l.sources text (Name (get_or assigns w no_assignment).target) (formula_at wire_formulas w)

  count_is : length wires ≡ length assigns
  count_is = made.count ∙ rules_count l assigns rs named_so once apart are

  -- the target of the wire at the place of a name is the name
  target_named : (n : List ℕ) → is_among n l.wires ≡ true → (get_or assigns (place l.wires n) no_assignment).target ≡ n
  target_named n wire =
      let lt : place l.wires n < length assigns = omega (arith, place_lt l.wires n wire, wires_count l assigns rs named_so once apart are) in
      sym (target_at l assigns rs named_so once apart are (place l.wires n) lt) ∙ name_at_place l.wires n wire

  -- what an expression means, where the wires that its terms read have their meaning
  pub expression_means : (e : Expr) (ts : List Term) (k : ℕ) → IsTerms l e ts → IsMade nodes wires ts k → ((v : ℕ) → IsIn v (wires_in ts) → Means v) → IsFormulaOf l.sources text e (formula_at (formulas nodes) k)
  expression_means e ts k is at read =
      let c = computed l wire_formulas e ts is in
      let same : c.value ≡ formula_at (formulas nodes) k = let p = value_is l wire_formulas e ts c in let q = at.value in cc in
      subst (IsFormulaOf l.sources text e) same (c.means text (λ n there absent.
      let by = wire_read l e ts n is there absent in
      subst (λ (x : List ℕ). IsFormulaOf l.sources text (Name x) (formula_at wire_formulas (place l.wires n))) (target_named n by.0) (read (place l.wires n) by.1)))

  wire_means : (w : ℕ) → w < length assigns → ((v : ℕ) → IsIn v (wires_in (get_or rs w [])) → Means v) → Means w
  wire_means w lt read =
      let lt_rules : w < length rs = omega (arith, rules_count l assigns rs named_so once apart are) in
      let value = expression_means (get_or assigns w no_assignment).value (get_or rs w []) (get_or wires w 0) (terms_of_wire l assigns rs named_so once apart are w lt) (made.each w lt_rules) read in
      let at = wire_value nodes wires w (omega (arith, count_is)) in
      means.a_wire (get_or assigns w no_assignment).target (get_or assigns w no_assignment).value (formula_at wire_formulas w)
      (apart (get_or assigns w no_assignment).target (target_among l assigns rs named_so once apart are w lt))
      (each_at (λ a. value_for a.target text ≡ Some a.value) assigns w no_assignment lt found)
      (subst (IsFormulaOf l.sources text (get_or assigns w no_assignment).value) (sym at) value)

  means_from : (done ws : List ℕ) → IsReadyAfter (map wires_in rs) done ws → ((w : ℕ) → IsIn w ws → w < length assigns) → ((v : ℕ) → IsIn v done → Means v) → (v : ℕ) → IsIn v ws → Means v
  means_from done [] ready within before v h = absurd h
  means_from done (w ∷ ws) ready within before v h =
      let lt = within w (inl refl) in
      let here : Means w = wire_means w lt (λ x i. before x (ready.1 x (subst (IsIn x) (sym (get_or-map wires_in rs w [] [] (omega (arith, rules_count l assigns rs named_so once apart are)))) i))) in
      elim h [
        | inl e ↦ subst Means (sym e) here
        | inr later ↦ means_from (w ∷ done) ws ready.2 (λ x i. within x (inr i)) (λ x i. elim i [ inl e ↦ subst Means (sym e) here | inr old ↦ before x old ]) v later
      ]

  pub all_mean : (order : List ℕ) → IsOrder (map wires_in rs) order → (w : ℕ) → w < length assigns → IsFormulaOf l.sources text (Name (get_or assigns w no_assignment).target) (formula_at (formulas nodes) (get_or wires w 0))
  all_mean order is w lt =
      let mean = means_from [] order is.ready (λ x i. omega (arith, is.within x i, length-map rs wires_in, rules_count l assigns rs named_so once apart are)) (λ x i. absurd i) w (is.all w (omega (arith, length-map rs wires_in, rules_count l assigns rs named_so once apart are))) in
      subst (IsFormulaOf l.sources text (Name (get_or assigns w no_assignment).target)) (wire_value nodes wires w (omega (arith, count_is))) mean

  -- what a register takes
  pub data_means : (order : List ℕ) → IsOrder (map wires_in rs) order → (e : Expr) (ts : List Term) (k : ℕ) → IsTerms l e ts → IsMade nodes wires ts k → ((v : ℕ) → IsIn v (wires_in ts) → v < length assigns) → IsFormulaOf l.sources text e (formula_at (formulas nodes) k)
  data_means order is e ts k terms at within = expression_means e ts k terms at (λ v h. subst (IsFormulaOf l.sources text (Name (get_or assigns v no_assignment).target)) (sym (wire_value nodes wires v (omega (arith, count_is, within v h)))) (all_mean order is v (within v h)))

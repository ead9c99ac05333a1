-- The netlist of a module keeps its design.
use Rattle.std.proofs.Common.{◌≡◌, inl, inr, ℕ, ◌<◌, Bool, true, false, not, ◌&&◌, cond, List, [], ◌∷◌, map, filter, length, get_or, Option, Some, None, refl, sym, ap, subst, ◌∙◌, arith}
use Rattle.std.specs.List.{AllByRecursion, IsDistinct}
use Rattle.std.specs.List.Sorted.{IsPermutation}
use Rattle.std.specs.Str.{bytes_eq}
use Rattle.std.proofs.lemmas.Bool.{cases_Bool, false_from_ne_true}
use Rattle.std.proofs.lemmas.List.{length-map, get_or-map}
use Rattle.std.proofs.lemmas.List.Sorted.{IsPermutation-sym, IsPermutation-map}
use Rattle.std.proofs.lemmas.Simd.{map-map}
use Rattle.thin_tree.specs.declared.tree.Class.TheVariants.{Input, Net, Register}
use Rattle.thin_tree.specs.Tree as tree
use Rattle.thin_tree.specs.Tree.{Declared, Assignment, Process, Module, Name, Expr}
use Rattle.thin_form.specs.Formula.{Formula}
use Rattle.thin_form.specs.Design as designs
use Rattle.thin_form.specs.Design.{Design, IsAscending, names}
use Rattle.thin_form.specs.Meaning.{place, value_for, process_for, IsFormulaOf, IsFlopOf, IsKindOf, IsDesignOf}
use Rattle.thin_form.specs.Rules.{declared, names_of, cleared, processes, assignments, is_a, is_among, is_declared, class_eq}
use Rattle.thin_form.specs.Order.{of_class, no_wires}
use Rattle.thin_form.specs.Numbers.{Lists, flop_of}
use Rattle.thin_form.specs.Resolved.{lists_of}
use Rattle.thin_form.specs.Built.{IsNetOf}
use Rattle.thin_form.specs.Assembled.{with_data, no_flop}
use Rattle.thin_form.specs.Netlist.{NetBit, Netlist, formulas, formula_at, kind_of, source_of, wire_of, design_of}
use Rattle.thin_form.specs.declared.kind.Kind.TheVariants as kind
use Rattle.thin_form.specs.declared.kind.Flop.{Flop}
use Rattle.thin_form.proofs.Search.{stands_at}
use Rattle.thin_form.proofs.Naming.{distinct_names, place_lt}
use Rattle.thin_form.proofs.Sorting.{any_kept}
use Rattle.thin_form.proofs.Orders.{distinct_moved}
use Rattle.thin_form.proofs.Classes.{among_class, wire_no_source, source_declared, declared_cases, input_no_register, ascending_filter, both_ways}
use Rattle.thin_form.proofs.Exprs.{IsTerms}
use Rattle.thin_form.proofs.Computed.{named}
use Rattle.thin_form.proofs.Keeping.{own_class}
use Rattle.thin_form.proofs.Lawful.{source_names, data_count, register_count}
use Rattle.thin_form.proofs.Meant.{value_moved, process_moved, no_process, all_mean, data_means}
use Rattle.thin_form.proofs.Parts.{wire_names, each_entry, each_bit}
use Rattle.thin_form.proofs.Ruled.{are_terms, terms_at_place}
use Rattle.thin_form.proofs.Sound.{no_assignment, map_back}
use Rattle.thin_form.proofs.Wired.{each_at}

filter_all : (P : NetBit → Type 0) (bs : List NetBit) → AllByRecursion (λ b. b.wire ≡ true → P b) bs → AllByRecursion P (filter (λ b. b.wire) bs)
filter_all P [] all = tt
filter_all P (b ∷ bs) all = go b.wire refl (filter_all P bs all.1)
  where
    go : (w : Bool) → b.wire ≡ w → AllByRecursion P (filter (λ c. c.wire) bs) → AllByRecursion P (cond w (b ∷ filter (λ c. c.wire) bs) (filter (λ c. c.wire) bs))
    go true is rest = (all.0 is, rest)
    go false is rest = rest

among_kept : (f : Process → List ℕ) (ps qs : List Process) (n : List ℕ) → IsPermutation ps qs → is_among n (map f ps) ≡ is_among n (map f qs)
among_kept f ps qs n moved = any_kept (bytes_eq n) (map f qs) (map f ps) (IsPermutation-map f qs ps (IsPermutation-sym ps qs moved))

module _ (ds es : List Declared) (ps text_ps : List Process) (assigns text : List Assignment) (net : Netlist) (is : IsNetOf ds ps assigns net) (up : IsAscending (names_of ds))
    (same : IsPermutation es ds) (same_ps : IsPermutation text_ps ps) (same_assigns : IsPermutation text assigns) where
  abbrev l : Lists
  l = lists_of ds is.marks

  abbrev fs : List Formula
  fs = formulas net.nodes

  once : IsDistinct bytes_eq (names_of ds)
  once = distinct_names (names_of ds) up

  nets_once : IsDistinct bytes_eq (of_class Net ds)
  nets_once = distinct_names (of_class Net ds) (ascending_filter (λ d. class_eq Net d.class) ds up)

  nets_apart : (n : List ℕ) → is_among n (of_class Net ds) ≡ true → is_among n (no_wires ds) ≡ false
  nets_apart n h = wire_no_source ds n once (sym (among_class Net ds n) ∙ h)

  registers_once : IsDistinct bytes_eq (of_class Register ds)
  registers_once = distinct_names (of_class Register ds) (ascending_filter (λ d. class_eq Register d.class) ds up)

  values_found : AllByRecursion (λ a. value_for a.target text ≡ Some a.value) assigns
  values_found = value_moved text assigns same_assigns (distinct_moved (λ (a : Assignment). a.target) assigns text (IsPermutation-sym text assigns same_assigns) (subst (IsDistinct bytes_eq) (sym is.nets) nets_once))

  processes_found : AllByRecursion (λ q. process_for q.cleared text_ps ≡ Some q) ps
  processes_found = process_moved text_ps ps same_ps (distinct_moved (λ (p : Process). p.cleared) ps text_ps (IsPermutation-sym text_ps ps same_ps) (subst (IsDistinct bytes_eq) (sym is.registers) registers_once))

  pub design_names : names (design_of net) ≡ no_wires ds
  design_names = map-map (λ s. s.name) (source_of fs) net.sources ∙ source_names ds ps assigns net is up

  -- an input has no process
  input_is : (t : List ℕ) → is_a Input ds t ≡ true → process_for t text_ps ≡ None
  input_is t h = no_process text_ps t (false_from_ne_true (is_among t (cleared text_ps)) (λ there.
      let now : is_among t (of_class Register ds) ≡ true = ap (is_among t) (sym is.registers) ∙ sym (among_kept (λ p. p.cleared) text_ps ps t same_ps) ∙ there in
      input_no_register ds t once h (sym (among_class Register ds t) ∙ now)))

  wires_total : length (of_class Net ds) ≡ length assigns
  wires_total = ap length (sym is.nets) ∙ length-map assigns (λ a. a.target)

  -- a register has the flop of its process
  register_is : (t : List ℕ) (r : ℕ) → r < length (of_class Register ds) → get_or (of_class Register ds) r [] ≡ t → IsKindOf (no_wires ds) text (process_for t text_ps) (kind_of fs (kind.Register (with_data (get_or (map (flop_of l) ps) r no_flop) (get_or is.values r 0))))
  register_is t r lt at =
      let within : r < length ps = omega (arith, register_count ds ps assigns net is up) in
      let p = stands_at ps r within in
      let name_is : p.0.cleared ≡ t = ap (λ (q : Process). q.cleared) p.1 ∙ sym (get_or-map (λ (q : Process). q.cleared) ps r p.0 [] within) ∙ ap (λ (ns : List (List ℕ)). get_or ns r []) is.registers ∙ at in
      let found_there = each_at (λ q. process_for q.cleared text_ps ≡ Some q) ps r p.0 within processes_found in
      let found : process_for t text_ps ≡ Some p.0 = ap (λ (n : List ℕ). process_for n text_ps) (sym name_is) ∙ subst (λ (q : Process). process_for q.cleared text_ps ≡ Some q) (sym p.1) found_there in
      let flop_is : flop_of l p.0 ≡ get_or (map (flop_of l) ps) r no_flop = ap (flop_of l) p.1 ∙ sym (get_or-map (flop_of l) ps r p.0 no_flop within) in
      let inside : r < length is.data = omega (arith, data_count ds ps assigns net is up) in
      let terms_there = terms_at_place l (map (λ q. q.data) ps) is.data r (tree.Name []) (are_terms l (map (λ q. q.data) ps) is.data is.data_are) (omega (arith, length-map ps (λ (q : Process). q.data))) in
      let terms = subst (λ (e : Expr). IsTerms l e (get_or is.data r [])) (get_or-map (λ (q : Process). q.data) ps r p.0 (tree.Name []) within ∙ ap (λ (q : Process). q.data) (sym p.1)) terms_there in
      let next = data_means l assigns text is.rules net.nodes is.wires is.nets nets_once nets_apart (are_terms l (map (λ a. a.value) assigns) is.rules is.rules_are) values_found is.wires_made is.order is.ordered
      p.0.data (get_or is.data r []) (get_or is.values r 0) terms (is.values_made.each r inside) (λ v h. let by = named l p.0.data (get_or is.data r []) v terms h in omega (arith, by.at, place_lt (of_class Net ds) by.name by.wire, wires_total)) in
      let f : designs.Flop = record { clock = place (no_wires ds) p.0.clock; pin = place (no_wires ds) p.0.event; high = not p.0.falling; reset = p.0.value; next = formula_at fs (get_or is.values r 0) } in
      let flop : IsFlopOf (no_wires ds) text p.0 f = record { clock = refl; pin = refl; high = refl; reset = refl; next = next } in
      let kind_is : kind_of fs (kind.Register (with_data (get_or (map (flop_of l) ps) r no_flop) (get_or is.values r 0))) ≡ designs.Register f = ap (λ (g : Flop). kind_of fs (kind.Register (with_data g (get_or is.values r 0)))) (sym flop_is) in
      subst (λ (o : Option Process). IsKindOf (no_wires ds) text o (kind_of fs (kind.Register (with_data (get_or (map (flop_of l) ps) r no_flop) (get_or is.values r 0))))) (sym found) (f, kind_is, flop)

  kinds_are : AllByRecursion (λ s. IsKindOf (no_wires ds) text (process_for s.name text_ps) (kind_of fs s.kind)) net.sources
  kinds_are =
      subst (AllByRecursion (λ s. IsKindOf (no_wires ds) text (process_for s.name text_ps) (kind_of fs s.kind))) (sym is.sources_are)
      (each_entry (λ s. IsKindOf (no_wires ds) text (process_for s.name text_ps) (kind_of fs s.kind)) (λ t. is_a Input ds t ≡ true) (of_class Register ds) (map (flop_of l) ps) is.values
      (λ t b g. subst (λ (o : Option Process). IsKindOf (no_wires ds) text o designs.Input) (sym (input_is t g)) refl)
      (λ t b r lt at. register_is t r lt at)
      0 0 ds (own_class Input ds) refl)

  values_are : AllByRecursion (λ b. b.wire ≡ true → IsFormulaOf (no_wires ds) text (Name b.name) (formula_at fs b.node)) net.bits
  values_are =
      subst (AllByRecursion (λ b. b.wire ≡ true → IsFormulaOf (no_wires ds) text (Name b.name) (formula_at fs b.node))) (sym is.bits_are)
      (each_bit (λ b. b.wire ≡ true → IsFormulaOf (no_wires ds) text (Name b.name) (formula_at fs b.node)) (of_class Net ds) is.wires (length (no_wires ds))
      (λ t n lt e. absurd cc)
      (λ t w lt at e.
      let within : w < length assigns = omega (arith, wires_total) in
      let target_is : (get_or assigns w no_assignment).target ≡ t = sym (get_or-map (λ (a : Assignment). a.target) assigns w no_assignment [] within) ∙ ap (λ (ns : List (List ℕ)). get_or ns w []) is.nets ∙ at in
      subst (λ (n : List ℕ). IsFormulaOf (no_wires ds) text (Name n) (formula_at fs (get_or is.wires w 0))) target_is
      (all_mean l assigns text is.rules net.nodes is.wires is.nets nets_once nets_apart (are_terms l (map (λ a. a.value) assigns) is.rules is.rules_are) values_found is.wires_made is.order is.ordered w within))
      0 0 ds (omega arith) refl)

  source_tie : (n : List ℕ) → is_among n (no_wires ds) ≡ cond (is_a Net es n) false (is_declared es n)
  source_tie n =
      let net_same : is_a Net es n ≡ is_a Net ds n = any_kept (λ d. bytes_eq n d.name && class_eq Net d.class) ds es (IsPermutation-sym es ds same) in
      let declared_same : is_declared es n ≡ is_declared ds n = any_kept (λ d. bytes_eq n d.name) ds es (IsPermutation-sym es ds same) in
      elim (cases_Bool (is_a Net ds n)) [
        | inl wire ↦ rw (net_same, wire) (wire_no_source ds n once wire)
        | inr other ↦ rw (net_same, other, declared_same) (both_ways (is_among n (no_wires ds)) (is_declared ds n) (source_declared ds n) (λ h. elim (declared_cases ds n h) [ inl wire ↦ absurd cc | inr source ↦ source ]))
      ]

  wire_design_names : map (λ w. w.name) (design_of net).wires ≡ of_class Net ds
  wire_design_names = map-map (λ w. w.name) (wire_of fs) (filter (λ b. b.wire) net.bits) ∙ ap (λ (bs : List NetBit). map (λ b. b.name) (filter (λ b. b.wire) bs)) is.bits_are ∙ wire_names 0 0 is.wires ds

  pub is_design : (m : Module) → declared m ≡ es → processes m ≡ text_ps → assignments m ≡ text → IsDesignOf m (design_of net)
  is_design m es_are ps_are text_are = record {
    sources = record {
      ascending = subst IsAscending (sym design_names) (ascending_filter (λ d. not (class_eq Net d.class)) ds up);
      declared_names = λ n. ap (is_among n) design_names ∙ source_tie n ∙ ap (λ (xs : List Declared). cond (is_a Net xs n) false (is_declared xs n)) (sym es_are);
      kinds =
          subst (λ (ns : List (List ℕ)). AllByRecursion (λ s. IsKindOf ns (assignments m) (process_for s.name (processes m)) s.kind) (design_of net).sources) (sym design_names)
          (subst (λ (xs : List Assignment). AllByRecursion (λ s. IsKindOf (no_wires ds) xs (process_for s.name (processes m)) s.kind) (design_of net).sources) (sym text_are)
          (subst (λ (qs : List Process). AllByRecursion (λ s. IsKindOf (no_wires ds) text (process_for s.name qs) s.kind) (design_of net).sources) (sym ps_are)
          (map_back (λ s. IsKindOf (no_wires ds) text (process_for s.name text_ps) s.kind) (source_of fs) net.sources kinds_are)));
    };
    wires = record {
      ascending = subst IsAscending (sym wire_design_names) (ascending_filter (λ d. class_eq Net d.class) ds up);
      declared_names = λ n. ap (is_among n) wire_design_names ∙ among_class Net ds n ∙ any_kept (λ d. bytes_eq n d.name && class_eq Net d.class) es ds same ∙ ap (λ (xs : List Declared). is_a Net xs n) (sym es_are);
      values =
          subst (λ (ns : List (List ℕ)). AllByRecursion (λ w. IsFormulaOf ns (assignments m) (tree.Name w.name) w.value) (design_of net).wires) (sym design_names)
          (subst (λ (xs : List Assignment). AllByRecursion (λ w. IsFormulaOf (no_wires ds) xs (tree.Name w.name) w.value) (design_of net).wires) (sym text_are)
          (map_back (λ w. IsFormulaOf (no_wires ds) text (tree.Name w.name) w.value) (wire_of fs) (filter (λ b. b.wire) net.bits) (filter_all (λ b. IsFormulaOf (no_wires ds) text (Name b.name) (formula_at fs b.node)) net.bits values_are)));
    };
  }

-- The netlist of a module is lawful.
use Rattle.std.proofs.Common.{◌≡◌, inl, inr, ℕ, ◌+◌, ◌<◌, ◌^◌, true, false, not, List, [], ◌∷◌, map, length, get_or, slice_get, Some, refl, sym, ap, subst, ◌∙◌, arith}
use Rattle.std.specs.List.{AllByRecursion}
use Rattle.std.proofs.lemmas.Bool.{cases_lt}
use Rattle.std.proofs.lemmas.List.{length-map, get_or-map, get_or_past, length-append}
use Rattle.thin_tree.specs.declared.tree.Class.TheVariants.{Input, Net, Register}
use Rattle.thin_tree.specs.Grammar.{IsPlain}
use Rattle.thin_tree.specs.Tree.{Declared, Assignment, Process}
use Rattle.thin_form.specs.Design.{IsAscending}
use Rattle.thin_form.specs.Meaning.{place}
use Rattle.thin_form.specs.Rules.{names_of, is_a, class_eq}
use Rattle.thin_form.specs.Order.{of_class, no_wires}
use Rattle.thin_form.specs.Numbers.{Lists, IsControlled, flop_of}
use Rattle.thin_form.specs.Resolved.{lists_of}
use Rattle.thin_form.specs.Built.{IsNetOf}
use Rattle.thin_form.specs.Assembled.{bits_from, with_data, no_flop}
use Rattle.thin_form.specs.Netlist.{Entry, NetBit, Netlist, kind_at, AreNodes, source_nodes, IsFlopIn, IsLawful}
use Rattle.thin_form.specs.declared.kind.Flop.{Flop}
use Rattle.thin_form.specs.declared.kind.Kind.TheVariants as kind
use Rattle.thin_form.specs.declared.kind.Node.{Node}
use Rattle.thin_form.proofs.Search.{stands_at}
use Rattle.thin_form.proofs.Naming.{distinct_names, place_lt, name_at_place, among_at}
use Rattle.thin_form.proofs.Classes.{among_class, class_source, input_no_register, ascending_filter, fewer_names}
use Rattle.thin_form.proofs.Formulas.{length-sources}
use Rattle.thin_form.proofs.Parts.{entry_names, bit_names, each_entry, each_bit, bit_of_source}
use Rattle.thin_form.proofs.Ruled.{are_terms, terms_count}
use Rattle.thin_form.proofs.Sound.{all_map}
use Rattle.thin_form.proofs.Wired.{each_at}

module _ (ds : List Declared) (ps : List Process) (assigns : List Assignment) (net : Netlist) (is : IsNetOf ds ps assigns net) (up : IsAscending (names_of ds)) where
  abbrev l : Lists
  l = lists_of ds is.marks

  pub source_names : map (λ s. s.name) net.sources ≡ no_wires ds
  source_names = ap (λ (ss : List Entry). map (λ s. s.name) ss) is.sources_are ∙ entry_names 0 0 (map (flop_of l) ps) is.values ds

  pub all_bit_names : map (λ b. b.name) net.bits ≡ names_of ds
  all_bit_names = ap (λ (bs : List NetBit). map (λ b. b.name) bs) is.bits_are ∙ bit_names 0 0 is.wires ds

  pub source_count : length net.sources ≡ length (no_wires ds)
  source_count = sym (length-map net.sources (λ s. s.name)) ∙ ap length source_names

  bit_count : length net.bits ≡ length ds
  bit_count = sym (length-map net.bits (λ b. b.name)) ∙ ap length all_bit_names ∙ length-map ds (λ d. d.name)

  pub wire_count : length is.rules ≡ length (of_class Net ds)
  wire_count = terms_count l (map (λ a. a.value) assigns) is.rules (are_terms l (map (λ a. a.value) assigns) is.rules is.rules_are) ∙ length-map assigns (λ a. a.value) ∙ sym (length-map assigns (λ a. a.target)) ∙ ap length is.nets

  pub data_count : length is.data ≡ length ps
  data_count = terms_count l (map (λ p. p.data) ps) is.data (are_terms l (map (λ p. p.data) ps) is.data is.data_are) ∙ length-map ps (λ p. p.data)

  pub register_count : length ps ≡ length (of_class Register ds)
  register_count = sym (length-map ps (λ p. p.cleared)) ∙ ap length is.registers

  -- an input's kind is that
  kinds_of_inputs : AllByRecursion (λ s. is_a Input ds s.name ≡ true → s.kind ≡ kind.Input) net.sources
  kinds_of_inputs =
      subst (AllByRecursion (λ s. is_a Input ds s.name ≡ true → s.kind ≡ kind.Input)) (sym is.sources_are)
      (each_entry (λ s. is_a Input ds s.name ≡ true → s.kind ≡ kind.Input) (λ t. Unit {0}) (of_class Register ds) (map (flop_of l) ps) is.values
      (λ t b g h. refl)
      (λ t b r lt at h. absurd (input_no_register ds t (distinct_names (names_of ds) up) h (sym (among_class Register ds t) ∙ among_at (of_class Register ds) r t lt at)))
      0 0 ds (trivially ds) refl)
    where
      trivially : (es : List Declared) → AllByRecursion (λ d. d.class ≡ Input → Unit {0}) es
      trivially [] = tt
      trivially (e ∷ es) = ((λ h. tt), trivially es)

  input_kind : (t : List ℕ) → is_a Input ds t ≡ true → kind_at net (place (no_wires ds) t) ≡ kind.Input
  input_kind t h =
      let among = class_source Input ds t refl h in
      let lt : place (no_wires ds) t < length net.sources = omega (arith, place_lt (no_wires ds) t among, source_count) in
      let s = stands_at net.sources (place (no_wires ds) t) lt in
      let name_is : s.0.name ≡ t =
      ap (λ (e : Entry). e.name) s.1 ∙ sym (get_or-map (λ (e : Entry). e.name) net.sources (place (no_wires ds) t) s.0 [] lt)
      ∙ ap (λ (ns : List (List ℕ)). get_or ns (place (no_wires ds) t) []) source_names ∙ name_at_place (no_wires ds) t among in
      let kind_is = each_at (λ e. is_a Input ds e.name ≡ true → e.kind ≡ kind.Input) net.sources (place (no_wires ds) t) s.0 lt kinds_of_inputs in
      get_or-map (λ (e : Entry). e.kind) net.sources (place (no_wires ds) t) s.0 kind.Input lt ∙ kind_is (ap (is_a Input ds) (ap (λ (e : Entry). e.name) (sym s.1) ∙ name_is) ∙ h)

  -- a flop's clock and pin are inputs
  flop_in : (p : Process) (k : ℕ) → IsControlled l p → k < length net.nodes → IsFlopIn net (with_data (flop_of l p) k)
  flop_in p k controlled lt =
      let clock = sym (among_class Input ds p.clock) ∙ controlled.clock in
      let pin = sym (among_class Input ds p.event) ∙ controlled.pin in
      record {
        clock = omega (arith, place_lt (no_wires ds) p.clock (class_source Input ds p.clock refl clock), source_count);
        pin = omega (arith, place_lt (no_wires ds) p.event (class_source Input ds p.event refl pin), source_count);
        «data» = lt;
        clock_is_input = input_kind p.clock clock;
        pin_is_input = input_kind p.event pin;
      }

  flops_of_registers : AllByRecursion (λ s. (f : Flop) → s.kind ≡ kind.Register f → IsFlopIn net f) net.sources
  flops_of_registers =
      subst (AllByRecursion (λ s. (f : Flop) → s.kind ≡ kind.Register f → IsFlopIn net f)) (sym is.sources_are)
      (each_entry (λ s. (f : Flop) → s.kind ≡ kind.Register f → IsFlopIn net f) (λ t. Unit {0}) (of_class Register ds) (map (flop_of l) ps) is.values
      (λ t b g f e. absurd cc)
      (λ t b r lt at f e.
      let within : r < length ps = omega (arith, register_count) in
      let p = stands_at ps r within in
      let same : flop_of l p.0 ≡ get_or (map (flop_of l) ps) r no_flop = ap (flop_of l) p.1 ∙ sym (get_or-map (flop_of l) ps r p.0 no_flop within) in
      let made = is.values_made.each r (omega (arith, data_count)) in
      let controlled = subst (IsControlled l) (sym p.1) (each_at (IsControlled l) ps r p.0 within is.controlled) in
      let flop = flop_in p.0 (get_or is.values r 0) controlled made.within in
      let is_f : with_data (flop_of l p.0) (get_or is.values r 0) ≡ f = ap (λ (g : Flop). with_data g (get_or is.values r 0)) same ∙ (let h : with_data (get_or (map (flop_of l) ps) r no_flop) (get_or is.values r 0) ≡ f = cc in h) in
      subst (IsFlopIn net) is_f flop)
      0 0 ds (trivially ds) refl)
    where
      trivially : (es : List Declared) → AllByRecursion (λ d. d.class ≡ Input → Unit {0}) es
      trivially [] = tt
      trivially (e ∷ es) = ((λ h. tt), trivially es)

  pub lawful : AreNodes (length (no_wires ds)) net.nodes → length net.nodes < 2 ^ 32 → length ds < 2 ^ 32 → AllByRecursion IsPlain (names_of ds) → IsLawful net
  lawful nodes few few_names named = record {
    few = few;
    few_sources = omega (arith, source_count, fewer_names (λ d. not (class_eq Net d.class)) ds);
    few_bits = omega (arith, bit_count);
    nodes = subst (λ (n : ℕ). AreNodes n net.nodes) (sym source_count) nodes;
    ascending = subst IsAscending (sym source_names) (ascending_filter (λ d. not (class_eq Net d.class)) ds up);
    bits_ascend = subst IsAscending (sym all_bit_names) up;
    plain = all_map IsPlain (λ (b : NetBit). b.name) net.bits (subst (AllByRecursion IsPlain) (sym all_bit_names) named);
    within =
        subst (AllByRecursion (λ b. b.node < length net.nodes)) (sym is.bits_are)
        (each_bit (λ b. b.node < length net.nodes) (of_class Net ds) is.wires (length (no_wires ds))
        (λ t n lt. omega (arith, ap length nodes.parts, length-append {A = Node} (source_nodes 0 (length (no_wires ds))) nodes.gates, length-sources 0 (length (no_wires ds))))
        (λ t w lt at. (is.wires_made.each w (omega (arith, wire_count))).within)
        0 0 ds (omega arith) refl);
    source_bits = λ n s at.
        let found = bit_of_source 0 0 0 0 (map (flop_of l) ps) is.values is.wires ds n s (ap (λ (ss : List Entry). slice_get ss n) (sym is.sources_are) ∙ at) in
        let place_is : found.0 ≡ s.bit = omega (arith, found.1) in
        let number_is : 0 + n ≡ n = omega arith in
        ap (λ (bs : List NetBit). slice_get bs s.bit) is.bits_are ∙ ap (slice_get (bits_from 0 0 is.wires ds)) (sym place_is) ∙ found.2 ∙ ap (λ (m : ℕ). Some (record { name = s.name; node = m; wire = false })) number_is;
    flops = λ n f e. elim (cases_lt n (length net.sources)) [
      | inl lt ↦
          let s = stands_at net.sources n lt in
          each_at (λ x. (g : Flop) → x.kind ≡ kind.Register g → IsFlopIn net g) net.sources n s.0 lt flops_of_registers f (sym (get_or-map (λ (x : Entry). x.kind) net.sources n s.0 kind.Input lt) ∙ e)
      | inr le ↦ absurd (let past : kind.Input ≡ kind.Register f = sym (get_or_past (map (λ (x : Entry). x.kind) net.sources) n kind.Input (omega (arith, length-map net.sources (λ (x : Entry). x.kind)))) ∙ e in cc)
    ];
  }

-- Serves specs/PlainNet.antt: the nodes of a netlist are gates of a net, and have the values of their formulas.
use Rattle.std.proofs.Common.{◌≡◌, ℕ, zero, suc, ◌+◌, ◌<◌, ◌≤◌, Bool, true, false, List, [], ◌∷◌, ◌++◌, length, get_or, Option, Some, None, refl, sym, ap, subst, ◌∙◌, inl, inr, arith, length-append}
use Rattle.std.specs.Prelude.{slice_get, map, not, ◌&&◌}
use Rattle.std.specs.Option.{option_map}
use Rattle.std.specs.List.{AllByRecursion, list_all, list_any}
use Rattle.std.specs.Str.{IsAscii, IsUtf8, bytes_eq}
use Rattle.std.specs.declared.cmp.Ordering.TheVariants.{Less}
use Rattle.std.specs.Ordering.{nat_cmp, is_gt}
use Rattle.std.specs.Cmp.Lexicographic.{slice_cmp, nat_list_cmp_total}
use Rattle.std.proofs.lemmas.Cmp.{tied_itself}
use Rattle.std.proofs.lemmas.Map.Keys.{Less-from_sorted}
use Rattle.std.proofs.lemmas.Bool.{cases_lt}
use Rattle.std.proofs.lemmas.Bool.Decides.{nat_tests}
use Rattle.std.proofs.lemmas.List.{get_or_past, get_or-map, length-map, map-append}
use Rattle.std.proofs.lemmas.Option.{slice_get_within, slice_get_past, slice_get-map}
use Rattle.std.proofs.lemmas.Str.{IsUtf8-from_ascii}
use Rattle.std.proofs.lemmas.Str.Ascii.{IsAscii-nil, IsAscii-cons}
use Rattle.rdc_tern.specs.Kleene.{not_of, and_of, or_of}
use Rattle.net_view.specs.declared.gate.Gate.TheVariants as gates
use Rattle.net_view.specs.declared.flop_net.SrcKind.TheVariants as connections
use Rattle.net_view.specs.declared.flop_net.FlopOf.{FlopOf}
use Rattle.net_view.specs.View.{Numbered, Reads, IsGateAt, IsNet}
use Rattle.net_view.specs.Values.{State, at, gate_value, values, values_after}
use Rattle.net_view.specs.FlopNet as nets
use Rattle.net_view.proofs.ValuesLemmas.{values_valued}
use Rattle.run_model.specs.Machine.{APort}
use Rattle.run_model.specs.Agrees.{Agrees, SameMeaning}
use Rattle.run_model.specs.Netlist as machines
use Rattle.thin_form.specs.Formula as formula
use Rattle.thin_form.specs.Design as designs
use Rattle.thin_form.specs.Netlist as form
use Rattle.thin_form.specs.Netlist.{Netlist, NetBit, IsLawful, AreNodes, AreGatesFrom, IsGateBelow, source_nodes, formula_at, formula_of, formulas_after, formulas, design_of, kind_at, bit_of}
use Rattle.thin_form.specs.NodeReads.{ReadsBelow}
use Rattle.thin_form.specs.declared.kind.Kind.{Kind}
use Rattle.thin_form.specs.declared.kind.Kind.TheVariants.{Input, Register}
use Rattle.thin_form.specs.declared.kind.Flop.{Flop}
use Rattle.thin_form.specs.declared.kind.Node.{Node}
use Rattle.thin_form.specs.declared.kind.Node.TheVariants as node
use Rattle.thin_form.proofs.DesignOf.{node_reads, length-formulas, kind_at-design_of, length-design_of}
use Rattle.thin_cons.specs.declared.role.Role.{Role}
use Rattle.thin_cons.proofs.NetLemmas.{bit_within}
use Rattle.rdcsign.specs.FormulaValue.{formula_value}
use Rattle.rdcsign.specs.DesignMachine.{meaning_of, machine_of}
use Rattle.rdcsign.specs.PlainNet.{gate_of, gates_of, bits_from, kind_in_net, kinds_of, names_of, net_machine, HasBitValues}

abbrev pub some_gate : Numbered → Option Numbered
some_gate g = Some g

same_gate : (g h : Numbered) → some_gate g ≡ some_gate h → g ≡ h
same_gate g h e = cc

abbrev pub some_node : Node → Option Node
some_node x = Some x

abbrev source_number : ℕ → Node
source_number n = node.Source n

same_source : (a b : ℕ) → source_number a ≡ source_number b → a ≡ b
same_source a b e = cc

-- ---- nodes

pub gates_len : (net : Netlist) → length (gates_of net) ≡ length net.nodes
gates_len net = length-map net.nodes gate_of

-- what stands at a place of a list that is mapped
pub mapped_get : {X Y : Type 0} (f : X → Y) (xs : List X) (k : ℕ) (x : X) → slice_get xs k ≡ Some x → slice_get (map f xs) k ≡ Some (f x)
mapped_get f [] k x at = absurd cc
mapped_get f (y ∷ xs) zero x at = cc
mapped_get f (y ∷ xs) (suc k) x at = mapped_get f xs k x at

-- what a mapped list has at a place comes from what the list has there
pub unmapped_get : {X Y : Type 0} (f : X → Y) (xs : List X) (k : ℕ) (y : Y) → slice_get (map f xs) k ≡ Some y → (x : X) × (slice_get xs k ≡ Some x) × (y ≡ f x)
unmapped_get f [] k y at = absurd cc
unmapped_get f (x ∷ xs) zero y at = let same : f x ≡ y = cc in (x, refl, sym same)
unmapped_get f (x ∷ xs) (suc k) y at = unmapped_get f xs k y at

pub gate_at : (net : Netlist) (k : ℕ) (x : Node) → slice_get net.nodes k ≡ Some x → IsGateAt (gates_of net) k (gate_of x)
gate_at net k x at = mapped_get gate_of net.nodes k x at

-- a gate reads what its node reads
node_lower : (count k : ℕ) (x : Node) → ReadsBelow count k x → Reads (λ j. j < k) (λ s. s < count) (gate_of x)
node_lower count k (node.Source n) below = below
node_lower count k (node.Not a) below = below
node_lower count k (node.And a b) below = below
node_lower count k (node.Or a b) below = below

-- the node of a source
pub source_at : (from left s : ℕ) (gs : List Node) → s < left → slice_get (source_nodes from left ++ gs) s ≡ Some (node.Source (from + s))
source_at from zero s gs lt = absurd (omega arith)
source_at from (suc left) zero gs lt = ap (λ n. some_node (node.Source n)) (let e : from ≡ from + 0 = omega arith in e)
source_at from (suc left) (suc s) gs lt = source_at (from + 1) left s gs (omega arith) ∙ ap (λ n. some_node (node.Source n)) (let e : (from + 1) + s ≡ from + suc s = omega arith in e)

source_gate : (x : Node) (s : ℕ) → gates.Source s ≡ gate_of x → x ≡ node.Source s
source_gate (node.Source n) s e = cc
source_gate (node.Not a) s e = absurd cc
source_gate (node.And a b) s e = absurd cc
source_gate (node.Or a b) s e = absurd cc

no_source : (from k s : ℕ) (gs : List Node) → AreGatesFrom from gs → slice_get gs k ≡ Some (node.Source s) → ⊥
no_source from k s [] are at = absurd cc
no_source from zero s (g ∷ gs) are at = let same : g ≡ node.Source s = cc in subst (IsGateBelow from) same are.0
no_source from (suc k) s (g ∷ gs) are at = no_source (from + 1) k s gs are.1 at

-- a source's node is that of its number
source_is : (from left k s count : ℕ) (gs : List Node) → AreGatesFrom count gs → slice_get (source_nodes from left ++ gs) k ≡ Some (node.Source s) → s ≡ from + k
source_is from zero k s count gs are at = absurd (no_source count k s gs are at)
source_is from (suc left) zero s count gs are at = let same : node.Source from ≡ node.Source s = cc in let e : from ≡ from + 0 = omega arith in sym (same_source from s same) ∙ e
source_is from (suc left) (suc k) s count gs are at = let e : (from + 1) + k ≡ from + suc k = omega arith in source_is (from + 1) left k s count gs are at ∙ e

source_node : (net : Netlist) (k s : ℕ) → AreNodes (length net.sources) net.nodes → IsGateAt (gates_of net) k (gates.Source s) → s ≡ k
source_node net k s are at =
    let u = unmapped_get gate_of net.nodes k (gates.Source s) at in
    let x-is = source_gate u.0 s u.2 in
    let there : slice_get (source_nodes 0 (length net.sources) ++ are.gates) k ≡ Some (node.Source s) = ap (λ xs. slice_get xs k) (sym are.parts) ∙ u.1 ∙ ap some_node x-is in
    let e : 0 + k ≡ k = omega arith in
    source_is 0 (length net.sources) k s (length net.sources) are.gates are.lower there ∙ e

pub is_net : (net : Netlist) → IsLawful net → IsNet (gates_of net) (length net.sources)
is_net net lawful = record {
  lower = λ k g is. let u = unmapped_get gate_of net.nodes k g is in
      subst (Reads (λ j. j < k) (λ s. s < length net.sources)) (sym u.2) (node_lower (length net.sources) k u.0 (node_reads (length net.sources) net.nodes k u.0 lawful.nodes u.1));
  placed = λ s lt. (
    s,
    gate_at net s (node.Source s)
        (ap (λ xs. slice_get xs s) lawful.nodes.parts ∙ source_at 0 (length net.sources) s lawful.nodes.gates lt ∙ ap (λ n. some_node (node.Source n)) (let e : 0 + s ≡ s = omega arith in e)),
  );
  once = λ j k s here there. sym (source_node net j s lawful.nodes here) ∙ source_node net k s lawful.nodes there;
}

-- ---- values

value_there : (s : State) (fs : List formula.Formula) (k : ℕ) → k < length fs → at (map (formula_value s) fs) k ≡ formula_value s (formula_at fs k)
value_there s fs k lt = get_or-map (formula_value s) fs k (formula.Source 0) _ lt

-- a gate has the value of its node's formula
gate_worth : (s : State) (count : ℕ) (fs : List formula.Formula) (x : Node) → ReadsBelow count (length fs) x → gate_value s (at (map (formula_value s) fs)) (gate_of x) ≡ formula_value s (formula_of fs x)
gate_worth s count fs (node.Source n) below = refl
gate_worth s count fs (node.Not a) below = ap not_of (value_there s fs a below)
gate_worth s count fs (node.And a b) below = rw (value_there s fs a below.0, value_there s fs b below.1) refl
gate_worth s count fs (node.Or a b) below = rw (value_there s fs a below.0, value_there s fs b below.1) refl

-- the values of the gates are those of the formulas
worth_all : (s : State) (count : ℕ) (fs : List formula.Formula) (xs : List Node) → ((k : ℕ) (x : Node) → slice_get xs k ≡ Some x → ReadsBelow count (length fs + k) x)
    → values_after s (map (formula_value s) fs) (map gate_of xs) ≡ map (formula_value s) (formulas_after fs xs)
worth_all s count fs [] reads = refl
worth_all s count fs (x ∷ xs) reads =
    let here = gate_worth s count fs x (subst (λ n. ReadsBelow count n x) (let e : length fs + 0 ≡ length fs = omega arith in e) (reads zero x refl)) in
    let known : map (formula_value s) fs ++ gate_value s (at (map (formula_value s) fs)) (gate_of x) ∷ [] ≡ map (formula_value s) (fs ++ formula_of fs x ∷ []) =
    ap (λ v. map (formula_value s) fs ++ v ∷ []) here ∙ sym (map-append (formula_value s) fs (formula_of fs x ∷ [])) in
    ap (λ vs. values_after s vs (map gate_of xs)) known
    ∙ worth_all s count (fs ++ formula_of fs x ∷ []) xs
    (λ k y at. subst (λ n. ReadsBelow count n y) (let len = length-append fs (formula_of fs x ∷ []) in let e : length fs + suc k ≡ length (fs ++ formula_of fs x ∷ []) + k = omega (arith, len) in e) (reads (suc k) y at))

-- a node has the value of its formula
pub node_worth : (net : Netlist) (s : State) (k : ℕ) → IsLawful net → k < length net.nodes → at (values (gates_of net) s) k ≡ formula_value s (formula_at (formulas net.nodes) k)
node_worth net s k lawful lt =
    let all = worth_all s (length net.sources) [] net.nodes (λ j x is. subst (λ n. ReadsBelow (length net.sources) n x) (let e : j ≡ 0 + j = omega arith in e) (node_reads (length net.sources) net.nodes j x lawful.nodes is)) in
    ap (λ vs. at vs k) all ∙ value_there s (formulas net.nodes) k (omega (arith, length-formulas net.nodes))

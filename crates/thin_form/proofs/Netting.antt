-- Nodes over the nodes of sources.
use Rattle.std.proofs.Common.{◌≡◌, ℕ, ◌<◌, ◌≤◌, Bool, List, [], ◌∷◌, ◌++◌, map, length, get_or, sum_by, sym, ap, subst, ◌∙◌, arith}
use Rattle.std.specs.List.{AllByRecursion}
use Rattle.std.proofs.lemmas.List.{length-map}
use Rattle.std.proofs.lemmas.List.Sums.{sum_by-cons}
use Rattle.thin_tree.specs.Tree.{Declared, Assignment, Process, Expr}
use Rattle.thin_tree.specs.declared.tree.Class.TheVariants.{Net, Register}
use Rattle.thin_form.specs.Rules.{targets, cleared}
use Rattle.thin_form.specs.Order.{of_class}
use Rattle.thin_form.specs.Resolved.{lists_of, IsResolved}
use Rattle.thin_form.specs.Built.{IsNetOf}
use Rattle.thin_form.specs.Assembled.{entries_of, bits_of}
use Rattle.thin_form.specs.declared.resolver.Resolved.{Resolved}
use Rattle.thin_form.specs.declared.kind.Flop.{Flop}
use Rattle.thin_tree.specs.Postfix.{postfix}
use Rattle.thin_form.specs.Netlist.{Netlist, formula_at, formulas, source_nodes, AreNodes, AreGatesFrom}
use Rattle.thin_form.specs.Numbers.{Lists}
use Rattle.thin_form.specs.Values.{rules_at, IsWhole, IsGrown, IsRule, AreMade, ReadsSources, ReadsWires}
use Rattle.thin_form.specs.declared.kind.Node.{Node}
use Rattle.thin_form.specs.declared.term.Term.{Term}
use Rattle.thin_form.proofs.Naming.{place_lt}
use Rattle.thin_form.proofs.Formulas.{length-sources, source_formula}
use Rattle.thin_form.proofs.Exprs.{IsTerms}
use Rattle.thin_form.proofs.Computed.{named, source_there, is_whole, fewer_terms}
use Rattle.thin_form.proofs.Ruled.{AreTerms, terms_count}
use Rattle.thin_form.proofs.Sound.{by_place}
use Rattle.thin_form.proofs.Wired.{each_at, still_made, sources_grown}

pub map_every : {X : Type 0} (P Q : X → Type 0) (xs : List X) → ((x : X) → P x → Q x) → AllByRecursion P xs → AllByRecursion Q xs
map_every P Q [] f all = tt
map_every P Q (x ∷ xs) f all = (f x all.0, map_every P Q xs f all.1)

-- what rules read of sources is there, in nodes that begin with the sources
pub sources_read : (count wires : ℕ) (rs : List (List Term)) (nodes : List Node) → nodes ≡ source_nodes 0 count → AllByRecursion (IsRule count wires) rs → AllByRecursion (ReadsSources nodes) rs
sources_read count wires rs nodes is all =
    map_every (IsRule count wires) (ReadsSources nodes) rs (λ ts rule n h. let lt = rule.reads_sources n h in (omega (arith, lt, ap length is, length-sources 0 count), ap (λ (xs : List Node). formula_at (formulas xs) n) is ∙ source_formula count n lt)) all

pub all_whole : (count wires : ℕ) (rs : List (List Term)) → AllByRecursion (IsRule count wires) rs → AllByRecursion IsWhole rs
all_whole count wires rs all = map_every (IsRule count wires) IsWhole rs (λ ts rule. rule.whole) all

pub wires_read_within : (count : ℕ) (rs : List (List Term)) (wires : List ℕ) → AllByRecursion (IsRule count (length wires)) rs → AllByRecursion (ReadsWires wires) rs
wires_read_within count rs wires all = map_every (IsRule count (length wires)) (ReadsWires wires) rs (λ ts rule. rule.reads_wires) all

pub sources_read_grown : (old new : List Node) (rs : List (List Term)) → IsGrown old new → AllByRecursion (ReadsSources old) rs → AllByRecursion (ReadsSources new) rs
sources_read_grown old new rs grown all = map_every (ReadsSources old) (ReadsSources new) rs (λ ts reads. sources_grown old new ts grown reads) all

-- nodes of wires are nodes
pub wires_low : (nodes : List Node) (wires : List ℕ) (rs : List (List Term)) → AreMade nodes wires rs wires → AllByRecursion (λ k. k < length nodes) wires
wires_low nodes wires rs made = by_place (λ k. k < length nodes) wires 0 (λ w lt. (made.each w (omega (arith, made.count))).within)

-- nodes that were made are made with more nodes
pub made_still : (count : ℕ) (old new : List Node) (wires : List ℕ) (rs : List (List Term)) → IsGrown old new → AllByRecursion (IsRule count (length wires)) rs → AreMade old wires rs wires → AreMade new wires rs wires
made_still count old new wires rs grown all made = record {
  count = made.count;
  each = λ w lt.
      let rule = each_at (IsRule count (length wires)) rs w [] lt all in
      still_made old new wires (get_or rs w []) (get_or wires w 0) grown (λ v h. let within = rule.reads_wires v h in (within, (made.each v (omega (arith, within, made.count))).within)) (made.each w lt);
}

pub nodes_are : (count : ℕ) (old new : List Node) → old ≡ source_nodes 0 count → IsGrown old new → AreNodes count new
nodes_are count old new is grown = record {
  gates = grown.gates;
  parts = grown.parts ∙ ap (λ (xs : List Node). xs ++ grown.gates) is;
  lower = subst (λ (n : ℕ). AreGatesFrom n grown.gates) (ap length is ∙ length-sources 0 count) grown.lower;
}

-- ---- rules of expressions

rule_is : (l : Lists) (e : Expr) (ts : List Term) (count wires : ℕ) → length l.sources ≡ count → length l.wires ≡ wires → IsTerms l e ts → IsRule count wires ts
rule_is l e ts count wires sources_so wires_so is = record {
  whole = is_whole l e ts is;
  reads_sources = λ n h. omega (arith, source_there l e ts n is h);
  reads_wires = λ w h. let by = named l e ts w is h in omega (arith, by.at, place_lt l.wires by.name by.wire);
}

pub rules_are : (l : Lists) (es : List Expr) (rs : List (List Term)) (count wires : ℕ) → length l.sources ≡ count → length l.wires ≡ wires → AreTerms l es rs → AllByRecursion (IsRule count wires) rs
rules_are l [] [] count wires a b are = tt
rules_are l [] (ts ∷ rs) count wires a b are = absurd are
rules_are l (e ∷ es) [] count wires a b are = absurd are
rules_are l (e ∷ es) (ts ∷ rs) count wires a b are = (rule_is l e ts count wires a b are.0, rules_are l es rs count wires a b are.1)

-- the terms are no more than the steps
pub terms_fewer : {X : Type 0} (l : Lists) (f : X → Expr) (xs : List X) (rs : List (List Term)) → AreTerms l (map f xs) rs → sum_by (λ (ts : List Term). length ts) rs ≤ sum_by (λ x. length (postfix (f x))) xs
terms_fewer l f [] [] are = omega arith
terms_fewer l f [] (ts ∷ rs) are = absurd are
terms_fewer l f (x ∷ xs) [] are = absurd are
terms_fewer l f (x ∷ xs) (ts ∷ rs) are =
    omega (arith, sum_by-cons (λ (us : List Term). length us) ts rs, sum_by-cons (λ x. length (postfix (f x))) x xs, fewer_terms l (f x) ts are.0, terms_fewer l f xs rs are.1)

-- there is a rule for each wire, and one for each register
pub sizes_are : (ds : List Declared) (ps : List Process) (assigns : List Assignment) (marks : List Bool) (rs rd : List (List Term)) → targets assigns ≡ of_class Net ds → cleared ps ≡ of_class Register ds → AreTerms (lists_of ds marks) (map (λ a. a.value) assigns) rs → AreTerms (lists_of ds marks) (map (λ p. p.data) ps) rd
    → (length rs ≡ length (of_class Net ds)) × (length ps ≡ length (of_class Register ds)) × (length rd ≡ length ps)
sizes_are ds ps assigns marks rs rd nets registers rules datas = (
  terms_count (lists_of ds marks) (map (λ a. a.value) assigns) rs rules ∙ length-map assigns (λ a. a.value) ∙ sym (length-map assigns (λ a. a.target)) ∙ ap length nets,
  sym (length-map ps (λ p. p.cleared)) ∙ ap length registers,
  terms_count (lists_of ds marks) (map (λ p. p.data) ps) rd datas ∙ length-map ps (λ p. p.data),
)

-- the netlist of what is resolved
pub net_of : (ds : List Declared) (ps : List Process) (assigns : List Assignment) (found : Resolved) (net : Netlist) (wires values : List ℕ) → IsResolved ds ps assigns found → AreMade net.nodes wires (rules_at found.wires.items) wires → AreMade net.nodes wires (rules_at found.data.items) values
    → net.sources ≡ entries_of found.flops.items values ds → net.bits ≡ bits_of wires ds → IsNetOf ds ps assigns net
net_of ds ps assigns found net wires values is made values_made sources bits = record {
  marks = is.marks;
  rules = rules_at found.wires.items;
  «data» = rules_at found.data.items;
  order = found.order.items;
  wires = wires;
  values = values;
  nets = is.nets;
  registers = is.registers;
  controlled = is.controlled;
  rules_are = is.numbers.wires;
  data_are = is.numbers.data;
  ordered = is.numbers.order;
  wires_made = made;
  values_made = values_made;
  sources_are = sources ∙ ap (λ (fs : List Flop). entries_of fs values ds) is.numbers.flops;
  bits_are = bits;
}

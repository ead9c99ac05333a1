-- The design that a netlist keeps, place by place; and what each node computes.
use Rattle.std.proofs.Common.{◌≡◌, ℕ, zero, suc, ◌+◌, ◌<◌, List, [], ◌∷◌, ◌++◌, map, length, get_or, slice_get, take, Some, refl, sym, ap, subst, ◌∙◌, arith, length-append}
use Rattle.std.proofs.lemmas.Simd.{map-map}
use Rattle.std.specs.List.{AllByRecursion}
use Rattle.std.proofs.lemmas.List.{length-map, length-take, map-append, get_or-map}
use Rattle.std.proofs.lemmas.Option.{slice_get_within}
use Rattle.thin_form.specs.Formula as formula
use Rattle.thin_form.specs.Design as designs
use Rattle.thin_form.specs.Design.{Design}
use Rattle.thin_form.specs.Netlist.{Entry, Netlist, formula_at, formula_of, formulas_after, formulas, kind_of, source_of, design_of, name_at, kind_at, IsGateBelow, AreGatesFrom, AreNodes, source_nodes}
use Rattle.thin_form.specs.NodeReads.{ReadsBelow}
use Rattle.thin_form.specs.declared.kind.Kind.TheVariants.{Input}
use Rattle.thin_form.specs.declared.kind.Node.{Node}
use Rattle.thin_form.specs.declared.kind.Node.TheVariants as node

-- a function of what stands at a place, or of the default
pub get_or-map_all : {X Y : Type 0} (f : X → Y) (xs : List X) (n : ℕ) (d : X) → get_or (map f xs) n (f d) ≡ f (get_or xs n d)
get_or-map_all f [] zero d = refl
get_or-map_all f [] (suc n) d = refl
get_or-map_all f (x ∷ xs) zero d = refl
get_or-map_all f (x ∷ xs) (suc n) d = get_or-map_all f xs n d

pub names-design_of : (net : Netlist) → designs.names (design_of net) ≡ map (λ s. s.name) net.sources
names-design_of net = map-map (λ (s : designs.Source). s.name) (source_of (formulas net.nodes)) net.sources

pub length-design_of : (net : Netlist) → length (design_of net).sources ≡ length net.sources
length-design_of net = length-map net.sources (source_of (formulas net.nodes))

pub name_at-design_of : (net : Netlist) (n : ℕ) → designs.name_at (design_of net) n ≡ name_at net n
name_at-design_of net n = ap (λ ns. get_or ns n []) (names-design_of net)

pub kind_at-design_of : (net : Netlist) (n : ℕ) → designs.kind_at (design_of net) n ≡ kind_of (formulas net.nodes) (kind_at net n)
kind_at-design_of net n =
    ap (λ ks. get_or ks n designs.Input) (map-map (λ (s : designs.Source). s.kind) (source_of (formulas net.nodes)) net.sources ∙ sym (map-map (kind_of (formulas net.nodes)) (λ (s : Entry). s.kind) net.sources))
    ∙ get_or-map_all (kind_of (formulas net.nodes)) (map (λ (s : Entry). s.kind) net.sources) n Input

-- ---- formulas

pub formulas_after-append : (fs : List formula.Formula) (xs ys : List Node) → formulas_after fs (xs ++ ys) ≡ formulas_after (formulas_after fs xs) ys
formulas_after-append fs [] ys = refl
formulas_after-append fs (x ∷ xs) ys = formulas_after-append (fs ++ formula_of fs x ∷ []) xs ys

pub length-formulas_after : (fs : List formula.Formula) (xs : List Node) → length (formulas_after fs xs) ≡ length fs + length xs
length-formulas_after fs [] = omega arith
length-formulas_after fs (x ∷ xs) = omega (arith, length-formulas_after (fs ++ formula_of fs x ∷ []) xs, length-append fs (formula_of fs x ∷ []))

pub length-formulas : (xs : List Node) → length (formulas xs) ≡ length xs
length-formulas xs = omega (arith, length-formulas_after [] xs)

-- the formulas with one node more
pub formulas-push : (xs : List Node) (x : Node) → formulas (xs ++ x ∷ []) ≡ formulas xs ++ formula_of (formulas xs) x ∷ []
formulas-push xs x = formulas_after-append [] xs (x ∷ [])

-- ---- what a node reads

gate_reads : (count k : ℕ) (x : Node) → IsGateBelow k x → ReadsBelow count k x
gate_reads count k (node.Source n) is = absurd is
gate_reads count k (node.Not a) is = is
gate_reads count k (node.And a b) is = is
gate_reads count k (node.Or a b) is = is

gate_at : (count from k : ℕ) (gs : List Node) (x : Node) → AreGatesFrom from gs → slice_get gs k ≡ Some x → ReadsBelow count (from + k) x
gate_at count from k [] x are at = absurd cc
gate_at count from zero (g ∷ gs) x are at = let same : g ≡ x = cc in subst (λ n. ReadsBelow count n x) (omega arith) (subst (λ y. ReadsBelow count from y) same (gate_reads count from g are.0))
gate_at count from (suc k) (g ∷ gs) x are at = subst (λ n. ReadsBelow count n x) (omega arith) (gate_at count (from + 1) k gs x are.1 at)

node_at : (count from left k : ℕ) (gs : List Node) (x : Node) → from + left ≡ count → AreGatesFrom count gs → slice_get (source_nodes from left ++ gs) k ≡ Some x → ReadsBelow count (from + k) x
node_at count from zero k gs x same are at = subst (λ n. ReadsBelow count (n + k) x) (omega arith) (gate_at count count k gs x are at)
node_at count from (suc left) zero gs x same are at = let here : node.Source from ≡ x = cc in subst (λ y. ReadsBelow count (from + 0) y) here (omega arith)
node_at count from (suc left) (suc k) gs x same are at = subst (λ n. ReadsBelow count n x) (omega arith) (node_at count (from + 1) left k gs x (omega arith) are at)

-- a node reads sources that are there, and lower nodes
pub node_reads : (count : ℕ) (nodes : List Node) (k : ℕ) (x : Node) → AreNodes count nodes → slice_get nodes k ≡ Some x → ReadsBelow count k x
node_reads count nodes k x are at = subst (λ n. ReadsBelow count n x) (omega arith) (node_at count 0 count k are.gates x (omega arith) are.lower (ap (λ xs. slice_get xs k) (sym are.parts) ∙ at))

-- ---- lists

-- the front of a list with one more
pub take_get : {X : Type 0} (xs : List X) (k : ℕ) (x : X) → slice_get xs k ≡ Some x → take (k + 1) xs ≡ take k xs ++ x ∷ []
take_get [] k x at = absurd cc
take_get (y ∷ xs) zero x at = cc
take_get (y ∷ xs) (suc k) x at = let n : suc k + 1 ≡ suc (k + 1) = omega arith in ap (λ m. take m (y ∷ xs)) n ∙ ap (λ zs. y ∷ zs) (take_get xs k x at)

-- ---- a value for each node

-- a function of each formula, with one node more
pub mapped_push : {Y : Type 0} (f : formula.Formula → Y) (nodes : List Node) (k : ℕ) (x : Node) (ys : List Y) (y : Y) → slice_get nodes k ≡ Some x → ys ≡ map f (formulas (take k nodes))
    → y ≡ f (formula_of (formulas (take k nodes)) x) → ys ++ y ∷ [] ≡ map f (formulas (take (k + 1) nodes))
mapped_push f nodes k x ys y at before is =
    ap (λ zs. zs ++ y ∷ []) before ∙ ap (λ z. map f (formulas (take k nodes)) ++ z ∷ []) is
    ∙ sym (map-append f (formulas (take k nodes)) (formula_of (formulas (take k nodes)) x ∷ []))
    ∙ ap (map f) (sym (formulas-push (take k nodes) x) ∙ ap formulas (sym (take_get nodes k x at)))

pub mapped_len : {Y : Type 0} (f : formula.Formula → Y) (nodes : List Node) (ys : List Y) → ys ≡ map f (formulas nodes) → length ys ≡ length nodes
mapped_len f nodes ys are = ap length are ∙ length-map (formulas nodes) f ∙ length-formulas nodes

-- what a node reads, where so many nodes before it are known
pub mapped_reads : {Y : Type 0} (f : formula.Formula → Y) (count : ℕ) (nodes : List Node) (k known : ℕ) (x : Node) (ys : List Y) → AreNodes count nodes → slice_get nodes k ≡ Some x → ys ≡ map f (formulas (take k nodes)) → known ≡ length ys
    → ReadsBelow count known x
mapped_reads f count nodes k known x ys are at before len =
    subst (λ n. ReadsBelow count n x)
    (let within = slice_get_within nodes k x at in let same : k ≡ known = omega (arith, len, mapped_len f (take k nodes) ys before, length-take k nodes, within) in same)
    (node_reads count nodes k x are at)

-- the value at a place is that of its formula
pub mapped_at : {Y : Type 0} (f : formula.Formula → Y) (fs : List formula.Formula) (ys : List Y) (k : ℕ) (d : Y) → ys ≡ map f fs → k < length ys → get_or ys k d ≡ f (formula_at fs k)
mapped_at f fs ys k d are lt =
    let len : length ys ≡ length fs = ap length are ∙ length-map fs f in
    ap (λ zs. get_or zs k d) are ∙ get_or-map f fs k (formula.Source 0) d (omega arith)

-- ---- the sources of a formula

abbrev pub Within : ℕ → formula.Formula → Type 0
Within count f = AllByRecursion (λ n. n < count) (formula.sources_in f)

within_append : (count : ℕ) (ns ms : List ℕ) → AllByRecursion (λ n. n < count) ns → AllByRecursion (λ n. n < count) ms → AllByRecursion (λ n. n < count) (ns ++ ms)
within_append count [] ms all others = others
within_append count (n ∷ ns) ms all others = (all.0, within_append count ns ms all.1 others)

formula_within : (count : ℕ) (fs : List formula.Formula) (x : Node) → ((k : ℕ) → k < length fs → Within count (formula_at fs k)) → ReadsBelow count (length fs) x → Within count (formula_of fs x)
formula_within count fs (node.Source n) all below = (below, tt)
formula_within count fs (node.Not a) all below = all a below
formula_within count fs (node.And a b) all below = within_append count (formula.sources_in (formula_at fs a)) (formula.sources_in (formula_at fs b)) (all a below.0) (all b below.1)
formula_within count fs (node.Or a b) all below = within_append count (formula.sources_in (formula_at fs a)) (formula.sources_in (formula_at fs b)) (all a below.0) (all b below.1)

within_push : (count : ℕ) (fs : List formula.Formula) (f : formula.Formula) → ((k : ℕ) → k < length fs → Within count (formula_at fs k)) → Within count f → (k : ℕ) → k < length (fs ++ f ∷ []) → Within count (formula_at (fs ++ f ∷ []) k)
within_push count [] f all here zero lt = here
within_push count [] f all here (suc k) lt = absurd (omega arith)
within_push count (g ∷ fs) f all here zero lt = all 0 (omega arith)
within_push count (g ∷ fs) f all here (suc k) lt = within_push count fs f (λ j below. all (suc j) (omega arith)) here k (omega arith)

formulas_within : (count : ℕ) (fs : List formula.Formula) (xs : List Node) → ((k : ℕ) → k < length fs → Within count (formula_at fs k)) → ((k : ℕ) (x : Node) → slice_get xs k ≡ Some x → ReadsBelow count (length fs + k) x)
    → (k : ℕ) → k < length (formulas_after fs xs) → Within count (formula_at (formulas_after fs xs) k)
formulas_within count fs [] all reads k lt = all k lt
formulas_within count fs (x ∷ xs) all reads k lt =
    let here = formula_within count fs x all (subst (λ n. ReadsBelow count n x) (omega arith) (reads zero x refl)) in
    formulas_within count (fs ++ formula_of fs x ∷ []) xs (within_push count fs (formula_of fs x) all here)
    (λ j y at. subst (λ n. ReadsBelow count n y) (let len = length-append fs (formula_of fs x ∷ []) in let e : length fs + suc j ≡ length (fs ++ formula_of fs x ∷ []) + j = omega (arith, len) in e) (reads (suc j) y at)) k lt

-- a node computes with sources that are there
pub node_within : (count : ℕ) (nodes : List Node) (k : ℕ) → AreNodes count nodes → k < length nodes → Within count (formula_at (formulas nodes) k)
node_within count nodes k are lt =
    formulas_within count [] nodes (λ j below. absurd (omega arith)) (λ j x at. subst (λ n. ReadsBelow count n x) (omega arith) (node_reads count nodes j x are at)) k (omega (arith, length-formulas nodes))

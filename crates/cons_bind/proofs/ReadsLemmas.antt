-- What is marked of the nodes that flops read.
use Rattle.std.proofs.Common.{◌≡◌, ◌≢◌, ◌⊎◌, ℕ, ◌+◌, ◌<◌, ◌≤◌, Bool, true, false, Some, List, length, slice_get, refl, sym, subst, ◌∙◌, inl, inr, arith}
use Rattle.std.specs.Prelude.{IfSome, IsTrue, slice_index_or}
use Rattle.std.specs.Option.{option_map}
use Rattle.net_view.specs.declared.flop_net.FlopOf.{FlopOf}
use Rattle.net_view.specs.declared.flop_net.SrcKind.{SrcKind}
use Rattle.net_view.specs.declared.flop_net.SrcKind.TheVariants.{Flop}
use Rattle.std.proofs.lemmas.Option.{slice_get_within}
use Rattle.net_view.specs.declared.gate.Gate.TheVariants.{Const, Source, Not, And, Or, Xor, Pick, Lift}
use Rattle.net_view.specs.declared.gate.Gate.{Gate}
use Rattle.net_view.specs.View.{Numbered, renumbered, IsGateAt, IsNet, Reads}
use Rattle.net_view.specs.Cone.{IsFanIn, InCone, itself, fan_in}
use Rattle.net_view.proofs.ConeLemmas.{at_fan_in}
use Rattle.net_view.proofs.SourceLemmas.{still_none}
use Rattle.cons_bind.specs.Names.{Net}
use Rattle.cons_bind.specs.Marks.{Marks}
use Rattle.cons_bind.specs.Claims.{IsReadSource}
use Rattle.cons_bind.specs.Reading.{IsRootOf, IsRoot, IsReadBy, IsReadNode, Adds, AreUnmarked}
use Rattle.net_view.specs.FlopNet.{Kind, Bit, renumbered_kind, IsFlopNet}

-- what a flop is connected to is there
pub connected : {N : Type 0} (number : N → ℕ) (gates : List Numbered) (sources : ℕ) (names : List (List ℕ)) (kinds : List Kind) (bits : List Bit) (s : ℕ) (k : SrcKind N) (f : FlopOf N) → IsFlopNet gates sources names kinds bits
    → slice_get kinds s ≡ Some (renumbered_kind number k) → k ≡ Flop f → IfSome (option_map number f.next) (λ n. n < length gates) × IfSome (option_map number f.pin) (λ n. n < length gates)
connected number gates sources names kinds bits s k f lawful kind is =
    let known = rw is at kind in
    let all = lawful.flops s _ known in
    (all.next, all.pin)

-- ---- the roots

-- node k is the data or the pin of a flop whose node is below n
abbrev pub RootBelow : List Numbered → List Kind → ℕ → ℕ → Type 0
RootBelow gates kinds n k = (j : ℕ) × (s : ℕ) × (j < n) × IsGateAt gates j (Source s) × IsRootOf kinds s k

pub adds_none : (P : ℕ → Type 0) (old : List Bool) → ((k : ℕ) → P k → ⊥) → Adds P old old
adds_none P old none = record { each = λ k. (λ is. inr is, λ either. elim either [ inl p ↦ absurd (none k p) | inr is ↦ is ]); len = refl }

pub no_root : (gates : List Numbered) (kinds : List Kind) (k : ℕ) → RootBelow gates kinds 0 k → ⊥
no_root gates kinds k below = omega (arith, below.2)

one_of : (k n : ℕ) → k < n + 1 → (k < n) ⊎ (k ≡ n)
one_of k n lt = grind arith

abbrev source_gate : ℕ → Numbered
source_gate s = Source s

some_source : (s t : ℕ) → Some (source_gate s) ≡ Some (source_gate t) → s ≡ t
some_source s t e = cc

-- one more node, which is a source
pub roots_more : (gates : List Numbered) (kinds : List Kind) (n s : ℕ) (old mid new : List Bool) → IsGateAt gates n (Source s) → Adds (RootBelow gates kinds n) old mid → Adds (IsRootOf kinds s) mid new → Adds (RootBelow gates kinds (n + 1)) old new
roots_more gates kinds n s old mid new at first second = record {
  each = λ k. (
    λ is. elim ((second.each k).0 is) [
      | inl here ↦ inl (n, s, omega arith, at, here)
      | inr was ↦ elim ((first.each k).0 was) [ inl below ↦ inl (below.0, below.1, omega (arith, below.2), below.3, below.4) | inr old_one ↦ inr old_one ]
    ],
    λ either. elim either [
      | inl below ↦ (second.each k).1 (split k below (one_of below.0 n below.2))
      | inr old_one ↦ (second.each k).1 (inr ((first.each k).1 (inr old_one)))
    ],
  );
  len = second.len ∙ first.len;
}
  where
    split : (k : ℕ) → (below : RootBelow gates kinds (n + 1) k) → (below.0 < n) ⊎ (below.0 ≡ n) → IsRootOf kinds s k ⊎ IsTrue (slice_index_or mid k false)
    split k below (inl lower) = inr ((first.each k).1 (inl (below.0, below.1, lower, below.3, below.4)))
    split k below (inr same) =
        let there = subst (λ j. IsGateAt gates j (Source below.1)) same below.3 in
        inl (subst (λ t. IsRootOf kinds t k) (some_source below.1 s (sym there ∙ at)) below.4)

-- one more node, which is none
pub roots_skip : (gates : List Numbered) (kinds : List Kind) (n : ℕ) (old new : List Bool) → ((s : ℕ) → IsGateAt gates n (Source s) → ⊥) → Adds (RootBelow gates kinds n) old new → Adds (RootBelow gates kinds (n + 1)) old new
roots_skip gates kinds n old new other adds = record {
  each = λ k. (
    λ is. elim ((adds.each k).0 is) [ inl below ↦ inl (below.0, below.1, omega (arith, below.2), below.3, below.4) | inr old_one ↦ inr old_one ],
    λ either. elim either [
      | inl below ↦ (adds.each k).1 (inl (lower k below (one_of below.0 n below.2)))
      | inr old_one ↦ (adds.each k).1 (inr old_one)
    ],
  );
  len = adds.len;
}
  where
    lower : (k : ℕ) → (below : RootBelow gates kinds (n + 1) k) → (below.0 < n) ⊎ (below.0 ≡ n) → RootBelow gates kinds n k
    lower k below (inl less) = (below.0, below.1, less, below.3, below.4)
    lower k below (inr same) = absurd (other below.1 (subst (λ j. IsGateAt gates j (Source below.1)) same below.3))

-- all nodes
pub roots_all : (net : Net) (sources n : ℕ) (old new : List Bool) → IsNet net.gates sources → length net.kinds ≡ sources → length net.gates ≤ n → Adds (RootBelow net.gates net.kinds n) old new → Adds (IsRoot net) old new
roots_all net sources n old new lawful kinds le adds = record {
  each = λ k. (
    λ is. elim ((adds.each k).0 is) [ inl below ↦ inl (below.1, below.4) | inr old_one ↦ inr old_one ],
    λ either. elim either [
      | inl root ↦
          let lt : root.0 < sources = omega (arith, slice_get_within net.kinds root.0 _ root.1.is_flop, kinds) in
          let place = lawful.placed root.0 lt in
          (adds.each k).1 (inl (place.0, root.0, omega (arith, slice_get_within net.gates place.0 _ place.1), place.1, root.1))
      | inr old_one ↦ (adds.each k).1 (inr old_one)
    ],
  );
  len = adds.len;
}

-- ---- the cones

-- the marks that are known, where the nodes from n on have their fan-ins marked
pub record Closed (gates : List Numbered) (old marks : List Bool) (n : ℕ) : Type 0 where
  pub sound : (k : ℕ) → IsTrue (slice_index_or marks k false) → IsReadBy gates old k
  pub kept : (k : ℕ) → IsTrue (slice_index_or old k false) → IsTrue (slice_index_or marks k false)
  pub closed : (j k : ℕ) (g : Numbered) → n ≤ j → IsTrue (slice_index_or marks j false) → IsGateAt gates j g → IsFanIn g k → IsTrue (slice_index_or marks k false)

pub closed_none : (gates : List Numbered) (old : List Bool) (n : ℕ) → length gates ≤ n → Closed gates old old n
closed_none gates old n le = record {
  sound = λ k is. (k, is, itself);
  kept = λ k is. is;
  closed = λ j k g past is at fan. absurd (omega (arith, slice_get_within gates j g at));
}

-- a marked node, whose fan-ins are marked
pub closed_more : (gates : List Numbered) (sources : ℕ) (old marks new : List Bool) (n : ℕ) (g : Numbered) → IsNet gates sources → IsGateAt gates n g → IsTrue (slice_index_or marks n false) → Closed gates old marks (n + 1) → Adds (IsFanIn g) marks new → Closed gates old new n
closed_more gates sources old marks new n g lawful at marked so adds = record {
  sound = λ k is. elim ((adds.each k).0 is) [
    | inl fan ↦ let above = so.sound n marked in (above.0, above.1, fan_in n k g above.2 at fan)
    | inr was ↦ so.sound k was
  ];
  kept = λ k is. (adds.each k).1 (inr (so.kept k is));
  closed = λ j k h le is there fan. (adds.each k).1 (step j k h le is there fan (from_n n j le));
}
  where
    from_n : (n j : ℕ) → n ≤ j → (j ≡ n) ⊎ (n + 1 ≤ j)
    from_n n j le = grind arith

    some_gate : (a b : Numbered) → Some a ≡ Some b → a ≡ b
    some_gate a b e = cc

    was_marked : (j : ℕ) → n ≤ j → IsTrue (slice_index_or new j false) → IsTrue (slice_index_or marks j false)
    was_marked j le is = elim ((adds.each j).0 is) [
      | inl fan ↦ let lower = at_fan_in (λ i. i < n) (λ s. s < sources) g j (lawful.lower n g at) fan in absurd (omega (arith, lower))
      | inr was ↦ was
    ]

    step : (j k : ℕ) (h : Numbered) → n ≤ j → IsTrue (slice_index_or new j false) → IsGateAt gates j h → IsFanIn h k → (j ≡ n) ⊎ (n + 1 ≤ j) → IsFanIn g k ⊎ IsTrue (slice_index_or marks k false)
    step j k h le is there fan (inl same) = inl (subst (λ x. IsFanIn x k) (some_gate h g (sym (subst (λ i. IsGateAt gates i h) same there) ∙ at)) fan)
    step j k h le is there fan (inr above) = inr (so.closed j k h above (was_marked j le is) there fan)

-- a node that isn't marked
pub closed_skip : (gates : List Numbered) (old marks : List Bool) (n : ℕ) → slice_index_or marks n false ≡ false → Closed gates old marks (n + 1) → Closed gates old marks n
closed_skip gates old marks n unmarked so = record {
  sound = so.sound;
  kept = so.kept;
  closed = λ j k g le is at fan. step j k g le is at fan (from_n n j le);
}
  where
    from_n : (n j : ℕ) → n ≤ j → (j ≡ n) ⊎ (n + 1 ≤ j)
    from_n n j le = grind arith

    step : (j k : ℕ) (g : Numbered) → n ≤ j → IsTrue (slice_index_or marks j false) → IsGateAt gates j g → IsFanIn g k → (j ≡ n) ⊎ (n + 1 ≤ j) → IsTrue (slice_index_or marks k false)
    step j k g le is at fan (inl same) = let marked = subst (λ i. IsTrue (slice_index_or marks i false)) same is in let e : false ≡ true = sym unmarked ∙ marked in absurd cc
    step j k g le is at fan (inr above) = so.closed j k g above is at fan

in_marked : (gates : List Numbered) (old marks : List Bool) (root k : ℕ) → Closed gates old marks 0 → IsTrue (slice_index_or old root false) → InCone gates root k → IsTrue (slice_index_or marks k false)
in_marked gates old marks root _ so is itself = so.kept root is
in_marked gates old marks root _ so is (fan_in k j g inside at fan) = so.closed k j g (omega arith) (in_marked gates old marks root k so is inside) at fan

pub closed_all : (gates : List Numbered) (old marks : List Bool) → length marks ≡ length old → Closed gates old marks 0 → Adds (IsReadBy gates old) old marks
closed_all gates old marks len so = record {
  each = λ k. (
    λ is. inl (so.sound k is),
    λ either. elim either [ inl read ↦ in_marked gates old marks read.0 k so read.1 read.2 | inr is ↦ so.kept k is ],
  );
  len = len;
}

-- ---- the sources

-- source s is the gate of a marked node below n
abbrev pub MarkedBelow : List Numbered → List Bool → ℕ → ℕ → Type 0
MarkedBelow gates nodes n s = (j : ℕ) × (j < n) × IsGateAt gates j (Source s) × IsTrue (slice_index_or nodes j false)

pub marked_none : (gates : List Numbered) (nodes : List Bool) (s : ℕ) → MarkedBelow gates nodes 0 s → ⊥
marked_none gates nodes s below = omega (arith, below.1)

-- one more node, which is marked
pub marked_more : (gates : List Numbered) (nodes old new : List Bool) (n : ℕ) (g : Numbered) → IsGateAt gates n g → IsTrue (slice_index_or nodes n false) → Marks (MarkedBelow gates nodes n) old → Adds (λ s. g ≡ Source s) old new → Marks (MarkedBelow gates nodes (n + 1)) new
marked_more gates nodes old new n g at marked so adds = record {
  each = λ s. (
    λ is. elim ((adds.each s).0 is) [
      | inl here ↦ (n, omega arith, rw (← here) at, marked)
      | inr was ↦ let below = (so.each s).0 was in (below.0, omega (arith, below.1), below.2, below.3)
    ],
    λ below. (adds.each s).1 (split s below (one_of below.0 n below.1)),
  );
}
  where
    some_gate : (a b : Numbered) → Some a ≡ Some b → a ≡ b
    some_gate a b e = cc

    split : (s : ℕ) → (below : MarkedBelow gates nodes (n + 1) s) → (below.0 < n) ⊎ (below.0 ≡ n) → (g ≡ Source s) ⊎ IsTrue (slice_index_or old s false)
    split s below (inl lower) = inr ((so.each s).1 (below.0, lower, below.2, below.3))
    split s below (inr same) = inl (some_gate g (Source s) (sym at ∙ subst (λ j. IsGateAt gates j (Source s)) same below.2))

-- one more node, which isn't
pub marked_skip : (gates : List Numbered) (nodes marks : List Bool) (n : ℕ) → slice_index_or nodes n false ≡ false → Marks (MarkedBelow gates nodes n) marks → Marks (MarkedBelow gates nodes (n + 1)) marks
marked_skip gates nodes marks n unmarked so = record {
  each = λ s. (
    λ is. let below = (so.each s).0 is in (below.0, omega (arith, below.1), below.2, below.3),
    λ below. (so.each s).1 (lower s below (one_of below.0 n below.1)),
  );
}
  where
    lower : (s : ℕ) → (below : MarkedBelow gates nodes (n + 1) s) → (below.0 < n) ⊎ (below.0 ≡ n) → MarkedBelow gates nodes n s
    lower s below (inl less) = (below.0, less, below.2, below.3)
    lower s below (inr same) = let marked = subst (λ j. IsTrue (slice_index_or nodes j false)) same below.3 in let e : false ≡ true = sym unmarked ∙ marked in absurd cc

-- all nodes
pub marked_all : (net : Net) (nodes marks : List Bool) (n : ℕ) → Marks (IsReadNode net) nodes → length net.gates ≤ n → Marks (MarkedBelow net.gates nodes n) marks → Marks (IsReadSource net) marks
marked_all net nodes marks n read le so = record {
  each = λ s. (
    λ is.
        let below = (so.each s).0 is in
        let node = (read.each below.0).0 below.3 in
        record {
          flop = node.1.0;
          connections = node.1.1.connections;
          is_flop = node.1.1.is_flop;
          node = node.0;
          root = node.1.1.root;
          reads = (below.0, node.2, below.2);
        },
    λ is.
        let marked : IsTrue (slice_index_or nodes is.reads.0 false) =
        (read.each is.reads.0).1 (is.node, (is.flop, record { connections = is.connections; is_flop = is.is_flop; root = is.root }), is.reads.1) in
        (so.each s).1 (is.reads.0, omega (arith, slice_get_within net.gates is.reads.0 _ is.reads.2), is.reads.2, marked),
  );
}

-- the roots, and what they read
pub nodes_read : (net : Net) (none roots nodes : List Bool) → AreUnmarked none → Adds (IsRoot net) none roots → Adds (IsReadBy net.gates roots) roots nodes → Marks (IsReadNode net) nodes
nodes_read net none roots nodes unmarked first second = record {
  each = λ k. (
    λ is.
        let read = read_by k ((second.each k).0 is) in
        let root = root_of read.0 ((first.each read.0).0 read.1) in
        (read.0, root, read.2),
    λ is.
        let root : IsTrue (slice_index_or roots is.0 false) = (first.each is.0).1 (inl is.1) in
        (second.each k).1 (inl (is.0, root, is.2)),
  );
}
  where
    root_of : (k : ℕ) → IsRoot net k ⊎ IsTrue (slice_index_or none k false) → IsRoot net k
    root_of k (inl root) = root
    root_of k (inr is) = let e : false ≡ true = sym (unmarked k) ∙ is in absurd cc

    read_by : (k : ℕ) → IsReadBy net.gates roots k ⊎ IsTrue (slice_index_or roots k false) → IsReadBy net.gates roots k
    read_by k (inl read) = read
    read_by k (inr is) = (k, is, itself)

-- no node was looked at
pub marked_start : (gates : List Numbered) (nodes marks : List Bool) → AreUnmarked marks → Marks (MarkedBelow gates nodes 0) marks
marked_start gates nodes marks unmarked = record {
  each = λ s. (λ is. let e : false ≡ true = sym (unmarked s) ∙ is in absurd cc, λ below. absurd (marked_none gates nodes s below));
}

below_all : (gates : List Numbered) (sources n : ℕ) → n < length gates → (g : Numbered) → Reads (λ j. j < n) (λ s. s < sources) g → Reads (λ j. j < length gates) (λ s. s < sources) g
below_all gates sources n lt (Const b) r = tt
below_all gates sources n lt (Source s) r = r
below_all gates sources n lt (Not a) r = omega arith
below_all gates sources n lt (And a b) r = (omega (arith, r.0), omega (arith, r.1))
below_all gates sources n lt (Or a b) r = (omega (arith, r.0), omega (arith, r.1))
below_all gates sources n lt (Xor a b) r = (omega (arith, r.0), omega (arith, r.1))
below_all gates sources n lt (Pick c a b) r = (omega (arith, r.0), omega (arith, r.1), omega (arith, r.2))
below_all gates sources n lt (Lift c a b) r = (omega (arith, r.0), omega (arith, r.1))

-- what a node reads is there
pub reads_within : (gates : List Numbered) (sources n : ℕ) (g : Numbered) → IsNet gates sources → IsGateAt gates n g → Reads (λ j. j < length gates) (λ s. s < sources) g
reads_within gates sources n g lawful at = below_all gates sources n (slice_get_within gates n g at) g (lawful.lower n g at)

-- a gate that is no source is none by numbers
pub not_source : {N S : Type 0} (number : N → ℕ) (source_number : S → ℕ) (gates : List Numbered) (n : ℕ) (g : Gate N S) → IsGateAt gates n (renumbered number source_number g) → ((s : S) → g ≢ Source s) → (s : ℕ) → IsGateAt gates n (Source s) → ⊥
not_source number source_number gates n g at other s there = still_none number source_number g other s (some_gate (renumbered number source_number g) (Source s) (sym at ∙ there))
  where
    some_gate : (a b : Numbered) → Some a ≡ Some b → a ≡ b
    some_gate a b e = cc

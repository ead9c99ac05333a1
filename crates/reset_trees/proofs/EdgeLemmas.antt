-- Serves specs/Problems.antt: the edges, source by source.
use Rattle.std.proofs.Common.{◌≡◌, ◌↔◌, ℕ, ◌+◌, ◌<◌, ◌≤◌, Bool, List, [], ◌∷◌, ◌++◌, length, get_or, map, Option, Some, None, IsSome, All, Contains, sym, subst, ap, refl, ◌∙◌, arith}
use Rattle.std.specs.Prelude.{slice_get, IfSome, MatchOption}
use Rattle.std.specs.Option.{option_map}
use Rattle.std.proofs.lemmas.List.{map-append}
use Rattle.std.proofs.lemmas.List.Elements.{All-push, Contains-get_or}
use Rattle.std.proofs.lemmas.Option.{slice_get_within}
use Rattle.net_view.specs.declared.flop_net.FlopOf.{FlopOf}
use Rattle.net_view.specs.declared.flop_net.SrcKind.TheVariants.{Port, BoxOut, Flop}
use Rattle.net_view.specs.FlopNet.{Kind, IsFlopAt, IsFlopNet}
use Rattle.net_view.specs.declared.gate.Gate.TheVariants.{Source}
use Rattle.net_view.specs.View.{Numbered, IsNet}
use Rattle.net_view.specs.Cone.{Lists, ReadsSource}
use Rattle.cons_bind.specs.Names.{Net}
use Rattle.cons_bind.specs.declared.bound.BoundForm.{BoundForm}
use Rattle.cons_bind.proofs.AscendingLemmas.{ListsBelow, lists_none, lists_push, lists_skip, lists_all}
use Rattle.reset_trees.specs.declared.answers.Marked.{Marked}
use Rattle.reset_trees.specs.Marking.{AreLevels, data_in, ReadsSame}
use Rattle.reset_trees.specs.Problems.{IsEdge, AreEdges}
use Rattle.reset_trees.specs.Reads.{HasData, DataReads}
use Rattle.reset_trees.specs.Roles.{level_of}
use Rattle.reset_trees.specs.Same.{IsSameSource, IsSame}

same_kind : (a b : Kind) → Some a ≡ Some b → a ≡ b
same_kind a b e = cc

-- the edges of the flops below a bound
pub record EdgesBelow (net : Net) (lines : List BoundForm) (bound : ℕ) (edges : List Marked) : Type 0 where
  pub flops : ListsBelow (HasData net) bound (map (λ (e : Marked). e.flop) edges)
  pub each : All (IsEdge net lines) edges

pub edges_none : (net : Net) (lines : List BoundForm) → EdgesBelow net lines 0 []
edges_none net lines = record { flops = lists_none (HasData net); each = λ k d lt. absurd (omega arith) }

pub edges_more : (net : Net) (lines : List BoundForm) (s : ℕ) (edge : Marked) (edges : List Marked) → edge.flop ≡ s → HasData net s → IsEdge net lines edge → EdgesBelow net lines s edges → EdgesBelow net lines (s + 1) (edges ++ edge ∷ [])
edges_more net lines s edge edges is has stands before = record {
  flops = subst (λ (ks : List ℕ). ListsBelow (HasData net) (s + 1) ks) (sym (map-append (λ (e : Marked). e.flop) edges (edge ∷ []) ∙ ap (λ (n : ℕ). map (λ (e : Marked). e.flop) edges ++ n ∷ []) is))
      (lists_push (HasData net) s (map (λ (e : Marked). e.flop) edges) before.flops has);
  each = All-push (IsEdge net lines) edges edge before.each stands;
}

pub edges_skip : (net : Net) (lines : List BoundForm) (s : ℕ) (edges : List Marked) → (HasData net s → ⊥) → EdgesBelow net lines s edges → EdgesBelow net lines (s + 1) edges
edges_skip net lines s edges none before = record { flops = lists_skip (HasData net) s (map (λ (e : Marked). e.flop) edges) before.flops none; each = before.each }

pub edges_all : (net : Net) (lines : List BoundForm) (bound : ℕ) (edges : List Marked) → length net.kinds ≤ bound → EdgesBelow net lines bound edges → AreEdges net lines edges
edges_all net lines bound edges past before = record {
  flops = lists_all (HasData net) bound (map (λ (e : Marked). e.flop) edges) before.flops (λ s is. let low = slice_get_within net.kinds s (Flop is.0) is.1 in omega arith);
  each = before.each;
}

-- a flop with this data
pub record HasDataAt (net : Net) (s : ℕ) (f : FlopOf ℕ) (n : ℕ) : Type 0 where
  pub is_flop : IsFlopAt net.kinds s f
  pub next : f.next ≡ Some n

pair_is : (f g : FlopOf ℕ) (o : Option ℕ) (n : ℕ) → option_map {U = FlopOf ℕ × ℕ} (λ (k : ℕ). (f, k)) o ≡ Some (g, n) → (f ≡ g) × (o ≡ Some n)
pair_is f g None n e = absurd cc
pair_is f g (Some m) n e =
    let same : (◌≡◌ {A = FlopOf ℕ × ℕ} (f, m) (g, n)) = cc in
    (ap (λ (p : FlopOf ℕ × ℕ). p.0) same, ap (λ (p : FlopOf ℕ × ℕ). Some p.1) same)

pub data_is : (net : Net) (s : ℕ) (kind : Kind) (f : FlopOf ℕ) (n : ℕ) → slice_get net.kinds s ≡ Some kind → data_in kind ≡ Some (f, n) → HasDataAt net s f n
data_is net s Port f n at e = absurd cc
data_is net s BoxOut f n at e = absurd cc
data_is net s (Flop g) f n at e =
    let both = pair_is g f g.next n e in
    record {
      is_flop = subst (λ (x : FlopOf ℕ). slice_get net.kinds s ≡ Some (Flop x)) both.0 at;
      next = subst (λ (x : FlopOf ℕ). x.next ≡ Some n) both.0 both.1;
    }

some_is : (o : Option ℕ) (p : ℕ) → o ≡ Some p → IsSome o
some_is o p e = rw e refl

pub has_data : (net : Net) (s : ℕ) (f : FlopOf ℕ) (n : ℕ) → HasDataAt net s f n → HasData net s
has_data net s f n is = (f, is.is_flop, some_is f.next n is.next)

pair_none : (f : FlopOf ℕ) (o : Option ℕ) → option_map {U = FlopOf ℕ × ℕ} (λ (k : ℕ). (f, k)) o ≡ None → IsSome o → ⊥
pair_none f None e h = absurd cc
pair_none f (Some m) e h = absurd cc

pub no_data : (net : Net) (s : ℕ) (kind : Kind) → slice_get net.kinds s ≡ Some kind → data_in kind ≡ None → HasData net s → ⊥
no_data net s kind at none is =
    let same : kind ≡ Flop is.0 = same_kind kind (Flop is.0) (sym at ∙ is.1) in
    pair_none is.0 is.0.next (sym (ap data_in same) ∙ none) is.2

pub data_inside : (net : Net) (count s : ℕ) (f : FlopOf ℕ) (n : ℕ) → IsFlopNet net.gates count net.names net.kinds net.bits → HasDataAt net s f n → n < length net.gates
data_inside net count s f n lawful is = subst (λ (o : Option ℕ). IfSome o (λ p. p < length net.gates)) is.next (lawful.flops s f is.is_flop).next

flop_same : (a b : FlopOf ℕ) → Some (Flop a) ≡ Some (Flop b) → a ≡ b
flop_same a b e = cc

number_is : (a b : ℕ) → (◌≡◌ {A = Option ℕ} (Some a) (Some b)) → a ≡ b
number_is a b e = cc

-- what the data reads
pub data_reads : (net : Net) (s : ℕ) (f : FlopOf ℕ) (n t : ℕ) → HasDataAt net s f n → DataReads net s t ↔ ReadsSource net.gates n t
data_reads net s f n t is = (
  λ r.
      let same : r.flop ≡ f = flop_same r.flop f (sym r.is_flop ∙ is.is_flop) in
      let node : r.next ≡ n = number_is r.next n (sym r.has_next ∙ ap (λ (x : FlopOf ℕ). x.next) same ∙ is.next) in
      subst (λ (k : ℕ). ReadsSource net.gates k t) node r.reads,
  λ r. record { flop = f; is_flop = is.is_flop; next = n; has_next = is.next; reads = r },
)

-- the edge is the same where its data reads nothing but what it may
pub same_is : (net : Net) (lines : List BoundForm) (levels : List (Option Bool)) (s : ℕ) (f : FlopOf ℕ) (n : ℕ) (read : List ℕ) → AreLevels lines levels → HasDataAt net s f n → Lists (ReadsSource net.gates n) read
    → ReadsSame net.kinds levels f (Contains read) ↔ IsSame net lines s
same_is net lines levels s f n read are is lists = (
  λ reads g at t r kind there.
      let same : f ≡ g = flop_same f g (sym is.is_flop ∙ at) in
      subst (λ (x : FlopOf ℕ). IsSameSource x kind (level_of lines t)) same
      (subst (λ (o : Option Bool). IsSameSource f kind o) (are t) (reads t ((lists.whole t).1 ((data_reads net s f n t is).0 r)) kind there)),
  λ same t h kind there.
      subst (λ (o : Option Bool). IsSameSource f kind o) (sym (are t)) (same f is.is_flop t ((data_reads net s f n t is).1 ((lists.whole t).0 h)) kind there),
)

-- what the data reads is in the net
pub reads_inside : (gates : List Numbered) (count n bound : ℕ) (read : List ℕ) → IsNet gates count → bound ≡ count → Lists (ReadsSource gates n) read → All (λ s. s < bound) read
reads_inside gates count n bound read lawful is lists k d lt =
    let r = (lists.whole (get_or read k d)).0 (Contains-get_or read k d lt) in
    let low = lawful.lower r.0 (Source (get_or read k d)) r.2 in
    omega (arith, low, is)

pub match_none : (o : Option Marked) (P : Type 0) (Q : Marked → Type 0) → ((e : Marked) → o ≡ Some e → ⊥) → MatchOption o P Q → P
match_none None P Q h m = m
match_none (Some e) P Q h m = absurd (h e refl)

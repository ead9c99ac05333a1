-- Serves specs/Net.antt: what holds of a net while it is built goes on to hold.
use Rattle.std.proofs.Common.{◌≡◌, ℕ, ◌+◌, ◌<◌, ◌≤◌, List, [], ◌∷◌, ◌++◌, length, refl, sym, ap, ◌∙◌, subst, inl, inr, Option, Some, None, IfSome, arith}
use Rattle.std.proofs.lemmas.Bool.{cases_lt}
use Rattle.std.proofs.lemmas.List.{length-append, length-set}
use Rattle.net_view.specs.declared.gate.Gate.TheVariants.{Source}
use Rattle.net_view.specs.declared.flop_net.SrcKind.TheVariants.{Port, BoxOut, Flop}
use Rattle.net_view.specs.View.{Numbered, Reads, IsGateAt, IsNet}
use Rattle.net_view.specs.FlopNet.{Kind, Bit, IsPlain}
use Rattle.net_view.proofs.ValuesLemmas.{reads_more}
use Rattle.net_core.specs.declared.folds.Made.{Made}
use Rattle.net_core.specs.declared.folds.Made.TheVariants.{There, New}
use Rattle.net_core.specs.Folds.{added}
use Rattle.net_core.specs.Net.{Net, empty_net, with_gates, with_source, with_kind, with_bit, MayAdd, IsFit, ReadsNodes, ComesLast, IsDraft, IsWhole, IsFlat}
use Rattle.net_core.proofs.FoldLemmas.{front_gate, next_gate}
use Rattle.net_core.proofs.Items.{push_cases, set_cases}
use Rattle.net_core.proofs.FitLemmas.{may_plain, may_reads}
use Rattle.net_core.proofs.OrderLemmas.{order_push, after_all}

some_more : (m n : ℕ) (o : Option ℕ) → m ≤ n → IfSome o (λ x. x < m) → IfSome o (λ x. x < n)
some_more m n (Some x) le h = omega (arith, h)
some_more m n None le h = tt

pub nodes_more : (m n : ℕ) (kind : Kind) → m ≤ n → ReadsNodes m kind → ReadsNodes n kind
nodes_more m n Port le h = tt
nodes_more m n BoxOut le h = tt
nodes_more m n (Flop f) le h = (some_more m n f.next le h.0, some_more m n f.pin le h.1)

pub draft_empty : IsDraft empty_net
draft_empty = record {
  net_is = record { lower = λ k g is. absurd (cc); placed = λ s lt. absurd (omega arith); once = λ j k s is-j is-k. absurd (cc) };
  small = omega arith;
  plain = λ k g is. absurd (cc);
  each_has_node = omega arith;
  each_kind = refl;
  reads = λ s kind is. absurd (cc);
  few_bits = omega arith;
  ordered = λ j k a b le is-j is-k. absurd (cc);
  bit_nodes = λ b bit is. absurd (cc);
}

not_source : (n s : ℕ) (g : Numbered) → MayAdd n g → g ≡ Source s → ⊥
not_source n s g may e = subst (MayAdd n) e may

net_gate : (gates : List Numbered) (sources : ℕ) (g : Numbered) → IsNet gates sources → MayAdd (length gates) g → IsNet (gates ++ g ∷ []) sources
net_gate gates sources g net may = record {
  lower = λ k h is. elim (push_cases gates g k h is) [
    | inl old ↦ net.lower k h old
    | inr new ↦ subst (λ (x : Numbered). Reads (λ j. j < k) (λ s. s < sources) x) new.1 (subst (λ (n : ℕ). Reads (λ j. j < n) (λ s. s < sources) g) (sym new.0) (may_reads (length gates) sources g may))
  ];
  placed = λ s lt. let w = net.placed s lt in (w.0, front_gate gates (g ∷ []) w.0 (Source s) w.1);
  once = λ j k s is-j is-k. elim (push_cases gates g j (Source s) is-j) [
    | inl old-j ↦ elim (push_cases gates g k (Source s) is-k) [
      | inl old-k ↦ net.once j k s old-j old-k
      | inr new-k ↦ absurd (not_source (length gates) s g may new-k.1)
    ]
    | inr new-j ↦ absurd (not_source (length gates) s g may new-j.1)
  ];
}

-- one more gate
pub draft_gate : (net : Net) (g : Numbered) → IsDraft net → MayAdd (length net.gates) g → length net.gates < 16777216 → IsDraft (with_gates net (net.gates ++ g ∷ []))
draft_gate net g draft may room =
    let len : length (net.gates ++ g ∷ []) ≡ length net.gates + 1 = length-append net.gates (g ∷ []) in
    record {
      net_is = net_gate net.gates (length net.names) g draft.net_is may;
      small = omega (arith, len);
      plain = λ k h is. elim (push_cases net.gates g k h is) [ inl old ↦ draft.plain k h old | inr new ↦ subst IsPlain new.1 (may_plain (length net.gates) g may) ];
      each_has_node = omega (arith, len, draft.each_has_node);
      each_kind = draft.each_kind;
      reads = λ s kind is. nodes_more (length net.gates) (length (net.gates ++ g ∷ [])) kind (omega (arith, len)) (draft.reads s kind is);
      few_bits = draft.few_bits;
      ordered = draft.ordered;
      bit_nodes = λ b bit is. omega (arith, len, draft.bit_nodes b bit is);
    }

-- a gate, or what stands for it
pub draft_made : (net : Net) (made : Made) → IsDraft net → IsFit (length net.gates) made → length net.gates < 16777216 → IsDraft (with_gates net (added net.gates made))
draft_made net (There n) draft fits room = record {
  net_is = draft.net_is;
  small = draft.small;
  plain = draft.plain;
  each_has_node = draft.each_has_node;
  each_kind = draft.each_kind;
  reads = draft.reads;
  few_bits = draft.few_bits;
  ordered = draft.ordered;
  bit_nodes = draft.bit_nodes;
}
draft_made net (New g) draft fits room = draft_gate net g draft fits room

abbrev pub node_for : ℕ → Numbered
node_for s = Source s

source_is : (a b : ℕ) → node_for a ≡ node_for b → a ≡ b
source_is a b e = cc

net_source : (gates : List Numbered) (sources : ℕ) → IsNet gates sources → IsNet (gates ++ Source sources ∷ []) (sources + 1)
net_source gates sources net = record {
  lower = λ k h is. elim (push_cases gates (Source sources) k h is) [
    | inl old ↦ reads_more (λ j. j < k) (λ s. s < sources) (λ j. j < k) (λ s. s < sources + 1) h (λ j lt. lt) (λ s lt. omega arith) (net.lower k h old)
    | inr new ↦ subst (λ (x : Numbered). Reads (λ j. j < k) (λ s. s < sources + 1) x) new.1 (omega arith)
  ];
  placed = λ s lt. elim (cases_lt s sources) [
    | inl low ↦ let w = net.placed s low in (w.0, front_gate gates (Source sources ∷ []) w.0 (Source s) w.1)
    | inr high ↦
        let same : sources ≡ s = omega arith in
        (length gates, subst (λ (n : ℕ). IsGateAt (gates ++ Source sources ∷ []) (length gates) (Source n)) same (next_gate gates (Source sources)))
  ];
  once = λ j k s is-j is-k. elim (push_cases gates (Source sources) j (Source s) is-j) [
    | inl old-j ↦ elim (push_cases gates (Source sources) k (Source s) is-k) [
      | inl old-k ↦ net.once j k s old-j old-k
      | inr new-k ↦ absurd (clash j s old-j new-k.1)
    ]
    | inr new-j ↦ elim (push_cases gates (Source sources) k (Source s) is-k) [
      | inl old-k ↦ absurd (clash k s old-k new-j.1)
      | inr new-k ↦ new-j.0 ∙ sym new-k.0
    ]
  ];
}
  where
    clash : (j s : ℕ) → IsGateAt gates j (Source s) → node_for sources ≡ node_for s → ⊥
    clash j s is e = let below : s < sources = net.lower j (Source s) is in omega (arith, below, source_is sources s e)

-- one more source
pub draft_source : (net : Net) (name : List ℕ) → IsDraft net → length net.gates < 16777216 → IsDraft (with_source net name)
draft_source net name draft room =
    let g : Numbered = Source (length net.names) in
    let len : length (net.gates ++ g ∷ []) ≡ length net.gates + 1 = length-append net.gates (g ∷ []) in
    let names : length (net.names ++ name ∷ []) ≡ length net.names + 1 = length-append net.names (name ∷ []) in
    let port : Kind = Port in
    let kinds : length (net.kinds ++ port ∷ []) ≡ length net.kinds + 1 = length-append net.kinds (port ∷ []) in
    record {
      net_is = subst (λ (n : ℕ). IsNet (net.gates ++ g ∷ []) n) (sym names) (net_source net.gates (length net.names) draft.net_is);
      small = omega (arith, len);
      plain = λ k h is. elim (push_cases net.gates g k h is) [ inl old ↦ draft.plain k h old | inr new ↦ subst IsPlain new.1 tt ];
      each_has_node = omega (arith, len, names, draft.each_has_node);
      each_kind = kinds ∙ ap (λ (n : ℕ). n + 1) draft.each_kind ∙ sym names;
      reads = λ s kind is. elim (push_cases net.kinds port s kind is) [
        | inl old ↦ nodes_more (length net.gates) (length (net.gates ++ g ∷ [])) kind (omega (arith, len)) (draft.reads s kind old)
        | inr new ↦ subst (ReadsNodes (length (net.gates ++ g ∷ []))) new.1 tt
      ];
      few_bits = draft.few_bits;
      ordered = draft.ordered;
      bit_nodes = λ b bit is. omega (arith, len, draft.bit_nodes b bit is);
    }

-- another kind
pub draft_kind : (net : Net) (s : ℕ) (kind : Kind) → IsDraft net → ReadsNodes (length net.gates) kind → IsDraft (with_kind net s kind)
draft_kind net s kind draft reads = record {
  net_is = draft.net_is;
  small = draft.small;
  plain = draft.plain;
  each_has_node = draft.each_has_node;
  each_kind = length-set net.kinds s kind ∙ draft.each_kind;
  reads = λ t other is. elim (set_cases net.kinds s kind t other is) [ inl old ↦ draft.reads t other old | inr new ↦ subst (ReadsNodes (length net.gates)) new reads ];
  few_bits = draft.few_bits;
  ordered = draft.ordered;
  bit_nodes = draft.bit_nodes;
}

-- one more bit
pub draft_bit : (net : Net) (new : Bit) → IsDraft net → ComesLast net.bits new.name → new.node < length net.gates → length net.bits < 4294967295 → IsDraft (with_bit net new)
draft_bit net new draft comes inside few = record {
  net_is = draft.net_is;
  small = draft.small;
  plain = draft.plain;
  each_has_node = draft.each_has_node;
  each_kind = draft.each_kind;
  reads = draft.reads;
  few_bits = omega (arith, length-append net.bits (new ∷ []));
  ordered = order_push net.bits new draft.ordered (after_all net.bits new.name draft.ordered comes);
  bit_nodes = λ b bit is. elim (push_cases net.bits new b bit is) [ inl old ↦ draft.bit_nodes b bit old | inr e ↦ subst (λ (x : Bit). x.node < length net.gates) e.1 inside ];
}

-- a draft that may be finished
pub flat_is : (net : Net) → IsDraft net → IsWhole net → IsFlat net
flat_is net draft whole = record {
  draft = draft;
  whole = record {
    small = draft.small;
    plain = draft.plain;
    each_named = refl;
    each_kind = draft.each_kind;
    flops = λ s f is. record { clock = whole.clocks s f is; next = (draft.reads s (Flop f) is).0; pin = (draft.reads s (Flop f) is).1; root = whole.pins s f is };
    ordered = draft.ordered;
    bit_nodes = draft.bit_nodes;
    bit_roots = whole.roots;
  };
}

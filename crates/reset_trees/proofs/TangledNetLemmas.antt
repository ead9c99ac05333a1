-- The net of TangledNet.antt is a net with flops, tangled or not.
use Rattle.std.proofs.Common.{◌≡◌, ◌≢◌, ℕ, zero, suc, ◌<◌, Bool, true, false, not, ◌&&◌, List, [], ◌∷◌, Some, refl, sym, ◌∙◌, subst, arith, lit≤}
use Rattle.std.specs.Prelude.{codes}
use Rattle.std.specs.List.{list_all}
use Rattle.std.specs.Ordering.{nat_cmp, is_gt}
use Rattle.std.specs.Cmp.Lexicographic.{slice_cmp}
use Rattle.std.proofs.lemmas.Bool.{and_parts}
use Rattle.net_view.specs.declared.gate.Gate.TheVariants.{Source}
use Rattle.net_view.specs.declared.flop_net.FlopOf.{FlopOf}
use Rattle.net_view.specs.View.{Numbered, Reads, IsGateAt, IsNet}
use Rattle.net_view.specs.FlopNet.{Bit, IsPlain, IsFlopAt, IsBitAt, IsInNameOrder, IsConnected, IsFlopNet, FindsBit}
use Rattle.reset_trees.specs.TangledNet.{tangled_gates, tangled_names, tangled_flop, tangled_kinds, tangled_bit, tangled_bits}

-- what holds of each gate of the net holds of the one at a node
gate_case : (P : ℕ → Numbered → Type 0) → P 0 (Source 0) → P 1 (Source 1) → P 2 (Source 2) → P 3 (Source 3) → P 4 (Source 4) → (k : ℕ) (g : Numbered) → IsGateAt tangled_gates k g → P k g
gate_case P a b c d e zero g is = let same : Source 0 ≡ g = cc in subst (λ x. P 0 x) same a
gate_case P a b c d e (suc zero) g is = let same : Source 1 ≡ g = cc in subst (λ x. P 1 x) same b
gate_case P a b c d e (suc (suc zero)) g is = let same : Source 2 ≡ g = cc in subst (λ x. P 2 x) same c
gate_case P a b c d e (suc (suc (suc zero))) g is = let same : Source 3 ≡ g = cc in subst (λ x. P 3 x) same d
gate_case P a b c d e (suc (suc (suc (suc zero)))) g is = let same : Source 4 ≡ g = cc in subst (λ x. P 4 x) same e
gate_case P a b c d e (suc (suc (suc (suc (suc k))))) g is = absurd (cc)

placed : (s : ℕ) → s < 5 → (k : ℕ) × IsGateAt tangled_gates k (Source s)
placed zero below = (0, refl)
placed (suc zero) below = (1, refl)
placed (suc (suc zero)) below = (2, refl)
placed (suc (suc (suc zero))) below = (3, refl)
placed (suc (suc (suc (suc zero)))) below = (4, refl)
placed (suc (suc (suc (suc (suc k))))) below = absurd (omega arith)

-- the source of a node is the one of its number
abbrev IsOwn : ℕ → Numbered → Type 0
IsOwn k g = (s : ℕ) → g ≡ Source s → k ≡ s

own : (k : ℕ) (g : Numbered) → IsGateAt tangled_gates k g → IsOwn k g
own = gate_case IsOwn (λ s e. cc) (λ s e. cc) (λ s e. cc) (λ s e. cc) (λ s e. cc)

one_place : (j k s : ℕ) → j ≡ s → k ≡ s → j ≡ k
one_place j k s a b = cc

pub tangled_net : IsNet tangled_gates 5
tangled_net = record {
  lower = gate_case (λ k g. Reads (λ j. j < k) (λ s. s < 5) g) (omega arith) (omega arith) (omega arith) (omega arith) (omega arith);
  placed = placed;
  once = λ j k s at_j at_k. one_place j k s (own j (Source s) at_j s refl) (own k (Source s) at_k s refl);
}

abbrev Connected : Bool → FlopOf ℕ → Type 0
Connected tangled f = IsConnected tangled_gates (tangled_kinds tangled) tangled_bits f

connected : (tangled : Bool) (s : ℕ) (f : FlopOf ℕ) → IsFlopAt (tangled_kinds tangled) s f → Connected tangled f
connected tangled zero f is = absurd (cc)
connected true (suc zero) f is =
    let same : tangled_flop 3 2 ≡ f = cc in
    subst (Connected true) same (record { clock = refl; next = omega arith; pin = omega arith; root = (tangled_bit (codes "m") 3 2, refl, refl) })
connected false (suc zero) f is =
    let same : tangled_flop 4 3 ≡ f = cc in
    subst (Connected false) same (record { clock = refl; next = omega arith; pin = omega arith; root = (tangled_bit (codes "r") 4 3, refl, refl) })
connected tangled (suc (suc zero)) f is =
    let same : tangled_flop 1 4 ≡ f = cc in
    subst (Connected tangled) same (record { clock = refl; next = omega arith; pin = omega arith; root = (tangled_bit (codes "z") 1 4, refl, refl) })
connected true (suc (suc (suc zero))) f is =
    let same : tangled_flop 2 0 ≡ f = cc in
    subst (Connected true) same (record { clock = refl; next = omega arith; pin = omega arith; root = (tangled_bit (codes "a") 2 0, refl, refl) })
connected false (suc (suc (suc zero))) f is =
    let same : tangled_flop 4 3 ≡ f = cc in
    subst (Connected false) same (record { clock = refl; next = omega arith; pin = omega arith; root = (tangled_bit (codes "r") 4 3, refl, refl) })
connected tangled (suc (suc (suc (suc k)))) f is = absurd (none k f is)
  where
    none : (k : ℕ) (f : FlopOf ℕ) → IsFlopAt (tangled_kinds tangled) (suc (suc (suc (suc k)))) f → ⊥
    none zero f is = cc
    none (suc k) f is = cc

-- a test of each bit of a list
all_bits : (test : Bit → Bool) (bits : List Bit) → list_all test bits ≡ true → (b : ℕ) (bit : Bit) → IsBitAt bits b bit → test bit ≡ true
all_bits test [] pass b bit at = absurd (cc)
all_bits test (x ∷ bits) pass zero bit at = let same : x ≡ bit = cc in subst (λ y. test y ≡ true) same (and_parts (test x) (list_all test bits) pass).0
all_bits test (x ∷ bits) pass (suc b) bit at = all_bits test bits (and_parts (test x) (list_all test bits) pass).1 b bit at

abbrev before : Bit → Bit → Bool
before a b = not (is_gt (slice_cmp nat_cmp a.name b.name))

-- whether no bit's name comes after a later one's
abbrev in_order : List Bit → Bool
in_order [] = true
in_order (b ∷ bits) = list_all (before b) (b ∷ bits) && in_order bits

not_gt : (b : Bool) → not b ≡ true → b ≡ false
not_gt true e = absurd (cc)
not_gt false e = refl

ordered : (bits : List Bit) → in_order bits ≡ true → IsInNameOrder bits
ordered [] pass j k a b le at_j at_k = absurd (cc)
ordered (x ∷ bits) pass zero k a b le at_j at_k =
    let same : x ≡ a = cc in
    subst (λ y. is_gt (slice_cmp nat_cmp y.name b.name) ≡ false) same (not_gt _ (all_bits (before x) (x ∷ bits) (and_parts (list_all (before x) (x ∷ bits)) (in_order bits) pass).0 k b at_k))
ordered (x ∷ bits) pass (suc j) zero a b le at_j at_k = absurd (omega arith)
ordered (x ∷ bits) pass (suc j) (suc k) a b le at_j at_k = ordered bits (and_parts (list_all (before x) (x ∷ bits)) (in_order bits) pass).1 j k a b (omega arith) at_j at_k

-- what holds of each bit of the net holds of the one of a number
bit_case : (P : ℕ → Bit → Type 0) → P 0 (tangled_bit (codes "a") 2 0) → P 1 (tangled_bit (codes "c") 0 1) → P 2 (tangled_bit (codes "m") 3 2) → P 3 (tangled_bit (codes "r") 4 3) → P 4 (tangled_bit (codes "z") 1 4) → (k : ℕ) (bit : Bit) → IsBitAt tangled_bits k bit → P k bit
bit_case P a b c d e zero bit is = let same : tangled_bit (codes "a") 2 0 ≡ bit = cc in subst (λ x. P 0 x) same a
bit_case P a b c d e (suc zero) bit is = let same : tangled_bit (codes "c") 0 1 ≡ bit = cc in subst (λ x. P 1 x) same b
bit_case P a b c d e (suc (suc zero)) bit is = let same : tangled_bit (codes "m") 3 2 ≡ bit = cc in subst (λ x. P 2 x) same c
bit_case P a b c d e (suc (suc (suc zero))) bit is = let same : tangled_bit (codes "r") 4 3 ≡ bit = cc in subst (λ x. P 3 x) same d
bit_case P a b c d e (suc (suc (suc (suc zero)))) bit is = let same : tangled_bit (codes "z") 1 4 ≡ bit = cc in subst (λ x. P 4 x) same e
bit_case P a b c d e (suc (suc (suc (suc (suc k))))) bit is = absurd (cc)

pub tangled_flop_net : (tangled : Bool) → IsFlopNet tangled_gates 5 tangled_names (tangled_kinds tangled) tangled_bits
tangled_flop_net tangled = record {
  small = lit≤ tt;
  plain = gate_case (λ k g. IsPlain g) tt tt tt tt tt;
  each_named = refl;
  each_kind = refl;
  flops = connected tangled;
  ordered = ordered tangled_bits refl;
  bit_nodes = bit_case (λ b bit. bit.node < 5) (omega arith) (omega arith) (omega arith) (omega arith) (omega arith);
  bit_roots = bit_case (λ b bit. bit.root < 5) (omega arith) (omega arith) (omega arith) (omega arith) (omega arith);
}

-- a bit of each number below five
there : (b : ℕ) → b < 5 → (bit : Bit) × IsBitAt tangled_bits b bit
there zero below = (tangled_bit (codes "a") 2 0, refl)
there (suc zero) below = (tangled_bit (codes "c") 0 1, refl)
there (suc (suc zero)) below = (tangled_bit (codes "m") 3 2, refl)
there (suc (suc (suc zero))) below = (tangled_bit (codes "r") 4 3, refl)
there (suc (suc (suc (suc zero)))) below = (tangled_bit (codes "z") 1 4, refl)
there (suc (suc (suc (suc (suc b))))) below = absurd (omega arith)

-- the bit with the name that no bit before it has
pub finds : (b : ℕ) (name shown : List ℕ) → b < 5 → ((bit : Bit) → IsBitAt tangled_bits b bit → shown ≡ bit.name) → shown ≡ name → ((k : ℕ) (bit : Bit) → k < b → IsBitAt tangled_bits k bit → bit.name ≢ name) → FindsBit tangled_bits name (Some b)
finds b name shown below is same before = let h = there b below in ((h.0, h.1, sym (is h.0 h.1) ∙ same), before)

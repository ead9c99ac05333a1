-- The net of SmallNet.antt is a net with flops.
use Rattle.std.proofs.Common.{◌≡◌, ℕ, zero, suc, ◌<◌, Bool, true, false, not, ◌&&◌, List, [], ◌∷◌, Some, None, refl, subst, arith, lit≤}
use Rattle.std.specs.Prelude.{codes}
use Rattle.std.specs.List.{list_all}
use Rattle.std.specs.Ordering.{nat_cmp, is_gt}
use Rattle.std.specs.Cmp.Lexicographic.{slice_cmp}
use Rattle.std.proofs.lemmas.Bool.{and_parts}
use Rattle.net_view.specs.declared.gate.Gate.TheVariants.{Source, And}
use Rattle.net_view.specs.declared.flop_net.FlopOf.{FlopOf}
use Rattle.net_view.specs.View.{Numbered, Reads, IsGateAt, IsNet}
use Rattle.net_view.specs.FlopNet.{Bit, IsPlain, IsFlopAt, IsBitAt, IsInNameOrder, IsConnected, IsFlopNet}
use Rattle.cons_bind.specs.SmallNet.{small_gates, small_names, small_flop, small_kinds, small_bit, small_bits}

-- what holds of each gate of the net holds of the one at a node
gate_case : (P : ℕ → Numbered → Type 0) → P 0 (Source 0) → P 1 (Source 1) → P 2 (Source 2) → P 3 (Source 3) → P 4 (Source 4) → P 5 (Source 5) → P 6 (Source 6) → P 7 (And 1 3) → (k : ℕ) (g : Numbered) → IsGateAt small_gates k g → P k g
gate_case P a b c d e f h i zero g is = let same : Source 0 ≡ g = cc in subst (λ x. P 0 x) same a
gate_case P a b c d e f h i (suc zero) g is = let same : Source 1 ≡ g = cc in subst (λ x. P 1 x) same b
gate_case P a b c d e f h i (suc (suc zero)) g is = let same : Source 2 ≡ g = cc in subst (λ x. P 2 x) same c
gate_case P a b c d e f h i (suc (suc (suc zero))) g is = let same : Source 3 ≡ g = cc in subst (λ x. P 3 x) same d
gate_case P a b c d e f h i (suc (suc (suc (suc zero)))) g is = let same : Source 4 ≡ g = cc in subst (λ x. P 4 x) same e
gate_case P a b c d e f h i (suc (suc (suc (suc (suc zero))))) g is = let same : Source 5 ≡ g = cc in subst (λ x. P 5 x) same f
gate_case P a b c d e f h i (suc (suc (suc (suc (suc (suc zero)))))) g is = let same : Source 6 ≡ g = cc in subst (λ x. P 6 x) same h
gate_case P a b c d e f h i (suc (suc (suc (suc (suc (suc (suc zero))))))) g is = let same : And 1 3 ≡ g = cc in subst (λ x. P 7 x) same i
gate_case P a b c d e f h i (suc (suc (suc (suc (suc (suc (suc (suc k)))))))) g is = absurd (cc)

lower : (k : ℕ) (g : Numbered) → IsGateAt small_gates k g → Reads (λ j. j < k) (λ s. s < 7) g
lower = gate_case (λ k g. Reads (λ j. j < k) (λ s. s < 7) g) (omega arith) (omega arith) (omega arith) (omega arith) (omega arith) (omega arith) (omega arith) (omega arith, omega arith)

plain : (k : ℕ) (g : Numbered) → IsGateAt small_gates k g → IsPlain g
plain = gate_case (λ k g. IsPlain g) tt tt tt tt tt tt tt tt

placed : (s : ℕ) → s < 7 → (k : ℕ) × IsGateAt small_gates k (Source s)
placed zero below = (0, refl)
placed (suc zero) below = (1, refl)
placed (suc (suc zero)) below = (2, refl)
placed (suc (suc (suc zero))) below = (3, refl)
placed (suc (suc (suc (suc zero)))) below = (4, refl)
placed (suc (suc (suc (suc (suc zero))))) below = (5, refl)
placed (suc (suc (suc (suc (suc (suc zero)))))) below = (6, refl)
placed (suc (suc (suc (suc (suc (suc (suc k))))))) below = absurd (omega arith)

-- the source of a node is the one of its number
abbrev IsOwn : ℕ → Numbered → Type 0
IsOwn k g = (s : ℕ) → g ≡ Source s → k ≡ s

own : (k : ℕ) (g : Numbered) → IsGateAt small_gates k g → IsOwn k g
own = gate_case IsOwn (λ s e. cc) (λ s e. cc) (λ s e. cc) (λ s e. cc) (λ s e. cc) (λ s e. cc) (λ s e. cc) (λ s e. absurd (cc))

one_place : (j k s : ℕ) → j ≡ s → k ≡ s → j ≡ k
one_place j k s a b = cc

pub small_net : IsNet small_gates 7
small_net = record {
  lower = lower;
  placed = placed;
  once = λ j k s at_j at_k. one_place j k s (own j (Source s) at_j s refl) (own k (Source s) at_k s refl);
}

abbrev Connected : FlopOf ℕ → Type 0
Connected f = IsConnected small_gates small_kinds small_bits f

connected : (s : ℕ) (f : FlopOf ℕ) → IsFlopAt small_kinds s f → Connected f
connected zero f is = absurd (cc)
connected (suc zero) f is = absurd (cc)
connected (suc (suc zero)) f is = absurd (cc)
connected (suc (suc (suc zero))) f is =
    let same : small_flop 1 (Some 5) 6 ≡ f = cc in
    subst Connected same (record { clock = refl; next = omega arith; pin = omega arith; root = (small_bit (codes "r") 5 6, refl, refl) })
connected (suc (suc (suc (suc zero)))) f is =
    let same : small_flop 7 (Some 5) 6 ≡ f = cc in
    subst Connected same (record { clock = refl; next = omega arith; pin = omega arith; root = (small_bit (codes "r") 5 6, refl, refl) })
connected (suc (suc (suc (suc (suc zero))))) f is = absurd (cc)
connected (suc (suc (suc (suc (suc (suc zero)))))) f is =
    let same : small_flop 3 None 7 ≡ f = cc in
    subst Connected same (record { clock = refl; next = omega arith; pin = tt; root = tt })
connected (suc (suc (suc (suc (suc (suc (suc k))))))) f is = absurd (cc)

-- a test of each bit of a list
all_bits : (test : Bit → Bool) (bits : List Bit) → list_all test bits ≡ true → (b : ℕ) (bit : Bit) → IsBitAt bits b bit → test bit ≡ true
all_bits test [] pass b bit at = absurd (cc)
all_bits test (x ∷ bits) pass zero bit at = let same : x ≡ bit = cc in subst (λ y. test y ≡ true) same (and_parts (test x) (list_all test bits) pass).0
all_bits test (x ∷ bits) pass (suc b) bit at = all_bits test bits (and_parts (test x) (list_all test bits) pass).1 b bit at

abbrev before : Bit → Bit → Bool
before a b = not (is_gt (slice_cmp nat_cmp a.name b.name))

-- whether no bit's name comes after a later one's
abbrev in_order : List Bit → Bool
in_order [] = true
in_order (b ∷ bits) = list_all (before b) (b ∷ bits) && in_order bits

not_gt : (b : Bool) → not b ≡ true → b ≡ false
not_gt true e = absurd (cc)
not_gt false e = refl

ordered : (bits : List Bit) → in_order bits ≡ true → IsInNameOrder bits
ordered [] pass j k a b le at_j at_k = absurd (cc)
ordered (x ∷ bits) pass zero k a b le at_j at_k =
    let same : x ≡ a = cc in
    subst (λ y. is_gt (slice_cmp nat_cmp y.name b.name) ≡ false) same (not_gt _ (all_bits (before x) (x ∷ bits) (and_parts (list_all (before x) (x ∷ bits)) (in_order bits) pass).0 k b at_k))
ordered (x ∷ bits) pass (suc j) zero a b le at_j at_k = absurd (omega arith)
ordered (x ∷ bits) pass (suc j) (suc k) a b le at_j at_k = ordered bits (and_parts (list_all (before x) (x ∷ bits)) (in_order bits) pass).1 j k a b (omega arith) at_j at_k

-- what holds of each bit of the net holds of the one of a number
bit_case : (P : ℕ → Bit → Type 0) → P 0 (small_bit (codes "a+b") 7 0) → P 1 (small_bit (codes "c") 0 1) → P 2 (small_bit (codes "d") 1 2) → P 3 (small_bit (codes "k") 2 3) → P 4 (small_bit (codes "q[0]") 3 4) → P 5 (small_bit (codes "q[1]") 4 5) → P 6 (small_bit (codes "r") 5 6) → P 7 (small_bit (codes "u1.f") 6 7) → P 8 (small_bit (codes "v[0]") 3 4) → P 9 (small_bit (codes "v[1]") 7 9) → P 10 (small_bit (codes "w") 6 7) → (k : ℕ) (bit : Bit) → IsBitAt small_bits k bit → P k bit
bit_case P a b c d e f h i j l m zero bit is = let same : small_bit (codes "a+b") 7 0 ≡ bit = cc in subst (λ x. P 0 x) same a
bit_case P a b c d e f h i j l m (suc zero) bit is = let same : small_bit (codes "c") 0 1 ≡ bit = cc in subst (λ x. P 1 x) same b
bit_case P a b c d e f h i j l m (suc (suc zero)) bit is = let same : small_bit (codes "d") 1 2 ≡ bit = cc in subst (λ x. P 2 x) same c
bit_case P a b c d e f h i j l m (suc (suc (suc zero))) bit is = let same : small_bit (codes "k") 2 3 ≡ bit = cc in subst (λ x. P 3 x) same d
bit_case P a b c d e f h i j l m (suc (suc (suc (suc zero)))) bit is = let same : small_bit (codes "q[0]") 3 4 ≡ bit = cc in subst (λ x. P 4 x) same e
bit_case P a b c d e f h i j l m (suc (suc (suc (suc (suc zero))))) bit is = let same : small_bit (codes "q[1]") 4 5 ≡ bit = cc in subst (λ x. P 5 x) same f
bit_case P a b c d e f h i j l m (suc (suc (suc (suc (suc (suc zero)))))) bit is = let same : small_bit (codes "r") 5 6 ≡ bit = cc in subst (λ x. P 6 x) same h
bit_case P a b c d e f h i j l m (suc (suc (suc (suc (suc (suc (suc zero))))))) bit is = let same : small_bit (codes "u1.f") 6 7 ≡ bit = cc in subst (λ x. P 7 x) same i
bit_case P a b c d e f h i j l m (suc (suc (suc (suc (suc (suc (suc (suc zero)))))))) bit is = let same : small_bit (codes "v[0]") 3 4 ≡ bit = cc in subst (λ x. P 8 x) same j
bit_case P a b c d e f h i j l m (suc (suc (suc (suc (suc (suc (suc (suc (suc zero))))))))) bit is = let same : small_bit (codes "v[1]") 7 9 ≡ bit = cc in subst (λ x. P 9 x) same l
bit_case P a b c d e f h i j l m (suc (suc (suc (suc (suc (suc (suc (suc (suc (suc zero)))))))))) bit is = let same : small_bit (codes "w") 6 7 ≡ bit = cc in subst (λ x. P 10 x) same m
bit_case P a b c d e f h i j l m (suc (suc (suc (suc (suc (suc (suc (suc (suc (suc (suc k))))))))))) bit is = absurd (cc)

pub small_flop_net : IsFlopNet small_gates 7 small_names small_kinds small_bits
small_flop_net = record {
  small = lit≤ tt;
  plain = plain;
  each_named = refl;
  each_kind = refl;
  flops = connected;
  ordered = ordered small_bits refl;
  bit_nodes = bit_case (λ b bit. bit.node < 8) (omega arith) (omega arith) (omega arith) (omega arith) (omega arith) (omega arith) (omega arith) (omega arith) (omega arith) (omega arith) (omega arith);
  bit_roots = bit_case (λ b bit. bit.root < 11) (omega arith) (omega arith) (omega arith) (omega arith) (omega arith) (omega arith) (omega arith) (omega arith) (omega arith) (omega arith) (omega arith);
}

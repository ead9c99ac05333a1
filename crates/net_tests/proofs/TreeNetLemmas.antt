-- The net of TreeNet.antt is a net with flops.
use Rattle.std.proofs.Common.{◌≡◌, ℕ, zero, suc, ◌<◌, ◌≤◌, true, false, List, [], ◌∷◌, Some, None, refl, sym, ◌∙◌, subst, arith, lit≤}
use Rattle.std.specs.Ordering.{nat_cmp, is_gt}
use Rattle.std.specs.Cmp.Lexicographic.{slice_cmp}
use Rattle.net_view.specs.declared.gate.Gate.TheVariants.{Source, Not, And}
use Rattle.net_view.specs.declared.flop_net.FlopOf.{FlopOf}
use Rattle.net_view.specs.View.{Numbered, Reads, IsGateAt, IsNet}
use Rattle.net_view.specs.FlopNet.{Bit, IsPlain, IsFlopAt, IsBitAt, IsConnected, FindsBit, IsFlopNet}
use Rattle.net_tests.specs.TreeNet.{tree_gates, tree_names, tree_flop, tree_kinds, tree_bits}

-- what holds of each gate of the net holds of the one at a node
gate_case : (P : ℕ → Numbered → Type 0) → P 0 (Source 0) → P 1 (Source 1) → P 2 (Source 2) → P 3 (Source 3) → P 4 (Source 4) → P 5 (Source 5)
    → P 6 (Source 6) → P 7 (Source 7) → P 8 (Source 8) → P 9 (Not 6) → P 10 (And 5 9) → (k : ℕ) (g : Numbered) → IsGateAt tree_gates k g → P k g
gate_case P a b c d e f h i j l o zero g is = let same : Source 0 ≡ g = cc in subst (λ x. P 0 x) same a
gate_case P a b c d e f h i j l o (suc zero) g is = let same : Source 1 ≡ g = cc in subst (λ x. P 1 x) same b
gate_case P a b c d e f h i j l o (suc (suc zero)) g is = let same : Source 2 ≡ g = cc in subst (λ x. P 2 x) same c
gate_case P a b c d e f h i j l o (suc (suc (suc zero))) g is = let same : Source 3 ≡ g = cc in subst (λ x. P 3 x) same d
gate_case P a b c d e f h i j l o (suc (suc (suc (suc zero)))) g is = let same : Source 4 ≡ g = cc in subst (λ x. P 4 x) same e
gate_case P a b c d e f h i j l o (suc (suc (suc (suc (suc zero))))) g is = let same : Source 5 ≡ g = cc in subst (λ x. P 5 x) same f
gate_case P a b c d e f h i j l o (suc (suc (suc (suc (suc (suc zero)))))) g is = let same : Source 6 ≡ g = cc in subst (λ x. P 6 x) same h
gate_case P a b c d e f h i j l o (suc (suc (suc (suc (suc (suc (suc zero))))))) g is = let same : Source 7 ≡ g = cc in subst (λ x. P 7 x) same i
gate_case P a b c d e f h i j l o (suc (suc (suc (suc (suc (suc (suc (suc zero)))))))) g is = let same : Source 8 ≡ g = cc in subst (λ x. P 8 x) same j
gate_case P a b c d e f h i j l o (suc (suc (suc (suc (suc (suc (suc (suc (suc zero))))))))) g is = let same : Not 6 ≡ g = cc in subst (λ x. P 9 x) same l
gate_case P a b c d e f h i j l o (suc (suc (suc (suc (suc (suc (suc (suc (suc (suc zero)))))))))) g is = let same : And 5 9 ≡ g = cc in subst (λ x. P 10 x) same o
gate_case P a b c d e f h i j l o (suc (suc (suc (suc (suc (suc (suc (suc (suc (suc (suc k))))))))))) g is = absurd (cc)

lower : (k : ℕ) (g : Numbered) → IsGateAt tree_gates k g → Reads (λ j. j < k) (λ s. s < 9) g
lower = gate_case (λ k g. Reads (λ j. j < k) (λ s. s < 9) g)
    (omega arith) (omega arith) (omega arith) (omega arith) (omega arith) (omega arith) (omega arith) (omega arith) (omega arith) (omega arith) (omega arith, omega arith)

plain : (k : ℕ) (g : Numbered) → IsGateAt tree_gates k g → IsPlain g
plain = gate_case (λ k g. IsPlain g) tt tt tt tt tt tt tt tt tt tt tt

placed : (s : ℕ) → s < 9 → (k : ℕ) × IsGateAt tree_gates k (Source s)
placed zero below = (0, refl)
placed (suc zero) below = (1, refl)
placed (suc (suc zero)) below = (2, refl)
placed (suc (suc (suc zero))) below = (3, refl)
placed (suc (suc (suc (suc zero)))) below = (4, refl)
placed (suc (suc (suc (suc (suc zero))))) below = (5, refl)
placed (suc (suc (suc (suc (suc (suc zero)))))) below = (6, refl)
placed (suc (suc (suc (suc (suc (suc (suc zero))))))) below = (7, refl)
placed (suc (suc (suc (suc (suc (suc (suc (suc zero)))))))) below = (8, refl)
placed (suc (suc (suc (suc (suc (suc (suc (suc (suc k))))))))) below = absurd (omega arith)

-- the source of a node is the one of its number
abbrev IsOwn : ℕ → Numbered → Type 0
IsOwn k g = (s : ℕ) → g ≡ Source s → k ≡ s

own : (k : ℕ) (g : Numbered) → IsGateAt tree_gates k g → IsOwn k g
own = gate_case IsOwn
    (λ s e. cc) (λ s e. cc) (λ s e. cc) (λ s e. cc) (λ s e. cc) (λ s e. cc) (λ s e. cc) (λ s e. cc) (λ s e. cc) (λ s e. absurd (cc)) (λ s e. absurd (cc))

one_place : (j k s : ℕ) → j ≡ s → k ≡ s → j ≡ k
one_place j k s a b = cc

pub tree_net : IsNet tree_gates 9
tree_net = record {
  lower = lower;
  placed = placed;
  once = λ j k s at_j at_k. one_place j k s (own j (Source s) at_j s refl) (own k (Source s) at_k s refl);
}

abbrev pub bit_h : Bit
bit_h = record { name = 104 ∷ []; node = 3; root = 0 }

abbrev pub bit_p : Bit
bit_p = record { name = 112 ∷ []; node = 5; root = 1 }

abbrev pub bit_r : Bit
bit_r = record { name = 114 ∷ []; node = 10; root = 2 }

abbrev pub bit_s : Bit
bit_s = record { name = 115 ∷ []; node = 6; root = 3 }

abbrev Connected : FlopOf ℕ → Type 0
Connected f = IsConnected tree_gates tree_kinds tree_bits f

connected : (s : ℕ) (f : FlopOf ℕ) → IsFlopAt tree_kinds s f → Connected f
connected zero f is = absurd (cc)
connected (suc zero) f is = absurd (cc)
connected (suc (suc zero)) f is =
    let same : tree_flop true 1 None false false 0 ≡ f = cc in
    subst Connected same (record { clock = refl; next = omega arith; pin = tt; root = tt })
connected (suc (suc (suc zero))) f is = absurd (cc)
connected (suc (suc (suc (suc zero)))) f is =
    let same : tree_flop false 7 (Some 3) true true 0 ≡ f = cc in
    subst Connected same (record { clock = refl; next = omega arith; pin = omega arith; root = (bit_h, refl, refl) })
connected (suc (suc (suc (suc (suc zero))))) f is = absurd (cc)
connected (suc (suc (suc (suc (suc (suc zero)))))) f is =
    let same : tree_flop true 1 (Some 5) false false 1 ≡ f = cc in
    subst Connected same (record { clock = refl; next = omega arith; pin = omega arith; root = (bit_p, refl, refl) })
connected (suc (suc (suc (suc (suc (suc (suc zero))))))) f is =
    let same : tree_flop true 2 (Some 10) false false 2 ≡ f = cc in
    subst Connected same (record { clock = refl; next = omega arith; pin = omega arith; root = (bit_r, refl, refl) })
connected (suc (suc (suc (suc (suc (suc (suc (suc zero)))))))) f is =
    let same : tree_flop true 1 (Some 6) false false 3 ≡ f = cc in
    subst Connected same (record { clock = refl; next = omega arith; pin = omega arith; root = (bit_s, refl, refl) })
connected (suc (suc (suc (suc (suc (suc (suc (suc (suc k))))))))) f is = absurd (cc)

-- what holds of each bit of the net holds of the one of a number
pub bit_case : (P : ℕ → Bit → Type 0) → P 0 bit_h → P 1 bit_p → P 2 bit_r → P 3 bit_s → (b : ℕ) (bit : Bit) → IsBitAt tree_bits b bit → P b bit
bit_case P h p r s zero bit is = let same : bit_h ≡ bit = cc in subst (λ x. P 0 x) same h
bit_case P h p r s (suc zero) bit is = let same : bit_p ≡ bit = cc in subst (λ x. P 1 x) same p
bit_case P h p r s (suc (suc zero)) bit is = let same : bit_r ≡ bit = cc in subst (λ x. P 2 x) same r
bit_case P h p r s (suc (suc (suc zero))) bit is = let same : bit_s ≡ bit = cc in subst (λ x. P 3 x) same s
bit_case P h p r s (suc (suc (suc (suc b)))) bit is = absurd (cc)

-- no bit up to number k has a name after that of bit b
abbrev IsAfter : ℕ → Bit → Type 0
IsAfter k b = (j : ℕ) (a : Bit) → j ≤ k → IsBitAt tree_bits j a → is_gt (slice_cmp nat_cmp a.name b.name) ≡ false

after_each : (k : ℕ) (b : Bit) → IsBitAt tree_bits k b → IsAfter k b
after_each = bit_case IsAfter
    (λ j a below at_j. bit_case (λ i x. i ≤ 0 → is_gt (slice_cmp nat_cmp x.name (104 ∷ [])) ≡ false) (λ h. refl) (λ h. absurd (omega arith)) (λ h. absurd (omega arith)) (λ h. absurd (omega arith)) j a at_j below)
    (λ j a below at_j. bit_case (λ i x. i ≤ 1 → is_gt (slice_cmp nat_cmp x.name (112 ∷ [])) ≡ false) (λ h. refl) (λ h. refl) (λ h. absurd (omega arith)) (λ h. absurd (omega arith)) j a at_j below)
    (λ j a below at_j. bit_case (λ i x. i ≤ 2 → is_gt (slice_cmp nat_cmp x.name (114 ∷ [])) ≡ false) (λ h. refl) (λ h. refl) (λ h. refl) (λ h. absurd (omega arith)) j a at_j below)
    (λ j a below at_j. bit_case (λ i x. i ≤ 3 → is_gt (slice_cmp nat_cmp x.name (115 ∷ [])) ≡ false) (λ h. refl) (λ h. refl) (λ h. refl) (λ h. refl) j a at_j below)

pub tree_flop_net : IsFlopNet tree_gates 9 tree_names tree_kinds tree_bits
tree_flop_net = record {
  small = lit≤ tt;
  plain = plain;
  each_named = refl;
  each_kind = refl;
  flops = connected;
  ordered = λ j k a b below at_j at_k. after_each k b at_k j a below at_j;
  bit_nodes = bit_case (λ b bit. bit.node < 11) (omega arith) (omega arith) (omega arith) (omega arith);
  bit_roots = bit_case (λ b bit. bit.root < 4) (omega arith) (omega arith) (omega arith) (omega arith);
}

apart : (a b : ℕ) → (a ≡ b → ⊥) → a ∷ [] ≡ b ∷ [] → ⊥
apart a b other e = other (cc)

-- the first bit of a name is found
finds_first : (n : ℕ) (bit : Bit) → IsBitAt tree_bits n bit → (name : List ℕ) → bit.name ≡ name
    → ((k : ℕ) (b : Bit) → IsBitAt tree_bits k b → k < n → b.name ≡ bit.name → ⊥) → FindsBit tree_bits name (Some n)
finds_first n bit at_n name is none = ((bit, at_n, is), λ k b below at_k same. none k b at_k below (same ∙ sym is))

pub finds_h : (name : List ℕ) → 104 ∷ [] ≡ name → FindsBit tree_bits name (Some 0)
finds_h name is = finds_first 0 bit_h refl name is (λ k b at_k below same. omega arith)

pub finds_p : (name : List ℕ) → 112 ∷ [] ≡ name → FindsBit tree_bits name (Some 1)
finds_p name is = finds_first 1 bit_p refl name is
    (bit_case (λ k b. k < 1 → b.name ≡ 112 ∷ [] → ⊥) (λ h. apart 104 112 (λ e. omega arith)) (λ h e. omega arith) (λ h e. omega arith) (λ h e. omega arith))

pub finds_r : (name : List ℕ) → 114 ∷ [] ≡ name → FindsBit tree_bits name (Some 2)
finds_r name is = finds_first 2 bit_r refl name is
    (bit_case (λ k b. k < 2 → b.name ≡ 114 ∷ [] → ⊥) (λ h. apart 104 114 (λ e. omega arith)) (λ h. apart 112 114 (λ e. omega arith)) (λ h e. omega arith) (λ h e. omega arith))

pub finds_s : (name : List ℕ) → 115 ∷ [] ≡ name → FindsBit tree_bits name (Some 3)
finds_s name is = finds_first 3 bit_s refl name is
    (bit_case (λ k b. k < 3 → b.name ≡ 115 ∷ [] → ⊥)
    (λ h. apart 104 115 (λ e. omega arith)) (λ h. apart 112 115 (λ e. omega arith)) (λ h. apart 114 115 (λ e. omega arith)) (λ h e. omega arith))

pub finds_none : (name : List ℕ) → (104 ∷ [] ≡ name → ⊥) → (112 ∷ [] ≡ name → ⊥) → (114 ∷ [] ≡ name → ⊥) → (115 ∷ [] ≡ name → ⊥) → FindsBit tree_bits name None
finds_none name h p r s = λ b bit at_b. bit_case (λ k x. x.name ≡ name → ⊥) h p r s b bit at_b

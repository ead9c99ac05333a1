-- The example's net is a net with flops.
use Rattle.std.proofs.Common.{◌≡◌, ◌⊎◌, ℕ, zero, suc, ◌<◌, ◌≤◌, false, [], ◌∷◌, Some, refl, sym, inl, inr, subst, arith, lit≤}
use Rattle.std.specs.Prelude.{slice_get}
use Rattle.std.specs.Ordering.{nat_cmp, is_gt}
use Rattle.std.specs.Cmp.Lexicographic.{slice_cmp}
use Rattle.net_view.specs.declared.gate.Gate.TheVariants.{Source}
use Rattle.net_view.specs.declared.flop_net.SrcKind.TheVariants.{Port}
use Rattle.net_view.specs.declared.flop_net.FlopOf.{FlopOf}
use Rattle.net_view.specs.View.{Numbered, Reads, IsGateAt, IsNet}
use Rattle.net_view.specs.FlopNet.{Bit, IsPlain, IsFlopAt, IsBitAt, IsConnected, IsFlopNet}
use Rattle.run_model.specs.ExampleNet.{example_gates, example_names, example_flop, example_kinds, example_bits}

-- node k is source k
pub gate_is : (n : ℕ) → n < 7 → slice_get example_gates n ≡ Some (Source n)
gate_is zero below = refl
gate_is (suc zero) below = refl
gate_is (suc (suc zero)) below = refl
gate_is (suc (suc (suc zero))) below = refl
gate_is (suc (suc (suc (suc zero)))) below = refl
gate_is (suc (suc (suc (suc (suc zero))))) below = refl
gate_is (suc (suc (suc (suc (suc (suc zero)))))) below = refl
gate_is (suc (suc (suc (suc (suc (suc (suc k))))))) below = absurd (omega arith)

gate_found : (k : ℕ) (g : Numbered) → IsGateAt example_gates k g → (k < 7) × (g ≡ Source k)
gate_found zero g is = (omega arith, cc)
gate_found (suc zero) g is = (omega arith, cc)
gate_found (suc (suc zero)) g is = (omega arith, cc)
gate_found (suc (suc (suc zero))) g is = (omega arith, cc)
gate_found (suc (suc (suc (suc zero)))) g is = (omega arith, cc)
gate_found (suc (suc (suc (suc (suc zero))))) g is = (omega arith, cc)
gate_found (suc (suc (suc (suc (suc (suc zero)))))) g is = (omega arith, cc)
gate_found (suc (suc (suc (suc (suc (suc (suc k))))))) g is = absurd (cc)

source_reads : (P Q : ℕ → Type 0) (g : Numbered) (k : ℕ) → g ≡ Source k → Q k → Reads P Q g
source_reads P Q g k is h = subst (λ x. Reads P Q x) (sym is) h

same_source : (j k s : ℕ) → (◌≡◌ {A = Numbered} (Source s) (Source j)) → (◌≡◌ {A = Numbered} (Source s) (Source k)) → j ≡ k
same_source j k s at_j at_k = cc

pub example_net : IsNet example_gates 7
example_net = record {
  lower = λ k g is. let found = gate_found k g is in source_reads (λ j. j < k) (λ s. s < 7) g k found.1 found.0;
  placed = λ s below. (s, gate_is s below);
  once = λ j k s at_j at_k. same_source j k s (gate_found j (Source s) at_j).1 (gate_found k (Source s) at_k).1;
}

plain_source : (g : Numbered) (k : ℕ) → g ≡ Source k → IsPlain g
plain_source g k is = subst IsPlain (sym is) tt

-- a port is neither a nor q
pub port_kind : (s : ℕ) → s < 7 → (s ≡ 0 → ⊥) → (s ≡ 4 → ⊥) → slice_get example_kinds s ≡ Some Port
port_kind zero below a q = absurd (a refl)
port_kind (suc zero) below a q = refl
port_kind (suc (suc zero)) below a q = refl
port_kind (suc (suc (suc zero))) below a q = refl
port_kind (suc (suc (suc (suc zero)))) below a q = absurd (q refl)
port_kind (suc (suc (suc (suc (suc zero))))) below a q = refl
port_kind (suc (suc (suc (suc (suc (suc zero)))))) below a q = refl
port_kind (suc (suc (suc (suc (suc (suc (suc k))))))) below a q = absurd (omega arith)

a_connected : IsConnected example_gates example_kinds example_bits (example_flop 1 3 5 0)
a_connected = record { clock = refl; next = omega arith; pin = omega arith; root = (record { name = 114 ∷ 97 ∷ []; node = 5; root = 0 }, refl, refl) }

q_connected : IsConnected example_gates example_kinds example_bits (example_flop 2 0 6 1)
q_connected = record { clock = refl; next = omega arith; pin = omega arith; root = (record { name = 114 ∷ 98 ∷ []; node = 6; root = 1 }, refl, refl) }

connected : (s : ℕ) (f : FlopOf ℕ) → IsFlopAt example_kinds s f → IsConnected example_gates example_kinds example_bits f
connected zero f is = let same : example_flop 1 3 5 0 ≡ f = cc in subst (λ g. IsConnected example_gates example_kinds example_bits g) same a_connected
connected (suc zero) f is = absurd (cc)
connected (suc (suc zero)) f is = absurd (cc)
connected (suc (suc (suc zero))) f is = absurd (cc)
connected (suc (suc (suc (suc zero)))) f is = let same : example_flop 2 0 6 1 ≡ f = cc in subst (λ g. IsConnected example_gates example_kinds example_bits g) same q_connected
connected (suc (suc (suc (suc (suc zero))))) f is = absurd (cc)
connected (suc (suc (suc (suc (suc (suc zero)))))) f is = absurd (cc)
connected (suc (suc (suc (suc (suc (suc (suc k))))))) f is = absurd (cc)

abbrev pub bit_ra : Bit
bit_ra = record { name = 114 ∷ 97 ∷ []; node = 5; root = 0 }

abbrev pub bit_rb : Bit
bit_rb = record { name = 114 ∷ 98 ∷ []; node = 6; root = 1 }

pub bit_found : (b : ℕ) (bit : Bit) → IsBitAt example_bits b bit → ((b ≡ 0) × (bit ≡ bit_ra)) ⊎ ((b ≡ 1) × (bit ≡ bit_rb))
bit_found zero bit is = inl (refl, cc)
bit_found (suc zero) bit is = inr (refl, cc)
bit_found (suc (suc k)) bit is = absurd (cc)

ordered_two : (j k : ℕ) (a b : Bit) → j ≤ k → ((j ≡ 0) × (a ≡ bit_ra)) ⊎ ((j ≡ 1) × (a ≡ bit_rb)) → ((k ≡ 0) × (b ≡ bit_ra)) ⊎ ((k ≡ 1) × (b ≡ bit_rb))
    → is_gt (slice_cmp nat_cmp a.name b.name) ≡ false
ordered_two j k a b below (inl x) (inl y) = rw (x.1, y.1) refl
ordered_two j k a b below (inl x) (inr y) = rw (x.1, y.1) refl
ordered_two j k a b below (inr x) (inl y) = absurd (omega (arith, x.0, y.0))
ordered_two j k a b below (inr x) (inr y) = rw (x.1, y.1) refl

pub example_flop_net : IsFlopNet example_gates 7 example_names example_kinds example_bits
example_flop_net = record {
  small = lit≤ tt;
  plain = λ k g is. plain_source g k (gate_found k g is).1;
  each_named = refl;
  each_kind = refl;
  flops = connected;
  ordered = λ j k a b below at_j at_k. ordered_two j k a b below (bit_found j a at_j) (bit_found k b at_k);
  bit_nodes = λ b bit is. elim (bit_found b bit is) [ inl x ↦ subst (λ y. y.node < 7) (sym x.1) (omega arith) | inr x ↦ subst (λ y. y.node < 7) (sym x.1) (omega arith) ];
  bit_roots = λ b bit is. elim (bit_found b bit is) [ inl x ↦ subst (λ y. y.root < 2) (sym x.1) (omega arith) | inr x ↦ subst (λ y. y.root < 2) (sym x.1) (omega arith) ];
}

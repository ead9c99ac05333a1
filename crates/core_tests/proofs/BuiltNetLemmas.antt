-- The net of BuiltNet.antt may be finished.
use Rattle.std.proofs.Common.{◌≡◌, ℕ, zero, suc, ◌<◌, List, [], ◌∷◌, Some, None, IfSome, refl, subst, arith, slice_get}
use Rattle.net_view.specs.declared.flop_net.FlopOf.{FlopOf}
use Rattle.net_view.specs.declared.flop_net.SrcKind.TheVariants.{Port}
use Rattle.net_view.specs.FlopNet.{Kind, Bit, IsFlopAt, IsBitAt}
use Rattle.net_core.specs.Net.{Net, IsWhole}
use Rattle.core_tests.specs.BuiltNet.{flop_q, all_kinds, named_bits, built_net}

is_q : (P : FlopOf ℕ → Type 0) → P flop_q → (s : ℕ) (f : FlopOf ℕ) → IsFlopAt all_kinds s f → P f
is_q P q zero f is = absurd (cc)
is_q P q (suc zero) f is = absurd (cc)
is_q P q (suc (suc zero)) f is = let same : flop_q ≡ f = cc in subst P same q
is_q P q (suc (suc (suc s))) f is = absurd (cc)

root_below : (b : ℕ) (bit : Bit) → IsBitAt named_bits b bit → bit.root < 4
root_below zero bit is = let same : record { name = 99 ∷ []; node = 1; root = 0 } ≡ bit = cc in subst (λ (x : Bit). x.root < 4) same (omega arith)
root_below (suc zero) bit is = let same : record { name = 113 ∷ []; node = 2; root = 1 } ≡ bit = cc in subst (λ (x : Bit). x.root < 4) same (omega arith)
root_below (suc (suc zero)) bit is = let same : record { name = 114 ∷ []; node = 0; root = 2 } ≡ bit = cc in subst (λ (x : Bit). x.root < 4) same (omega arith)
root_below (suc (suc (suc zero))) bit is = let same : record { name = 115 ∷ []; node = 0; root = 2 } ≡ bit = cc in subst (λ (x : Bit). x.root < 4) same (omega arith)
root_below (suc (suc (suc (suc b)))) bit is = absurd (cc)

abbrev bit_r : Bit
bit_r = record { name = 114 ∷ []; node = 0; root = 2 }

-- every net that is the built one
pub built_whole : IsWhole built_net
built_whole = record {
  clocks = is_q (λ f. IfSome f.clock (λ c. slice_get all_kinds c ≡ Some Port)) refl;
  pins = is_q (λ f. IfSome f.pin (λ p. (bit : Bit) × IsBitAt named_bits f.root bit × (bit.node ≡ p))) (bit_r, refl, refl);
  roots = root_below;
}

-- a net of ports alone, without a bit
is_port : (s : ℕ) (f : FlopOf ℕ) → IsFlopAt (Port ∷ Port ∷ []) s f → ⊥
is_port zero f is = absurd (cc)
is_port (suc zero) f is = absurd (cc)
is_port (suc (suc s)) f is = absurd (cc)

pub ports_whole : (net : Net) → Port ∷ Port ∷ [] ≡ net.kinds → [] ≡ net.bits → IsWhole net
ports_whole net kinds bits = record {
  clocks = λ s f is. absurd (none s f is);
  pins = λ s f is. absurd (none s f is);
  roots = λ b bit is. absurd (empty b bit is);
}
  where
    none : (s : ℕ) (f : FlopOf ℕ) → IsFlopAt net.kinds s f → ⊥
    none = subst (λ (ks : List Kind). (s : ℕ) (f : FlopOf ℕ) → IsFlopAt ks s f → ⊥) kinds is_port

    empty : (b : ℕ) (bit : Bit) → IsBitAt net.bits b bit → ⊥
    empty = subst (λ (bs : List Bit). (b : ℕ) (bit : Bit) → IsBitAt bs b bit → ⊥) bits (λ b bit is. absurd (cc))

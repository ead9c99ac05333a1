-- What one event does to one source, by what the source is.
use Rattle.std.proofs.Common.{◌≡◌, ◌⊎◌, ℕ, ◌<◌, Bool, true, false, IsTrue, IsSome, IsSomeAnd, if◌then◌else◌, ◌==◌, List, [], ◌∷◌, Option, Some, None, refl, sym, inl, inr, ap, ◌∙◌}
use Rattle.rdc_tern.specs.declared.value.Tern.{Tern}
use Rattle.rdc_tern.specs.declared.value.Tern.TheVariants.{Unsettled}
use Rattle.rdc_tern.specs.Kleene.{IsBelow, IsSettled}
use Rattle.run_model.specs.State.{State, settled}
use Rattle.run_model.specs.Machine.{Pin, FlopMeaning, Meaning, APort, AFlop, Machine, Phase, Inactive, Active, Unsure, pin_phase, phase_of}
use Rattle.run_model.specs.Laws.{IsMachine}
use Rattle.run_model.specs.Up.{lifted, up_value}
use Rattle.run_model.specs.Event.{is_clocked, taken, edge_value, is_input, driven}
use Rattle.run_model.proofs.Order.{below_join, join_or_unsettled, settled_level, settled_phase, phase_at-below}

pub no_flop : (f : FlopMeaning) → AFlop f ≡ APort → ⊥
no_flop f e = cc

pub lifted-inactive : (r : Bool) (p : Phase) (v : Tern) → p ≡ Inactive → lifted r p v ≡ v
lifted-inactive r p v e = ap (λ q. lifted r q v) e

pub lifted-in_reset : (r : Bool) (p : Phase) (v : Tern) → (p ≡ Inactive → ⊥) → (lifted r p v ≡ settled r) ⊎ (lifted r p v ≡ Unsettled)
lifted-in_reset r Inactive v h = absurd (h refl)
lifted-in_reset r Active v h = join_or_unsettled v (settled r)
lifted-in_reset r Unsure v h = join_or_unsettled v (settled r)

pub lifted-above : (r : Bool) (p : Phase) (v : Tern) → IsBelow v (lifted r p v)
lifted-above r Inactive v = inl refl
lifted-above r Active v = below_join v (settled r)
lifted-above r Unsure v = below_join v (settled r)

pub up_value-above : (x : Meaning) (t : State) (v : Tern) → IsBelow v (up_value x t v)
up_value-above APort t v = inl refl
up_value-above (AFlop f) t v = lifted-above f.reset (phase_of f t) v

pin_phase-below : (o : Option Pin) (s t : State) → ((p : Pin) → o ≡ Some p → IsBelow (p.logic.value s) (p.logic.value t)) → pin_phase o t ≡ Inactive → pin_phase o s ≡ Inactive
pin_phase-below None s t below h = refl
pin_phase-below (Some p) s t below h = phase_at-below p.high (p.logic.value s) (p.logic.value t) (below p refl) h

-- a pin that is inactive in a state that tells less was inactive
pub phase_of-below : (m : Machine) → IsMachine m → (n : ℕ) (f : FlopMeaning) → m.source n ≡ AFlop f → (s t : State)
    → ((k : ℕ) → IsBelow (s k) (t k)) → phase_of f t ≡ Inactive → phase_of f s ≡ Inactive
phase_of-below m lawful n f is s t below h =
    pin_phase-below f.pin s t (λ p has. (lawful.nets.pins n f p (record { flop = is; pin = has })).raised s t (λ k reads. below k)) h

pin_phase-settled : (o : Option Pin) (s : State) → ((p : Pin) → o ≡ Some p → IsSettled (p.logic.value s)) → (pin_phase o s ≡ Inactive) ⊎ (pin_phase o s ≡ Active)
pin_phase-settled None s settled = inl refl
pin_phase-settled (Some p) s settled = settled_phase p.high (p.logic.value s) (settled p refl)

-- without X a pin is settled
pub phase_of-settled : (m : Machine) → IsMachine m → (n : ℕ) (f : FlopMeaning) → m.source n ≡ AFlop f → (s : State)
    → ((k : ℕ) → k < m.count → IsSettled (s k)) → (phase_of f s ≡ Inactive) ⊎ (phase_of f s ≡ Active)
phase_of-settled m lawful n f is s settled =
    pin_phase-settled f.pin s (λ p has. let net = lawful.nets.pins n f p (record { flop = is; pin = has }) in net.settles s (λ k reads. settled k (net.within k reads)))

pub phase_of-none : (f : FlopMeaning) (s : State) → f.pin ≡ None → phase_of f s ≡ Inactive
phase_of-none f s e = ap (λ o. pin_phase o s) e

-- an edge leaves a flop out of reset at X only by its data, or where it does not clock it
pub edge_left : (f : FlopMeaning) (c : ℕ) (rising : Bool) (s : State) (v : Tern) → phase_of f s ≡ Inactive → edge_value (AFlop f) c rising s v ≡ Unsettled
    → (IsTrue (is_clocked f c rising) × (f.reads.value s ≡ Unsettled)) ⊎ (v ≡ Unsettled)
edge_left f c rising s v free e = by_clock (is_clocked f c rising) (phase_of f s) free e
  where
    by_clock : (b : Bool) (p : Phase) → p ≡ Inactive → (if b then taken p v (f.reads.value s) else v) ≡ Unsettled → (IsTrue b × (f.reads.value s ≡ Unsettled)) ⊎ (v ≡ Unsettled)
    by_clock true p free e = inl (refl, sym (ap (λ q. taken q v (f.reads.value s)) free) ∙ e)
    by_clock false p free e = inr e

pub driven-settled : (levels : List (ℕ × Bool)) (n : ℕ) (v : Tern) → IsSettled v → IsSettled (driven levels n v)
driven-settled [] n v h = h
driven-settled (x ∷ xs) n v h = driven-settled xs n (if n == x.0 then settled x.1 else v) (by_test (n == x.0))
  where
    by_test : (b : Bool) → IsSettled (if b then settled x.1 else v)
    by_test true = settled_level x.1
    by_test false = h

-- a Drive gives a data input a settled value, and leaves any other source
pub drive_flop : (f : FlopMeaning) (d e : Option Bool) (levels : List (ℕ × Bool)) (n : ℕ) (v : Tern) → (if is_input (AFlop f) d e then driven levels n v else v) ≡ v
drive_flop f d e levels n v = refl

pub drive_settled : (x : Meaning) (d e : Option Bool) (levels : List (ℕ × Bool)) (n : ℕ) (v : Tern) → IsSettled v → IsSettled (if is_input x d e then driven levels n v else v)
drive_settled APort None None levels n v h = driven-settled levels n v h
drive_settled APort None (Some value) levels n v h = h
drive_settled APort (Some high) e levels n v h = h
drive_settled (AFlop f) d e levels n v h = h

pub drive_fixed : (x : Meaning) (d : Option Bool) (value : Bool) (levels : List (ℕ × Bool)) (n : ℕ) (v : Tern) → (if is_input x d (Some value) then driven levels n v else v) ≡ v
drive_fixed APort None value levels n v = refl
drive_fixed APort (Some high) value levels n v = refl
drive_fixed (AFlop f) d value levels n v = refl

pub someone : (P : Bool → Type 0) (o : Option Bool) → IsSomeAnd o P → (high : Bool) × (o ≡ Some high) × P high
someone P None h = absurd h
someone P (Some high) h = (high, refl, h)

pub some_of : (o : Option Bool) → IsSome o → (high : Bool) × (o ≡ Some high)
some_of None h = absurd (cc)
some_of (Some high) h = (high, refl)

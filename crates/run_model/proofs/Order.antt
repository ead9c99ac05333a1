-- Facts on values in the order of X, and on what a pin does at them.
use Rattle.std.proofs.Common.{◌≡◌, ◌⊎◌, Bool, true, false, IsTrue, ℕ, refl, sym, inl, inr, ap, ◌∙◌}
use Rattle.rdc_tern.specs.declared.value.Tern.{Tern}
use Rattle.rdc_tern.specs.declared.value.Tern.TheVariants.{Zero, One, Unsettled}
use Rattle.rdc_tern.specs.Kleene.{join_of, IsBelow, IsSettled}
use Rattle.run_model.specs.State.{State, settled}
use Rattle.run_model.specs.Machine.{Logic, Phase, Inactive, Active, Unsure, phase_at}
use Rattle.run_model.specs.Laws.{IsLogic}

pub below_both : (a b : Tern) → IsBelow a b → IsBelow b a → a ≡ b
below_both a b (inl same) p = sym same
below_both a b (inr x) (inl same) = same
below_both a b (inr x) (inr y) = y ∙ sym x

pub below_of_eq : (a b : Tern) → a ≡ b → IsBelow a b
below_of_eq a b e = inl (sym e)

-- what is below a settled value is that value
pub below_settled : (a b : Tern) → IsBelow a b → IsSettled b → b ≡ a
below_settled a b (inl same) h = same
below_settled a b (inr x) h = absurd (h x)

pub below_unsettled : (a b : Tern) → IsBelow a b → a ≡ Unsettled → b ≡ Unsettled
below_unsettled a b (inl same) e = same ∙ e
below_unsettled a b (inr x) e = x

pub below_through : (a b c : Tern) → IsBelow a b → IsBelow b c → IsBelow a c
below_through a b c p (inr x) = inr x
below_through a b c (inl same) (inl more) = inl (more ∙ same)
below_through a b c (inr x) (inl more) = inr (more ∙ x)

pub below_join : (a b : Tern) → IsBelow a (join_of a b)
below_join Zero Zero = inl refl
below_join Zero One = inr refl
below_join Zero Unsettled = inr refl
below_join One Zero = inr refl
below_join One One = inl refl
below_join One Unsettled = inr refl
below_join Unsettled Zero = inr refl
below_join Unsettled One = inr refl
below_join Unsettled Unsettled = inr refl

-- a join with b is b, or X
pub join_or_unsettled : (a b : Tern) → (join_of a b ≡ b) ⊎ (join_of a b ≡ Unsettled)
join_or_unsettled Zero Zero = inl refl
join_or_unsettled Zero One = inr refl
join_or_unsettled Zero Unsettled = inr refl
join_or_unsettled One Zero = inr refl
join_or_unsettled One One = inl refl
join_or_unsettled One Unsettled = inr refl
join_or_unsettled Unsettled Zero = inr refl
join_or_unsettled Unsettled One = inr refl
join_or_unsettled Unsettled Unsettled = inr refl

pub settled_level : (b : Bool) → IsSettled (settled b)
settled_level true = λ e. cc
settled_level false = λ e. cc

pub is_unsettled : (v : Tern) → (v ≡ Unsettled) ⊎ IsSettled v
is_unsettled Zero = inr (λ e. cc)
is_unsettled One = inr (λ e. cc)
is_unsettled Unsettled = inl refl

pub is_inactive : (p : Phase) → (p ≡ Inactive) ⊎ (p ≡ Inactive → ⊥)
is_inactive Inactive = inl refl
is_inactive Active = inr (λ e. cc)
is_inactive Unsure = inr (λ e. cc)

-- a settled pin is active or inactive
pub settled_phase : (high : Bool) (v : Tern) → IsSettled v → (phase_at high v ≡ Inactive) ⊎ (phase_at high v ≡ Active)
settled_phase true Zero h = inl refl
settled_phase true One h = inr refl
settled_phase true Unsettled h = absurd (h refl)
settled_phase false Zero h = inr refl
settled_phase false One h = inl refl
settled_phase false Unsettled h = absurd (h refl)

pub active_phase : (high : Bool) → phase_at high (settled high) ≡ Active
active_phase true = refl
active_phase false = refl

-- a pin that is inactive although it tells less was inactive
pub phase_at-below : (high : Bool) (v w : Tern) → IsBelow v w → phase_at high w ≡ Inactive → phase_at high v ≡ Inactive
phase_at-below high v w (inl same) h = ap (λ u. phase_at high u) (sym same) ∙ h
phase_at-below true v w (inr x) h = absurd (let e : Unsure ≡ Inactive = ap (λ u. phase_at true u) (sym x) ∙ h in cc)
phase_at-below false v w (inr x) h = absurd (let e : Unsure ≡ Inactive = ap (λ u. phase_at false u) (sym x) ∙ h in cc)

-- states that agree on the cone give one value
pub value-same : (count : ℕ) (l : Logic) → IsLogic count l → (s t : State) → ((n : ℕ) → IsTrue (l.cone n) → s n ≡ t n) → l.value s ≡ l.value t
value-same count l lawful s t same =
    below_both _ _ (lawful.raised s t (λ n h. below_of_eq _ _ (same n h))) (lawful.raised t s (λ n h. below_of_eq _ _ (sym (same n h))))

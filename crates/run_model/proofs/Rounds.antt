-- Rounds over the order, each by the pins as they were before it, end where one pass in order does.
use Rattle.std.proofs.Common.{◌≡◌, ◌⊎◌, ℕ, Bool, refl, sym, inl, inr, ap, ◌∙◌, subst}
use mathlib.Core.Path.{fun_ext}
use Rattle.rdc_tern.specs.declared.value.Tern.{Tern}
use Rattle.rdc_tern.specs.declared.value.Tern.TheVariants.{Zero, One, Unsettled}
use Rattle.rdc_tern.specs.Kleene.{join_of, IsBelow}
use Rattle.run_model.specs.State.{State, settled}
use Rattle.run_model.specs.Machine.{Meaning, APort, AFlop, Machine, Phase, Inactive, Active, Unsure, phase_of}
use Rattle.run_model.specs.Laws.{IsMachine}
use Rattle.run_model.specs.Up.{lifted, swept, up_value, up, IsUp}
use Rattle.run_model.proofs.Steps.{up_value-above, phase_of-below}
use Rattle.run_model.proofs.Sweep.{swept-equation, up-equation, up-unique}

-- a source has its old value, or its pin has raised it
abbrev pub HasRisen : Meaning → State → Tern → Tern → Type 0
HasRisen APort t v w = w ≡ v
HasRisen (AFlop f) t v w = (w ≡ v) ⊎ ((phase_of f t ≡ Inactive → ⊥) × (w ≡ join_of v (settled f.reset)))

-- the state has what some of the pins have raised
abbrev pub IsOnTheWay : Machine → State → State → Type 0
IsOnTheWay m s t = (k : ℕ) → HasRisen (m.source k) t (s k) (t k)

begins : (x : Meaning) (t : State) (v : Tern) → HasRisen x t v v
begins APort t v = refl
begins (AFlop f) t v = inl refl

pub rounds_begin : (m : Machine) (s : State) → IsOnTheWay m s s
rounds_begin m s k = begins (m.source k) s (s k)

join_again : (a b : Tern) → join_of (join_of a b) b ≡ join_of a b
join_again Zero Zero = refl
join_again Zero One = refl
join_again Zero Unsettled = refl
join_again One Zero = refl
join_again One One = refl
join_again One Unsettled = refl
join_again Unsettled Zero = refl
join_again Unsettled One = refl
join_again Unsettled Unsettled = refl

joined : (r : Tern) (v w : Tern) → (w ≡ v) ⊎ (w ≡ join_of v r) → join_of w r ≡ join_of v r
joined r v w (inl same) = ap (λ u. join_of u r) same
joined r v w (inr once) = ap (λ u. join_of u r) once ∙ join_again v r

raised_part : (P : Type 0) (r v w : Tern) → (w ≡ v) ⊎ (P × (w ≡ join_of v r)) → (w ≡ v) ⊎ (w ≡ join_of v r)
raised_part P r v w (inl same) = inl same
raised_part P r v w (inr both) = inr both.1

lifted_on : (r : Bool) (p q : Phase) (v w : Tern) → (q ≡ Inactive → p ≡ Inactive) → (w ≡ v) ⊎ ((p ≡ Inactive → ⊥) × (w ≡ join_of v (settled r)))
    → (lifted r p w ≡ v) ⊎ ((q ≡ Inactive → ⊥) × (lifted r p w ≡ join_of v (settled r)))
lifted_on r Inactive q v w back (inl same) = inl same
lifted_on r Inactive q v w back (inr both) = absurd (both.0 refl)
lifted_on r Active q v w back h =
    inr (λ e. (let now : Active ≡ Inactive = back e in cc), joined (settled r) v w (raised_part (Active ≡ Inactive → ⊥) (settled r) v w h))
lifted_on r Unsure q v w back h =
    inr (λ e. (let now : Unsure ≡ Inactive = back e in cc), joined (settled r) v w (raised_part (Unsure ≡ Inactive → ⊥) (settled r) v w h))

risen_on : (m : Machine) → IsMachine m → (n : ℕ) (x : Meaning) → m.source n ≡ x → (t u : State) → ((k : ℕ) → IsBelow (t k) (u k))
    → (v w : Tern) → HasRisen x t v w → HasRisen x u v (up_value x t w)
risen_on m lawful n APort is t u below v w h = h
risen_on m lawful n (AFlop f) is t u below v w h =
    lifted_on f.reset (phase_of f t) (phase_of f u) v w (phase_of-below m lawful n f is t u below) h

-- a round gives each source what its pin before the round makes of its value
round_at : (m : Machine) → IsMachine m → (t : State) (k : ℕ) → swept (λ x w v. up_value x t v) m.source m.order t k ≡ up_value (m.source k) t (t k)
round_at m lawful t k =
    swept-equation (λ x w v. up_value x t v) m lawful (λ x a b v same. refl) (λ a v. refl) t k (m.source k) refl

pub rounds_go_on : (m : Machine) → IsMachine m → (s t u : State) → IsOnTheWay m s t → u ≡ swept (λ x w v. up_value x t v) m.source m.order t → IsOnTheWay m s u
rounds_go_on m lawful s t u way is k =
    let here : (j : ℕ) → u j ≡ up_value (m.source j) t (t j) = λ j. ap (λ a. a j) is ∙ round_at m lawful t j in
    let below : (j : ℕ) → IsBelow (t j) (u j) = λ j. subst (λ v. IsBelow (t j) v) (sym (here j)) (up_value-above (m.source j) t (t j)) in
    subst (λ v. HasRisen (m.source k) u (s k) v) (sym (here k)) (risen_on m lawful k (m.source k) refl t u below (s k) (t k) (way k))

lifted_moving : (r : Bool) (p : Phase) (v : Tern) → (p ≡ Inactive → ⊥) → lifted r p v ≡ join_of v (settled r)
lifted_moving r Inactive v moving = absurd (moving refl)
lifted_moving r Active v moving = refl
lifted_moving r Unsure v moving = refl

risen_end : (x : Meaning) (t : State) (v w : Tern) → HasRisen x t v w → w ≡ up_value x t w → w ≡ up_value x t v
risen_end APort t v w h stays = h
risen_end (AFlop f) t v w (inl same) stays = stays ∙ ap (λ a. lifted f.reset (phase_of f t) a) same
risen_end (AFlop f) t v w (inr both) stays = both.1 ∙ sym (lifted_moving f.reset (phase_of f t) v both.0)

-- where a round changes nothing, the state is that after one pass in order
pub rounds_end : (m : Machine) → IsMachine m → (s t : State) → IsOnTheWay m s t → t ≡ swept (λ x w v. up_value x t v) m.source m.order t → t ≡ up m s
rounds_end m lawful s t way is =
    let stays : (k : ℕ) → t k ≡ up_value (m.source k) t (t k) = λ k. ap (λ a. a k) is ∙ round_at m lawful t k in
    let meets : IsUp m s t = λ k. risen_end (m.source k) t (s k) (t k) (way k) (stays k) in
    fun_ext (up-unique m lawful s t (up m s) meets (up-equation m lawful s))

-- A pass over the order meets its equations, and they have one solution.
use Rattle.std.proofs.Common.{◌≡◌, ◌⊎◌, ℕ, IsTrue, List, [], ◌∷◌, Option, Some, None, Contains, refl, sym, inl, inr, ap, ◌∙◌, subst}
use Rattle.rdc_tern.specs.declared.value.Tern.{Tern}
use Rattle.run_model.specs.State.{State, with_value}
use Rattle.run_model.specs.Machine.{Pin, FlopMeaning, Meaning, APort, AFlop, Machine, phase_at, pin_phase, phase_of}
use Rattle.run_model.specs.Laws.{HasPin, IsPinOrder, IsMachine}
use Rattle.run_model.specs.Up.{lifted, swept, up_value, up, IsUp}
use Rattle.run_model.proofs.Order.{value-same}
use Rattle.run_model.proofs.Places.{contains_split, contains_here, contains_later, contains_none, with_value-same, with_value-other, one_of}

-- the pins of a source do the same in both states
abbrev pub SamePhase : Meaning → State → State → Type 0
SamePhase APort s t = Unit {0}
SamePhase (AFlop f) s t = phase_of f s ≡ phase_of f t

-- a rule that sees the state by the pin alone
abbrev pub IsSteady : (Meaning → State → Tern → Tern) → Type 0
IsSteady rule = (x : Meaning) (s t : State) (v : Tern) → SamePhase x s t → rule x s v ≡ rule x t v

-- a rule that leaves ports
abbrev pub LeavesPorts : (Meaning → State → Tern → Tern) → Type 0
LeavesPorts rule = (s : State) (v : Tern) → rule APort s v ≡ v

pin_phase-same : (o : Option Pin) (s t : State) → ((p : Pin) → o ≡ Some p → p.logic.value s ≡ p.logic.value t) → pin_phase o s ≡ pin_phase o t
pin_phase-same None s t same = refl
pin_phase-same (Some p) s t same = ap (λ v. phase_at p.high v) (same p refl)

-- the pin of a flop does the same where its cone is the same
pub phase_of-same : (m : Machine) → IsMachine m → (n : ℕ) (f : FlopMeaning) → m.source n ≡ AFlop f → (s t : State)
    → ((p : Pin) (k : ℕ) → HasPin m n f p → IsTrue (p.logic.cone k) → s k ≡ t k) → phase_of f s ≡ phase_of f t
phase_of-same m lawful n f is s t same =
    pin_phase-same f.pin s t (λ p has. let h : HasPin m n f p = record { flop = is; pin = has } in value-same m.count p.logic (lawful.nets.pins n f p h) s t (λ k. same p k h))

same_phase : (m : Machine) → IsMachine m → (n : ℕ) (x : Meaning) → m.source n ≡ x → (s t : State)
    → ((f : FlopMeaning) (p : Pin) (k : ℕ) → HasPin m n f p → IsTrue (p.logic.cone k) → s k ≡ t k) → SamePhase x s t
same_phase m lawful n APort is s t same = tt
same_phase m lawful n (AFlop f) is s t same = phase_of-same m lawful n f is s t (same f)

port_step : (rule : Meaning → State → Tern → Tern) (m : Machine) → LeavesPorts rule → (n : ℕ) (s : State) (k : ℕ) → m.source k ≡ APort
    → (k ≡ n) ⊎ (k ≡ n → ⊥) → with_value s n (rule (m.source n) s (s n)) k ≡ s k
port_step rule m leaves n s k is (inl same) =
    subst (λ j. with_value s j (rule (m.source j) s (s j)) k ≡ s k) same
    (with_value-same s k (rule (m.source k) s (s k)) ∙ ap (λ x. rule x s (s k)) is ∙ leaves s (s k))
port_step rule m leaves n s k is (inr other) = with_value-other s n (rule (m.source n) s (s n)) k other

module _ (rule : Meaning → State → Tern → Tern) (m : Machine) where
  -- what the list leaves out is left
  pub swept-outside : (ns : List ℕ) (s : State) (k : ℕ) → (Contains ns k → ⊥) → swept rule m.source ns s k ≡ s k
  swept-outside [] s k out = refl
  swept-outside (n ∷ ns) s k out =
      swept-outside ns (with_value s n (rule (m.source n) s (s n))) k (λ c. out (contains_later ns n k c))
      ∙ with_value-other s n (rule (m.source n) s (s n)) k (λ e. out (subst (λ j. Contains (n ∷ ns) j) (sym e) (contains_here ns n)))

  pub swept-port : LeavesPorts rule → (ns : List ℕ) (s : State) (k : ℕ) → m.source k ≡ APort → swept rule m.source ns s k ≡ s k
  swept-port leaves [] s k is = refl
  swept-port leaves (n ∷ ns) s k is =
      swept-port leaves ns (with_value s n (rule (m.source n) s (s n))) k is ∙ port_step rule m leaves n s k is (one_of k n)

  -- what the list has is as the rule says in the new state
  pub swept-at : IsMachine m → IsSteady rule → (ns : List ℕ) (s : State) → IsPinOrder m ns → (k : ℕ) → Contains ns k
      → swept rule m.source ns s k ≡ rule (m.source k) (swept rule m.source ns s) (s k)
  swept-at lawful steady [] s ordered k has = absurd (contains_none k has)
  swept-at lawful steady (n ∷ ns) s ordered k has =
      let next : State = with_value s n (rule (m.source n) s (s n)) in
      elim (contains_split ns n k has) [
        | inl same ↦
            let here : swept rule m.source (n ∷ ns) s n ≡ rule (m.source n) (swept rule m.source (n ∷ ns) s) (s n) =
            swept-outside ns next n ordered.1
            ∙ with_value-same s n (rule (m.source n) s (s n))
            ∙ steady (m.source n) s (swept rule m.source (n ∷ ns) s) (s n)
            (same_phase m lawful n (m.source n) refl s (swept rule m.source (n ∷ ns) s)
            (λ f p j pin reads. sym (swept-outside (n ∷ ns) s j (λ c. ordered.0 f p j pin c reads)))) in
            subst (λ j. swept rule m.source (n ∷ ns) s j ≡ rule (m.source j) (swept rule m.source (n ∷ ns) s) (s j)) (sym same) here
        | inr later ↦
            swept-at lawful steady ns next ordered.2 k later
            ∙ ap (λ v. rule (m.source k) (swept rule m.source (n ∷ ns) s) v)
            (with_value-other s n (rule (m.source n) s (s n)) k (λ e. ordered.1 (subst (λ j. Contains ns j) e later)))
      ]

-- a pass over the order meets the rule's equation at every source
pub swept-equation : (rule : Meaning → State → Tern → Tern) (m : Machine) → IsMachine m → IsSteady rule → LeavesPorts rule
    → (s : State) (k : ℕ) (x : Meaning) → m.source k ≡ x → swept rule m.source m.order s k ≡ rule x (swept rule m.source m.order s) (s k)
swept-equation rule m lawful steady leaves s k APort is = swept-port rule m leaves m.order s k is ∙ sym (leaves (swept rule m.source m.order s) (s k))
swept-equation rule m lawful steady leaves s k (AFlop f) is =
    swept-at rule m lawful steady m.order s lawful.order.pins k (lawful.order.listed k f is)
    ∙ ap (λ x. rule x (swept rule m.source m.order s) (s k)) is

pub up-steady : IsSteady up_value
up-steady APort s t v same = refl
up-steady (AFlop f) s t v same = ap (λ p. lifted f.reset p v) same

pub up-equation : (m : Machine) → IsMachine m → (s : State) → IsUp m s (up m s)
up-equation m lawful s k = swept-equation up_value m lawful up-steady (λ t v. refl) s k (m.source k) refl

-- solutions agree outside what is left of the order, and so everywhere
agree_along : (m : Machine) → IsMachine m → (s t u : State) → IsUp m s t → IsUp m s u
    → (ns : List ℕ) → IsPinOrder m ns → ((k : ℕ) → (Contains ns k → ⊥) → t k ≡ u k) → (k : ℕ) → t k ≡ u k
agree_along m lawful s t u first second [] ordered before k = before k (contains_none k)
agree_along m lawful s t u first second (n ∷ ns) ordered before last =
    let here : t n ≡ u n =
    first n
    ∙ up-steady (m.source n) t u (s n)
    (same_phase m lawful n (m.source n) refl t u (λ f p j pin reads. before j (λ c. ordered.0 f p j pin c reads)))
    ∙ sym (second n) in
    agree_along m lawful s t u first second ns ordered.2 (λ k out. elim (one_of k n) [
      | inl same ↦ subst (λ j. t j ≡ u j) (sym same) here
      | inr other ↦ before k (λ c. elim (contains_split ns n k c) [ inl e ↦ other e | inr l ↦ out l ])
    ]) last

listed_or_port : (m : Machine) → IsMachine m → (k : ℕ) (x : Meaning) → m.source k ≡ x → (m.source k ≡ APort) ⊎ Contains m.order k
listed_or_port m lawful k APort is = inl is
listed_or_port m lawful k (AFlop f) is = inr (lawful.order.listed k f is)

pub up-unique : (m : Machine) → IsMachine m → (s t u : State) → IsUp m s t → IsUp m s u → (k : ℕ) → t k ≡ u k
up-unique m lawful s t u first second =
    agree_along m lawful s t u first second m.order lawful.order.pins (λ k out. elim (listed_or_port m lawful k (m.source k) refl) [
      | inl port ↦ first k ∙ ap (λ x. up_value x t (s k)) port ∙ sym (second k ∙ ap (λ x. up_value x u (s k)) port)
      | inr c ↦ absurd (out c)
    ])

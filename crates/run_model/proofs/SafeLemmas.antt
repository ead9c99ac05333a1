-- A machine whose edges are the same and whose calms are direct is safe.
use Rattle.std.proofs.Common.{◌≡◌, ◌⊎◌, ℕ, ◌<◌, Bool, true, false, IsTrue, IsSome, Option, Some, None, refl, sym, inl, inr, ap, ◌∙◌, subst}
use Rattle.rdc_tern.specs.declared.value.Tern.TheVariants.{Unsettled}
use Rattle.rdc_tern.specs.Kleene.{IsSettled}
use Rattle.run_model.specs.declared.event.Event.{Event}
use Rattle.run_model.specs.declared.event.Event.TheVariants.{Rise, Fall, Strike, Calm, Release, Drive}
use Rattle.run_model.specs.State.{State}
use Rattle.run_model.specs.Machine.{Pin, FlopMeaning, Meaning, APort, AFlop, Machine, Inactive, Active, phase_at, pin_phase, phase_of}
use Rattle.run_model.specs.Laws.{HasPin, IsMachine}
use Rattle.run_model.specs.Event.{calm_value, moved}
use Rattle.run_model.specs.Permitted.{IsPossible, MaySettle}
use Rattle.run_model.specs.Disturbed.{TakesUnsettled, IsLeft, Disturbs}
use Rattle.run_model.specs.Rules.{MeetsRules}
use Rattle.run_model.specs.Same.{HasOnePin, IsSameSource, CanCalm, IsClean}
use Rattle.run_model.specs.Safe.{IsSafe}
use Rattle.run_model.proofs.Order.{settled_level, active_phase}
use Rattle.run_model.proofs.Places.{with_value-other, with_value-same, one_of}
use Rattle.run_model.proofs.Sweep.{phase_of-same}
use Rattle.run_model.proofs.Rules.{rules_in_run}

phase_of-pin : (f : FlopMeaning) (p : Pin) (s : State) → f.pin ≡ Some p → phase_of f s ≡ phase_at p.high (p.logic.value s)
phase_of-pin f p s e = ap (λ o. pin_phase o s) e

active_has_pin : (o : Option Pin) (s : State) → pin_phase o s ≡ Active → IsSome o
active_has_pin None s e = absurd (cc)
active_has_pin (Some p) s e = refl

can_calm : (x : Meaning) (level : Option Bool) (s : State) → MaySettle x level s → CanCalm x level
can_calm APort level s may = may
can_calm (AFlop g) level s may = active_has_pin g.pin s may

has_pin_or_none : (o : Option Pin) → (o ≡ None) ⊎ ((p : Pin) × (o ≡ Some p))
has_pin_or_none None = inl refl
has_pin_or_none (Some p) = inr (p, refl)

in_or_out : (b : Bool) → IsTrue b ⊎ (IsTrue b → ⊥)
in_or_out true = inl refl
in_or_out false = inr (λ e. cc)

module _ (m : Machine) (lawful : IsMachine m) (clean : IsClean m) (s : State) (rules : MeetsRules m s) where
  one_pin_phase : (n k : ℕ) (f g : FlopMeaning) → m.source n ≡ AFlop f → m.source k ≡ AFlop g → HasOnePin f g → phase_of g s ≡ phase_of f s
  one_pin_phase n k f g at_n at_k one =
      phase_of-pin g one.other s one.is_other
      ∙ ap (λ v. phase_at one.other.high v)
      (sym (lawful.nets.one_root n k f g one.mine one.other (record { flop = at_n; pin = one.is_mine }) (record { flop = at_k; pin = one.is_other }) one.root s))
      ∙ ap (λ h. phase_at h (one.mine.logic.value s)) (sym one.level)
      ∙ sym (phase_of-pin f one.mine s one.is_mine)

  -- while the flop is out of reset, what its data reads is settled
  settled_source : (n : ℕ) (f : FlopMeaning) → m.source n ≡ AFlop f → phase_of f s ≡ Inactive → (k : ℕ) (x : Meaning) → k < m.count → m.source k ≡ x
      → IsSameSource f x (m.declared k) → IsSettled (s k)
  settled_source n f is free k APort in_m at_k same = rules.port k in_m at_k same
  settled_source n f is free k (AFlop g) in_m at_k (inl bare) = rules.no_pin k g at_k bare
  settled_source n f is free k (AFlop g) in_m at_k (inr one) = λ e. rules.held k g at_k e (one_pin_phase n k f g is at_k one ∙ free)

  edge_safe : (c : ℕ) (rising : Bool) (n : ℕ) → TakesUnsettled m s c rising n → ⊥
  edge_safe c rising n takes =
      let net = lawful.nets.reads n takes.flop takes.is_flop in
      net.settles s
      (λ k reads. settled_source n takes.flop takes.is_flop takes.free k (m.source k) (net.within k reads) refl (clean.same n takes.flop takes.is_flop k reads))
      takes.unsettled

  module _ (k : ℕ) (possible : IsPossible m s (Calm k)) where
    calm_other : (n : ℕ) → (n ≡ k → ⊥) → moved m s (Calm k) n ≡ s n
    calm_other n other = with_value-other s k (calm_value (m.source k) (m.declared k) (s k)) n other

    calm_here : moved m s (Calm k) k ≡ calm_value (m.source k) (m.declared k) (s k)
    calm_here = with_value-same s k (calm_value (m.source k) (m.declared k) (s k))

    -- a flop that is X after the Calm was X
    was_unsettled : (n : ℕ) (f : FlopMeaning) → m.source n ≡ AFlop f → moved m s (Calm k) n ≡ Unsettled → (n ≡ k) ⊎ (n ≡ k → ⊥) → s n ≡ Unsettled
    was_unsettled n f is e (inr other) = sym (calm_other n other) ∙ e
    was_unsettled n f is e (inl same) =
        absurd (settled_level f.reset
        (sym (ap (λ x. calm_value x (m.declared k) (s k)) (sym (ap m.source same) ∙ is)) ∙ sym calm_here ∙ ap (λ j. moved m s (Calm k) j) (sym same) ∙ e))

    pin_outside : (n : ℕ) (f : FlopMeaning) (p : Pin) → HasPin m n f p → (IsTrue (p.logic.cone k) → ⊥) → phase_of f s ≡ phase_of f (moved m s (Calm k))
    pin_outside n f p pin out = phase_of-same m lawful n f pin.flop s (moved m s (Calm k))
        (λ q j other reads. sym (calm_other j (λ same.
        let e : Some p ≡ Some q = sym pin.pin ∙ other.pin in
        let one : p ≡ q = cc in
        out (subst (λ i. IsTrue (p.logic.cone i)) same (subst (λ r. IsTrue (r.logic.cone j)) (sym one) reads)))))

    pin_inside : (n : ℕ) (f : FlopMeaning) (p : Pin) → HasPin m n f p → IsTrue (p.logic.cone k) → phase_of f (moved m s (Calm k)) ≡ Active
    pin_inside n f p pin reads =
        let direct = clean.direct n f p pin k reads (can_calm (m.source k) (m.declared k) s possible.1) f p pin in
        phase_of-pin f p (moved m s (Calm k)) pin.pin
        ∙ ap (λ v. phase_at p.high v) (lawful.nets.copies n f p k pin direct.0 (moved m s (Calm k)) ∙ calm_here ∙ direct.1 (s k))
        ∙ active_phase p.high

    calm_safe : (n : ℕ) → IsLeft m (moved m s (Calm k)) n → ⊥
    calm_safe n left =
        let was : s n ≡ Unsettled = was_unsettled n left.flop left.is_flop left.unsettled (one_of n k) in
        elim (has_pin_or_none left.flop.pin) [
          | inl bare ↦ rules.no_pin n left.flop left.is_flop bare was
          | inr (p, has) ↦
              let pin : HasPin m n left.flop p = record { flop = left.is_flop; pin = has } in
              elim (in_or_out (p.logic.cone k)) [
                | inl reads ↦ let e : Active ≡ Inactive = sym (pin_inside n left.flop p pin reads) ∙ left.free in absurd (cc)
                | inr out ↦ rules.held n left.flop left.is_flop was (pin_outside n left.flop p pin out ∙ left.free)
              ]
        ]

  none_disturbed : (e : Event) → IsPossible m s e → (n : ℕ) → Disturbs m s e n → ⊥
  none_disturbed (Rise c) possible n d = edge_safe c true n d
  none_disturbed (Fall c) possible n d = edge_safe c false n d
  none_disturbed (Strike r) possible n d = d
  none_disturbed (Calm k) possible n d = calm_safe k possible n d
  none_disturbed (Release r) possible n d = d
  none_disturbed (Drive levels) possible n d = d

pub clean_safe : (m : Machine) → IsMachine m → IsClean m → IsSafe m
clean_safe m lawful clean s es run = none_disturbed m lawful clean _ (rules_in_run m lawful s es run)

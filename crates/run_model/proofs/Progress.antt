-- When a reset is in progress.
use Rattle.std.proofs.Common.{◌≡◌, ℕ, ◌<◌, Bool, Some, refl, inl, inr, ◌∙◌}
use Rattle.rdc_tern.specs.declared.value.Tern.TheVariants.{Unsettled}
use Rattle.run_model.specs.State.{State, with_value}
use Rattle.run_model.specs.Machine.{Machine}
use Rattle.run_model.specs.Laws.{IsMachine}
use Rattle.run_model.specs.Domain.{InDomain, reads, follows, IsInProgress}
use Rattle.run_model.specs.Up.{up_value}
use Rattle.run_model.specs.Run.{IsPowerUp}
use Rattle.run_model.specs.Statements.{ProgressBegins}
use Rattle.run_model.proofs.Places.{with_value-same}
use Rattle.run_model.proofs.Sweep.{swept-port}

member_within : (m : Machine) → IsMachine m → (r n : ℕ) → InDomain m r n → n < m.count
member_within m lawful r _ (reads n f p pin cone) = lawful.nets.within n f pin.flop
member_within m lawful r _ (follows n k f p pin cone member) = lawful.nets.within n f pin.flop

none_at_power : (m : Machine) → IsMachine m → (s : State) → IsPowerUp m s → (r : ℕ) (high : Bool) → r < m.count → m.declared r ≡ Some high → IsInProgress m s r high → ⊥
none_at_power m lawful s power r high in_m declared (inl x) = power.no_x r in_m x
none_at_power m lawful s power r high in_m declared (inr (asserted, some)) = power.no_x some.flop (member_within m lawful r some.flop some.member) some.unsettled

pub progress : ProgressBegins
progress = record {
  none = none_at_power;
  struck = λ m lawful s r high declared. inl
      (swept-port up_value m (λ t v. refl) m.order (with_value s r Unsettled) r (lawful.ports.declared r high declared) ∙ with_value-same s r Unsettled);
}

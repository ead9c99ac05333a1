-- The reset rules hold at power-up and after every permitted event that disturbs nothing.
use Rattle.std.proofs.Common.{◌≡◌, ◌⊎◌, ℕ, ◌<◌, Bool, true, false, not, IsSome, if◌then◌else◌, List, [], ◌∷◌, Some, None, refl, sym, inl, inr, ap, ◌∙◌, subst}
use Rattle.rdc_tern.specs.declared.value.Tern.{Tern}
use Rattle.rdc_tern.specs.declared.value.Tern.TheVariants.{Unsettled}
use Rattle.rdc_tern.specs.Kleene.{IsBelow, IsSettled}
use Rattle.run_model.specs.declared.event.Event.{Event}
use Rattle.run_model.specs.declared.event.Event.TheVariants.{Rise, Fall, Strike, Calm, Release, Drive}
use Rattle.run_model.specs.State.{State, settled, with_value}
use Rattle.run_model.specs.Machine.{FlopMeaning, APort, AFlop, Machine, Inactive, phase_of}
use Rattle.run_model.specs.Laws.{IsMachine}
use Rattle.run_model.specs.Up.{lifted, up_value, up}
use Rattle.run_model.specs.Event.{edge_value, calm_value, is_input, driven, moved, after}
use Rattle.run_model.specs.Permitted.{IsPossible, MaySettle, LeavesNone, IsPermitted}
use Rattle.run_model.specs.Disturbed.{TakesUnsettled, DisturbsNone}
use Rattle.run_model.specs.Run.{IsPowerUp, state_after, Goes, IsRun}
use Rattle.run_model.specs.Rules.{MeetsRules}
use Rattle.run_model.proofs.Order.{below_through, below_of_eq, is_inactive}
use Rattle.run_model.proofs.Places.{with_value-other, with_value-same, one_of}
use Rattle.run_model.proofs.Sweep.{up-equation}
use Rattle.run_model.proofs.Steps.{no_flop, lifted-inactive, lifted-in_reset, up_value-above, phase_of-below, phase_of-settled, phase_of-none, edge_left, drive_settled, drive_fixed, someone, some_of}

pub rules_at_power : (m : Machine) → IsMachine m → (s : State) → IsPowerUp m s → MeetsRules m s
rules_at_power m lawful s power = record {
  no_pin = λ n f is e. power.no_x n (lawful.nets.within n f is);
  held = λ n f is e free. power.no_x n (lawful.nets.within n f is) e;
  in_reset = λ n f is held. elim (phase_of-settled m lawful n f is s power.no_x) [ inl free ↦ absurd (held free) | inr active ↦ inl (power.reset n f is active) ];
  port = λ n in_m is none. power.no_x n in_m;
  fixed = power.fixed;
}

-- a state that an event other than Calm moved to, before up, from which up makes a state that meets the rules
record IsReady (m : Machine) (t : State) : Type 0 where
  held : (n : ℕ) (f : FlopMeaning) → m.source n ≡ AFlop f → t n ≡ Unsettled → up m t n ≡ Unsettled → phase_of f (up m t) ≡ Inactive → ⊥
  port : (n : ℕ) → n < m.count → m.source n ≡ APort → m.declared n ≡ None → IsSettled (t n)
  fixed : (n : ℕ) (value : Bool) → m.fixed n ≡ Some value → t n ≡ settled value

up_flop : (m : Machine) → IsMachine m → (t : State) (n : ℕ) (f : FlopMeaning) → m.source n ≡ AFlop f → up m t n ≡ lifted f.reset (phase_of f (up m t)) (t n)
up_flop m lawful t n f is = up-equation m lawful t n ∙ ap (λ x. up_value x (up m t) (t n)) is

up_port : (m : Machine) → IsMachine m → (t : State) (n : ℕ) → m.source n ≡ APort → up m t n ≡ t n
up_port m lawful t n is = up-equation m lawful t n ∙ ap (λ x. up_value x (up m t) (t n)) is

up_held : (m : Machine) → IsMachine m → (t : State) → IsReady m t → (n : ℕ) (f : FlopMeaning) → m.source n ≡ AFlop f → up m t n ≡ Unsettled → phase_of f (up m t) ≡ Inactive → ⊥
up_held m lawful t ready n f is e free =
    ready.held n f is (sym (lifted-inactive f.reset _ (t n) free) ∙ sym (up_flop m lawful t n f is) ∙ e) e free

rules_after_up : (m : Machine) → IsMachine m → (t : State) → IsReady m t → MeetsRules m (up m t)
rules_after_up m lawful t ready = record {
  no_pin = λ n f is none e. up_held m lawful t ready n f is e (phase_of-none f (up m t) none);
  held = up_held m lawful t ready;
  in_reset = λ n f is held. elim (lifted-in_reset f.reset (phase_of f (up m t)) (t n) held) [
    | inl value ↦ inl (up_flop m lawful t n f is ∙ value)
    | inr x ↦ inr (up_flop m lawful t n f is ∙ x)
  ];
  port = λ n in_m is none e. ready.port n in_m is none (sym (up_port m lawful t n is) ∙ e);
  fixed = λ n value is. up_port m lawful t n (lawful.ports.fixed n value is) ∙ ready.fixed n value is;
}

module _ (m : Machine) (lawful : IsMachine m) (s : State) (rules : MeetsRules m s) where
  -- an event that leaves a flop's value, under the pulse rule
  kept_held : (t : State) → LeavesNone m s (up m t) → (n : ℕ) (f : FlopMeaning) → m.source n ≡ AFlop f → t n ≡ s n
      → t n ≡ Unsettled → up m t n ≡ Unsettled → phase_of f (up m t) ≡ Inactive → ⊥
  kept_held t pulse n f is kept before e free = elim (is_inactive (phase_of f s)) [
    | inl was ↦ rules.held n f is (sym kept ∙ before) was
    | inr held ↦ pulse n f is held e free
  ]

  edge_port : (c : ℕ) (rising : Bool) (n : ℕ) → m.source n ≡ APort → edge_value (m.source n) c rising s (s n) ≡ s n
  edge_port c rising n is = ap (λ x. edge_value x c rising s (s n)) is

  edge_ready : (c : ℕ) (rising : Bool) (t : State) → ((n : ℕ) → t n ≡ edge_value (m.source n) c rising s (s n))
      → LeavesNone m s (up m t) → ((n : ℕ) → TakesUnsettled m s c rising n → ⊥) → IsReady m t
  edge_ready c rising t moves pulse none = record {
    held = λ n f is before e free. elim (is_inactive (phase_of f s)) [
      | inr held ↦ pulse n f is held e free
      | inl was ↦
          let value : edge_value (AFlop f) c rising s (s n) ≡ Unsettled = sym (ap (λ x. edge_value x c rising s (s n)) is) ∙ sym (moves n) ∙ before in
          elim (edge_left f c rising s (s n) was value) [
            | inl taken ↦ none n (record { flop = f; is_flop = is; clocked = taken.0; free = was; unsettled = taken.1 })
            | inr x ↦ rules.held n f is x was
          ]
    ];
    port = λ n in_m is bare e. rules.port n in_m is bare (sym (moves n ∙ edge_port c rising n is) ∙ e);
    fixed = λ n value is. moves n ∙ edge_port c rising n (lawful.ports.fixed n value is) ∙ rules.fixed n value is;
  }

  -- the source that a reset port's event changes is bare flop, and neither a clock nor tied
  flop_other : (r : ℕ) (high : Bool) → m.declared r ≡ Some high → (n : ℕ) (f : FlopMeaning) → m.source n ≡ AFlop f → n ≡ r → ⊥
  flop_other r high declared n f is same = no_flop f (sym is ∙ ap m.source same ∙ lawful.ports.declared r high declared)

  undeclared_other : (r : ℕ) (high : Bool) → m.declared r ≡ Some high → (n : ℕ) → m.declared n ≡ None → n ≡ r → ⊥
  undeclared_other r high declared n none same = let e : m.declared n ≡ m.declared r = ap m.declared same in cc

  fixed_other : (r : ℕ) (high : Bool) → m.declared r ≡ Some high → (n : ℕ) (value : Bool) → m.fixed n ≡ Some value → n ≡ r → ⊥
  fixed_other r high declared n value is same =
      let e : m.fixed n ≡ m.fixed r = ap m.fixed same in let free = lawful.ports.free r high declared in cc

  strike_ready : (r : ℕ) (high : Bool) → m.declared r ≡ Some high → IsReady m (with_value s r Unsettled)
  strike_ready r high declared = record {
    held = λ n f is before e free. rules.held n f is
        (sym (with_value-other s r Unsettled n (flop_other r high declared n f is)) ∙ before)
        (phase_of-below m lawful n f is s (up m (with_value s r Unsettled)) strike_below free);
    port = λ n in_m is none e. rules.port n in_m is none (sym (with_value-other s r Unsettled n (undeclared_other r high declared n none)) ∙ e);
    fixed = λ n value is. with_value-other s r Unsettled n (fixed_other r high declared n value is) ∙ rules.fixed n value is;
  }
    where
      struck_below : (k : ℕ) → (k ≡ r) ⊎ (k ≡ r → ⊥) → IsBelow (s k) (with_value s r Unsettled k)
      struck_below k (inl same) = inr (ap (λ j. with_value s r Unsettled j) same ∙ with_value-same s r Unsettled)
      struck_below k (inr other) = inl (with_value-other s r Unsettled k other)

      strike_below : (k : ℕ) → IsBelow (s k) (up m (with_value s r Unsettled) k)
      strike_below k = below_through _ _ _ (struck_below k (one_of k r))
          (below_through _ _ _ (up_value-above (m.source k) (up m (with_value s r Unsettled)) (with_value s r Unsettled k))
          (below_of_eq _ _ (sym (up-equation m lawful (with_value s r Unsettled) k))))

  release_ready : (r : ℕ) (high : Bool) (v : Tern) → m.declared r ≡ Some high → LeavesNone m s (up m (with_value s r v)) → IsReady m (with_value s r v)
  release_ready r high v declared pulse = record {
    held = λ n f is. kept_held (with_value s r v) pulse n f is (with_value-other s r v n (flop_other r high declared n f is));
    port = λ n in_m is none e. rules.port n in_m is none (sym (with_value-other s r v n (undeclared_other r high declared n none)) ∙ e);
    fixed = λ n value is. with_value-other s r v n (fixed_other r high declared n value is) ∙ rules.fixed n value is;
  }

  drive_ready : (levels : List (ℕ × Bool)) → LeavesNone m s (up m (moved m s (Drive levels))) → IsReady m (moved m s (Drive levels))
  drive_ready levels pulse = record {
    held = λ n f is. kept_held (moved m s (Drive levels)) pulse n f is
        (ap (λ x. if is_input x (m.declared n) (m.fixed n) then driven levels n (s n) else s n) is);
    port = λ n in_m is none. drive_settled (m.source n) (m.declared n) (m.fixed n) levels n (s n) (rules.port n in_m is none);
    fixed = λ n value is.
        ap (λ o. if is_input (m.source n) (m.declared n) o then driven levels n (s n) else s n) is
        ∙ drive_fixed (m.source n) (m.declared n) value levels n (s n) ∙ rules.fixed n value is;
  }

  may_settle_port : (k : ℕ) → MaySettle (m.source k) (m.declared k) s → m.source k ≡ APort → IsSome (m.declared k)
  may_settle_port k may is = subst (λ x. MaySettle x (m.declared k) s) is may

  calm_below : (k : ℕ) (v : Tern) → s k ≡ Unsettled → (n : ℕ) → (n ≡ k) ⊎ (n ≡ k → ⊥) → IsBelow (with_value s k v n) (s n)
  calm_below k v x n (inl same) = inr (ap s same ∙ x)
  calm_below k v x n (inr other) = inl (sym (with_value-other s k v n other))

  calm_in_reset : (k : ℕ) → s k ≡ Unsettled → (n : ℕ) (f : FlopMeaning) → m.source n ≡ AFlop f → (n ≡ k) ⊎ (n ≡ k → ⊥)
      → (phase_of f (moved m s (Calm k)) ≡ Inactive → ⊥)
      → (moved m s (Calm k) n ≡ settled f.reset) ⊎ (moved m s (Calm k) n ≡ Unsettled)
  calm_in_reset k x n f is (inl same) held =
      inl (ap (λ j. with_value s k (calm_value (m.source k) (m.declared k) (s k)) j) same
      ∙ with_value-same s k (calm_value (m.source k) (m.declared k) (s k))
      ∙ ap (λ y. calm_value y (m.declared k) (s k)) (sym (ap m.source same) ∙ is))
  calm_in_reset k x n f is (inr other) held =
      let v : Tern = calm_value (m.source k) (m.declared k) (s k) in
      let kept : with_value s k v n ≡ s n = with_value-other s k v n other in
      elim (rules.in_reset n f is (λ free. held (phase_of-below m lawful n f is (with_value s k v) s (λ j. calm_below k v x j (one_of j k)) free))) [
        | inl value ↦ inl (kept ∙ value)
        | inr y ↦ inr (kept ∙ y)
      ]

  calm_rules : (k : ℕ) → IsPossible m s (Calm k) → DisturbsNone m s (Calm k) → MeetsRules m (moved m s (Calm k))
  calm_rules k possible none = record {
    no_pin = λ n f is bare e. none n (record { flop = f; is_flop = is; free = phase_of-none f (moved m s (Calm k)) bare; unsettled = e });
    held = λ n f is e free. none n (record { flop = f; is_flop = is; free = free; unsettled = e });
    in_reset = λ n f is held. calm_in_reset k possible.0 n f is (one_of n k) held;
    port = λ n in_m is bare e. rules.port n in_m is bare
        (sym (with_value-other s k (calm_value (m.source k) (m.declared k) (s k)) n (λ same. undeclared_is_other n is bare same)) ∙ e);
    fixed = λ n value is.
        with_value-other s k (calm_value (m.source k) (m.declared k) (s k)) n (λ same. fixed_is_other n value is same)
        ∙ rules.fixed n value is;
  }
    where
      undeclared_is_other : (n : ℕ) → m.source n ≡ APort → m.declared n ≡ None → n ≡ k → ⊥
      undeclared_is_other n is bare same =
          let high = some_of (m.declared k) (may_settle_port k possible.1 (sym (ap m.source same) ∙ is)) in
          undeclared_other k high.0 high.1 n bare same

      fixed_is_other : (n : ℕ) (value : Bool) → m.fixed n ≡ Some value → n ≡ k → ⊥
      fixed_is_other n value is same =
          let high = some_of (m.declared k) (may_settle_port k possible.1 (sym (ap m.source same) ∙ lawful.ports.fixed n value is)) in
          fixed_other k high.0 high.1 n value is same

  pub rules_step : (e : Event) → IsPermitted m s e → DisturbsNone m s e → MeetsRules m (after m s e)
  rules_step (Rise c) ok none = rules_after_up m lawful _ (edge_ready c true (moved m s (Rise c)) (λ n. refl) ok.pulse none)
  rules_step (Fall c) ok none = rules_after_up m lawful _ (edge_ready c false (moved m s (Fall c)) (λ n. refl) ok.pulse none)
  rules_step (Strike r) ok none = let high = someone (λ high. s r ≡ settled (not high)) (m.declared r) ok.possible in rules_after_up m lawful _ (strike_ready r high.0 high.1)
  rules_step (Calm k) ok none = calm_rules k ok.possible none
  rules_step (Release r) ok none = let high = someone (λ high. s r ≡ settled high) (m.declared r) ok.possible in rules_after_up m lawful _ (release_ready r high.0 _ high.1 ok.pulse)
  rules_step (Drive levels) ok none = rules_after_up m lawful _ (drive_ready levels ok.pulse)

pub rules_along : (m : Machine) → IsMachine m → (s : State) (es : List Event) → MeetsRules m s → Goes m s es → MeetsRules m (state_after m s es)
rules_along m lawful s [] rules goes = rules
rules_along m lawful s (e ∷ es) rules goes = rules_along m lawful (after m s e) es (rules_step m lawful s rules e goes.0 goes.1) goes.2

-- the reset rules hold in every state of an undisturbed run
pub rules_in_run : (m : Machine) → IsMachine m → (s : State) (es : List Event) → IsRun m s es → MeetsRules m (state_after m s es)
rules_in_run m lawful s es run = rules_along m lawful s es (rules_at_power m lawful s run.power) run.goes

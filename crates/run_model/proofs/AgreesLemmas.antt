-- Machines that agree are safe alike.
use Rattle.std.proofs.Common.{◌≡◌, ℕ, ◌<◌, Bool, true, false, not, ◌&&◌, IsSome, IsSomeAnd, if◌then◌else◌, List, [], ◌∷◌, Option, Some, None, refl, sym, ap, ◌∙◌, subst}
use mathlib.Core.Path.{fun_ext}
use Rattle.rdc_tern.specs.declared.value.Tern.{Tern}
use Rattle.run_model.specs.declared.event.Event.{Event}
use Rattle.run_model.specs.declared.event.Event.TheVariants.{Rise, Fall, Strike, Calm, Release, Drive}
use Rattle.run_model.specs.State.{State, settled, with_value}
use Rattle.run_model.specs.Machine.{Pin, FlopMeaning, Meaning, APort, AFlop, Machine, phase_at, pin_phase, phase_of}
use Rattle.run_model.specs.Up.{lifted, up_value, swept, up}
use Rattle.run_model.specs.Event.{is_clock, is_edge, is_clocked, taken, edge_value, calm_value, release_value, is_input, driven, moved, after}
use Rattle.run_model.specs.Permitted.{MaySettle, IsPossible, LeavesNone, MeetsPulse, IsPermitted}
use Rattle.run_model.specs.Disturbed.{TakesUnsettled, IsLeft, Disturbs}
use Rattle.run_model.specs.Run.{IsPowerUp, state_after, Goes}
use Rattle.run_model.specs.Safe.{IsSafe}
use Rattle.run_model.specs.Laws.{IsMachine}
use Rattle.run_model.specs.Statements.{AgreeingIsSafe}
use Rattle.run_model.proofs.Sweep.{up-equation, up-unique}
use Rattle.run_model.specs.Agrees.{SamePin, SameFlop, SameMeaning, Agrees}

same_pin_phase : (o q : Option Pin) → SamePin o q → (s : State) → pin_phase o s ≡ pin_phase q s
same_pin_phase None None same s = refl
same_pin_phase None (Some q) same s = absurd same
same_pin_phase (Some p) None same s = absurd same
same_pin_phase (Some p) (Some q) same s = ap (λ v. phase_at p.high v) (same.0 s) ∙ ap (λ h. phase_at h (q.logic.value s)) same.1

same_phase_of : (f g : FlopMeaning) → SameFlop f g → (s : State) → phase_of f s ≡ phase_of g s
same_phase_of f g same s = same_pin_phase f.pin g.pin same.pin s

sym_pin : (o q : Option Pin) → SamePin o q → SamePin q o
sym_pin None None same = tt
sym_pin None (Some q) same = absurd same
sym_pin (Some p) None same = absurd same
sym_pin (Some p) (Some q) same = (λ s. sym (same.0 s), sym same.1)

sym_meaning : (x y : Meaning) → SameMeaning x y → SameMeaning y x
sym_meaning APort APort same = tt
sym_meaning APort (AFlop g) same = absurd same
sym_meaning (AFlop f) APort same = absurd same
sym_meaning (AFlop f) (AFlop g) same = record {
  clock = sym same.clock;
  rising = sym same.rising;
  reads = λ s. sym (same.reads s);
  pin = sym_pin f.pin g.pin same.pin;
  reset = sym same.reset;
}

sym_agrees : (m k : Machine) → Agrees m k → Agrees k m
sym_agrees m k a = record {
  count = sym a.count;
  source = λ n. sym_meaning (m.source n) (k.source n) (a.source n);
  declared = λ n. sym (a.declared n);
  fixed = λ n. sym (a.fixed n);
}

same_up_value : (x y : Meaning) → SameMeaning x y → (s : State) (v : Tern) → up_value x s v ≡ up_value y s v
same_up_value APort APort same s v = refl
same_up_value APort (AFlop g) same s v = absurd same
same_up_value (AFlop f) APort same s v = absurd same
same_up_value (AFlop f) (AFlop g) same s v = ap (λ r. lifted r (phase_of f s) v) same.reset ∙ ap (λ p. lifted g.reset p v) (same_phase_of f g same s)

same_clocked : (f g : FlopMeaning) → SameFlop f g → (c : ℕ) (rising : Bool) → is_clocked f c rising ≡ is_clocked g c rising
same_clocked f g same c rising = ap (λ o. is_clock o c && is_edge f.rising rising) same.clock ∙ ap (λ r. is_clock g.clock c && is_edge r rising) same.rising

same_edge_value : (x y : Meaning) → SameMeaning x y → (c : ℕ) (rising : Bool) (s : State) (v : Tern) → edge_value x c rising s v ≡ edge_value y c rising s v
same_edge_value APort APort same c rising s v = refl
same_edge_value APort (AFlop g) same c rising s v = absurd same
same_edge_value (AFlop f) APort same c rising s v = absurd same
same_edge_value (AFlop f) (AFlop g) same c rising s v =
    ap (λ b. if b then taken (phase_of f s) v (f.reads.value s) else v) (same_clocked f g same c rising)
    ∙ ap (λ p. if is_clocked g c rising then taken p v (f.reads.value s) else v) (same_phase_of f g same s)
    ∙ ap (λ d. if is_clocked g c rising then taken (phase_of g s) v d else v) (same.reads s)

same_calm_value : (x y : Meaning) → SameMeaning x y → (d : Option Bool) (v : Tern) → calm_value x d v ≡ calm_value y d v
same_calm_value APort APort same d v = refl
same_calm_value APort (AFlop g) same d v = absurd same
same_calm_value (AFlop f) APort same d v = absurd same
same_calm_value (AFlop f) (AFlop g) same d v = ap settled same.reset

same_input : (x y : Meaning) → SameMeaning x y → (d e : Option Bool) → is_input x d e ≡ is_input y d e
same_input APort APort same d e = refl
same_input APort (AFlop g) same d e = absurd same
same_input (AFlop f) APort same d e = absurd same
same_input (AFlop f) (AFlop g) same d e = refl

same_may_settle : (x y : Meaning) → SameMeaning x y → (d e : Option Bool) → d ≡ e → (s : State) → MaySettle x d s → MaySettle y e s
same_may_settle APort APort same d e q s may = subst (λ o. IsSome o) q may
same_may_settle APort (AFlop g) same d e q s may = absurd same
same_may_settle (AFlop f) APort same d e q s may = absurd same
same_may_settle (AFlop f) (AFlop g) same d e q s may = sym (same_phase_of f g same s) ∙ may

same_swept : (rule : Meaning → State → Tern → Tern) (x y : ℕ → Meaning) → ((n : ℕ) (s : State) (v : Tern) → rule (x n) s v ≡ rule (y n) s v)
    → (ns : List ℕ) (s : State) → swept rule x ns s ≡ swept rule y ns s
same_swept rule x y same [] s = refl
same_swept rule x y same (n ∷ ns) s =
    same_swept rule x y same ns (with_value s n (rule (x n) s (s n)))
    ∙ ap (λ v. swept rule y ns (with_value s n v)) (same n s (s n))

-- machines that agree, and on which resets act alike
record Alike (m k : Machine) : Type 0 where
  agrees : Agrees m k
  ups : (s : State) → up m s ≡ up k s

sym_alike : (m k : Machine) → Alike m k → Alike k m
sym_alike m k a = record { agrees = sym_agrees m k a.agrees; ups = λ s. sym (a.ups s) }

module _ (m k : Machine) (a : Alike m k) where
  same_moved : (s : State) (e : Event) → moved m s e ≡ moved k s e
  same_moved s (Rise c) = fun_ext (λ n. same_edge_value (m.source n) (k.source n) (a.agrees.source n) c true s (s n))
  same_moved s (Fall c) = fun_ext (λ n. same_edge_value (m.source n) (k.source n) (a.agrees.source n) c false s (s n))
  same_moved s (Strike r) = refl
  same_moved s (Calm j) =
      ap (λ d. with_value s j (calm_value (m.source j) d (s j))) (a.agrees.declared j)
      ∙ ap (λ v. with_value s j v) (same_calm_value (m.source j) (k.source j) (a.agrees.source j) (k.declared j) (s j))
  same_moved s (Release r) = ap (λ d. with_value s r (release_value d (s r))) (a.agrees.declared r)
  same_moved s (Drive levels) = fun_ext (λ n. ap (λ b. if b then driven levels n (s n) else s n)
      (ap (λ d. is_input (m.source n) d (m.fixed n)) (a.agrees.declared n)
      ∙ ap (λ f. is_input (m.source n) (k.declared n) f) (a.agrees.fixed n)
      ∙ same_input (m.source n) (k.source n) (a.agrees.source n) (k.declared n) (k.fixed n)))

  up_moved : (s : State) (e : Event) → up m (moved m s e) ≡ up k (moved k s e)
  up_moved s e = a.ups (moved m s e) ∙ ap (λ t. up k t) (same_moved s e)

  same_after : (s : State) (e : Event) → after m s e ≡ after k s e
  same_after s (Rise c) = up_moved s (Rise c)
  same_after s (Fall c) = up_moved s (Fall c)
  same_after s (Strike r) = up_moved s (Strike r)
  same_after s (Calm j) = same_moved s (Calm j)
  same_after s (Release r) = up_moved s (Release r)
  same_after s (Drive levels) = up_moved s (Drive levels)

  same_state_after : (s : State) (es : List Event) → state_after m s es ≡ state_after k s es
  same_state_after s [] = refl
  same_state_after s (e ∷ es) = same_state_after (after m s e) es ∙ ap (λ t. state_after k t es) (same_after s e)

  same_possible : (s : State) (e : Event) → IsPossible m s e → IsPossible k s e
  same_possible s (Rise c) possible = tt
  same_possible s (Fall c) possible = tt
  same_possible s (Strike r) possible = subst (λ d. IsSomeAnd d (λ high. s r ≡ settled (not high))) (a.agrees.declared r) possible
  same_possible s (Calm j) possible = (possible.0, same_may_settle (m.source j) (k.source j) (a.agrees.source j) (m.declared j) (k.declared j) (a.agrees.declared j) s possible.1)
  same_possible s (Release r) possible = subst (λ d. IsSomeAnd d (λ high. s r ≡ settled high)) (a.agrees.declared r) possible
  same_possible s (Drive levels) possible = tt

-- the flop of the one machine is a flop of the other
found : (x : Meaning) (g : FlopMeaning) → SameMeaning x (AFlop g) → (f : FlopMeaning) × (x ≡ AFlop f) × SameFlop f g
found APort g same = absurd same
found (AFlop f) g same = (f, refl, same)

flop_in : (m k : Machine) → Alike m k → (n : ℕ) (g : FlopMeaning) → k.source n ≡ AFlop g → (f : FlopMeaning) × (m.source n ≡ AFlop f) × SameFlop f g
flop_in m k a n g is = found (m.source n) g (subst (λ y. SameMeaning (m.source n) y) is (a.agrees.source n))

same_leaves : (m k : Machine) → Alike m k → (s t : State) → LeavesNone m s t → LeavesNone k s t
same_leaves m k a s t leaves n g is held x free =
    let f = flop_in m k a n g is in
    leaves n f.0 f.1 (λ e. held (sym (same_phase_of f.0 g f.2 s) ∙ e)) x (same_phase_of f.0 g f.2 t ∙ free)

same_power : (m k : Machine) → Alike m k → (s : State) → IsPowerUp m s → IsPowerUp k s
same_power m k a s power = record {
  no_x = λ n in_k. power.no_x n (subst (λ c. n < c) (sym a.agrees.count) in_k);
  asserted = λ n high is. power.asserted n high (a.agrees.declared n ∙ is);
  fixed = λ n value is. power.fixed n value (a.agrees.fixed n ∙ is);
  reset = λ n g is active.
      let f = flop_in m k a n g is in
      power.reset n f.0 f.1 (same_phase_of f.0 g f.2 s ∙ active) ∙ ap settled f.2.reset;
  lines = tt;
}

same_takes : (m k : Machine) → Alike m k → (s : State) (c : ℕ) (rising : Bool) (n : ℕ) → TakesUnsettled k s c rising n → TakesUnsettled m s c rising n
same_takes m k a s c rising n takes =
    let f = flop_in m k a n takes.flop takes.is_flop in
    record {
      flop = f.0;
      is_flop = f.1;
      clocked = same_clocked f.0 takes.flop f.2 c rising ∙ takes.clocked;
      free = same_phase_of f.0 takes.flop f.2 s ∙ takes.free;
      unsettled = f.2.reads s ∙ takes.unsettled;
    }

same_left : (m k : Machine) → Alike m k → (s : State) (n : ℕ) → IsLeft k s n → IsLeft m s n
same_left m k a s n left =
    let f = flop_in m k a n left.flop left.is_flop in
    record { flop = f.0; is_flop = f.1; free = same_phase_of f.0 left.flop f.2 s ∙ left.free; unsettled = left.unsettled }

same_disturbs : (m k : Machine) → Alike m k → (s : State) (e : Event) (n : ℕ) → Disturbs k s e n → Disturbs m s e n
same_disturbs m k a s (Rise c) n d = same_takes m k a s c true n d
same_disturbs m k a s (Fall c) n d = same_takes m k a s c false n d
same_disturbs m k a s (Strike r) n d = d
same_disturbs m k a s (Calm j) n d = same_left m k a (moved m s (Calm j)) n (subst (λ t. IsLeft k t n) (sym (same_moved m k a s (Calm j))) d)
same_disturbs m k a s (Release r) n d = d
same_disturbs m k a s (Drive levels) n d = d

leaves_after : (m k : Machine) → Alike m k → (s : State) (e : Event) → LeavesNone m s (after m s e) → LeavesNone k s (after k s e)
leaves_after m k a s e leaves = subst (λ t. LeavesNone k s t) (same_after m k a s e) (same_leaves m k a s (after m s e) leaves)

same_pulse : (m k : Machine) → Alike m k → (s : State) (e : Event) → MeetsPulse m s e → MeetsPulse k s e
same_pulse m k a s (Rise c) pulse = leaves_after m k a s (Rise c) pulse
same_pulse m k a s (Fall c) pulse = leaves_after m k a s (Fall c) pulse
same_pulse m k a s (Strike r) pulse = tt
same_pulse m k a s (Calm j) pulse = tt
same_pulse m k a s (Release r) pulse = leaves_after m k a s (Release r) pulse
same_pulse m k a s (Drive levels) pulse = leaves_after m k a s (Drive levels) pulse

same_permitted : (m k : Machine) → Alike m k → (s : State) (e : Event) → IsPermitted m s e → IsPermitted k s e
same_permitted m k a s e ok = record { possible = same_possible m k a s e ok.possible; lines = tt; pulse = same_pulse m k a s e ok.pulse }

same_goes : (m k : Machine) → Alike m k → (s : State) (es : List Event) → Goes m s es → Goes k s es
same_goes m k a s [] goes = tt
same_goes m k a s (e ∷ es) goes = (
  same_permitted m k a s e goes.0,
  λ n d. goes.1 n (same_disturbs m k a s e n d),
  subst (λ t. Goes k t es) (same_after m k a s e) (same_goes m k a (after m s e) es goes.2),
)

alike_safe : (m k : Machine) → Alike m k → IsSafe m → IsSafe k
alike_safe m k a safe s es run e possible n d =
    let b = sym_alike m k a in
    let back : state_after k s es ≡ state_after m s es = same_state_after k m b s es in
    safe s es (record { power = same_power k m b s run.power; goes = same_goes k m b s es run.goes }) e
    (subst (λ t. IsPossible m t e) back (same_possible k m b (state_after k s es) e possible))
    n (subst (λ t. Disturbs m t e n) back (same_disturbs m k a (state_after k s es) e n d))

one_order : (m k : Machine) → Agrees m k → m.order ≡ k.order → (s : State) → up m s ≡ up k s
one_order m k a order s =
    same_swept up_value m.source k.source (λ n. same_up_value (m.source n) (k.source n) (a.source n)) m.order s
    ∙ ap (λ ns. swept up_value k.source ns s) order

-- the one machine's solution is the other's
any_order : (m k : Machine) → Agrees m k → IsMachine m → IsMachine k → (s : State) → up m s ≡ up k s
any_order m k a lawful also s =
    fun_ext (up-unique k also s (up m s) (up k s)
    (λ n. up-equation m lawful s n ∙ same_up_value (m.source n) (k.source n) (a.source n) (up m s) (s n))
    (up-equation k also s))

pub agreeing_safe : AgreeingIsSafe
agreeing_safe = record {
  one_order = λ m k a order. alike_safe m k (record { agrees = a; ups = one_order m k a order });
  any_order = λ m k a lawful also. alike_safe m k (record { agrees = a; ups = any_order m k a lawful also });
}

-- The answers of a step are right.
use Rattle.std.proofs.Common.{◌≡◌, ℕ, Bool, true, false, ◌&&◌, IsTrue, List, [], ◌∷◌, Option, Some, None, refl, sym, inl, inr, ap, ◌∙◌, subst, arith, ne_eqb}
use mathlib.Core.Path.{fun_ext}
use Rattle.rdc_tern.specs.declared.value.Tern.{Tern}
use Rattle.rdc_tern.specs.declared.value.Tern.TheVariants.{Zero, One, Unsettled}
use Rattle.run_model.specs.declared.event.Event.{Event}
use Rattle.run_model.specs.declared.event.Event.TheVariants.{Rise, Fall, Calm, Drive}
use Rattle.run_model.specs.declared.answer.Stepped.{Stepped}
use Rattle.run_model.specs.declared.answer.Stepped.TheVariants.{Done}
use Rattle.run_model.specs.State.{State, settled, with_value}
use Rattle.run_model.specs.Machine.{FlopMeaning, Meaning, APort, AFlop, Machine, Phase, Inactive, Active, Unsure, phase_of}
use Rattle.run_model.specs.Laws.{ListsFlops}
use Rattle.run_model.specs.Up.{up_value, swept, up}
use Rattle.run_model.specs.Event.{is_clocked, edge_value, calm_value, is_input, driven, moved, after}
use Rattle.run_model.specs.Permitted.{IsPossible}
use Rattle.run_model.specs.Disturbed.{TakesUnsettled, IsLeft, Disturbs}
use Rattle.run_model.specs.Passes.{written, is_unsettled, is_inactive, takes_unsettled, is_left, least_of, answer_of, edge_of}
use Rattle.run_model.specs.Step.{DrivesInputs, Steps}
use Rattle.std.proofs.lemmas.List.Elements.{All-head, All-tail}
use Rattle.std.specs.Prelude.{All, if◌then◌else◌}
use Rattle.run_model.proofs.Passed.{written-whole, unlisted_port, least_none, least_some}

and_true : (a b : Bool) → IsTrue (a && b) → IsTrue a × IsTrue b
and_true true b h = (refl, h)
and_true false b h = absurd (cc)

inactive_true : (p : Phase) → IsTrue (is_inactive p) → p ≡ Inactive
inactive_true Inactive h = refl
inactive_true Active h = absurd (cc)
inactive_true Unsure h = absurd (cc)

unsettled_true : (v : Tern) → IsTrue (is_unsettled v) → v ≡ Unsettled
unsettled_true Zero h = absurd (cc)
unsettled_true One h = absurd (cc)
unsettled_true Unsettled h = refl

-- the test of an edge is what the definition says
taking : (m : Machine) (s : State) (c : ℕ) (rising : Bool) (n : ℕ) (x : Meaning) → m.source n ≡ x → IsTrue (takes_unsettled x c rising s) → TakesUnsettled m s c rising n
taking m s c rising n APort is h = absurd (cc)
taking m s c rising n (AFlop f) is h =
    let both = and_true (is_clocked f c rising && is_inactive (phase_of f s)) (is_unsettled (f.reads.value s)) h in
    let first = and_true (is_clocked f c rising) (is_inactive (phase_of f s)) both.0 in
    record { flop = f; is_flop = is; clocked = first.0; free = inactive_true (phase_of f s) first.1; unsettled = unsettled_true (f.reads.value s) both.1 }

taken_test : (m : Machine) (s : State) (c : ℕ) (rising : Bool) (n : ℕ) → TakesUnsettled m s c rising n → IsTrue (takes_unsettled (m.source n) c rising s)
taken_test m s c rising n takes =
    ap (λ x. takes_unsettled x c rising s) takes.is_flop
    ∙ ap (λ b. b && is_inactive (phase_of takes.flop s) && is_unsettled (takes.flop.reads.value s)) takes.clocked
    ∙ ap (λ p. is_inactive p && is_unsettled (takes.flop.reads.value s)) takes.free
    ∙ ap is_unsettled takes.unsettled

-- and so is that of a Calm
leaving : (m : Machine) (t : State) (n : ℕ) (x : Meaning) → m.source n ≡ x → IsTrue (is_left x t (t n)) → IsLeft m t n
leaving m t n APort is h = absurd (cc)
leaving m t n (AFlop f) is h =
    let both = and_true (is_inactive (phase_of f t)) (is_unsettled (t n)) h in
    record { flop = f; is_flop = is; free = inactive_true (phase_of f t) both.0; unsettled = unsettled_true (t n) both.1 }

left_test : (m : Machine) (t : State) (n : ℕ) → IsLeft m t n → IsTrue (is_left (m.source n) t (t n))
left_test m t n left =
    ap (λ x. is_left x t (t n)) left.is_flop
    ∙ ap (λ p. is_inactive p && is_unsettled (t n)) left.free
    ∙ ap is_unsettled left.unsettled

-- the answer by the least flop of the order that passes the test
by_least : (m : Machine) → ListsFlops m.source m.order → (s : State) (e : Event) (test : ℕ → Bool)
    → ((n : ℕ) → IsTrue (test n) → Disturbs m s e n) → ((n : ℕ) → Disturbs m s e n → IsTrue (test n)) → ((n : ℕ) → Disturbs m s e n → (f : FlopMeaning) × (m.source n ≡ AFlop f))
    → IsPossible m s e → (t : State) → t ≡ after m s e → (r : Option ℕ) → least_of test m.order None ≡ r → Steps m s e (answer_of r) t
by_least m lists s e test sound complete flop possible t is None least =
    let none = least_none test m.order None least in
    (possible, (λ n d. let (f, at_n) = flop n d in none.1 n (lists n f at_n) (complete n d)), is)
by_least m lists s e test sound complete flop possible t is (Some n) least =
    let some = least_some test m.order None n least in (
      possible,
      record {
        disturbs = elim some.found [ inl best ↦ absurd (cc) | inr passes ↦ sound n passes ];
        least = λ k below d. let (f, at_k) = flop k d in let low = some.under k (lists k f at_k) (complete k d) in omega arith;
      },
      is,
    )

-- a pass over the clocked flops moves the state as the edge does
edge_moved : (m : Machine) → ListsFlops m.source m.order → (s : State) (c : ℕ) (rising : Bool)
    → written (λ n. edge_value (m.source n) c rising s (s n)) m.order s ≡ (λ n. edge_value (m.source n) c rising s (s n))
edge_moved m lists s c rising =
    written-whole (λ n. edge_value (m.source n) c rising s (s n)) m.order s
    (λ n out. sym (ap (λ x. edge_value x c rising s (s n)) (unlisted_port m.source m.order lists n out)))

pub edge_steps : (m : Machine) → ListsFlops m.source m.order → (s : State) (c : ℕ) (rising : Bool) (r : Option ℕ) (answer : Stepped) (t : State)
    → r ≡ least_of (λ n. takes_unsettled (m.source n) c rising s) m.order None → answer ≡ answer_of r
    → t ≡ swept up_value m.source m.order (written (λ n. edge_value (m.source n) c rising s (s n)) m.order s)
    → Steps m s (edge_of rising c) answer t
edge_steps m lists s c true r answer t least is moves =
    subst (λ a. Steps m s (Rise c) a t) (sym is)
    (by_least m lists s (Rise c) (λ n. takes_unsettled (m.source n) c true s) (λ n h. taking m s c true n (m.source n) refl h) (taken_test m s c true)
    (λ n d. (d.flop, d.is_flop)) tt t (moves ∙ ap (λ u. up m u) (edge_moved m lists s c true)) r (sym least))
edge_steps m lists s c false r answer t least is moves =
    subst (λ a. Steps m s (Fall c) a t) (sym is)
    (by_least m lists s (Fall c) (λ n. takes_unsettled (m.source n) c false s) (λ n h. taking m s c false n (m.source n) refl h) (taken_test m s c false)
    (λ n d. (d.flop, d.is_flop)) tt t (moves ∙ ap (λ u. up m u) (edge_moved m lists s c false)) r (sym least))

pub calm_steps : (m : Machine) → ListsFlops m.source m.order → (s : State) (k : ℕ) (r : Option ℕ) (answer : Stepped) (t : State) (v : Tern)
    → IsPossible m s (Calm k) → v ≡ calm_value (m.source k) (m.declared k) (s k) → t ≡ with_value s k v
    → r ≡ least_of (λ n. is_left (m.source n) t (t n)) m.order None → answer ≡ answer_of r → Steps m s (Calm k) answer t
calm_steps m lists s k r answer t v possible value moves least is =
    let here : t ≡ after m s (Calm k) = moves ∙ ap (λ w. with_value s k w) value in
    subst (λ a. Steps m s (Calm k) a t) (sym is)
    (by_least m lists s (Calm k) (λ n. is_left (m.source n) t (t n))
    (λ n h. subst (λ u. IsLeft m u n) here (leaving m t n (m.source n) refl h))
    (λ n d. left_test m t n (subst (λ u. IsLeft m u n) (sym here) d))
    (λ n d. (d.flop, d.is_flop)) possible t here r (sym least))

-- a list of inputs leaves what is no input
driven-other : (input : ℕ → Bool) (levels : List (ℕ × Bool)) (n : ℕ) (v : Tern) → All (λ x. IsTrue (input x.0)) levels → input n ≡ false → driven levels n v ≡ v
driven-other input [] n v all other = refl
driven-other input (x ∷ xs) n v all other =
    let here : IsTrue (input x.0) = All-head (λ y. IsTrue (input y.0)) x xs all in
    let ne : n ≡ x.0 → ⊥ = λ same. let e : input n ≡ input x.0 = ap input same in cc in
    ap (λ b. driven xs n (if b then settled x.1 else v)) (ne_eqb n x.0 ne) ∙ driven-other input xs n v (All-tail (λ y. IsTrue (input y.0)) x xs all) other

driven_input : (input : ℕ → Bool) (levels : List (ℕ × Bool)) (n : ℕ) (v : Tern) → All (λ x. IsTrue (input x.0)) levels → (b : Bool) → input n ≡ b
    → driven levels n v ≡ (if b then driven levels n v else v)
driven_input input levels n v all true is = refl
driven_input input levels n v all false is = driven-other input levels n v all is

pub drive_steps : (m : Machine) (s t u : State) (levels : List (ℕ × Bool)) → DrivesInputs m (Drive levels) → ((n : ℕ) → u n ≡ driven levels n (s n))
    → t ≡ swept up_value m.source m.order u → Steps m s (Drive levels) Done t
drive_steps m s t u levels inputs sets moves =
    let input : ℕ → Bool = λ n. is_input (m.source n) (m.declared n) (m.fixed n) in
    let same : u ≡ moved m s (Drive levels) = fun_ext (λ n. sets n ∙ driven_input input levels n (s n) inputs (input n) refl) in
    (tt, (λ n d. d), moves ∙ ap (λ w. up m w) same)

-- The example machine is lawful, and its runs.
use Rattle.std.proofs.Common.{◌≡◌, ◌⊎◌, ℕ, ◌<◌, Bool, true, false, ◌==◌, IsTrue, if◌then◌else◌, List, [], ◌∷◌, Contains, Some, None, refl, sym, inl, inr, ap, ◌∙◌, subst, arith, eq-eqb, ne_eqb, eqb-true}
use Rattle.rdc_tern.specs.declared.value.Tern.TheVariants.{Zero, One, Unsettled}
use Rattle.rdc_tern.specs.Kleene.{IsSettled}
use Rattle.run_model.specs.declared.event.Event.TheVariants.{Rise, Fall, Strike, Calm, Release, Drive}
use Rattle.run_model.specs.State.{State, settled}
use Rattle.run_model.specs.Machine.{Pin, FlopMeaning, Meaning, APort, AFlop, Inactive, Active, phase_of}
use Rattle.run_model.specs.Laws.{IsLogic, HasPin, IsPinOrder, ListsFlops, HasNets, HasOwnPorts, IsMachine}
use Rattle.run_model.specs.Event.{after}
use Rattle.run_model.specs.Permitted.{LeavesNone, IsPermitted}
use Rattle.run_model.specs.Disturbed.{TakesUnsettled, IsLeft}
use Rattle.run_model.specs.Run.{IsPowerUp, Goes}
use Rattle.run_model.specs.Example.{wire, plain_flop, example_source, example_declared, example_fixed, example, busy_events, crossing_events, CrossingIsDisturbed}
use Rattle.run_model.specs.Statements.{ExampleRuns}
use Rattle.run_model.proofs.ExampleMachine.{net_agrees}
use Rattle.run_model.proofs.Places.{one_of, contains_here, contains_later, contains_split, contains_none}

abbrev flop_a : FlopMeaning
flop_a = plain_flop 1 3 5

abbrev flop_q : FlopMeaning
flop_q = plain_flop 2 0 6

wire_lawful : (n : ℕ) → n < 7 → IsLogic 7 (wire n)
wire_lawful n below = record {
  within = λ k reads. let same = eqb-true k n reads in omega arith;
  raised = λ s t lower. lower n (eq-eqb n n refl);
  settles = λ s settled. settled n (eq-eqb n n refl);
}

-- a source of the example is a at 0, q at 4, or a port
data Stands : ℕ → Meaning → Type 0 where
  is_a : Stands 0 (AFlop flop_a)
  is_q : Stands 4 (AFlop flop_q)
  is_port : (n : ℕ) → (n ≡ 0 → ⊥) → (n ≡ 4 → ⊥) → Stands n APort

stands : (n : ℕ) → Stands n (example_source n)
stands n = elim (one_of n 0) [
  | inl e ↦ subst (λ j. Stands j (example_source j)) (sym e) is_a
  | inr a ↦ elim (one_of n 4) [
    | inl e ↦ subst (λ j. Stands j (example_source j)) (sym e) is_q
    | inr q ↦ subst (λ x. Stands n x) (sym (rw (ne_eqb n 0 a, ne_eqb n 4 q))) (is_port n a q)
  ]
]

-- what holds of a at 0 and of q at 4 holds of every flop
each_of : (P : ℕ → FlopMeaning → Type 0) → P 0 flop_a → P 4 flop_q → (n : ℕ) (x : Meaning) → Stands n x → (f : FlopMeaning) → x ≡ AFlop f → P n f
each_of P at_a at_q n x is_a f e = let same : flop_a ≡ f = cc in subst (λ g. P 0 g) same at_a
each_of P at_a at_q n x is_q f e = let same : flop_q ≡ f = cc in subst (λ g. P 4 g) same at_q
each_of P at_a at_q n x (is_port k a q) f e = absurd (cc)

each_flop : (P : ℕ → FlopMeaning → Type 0) → P 0 flop_a → P 4 flop_q → (n : ℕ) (f : FlopMeaning) → example.source n ≡ AFlop f → P n f
each_flop P at_a at_q n f is = each_of P at_a at_q n (example_source n) (stands n) f is

abbrev low_pin : ℕ → Pin
low_pin n = record { logic = wire n; high = false; root = n; copied = Some n }

-- what holds of the pins on ra and rb holds of every pin
each_pin : (P : Pin → Type 0) → P (low_pin 5) → P (low_pin 6) → (n : ℕ) (f : FlopMeaning) (p : Pin) → HasPin example n f p → P p
each_pin P five six n f p pin =
    each_flop (λ j g. (q : Pin) → g.pin ≡ Some q → P q)
    (λ q e. let same : low_pin 5 ≡ q = cc in subst P same five)
    (λ q e. let same : low_pin 6 ≡ q = cc in subst P same six)
    n f pin.flop p pin.pin

pin_value : (n : ℕ) (f : FlopMeaning) (p : Pin) → HasPin example n f p → (s : State) → p.logic.value s ≡ s p.root
pin_value = each_pin (λ p. (s : State) → p.logic.value s ≡ s p.root) (λ s. refl) (λ s. refl)

pin_copies : (n : ℕ) (f : FlopMeaning) (p : Pin) → HasPin example n f p → p.copied ≡ Some p.root
pin_copies = each_pin (λ p. p.copied ≡ Some p.root) refl refl

pin_reads : (n : ℕ) (f : FlopMeaning) (p : Pin) → HasPin example n f p → (k : ℕ) → IsTrue (p.logic.cone k) → 4 < k
pin_reads = each_pin (λ p. (k : ℕ) → IsTrue (p.logic.cone k) → 4 < k)
    (λ k e. let same = eqb-true k 5 e in omega arith)
    (λ k e. let same = eqb-true k 6 e in omega arith)

example_order : IsPinOrder example (0 ∷ 4 ∷ [])
example_order = (
  λ f p k pin has reads. let above = pin_reads 0 f p pin k reads in elim (contains_split (4 ∷ []) 0 k has) [
    | inl first ↦ omega arith
    | inr more ↦ elim (contains_split [] 4 k more) [ inl four ↦ omega arith | inr none ↦ contains_none k none ]
  ],
  λ has. elim (contains_split [] 4 0 has) [ inl four ↦ omega arith | inr none ↦ contains_none 0 none ],
  (
    λ f p k pin has reads. let above = pin_reads 4 f p pin k reads in elim (contains_split [] 4 k has) [
      | inl four ↦ omega arith
      | inr none ↦ contains_none k none
    ],
    contains_none 4,
    tt,
  ),
)

-- the declared ports are ra and rb, the fixed ones ca and cb
declared_at : (n : ℕ) (high : Bool) → example_declared n ≡ Some high → (n ≡ 5) ⊎ (n ≡ 6)
declared_at n high e = elim (one_of n 5) [
  | inl same ↦ inl same
  | inr other ↦ elim (one_of n 6) [
    | inl same ↦ inr same
    | inr more ↦ let none : example_declared n ≡ None = rw (ne_eqb n 5 other, ne_eqb n 6 more) refl in absurd (cc)
  ]
]

fixed_at : (n : ℕ) (value : Bool) → example_fixed n ≡ Some value → (n ≡ 1) ⊎ (n ≡ 2)
fixed_at n value e = elim (one_of n 1) [
  | inl same ↦ inl same
  | inr other ↦ elim (one_of n 2) [
    | inl same ↦ inr same
    | inr more ↦ let none : example_fixed n ≡ None = rw (ne_eqb n 1 other, ne_eqb n 2 more) refl in absurd (cc)
  ]
]

example_nets : HasNets example
example_nets = record {
  within = each_flop (λ n f. n < 7) (omega arith) (omega arith);
  reads = each_flop (λ n f. IsLogic 7 f.reads) (wire_lawful 3 (omega arith)) (wire_lawful 0 (omega arith));
  pins = each_pin (λ p. IsLogic 7 p.logic) (wire_lawful 5 (omega arith)) (wire_lawful 6 (omega arith));
  one_root = λ n k f g p q at_n at_k same s. pin_value n f p at_n s ∙ ap s same ∙ sym (pin_value k g q at_k s);
  copies = λ n f p k pin copied s. let e = pin_copies n f p pin in let same : p.root ≡ k = cc in pin_value n f p pin s ∙ ap s same;
}

example_listed : ListsFlops example_source (0 ∷ 4 ∷ [])
example_listed = each_flop (λ n f. Contains (0 ∷ 4 ∷ []) n) (contains_here (4 ∷ []) 0) (contains_later (4 ∷ []) 0 4 (contains_here [] 4))

example_ports : HasOwnPorts example
example_ports = record {
  declared = λ n high e. elim (declared_at n high e) [
    | inl same ↦ subst (λ j. example_source j ≡ APort) (sym same) refl
    | inr same ↦ subst (λ j. example_source j ≡ APort) (sym same) refl
  ];
  free = λ n high e. elim (declared_at n high e) [
    | inl same ↦ subst (λ j. example_fixed j ≡ None) (sym same) refl
    | inr same ↦ subst (λ j. example_fixed j ≡ None) (sym same) refl
  ];
  fixed = λ n value e. elim (fixed_at n value e) [
    | inl same ↦ subst (λ j. example_source j ≡ APort) (sym same) refl
    | inr same ↦ subst (λ j. example_source j ≡ APort) (sym same) refl
  ];
}

example_lawful : IsMachine example
example_lawful = record { nets = example_nets; order = record { pins = example_order; listed = example_listed }; ports = example_ports }

-- both resets are asserted, d is 1, anything else is 0
abbrev start : State
start n = if n == 3 then One else Zero

start_settled : (b : Bool) → IsSettled (if b then One else Zero)
start_settled true = λ e. cc
start_settled false = λ e. cc

asserted_low : (n : ℕ) (high : Bool) (e : example_declared n ≡ Some high) → (n ≡ 5) ⊎ (n ≡ 6) → start n ≡ settled high
asserted_low n high e (inl same) =
    let level : example_declared 5 ≡ Some high = sym (ap example_declared same) ∙ e in
    let low : false ≡ high = cc in subst (λ j. start j ≡ settled high) (sym same) (ap settled low)
asserted_low n high e (inr same) =
    let level : example_declared 6 ≡ Some high = sym (ap example_declared same) ∙ e in
    let low : false ≡ high = cc in subst (λ j. start j ≡ settled high) (sym same) (ap settled low)

fixed_low : (n : ℕ) (value : Bool) (e : example_fixed n ≡ Some value) → (n ≡ 1) ⊎ (n ≡ 2) → start n ≡ settled value
fixed_low n value e (inl same) =
    let level : example_fixed 1 ≡ Some value = sym (ap example_fixed same) ∙ e in
    let low : false ≡ value = cc in subst (λ j. start j ≡ settled value) (sym same) (ap settled low)
fixed_low n value e (inr same) =
    let level : example_fixed 2 ≡ Some value = sym (ap example_fixed same) ∙ e in
    let low : false ≡ value = cc in subst (λ j. start j ≡ settled value) (sym same) (ap settled low)

start_powers : IsPowerUp example start
start_powers = record {
  no_x = λ n in_m. start_settled (n == 3);
  asserted = λ n high e. asserted_low n high e (declared_at n high e);
  fixed = λ n value e. fixed_low n value e (fixed_at n value e);
  reset = each_flop (λ n f. phase_of f start ≡ Active → start n ≡ settled f.reset) (λ active. refl) (λ active. refl);
  lines = tt;
}

leaves_both : (s t : State) → (t 0 ≡ Unsettled → phase_of flop_a t ≡ Inactive → ⊥) → (t 4 ≡ Unsettled → phase_of flop_q t ≡ Inactive → ⊥) → LeavesNone example s t
leaves_both s t at_a at_q = each_flop (λ n f. (phase_of f s ≡ Inactive → ⊥) → t n ≡ Unsettled → phase_of f t ≡ Inactive → ⊥) (λ h. at_a) (λ h. at_q)

none_taken : (s : State) (c : ℕ) (rising : Bool) → (s 3 ≡ Unsettled → ⊥) → (s 0 ≡ Unsettled → ⊥) → (n : ℕ) → TakesUnsettled example s c rising n → ⊥
none_taken s c rising d a n takes = each_flop (λ j f. f.reads.value s ≡ Unsettled → ⊥) d a n takes.flop takes.is_flop takes.unsettled

none_left : (t : State) → (phase_of flop_a t ≡ Inactive → t 0 ≡ Unsettled → ⊥) → (phase_of flop_q t ≡ Inactive → t 4 ≡ Unsettled → ⊥) → (n : ℕ) → IsLeft example t n → ⊥
none_left t at_a at_q n left = each_flop (λ j f. phase_of f t ≡ Inactive → t j ≡ Unsettled → ⊥) at_a at_q n left.flop left.is_flop left.free left.unsettled

-- the busy run, state by state
abbrev released : State
released = after example start (Release 5)

abbrev clocked : State
clocked = after example released (Rise 1)

abbrev fallen : State
fallen = after example clocked (Fall 1)

abbrev struck : State
struck = after example fallen (Strike 5)

abbrev port_calm : State
port_calm = after example struck (Calm 5)

abbrev calm : State
calm = after example port_calm (Calm 0)

do_release : IsPermitted example start (Release 5)
do_release = record { possible = refl; lines = tt; pulse = leaves_both start released (λ e free. cc) (λ e free. cc) }

do_rise : IsPermitted example released (Rise 1)
do_rise = record { possible = tt; lines = tt; pulse = leaves_both released clocked (λ e free. cc) (λ e free. cc) }

do_fall : IsPermitted example clocked (Fall 1)
do_fall = record { possible = tt; lines = tt; pulse = leaves_both clocked fallen (λ e free. cc) (λ e free. cc) }

do_strike : IsPermitted example fallen (Strike 5)
do_strike = record { possible = refl; lines = tt; pulse = tt }

do_calm_port : IsPermitted example struck (Calm 5)
do_calm_port = record { possible = (refl, refl); lines = tt; pulse = tt }

do_calm : IsPermitted example port_calm (Calm 0)
do_calm = record { possible = (refl, refl); lines = tt; pulse = tt }

do_drive : (levels : List (ℕ × Bool)) → IsPermitted example calm (Drive levels)
do_drive levels = record { possible = tt; lines = tt; pulse = leaves_both calm (after example calm (Drive levels)) (λ e free. cc) (λ e free. cc) }

busy : (levels : List (ℕ × Bool)) → Goes example start (busy_events levels)
busy levels = (
  do_release,
  λ n d. d,
  (
    do_rise,
    none_taken released 1 true (λ e. cc) (λ e. cc),
    (
      do_fall,
      none_taken clocked 1 false (λ e. cc) (λ e. cc),
      (
        do_strike,
        λ n d. d,
        (
          do_calm_port,
          none_left port_calm (λ free e. cc) (λ free e. cc),
          (
            do_calm,
            none_left calm (λ free e. cc) (λ free e. cc),
            (do_drive levels, λ n d. d, tt),
          ),
        ),
      ),
    ),
  ),
)

-- the crossing run, state by state
abbrev both_released : State
both_released = after example released (Release 6)

abbrev loaded : State
loaded = after example both_released (Rise 1)

abbrev hit : State
hit = after example loaded (Strike 5)

do_release_both : IsPermitted example released (Release 6)
do_release_both = record { possible = refl; lines = tt; pulse = leaves_both released both_released (λ e free. cc) (λ e free. cc) }

do_load : IsPermitted example both_released (Rise 1)
do_load = record { possible = tt; lines = tt; pulse = leaves_both both_released loaded (λ e free. cc) (λ e free. cc) }

do_hit : IsPermitted example loaded (Strike 5)
do_hit = record { possible = refl; lines = tt; pulse = tt }

crossing : CrossingIsDisturbed
crossing = record {
  start = start;
  run = record {
    power = start_powers;
    goes = (do_release, λ n d. d, (do_release_both, λ n d. d, (do_load, none_taken both_released 1 true (λ e. cc) (λ e. cc), (do_hit, λ n d. d, tt))));
  };
  possible = tt;
  disturbed = record { flop = flop_q; is_flop = refl; clocked = refl; free = refl; unsettled = refl };
}

pub example_proved : ExampleRuns
example_proved = record {
  net = net_agrees;
  lawful = example_lawful;
  every_kind = λ levels. (start, record { power = start_powers; goes = busy levels });
  crossing = crossing;
  unsafe = λ safe. safe crossing.start crossing_events crossing.run (Rise 2) crossing.possible 4 crossing.disturbed;
}

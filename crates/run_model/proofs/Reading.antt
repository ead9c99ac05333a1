-- What is read of one flop is what the definitions say of its source.
use Rattle.std.proofs.Common.{◌≡◌, ℕ, Bool, true, ◌&&◌, if◌then◌else◌, Option, sym, ap, ◌∙◌, subst}
use Rattle.rdc_tern.specs.declared.value.Tern.{Tern}
use Rattle.run_model.specs.State.{State, settled}
use Rattle.run_model.specs.Machine.{FlopMeaning, Meaning, AFlop, Phase, Active, phase_of}
use Rattle.run_model.specs.Event.{is_clocked, taken, edge_value, calm_value}
use Rattle.run_model.specs.Permitted.{MaySettle}
use Rattle.run_model.specs.Passes.{is_unsettled, is_inactive, takes_unsettled, is_left}

pub edge_value-clocked : (x : Meaning) (f : FlopMeaning) → x ≡ AFlop f → (c : ℕ) (rising : Bool) (s : State) (v : Tern) → is_clocked f c rising ≡ true
    → (p : Phase) (d r : Tern) → p ≡ phase_of f s → d ≡ f.reads.value s → r ≡ taken p v d → r ≡ edge_value x c rising s v
edge_value-clocked x f is c rising s v clocked p d r at_p at_d at_r =
    at_r
    ∙ ap (λ q. taken q v d) at_p
    ∙ ap (λ e. taken (phase_of f s) v e) at_d
    ∙ sym (ap (λ y. edge_value y c rising s v) is ∙ ap (λ b. if b then taken (phase_of f s) v (f.reads.value s) else v) clocked)

pub takes_unsettled-clocked : (x : Meaning) (f : FlopMeaning) → x ≡ AFlop f → (c : ℕ) (rising : Bool) (s : State) → is_clocked f c rising ≡ true
    → (p : Phase) (d : Tern) (r : Bool) → p ≡ phase_of f s → d ≡ f.reads.value s → r ≡ (is_inactive p && is_unsettled d) → r ≡ takes_unsettled x c rising s
takes_unsettled-clocked x f is c rising s clocked p d r at_p at_d at_r =
    at_r
    ∙ ap (λ q. is_inactive q && is_unsettled d) at_p
    ∙ ap (λ e. is_inactive (phase_of f s) && is_unsettled e) at_d
    ∙ sym (ap (λ y. takes_unsettled y c rising s) is ∙ ap (λ b. b && is_inactive (phase_of f s) && is_unsettled (f.reads.value s)) clocked)

pub is_left-flop : (x : Meaning) (f : FlopMeaning) → x ≡ AFlop f → (s : State) (v : Tern) (p : Phase) (r : Bool) → p ≡ phase_of f s
    → r ≡ (is_inactive p && is_unsettled v) → r ≡ is_left x s v
is_left-flop x f is s v p r at_p at_r =
    at_r ∙ ap (λ q. is_inactive q && is_unsettled v) at_p ∙ sym (ap (λ y. is_left y s v) is)

-- a flop settles exactly where its pin is active
pub flop_settles : (x : Meaning) (f : FlopMeaning) → x ≡ AFlop f → (d : Option Bool) (s : State) (v r : Tern) (p : Phase) → p ≡ phase_of f s → p ≡ Active → r ≡ settled f.reset
    → MaySettle x d s × (r ≡ calm_value x d v)
flop_settles x f is d s v r p at_p active reset =
    subst (λ y. MaySettle y d s × (r ≡ calm_value y d v)) (sym is) (sym at_p ∙ active, reset)

pub flop_stays : (x : Meaning) (f : FlopMeaning) → x ≡ AFlop f → (d : Option Bool) (s : State) (p q : Phase) → p ≡ phase_of f s → p ≡ q → (q ≡ Active → ⊥) → MaySettle x d s → ⊥
flop_stays x f is d s p q at_p now other may = let active : phase_of f s ≡ Active = subst (λ y. MaySettle y d s) is may in other (sym now ∙ at_p ∙ active)

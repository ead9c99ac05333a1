-- What lines are, from what their names are.
use Rattle.std.proofs.Common.{◌≡◌, ◌≢◌, ℕ, zero, suc, None, Result, Ok, Err, List, [], ◌∷◌, ◌++◌, Contains, All, Vec, Global, sym, subst, inr, arith}
use Rattle.std.specs.Prelude.{MatchResult}
use Rattle.net_view.specs.FlopNet.{FindsBit}
use Rattle.net_view.specs.Cone.{Lists}
use Rattle.cons_bind.specs.Names.{Net, IsFlopBit, IsBitOf}
use Rattle.cons_bind.specs.Meaning.{AreFlops, IsNoFlop, Tracks, TrackFails}
use Rattle.cons_bind.specs.Causes.{OnCause}
use Rattle.cons_bind.specs.declared.cause.Cause.{Cause}
use Rattle.cons_bind.specs.declared.cause.Cause.TheVariants.{Memory, NoName, NotOneBit, NotAnInput, NotAFlop, NotAReset, NotAClock, ClockRead, Twice, TrackLimit}

pub on_cause : (P Q : Cause → Type 0) → ((c : Cause) → P c → Q c) → (c : Cause) → OnCause P c → OnCause Q c
on_cause P Q to Memory p = tt
on_cause P Q to NoName p = to NoName p
on_cause P Q to NotOneBit p = to NotOneBit p
on_cause P Q to NotAnInput p = to NotAnInput p
on_cause P Q to NotAFlop p = to NotAFlop p
on_cause P Q to NotAReset p = to NotAReset p
on_cause P Q to NotAClock p = to NotAClock p
on_cause P Q to ClockRead p = to ClockRead p
on_cause P Q to Twice p = to Twice p
on_cause P Q to TrackLimit p = to TrackLimit p

pub some_cause : (P : Cause → Type 0) (c : Cause) → P c → OnCause P c
some_cause P Memory p = tt
some_cause P NoName p = p
some_cause P NotOneBit p = p
some_cause P NotAnInput p = p
some_cause P NotAFlop p = p
some_cause P NotAReset p = p
some_cause P NotAClock p = p
some_cause P ClockRead p = p
some_cause P Twice p = p
some_cause P TrackLimit p = p

-- one more bit, which is a flop
pub flops_push : (net : Net) (bits flops : List ℕ) (b s : ℕ) → AreFlops net bits flops → IsFlopBit net b s → AreFlops net (bits ++ (b ∷ [])) (flops ++ (s ∷ []))
flops_push net [] [] b s are is = (is, tt)
flops_push net [] (t ∷ flops) b s are is = absurd are
flops_push net (a ∷ bits) [] b s are is = absurd are
flops_push net (a ∷ bits) (t ∷ flops) b s are is = (are.0, flops_push net bits flops b s are.1 is)

no_members : (xs : List ℕ) (n : ℕ) → xs ≡ [] → Contains xs n → ⊥
no_members [] n e (i, below, here) = omega arith
no_members (x ∷ xs) n e is = absurd cc

-- a name that no bit has, and no bit of a vector
pub unknown : (net : Net) (name bits : List ℕ) → FindsBit net.bits name None → Lists (IsBitOf net name) bits → bits ≡ [] → TrackFails net name NoName
unknown net name bits none lists empty = (none, λ b is. no_members bits b empty ((lists.whole b).1 is))

-- the bits of a vector
pub tracked_by : (net : Net) (name bits : List ℕ) (result : Result (Vec ℕ Global) Cause) → FindsBit net.bits name None → Lists (IsBitOf net name) bits → bits ≢ []
    → MatchResult result (λ flops. AreFlops net bits flops.items) (λ cause. OnCause (λ c. (c ≡ NotAFlop) × ((b : ℕ) × Contains bits b × IsNoFlop net b)) cause)
    → MatchResult result (λ flops. Tracks net name flops.items) (λ cause. OnCause (TrackFails net name) cause)
tracked_by net name bits (Ok flops) none lists some are = inr (none, (bits, lists, some, are))
tracked_by net name bits (Err cause) none lists some fails =
    on_cause (λ c. (c ≡ NotAFlop) × ((b : ℕ) × Contains bits b × IsNoFlop net b)) (TrackFails net name)
    (λ c is. subst (TrackFails net name) (sym is.0) (inr (none, (is.1.0, (lists.whole is.1.0).0 is.1.1, is.1.2))))
    cause fails

pub all_push : (P : ℕ → Type 0) (xs : List ℕ) (x : ℕ) → All P xs → P x → All P (xs ++ (x ∷ []))
all_push P [] x all is zero d lt = is
all_push P [] x all is (suc k) d lt = absurd (omega arith)
all_push P (y ∷ xs) x all is zero d lt = all zero d (omega arith)
all_push P (y ∷ xs) x all is (suc k) d lt = all_push P xs x (λ j e small. all (suc j) e (omega arith)) is k d (omega arith)

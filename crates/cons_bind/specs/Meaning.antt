-- What a line is in a net, and why it is nothing.
--     AreFlops net bits flops                 each bit is the flop beside it
--     Tracks, TrackFails                      the flops of a `track` line
--     IsBound net lines form bound            the line, its names put in
--     HasCause net lines form cause           its first name that fails, and why
use Rattle.std.specs.Prelude.{◌≡◌, ◌≢◌, ◌⊎◌, ℕ, List, [], ◌∷◌, None, Some}
use Rattle.cons_file.specs.Forms as forms
use Rattle.cons_file.specs.Forms.{Form}
use Rattle.cons_file.specs.File.{Stated}
use Rattle.net_view.specs.FlopNet.{FindsBit}
use Rattle.net_view.specs.Cone.{Lists}
use Rattle.cons_bind.specs.Names.{Net, IsFlopBit, IsBitOf, IsUnknown}
use Rattle.cons_bind.specs.Wants.{Means, MeansBit, Fails, FailsBit}
use Rattle.cons_bind.specs.declared.cause.Cause.{Cause}
use Rattle.cons_bind.specs.declared.cause.Cause.TheVariants.{NoName, NotAFlop}
use Rattle.cons_bind.specs.declared.wanted.Wanted.TheVariants.{Input, Flop, ResetSource, DeclaredReset, DeclaredClock}
use Rattle.cons_bind.specs.declared.bound.BoundForm.{BoundForm}
use Rattle.cons_bind.specs.declared.bound.BoundForm.TheVariants as bound

-- each bit is the flop beside it
abbrev pub AreFlops : Net → List ℕ → List ℕ → Type 0
AreFlops net [] [] = Unit {0}
AreFlops net [] (s ∷ flops) = ⊥
AreFlops net (b ∷ bits) [] = ⊥
AreFlops net (b ∷ bits) (s ∷ flops) = IsFlopBit net b s × AreFlops net bits flops

-- the flops that are tracked: that of the name, or where no bit has the name, those of all bits of the vector
abbrev pub Tracks : Net → List ℕ → List ℕ → Type 0
Tracks net name flops =
    ((b : ℕ) × (s : ℕ) × FindsBit net.bits name (Some b) × IsFlopBit net b s × (flops ≡ s ∷ []))
    ⊎ (FindsBit net.bits name None × ((bits : List ℕ) × Lists (IsBitOf net name) bits × (bits ≢ []) × AreFlops net bits flops))

-- bit b is no flop
abbrev pub IsNoFlop : Net → ℕ → Type 0
IsNoFlop net b = (s : ℕ) → IsFlopBit net b s → ⊥

-- why nothing is tracked
abbrev pub TrackFails : Net → List ℕ → Cause → Type 0
TrackFails net name NoName = IsUnknown net name
TrackFails net name NotAFlop =
    ((b : ℕ) × FindsBit net.bits name (Some b) × IsNoFlop net b)
    ⊎ (FindsBit net.bits name None × ((b : ℕ) × IsBitOf net name b × IsNoFlop net b))
TrackFails net name _ = ⊥

-- the line with its names put in
abbrev pub IsBound : Net → List Stated → Form → BoundForm → Type 0
IsBound net lines (forms.Clock port) it = (p : ℕ) × Means net lines Input port p × (it ≡ bound.Clock p)
IsBound net lines (forms.Reset name high) it = (s : ℕ) × Means net lines ResetSource name s × (it ≡ bound.Reset s high)
IsBound net lines (forms.Tie port one) it = (p : ℕ) × Means net lines Input port p × (it ≡ bound.Tie p one)
IsBound net lines (forms.Steady port) it = (p : ℕ) × Means net lines Input port p × (it ≡ bound.Steady p)
IsBound net lines (forms.Track name) it = (flops : List ℕ) × Tracks net name flops × (it ≡ bound.Track flops)
IsBound net lines (forms.Order first second) it =
    (a : ℕ) × (b : ℕ) × Means net lines DeclaredReset first a × Means net lines DeclaredReset second b × (it ≡ bound.Order a b)
IsBound net lines (forms.Isolate reset bit one) it =
    (r : ℕ) × (node : ℕ) × Means net lines DeclaredReset reset r × MeansBit net bit node × (it ≡ bound.Isolate r node one)
IsBound net lines (forms.Quiet reset clock) it =
    (r : ℕ) × (c : ℕ) × Means net lines DeclaredReset reset r × Means net lines DeclaredClock clock c × (it ≡ bound.Quiet r c)
IsBound net lines (forms.Waive flop reason) it = (s : ℕ) × Means net lines Flop flop s × (it ≡ bound.Waive s reason)

-- the first name fails, or the first one is what is wanted and the second fails
abbrev pub FailsInTurn : (ℕ → Type 0) → Type 0 → Type 0 → Type 0
FailsInTurn First first second = first ⊎ (((n : ℕ) × First n) × second)

-- the first name that fails, and why
abbrev pub HasCause : Net → List Stated → Form → Cause → Type 0
HasCause net lines (forms.Clock port) cause = Fails net lines Input port cause
HasCause net lines (forms.Reset name high) cause = Fails net lines ResetSource name cause
HasCause net lines (forms.Tie port one) cause = Fails net lines Input port cause
HasCause net lines (forms.Steady port) cause = Fails net lines Input port cause
HasCause net lines (forms.Track name) cause = TrackFails net name cause
HasCause net lines (forms.Order first second) cause =
    FailsInTurn (Means net lines DeclaredReset first) (Fails net lines DeclaredReset first cause) (Fails net lines DeclaredReset second cause)
HasCause net lines (forms.Isolate reset bit one) cause =
    FailsInTurn (Means net lines DeclaredReset reset) (Fails net lines DeclaredReset reset cause) (FailsBit net bit cause)
HasCause net lines (forms.Quiet reset clock) cause =
    FailsInTurn (Means net lines DeclaredReset reset) (Fails net lines DeclaredReset reset cause) (Fails net lines DeclaredClock clock cause)
HasCause net lines (forms.Waive flop reason) cause = Fails net lines Flop flop cause

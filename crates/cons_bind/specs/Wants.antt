-- What a line wants of a name, and the number that the name then has.
--     Fits net lines wanted b s               bit b is what is wanted, by source s
--     Means, MeansBit                         the name is what is wanted, or is any bit
--     misfit, Fails, FailsBit                 it isn't, and why
use Rattle.std.specs.Prelude.{◌≡◌, ℕ, List, Some}
use Rattle.cons_file.specs.File.{Stated}
use Rattle.net_view.specs.FlopNet.{Bit, IsBitAt, FindsBit}
use Rattle.cons_bind.specs.Names.{Net, IsSourceBit, IsPortBit, IsFlopBit, IsPortOrFlopBit, IsUnknown, IsVector}
use Rattle.cons_bind.specs.Declarations.{IsDeclaredReset, IsDeclaredClock}
use Rattle.cons_bind.specs.declared.cause.Cause.{Cause}
use Rattle.cons_bind.specs.declared.cause.Cause.TheVariants.{NoName, NotOneBit, NotAnInput, NotAFlop, NotAReset, NotAClock}
use Rattle.cons_bind.specs.declared.wanted.Wanted.{Wanted}
use Rattle.cons_bind.specs.declared.wanted.Wanted.TheVariants.{Input, Flop, ResetSource, DeclaredReset, DeclaredClock}

-- bit b is source s, and that is what is wanted
abbrev pub Fits : Net → List Stated → Wanted → ℕ → ℕ → Type 0
Fits net lines Input b s = IsPortBit net b s
Fits net lines Flop b s = IsFlopBit net b s
Fits net lines ResetSource b s = IsPortOrFlopBit net b s
Fits net lines DeclaredReset b s = IsSourceBit net b s × IsDeclaredReset net lines s
Fits net lines DeclaredClock b s = IsSourceBit net b s × IsDeclaredClock net lines s

-- the name is that of a bit, the first of its name, which is what is wanted
abbrev pub Means : Net → List Stated → Wanted → List ℕ → ℕ → Type 0
Means net lines wanted name s = (b : ℕ) × FindsBit net.bits name (Some b) × Fits net lines wanted b s

-- the name is that of a bit, the first of its name, which is this node
abbrev pub MeansBit : Net → List ℕ → ℕ → Type 0
MeansBit net name node = (b : ℕ) × (bit : Bit) × FindsBit net.bits name (Some b) × IsBitAt net.bits b bit × (bit.node ≡ node)

-- the cause where a bit isn't what is wanted
abbrev pub misfit : Wanted → Cause
misfit Input = NotAnInput
misfit Flop = NotAFlop
misfit ResetSource = NotAReset
misfit DeclaredReset = NotAReset
misfit DeclaredClock = NotAClock

-- a bit has the name, and isn't what is wanted
abbrev pub Misfits : Net → List Stated → Wanted → List ℕ → Type 0
Misfits net lines wanted name = (b : ℕ) × FindsBit net.bits name (Some b) × ((s : ℕ) → Fits net lines wanted b s → ⊥)

-- why the name isn't what is wanted
abbrev pub Fails : Net → List Stated → Wanted → List ℕ → Cause → Type 0
Fails net lines wanted name NoName = IsUnknown net name
Fails net lines wanted name NotOneBit = IsVector net name
Fails net lines wanted name cause = (cause ≡ misfit wanted) × Misfits net lines wanted name

-- why the name isn't one bit's
abbrev pub FailsBit : Net → List ℕ → Cause → Type 0
FailsBit net name NoName = IsUnknown net name
FailsBit net name NotOneBit = IsVector net name
FailsBit net name _ = ⊥

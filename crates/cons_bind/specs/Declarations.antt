-- What the lines of a file declare, wherever they stand in it.
--     SomeLine P lines                        P is true of some line
--     DeclaresReset, DeclaresClock            a line declares a source
--     IsDeclaredReset, IsDeclaredClock        some line does
use Rattle.std.specs.Prelude.{ℕ, ◌⊎◌, List, [], ◌∷◌, Some}
use Rattle.cons_file.specs.Forms.{Form, Clock, Reset}
use Rattle.cons_file.specs.File.{Stated}
use Rattle.net_view.specs.FlopNet.{FindsBit}
use Rattle.cons_bind.specs.Names.{Net, IsPortBit, IsPortOrFlopBit}

-- P is true of some line
abbrev pub SomeLine : (Stated → Type 0) → List Stated → Type 0
SomeLine P [] = ⊥
SomeLine P (line ∷ lines) = P line ⊎ SomeLine P lines

-- the line says that source s is a reset, and s is an input port or a flop
abbrev pub DeclaresReset : Net → ℕ → Form → Type 0
DeclaresReset net s (Reset name high) = (b : ℕ) × FindsBit net.bits name (Some b) × IsPortOrFlopBit net b s
DeclaresReset net s _ = ⊥

-- the line says that source s is a clock, and s is an input port
abbrev pub DeclaresClock : Net → ℕ → Form → Type 0
DeclaresClock net s (Clock port) = (b : ℕ) × FindsBit net.bits port (Some b) × IsPortBit net b s
DeclaresClock net s _ = ⊥

-- source s is a reset of the file
abbrev pub IsDeclaredReset : Net → List Stated → ℕ → Type 0
IsDeclaredReset net lines s = SomeLine (λ line. DeclaresReset net s line.form) lines

-- source s is a clock of the file
abbrev pub IsDeclaredClock : Net → List Stated → ℕ → Type 0
IsDeclaredClock net lines s = SomeLine (λ line. DeclaresClock net s line.form) lines

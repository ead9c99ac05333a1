-- What the lines of a constraint file say, and how each is spelled.
use Rattle.std.specs.Prelude.{◌≡◌, ℕ, Bool, true, false, List, [], ◌∷◌, map, codes}
use Rattle.thin_cons.specs.Lines.{rows_of}
use Rattle.thin_cons.specs.declared.line.Line.{Line}
use Rattle.thin_cons.specs.declared.line.Line.TheVariants as lent

-- a port that is a clock, or a reset that is asserted high or low
pub data Declaration : Type 0 where
  Clock : List ℕ → Declaration
  Reset : List ℕ → Bool → Declaration

-- the words of the first line
abbrev pub heading : List (List ℕ)
heading = codes "rdc" ∷ codes "1" ∷ []

-- the words of a line after the first
abbrev pub words_of : Declaration → List (List ℕ)
words_of (Clock port) = codes "clock" ∷ port ∷ []
words_of (Reset port true) = codes "reset" ∷ port ∷ codes "high" ∷ []
words_of (Reset port false) = codes "reset" ∷ port ∷ codes "low" ∷ []

-- the bytes are a file of these declarations, in this order
abbrev pub IsFile : List ℕ → List Declaration → Type 0
IsFile bytes declarations = rows_of bytes ≡ heading ∷ map words_of declarations

-- a declaration without where its bytes lie
abbrev pub declaration_of : Line → Declaration
declaration_of (lent.Clock port) = Clock port.now
declaration_of (lent.Reset port high) = Reset port.now high

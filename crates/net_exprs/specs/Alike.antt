-- Operands in the contexts that their operator hands them.
--   Fits family c a          of an operator before it
--   AreAlike family c a b    of an operator between them: equally wide where it takes them bit by bit, or compares them
use Rattle.std.specs.Prelude.{◌≡◌, ℕ, List, length}
use Rattle.vlog_const.specs.declared.shape.Shape.{Shape}
use Rattle.vlog_const.specs.declared.shape.Family.{Family}
use Rattle.vlog_const.specs.declared.shape.Family.TheVariants.{Contextual, Compared, Alone, Leading}

abbrev pub Fits : Family → Shape → List ℕ → Type 0
Fits Contextual c a = length a ≡ c.width
Fits Compared c a = Unit {0}
Fits Alone c a = Unit {0}
Fits Leading c a = Unit {0}

abbrev pub AreAlike : Family → Shape → List ℕ → List ℕ → Type 0
AreAlike Contextual c a b = (length a ≡ c.width) × (length b ≡ c.width)
AreAlike Compared c a b = length a ≡ length b
AreAlike Alone c a b = Unit {0}
AreAlike Leading c a b = length a ≡ c.width

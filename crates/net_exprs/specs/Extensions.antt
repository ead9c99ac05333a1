-- Words of nodes in a context.
--   fill signed w       what stands above a word: its top bit where it is signed, else 0
--   extended c w        a word in a context: cut, or filled
--   copies n w          n copies, side by side
use Rattle.std.specs.Prelude.{ℕ, zero, suc, ◌-◌, Bool, true, false, nat_lt, List, [], ◌∷◌, ◌++◌, length, take, replicate}
use Rattle.vlog_const.specs.declared.shape.Shape.{Shape}
use Rattle.net_view.specs.declared.gate.Gate.TheVariants.{Const}
use Rattle.net_words.specs.Builds.{Build, ◌>>=◌, return, put}
use Rattle.net_words.specs.Shifts.{top_of}

-- the top bit of a signed word, which is there; else a constant 0
unfoldable pub fill : Bool → List ℕ → Build ℕ
fill true (a ∷ w) = return (top_of (a ∷ w))
fill true [] = put (Const false)
fill false w = put (Const false)

-- a word that is as wide as its context is cut; a narrower one is filled
unfoldable pub extended_if : Bool → Shape → List ℕ → Build (List ℕ)
extended_if false c w = return (take c.width w)
extended_if true c w = do
  f ← fill c.signed w
  return (take c.width w ++ replicate (c.width - length w) f)

unfoldable pub extended : Shape → List ℕ → Build (List ℕ)
extended c w = extended_if (nat_lt (length w) c.width) c w

-- n copies of a word, side by side: no gates
unfoldable pub copies : ℕ → List ℕ → List ℕ
copies zero w = []
copies (suc n) w = w ++ copies n w

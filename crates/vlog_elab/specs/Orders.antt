-- The signals of a flat design in the byte order of their names, each name once.
--     by_name a b           how the names of two signals compare
--     IsInOrder ss ts       the same signals, in that order
--     repeated ts           the first of them, in that order, whose name the one before it has
use Rattle.std.specs.Prelude.{ℕ, Bool, if◌then◌else◌, List, [], ◌∷◌, Ok, Err}
use Rattle.std.specs.declared.cmp.Ordering.{Ordering}
use Rattle.std.specs.Ordering.{nat_cmp, is_lt}
use Rattle.std.specs.Cmp.Lexicographic.{slice_cmp}
use Rattle.std.specs.List.Sorted.{IsPermutation, IsSortedBy}
use Rattle.std.specs.Str.{bytes_eq}
use Rattle.elab_names.specs.declared.fault.ElabFault.TheVariants.{TwiceDeclared}
use Rattle.elab_names.specs.Answers.{Or_fault}
use Rattle.elab_scopes.specs.declared.placed.Placed.{Placed}

abbrev pub by_name : Placed → Placed → Ordering
by_name a b = slice_cmp nat_cmp a.signal.name b.signal.name

-- the same signals, in that order
pub record IsInOrder (ss ts : List Placed) : Type 0 where
  pub same : IsPermutation ss ts
  pub sorted : IsSortedBy (λ a b. is_lt (by_name a b)) ts

-- behind one, the first whose name the one before it has
unfoldable pub repeated_behind : Placed → List Placed → Or_fault (Unit {0})
repeated_behind s [] = Ok tt
repeated_behind s (t ∷ ts) = if bytes_eq t.signal.name s.signal.name then Err (TwiceDeclared t.signal.name t.place) else repeated_behind t ts

unfoldable pub repeated : List Placed → Or_fault (Unit {0})
repeated [] = Ok tt
repeated (s ∷ ss) = repeated_behind s ss

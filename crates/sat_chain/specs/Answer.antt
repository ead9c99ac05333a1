-- The answer that each line gets, by cases that exclude each other, and what is known after it.
--   all_known, IsResult, DerivedAnswer, LineAnswer      the answer
--   with_given, with_derived, after                     what is known then
use Rattle.std.specs.Prelude.{◌≡◌, ℕ, ◌-◌, Bool, ◌&&◌, nat_lt, nat_le, IsTrue, List, [], ◌∷◌, ◌++◌, length, ℤ, Option, Some, None, IsSomeAnd, Result, Ok, Err}
use Rattle.std.specs.List.{list_all}
use Rattle.sat_chain.specs.Clause.{ascends_above}
use Rattle.sat_chain.specs.Text.{Line, Given, Derived, line_of}
use Rattle.sat_chain.specs.Resolvent.{Union, sign_in, union_of}
use Rattle.sat_chain.specs.Refutes.{Known, HasNoModel}
use Rattle.sat_chain.specs.declared.fault.ChainFault.{ChainFault}
use Rattle.sat_chain.specs.declared.fault.ChainFault.TheVariants.{BadLine, NoClause, NoPivot, NotResolvent}
use Rattle.sat_chain.specs.declared.fault.Seen.{Seen}
use Rattle.sat_chain.specs.declared.fault.Seen.TheVariants.{Added, Empty}

-- an earlier clause's number, counted from 1
abbrev pub is_known : ℕ → ℕ → Bool
is_known count n = nat_lt 0 n && nat_le n count

abbrev pub all_known : List (List ℤ) → List ℕ → Bool
all_known clauses ns = list_all (is_known (length clauses)) ns

-- the literals are exactly those of the union, and ascend
abbrev pub IsResult : List ℤ → Union → Type 0
IsResult ls u = IsTrue (ascends_above 0 ls) × ((x : ℕ) → u x ≡ sign_in ls x)

-- the empty clause is told apart
abbrev pub seen : List ℤ → Seen
seen [] = Empty
seen (l ∷ ls) = Added

-- the answer to a derived clause
abbrev pub DerivedAnswer : List (List ℤ) → List ℕ → List ℤ → Result Seen ChainFault → Type 0
DerivedAnswer clauses ns ls (Ok s) = IsTrue (all_known clauses ns) × IsSomeAnd (union_of clauses ns) (IsResult ls) × (s ≡ seen ls)
DerivedAnswer clauses ns ls (Err BadLine) = ⊥
DerivedAnswer clauses ns ls (Err NoClause) = IsTrue (all_known clauses ns) → ⊥
DerivedAnswer clauses ns ls (Err NoPivot) = IsTrue (all_known clauses ns) × (union_of clauses ns ≡ None)
DerivedAnswer clauses ns ls (Err NotResolvent) = IsTrue (all_known clauses ns) × IsSomeAnd (union_of clauses ns) (λ u. IsResult ls u → ⊥)

-- the answer to a line, or to a text that is none
abbrev pub AnswerTo : List (List ℤ) → Option Line → Result Seen ChainFault → Type 0
AnswerTo clauses None answer = answer ≡ Err BadLine
AnswerTo clauses (Some (Given ls)) answer = answer ≡ Ok Added
AnswerTo clauses (Some (Derived ns ls)) answer = DerivedAnswer clauses ns ls answer

-- the answer to a text
abbrev pub LineAnswer : Known → List ℕ → Result Seen ChainFault → Type 0
LineAnswer k text answer = AnswerTo k.clauses (line_of k.vars text) answer

-- what is known with one more line of so many bytes
abbrev pub with_line : Known → ℕ → Option Line → Known
with_line k bytes None = k
with_line k bytes (Some (Given ls)) = record k { given = k.given ++ ls ∷ []; clauses = k.clauses ++ ls ∷ []; room = k.room - bytes }
with_line k bytes (Some (Derived ns ls)) = record k { clauses = k.clauses ++ ls ∷ []; room = k.room - bytes }

-- what is known after an answer: one clause more, or the same
abbrev pub After : Known → ℕ → Option Line → Result Seen ChainFault → Known → Type 0
After k bytes line (Ok s) new = new ≡ with_line k bytes line
After k bytes line (Err f) new = new ≡ k

-- an answer, what is known after it, and what the empty clause means
pub record Answers (k : Known) (bytes : ℕ) (line : Option Line) (answer : Result Seen ChainFault) (new : Known) : Type 0 where
  pub value : AnswerTo k.clauses line answer
  pub after : After k bytes line answer new
  pub sound : answer ≡ Ok Empty → HasNoModel new.given

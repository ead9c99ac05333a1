-- How a line is written: words with one space between them, each list of numbers ended by the word 0.
--   words                            what stands between the spaces
--   number_of, literal_of            what a word says
--   chain_of, literals_of            what words say up to the end of their list
--   Line, line_of                    a line, and the one that a text is
use Rattle.std.specs.Prelude.{ℕ, ◌+◌, ◌-◌, ◌*◌, Bool, true, false, ◌&&◌, not, ◌==◌, nat_lt, nat_le, if◌then◌else◌, List, [], ◌∷◌, ℤ, pos, neg_ℤ, Option, Some, None}
use Rattle.std.specs.List.{list_all}
use Rattle.std.specs.Option.{option_map}
use Rattle.sat_chain.specs.Clause.{ascends_above}

-- a byte more at the front of the first word
abbrev pub lengthen : ℕ → List (List ℕ) → List (List ℕ)
lengthen b [] = (b ∷ []) ∷ []
lengthen b (w ∷ ws) = (b ∷ w) ∷ ws

-- what stands between the spaces (code 32)
unfoldable pub words : List ℕ → List (List ℕ)
words [] = [] ∷ []
words (b ∷ bs) = if b == 32 then [] ∷ words bs else lengthen b (words bs)

-- the word is this one byte
abbrev pub is_byte : ℕ → List ℕ → Bool
is_byte c [] = false
is_byte c (b ∷ []) = b == c
is_byte c (b ∷ d ∷ bs) = false

-- the word 0, which ends a list
abbrev pub is_end : List ℕ → Bool
is_end w = is_byte 48 w

-- a decimal digit
abbrev pub is_digit : ℕ → Bool
is_digit b = nat_le 48 b && nat_le b 57

-- the number of more digits behind one
unfoldable pub value_after : ℕ → List ℕ → ℕ
value_after n [] = n
value_after n (d ∷ ds) = value_after (10 * n + (d - 48)) ds

-- a word that doesn't begin with a zero, unless it is that one byte
abbrev pub leads : List ℕ → Bool
leads [] = false
leads (d ∷ []) = true
leads (d ∷ e ∷ ds) = not (d == 48)

-- a number: digits without leading zeros
abbrev pub number_of : List ℕ → Option ℕ
number_of ds = if leads ds then (if list_all is_digit ds then Some (value_after 0 ds) else None) else None

-- a number from 1 to the count of variables
abbrev pub variable_up_to : ℕ → Option ℕ → Option ℕ
variable_up_to vars None = None
variable_up_to vars (Some n) = if nat_lt 0 n && nat_le n vars then Some n else None

-- the literal of a sign and a variable
abbrev pub signed : Bool → ℕ → ℤ
signed true n = pos n
signed false n = neg_ℤ (pos n)

-- a word without - (code 45) in front is positive
abbrev pub is_plain : List ℕ → Bool
is_plain [] = true
is_plain (b ∷ bs) = not (b == 45)

abbrev pub magnitude : List ℕ → List ℕ
magnitude [] = []
magnitude (b ∷ bs) = if b == 45 then bs else b ∷ bs

-- a literal: a variable, with - in front where it is negated
abbrev pub literal_of : ℕ → List ℕ → Option ℤ
literal_of vars w = option_map (signed (is_plain w)) (variable_up_to vars (number_of (magnitude w)))

-- no word follows
abbrev pub ended : List (List ℕ) → Option (List ℤ)
ended [] = Some []
ended (w ∷ ws) = None

-- a literal in front of those that follow
abbrev pub with_literal : Option ℤ → Option (List ℤ) → Option (List ℤ)
with_literal None more = None
with_literal (Some l) None = None
with_literal (Some l) (Some ls) = Some (l ∷ ls)

-- literals up to the word 0, the last of the line
unfoldable pub literals_of : ℕ → List (List ℕ) → Option (List ℤ)
literals_of vars [] = None
literals_of vars (w ∷ ws) = if is_end w then ended ws else with_literal (literal_of vars w) (literals_of vars ws)

-- a clause number in front of those that follow
abbrev pub with_number : Option ℕ → Option (List ℕ × List (List ℕ)) → Option (List ℕ × List (List ℕ))
with_number None more = None
with_number (Some n) None = None
with_number (Some n) (Some (ns, ws)) = Some (n ∷ ns, ws)

-- clause numbers up to the word 0, and the words after it
unfoldable pub chain_of : List (List ℕ) → Option (List ℕ × List (List ℕ))
chain_of [] = None
chain_of (w ∷ ws) = if is_end w then Some ([], ws) else with_number (number_of w) (chain_of ws)

-- a given clause, or a derived one with the numbers of the clauses that it comes from
pub data Line : Type 0 where
  Given : List ℤ → Line
  Derived : List ℕ → List ℤ → Line

-- a given clause has a literal, and its literals ascend
abbrev pub given_line : Option (List ℤ) → Option Line
given_line None = None
given_line (Some []) = None
given_line (Some (l ∷ ls)) = if ascends_above 0 (l ∷ ls) then Some (Given (l ∷ ls)) else None

-- a derived clause cites a clause at least
abbrev pub derived_line : ℕ → Option (List ℕ × List (List ℕ)) → Option Line
derived_line vars None = None
derived_line vars (Some ([], ws)) = None
derived_line vars (Some (n ∷ ns, ws)) = option_map (Derived (n ∷ ns)) (literals_of vars ws)

-- the first word is c (code 99) or r (code 114)
unfoldable pub line_in : ℕ → List (List ℕ) → Option Line
line_in vars [] = None
line_in vars (w ∷ ws) = if is_byte 99 w then given_line (literals_of vars ws) else (if is_byte 114 w then derived_line vars (chain_of ws) else None)

-- the line that a text is, over a count of variables
abbrev pub line_of : ℕ → List ℕ → Option Line
line_of vars text = line_in vars (words text)

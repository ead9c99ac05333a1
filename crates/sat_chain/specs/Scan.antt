-- What the reader of a line works with: words by the text after a space, and numbers of at most 64 bits.
use Rattle.std.specs.Prelude.{◌≡◌, ℕ, Bool, true, false, ◌+◌, ◌-◌, ◌^◌, min, if◌then◌else◌, List, [], ◌++◌, length, map, ℤ, Option, Some, None}
use Rattle.std.specs.List.{list_all}
use Rattle.sat_chain.specs.Text.{words, is_digit, value_after, Line, Given, Derived}

-- the words of what follows a space, or none
abbrev pub words_after : Option (List ℕ) → List (List ℕ)
words_after None = []
words_after (Some text) = words text

-- a number, or the largest of 64 bits
abbrev pub capped : ℕ → ℕ
capped n = min n (2 ^ 64 - 1)

-- the capped number of a list of digits
abbrev pub digits_of : List ℕ → Option ℕ
digits_of ds = if list_all is_digit ds then Some (capped (value_after 0 ds)) else None

-- the bytes that are left to read, the space before them among them
abbrev pub left_of : Option (List ℕ) → ℕ
left_of None = 0
left_of (Some text) = length text + 1

-- what follows a prefix that was read
abbrev pub prefixed : List ℤ → Option (List ℤ) → Option (List ℤ)
prefixed front None = None
prefixed front (Some ls) = Some (front ++ ls)

-- the numbers of a chain behind those that were read, capped, and the words after them
abbrev pub numbers_behind : List ℕ → Option (List ℕ × List (List ℕ)) → Option (List ℕ × List (List ℕ))
numbers_behind front None = None
numbers_behind front (Some (ns, ws)) = Some (front ++ map capped ns, ws)

-- what was read of a chain: its numbers, and the text after it
abbrev pub chain_read : List ℕ → Option (Option (List ℕ)) → Option (List ℕ × List (List ℕ))
chain_read ns None = None
chain_read ns (Some rest) = Some (ns, words_after rest)

-- what was read of a given clause: its literals are appended, or nothing is
abbrev pub GivenRead : List ℤ → List ℤ → Option Line → Bool → Type 0
GivenRead old new line true = (ls : List ℤ) × (line ≡ Some (Given ls)) × (new ≡ old ++ ls)
GivenRead old new line false = (line ≡ None) × (new ≡ old)

-- what was read of a derived clause: its numbers, capped, and its literals, which are appended
abbrev pub DerivedRead : List ℤ → List ℤ → List ℕ → Option Line → Bool → Type 0
DerivedRead old new chain line true = (ns : List ℕ) × (ls : List ℤ) × (line ≡ Some (Derived ns ls)) × (chain ≡ map capped ns) × (new ≡ old ++ ls)
DerivedRead old new chain line false = (line ≡ None) × (new ≡ old)

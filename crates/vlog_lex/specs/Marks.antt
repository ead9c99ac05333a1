-- The marks: operators and punctuation of the grammar.
use Rattle.std.specs.Prelude.{ℕ, Bool, false, ◌&&◌, ◌||◌, ◌==◌, if◌then◌else◌, IsTrue, List, [], ◌∷◌, codes}
use Rattle.std.specs.List.{list_any}

-- a mark of one byte
unfoldable pub is_single : ℕ → Bool
is_single a = list_any (λ b. a == b) (codes "()[]{},;:.#@=+-*/%<>!~&|^?")

-- a mark of two bytes: ** && || << >> == <= >= != +: -: ~& ~| ~^ ^~
unfoldable pub is_pair : ℕ → ℕ → Bool
is_pair a b =
    if b == 61 then a == 61 || a == 60 || a == 62 || a == 33
    else (if b == 58 then a == 43 || a == 45
    else (if a == 126 then b == 38 || b == 124 || b == 94
    else (if b == 126 then a == 94
    else a == b && (a == 42 || a == 38 || a == 124 || a == 60 || a == 62))))

-- a mark of three bytes: <<< >>> === !==
unfoldable pub is_triple : ℕ → ℕ → ℕ → Bool
is_triple a b c = b == c && ((a == b && (a == 60 || a == 62 || a == 61)) || (a == 33 && b == 61))

-- the bytes are a mark
unfoldable pub is_mark : List ℕ → Bool
is_mark [] = false
is_mark (a ∷ []) = is_single a
is_mark (a ∷ b ∷ []) = is_pair a b
is_mark (a ∷ b ∷ c ∷ []) = is_triple a b c
is_mark (a ∷ b ∷ c ∷ d ∷ bs) = false

abbrev pub IsMark : List ℕ → Type 0
IsMark bs = IsTrue (is_mark bs)

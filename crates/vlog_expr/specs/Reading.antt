-- What a reader of lexemes is: an answer or why it stops, and the lexemes that are left, the one that it stops at in front.
--     first ls                        the lexeme in front
--     peek g, advance, pure a, stop why, p >>= f, p >> q      readers
--     sees mark, expect mark          a mark in front
--     sees_word word, expect_word word        a word in front
--     Reads outcome result left       what a function that reads ensures
use Rattle.std.specs.Prelude.{◌≡◌, ◌≢◌, ℕ, Bool, false, if◌then◌else◌, List, [], ◌∷◌, ◌++◌, drop, Option, Some, None, Result, Ok, Err}
use Rattle.rdc_outside.specs.declared.source.Place.{Place}
use Rattle.vlog_tree.specs.Lexemes.{Lexeme, mark_of, word_of, is_mark, is_word}
use Rattle.vlog_tree.specs.Names.{name_of}
use Rattle.vlog_tree.specs.Numbers.{number_of}
use Rattle.vlog_tree.specs.declared.number.Number.{Number}
use Rattle.vlog_expr.specs.declared.stuck.Stuck.{Stuck}
use Rattle.vlog_expr.specs.declared.stuck.Stuck.TheVariants.{Memory, Wrong}

abbrev pub Outcome : Type 0 → Type 0
Outcome A = Result A Stuck × List Lexeme

abbrev pub Reader : Type 0 → Type 0
Reader A = List Lexeme → Outcome A

-- the lexeme in front
unfoldable pub first : List Lexeme → Option Lexeme
first [] = None
first (l ∷ ls) = Some l

-- goes on behind an answer
abbrev pub onward : {A B : Type 0} → Result A Stuck → List Lexeme → (A → Reader B) → Outcome B
onward (Ok a) ls f = f a ls
onward (Err why) ls f = (Err why, ls)

infixl 10 ◌>>=◌
abbrev pub ◌>>=◌ : {A B : Type 0} → Reader A → (A → Reader B) → Reader B
p >>= f = λ ls. onward (p ls).0 (p ls).1 f

infixl 10 ◌>>◌
abbrev pub ◌>>◌ : {A B : Type 0} → Reader A → Reader B → Reader B
p >> q = p >>= (λ _. q)

abbrev pub pure : {A : Type 0} → A → Reader A
pure a = λ ls. (Ok a, ls)

abbrev pub stop : {A : Type 0} → Stuck → Reader A
stop why = λ ls. (Err why, ls)

-- what is known of the lexeme in front
abbrev pub peek : {A : Type 0} → (Option Lexeme → A) → Reader A
peek g = λ ls. (Ok (g (first ls)), ls)

-- past the lexeme in front
abbrev pub advance : Reader (Unit {0})
advance = λ ls. (Ok tt, drop 1 ls)

-- the place of a lexeme; that of none is not meant
unfoldable pub place_if : Option Lexeme → Place
place_if None = record { file = 0; line = 0; col = 0 }
place_if (Some l) = l.place

unfoldable pub mark_if : Option Lexeme → List ℕ
mark_if None = []
mark_if (Some l) = mark_of l

unfoldable pub word_if : Option Lexeme → List ℕ
word_if None = []
word_if (Some l) = word_of l

unfoldable pub name_if : Option Lexeme → Option (List ℕ)
name_if None = None
name_if (Some l) = name_of l

unfoldable pub number_if : Option Lexeme → Option Number
number_if None = None
number_if (Some l) = number_of l

-- the lexeme is that mark
unfoldable pub sees : List ℕ → Option Lexeme → Bool
sees mark None = false
sees mark (Some l) = is_mark mark l

-- the lexeme is that word
unfoldable pub sees_word : List ℕ → Option Lexeme → Bool
sees_word word None = false
sees_word word (Some l) = is_word word l

-- past that mark
unfoldable pub expect : List ℕ → Reader (Unit {0})
expect mark = peek (sees mark) >>= (λ there. if there then advance else stop Wrong)

-- past that word
unfoldable pub expect_word : List ℕ → Reader (Unit {0})
expect_word word = peek (sees_word word) >>= (λ there. if there then advance else stop Wrong)

-- what a function that reads ensures: the reader's outcome, unless memory fails
abbrev pub Reads : {A : Type 0} → Outcome A → Result A Stuck → List Lexeme → Type 0
Reads outcome (Ok a) left = outcome ≡ (Ok a, left)
Reads outcome (Err why) left = why ≢ Memory → outcome ≡ (Err why, left)

-- the same of a function that reads more of a list
abbrev pub Adds : {A : Type 0} → Outcome (List A) → List A → Result (Unit {0}) Stuck → List A → List Lexeme → Type 0
Adds outcome before (Ok done) after left = (xs : List _) × (outcome ≡ (Ok xs, left)) × (after ≡ before ++ xs)
Adds outcome before (Err why) after left = why ≢ Memory → outcome ≡ (Err why, left)

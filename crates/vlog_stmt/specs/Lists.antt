-- What productions have in common, as it is read: names, what may be left out, lists.
--     known g p q, one g              past the lexeme in front, where g knows it
--     ident, label room               id, [ ":" id ]
--     took mark, took_word word       past the mark or word if it stands in front; whether it did
--     many goes p                     { p } while the lexeme in front goes on
--     commas p                        p { "," p }
--     Keeps p, Eats p                 an answer of p leaves no more lexemes, fewer lexemes
use Rattle.std.specs.Prelude.{◌≡◌, ℕ, zero, suc, ◌<◌, ◌≤◌, Bool, true, false, nat_le, if◌then◌else◌, List, [], ◌∷◌, length, Option, Some, None, Ok, codes}
use Rattle.vlog_tree.specs.declared.ident.Ident.{Ident}
use Rattle.vlog_tree.specs.Lexemes.{Lexeme}
use Rattle.vlog_expr.specs.declared.stuck.Stuck.TheVariants.{Wrong, Deep}
use Rattle.vlog_expr.specs.Reading.{Reader, ◌>>=◌, ◌>>◌, pure, stop, peek, advance, place_if, name_if, sees, sees_word, expect}

unfoldable pub known_by : {A B : Type 0} → (A → Reader B) → Reader B → Option A → Reader B
known_by p q None = q
known_by p q (Some a) = advance >> p a

-- past the lexeme in front where g knows it, and on with p; or else q
unfoldable pub known : {A B : Type 0} → (Option Lexeme → Option A) → (A → Reader B) → Reader B → Reader B
known g p q = peek g >>= known_by p q

-- the lexeme in front, where g knows it
unfoldable pub one : {A : Type 0} → (Option Lexeme → Option A) → Reader A
one g = known g (λ a. pure a) (stop Wrong)

-- id
unfoldable pub ident : Reader Ident
ident = do
  place ← peek place_if
  known name_if (λ name. pure (record { place = place; name = name })) (stop Wrong)

-- past the mark, if it stands in front; whether it did
unfoldable pub took : List ℕ → Reader Bool
took mark = peek (sees mark) >>= (λ there. if there then advance >> pure true else pure false)

unfoldable pub took_word : List ℕ → Reader Bool
took_word word = peek (sees_word word) >>= (λ there. if there then advance >> pure true else pure false)

-- what may stand one deeper, where there is room
abbrev pub within : {A : Type 0} → ℕ → Reader A → Reader A
within room p = if nat_le 1 room then p else stop Deep

-- [ ":" id ]
unfoldable pub label : ℕ → Reader (Option Ident)
label room = do
  there ← peek (sees (codes ":"))
  if there then within room (expect (codes ":") >> (ident >>= (λ i. pure (Some i)))) else pure None

-- { p }, while the lexeme in front goes on; the number bounds the turns
unfoldable pub many_from : {A : Type 0} → ℕ → (Option Lexeme → Bool) → Reader A → Reader (List A)
many_from zero goes p = pure []
many_from (suc n) goes p = do
  on ← peek goes
  if on then (do x ← p; xs ← many_from n goes p; pure (x ∷ xs)) else pure []

unfoldable pub many : {A : Type 0} → (Option Lexeme → Bool) → Reader A → Reader (List A)
many goes p = λ ls. many_from (suc (length ls)) goes p ls

-- "," p
unfoldable pub further : {A : Type 0} → Reader A → Reader A
further p = expect (codes ",") >> p

-- p { "," p }
unfoldable pub commas : {A : Type 0} → Reader A → Reader (List A)
commas p = do
  x ← p
  xs ← many (sees (codes ",")) (further p)
  pure (x ∷ xs)

-- an answer leaves no more lexemes, fewer lexemes
pub record Keeps {A : Type 0} (p : Reader A) : Type 0 where
  pub leaves : (ls : List Lexeme) (a : A) (rest : List Lexeme) → p ls ≡ (Ok a, rest) → length rest ≤ length ls

pub record Eats {A : Type 0} (p : Reader A) : Type 0 where
  pub leaves : (ls : List Lexeme) (a : A) (rest : List Lexeme) → p ls ≡ (Ok a, rest) → length rest < length ls

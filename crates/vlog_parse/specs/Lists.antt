-- What the readers of declarations, items and modules are put together from.
--     expect_word w, flag w, ident           a word that is to stand here, one that may, and a name
--     optional test p                 what the lexeme in front decides
--     commas p                        pieces with commas between, at least one
--     until w p                       pieces up to a word
use Rattle.std.specs.Prelude.{◌≡◌, ℕ, zero, suc, ◌<◌, ◌≤◌, Bool, if◌then◌else◌, List, [], ◌∷◌, length, Option, Some, None, Ok, codes}
use Rattle.vlog_tree.specs.declared.ident.Ident.{Ident}
use Rattle.vlog_tree.specs.declared.expr.Expr.{Expr}
use Rattle.vlog_tree.specs.Lexemes.{Lexeme}
use Rattle.vlog_expr.specs.declared.stuck.Stuck.TheVariants.{Wrong}
use Rattle.vlog_expr.specs.Reading.{Reader, ◌>>=◌, ◌>>◌, pure, stop, peek, advance, sees, sees_word}
use Rattle.vlog_expr.specs.Exprs.{expr}
use Rattle.vlog_expr.specs.Plain.{plain}
use Rattle.vlog_stmt.specs.Lists.{took_word, ident as one_name}

-- an expression without z digits, no deeper than the number
unfoldable pub plain_expr : ℕ → Reader Expr
plain_expr room = plain (expr room 0)

-- past that word, if it is there; whether it was
abbrev pub flag : List ℕ → Reader Bool
flag = took_word

-- a name
abbrev pub ident : Reader Ident
ident = one_name

-- what is read, as something
abbrev pub some : {A : Type 0} → Reader A → Reader (Option A)
some p = p >>= (λ a. pure (Some a))

unfoldable pub optional : {A : Type 0} → (Option Lexeme → Bool) → Reader A → Reader (Option A)
optional test p = peek test >>= (λ there. if there then p >>= (λ a. pure (Some a)) else pure None)

-- { "," piece }; the number bounds the turns
unfoldable pub others_from : {A : Type 0} → ℕ → Reader A → Reader (List A)
others_from zero p = pure []
others_from (suc n) p = do
  there ← peek (sees (codes ","))
  if there then (do advance; x ← p; xs ← others_from n p; pure (x ∷ xs)) else pure []

unfoldable pub others : {A : Type 0} → Reader A → Reader (List A)
others p = λ ls. others_from (length ls) p ls

-- piece { "," piece }
unfoldable pub commas : {A : Type 0} → Reader A → Reader (List A)
commas p = do
  x ← p
  xs ← others p
  pure (x ∷ xs)

-- { piece } and the word; the number bounds the turns
unfoldable pub until_from : {A : Type 0} → ℕ → List ℕ → Reader A → Reader (List A)
until_from zero w p = stop Wrong
until_from (suc n) w p = do
  there ← peek (sees_word w)
  if there then advance >> pure [] else (do x ← p; xs ← until_from n w p; pure (x ∷ xs))

unfoldable pub until : {A : Type 0} → List ℕ → Reader A → Reader (List A)
until w p = λ ls. until_from (suc (length ls)) w p ls

-- an answer leaves no more lexemes, fewer lexemes
pub record Keeps {A : Type 0} (p : Reader A) : Type 0 where
  pub leaves : (ls : List Lexeme) (a : A) (rest : List Lexeme) → p ls ≡ (Ok a, rest) → length rest ≤ length ls

pub record Eats {A : Type 0} (p : Reader A) : Type 0 where
  pub leaves : (ls : List Lexeme) (a : A) (rest : List Lexeme) → p ls ≡ (Ok a, rest) → length rest < length ls

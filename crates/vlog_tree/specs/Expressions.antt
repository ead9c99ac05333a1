-- Which lexemes spell which expression (IEEE 1364-2005, A.8), one case a production.
-- `Spells level ls e`: the lexemes are the expression, and it may stand where one of that level is wanted: an operand of
-- an operator is of the operator's level on its left side and of the next higher one on its right side.
--     Spells level ls e            an expression
--     SpellsList ls es             expressions with commas between, at least one
--     SpellsPlain ls e             an expression without z digits
--     SpellsPlainList ls es        expressions without z digits
--     SpellsTarget ls e            what may be assigned
use Rattle.std.specs.Prelude.{◌≡◌, ℕ, ◌+◌, ◌≤◌, ◌⊎◌, Bool, not, IsTrue, List, [], ◌∷◌, ◌++◌, Option, Some, None, codes}
use Rattle.std.specs.List.{list_any}
use Rattle.vlog_tree.specs.declared.expr.Expr.{Expr}
use Rattle.vlog_tree.specs.declared.expr.Expr.TheVariants as expr
use Rattle.vlog_tree.specs.declared.expr.Part.{Part}
use Rattle.vlog_tree.specs.declared.number.Number.{Number}
use Rattle.vlog_tree.specs.declared.operator.Unary.{Unary}
use Rattle.vlog_tree.specs.declared.operator.Binary.{Binary}
use Rattle.vlog_tree.specs.Lexemes.{Lexeme, mark_of, IsMark, start}
use Rattle.vlog_tree.specs.Names.{name_of}
use Rattle.vlog_tree.specs.Numbers.{number_of, has_z}
use Rattle.vlog_tree.specs.Operators.{unary_of, binary_of, part_of, level_of, level_of_expression, level_of_operand, level_of_unary, level_of_primary}

mutual
  pub data Spells : ℕ → List Lexeme → Expr → Type 0 where
    -- number
    number : {level : ℕ} {ls : List Lexeme} {e : Expr} (l : Lexeme) (n : Number)
        → number_of l ≡ Some n
        → ls ≡ l ∷ [] → e ≡ expr.Number (start ls) n → Spells level ls e
    -- id
    name : {level : ℕ} {ls : List Lexeme} {e : Expr} (l : Lexeme) (called : List ℕ)
        → name_of l ≡ Some called
        → ls ≡ l ∷ [] → e ≡ expr.Name (start ls) called → Spells level ls e
    -- id "[" expr "]"
    index : {level : ℕ} {ls : List Lexeme} {e : Expr} (l left right : Lexeme) (called : List ℕ) (is : List Lexeme) (i : Expr)
        → name_of l ≡ Some called → IsMark (codes "[") left → Spells level_of_expression is i → IsMark (codes "]") right
        → ls ≡ l ∷ left ∷ (is ++ right ∷ []) → e ≡ expr.Index (start ls) called i → Spells level ls e
    -- id "[" expr ( ":" | "+:" | "-:" ) expr "]"
    select : {level : ℕ} {ls : List Lexeme} {e : Expr} (l left mark right : Lexeme) (called : List ℕ) (part : Part) (is js : List Lexeme) (i j : Expr)
        → name_of l ≡ Some called → IsMark (codes "[") left → Spells level_of_expression is i → part_of (mark_of mark) ≡ Some part
        → Spells level_of_expression js j → IsMark (codes "]") right
        → ls ≡ l ∷ left ∷ (is ++ mark ∷ (js ++ right ∷ [])) → e ≡ expr.Select part (start ls) called i j → Spells level ls e
    -- "(" expr ")"
    brackets : {level : ℕ} {ls : List Lexeme} {e : Expr} (left right : Lexeme) (is : List Lexeme) (i : Expr)
        → IsMark (codes "(") left → Spells level_of_expression is i → IsMark (codes ")") right
        → ls ≡ left ∷ (is ++ right ∷ []) → e ≡ expr.Brackets (start ls) i → Spells level ls e
    -- "{" expr { "," expr } "}"
    concat : {level : ℕ} {ls : List Lexeme} {e : Expr} (left right : Lexeme) (is : List Lexeme) (es : List Expr)
        → IsMark (codes "{") left → SpellsList is es → IsMark (codes "}") right
        → ls ≡ left ∷ (is ++ right ∷ []) → e ≡ expr.Concat (start ls) es → Spells level ls e
    -- "{" expr "{" expr { "," expr } "}" "}"
    repeat : {level : ℕ} {ls : List Lexeme} {e : Expr} (left inner outer right : Lexeme) (zs is : List Lexeme) (c : Expr) (es : List Expr)
        → IsMark (codes "{") left → Spells level_of_expression zs c → IsMark (codes "{") inner → SpellsList is es
        → IsMark (codes "}") outer → IsMark (codes "}") right
        → ls ≡ left ∷ (zs ++ inner ∷ (is ++ outer ∷ right ∷ [])) → e ≡ expr.Repeat (start ls) c es → Spells level ls e
    -- an operator and a primary
    unary : {level : ℕ} {ls : List Lexeme} {e : Expr} (mark : Lexeme) (op : Unary) (us : List Lexeme) (u : Expr)
        → level ≤ level_of_unary → unary_of (mark_of mark) ≡ Some op → Spells level_of_primary us u
        → ls ≡ mark ∷ us → e ≡ expr.Unary (start ls) op u → Spells level ls e
    -- two operands and an operator, grouping to the left
    binary : {level : ℕ} {ls : List Lexeme} {e : Expr} (mark : Lexeme) (op : Binary) (xs ys : List Lexeme) (a b : Expr)
        → level ≤ level_of op → Spells (level_of op) xs a → binary_of (mark_of mark) ≡ Some op → Spells (level_of op + 1) ys b
        → ls ≡ xs ++ mark ∷ ys → e ≡ expr.Binary (start ls) op a b → Spells level ls e
    -- operand "?" expr ":" expr, grouping to the right
    conditional : {level : ℕ} {ls : List Lexeme} {e : Expr} (question colon : Lexeme) (xs ys zs : List Lexeme) (test yes no : Expr)
        → level ≡ level_of_expression → Spells level_of_operand xs test → IsMark (codes "?") question → Spells level_of_expression ys yes
        → IsMark (codes ":") colon → Spells level_of_expression zs no
        → ls ≡ xs ++ question ∷ (ys ++ colon ∷ zs) → e ≡ expr.Conditional (start ls) test yes no → Spells level ls e

  pub data SpellsList : List Lexeme → List Expr → Type 0 where
    -- expr
    one : {ls : List Lexeme} {es : List Expr} (e : Expr)
        → Spells level_of_expression ls e → es ≡ e ∷ [] → SpellsList ls es
    -- expr "," and more
    more : {ls : List Lexeme} {es : List Expr} (comma : Lexeme) (is js : List Lexeme) (e : Expr) (fs : List Expr)
        → Spells level_of_expression is e → IsMark (codes ",") comma → SpellsList js fs
        → ls ≡ is ++ comma ∷ js → es ≡ e ∷ fs → SpellsList ls es

-- none of the lexemes is a number with a z digit
abbrev pub IsWithoutZ : List Lexeme → Type 0
IsWithoutZ ls = IsTrue (not (list_any has_z ls))

-- an expression anywhere but in a `casez` label
pub record SpellsPlain (ls : List Lexeme) (e : Expr) : Type 0 where
  pub spells : Spells level_of_expression ls e
  pub plain : IsWithoutZ ls

-- expressions with commas between, anywhere but in a `casez` label
pub record SpellsPlainList (ls : List Lexeme) (es : List Expr) : Type 0 where
  pub spells : SpellsList ls es
  pub plain : IsWithoutZ ls

mutual
  -- lval = id [ sel ] | "{" lval { "," lval } "}"
  pub data SpellsTarget : List Lexeme → Expr → Type 0 where
    name : {ls : List Lexeme} {e : Expr} (l : Lexeme) (called : List ℕ)
        → name_of l ≡ Some called
        → ls ≡ l ∷ [] → e ≡ expr.Name (start ls) called → SpellsTarget ls e
    index : {ls : List Lexeme} {e : Expr} (l left right : Lexeme) (called : List ℕ) (is : List Lexeme) (i : Expr)
        → name_of l ≡ Some called → IsMark (codes "[") left → SpellsPlain is i → IsMark (codes "]") right
        → ls ≡ l ∷ left ∷ (is ++ right ∷ []) → e ≡ expr.Index (start ls) called i → SpellsTarget ls e
    select : {ls : List Lexeme} {e : Expr} (l left mark right : Lexeme) (called : List ℕ) (part : Part) (is js : List Lexeme) (i j : Expr)
        → name_of l ≡ Some called → IsMark (codes "[") left → SpellsPlain is i → part_of (mark_of mark) ≡ Some part
        → SpellsPlain js j → IsMark (codes "]") right
        → ls ≡ l ∷ left ∷ (is ++ mark ∷ (js ++ right ∷ [])) → e ≡ expr.Select part (start ls) called i j → SpellsTarget ls e
    concat : {ls : List Lexeme} {e : Expr} (left right : Lexeme) (is : List Lexeme) (es : List Expr)
        → IsMark (codes "{") left → SpellsTargets is es → IsMark (codes "}") right
        → ls ≡ left ∷ (is ++ right ∷ []) → e ≡ expr.Concat (start ls) es → SpellsTarget ls e

  pub data SpellsTargets : List Lexeme → List Expr → Type 0 where
    one : {ls : List Lexeme} {es : List Expr} (e : Expr)
        → SpellsTarget ls e → es ≡ e ∷ [] → SpellsTargets ls es
    more : {ls : List Lexeme} {es : List Expr} (comma : Lexeme) (is js : List Lexeme) (e : Expr) (fs : List Expr)
        → SpellsTarget is e → IsMark (codes ",") comma → SpellsTargets js fs
        → ls ≡ is ++ comma ∷ js → es ≡ e ∷ fs → SpellsTargets ls es

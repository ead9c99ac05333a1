-- How expressions begin, and what is answered where lexemes begin with one or with none.
--     NoneBegins pre rest          no expression is spelled by `pre` and then lexemes that begin as `rest` does
--     IsAnswer ls x count          the expression that so many lexemes spell, and the next one can't go on with
--     IsFault end ls fault         the fault's condition stands
use Rattle.std.specs.Prelude.{◌≡◌, ℕ, ◌-◌, ◌<◌, ◌≤◌, ◌⊎◌, if◌then◌else◌, List, [], ◌++◌, length, slice_get, Option, Some, None}
use Rattle.rdc_outside.specs.declared.source.Place.{Place}
use Rattle.vlog_tree.specs.declared.expr.Expr.{Expr}
use Rattle.vlog_tree.specs.Lexemes.{Lexeme}
use Rattle.vlog_tree.specs.Operators.{level_of_expression}
use Rattle.vlog_tree.specs.Expressions.{Spells}
use Rattle.vlog_tree.specs.Depth.{depth}
use Rattle.vlog_tree.specs.Refused.{is_refused}
use Rattle.vlog_expr.specs.declared.fault.ExprFault.{ExprFault}
use Rattle.vlog_expr.specs.declared.fault.ExprFault.TheVariants.{Memory, Unsupported, Syntax, TooDeep}
use Rattle.vlog_expr.specs.Reading.{first}

-- one list of lexemes spells at most one expression
abbrev pub OneExpression : Type 0
OneExpression = (ls : List Lexeme) (x y : Expr) → Spells level_of_expression ls x → Spells level_of_expression ls y → x ≡ y

-- no expression is spelled by these lexemes and then ones that begin as the rest does; where there is no rest, by these alone
abbrev pub NoneBegins : List Lexeme → List Lexeme → Type 0
NoneBegins pre rest = (vs : List Lexeme) (x : Expr) → Spells level_of_expression (pre ++ vs) x → first vs ≡ first rest → ⊥

-- none that is less than 256 deep is
abbrev pub NoShallowBegins : List Lexeme → List Lexeme → Type 0
NoShallowBegins pre rest = (vs : List Lexeme) (x : Expr) → Spells level_of_expression (pre ++ vs) x → depth x < 256 → first vs ≡ first rest → ⊥

-- the first so many lexemes spell the expression, which is less than 256 deep, and none goes on with the next
pub record IsAnswer (ls : List Lexeme) (x : Expr) (count : ℕ) : Type 0 where
  pub pre : List Lexeme
  pub rest : List Lexeme
  pub parts : ls ≡ pre ++ rest
  pub counted : count ≡ length pre
  pub spelled : Spells level_of_expression pre x
  pub shallow : depth x < 256
  pub ended : (rest ≡ []) ⊎ NoneBegins pre rest

-- the last of some lexemes
unfoldable pub last : List Lexeme → Option Lexeme
last ls = slice_get ls (length ls - 1)

-- the bytes of a lexeme that is refused by name, behind the one before it
unfoldable pub refusal : Option Lexeme → Option Lexeme → Option (List ℕ)
refusal before None = None
refusal before (Some l) = if is_refused before l then Some l.bytes else None

-- the place of the lexeme in front, or the text's end
unfoldable pub named_place : Place → Option Lexeme → Place
named_place end None = end
named_place end (Some l) = l.place

-- the lexeme that a fault names stands in front of the rest
pub record Names (end : Place) (ls pre rest : List Lexeme) (place : Place) (word : Option (List ℕ)) : Type 0 where
  pub parts : ls ≡ pre ++ rest
  pub place_is : place ≡ named_place end (first rest)
  pub word_is : refusal (last pre) (first rest) ≡ word

-- no expression begins so, up to the named lexeme
pub record Refuses (end : Place) (ls : List Lexeme) (place : Place) (word : Option (List ℕ)) : Type 0 where
  pub pre : List Lexeme
  pub rest : List Lexeme
  pub names : Names end ls pre rest place word
  pub none : NoneBegins pre rest

-- no shallow one does, and many lexemes stand before it
pub record RefusesDepth (end : Place) (ls : List Lexeme) (place : Place) : Type 0 where
  pub pre : List Lexeme
  pub rest : List Lexeme
  pub parts : ls ≡ pre ++ rest
  pub place_is : place ≡ named_place end (first rest)
  pub none : NoShallowBegins pre rest
  pub many : 254 ≤ length pre

-- the fault's condition stands; want of memory has none
abbrev pub IsFault : Place → List Lexeme → ExprFault → Type 0
IsFault end ls Memory = Unit {0}
IsFault end ls (Unsupported word place) = Refuses end ls place (Some word)
IsFault end ls (Syntax place) = Refuses end ls place None
IsFault end ls (TooDeep place) = RefusesDepth end ls place

-- the fault at a place, where the lexeme is refused by name or not
unfoldable pub fault_of : Place → Option (List ℕ) → ExprFault
fault_of place None = Syntax place
fault_of place (Some word) = Unsupported word place

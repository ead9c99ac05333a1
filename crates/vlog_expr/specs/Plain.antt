-- Expressions without z digits, as they are read. A number with z digits is masked there: it stands as a string, with which
-- no expression begins or goes on.
--     mask l                          the lexeme, masked where it is such a number
--     plain p                         reads as p, which sees such numbers masked
use Rattle.std.specs.Prelude.{ℕ, ◌-◌, Bool, true, false, if◌then◌else◌, List, length, drop, map}
use Rattle.std.specs.List.{list_any}
use Rattle.vlog_lex.specs.declared.tokens.Kind.{Kind}
use Rattle.vlog_lex.specs.declared.tokens.Kind.TheVariants.{Identifier, Number, Str, Mark}
use Rattle.vlog_tree.specs.Lexemes.{Lexeme}
use Rattle.vlog_tree.specs.Numbers.{is_z}
use Rattle.vlog_expr.specs.Reading.{Reader}

-- the kind of such a lexeme; that of a number with z digits is a string's
unfoldable pub masked : Kind → List ℕ → Kind
masked Identifier bytes = Identifier
masked Number bytes = if list_any is_z bytes then Str else Number
masked Str bytes = Str
masked Mark bytes = Mark

unfoldable pub mask : Lexeme → Lexeme
mask l = record { kind = masked l.kind l.bytes; bytes = l.bytes; place = l.place }

-- what is seen where numbers with z digits are taken, and where they are not
unfoldable pub seen : Bool → List Lexeme → List Lexeme
seen true ls = ls
seen false ls = map mask ls

-- reads as p, which sees numbers with z digits masked
unfoldable pub plain : {A : Type 0} → Reader A → Reader A
plain p = λ ls. ((p (map mask ls)).0, drop (length ls - length (p (map mask ls)).1) ls)

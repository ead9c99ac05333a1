-- What a statement begins with.
--     begins s                        the first lexeme of a statement
--     no_word_at, no_colon_at         it is no such word, and no colon
use Rattle.std.proofs.Common.{◌≡◌, ℕ, Bool, true, false, List, [], ◌∷◌, ◌++◌, Option, Some, refl, ap, ◌∙◌}
use Rattle.std.specs.Prelude.{◌==◌, codes}
use Rattle.std.specs.Str.{bytes_eq}
use Rattle.vlog_tree.specs.declared.expr.Expr.{Expr}
use Rattle.vlog_tree.specs.declared.stmt.Stmt.{Stmt}
use Rattle.vlog_tree.specs.Lexemes.{Lexeme, IsMark, IsWord}
use Rattle.vlog_tree.specs.Names.{name_of}
use Rattle.vlog_tree.specs.Reserved.{is_reserved, reserved_with}
use Rattle.vlog_tree.specs.Expressions.{SpellsTarget}
use Rattle.vlog_tree.specs.Expressions as t
use Rattle.vlog_tree.specs.Statements.{SpellsStmt, IsMatching}
use Rattle.vlog_tree.specs.Statements as g
use Rattle.vlog_expr.specs.Reading.{sees, sees_word}
use Rattle.vlog_stmt.proofs.WordLemmas.{other_mark, other_word, word_mark, mark_word, name_mark, name_word}
use Rattle.vlog_stmt.proofs.Exact.{front}

-- a lexeme that begins a statement
pub data First (l : Lexeme) : Type 0 where
  at_semi : IsMark (codes ";") l → First l
  at_begin : IsWord (codes "begin") l → First l
  at_if : IsWord (codes "if") l → First l
  at_case : IsWord (codes "case") l → First l
  at_casez : IsWord (codes "casez") l → First l
  at_for : IsWord (codes "for") l → First l
  at_name : (called : List ℕ) → name_of l ≡ Some called → First l
  at_brace : IsMark (codes "{") l → First l

pub record Begins (us : List Lexeme) : Type 0 where
  pub lexeme : Lexeme
  pub others : List Lexeme
  pub is : us ≡ lexeme ∷ others
  pub first : First lexeme

longer : {us : List Lexeme} (xs ys : List Lexeme) → us ≡ xs ++ ys → Begins xs → Begins us
longer xs ys parts b = record { lexeme = b.lexeme; others = b.others ++ ys; is = parts ∙ ap (λ z. z ++ ys) b.is; first = b.first }

pub target_begins : {us : List Lexeme} {x : Expr} → SpellsTarget us x → Begins us
target_begins (t.name l called known is x) = record { lexeme = l; others = []; is = is; first = at_name called known }
target_begins (t.index l left right called is i known opens inside closes parts x) = record { lexeme = l; others = left ∷ (is ++ right ∷ []); is = parts; first = at_name called known }
target_begins (t.select l left mark right called part is js i j known opens fst seen snd closes parts x) = record { lexeme = l; others = left ∷ (is ++ mark ∷ (js ++ right ∷ [])); is = parts; first = at_name called known }
target_begins (t.concat left right is es opens inside closes parts x) = record { lexeme = left; others = is ++ right ∷ []; is = parts; first = at_brace opens }

pub begins : {open_if : Bool} {us : List Lexeme} {x : Stmt} → SpellsStmt open_if us x → Begins us
begins (g.empty semi is o parts same) = record { lexeme = semi; others = []; is = parts; first = at_semi is }
begins (g.block begin end ns is label ss w named inside last o parts same) = record { lexeme = begin; others = ns ++ (is ++ end ∷ []); is = parts; first = at_begin w }
begins (g.assign mark semi ts vs target value by aimed known spelled ends o parts same) = longer ts (mark ∷ (vs ++ semi ∷ [])) parts (target_begins aimed)
begins (g.if_alone word left right cs is inner test chosen w p q r s o parts same) = record { lexeme = word; others = left ∷ (cs ++ right ∷ is); is = parts; first = at_if w }
begins (g.if_else word left right otherwise cs is js test chosen rest w p q r s u v parts same) = record { lexeme = word; others = left ∷ (cs ++ right ∷ (is ++ otherwise ∷ js)); is = parts; first = at_if w }
begins (g.cases word left right end cs is matching has selector arms (g.exact w m) p q r s u o parts same) = record { lexeme = word; others = left ∷ (cs ++ right ∷ (is ++ end ∷ [])); is = parts; first = at_case w }
begins (g.cases word left right end cs is matching has selector arms (g.wildcard w m) p q r s u o parts same) = record { lexeme = word; others = left ∷ (cs ++ right ∷ (is ++ end ∷ [])); is = parts; first = at_casez w }
begins (g.loop word hs is header body w p q parts same) = record { lexeme = word; others = hs ++ is; is = parts; first = at_for w }

-- a reserved word that begins no statement
pub record Apart (w : ℕ) (ws : List ℕ) : Type 0 where
  pub plain : (w == 92) ≡ false
  pub reserved : is_reserved (w ∷ ws) ≡ true
  pub others : (bytes_eq (codes "begin") (w ∷ ws) ≡ false) × (bytes_eq (codes "if") (w ∷ ws) ≡ false) × (bytes_eq (codes "case") (w ∷ ws) ≡ false) × (bytes_eq (codes "casez") (w ∷ ws) ≡ false) × (bytes_eq (codes "for") (w ∷ ws) ≡ false)

pub apart_end : Apart 101 (codes "nd")
unfolding is_reserved reserved_with
apart_end = record { plain = refl; reserved = refl; others = (refl, refl, refl, refl, refl) }

pub apart_else : Apart 101 (codes "lse")
unfolding is_reserved reserved_with
apart_else = record { plain = refl; reserved = refl; others = (refl, refl, refl, refl, refl) }

pub first_no_word : (w : ℕ) (ws : List ℕ) (l : Lexeme) → Apart w ws → First l → sees_word (w ∷ ws) (Some l) ≡ false
first_no_word w ws l a (at_semi is) = mark_word 59 [] w ws l is
first_no_word w ws l a (at_begin is) = other_word (codes "begin") (w ∷ ws) l is a.others.0
first_no_word w ws l a (at_if is) = other_word (codes "if") (w ∷ ws) l is a.others.1
first_no_word w ws l a (at_case is) = other_word (codes "case") (w ∷ ws) l is a.others.2
first_no_word w ws l a (at_casez is) = other_word (codes "casez") (w ∷ ws) l is a.others.3
first_no_word w ws l a (at_for is) = other_word (codes "for") (w ∷ ws) l is a.others.4
first_no_word w ws l a (at_name called is) = name_word l called w ws is a.plain a.reserved
first_no_word w ws l a (at_brace is) = mark_word 123 [] w ws l is

first_no_colon : (l : Lexeme) → First l → sees (codes ":") (Some l) ≡ false
first_no_colon l (at_semi is) = other_mark (codes ";") (codes ":") l is refl
first_no_colon l (at_begin is) = word_mark 98 (codes "egin") 58 [] l is
first_no_colon l (at_if is) = word_mark 105 (codes "f") 58 [] l is
first_no_colon l (at_case is) = word_mark 99 (codes "ase") 58 [] l is
first_no_colon l (at_casez is) = word_mark 99 (codes "asez") 58 [] l is
first_no_colon l (at_for is) = word_mark 102 (codes "or") 58 [] l is
first_no_colon l (at_name called is) = name_mark l called 58 [] is
first_no_colon l (at_brace is) = other_mark (codes "{") (codes ":") l is refl

pub no_word_at : (w : ℕ) (ws : List ℕ) (us vs : List Lexeme) (next : Option Lexeme) → Apart w ws → Begins us → sees_word (w ∷ ws) (front (us ++ vs) next) ≡ false
no_word_at w ws us vs next a b = ap (λ z. sees_word (w ∷ ws) (front (z ++ vs) next)) b.is ∙ first_no_word w ws b.lexeme a b.first

pub no_colon_at : (us vs : List Lexeme) (next : Option Lexeme) → Begins us → sees (codes ":") (front (us ++ vs) next) ≡ false
no_colon_at us vs next b = ap (λ z. sees (codes ":") (front (z ++ vs) next)) b.is ∙ first_no_colon b.lexeme b.first

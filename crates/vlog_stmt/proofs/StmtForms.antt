-- What the forms of statements begin with, and statements in a row.
--     form_semi, .. form_brace        which statement a lexeme begins
--     stmts_read, stmts_from          statements in a row, in front of `end`
use Rattle.std.proofs.Common.{◌≡◌, ℕ, ◌≤◌, Bool, true, false, List, [], ◌∷◌, ◌++◌, Option, Some, refl, sym, ap, ◌∙◌, append_assoc, arith}
use Rattle.std.specs.Prelude.{not, ◌||◌, codes}
use Rattle.vlog_tree.specs.declared.stmt.Assigns.{Assigns}
use Rattle.vlog_tree.specs.declared.stmt.Stmt.{Stmt}
use Rattle.vlog_tree.specs.Lexemes.{Lexeme, IsMark, IsWord, is_mark, mark_of, start}
use Rattle.vlog_tree.specs.Names.{name_of}
use Rattle.vlog_tree.specs.Reserved.{is_reserved, reserved_with}
use Rattle.vlog_tree.specs.Statements.{SpellsStmt, SpellsStmts, assigns_of}
use Rattle.vlog_tree.specs.Statements as g
use Rattle.vlog_tree.specs.Depth.{deepest_of, depth_of_stmt}
use Rattle.vlog_expr.specs.Reading.{mark_if, name_if, sees, sees_word}
use Rattle.vlog_stmt.specs.declared.form.Form.TheVariants as form
use Rattle.vlog_stmt.specs.Targets.{is_named, begins_target}
use Rattle.vlog_stmt.specs.Statements.{assigns_if, form_if, before}
use Rattle.vlog_stmt.proofs.WordLemmas.{marked, other_mark, other_word, mark_word, word_mark, name_mark, name_word}
use Rattle.vlog_stmt.proofs.StmtDepths.{depth-Empty, depth-Block, depth-Assign, depth-If-alone, depth-If-else, depth-Case, depth-For, deepest_one, deepest_none}
use Rattle.vlog_stmt.proofs.StmtBegins.{begins, apart_end, apart_else, no_word_at, no_colon_at}
use Rattle.vlog_stmt.proofs.Exact.{front}
use Rattle.vlog_stmt.proofs.ManyExact.{Many, stopped, more}
use Rattle.vlog_stmt.proofs.ArmsExact.{Opens}

-- a statement is some depth
pub stmt_some : {open_if : Bool} {us : List Lexeme} {x : Stmt} → SpellsStmt open_if us x → 1 ≤ depth_of_stmt x
stmt_some {us = us} (g.empty semi is o parts same) = let d = ap depth_of_stmt same ∙ depth-Empty (start us) in omega arith
stmt_some {us = us} (g.block begin end ns is label ss w named inside last o parts same) = let d = ap depth_of_stmt same ∙ depth-Block (start us) label ss in omega arith
stmt_some {us = us} (g.assign mark semi ts vs target value by aimed known spelled ends o parts same) = let d = ap depth_of_stmt same ∙ depth-Assign (start us) target by value in omega arith
stmt_some {us = us} (g.if_alone word left right cs is inner test chosen w p q r t o parts same) = let d = ap depth_of_stmt same ∙ depth-If-alone (start us) test chosen in omega arith
stmt_some {us = us} (g.if_else word left right otherwise cs is js test chosen rest w p q r t u v parts same) = let d = ap depth_of_stmt same ∙ depth-If-else (start us) test chosen rest in omega arith
stmt_some {us = us} (g.cases word left right end cs is matching has selector arms w p q r t u o parts same) = let d = ap depth_of_stmt same ∙ depth-Case (start us) matching selector arms in omega arith
stmt_some {us = us} (g.loop word hs is header body w p q parts same) = let d = ap depth_of_stmt same ∙ depth-For (start us) header body in omega arith

-- which statement a lexeme begins
pub seen_mark : (w : List ℕ) (l : Lexeme) → IsMark w l → sees w (Some l) ≡ true
unfolding sees
seen_mark w l is = is

pub seen_word : (w : List ℕ) (l : Lexeme) → IsWord w l → sees_word w (Some l) ≡ true
unfolding sees_word
seen_word w l is = is

pub form_semi : (l : Lexeme) → IsMark (codes ";") l → form_if (Some l) ≡ form.Empty
unfolding form_if
form_semi l is = let a = seen_mark (codes ";") l is in rw a refl

pub form_begin : (l : Lexeme) → IsWord (codes "begin") l → form_if (Some l) ≡ form.Block
unfolding form_if
form_begin l is =
    let a : sees (codes ";") (Some l) ≡ false = word_mark 98 (codes "egin") 59 [] l is in
    let b = seen_word (codes "begin") l is in rw (a, b) refl

pub form_of_if : (l : Lexeme) → IsWord (codes "if") l → form_if (Some l) ≡ form.If
unfolding form_if
form_of_if l is =
    let a : sees (codes ";") (Some l) ≡ false = word_mark 105 (codes "f") 59 [] l is in
    let b : sees_word (codes "begin") (Some l) ≡ false = other_word (codes "if") (codes "begin") l is refl in
    let c = seen_word (codes "if") l is in rw (a, b, c) refl

pub form_case : (l : Lexeme) → IsWord (codes "case") l → form_if (Some l) ≡ form.Case
unfolding form_if
form_case l is =
    let a : sees (codes ";") (Some l) ≡ false = word_mark 99 (codes "ase") 59 [] l is in
    let b : sees_word (codes "begin") (Some l) ≡ false = other_word (codes "case") (codes "begin") l is refl in
    let c : sees_word (codes "if") (Some l) ≡ false = other_word (codes "case") (codes "if") l is refl in
    let d = seen_word (codes "case") l is in rw (a, b, c, d) refl

pub form_casez : (l : Lexeme) → IsWord (codes "casez") l → form_if (Some l) ≡ form.Casez
unfolding form_if
form_casez l is =
    let a : sees (codes ";") (Some l) ≡ false = word_mark 99 (codes "asez") 59 [] l is in
    let b : sees_word (codes "begin") (Some l) ≡ false = other_word (codes "casez") (codes "begin") l is refl in
    let c : sees_word (codes "if") (Some l) ≡ false = other_word (codes "casez") (codes "if") l is refl in
    let d : sees_word (codes "case") (Some l) ≡ false = other_word (codes "casez") (codes "case") l is refl in
    let f = seen_word (codes "casez") l is in rw (a, b, c, d, f) refl

pub form_for : (l : Lexeme) → IsWord (codes "for") l → form_if (Some l) ≡ form.For
unfolding form_if
form_for l is =
    let a : sees (codes ";") (Some l) ≡ false = word_mark 102 (codes "or") 59 [] l is in
    let b : sees_word (codes "begin") (Some l) ≡ false = other_word (codes "for") (codes "begin") l is refl in
    let c : sees_word (codes "if") (Some l) ≡ false = other_word (codes "for") (codes "if") l is refl in
    let d : sees_word (codes "case") (Some l) ≡ false = other_word (codes "for") (codes "case") l is refl in
    let f : sees_word (codes "casez") (Some l) ≡ false = other_word (codes "for") (codes "casez") l is refl in
    let h = seen_word (codes "for") l is in rw (a, b, c, d, f, h) refl

pub form_name : (l : Lexeme) (called : List ℕ) → name_of l ≡ Some called → form_if (Some l) ≡ form.Target
unfolding form_if begins_target is_named name_if is_reserved reserved_with
form_name l called is =
    let a : sees (codes ";") (Some l) ≡ false = name_mark l called 59 [] is in
    let b : sees_word (codes "begin") (Some l) ≡ false = name_word l called 98 (codes "egin") is refl refl in
    let c : sees_word (codes "if") (Some l) ≡ false = name_word l called 105 (codes "f") is refl refl in
    let d : sees_word (codes "case") (Some l) ≡ false = name_word l called 99 (codes "ase") is refl refl in
    let f : sees_word (codes "casez") (Some l) ≡ false = name_word l called 99 (codes "asez") is refl refl in
    let h : sees_word (codes "for") (Some l) ≡ false = name_word l called 102 (codes "or") is refl refl in rw (a, b, c, d, f, h, is) refl

pub either_true : (b : Bool) → (b || true) ≡ true
either_true true = refl
either_true false = refl

pub form_brace : (l : Lexeme) → IsMark (codes "{") l → form_if (Some l) ≡ form.Target
unfolding form_if begins_target
form_brace l is =
    let a : sees (codes ";") (Some l) ≡ false = other_mark (codes "{") (codes ";") l is refl in
    let b : sees_word (codes "begin") (Some l) ≡ false = mark_word 123 [] 98 (codes "egin") l is in
    let c : sees_word (codes "if") (Some l) ≡ false = mark_word 123 [] 105 (codes "f") l is in
    let d : sees_word (codes "case") (Some l) ≡ false = mark_word 123 [] 99 (codes "ase") l is in
    let f : sees_word (codes "casez") (Some l) ≡ false = mark_word 123 [] 99 (codes "asez") l is in
    let h : sees_word (codes "for") (Some l) ≡ false = mark_word 123 [] 102 (codes "or") l is in
    let k = seen_mark (codes "{") l is in let t = either_true (is_named (name_if (Some l))) in rw (a, b, c, d, f, h, k, t) refl

-- an assigning mark opens no select
pub no_square : (l : Lexeme) (by : Assigns) → assigns_of (mark_of l) ≡ Some by → (b : Bool) → is_mark (codes "[") l ≡ b → b ≡ false
unfolding assigns_of
no_square l by known false is = refl
no_square l by known true is = let same = ap assigns_of (marked (codes "[") l is) in cc

pub assigns_closed : (l : Lexeme) (by : Assigns) → assigns_of (mark_of l) ≡ Some by → sees (codes "[") (Some l) ≡ false
unfolding sees
assigns_closed l by known = no_square l by known (is_mark (codes "[") l) refl ∙ refl

pub known_assigns : (l : Lexeme) (by : Assigns) → assigns_if (Some l) ≡ Some by → assigns_of (mark_of l) ≡ Some by
unfolding assigns_if mark_if
known_assigns l by seen = seen

pub is_seen : (l : Lexeme) → sees_word (codes "else") (Some l) ≡ true → IsWord (codes "else") l
unfolding sees_word
is_seen l seen = seen

-- what is no `else`'s own
pub shut : (o : Bool) {us : List Lexeme} {x : Stmt} (next : Option Lexeme) → SpellsStmt o us x → (o ≡ true → sees_word (codes "else") next ≡ false) → sees_word (codes "else") next ≡ true → SpellsStmt false us x
shut false next sp closed seen = sp
shut true next sp closed seen = let no = sym seen ∙ closed refl in cc

-- statements in a row
pub record Stmts (room : ℕ) (us : List Lexeme) (xs : List Stmt) : Type 0 where
  pub spelled : SpellsStmts us xs
  pub shallow : deepest_of depth_of_stmt xs ≤ room

pub stmts_read : (room : ℕ) (goes : Option Lexeme → Bool) (us : List Lexeme) (xs : List Stmt) (next : Option Lexeme) → Many (Opens room) goes us xs next → Stmts room us xs
stmts_read room goes us xs next (stopped off none is_none) =
    let d = ap (deepest_of depth_of_stmt) is_none ∙ deepest_none depth_of_stmt in record { spelled = g.no_stmts none is_none; shallow = omega arith }
stmts_read room goes us xs next (more is js x ys on o m parts same) =
    let t = stmts_read room goes js ys next m in
    let d = ap (deepest_of depth_of_stmt) same ∙ deepest_one depth_of_stmt x ys in let low = o.shallow in let rest = t.shallow in
    record { spelled = g.more o.open_if is js x ys o.spelled t.spelled parts same; shallow = omega arith }

pub stmts_else : (us : List Lexeme) (xs : List Stmt) (r : Lexeme) → IsWord (codes "end") r → SpellsStmts us xs → sees_word (codes "else") (front us (Some r)) ≡ false
stmts_else us xs r ends (g.no_stmts none all) = ap (λ z. sees_word (codes "else") (front z (Some r))) none ∙ other_word (codes "end") (codes "else") r ends refl
stmts_else us xs r ends (g.more open_if is js x ys sp rest parts all) = ap (λ z. sees_word (codes "else") (front z (Some r))) parts ∙ no_word_at 101 (codes "lse") is js (Some r) apart_else (begins sp)

pub stmts_colon : (us vs : List Lexeme) (xs : List Stmt) (r : Lexeme) (next : Option Lexeme) → IsWord (codes "end") r → SpellsStmts us xs → sees (codes ":") (front (us ++ r ∷ vs) next) ≡ false
stmts_colon us vs xs r next ends (g.no_stmts none all) = ap (λ z. sees (codes ":") (front (z ++ r ∷ vs) next)) none ∙ word_mark 101 (codes "nd") 58 [] r ends
stmts_colon us vs xs r next ends (g.more open_if is js x ys sp rest parts all) =
    ap (λ z. sees (codes ":") (front z next)) (ap (λ z. z ++ r ∷ vs) parts ∙ append_assoc is js (r ∷ vs)) ∙ no_colon_at is (js ++ r ∷ vs) next (begins sp)

pub stmts_from : (room : ℕ) (us : List Lexeme) (xs : List Stmt) (r : Lexeme) → IsWord (codes "end") r → SpellsStmts us xs → deepest_of depth_of_stmt xs ≤ room → Many (Opens room) (before (codes "end")) us xs (Some r)
unfolding before
stmts_from room us xs r ends (g.no_stmts none all) low = let seen = seen_word (codes "end") r ends in stopped (rw seen refl) none all
stmts_from room us xs r ends (g.more open_if is js x ys sp rest parts all) low =
    let d = ap (deepest_of depth_of_stmt) all ∙ deepest_one depth_of_stmt x ys in
    more is js x ys (ap (λ z. not (sees_word (codes "end") (front z (Some r)))) parts ∙ ap not (no_word_at 101 (codes "nd") is js (Some r) apart_end (begins sp)))
    (record { open_if = open_if; spelled = sp; shallow = omega arith; closed = λ o. stmts_else js ys r ends rest })
    (stmts_from room js ys r ends rest (omega arith)) parts all

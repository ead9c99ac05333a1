-- Which lexemes spell which statement (IEEE 1364-2005, A.6), one case a production.
-- `SpellsStmt open_if ls s`: the statement is open where an `else` behind it would belong to an `if` in it. So what stands
-- before an `else` isn't open, and the `else` belongs to the nearest `if` without one.
--     SpellsStmt open_if ls s, SpellsStmts ls ss   a statement, and statements in a row
--     SpellsArms matching default ls as            case items; whether one of them is the default
--     SpellsLoop ls header                         what stands behind `for`
--     SpellsControl ls c                           what stands behind `@`
use Rattle.std.specs.Prelude.{◌≡◌, ℕ, ◌&&◌, ◌==◌, if◌then◌else◌, Bool, true, false, List, [], ◌∷◌, ◌++◌, Option, Some, None, codes}
use Rattle.vlog_tree.specs.declared.ident.Ident.{Ident}
use Rattle.vlog_tree.specs.declared.expr.Expr.{Expr}
use Rattle.vlog_tree.specs.declared.stmt.Assigns.{Assigns}
use Rattle.vlog_tree.specs.declared.stmt.Assigns.TheVariants.{Blocking, Nonblocking}
use Rattle.vlog_tree.specs.declared.stmt.Matching.{Matching}
use Rattle.vlog_tree.specs.declared.stmt.Matching.TheVariants.{Exact, Wildcard}
use Rattle.vlog_tree.specs.declared.stmt.Arm.{Arm}
use Rattle.vlog_tree.specs.declared.stmt.Loop.{Loop}
use Rattle.vlog_tree.specs.declared.stmt.Stmt.{Stmt}
use Rattle.vlog_tree.specs.declared.stmt.Stmt.TheVariants as stmt
use Rattle.vlog_tree.specs.declared.stmt.Edge.{Edge}
use Rattle.vlog_tree.specs.declared.stmt.Edge.TheVariants as edge
use Rattle.vlog_tree.specs.declared.stmt.Event.{Event}
use Rattle.vlog_tree.specs.declared.stmt.Control.{Control}
use Rattle.vlog_tree.specs.declared.stmt.Control.TheVariants as control
use Rattle.vlog_tree.specs.Lexemes.{Lexeme, mark_of, IsMark, IsWord, start}
use Rattle.vlog_tree.specs.Names.{IsIdent}
use Rattle.vlog_tree.specs.Expressions.{SpellsList, SpellsPlain, SpellsPlainList, SpellsTarget}
use Rattle.vlog_tree.specs.Lists.{SpellsOptional, SpellsLabel}

-- = or <=
unfoldable pub assigns_of : List ℕ → Option Assigns
assigns_of [] = None
assigns_of (a ∷ []) = if a == 61 then Some Blocking else None
assigns_of (a ∷ b ∷ []) = if a == 60 && b == 61 then Some Nonblocking else None
assigns_of (a ∷ b ∷ c ∷ bs) = None

-- case or casez
pub data IsMatching : Lexeme → Matching → Type 0 where
  exact : {l : Lexeme} {m : Matching} → IsWord (codes "case") l → m ≡ Exact → IsMatching l m
  wildcard : {l : Lexeme} {m : Matching} → IsWord (codes "casez") l → m ≡ Wildcard → IsMatching l m

-- the labels of a case item: z digits stand in those of `casez` alone
unfoldable pub SpellsLabels : Matching → List Lexeme → List Expr → Type 0
SpellsLabels Exact ls es = SpellsPlainList ls es
SpellsLabels Wildcard ls es = SpellsList ls es

-- "(" id "=" expr ";" expr ";" id "=" expr ")"
pub data SpellsLoop : List Lexeme → Loop → Type 0 where
  loop : {ls : List Lexeme} {header : Loop} (left first equals1 semi1 semi2 second equals2 right : Lexeme) (xs ys zs : List Lexeme)
      → IsMark (codes "(") left → IsIdent first header.variable → IsMark (codes "=") equals1 → SpellsPlain xs header.start
      → IsMark (codes ";") semi1 → SpellsPlain ys header.test → IsMark (codes ";") semi2
      → IsIdent second header.stepped → IsMark (codes "=") equals2 → SpellsPlain zs header.step → IsMark (codes ")") right
      → ls ≡ left ∷ first ∷ equals1 ∷ (xs ++ semi1 ∷ (ys ++ semi2 ∷ second ∷ equals2 ∷ (zs ++ right ∷ [])))
      → SpellsLoop ls header

-- [ ":" ]
pub data MayColon : List Lexeme → Type 0 where
  without : {ls : List Lexeme} → ls ≡ [] → MayColon ls
  with : {ls : List Lexeme} (colon : Lexeme) → IsMark (codes ":") colon → ls ≡ colon ∷ [] → MayColon ls

mutual
  pub data SpellsStmt : Bool → List Lexeme → Stmt → Type 0 where
    -- ";"
    empty : {open_if : Bool} {ls : List Lexeme} {s : Stmt} (semi : Lexeme)
        → IsMark (codes ";") semi
        → open_if ≡ false → ls ≡ semi ∷ [] → s ≡ stmt.Empty (start ls) → SpellsStmt open_if ls s
    -- "begin" [ ":" id ] { stmt } "end"
    block : {open_if : Bool} {ls : List Lexeme} {s : Stmt} (begin end : Lexeme) (ns is : List Lexeme) (label : Option Ident) (ss : List Stmt)
        → IsWord (codes "begin") begin → SpellsOptional SpellsLabel ns label → SpellsStmts is ss → IsWord (codes "end") end
        → open_if ≡ false → ls ≡ begin ∷ (ns ++ (is ++ end ∷ [])) → s ≡ stmt.Block (start ls) label ss → SpellsStmt open_if ls s
    -- lval ( "=" | "<=" ) expr ";"
    assign : {open_if : Bool} {ls : List Lexeme} {s : Stmt} (mark semi : Lexeme) (ts vs : List Lexeme) (target value : Expr) (by : Assigns)
        → SpellsTarget ts target → assigns_of (mark_of mark) ≡ Some by → SpellsPlain vs value → IsMark (codes ";") semi
        → open_if ≡ false → ls ≡ ts ++ mark ∷ (vs ++ semi ∷ []) → s ≡ stmt.Assign (start ls) target by value → SpellsStmt open_if ls s
    -- "if" "(" expr ")" stmt
    if_alone : {open_if : Bool} {ls : List Lexeme} {s : Stmt} (word left right : Lexeme) (cs is : List Lexeme) (inner : Bool) (test : Expr) (yes : Stmt)
        → IsWord (codes "if") word → IsMark (codes "(") left → SpellsPlain cs test → IsMark (codes ")") right → SpellsStmt inner is yes
        → open_if ≡ true → ls ≡ word ∷ left ∷ (cs ++ right ∷ is) → s ≡ stmt.If (start ls) test yes None → SpellsStmt open_if ls s
    -- "if" "(" expr ")" stmt "else" stmt
    if_else : {open_if : Bool} {ls : List Lexeme} {s : Stmt} (word left right otherwise : Lexeme) (cs is js : List Lexeme) (test : Expr) (yes no : Stmt)
        → IsWord (codes "if") word → IsMark (codes "(") left → SpellsPlain cs test → IsMark (codes ")") right → SpellsStmt false is yes
        → IsWord (codes "else") otherwise → SpellsStmt open_if js no
        → ls ≡ word ∷ left ∷ (cs ++ right ∷ (is ++ otherwise ∷ js)) → s ≡ stmt.If (start ls) test yes (Some no) → SpellsStmt open_if ls s
    -- ( "case" | "casez" ) "(" expr ")" { L(expr) ":" stmt | "default" [ ":" ] stmt } "endcase"
    cases : {open_if : Bool} {ls : List Lexeme} {s : Stmt} (word left right end : Lexeme) (cs is : List Lexeme) (matching : Matching) (has_default : Bool) (selector : Expr) (arms : List (Arm Stmt))
        → IsMatching word matching → IsMark (codes "(") left → SpellsPlain cs selector → IsMark (codes ")") right
        → SpellsArms matching has_default is arms → IsWord (codes "endcase") end
        → open_if ≡ false → ls ≡ word ∷ left ∷ (cs ++ right ∷ (is ++ end ∷ [])) → s ≡ stmt.Case (start ls) matching selector arms → SpellsStmt open_if ls s
    -- "for" "(" id "=" expr ";" expr ";" id "=" expr ")" stmt
    loop : {open_if : Bool} {ls : List Lexeme} {s : Stmt} (word : Lexeme) (hs is : List Lexeme) (header : Loop) (body : Stmt)
        → IsWord (codes "for") word → SpellsLoop hs header → SpellsStmt open_if is body
        → ls ≡ word ∷ (hs ++ is) → s ≡ stmt.For (start ls) header body → SpellsStmt open_if ls s

  pub data SpellsStmts : List Lexeme → List Stmt → Type 0 where
    no_stmts : {ls : List Lexeme} {ss : List Stmt} → ls ≡ [] → ss ≡ [] → SpellsStmts ls ss
    more : {ls : List Lexeme} {ss : List Stmt} (open_if : Bool) (is js : List Lexeme) (s : Stmt) (others : List Stmt)
        → SpellsStmt open_if is s → SpellsStmts js others
        → ls ≡ is ++ js → ss ≡ s ∷ others → SpellsStmts ls ss

  pub data SpellsArms : Matching → Bool → List Lexeme → List (Arm Stmt) → Type 0 where
    no_arms : {matching : Matching} {has_default : Bool} {ls : List Lexeme} {arms : List (Arm Stmt)}
        → has_default ≡ false → ls ≡ [] → arms ≡ [] → SpellsArms matching has_default ls arms
    -- L(expr) ":" stmt
    labelled : {matching : Matching} {has_default : Bool} {ls : List Lexeme} {arms : List (Arm Stmt)} (colon : Lexeme) (es is js : List Lexeme) (open_if : Bool) (labels : List Expr) (body : Stmt) (others : List (Arm Stmt))
        → SpellsLabels matching es labels → IsMark (codes ":") colon → SpellsStmt open_if is body → SpellsArms matching has_default js others
        → ls ≡ es ++ colon ∷ (is ++ js) → arms ≡ record { place = start ls; labels = labels; body = body } ∷ others → SpellsArms matching has_default ls arms
    -- "default" [ ":" ] stmt
    default : {matching : Matching} {has_default : Bool} {ls : List Lexeme} {arms : List (Arm Stmt)} (word : Lexeme) (cs is js : List Lexeme) (open_if : Bool) (body : Stmt) (others : List (Arm Stmt))
        → IsWord (codes "default") word → MayColon cs → SpellsStmt open_if is body → SpellsArms matching false js others
        → has_default ≡ true → ls ≡ word ∷ (cs ++ (is ++ js)) → arms ≡ record { place = start ls; labels = []; body = body } ∷ others → SpellsArms matching has_default ls arms

-- [ "posedge" | "negedge" ]
pub data SpellsEdge : List Lexeme → Edge → Type 0 where
  any : {ls : List Lexeme} {e : Edge} → ls ≡ [] → e ≡ edge.Any → SpellsEdge ls e
  rising : {ls : List Lexeme} {e : Edge} (l : Lexeme) → IsWord (codes "posedge") l → ls ≡ l ∷ [] → e ≡ edge.Rising → SpellsEdge ls e
  falling : {ls : List Lexeme} {e : Edge} (l : Lexeme) → IsWord (codes "negedge") l → ls ≡ l ∷ [] → e ≡ edge.Falling → SpellsEdge ls e

-- "[" expr "]"
pub data SpellsIndex : List Lexeme → Expr → Type 0 where
  index : {ls : List Lexeme} {i : Expr} (left right : Lexeme) (is : List Lexeme)
      → IsMark (codes "[") left → SpellsPlain is i → IsMark (codes "]") right
      → ls ≡ left ∷ (is ++ right ∷ []) → SpellsIndex ls i

-- [ "posedge" | "negedge" ] id [ "[" expr "]" ]
pub data SpellsEvent : List Lexeme → Event → Type 0 where
  event : {ls : List Lexeme} {e : Event} (l : Lexeme) (es is : List Lexeme)
      → SpellsEdge es e.edge → IsIdent l e.name → SpellsOptional SpellsIndex is e.index
      → ls ≡ es ++ l ∷ is → SpellsEvent ls e

-- "or" or ","
pub data IsBetweenEvents : Lexeme → Type 0 where
  word : {l : Lexeme} → IsWord (codes "or") l → IsBetweenEvents l
  comma : {l : Lexeme} → IsMark (codes ",") l → IsBetweenEvents l

-- ev { ( "or" | "," ) ev }
pub data SpellsEvents : List Lexeme → List Event → Type 0 where
  one : {ls : List Lexeme} {es : List Event} (e : Event) → SpellsEvent ls e → es ≡ e ∷ [] → SpellsEvents ls es
  more : {ls : List Lexeme} {es : List Event} (between : Lexeme) (is js : List Lexeme) (e : Event) (others : List Event)
      → SpellsEvent is e → IsBetweenEvents between → SpellsEvents js others
      → ls ≡ is ++ between ∷ js → es ≡ e ∷ others → SpellsEvents ls es

-- control = "*" | "(" "*" ")" | "(" ev { ( "or" | "," ) ev } ")"
pub data SpellsControl : List Lexeme → Control → Type 0 where
  star : {ls : List Lexeme} {c : Control} (l : Lexeme) → IsMark (codes "*") l → ls ≡ l ∷ [] → c ≡ control.Reads → SpellsControl ls c
  star_in_brackets : {ls : List Lexeme} {c : Control} (left l right : Lexeme)
      → IsMark (codes "(") left → IsMark (codes "*") l → IsMark (codes ")") right
      → ls ≡ left ∷ l ∷ right ∷ [] → c ≡ control.Reads → SpellsControl ls c
  events : {ls : List Lexeme} {c : Control} (left right : Lexeme) (is : List Lexeme) (es : List Event)
      → IsMark (codes "(") left → SpellsEvents is es → IsMark (codes ")") right
      → ls ≡ left ∷ (is ++ right ∷ []) → c ≡ control.Events es → SpellsControl ls c

-- Which lexemes spell which item of a module (IEEE 1364-2005, A.1.4, A.4.2 and A.6), one case a production; what an item
-- declares is in `Declarations`.
-- `SpellsItem open_if ls i`: as of a statement, the item is open where an `else` behind it would belong to an `if` in it.
--     SpellsItem, SpellsItems, SpellsBlock, SpellsItemArms      items, gblock, and the items of a generate case
use Rattle.std.specs.Prelude.{◌≡◌, Bool, true, false, List, [], ◌∷◌, ◌++◌, Option, Some, None, codes}
use Rattle.vlog_tree.specs.declared.ident.Ident.{Ident}
use Rattle.vlog_tree.specs.declared.expr.Expr.{Expr}
use Rattle.vlog_tree.specs.declared.stmt.Arm.{Arm}
use Rattle.vlog_tree.specs.declared.stmt.Loop.{Loop}
use Rattle.vlog_tree.specs.declared.stmt.Stmt.{Stmt}
use Rattle.vlog_tree.specs.declared.stmt.Control.{Control}
use Rattle.vlog_tree.specs.declared.item.Block.{Block}
use Rattle.vlog_tree.specs.declared.item.Item.{Item}
use Rattle.vlog_tree.specs.declared.item.Item.TheVariants as item
use Rattle.vlog_tree.specs.Lexemes.{Lexeme, IsMark, IsWord, start}
use Rattle.vlog_tree.specs.Expressions.{SpellsPlain, SpellsPlainList}
use Rattle.vlog_tree.specs.Lists.{SpellsOptional, SpellsLabel}
use Rattle.vlog_tree.specs.Statements.{MayColon, SpellsLoop, SpellsStmt, SpellsControl}
pub use Rattle.vlog_tree.specs.Declarations.{SpellsRange, SpellsSigned, SpellsShape, SpellsDirection, SpellsValue, SpellsNet, SpellsBinding, SpellsAssignment, IsGate, SpellsGate, SpellsNamed, SpellsConnections, SpellsPassed, SpellsInstance, SpellsDeclaration}

mutual
  pub data SpellsItem : Bool → List Lexeme → Item → Type 0 where
    declaration : {open_if : Bool} {ls : List Lexeme} {i : Item}
        → SpellsDeclaration ls i → open_if ≡ false → SpellsItem open_if ls i
    -- "always" "@" control stmt
    always : {open_if : Bool} {ls : List Lexeme} {i : Item} (word at : Lexeme) (cs ss : List Lexeme) (c : Control) (s : Stmt)
        → IsWord (codes "always") word → IsMark (codes "@") at → SpellsControl cs c → SpellsStmt open_if ss s
        → ls ≡ word ∷ at ∷ (cs ++ ss) → i ≡ item.Always (start ls) c s → SpellsItem open_if ls i
    -- "generate" { item } "endgenerate"
    generate : {open_if : Bool} {ls : List Lexeme} {i : Item} (word end : Lexeme) (is : List Lexeme) (items : List Item)
        → IsWord (codes "generate") word → SpellsItems is items → IsWord (codes "endgenerate") end
        → open_if ≡ false → ls ≡ word ∷ (is ++ end ∷ []) → i ≡ item.Generate (start ls) items → SpellsItem open_if ls i
    -- "for" "(" id "=" expr ";" expr ";" id "=" expr ")" "begin" ":" id { item } "end"
    loop : {open_if : Bool} {ls : List Lexeme} {i : Item} (word begin end : Lexeme) (hs ns is : List Lexeme) (header : Loop) (label : Ident) (items : List Item)
        → IsWord (codes "for") word → SpellsLoop hs header → IsWord (codes "begin") begin → SpellsLabel ns label → SpellsItems is items → IsWord (codes "end") end
        → open_if ≡ false → ls ≡ word ∷ (hs ++ begin ∷ (ns ++ (is ++ end ∷ []))) → i ≡ item.For (start ls) header label items → SpellsItem open_if ls i
    -- "if" "(" expr ")" gblock
    if_alone : {open_if : Bool} {ls : List Lexeme} {i : Item} (word left right : Lexeme) (cs is : List Lexeme) (inner : Bool) (test : Expr) (yes : Block (List Item))
        → IsWord (codes "if") word → IsMark (codes "(") left → SpellsPlain cs test → IsMark (codes ")") right → SpellsBlock inner is yes
        → open_if ≡ true → ls ≡ word ∷ left ∷ (cs ++ right ∷ is) → i ≡ item.If (start ls) test yes None → SpellsItem open_if ls i
    -- "if" "(" expr ")" gblock "else" gblock
    if_else : {open_if : Bool} {ls : List Lexeme} {i : Item} (word left right otherwise : Lexeme) (cs is js : List Lexeme) (test : Expr) (yes no : Block (List Item))
        → IsWord (codes "if") word → IsMark (codes "(") left → SpellsPlain cs test → IsMark (codes ")") right → SpellsBlock false is yes
        → IsWord (codes "else") otherwise → SpellsBlock open_if js no
        → ls ≡ word ∷ left ∷ (cs ++ right ∷ (is ++ otherwise ∷ js)) → i ≡ item.If (start ls) test yes (Some no) → SpellsItem open_if ls i
    -- "case" "(" expr ")" { L(expr) ":" gblock | "default" [ ":" ] gblock } "endcase"
    cases : {open_if : Bool} {ls : List Lexeme} {i : Item} (word left right end : Lexeme) (cs is : List Lexeme) (has_default : Bool) (selector : Expr) (arms : List (Arm (Block (List Item))))
        → IsWord (codes "case") word → IsMark (codes "(") left → SpellsPlain cs selector → IsMark (codes ")") right
        → SpellsItemArms has_default is arms → IsWord (codes "endcase") end
        → open_if ≡ false → ls ≡ word ∷ left ∷ (cs ++ right ∷ (is ++ end ∷ [])) → i ≡ item.Case (start ls) selector arms → SpellsItem open_if ls i

  pub data SpellsItems : List Lexeme → List Item → Type 0 where
    no_items : {ls : List Lexeme} {items : List Item} → ls ≡ [] → items ≡ [] → SpellsItems ls items
    more : {ls : List Lexeme} {items : List Item} (open_if : Bool) (is js : List Lexeme) (i : Item) (others : List Item)
        → SpellsItem open_if is i → SpellsItems js others
        → ls ≡ is ++ js → items ≡ i ∷ others → SpellsItems ls items

  -- gblock = item | ";" | "begin" [ ":" id ] { item } "end"
  pub data SpellsBlock : Bool → List Lexeme → Block (List Item) → Type 0 where
    one : {open_if : Bool} {ls : List Lexeme} {b : Block (List Item)} (i : Item)
        → SpellsItem open_if ls i → b ≡ record { name = None; items = i ∷ [] } → SpellsBlock open_if ls b
    nothing : {open_if : Bool} {ls : List Lexeme} {b : Block (List Item)} (semi : Lexeme)
        → IsMark (codes ";") semi → open_if ≡ false → ls ≡ semi ∷ [] → b ≡ record { name = None; items = [] } → SpellsBlock open_if ls b
    group : {open_if : Bool} {ls : List Lexeme} {b : Block (List Item)} (begin end : Lexeme) (ns is : List Lexeme) (label : Option Ident) (items : List Item)
        → IsWord (codes "begin") begin → SpellsOptional SpellsLabel ns label → SpellsItems is items → IsWord (codes "end") end
        → open_if ≡ false → ls ≡ begin ∷ (ns ++ (is ++ end ∷ [])) → b ≡ record { name = label; items = items } → SpellsBlock open_if ls b

  pub data SpellsItemArms : Bool → List Lexeme → List (Arm (Block (List Item))) → Type 0 where
    no_arms : {has_default : Bool} {ls : List Lexeme} {arms : List (Arm (Block (List Item)))}
        → has_default ≡ false → ls ≡ [] → arms ≡ [] → SpellsItemArms has_default ls arms
    -- L(expr) ":" gblock
    labelled : {has_default : Bool} {ls : List Lexeme} {arms : List (Arm (Block (List Item)))} (colon : Lexeme) (es is js : List Lexeme) (open_if : Bool) (labels : List Expr) (body : Block (List Item)) (others : List (Arm (Block (List Item))))
        → SpellsPlainList es labels → IsMark (codes ":") colon → SpellsBlock open_if is body → SpellsItemArms has_default js others
        → ls ≡ es ++ colon ∷ (is ++ js) → arms ≡ record { place = start ls; labels = labels; body = body } ∷ others → SpellsItemArms has_default ls arms
    -- "default" [ ":" ] gblock
    default : {has_default : Bool} {ls : List Lexeme} {arms : List (Arm (Block (List Item)))} (word : Lexeme) (cs is js : List Lexeme) (open_if : Bool) (body : Block (List Item)) (others : List (Arm (Block (List Item))))
        → IsWord (codes "default") word → MayColon cs → SpellsBlock open_if is body → SpellsItemArms false js others
        → has_default ≡ true → ls ≡ word ∷ (cs ++ (is ++ js)) → arms ≡ record { place = start ls; labels = []; body = body } ∷ others → SpellsItemArms has_default ls arms

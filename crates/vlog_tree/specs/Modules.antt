-- Which lexemes spell which list of modules (IEEE 1364-2005, A.1.2 and A.1.3), one case a production.
--     SpellsParameters ls ps      the parameters of a head
--     SpellsPorts ls ps           the ports of a head
--     SpellsModule ls m           a module
--     SpellsModules ls ms         a source
use Rattle.std.specs.Prelude.{◌≡◌, List, [], ◌∷◌, ◌++◌, codes}
use Rattle.vlog_tree.specs.declared.ident.Ident.{Ident}
use Rattle.vlog_tree.specs.declared.port.Direction.{Direction}
use Rattle.vlog_tree.specs.declared.port.Shape.{Shape}
use Rattle.vlog_tree.specs.declared.port.Port.{Port}
use Rattle.vlog_tree.specs.declared.port.Port.TheVariants.{Declared, Named}
use Rattle.vlog_tree.specs.declared.module.Parameter.{Parameter}
use Rattle.vlog_tree.specs.declared.module.Module.{Module}
use Rattle.vlog_tree.specs.Lexemes.{Lexeme, IsMark, IsWord, start}
use Rattle.vlog_tree.specs.Names.{IsIdent}
use Rattle.vlog_tree.specs.Lists.{SpellsCommas, SpellsIdent}
use Rattle.vlog_tree.specs.Items.{SpellsShape, SpellsDirection, SpellsBinding, SpellsItems}

-- pbind = [ "signed" ] [ range ] id "=" expr
pub data SpellsParameter : List Lexeme → Parameter → Type 0 where
  parameter : {ls : List Lexeme} {p : Parameter} (ss bs : List Lexeme)
      → SpellsShape ss p.shape → SpellsBinding bs p.binding → ls ≡ ss ++ bs → SpellsParameter ls p

-- [ "parameter" ] pbind
pub data SpellsFurther : List Lexeme → Parameter → Type 0 where
  without : {ls : List Lexeme} {p : Parameter} → SpellsParameter ls p → SpellsFurther ls p
  with : {ls : List Lexeme} {p : Parameter} (word : Lexeme) (ps : List Lexeme) → IsWord (codes "parameter") word → SpellsParameter ps p → ls ≡ word ∷ ps → SpellsFurther ls p

-- "parameter" pbind { "," [ "parameter" ] pbind }
pub data AreParameters : List Lexeme → List Parameter → Type 0 where
  one : {ls : List Lexeme} {ps : List Parameter} (word : Lexeme) (xs : List Lexeme) (p : Parameter)
      → IsWord (codes "parameter") word → SpellsParameter xs p → ls ≡ word ∷ xs → ps ≡ p ∷ [] → AreParameters ls ps
  more : {ls : List Lexeme} {ps : List Parameter} (word comma : Lexeme) (xs ys : List Lexeme) (p : Parameter) (others : List Parameter)
      → IsWord (codes "parameter") word → SpellsParameter xs p → IsMark (codes ",") comma → SpellsCommas SpellsFurther ys others
      → ls ≡ word ∷ (xs ++ comma ∷ ys) → ps ≡ p ∷ others → AreParameters ls ps

-- [ "#" "(" "parameter" pbind { "," [ "parameter" ] pbind } ")" ]
pub data SpellsParameters : List Lexeme → List Parameter → Type 0 where
  none : {ls : List Lexeme} {ps : List Parameter} → ls ≡ [] → ps ≡ [] → SpellsParameters ls ps
  some : {ls : List Lexeme} {ps : List Parameter} (hash left right : Lexeme) (xs : List Lexeme)
      → IsMark (codes "#") hash → IsMark (codes "(") left → AreParameters xs ps → IsMark (codes ")") right
      → ls ≡ hash ∷ left ∷ (xs ++ right ∷ []) → SpellsParameters ls ps

-- id
pub data SpellsName : List Lexeme → Port → Type 0 where
  name : {ls : List Lexeme} {p : Port} (i : Ident) → SpellsIdent ls i → p ≡ Named i → SpellsName ls p

-- ansi = dir [ "signed" ] [ range ] id
pub data SpellsAnsi : List Lexeme → Port → Type 0 where
  ansi : {ls : List Lexeme} {p : Port} (l : Lexeme) (ds ss : List Lexeme) (d : Direction) (shape : Shape) (i : Ident)
      → SpellsDirection ds d → SpellsShape ss shape → IsIdent l i
      → ls ≡ ds ++ (ss ++ l ∷ []) → p ≡ Declared d shape i → SpellsAnsi ls p

-- ansi or id
pub data SpellsPort : List Lexeme → Port → Type 0 where
  ansi : {ls : List Lexeme} {p : Port} → SpellsAnsi ls p → SpellsPort ls p
  name : {ls : List Lexeme} {p : Port} → SpellsName ls p → SpellsPort ls p

-- ports = L(id) | ansi { "," ( ansi | id ) }
pub data ArePorts : List Lexeme → List Port → Type 0 where
  names : {ls : List Lexeme} {ps : List Port} → SpellsCommas SpellsName ls ps → ArePorts ls ps
  one : {ls : List Lexeme} {ps : List Port} (p : Port) → SpellsAnsi ls p → ps ≡ p ∷ [] → ArePorts ls ps
  more : {ls : List Lexeme} {ps : List Port} (comma : Lexeme) (xs ys : List Lexeme) (p : Port) (others : List Port)
      → SpellsAnsi xs p → IsMark (codes ",") comma → SpellsCommas SpellsPort ys others
      → ls ≡ xs ++ comma ∷ ys → ps ≡ p ∷ others → ArePorts ls ps

-- [ "(" [ ports ] ")" ]
pub data SpellsPorts : List Lexeme → List Port → Type 0 where
  none : {ls : List Lexeme} {ps : List Port} → ls ≡ [] → ps ≡ [] → SpellsPorts ls ps
  empty : {ls : List Lexeme} {ps : List Port} (left right : Lexeme) → IsMark (codes "(") left → IsMark (codes ")") right → ls ≡ left ∷ right ∷ [] → ps ≡ [] → SpellsPorts ls ps
  some : {ls : List Lexeme} {ps : List Port} (left right : Lexeme) (xs : List Lexeme)
      → IsMark (codes "(") left → ArePorts xs ps → IsMark (codes ")") right → ls ≡ left ∷ (xs ++ right ∷ []) → SpellsPorts ls ps

-- module = "module" id [ parameters ] [ "(" [ ports ] ")" ] ";" { item } "endmodule"
pub data SpellsModule : List Lexeme → Module → Type 0 where
  «module» : {ls : List Lexeme} {m : Module} (word l semi end : Lexeme) (qs ps is : List Lexeme)
      → IsWord (codes "module") word → IsIdent l m.name → SpellsParameters qs m.parameters → SpellsPorts ps m.ports
      → IsMark (codes ";") semi → SpellsItems is m.items → IsWord (codes "endmodule") end
      → ls ≡ word ∷ l ∷ (qs ++ (ps ++ semi ∷ (is ++ end ∷ []))) → m.place ≡ start ls → SpellsModule ls m

-- source = { module }
pub data SpellsModules : List Lexeme → List Module → Type 0 where
  none : {ls : List Lexeme} {ms : List Module} → ls ≡ [] → ms ≡ [] → SpellsModules ls ms
  more : {ls : List Lexeme} {ms : List Module} (xs ys : List Lexeme) (m : Module) (others : List Module)
      → SpellsModule xs m → SpellsModules ys others → ls ≡ xs ++ ys → ms ≡ m ∷ others → SpellsModules ls ms

-- Which lexemes spell which declaration (IEEE 1364-2005, A.1.4, A.2, A.3 and A.4), one case a production.
--     SpellsShape ls shape              [ "signed" ] [ range ]
--     SpellsDirection ls d              dir
--     SpellsConnections ls cs           what stands in the brackets of an instance
--     SpellsDeclaration ls i            an item that holds no statement and no item
use Rattle.std.specs.Prelude.{◌≡◌, ◌≢◌, Bool, true, false, List, [], ◌∷◌, ◌++◌, Option, Some, map, codes}
use Rattle.vlog_tree.specs.declared.ident.Ident.{Ident}
use Rattle.vlog_tree.specs.declared.expr.Expr.{Expr}
use Rattle.vlog_tree.specs.declared.port.Range.{Range}
use Rattle.vlog_tree.specs.declared.port.Shape.{Shape}
use Rattle.vlog_tree.specs.declared.port.Direction.{Direction}
use Rattle.vlog_tree.specs.declared.port.Direction.TheVariants.{Input, Output, Register}
use Rattle.vlog_tree.specs.declared.item.Net.{Net}
use Rattle.vlog_tree.specs.declared.item.Binding.{Binding}
use Rattle.vlog_tree.specs.declared.item.Assignment.{Assignment}
use Rattle.vlog_tree.specs.declared.item.GateKind.{GateKind}
use Rattle.vlog_tree.specs.declared.item.GateKind.TheVariants as kind
use Rattle.vlog_tree.specs.declared.item.Gate.{Gate}
use Rattle.vlog_tree.specs.declared.item.NamedConnection.{NamedConnection}
use Rattle.vlog_tree.specs.declared.item.Connections.{Connections}
use Rattle.vlog_tree.specs.declared.item.Connections.TheVariants.{Ordered, Named}
use Rattle.vlog_tree.specs.declared.item.Instance.{Instance}
use Rattle.vlog_tree.specs.declared.item.Item.{Item}
use Rattle.vlog_tree.specs.declared.item.Item.TheVariants as item
use Rattle.vlog_tree.specs.Lexemes.{Lexeme, IsMark, IsWord, start}
use Rattle.vlog_tree.specs.Names.{IsIdent}
use Rattle.vlog_tree.specs.Expressions.{SpellsPlain, SpellsPlainList, SpellsTarget}
use Rattle.vlog_tree.specs.Lists.{SpellsCommas, SpellsOptional, SpellsIdent}

-- range = "[" expr ":" expr "]"
pub data SpellsRange : List Lexeme → Range → Type 0 where
  range : {ls : List Lexeme} {r : Range} (left colon right : Lexeme) (is js : List Lexeme)
      → IsMark (codes "[") left → SpellsPlain is r.msb → IsMark (codes ":") colon → SpellsPlain js r.lsb → IsMark (codes "]") right
      → ls ≡ left ∷ (is ++ colon ∷ (js ++ right ∷ [])) → SpellsRange ls r

-- [ "signed" ]
pub data SpellsSigned : List Lexeme → Bool → Type 0 where
  unsigned : {ls : List Lexeme} {b : Bool} → ls ≡ [] → b ≡ false → SpellsSigned ls b
  signed : {ls : List Lexeme} {b : Bool} (l : Lexeme) → IsWord (codes "signed") l → ls ≡ l ∷ [] → b ≡ true → SpellsSigned ls b

-- [ "signed" ] [ range ]
pub data SpellsShape : List Lexeme → Shape → Type 0 where
  shape : {ls : List Lexeme} {s : Shape} (is js : List Lexeme)
      → SpellsSigned is s.signed → SpellsOptional SpellsRange js s.range
      → ls ≡ is ++ js → SpellsShape ls s

-- dir = "input" [ "wire" ] | "output" [ "wire" | "reg" ]
pub data SpellsDirection : List Lexeme → Direction → Type 0 where
  input : {ls : List Lexeme} {d : Direction} (l : Lexeme) → IsWord (codes "input") l → ls ≡ l ∷ [] → d ≡ Input → SpellsDirection ls d
  input_wire : {ls : List Lexeme} {d : Direction} (l m : Lexeme) → IsWord (codes "input") l → IsWord (codes "wire") m → ls ≡ l ∷ m ∷ [] → d ≡ Input → SpellsDirection ls d
  output : {ls : List Lexeme} {d : Direction} (l : Lexeme) → IsWord (codes "output") l → ls ≡ l ∷ [] → d ≡ Output → SpellsDirection ls d
  output_wire : {ls : List Lexeme} {d : Direction} (l m : Lexeme) → IsWord (codes "output") l → IsWord (codes "wire") m → ls ≡ l ∷ m ∷ [] → d ≡ Output → SpellsDirection ls d
  output_reg : {ls : List Lexeme} {d : Direction} (l m : Lexeme) → IsWord (codes "output") l → IsWord (codes "reg") m → ls ≡ l ∷ m ∷ [] → d ≡ Register → SpellsDirection ls d

-- "=" expr
pub data SpellsValue : List Lexeme → Expr → Type 0 where
  value : {ls : List Lexeme} {e : Expr} (equals : Lexeme) (es : List Lexeme) → IsMark (codes "=") equals → SpellsPlain es e → ls ≡ equals ∷ es → SpellsValue ls e

-- id [ "=" expr ]
pub data SpellsNet : List Lexeme → Net → Type 0 where
  net : {ls : List Lexeme} {n : Net} (l : Lexeme) (vs : List Lexeme)
      → IsIdent l n.name → SpellsOptional SpellsValue vs n.driver → ls ≡ l ∷ vs → SpellsNet ls n

-- id "=" expr
pub data SpellsBinding : List Lexeme → Binding → Type 0 where
  binding : {ls : List Lexeme} {b : Binding} (l : Lexeme) (vs : List Lexeme)
      → IsIdent l b.name → SpellsValue vs b.value → ls ≡ l ∷ vs → SpellsBinding ls b

-- lval "=" expr
pub data SpellsAssignment : List Lexeme → Assignment → Type 0 where
  assignment : {ls : List Lexeme} {a : Assignment} (ts vs : List Lexeme)
      → SpellsTarget ts a.target → SpellsValue vs a.value → ls ≡ ts ++ vs → SpellsAssignment ls a

-- gate = "and" | "nand" | "or" | "nor" | "xor" | "xnor" | "not" | "buf"
pub data IsGate : Lexeme → GateKind → Type 0 where
  and : {l : Lexeme} {k : GateKind} → IsWord (codes "and") l → k ≡ kind.And → IsGate l k
  nand : {l : Lexeme} {k : GateKind} → IsWord (codes "nand") l → k ≡ kind.Nand → IsGate l k
  or : {l : Lexeme} {k : GateKind} → IsWord (codes "or") l → k ≡ kind.Or → IsGate l k
  nor : {l : Lexeme} {k : GateKind} → IsWord (codes "nor") l → k ≡ kind.Nor → IsGate l k
  xor : {l : Lexeme} {k : GateKind} → IsWord (codes "xor") l → k ≡ kind.Xor → IsGate l k
  xnor : {l : Lexeme} {k : GateKind} → IsWord (codes "xnor") l → k ≡ kind.Xnor → IsGate l k
  not : {l : Lexeme} {k : GateKind} → IsWord (codes "not") l → k ≡ kind.Not → IsGate l k
  buf : {l : Lexeme} {k : GateKind} → IsWord (codes "buf") l → k ≡ kind.Buf → IsGate l k

-- [ id ] "(" L(expr) ")"
pub data SpellsGate : List Lexeme → Gate → Type 0 where
  gate : {ls : List Lexeme} {g : Gate} (left right : Lexeme) (ns is : List Lexeme)
      → SpellsOptional SpellsIdent ns g.name → IsMark (codes "(") left → SpellsPlainList is g.terminals → IsMark (codes ")") right
      → ls ≡ ns ++ left ∷ (is ++ right ∷ []) → g.place ≡ start ls → SpellsGate ls g

-- named = "." id "(" [ expr ] ")"
pub data SpellsNamed : List Lexeme → NamedConnection → Type 0 where
  named : {ls : List Lexeme} {c : NamedConnection} (dot l left right : Lexeme) (is : List Lexeme)
      → IsMark (codes ".") dot → IsIdent l c.name → IsMark (codes "(") left → SpellsOptional SpellsPlain is c.value → IsMark (codes ")") right
      → ls ≡ dot ∷ l ∷ left ∷ (is ++ right ∷ []) → SpellsNamed ls c

-- [ conns ], conns = [ expr ] { "," [ expr ] } | L(named); brackets with nothing between have no connections
pub data SpellsConnections : List Lexeme → Connections → Type 0 where
  none : {ls : List Lexeme} {c : Connections} → ls ≡ [] → c ≡ Ordered [] → SpellsConnections ls c
  ordered : {ls : List Lexeme} {c : Connections} (es : List (Option Expr)) → ls ≢ [] → SpellsCommas (SpellsOptional SpellsPlain) ls es → c ≡ Ordered es → SpellsConnections ls c
  named : {ls : List Lexeme} {c : Connections} (ns : List NamedConnection) → SpellsCommas SpellsNamed ls ns → c ≡ Named ns → SpellsConnections ls c

-- [ "#" "(" ( L(expr) | L(named) ) ")" ]
pub data SpellsPassed : List Lexeme → Connections → Type 0 where
  none : {ls : List Lexeme} {c : Connections} → ls ≡ [] → c ≡ Ordered [] → SpellsPassed ls c
  ordered : {ls : List Lexeme} {c : Connections} (hash left right : Lexeme) (is : List Lexeme) (es : List Expr)
      → IsMark (codes "#") hash → IsMark (codes "(") left → SpellsPlainList is es → IsMark (codes ")") right
      → ls ≡ hash ∷ left ∷ (is ++ right ∷ []) → c ≡ Ordered (map Some es) → SpellsPassed ls c
  named : {ls : List Lexeme} {c : Connections} (hash left right : Lexeme) (is : List Lexeme) (ns : List NamedConnection)
      → IsMark (codes "#") hash → IsMark (codes "(") left → SpellsCommas SpellsNamed is ns → IsMark (codes ")") right
      → ls ≡ hash ∷ left ∷ (is ++ right ∷ []) → c ≡ Named ns → SpellsPassed ls c

-- id "(" [ conns ] ")"
pub data SpellsInstance : List Lexeme → Instance → Type 0 where
  instance : {ls : List Lexeme} {i : Instance} (l left right : Lexeme) (is : List Lexeme)
      → IsIdent l i.name → IsMark (codes "(") left → SpellsConnections is i.connections → IsMark (codes ")") right
      → ls ≡ l ∷ left ∷ (is ++ right ∷ []) → SpellsInstance ls i

-- an item up to its ";", without statements and items inside
pub data SpellsDeclaration : List Lexeme → Item → Type 0 where
  -- dir [ "signed" ] [ range ] L(id) ";"
  ports : {ls : List Lexeme} {i : Item} (semi : Lexeme) (ds ss ns : List Lexeme) (d : Direction) (shape : Shape) (names : List Ident)
      → SpellsDirection ds d → SpellsShape ss shape → SpellsCommas SpellsIdent ns names → IsMark (codes ";") semi
      → ls ≡ ds ++ (ss ++ (ns ++ semi ∷ [])) → i ≡ item.Ports (start ls) d shape names → SpellsDeclaration ls i
  -- "wire" [ "signed" ] [ range ] L( id [ "=" expr ] ) ";"
  wires : {ls : List Lexeme} {i : Item} (word semi : Lexeme) (ss ns : List Lexeme) (shape : Shape) (nets : List Net)
      → IsWord (codes "wire") word → SpellsShape ss shape → SpellsCommas SpellsNet ns nets → IsMark (codes ";") semi
      → ls ≡ word ∷ (ss ++ (ns ++ semi ∷ [])) → i ≡ item.Wires (start ls) shape nets → SpellsDeclaration ls i
  -- "reg" [ "signed" ] [ range ] L(id) ";"
  registers : {ls : List Lexeme} {i : Item} (word semi : Lexeme) (ss ns : List Lexeme) (shape : Shape) (names : List Ident)
      → IsWord (codes "reg") word → SpellsShape ss shape → SpellsCommas SpellsIdent ns names → IsMark (codes ";") semi
      → ls ≡ word ∷ (ss ++ (ns ++ semi ∷ [])) → i ≡ item.Registers (start ls) shape names → SpellsDeclaration ls i
  -- "integer" L(id) ";"
  integers : {ls : List Lexeme} {i : Item} (word semi : Lexeme) (ns : List Lexeme) (names : List Ident)
      → IsWord (codes "integer") word → SpellsCommas SpellsIdent ns names → IsMark (codes ";") semi
      → ls ≡ word ∷ (ns ++ semi ∷ []) → i ≡ item.Integers (start ls) names → SpellsDeclaration ls i
  -- "genvar" L(id) ";"
  genvars : {ls : List Lexeme} {i : Item} (word semi : Lexeme) (ns : List Lexeme) (names : List Ident)
      → IsWord (codes "genvar") word → SpellsCommas SpellsIdent ns names → IsMark (codes ";") semi
      → ls ≡ word ∷ (ns ++ semi ∷ []) → i ≡ item.Genvars (start ls) names → SpellsDeclaration ls i
  -- "parameter" [ "signed" ] [ range ] L( id "=" expr ) ";"
  parameters : {ls : List Lexeme} {i : Item} (word semi : Lexeme) (ss bs : List Lexeme) (shape : Shape) (bindings : List Binding)
      → IsWord (codes "parameter") word → SpellsShape ss shape → SpellsCommas SpellsBinding bs bindings → IsMark (codes ";") semi
      → ls ≡ word ∷ (ss ++ (bs ++ semi ∷ [])) → i ≡ item.Parameters (start ls) shape bindings → SpellsDeclaration ls i
  -- "localparam" [ "signed" ] [ range ] L( id "=" expr ) ";"
  constants : {ls : List Lexeme} {i : Item} (word semi : Lexeme) (ss bs : List Lexeme) (shape : Shape) (bindings : List Binding)
      → IsWord (codes "localparam") word → SpellsShape ss shape → SpellsCommas SpellsBinding bs bindings → IsMark (codes ";") semi
      → ls ≡ word ∷ (ss ++ (bs ++ semi ∷ [])) → i ≡ item.Constants (start ls) shape bindings → SpellsDeclaration ls i
  -- "assign" L( lval "=" expr ) ";"
  assign : {ls : List Lexeme} {i : Item} (word semi : Lexeme) (xs : List Lexeme) (assignments : List Assignment)
      → IsWord (codes "assign") word → SpellsCommas SpellsAssignment xs assignments → IsMark (codes ";") semi
      → ls ≡ word ∷ (xs ++ semi ∷ []) → i ≡ item.Assign (start ls) assignments → SpellsDeclaration ls i
  -- gate L( [ id ] "(" L(expr) ")" ) ";"
  gates : {ls : List Lexeme} {i : Item} (word semi : Lexeme) (gs : List Lexeme) (which : GateKind) (gates : List Gate)
      → IsGate word which → SpellsCommas SpellsGate gs gates → IsMark (codes ";") semi
      → ls ≡ word ∷ (gs ++ semi ∷ []) → i ≡ item.Gates (start ls) which gates → SpellsDeclaration ls i
  -- id [ "#" "(" ( L(expr) | L(named) ) ")" ] L( id "(" [ conns ] ")" ) ";"
  instances : {ls : List Lexeme} {i : Item} (word semi : Lexeme) (ps is : List Lexeme) (called : Ident) (passed : Connections) (instances : List Instance)
      → IsIdent word called → SpellsPassed ps passed → SpellsCommas SpellsInstance is instances → IsMark (codes ";") semi
      → ls ≡ word ∷ (ps ++ (is ++ semi ∷ [])) → i ≡ item.Instances (start ls) called passed instances → SpellsDeclaration ls i

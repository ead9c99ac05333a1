-- Items as they are read. `room` is how deep an expression may be, and `inner` reads an item that stands in another one.
--     head_of o                     what item begins with the lexeme
--     is_nothing head               none does
--     ports, .., instances          declarations
--     always, generate, repeated, choice, cases      what holds statements or items
--     item depth                    an item of such a depth at most
use Rattle.std.specs.Str.{bytes_eq}
use Rattle.std.specs.Prelude.{ℕ, zero, suc, Bool, true, false, if◌then◌else◌, List, [], ◌∷◌, Option, None, length, codes}
use Rattle.rdc_outside.specs.declared.source.Place.{Place}
use Rattle.vlog_tree.specs.declared.ident.Ident.{Ident}
use Rattle.vlog_tree.specs.declared.stmt.Arm.{Arm}
use Rattle.vlog_tree.specs.declared.stmt.Loop.{Loop}
use Rattle.vlog_tree.specs.declared.item.GateKind.{GateKind}
use Rattle.vlog_tree.specs.declared.item.GateKind.TheVariants as kind
use Rattle.vlog_tree.specs.declared.item.Block.{Block}
use Rattle.vlog_tree.specs.declared.item.Item.{Item}
use Rattle.vlog_tree.specs.declared.item.Item.TheVariants as i
use Rattle.vlog_tree.specs.declared.port.Shape.{Shape}
use Rattle.vlog_tree.specs.Lexemes.{Lexeme}
use Rattle.vlog_tree.specs.Names.{name_in}
use Rattle.vlog_expr.specs.declared.stuck.Stuck.TheVariants.{Wrong, Deep}
use Rattle.vlog_expr.specs.Reading.{Reader, ◌>>=◌, ◌>>◌, pure, stop, peek, place_if, word_if, sees, expect, sees_word, expect_word}
use Rattle.vlog_parse.specs.declared.heads.Head.{Head}
use Rattle.vlog_parse.specs.declared.heads.Head.TheVariants as head
use Rattle.vlog_stmt.specs.Lists.{within}
use Rattle.vlog_stmt.specs.Statements.{header, stmt}
use Rattle.vlog_stmt.specs.Controls.{control}
use Rattle.vlog_parse.specs.Lists.{plain_expr, ident, optional, commas, until}
use Rattle.vlog_parse.specs.Parts.{shape, direction, net, binding, assignment, gate, passed, instance, is_name}

-- the gate that the word is
unfoldable pub gate_in : List ℕ → Head
gate_in w =
    if bytes_eq w (codes "and") then head.Gates kind.And
    else (if bytes_eq w (codes "nand") then head.Gates kind.Nand
    else (if bytes_eq w (codes "or") then head.Gates kind.Or
    else (if bytes_eq w (codes "nor") then head.Gates kind.Nor
    else (if bytes_eq w (codes "xor") then head.Gates kind.Xor
    else (if bytes_eq w (codes "xnor") then head.Gates kind.Xnor
    else (if bytes_eq w (codes "not") then head.Gates kind.Not
    else (if bytes_eq w (codes "buf") then head.Gates kind.Buf
    else head.Nothing)))))))

-- the construct that begins with the word
unfoldable pub construct_in : List ℕ → Head
construct_in w =
    if bytes_eq w (codes "always") then head.Always
    else (if bytes_eq w (codes "generate") then head.Generate
    else (if bytes_eq w (codes "for") then head.For
    else (if bytes_eq w (codes "if") then head.If
    else (if bytes_eq w (codes "case") then head.Case
    else gate_in w))))

-- the declaration that begins with the word
unfoldable pub declaration_in : List ℕ → Head
declaration_in w =
    if bytes_eq w (codes "input") then head.Ports
    else (if bytes_eq w (codes "output") then head.Ports
    else (if bytes_eq w (codes "wire") then head.Wires
    else (if bytes_eq w (codes "reg") then head.Registers
    else (if bytes_eq w (codes "integer") then head.Integers
    else (if bytes_eq w (codes "genvar") then head.Genvars
    else (if bytes_eq w (codes "parameter") then head.Parameters
    else (if bytes_eq w (codes "localparam") then head.Constants
    else (if bytes_eq w (codes "assign") then head.Assign
    else construct_in w))))))))

-- the item that begins with the word
unfoldable pub head_in : List ℕ → Head
head_in w = if is_name (name_in w) then head.Instances else declaration_in w

-- the item that begins with the lexeme
unfoldable pub head_of : Option Lexeme → Head
head_of o = head_in (word_if o)

-- no item begins so
abbrev pub is_nothing : Head → Bool
is_nothing head.Ports = false
is_nothing head.Wires = false
is_nothing head.Registers = false
is_nothing head.Integers = false
is_nothing head.Genvars = false
is_nothing head.Parameters = false
is_nothing head.Constants = false
is_nothing head.Assign = false
is_nothing (head.Gates which) = false
is_nothing head.Instances = false
is_nothing head.Always = false
is_nothing head.Generate = false
is_nothing head.For = false
is_nothing head.If = false
is_nothing head.Case = false
is_nothing head.Nothing = true

-- [ "signed" ] [ range ] and what stands behind
unfoldable pub shaped : {A : Type 0} → ℕ → Reader A → Reader (Shape × A)
shaped room p = do
  s ← shape room
  x ← p
  pure (s, x)

-- a word, what it declares, and ";"
unfoldable pub declared : {A : Type 0} → List ℕ → Reader A → (Place → A → Item) → Reader Item
declared w p made = do
  place ← peek place_if
  expect_word w
  x ← p
  expect (codes ";")
  pure (made place x)

-- dir [ "signed" ] [ range ] L(id) ";"
unfoldable pub ports : ℕ → Reader Item
ports room = do
  place ← peek place_if
  d ← direction
  x ← shaped room (commas ident)
  expect (codes ";")
  pure (i.Ports place d x.0 x.1)

-- "wire" [ "signed" ] [ range ] L( id [ "=" expr ] ) ";"
unfoldable pub wires : ℕ → Reader Item
wires room = declared (codes "wire") (shaped room (commas (net room))) (λ place x. i.Wires place x.0 x.1)

-- "reg" [ "signed" ] [ range ] L(id) ";"
unfoldable pub registers : ℕ → Reader Item
registers room = declared (codes "reg") (shaped room (commas ident)) (λ place x. i.Registers place x.0 x.1)

-- "integer" L(id) ";"
unfoldable pub integers : Reader Item
integers = declared (codes "integer") (commas ident) (λ place x. i.Integers place x)

-- "genvar" L(id) ";"
unfoldable pub genvars : Reader Item
genvars = declared (codes "genvar") (commas ident) (λ place x. i.Genvars place x)

-- "parameter" [ "signed" ] [ range ] L( id "=" expr ) ";"
unfoldable pub parameters : ℕ → Reader Item
parameters room = declared (codes "parameter") (shaped room (commas (binding room))) (λ place x. i.Parameters place x.0 x.1)

-- "localparam" [ "signed" ] [ range ] L( id "=" expr ) ";"
unfoldable pub constants : ℕ → Reader Item
constants room = declared (codes "localparam") (shaped room (commas (binding room))) (λ place x. i.Constants place x.0 x.1)

-- "assign" L( lval "=" expr ) ";"
unfoldable pub assign : ℕ → Reader Item
assign room = declared (codes "assign") (commas (assignment room)) (λ place x. i.Assign place x)

unfoldable pub word_of_gate : GateKind → List ℕ
word_of_gate kind.And = codes "and"
word_of_gate kind.Nand = codes "nand"
word_of_gate kind.Or = codes "or"
word_of_gate kind.Nor = codes "nor"
word_of_gate kind.Xor = codes "xor"
word_of_gate kind.Xnor = codes "xnor"
word_of_gate kind.Not = codes "not"
word_of_gate kind.Buf = codes "buf"

-- gate L( [ id ] "(" L(expr) ")" ) ";"
unfoldable pub gates : ℕ → GateKind → Reader Item
gates room which = declared (word_of_gate which) (commas (gate room)) (λ place x. i.Gates place which x)

-- id [ "#" "(" ( L(expr) | L(named) ) ")" ] L( id "(" [ conns ] ")" ) ";"
unfoldable pub instances : ℕ → Reader Item
instances room = do
  called ← ident
  given ← passed room
  found ← commas (instance room)
  expect (codes ";")
  pure (i.Instances called.place called given found)

-- "always" "@" control stmt
unfoldable pub always : ℕ → Reader Item
always room = do
  place ← peek place_if
  expect_word (codes "always")
  expect (codes "@")
  c ← control room
  s ← stmt room
  pure (i.Always place c s)

-- ":" id
unfoldable pub label : Reader Ident
label = expect (codes ":") >> ident

module _ (room : ℕ) (inner : Reader Item) where
  -- "generate" { item } "endgenerate"
  unfoldable pub generate : Reader Item
  generate = do
    place ← peek place_if
    expect_word (codes "generate")
    items ← until (codes "endgenerate") inner
    pure (i.Generate place items)

  -- "begin" ":" id { item } "end", behind the header of a loop
  unfoldable pub turned : Place → Loop → Reader Item
  turned place turns = do
    expect_word (codes "begin")
    name ← label
    items ← until (codes "end") inner
    pure (i.For place turns name items)

  -- "for" "(" .. ")" "begin" ":" id { item } "end"
  unfoldable pub repeated : Reader Item
  repeated = do
    place ← peek place_if
    expect_word (codes "for")
    turns ← header room
    turned place turns

  -- "begin" [ ":" id ] { item } "end"
  unfoldable pub group : Reader (Block (List Item))
  group = do
    expect_word (codes "begin")
    name ← optional (sees (codes ":")) label
    items ← until (codes "end") inner
    pure (record { name = name; items = items })

  -- ";"
  unfoldable pub nothing : Reader (Block (List Item))
  nothing = do
    expect (codes ";")
    pure (record { name = None; items = [] })

  -- item | ";"
  unfoldable pub short : Reader (Block (List Item))
  short = do
    empty ← peek (sees (codes ";"))
    if empty then nothing else (do one ← inner; pure (record { name = None; items = one ∷ [] }))

  -- item | ";" | "begin" [ ":" id ] { item } "end"
  unfoldable pub block : Reader (Block (List Item))
  block = do
    grouped ← peek (sees_word (codes "begin"))
    if grouped then group else short

  -- "else" gblock
  unfoldable pub otherwise : Reader (Block (List Item))
  otherwise = expect_word (codes "else") >> block

  -- "if" "(" expr ")" gblock [ "else" gblock ]
  unfoldable pub choice : Reader Item
  choice = do
    place ← peek place_if
    expect_word (codes "if")
    expect (codes "(")
    test ← plain_expr room
    expect (codes ")")
    chosen ← block
    rest ← optional (sees_word (codes "else")) otherwise
    pure (i.If place test chosen rest)

  unfoldable pub default_body : Place → Reader (Arm (Block (List Item)))
  default_body place = block >>= (λ body. pure (record { place = place; labels = []; body = body }))

  -- "default" [ ":" ] gblock
  unfoldable pub default_arm : Reader (Arm (Block (List Item)))
  default_arm = do
    place ← peek place_if
    expect_word (codes "default")
    there ← peek (sees (codes ":"))
    if there then expect (codes ":") >> default_body place else default_body place

  -- L(expr) ":" gblock
  unfoldable pub labelled_arm : Reader (Arm (Block (List Item)))
  labelled_arm = do
    place ← peek place_if
    labels ← commas (plain_expr room)
    expect (codes ":")
    body ← block
    pure (record { place = place; labels = labels; body = body })

  -- a case item, and others
  unfoldable pub arm_then : Reader (Arm (Block (List Item))) → Reader (List (Arm (Block (List Item)))) → Reader (List (Arm (Block (List Item))))
  arm_then p rest = do
    a ← p
    others ← rest
    pure (a ∷ others)

  -- the case items from here on: whether `endcase` stands here, whether `default` does, whether it may, and the readers of
  -- what follows it, or another item
  unfoldable pub arms_by : Bool → Bool → Bool → Reader (List (Arm (Block (List Item)))) → Reader (List (Arm (Block (List Item)))) → Reader (List (Arm (Block (List Item))))
  arms_by true other may behind further = expect_word (codes "endcase") >> pure []
  arms_by false true true behind further = arm_then default_arm behind
  arms_by false true false behind further = stop Wrong
  arms_by false false may behind further = arm_then labelled_arm further

  -- case items up to `endcase`; the number bounds the turns
  unfoldable pub arms_from : ℕ → Bool → Reader (List (Arm (Block (List Item))))
  arms_from zero may = stop Wrong
  arms_from (suc n) may = do
    done ← peek (sees_word (codes "endcase"))
    other ← peek (sees_word (codes "default"))
    arms_by done other may (arms_from n false) (arms_from n may)

  unfoldable pub arms : Reader (List (Arm (Block (List Item))))
  arms = λ ls. arms_from (suc (length ls)) true ls

  -- "case" "(" expr ")" { L(expr) ":" gblock | "default" [ ":" ] gblock } "endcase"
  unfoldable pub cases : Reader Item
  cases = do
    place ← peek place_if
    expect_word (codes "case")
    expect (codes "(")
    selector ← plain_expr room
    expect (codes ")")
    found ← arms
    pure (i.Case place selector found)

  -- an item with items inside no deeper than there is room
  unfoldable pub item_by : ℕ → Head → Reader Item
  item_by depth head.Ports = ports depth
  item_by depth head.Wires = wires depth
  item_by depth head.Registers = registers depth
  item_by depth head.Integers = integers
  item_by depth head.Genvars = genvars
  item_by depth head.Parameters = parameters depth
  item_by depth head.Constants = constants depth
  item_by depth head.Assign = assign depth
  item_by depth (head.Gates which) = gates depth which
  item_by depth head.Instances = instances depth
  item_by depth head.Always = always depth
  item_by depth head.Generate = generate
  item_by depth head.For = within room repeated
  item_by depth head.If = within room choice
  item_by depth head.Case = within room cases
  item_by depth head.Nothing = stop Wrong

-- a lexeme that begins no item is wrong, however deep one may be
unfoldable pub deep_by : Head → Reader Item
deep_by h = if is_nothing h then stop Wrong else stop Deep

-- an item no deeper than the number
unfoldable pub item : ℕ → Reader Item
item zero = peek head_of >>= deep_by
item (suc room) = peek head_of >>= item_by room (item room) (suc room)

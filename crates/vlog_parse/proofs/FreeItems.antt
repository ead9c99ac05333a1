-- No lexeme behind the first one of a module is the word `module`: statements, declarations, items.
use Rattle.std.proofs.Common.{◌≡◌, ℕ, Bool, List, [], ◌∷◌, Option, Some, refl}
use Rattle.std.specs.Prelude.{codes}
use Rattle.vlog_lex.specs.declared.tokens.Kind.{Kind}
use Rattle.vlog_lex.specs.declared.tokens.Kind.TheVariants.{Identifier, Number, Str, Mark}
use Rattle.vlog_tree.specs.declared.ident.Ident.{Ident}
use Rattle.vlog_tree.specs.declared.expr.Expr.{Expr}
use Rattle.vlog_tree.specs.declared.stmt.Assigns.{Assigns}
use Rattle.vlog_tree.specs.declared.stmt.Matching.{Matching}
use Rattle.vlog_tree.specs.declared.stmt.Matching.TheVariants as matching_as
use Rattle.vlog_tree.specs.declared.stmt.Arm.{Arm}
use Rattle.vlog_tree.specs.declared.stmt.Loop.{Loop}
use Rattle.vlog_tree.specs.declared.stmt.Stmt.{Stmt}
use Rattle.vlog_tree.specs.declared.stmt.Edge.{Edge}
use Rattle.vlog_tree.specs.declared.stmt.Event.{Event}
use Rattle.vlog_tree.specs.declared.stmt.Control.{Control}
use Rattle.vlog_tree.specs.declared.port.Range.{Range}
use Rattle.vlog_tree.specs.declared.port.Shape.{Shape}
use Rattle.vlog_tree.specs.declared.port.Direction.{Direction}
use Rattle.vlog_tree.specs.declared.item.Net.{Net}
use Rattle.vlog_tree.specs.declared.item.Binding.{Binding}
use Rattle.vlog_tree.specs.declared.item.Assignment.{Assignment}
use Rattle.vlog_tree.specs.declared.item.GateKind.{GateKind}
use Rattle.vlog_tree.specs.declared.item.Gate.{Gate}
use Rattle.vlog_tree.specs.declared.item.NamedConnection.{NamedConnection}
use Rattle.vlog_tree.specs.declared.item.Connections.{Connections}
use Rattle.vlog_tree.specs.declared.item.Instance.{Instance}
use Rattle.vlog_tree.specs.declared.item.Block.{Block}
use Rattle.vlog_tree.specs.declared.item.Item.{Item}
use Rattle.vlog_tree.specs.Lexemes.{Lexeme, mark_in, word_in}
use Rattle.vlog_tree.specs.Expressions as x
use Rattle.vlog_tree.specs.Expressions.{SpellsPlain, SpellsPlainList, SpellsTarget, SpellsTargets}
use Rattle.vlog_tree.specs.Lists as l
use Rattle.vlog_tree.specs.Lists.{SpellsCommas, SpellsOptional, SpellsIdent, SpellsLabel}
use Rattle.vlog_tree.specs.Statements as s
use Rattle.vlog_tree.specs.Statements.{assigns_of, IsMatching, SpellsLabels, SpellsLoop, MayColon, SpellsStmt, SpellsStmts, SpellsArms, SpellsEdge, SpellsIndex, SpellsEvent, IsBetweenEvents, SpellsEvents, SpellsControl}
use Rattle.vlog_tree.specs.Declarations as d
use Rattle.vlog_tree.specs.Declarations.{SpellsRange, SpellsSigned, SpellsShape, SpellsDirection, SpellsValue, SpellsNet, SpellsBinding, SpellsAssignment, IsGate, SpellsGate, SpellsNamed, SpellsConnections, SpellsPassed, SpellsInstance, SpellsDeclaration}
use Rattle.vlog_tree.specs.Items as i
use Rattle.vlog_tree.specs.Items.{SpellsItem, SpellsItems, SpellsBlock, SpellsItemArms}
use Rattle.vlog_parse.proofs.FreeLemmas.{Free, nothing, behind, both, moved, mark, word, ident, called, by_part, wordless, free, free_list}

plain : {ls : List Lexeme} {e : Expr} → SpellsPlain ls e → Free ls
plain h = free h.spells

plains : {ls : List Lexeme} {es : List Expr} → SpellsPlainList ls es → Free ls
plains h = free_list h.spells

-- lists with commas, and what may be left out
pub commas : {X : Type 0} {Piece : List Lexeme → X → Type 0} → ((us : List Lexeme) (a : X) → Piece us a → Free us) → {ls : List Lexeme} {xs : List X} → SpellsCommas Piece ls xs → Free ls
commas piece {ls = ls} (l.one a h all) = piece ls a h
commas piece (l.more comma us vs a others h marks rest parts all) = moved parts (both (piece us a h) (mark 44 [] comma marks (commas piece rest)))

option : {X : Type 0} {Piece : List Lexeme → X → Type 0} → ((us : List Lexeme) (a : X) → Piece us a → Free us) → {ls : List Lexeme} {o : Option X} → SpellsOptional Piece ls o → Free ls
option piece (l.absent is all) = moved is nothing
option piece {ls = ls} (l.present a h all) = piece ls a h

pub name : {ls : List Lexeme} {a : Ident} → SpellsIdent ls a → Free ls
name {a = a} (l.ident one named is) = moved is (ident one a named nothing)

label : {ls : List Lexeme} {a : Ident} → SpellsLabel ls a → Free ls
label {a = a} (l.label colon one marks named is) = moved is (mark 58 [] colon marks (ident one a named nothing))

by_assigns : (k : Kind) (bs : List ℕ) (a : Assigns) → assigns_of (mark_in k bs) ≡ Some a → word_in k bs ≡ []
unfolding mark_in word_in assigns_of
by_assigns Identifier bs a h = cc
by_assigns Number bs a h = refl
by_assigns Str bs a h = refl
by_assigns Mark bs a h = refl

mutual
  target : {ls : List Lexeme} {e : Expr} → SpellsTarget ls e → Free ls
  target (x.name one c known is e) = moved is (called one c known nothing)
  target (x.index one left right c us a known opens inside closes parts e) = moved parts (called one c known (mark 91 [] left opens (both (plain inside) (mark 93 [] right closes nothing))))
  target (x.select one left part_mark right c part us vs a b known opens fst seen snd closes parts e) =
      moved parts (called one c known (mark 91 [] left opens (both (plain fst) (behind part_mark (wordless part_mark (by_part part_mark.kind part_mark.bytes part seen)) (both (plain snd) (mark 93 [] right closes nothing))))))
  target (x.concat left right us es opens inside closes parts e) = moved parts (mark 123 [] left opens (both (targets inside) (mark 125 [] right closes nothing)))

  targets : {ls : List Lexeme} {es : List Expr} → SpellsTargets ls es → Free ls
  targets (x.one e h all) = target h
  targets (x.more comma us vs e others h marks rest parts all) = moved parts (both (target h) (mark 44 [] comma marks (targets rest)))

matched : (one : Lexeme) (how : Matching) {ls : List Lexeme} → IsMatching one how → Free ls → Free (one ∷ ls)
matched one how (s.exact is by) rest = word (codes "case") one is refl rest
matched one how (s.wildcard is by) rest = word (codes "casez") one is refl rest

labels : (how : Matching) (ls : List Lexeme) (es : List Expr) → SpellsLabels how ls es → Free ls
unfolding SpellsLabels
labels matching_as.Exact ls es h = plains h
labels matching_as.Wildcard ls es h = free_list h

header : {ls : List Lexeme} {h : Loop} → SpellsLoop ls h → Free ls
header {h = h} (s.loop left first equals1 semi1 semi2 second equals2 right xs ys zs opens named1 is1 plain1 ends1 plain2 ends2 named2 is2 plain3 closes parts) =
    moved parts (mark 40 [] left opens (ident first h.variable named1 (mark 61 [] equals1 is1 (both (plain plain1) (mark 59 [] semi1 ends1 (both (plain plain2)
    (mark 59 [] semi2 ends2 (ident second h.stepped named2 (mark 61 [] equals2 is2 (both (plain plain3) (mark 41 [] right closes nothing)))))))))))

colon : {ls : List Lexeme} → MayColon ls → Free ls
colon (s.without is) = moved is nothing
colon (s.with one marks is) = moved is (mark 58 [] one marks nothing)

mutual
  stmt : {o : Bool} {ls : List Lexeme} {a : Stmt} → SpellsStmt o ls a → Free ls
  stmt (s.empty semi marks closed is at) = moved is (mark 59 [] semi marks nothing)
  stmt (s.block begin end ns us named ss begins labelled inside ends closed parts at) =
      moved parts (word (codes "begin") begin begins refl (both (option (λ us a h. label h) labelled) (both (stmts inside) (word (codes "end") end ends refl nothing))))
  stmt (s.assign one semi ts vs to value by fst seen snd marks closed parts at) =
      moved parts (both (target fst) (behind one (wordless one (by_assigns one.kind one.bytes by seen)) (both (plain snd) (mark 59 [] semi marks nothing))))
  stmt (s.if_alone one left right cs us inner test yes_stmt worded opens tested closes inside dangling parts at) =
      moved parts (word (codes "if") one worded refl (mark 40 [] left opens (both (plain tested) (mark 41 [] right closes (stmt inside)))))
  stmt (s.if_else one left right otherwise cs us vs test yes_stmt no_stmt worded opens tested closes fst elses snd parts at) =
      moved parts (word (codes "if") one worded refl (mark 40 [] left opens (both (plain tested) (mark 41 [] right closes (both (stmt fst) (word (codes "else") otherwise elses refl (stmt snd)))))))
  stmt (s.cases one left right end cs us how has_default selector arms_of worded opens tested closes inside ends closed parts at) =
      moved parts (matched one how worded (mark 40 [] left opens (both (plain tested) (mark 41 [] right closes (both (arms inside) (word (codes "endcase") end ends refl nothing))))))
  stmt (s.loop one hs us head body worded heads inside parts at) = moved parts (word (codes "for") one worded refl (both (header heads) (stmt inside)))

  stmts : {ls : List Lexeme} {ss : List Stmt} → SpellsStmts ls ss → Free ls
  stmts (s.no_stmts is all) = moved is nothing
  stmts (s.more dangling us vs a others h rest parts all) = moved parts (both (stmt h) (stmts rest))

  arms : {how : Matching} {has_default : Bool} {ls : List Lexeme} {found : List (Arm Stmt)} → SpellsArms how has_default ls found → Free ls
  arms (s.no_arms has is all) = moved is nothing
  arms {how = how} (s.labelled one es us vs dangling named_so body others labelled marks inside rest parts all) =
      moved parts (both (labels how es named_so labelled) (mark 58 [] one marks (both (stmt inside) (arms rest))))
  arms (s.default one cs us vs dangling body others worded colons inside rest has parts all) =
      moved parts (word (codes "default") one worded refl (both (colon colons) (both (stmt inside) (arms rest))))

edge : {ls : List Lexeme} {e : Edge} → SpellsEdge ls e → Free ls
edge (s.any is by) = moved is nothing
edge (s.rising one worded is by) = moved is (word (codes "posedge") one worded refl nothing)
edge (s.falling one worded is by) = moved is (word (codes "negedge") one worded refl nothing)

index : {ls : List Lexeme} {e : Expr} → SpellsIndex ls e → Free ls
index (s.index left right us opens inside closes parts) = moved parts (mark 91 [] left opens (both (plain inside) (mark 93 [] right closes nothing)))

event : {ls : List Lexeme} {e : Event} → SpellsEvent ls e → Free ls
event {e = e} (s.event one es us edges named indexed parts) = moved parts (both (edge edges) (ident one e.name named (option (λ us a h. index h) indexed)))

between : (one : Lexeme) {ls : List Lexeme} → IsBetweenEvents one → Free ls → Free (one ∷ ls)
between one (s.word is) rest = word (codes "or") one is refl rest
between one (s.comma is) rest = mark 44 [] one is rest

events : {ls : List Lexeme} {es : List Event} → SpellsEvents ls es → Free ls
events (s.one e h all) = event h
events (s.more one us vs e others h is rest parts all) = moved parts (both (event h) (between one is (events rest)))

control : {ls : List Lexeme} {c : Control} → SpellsControl ls c → Free ls
control (s.star one marks is by) = moved is (mark 42 [] one marks nothing)
control (s.star_in_brackets left one right opens marks closes is by) = moved is (mark 40 [] left opens (mark 42 [] one marks (mark 41 [] right closes nothing)))
control (s.events left right us es opens inside closes parts by) = moved parts (mark 40 [] left opens (both (events inside) (mark 41 [] right closes nothing)))

range : {ls : List Lexeme} {r : Range} → SpellsRange ls r → Free ls
range (d.range left one right us vs opens fst marks snd closes parts) =
    moved parts (mark 91 [] left opens (both (plain fst) (mark 58 [] one marks (both (plain snd) (mark 93 [] right closes nothing)))))

signed : {ls : List Lexeme} {b : Bool} → SpellsSigned ls b → Free ls
signed (d.unsigned is by) = moved is nothing
signed (d.signed one worded is by) = moved is (word (codes "signed") one worded refl nothing)

pub shape : {ls : List Lexeme} {a : Shape} → SpellsShape ls a → Free ls
shape (d.shape us vs fst snd parts) = moved parts (both (signed fst) (option (λ us a h. range h) snd))

pub direction : {ls : List Lexeme} {a : Direction} → SpellsDirection ls a → Free ls
direction (d.input one worded is by) = moved is (word (codes "input") one worded refl nothing)
direction (d.input_wire one two worded wired is by) = moved is (word (codes "input") one worded refl (word (codes "wire") two wired refl nothing))
direction (d.output one worded is by) = moved is (word (codes "output") one worded refl nothing)
direction (d.output_wire one two worded wired is by) = moved is (word (codes "output") one worded refl (word (codes "wire") two wired refl nothing))
direction (d.output_reg one two worded held is by) = moved is (word (codes "output") one worded refl (word (codes "reg") two held refl nothing))

value : {ls : List Lexeme} {e : Expr} → SpellsValue ls e → Free ls
value (d.value equals es marks h parts) = moved parts (mark 61 [] equals marks (plain h))

net : {ls : List Lexeme} {n : Net} → SpellsNet ls n → Free ls
net {n = n} (d.net one vs named driven parts) = moved parts (ident one n.name named (option (λ us a h. value h) driven))

pub binding : {ls : List Lexeme} {b : Binding} → SpellsBinding ls b → Free ls
binding {b = b} (d.binding one vs named bound parts) = moved parts (ident one b.name named (value bound))

assignment : {ls : List Lexeme} {a : Assignment} → SpellsAssignment ls a → Free ls
assignment (d.assignment ts vs fst snd parts) = moved parts (both (target fst) (value snd))

gate_word : (one : Lexeme) (k : GateKind) {ls : List Lexeme} → IsGate one k → Free ls → Free (one ∷ ls)
gate_word one k (d.and is by) rest = word (codes "and") one is refl rest
gate_word one k (d.nand is by) rest = word (codes "nand") one is refl rest
gate_word one k (d.or is by) rest = word (codes "or") one is refl rest
gate_word one k (d.nor is by) rest = word (codes "nor") one is refl rest
gate_word one k (d.xor is by) rest = word (codes "xor") one is refl rest
gate_word one k (d.xnor is by) rest = word (codes "xnor") one is refl rest
gate_word one k (d.not is by) rest = word (codes "not") one is refl rest
gate_word one k (d.buf is by) rest = word (codes "buf") one is refl rest

gate : {ls : List Lexeme} {g : Gate} → SpellsGate ls g → Free ls
gate (d.gate left right ns us named opens inside closes parts at) =
    moved parts (both (option (λ us a h. name h) named) (mark 40 [] left opens (both (plains inside) (mark 41 [] right closes nothing))))

named : {ls : List Lexeme} {c : NamedConnection} → SpellsNamed ls c → Free ls
named {c = c} (d.named dot one left right us dots calls opens inside closes parts) =
    moved parts (mark 46 [] dot dots (ident one c.name calls (mark 40 [] left opens (both (option (λ us a h. plain h) inside) (mark 41 [] right closes nothing)))))

connections : {ls : List Lexeme} {c : Connections} → SpellsConnections ls c → Free ls
connections (d.none is by) = moved is nothing
connections (d.ordered es some h by) = commas (λ us a o. option (λ us a h. plain h) o) h
connections (d.named ns h by) = commas (λ us a h. named h) h

passed : {ls : List Lexeme} {c : Connections} → SpellsPassed ls c → Free ls
passed (d.none is by) = moved is nothing
passed (d.ordered hash left right us es hashes opens inside closes parts by) = moved parts (mark 35 [] hash hashes (mark 40 [] left opens (both (plains inside) (mark 41 [] right closes nothing))))
passed (d.named hash left right us ns hashes opens inside closes parts by) =
    moved parts (mark 35 [] hash hashes (mark 40 [] left opens (both (commas (λ us a h. named h) inside) (mark 41 [] right closes nothing))))

instance : {ls : List Lexeme} {a : Instance} → SpellsInstance ls a → Free ls
instance {a = a} (d.instance one left right us calls opens inside closes parts) =
    moved parts (ident one a.name calls (mark 40 [] left opens (both (connections inside) (mark 41 [] right closes nothing))))

declaration : {ls : List Lexeme} {a : Item} → SpellsDeclaration ls a → Free ls
declaration (d.ports semi ds ss ns way across names directed shaped listed marks parts at) =
    moved parts (both (direction directed) (both (shape shaped) (both (commas (λ us a h. name h) listed) (mark 59 [] semi marks nothing))))
declaration (d.wires one semi ss ns across nets worded shaped listed marks parts at) =
    moved parts (word (codes "wire") one worded refl (both (shape shaped) (both (commas (λ us a h. net h) listed) (mark 59 [] semi marks nothing))))
declaration (d.registers one semi ss ns across names worded shaped listed marks parts at) =
    moved parts (word (codes "reg") one worded refl (both (shape shaped) (both (commas (λ us a h. name h) listed) (mark 59 [] semi marks nothing))))
declaration (d.integers one semi ns names worded listed marks parts at) =
    moved parts (word (codes "integer") one worded refl (both (commas (λ us a h. name h) listed) (mark 59 [] semi marks nothing)))
declaration (d.genvars one semi ns names worded listed marks parts at) =
    moved parts (word (codes "genvar") one worded refl (both (commas (λ us a h. name h) listed) (mark 59 [] semi marks nothing)))
declaration (d.parameters one semi ss bs across bindings worded shaped listed marks parts at) =
    moved parts (word (codes "parameter") one worded refl (both (shape shaped) (both (commas (λ us a h. binding h) listed) (mark 59 [] semi marks nothing))))
declaration (d.constants one semi ss bs across bindings worded shaped listed marks parts at) =
    moved parts (word (codes "localparam") one worded refl (both (shape shaped) (both (commas (λ us a h. binding h) listed) (mark 59 [] semi marks nothing))))
declaration (d.assign one semi us assignments worded listed marks parts at) =
    moved parts (word (codes "assign") one worded refl (both (commas (λ us a h. assignment h) listed) (mark 59 [] semi marks nothing)))
declaration (d.gates one semi gs which gates worded listed marks parts at) =
    moved parts (gate_word one which worded (both (commas (λ us a h. gate h) listed) (mark 59 [] semi marks nothing)))
declaration (d.instances one semi ps us what given found calls passes listed marks parts at) =
    moved parts (ident one what calls (both (passed passes) (both (commas (λ us a h. instance h) listed) (mark 59 [] semi marks nothing))))

mutual
  item : {o : Bool} {ls : List Lexeme} {a : Item} → SpellsItem o ls a → Free ls
  item (i.declaration h closed) = declaration h
  item (i.always one at cs ss c body worded marks controls inside parts where_) =
      moved parts (word (codes "always") one worded refl (mark 64 [] at marks (both (control controls) (stmt inside))))
  item (i.generate one end us held worded inside ends closed parts where_) =
      moved parts (word (codes "generate") one worded refl (both (items inside) (word (codes "endgenerate") end ends refl nothing)))
  item (i.loop one begin end hs ns us head called_so held worded heads begins labelled inside ends closed parts where_) =
      moved parts (word (codes "for") one worded refl (both (header heads) (word (codes "begin") begin begins refl (both (label labelled) (both (items inside) (word (codes "end") end ends refl nothing))))))
  item (i.if_alone one left right cs us inner test yes_block worded opens tested closes inside dangling parts where_) =
      moved parts (word (codes "if") one worded refl (mark 40 [] left opens (both (plain tested) (mark 41 [] right closes (block inside)))))
  item (i.if_else one left right otherwise cs us vs test yes_block no_block worded opens tested closes fst elses snd parts where_) =
      moved parts (word (codes "if") one worded refl (mark 40 [] left opens (both (plain tested) (mark 41 [] right closes (both (block fst) (word (codes "else") otherwise elses refl (block snd)))))))
  item (i.cases one left right end cs us has_default selector arms_of worded opens tested closes inside ends closed parts where_) =
      moved parts (word (codes "case") one worded refl (mark 40 [] left opens (both (plain tested) (mark 41 [] right closes (both (item_arms inside) (word (codes "endcase") end ends refl nothing))))))

  pub items : {ls : List Lexeme} {found : List Item} → SpellsItems ls found → Free ls
  items (i.no_items is all) = moved is nothing
  items (i.more dangling us vs a others h rest parts all) = moved parts (both (item h) (items rest))

  block : {o : Bool} {ls : List Lexeme} {b : Block (List Item)} → SpellsBlock o ls b → Free ls
  block (i.one a h by) = item h
  block (i.nothing semi marks closed is by) = moved is (mark 59 [] semi marks nothing)
  block (i.group begin end ns us called_so held begins labelled inside ends closed parts by) =
      moved parts (word (codes "begin") begin begins refl (both (option (λ us a h. label h) labelled) (both (items inside) (word (codes "end") end ends refl nothing))))

  item_arms : {has_default : Bool} {ls : List Lexeme} {found : List (Arm (Block (List Item)))} → SpellsItemArms has_default ls found → Free ls
  item_arms (i.no_arms has is all) = moved is nothing
  item_arms (i.labelled one es us vs dangling named_so body others labelled marks inside rest parts all) =
      moved parts (both (plains labelled) (mark 58 [] one marks (both (block inside) (item_arms rest))))
  item_arms (i.default one cs us vs dangling body others worded colons inside rest has parts all) =
      moved parts (word (codes "default") one worded refl (both (colon colons) (both (block inside) (item_arms rest))))

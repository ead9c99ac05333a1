-- The declarations of each form of item.
use Rattle.std.proofs.Common.{◌≡◌, false, List, [], ◌∷◌, ◌++◌, map, Option, Some, refl, sym, ap, ◌∙◌}
use Rattle.std.specs.List.{flat_map}
use Rattle.rdc_outside.specs.declared.source.Place.{Place}
use Rattle.vlog_tree.specs.declared.ident.Ident.{Ident}
use Rattle.vlog_tree.specs.declared.expr.Expr.{Expr}
use Rattle.vlog_tree.specs.declared.port.Shape.{Shape}
use Rattle.vlog_tree.specs.declared.port.Direction.{Direction}
use Rattle.vlog_tree.specs.declared.stmt.Arm.{Arm}
use Rattle.vlog_tree.specs.declared.stmt.Loop.{Loop}
use Rattle.vlog_tree.specs.declared.stmt.Stmt.{Stmt}
use Rattle.vlog_tree.specs.declared.stmt.Control.{Control}
use Rattle.vlog_tree.specs.declared.item.Net.{Net}
use Rattle.vlog_tree.specs.declared.item.Binding.{Binding}
use Rattle.vlog_tree.specs.declared.item.Assignment.{Assignment}
use Rattle.vlog_tree.specs.declared.item.GateKind.{GateKind}
use Rattle.vlog_tree.specs.declared.item.Gate.{Gate}
use Rattle.vlog_tree.specs.declared.item.Connections.{Connections}
use Rattle.vlog_tree.specs.declared.item.Instance.{Instance}
use Rattle.vlog_tree.specs.declared.item.Block.{Block}
use Rattle.vlog_tree.specs.declared.item.Item.{Item, Item-F, fold-roll-Item}
use Rattle.vlog_tree.specs.declared.item.Item.TheVariants as i
use Rattle.elab_decls.specs.declared.mention.Sort.TheVariants.{Directed, Wire, Register, Integer, Genvar, Thing}
use Rattle.elab_decls.specs.Mentions.{Said, all_said, said_of_item, said_by_parts}

-- those of parts, one after another
parts : (items : List Item) → flat_map (λ (ss : List Said). ss) (map said_of_item items) ≡ flat_map said_of_item items
parts [] = refl
parts (x ∷ xs) = ap (λ ss. said_of_item x ++ ss) (parts xs)

pub said-Ports : (place : Place) (d : Direction) (s : Shape) (names : List Ident) → said_of_item (i.Ports place d s names) ≡ all_said Some (Directed d) s.signed names
unfolding said_of_item said_by_parts
said-Ports place d s names = ap said_of_item (sym (i.rolls-Ports place d s names)) ∙ fold-roll-Item (List Said) said_by_parts (Item-F.Ports place d s names)

pub said-Wires : (place : Place) (s : Shape) (nets : List Net) → said_of_item (i.Wires place s nets) ≡ all_said (λ (n : Net). Some n.name) Wire s.signed nets
unfolding said_of_item said_by_parts
said-Wires place s nets = ap said_of_item (sym (i.rolls-Wires place s nets)) ∙ fold-roll-Item (List Said) said_by_parts (Item-F.Wires place s nets)

pub said-Registers : (place : Place) (s : Shape) (names : List Ident) → said_of_item (i.Registers place s names) ≡ all_said Some Register s.signed names
unfolding said_of_item said_by_parts
said-Registers place s names = ap said_of_item (sym (i.rolls-Registers place s names)) ∙ fold-roll-Item (List Said) said_by_parts (Item-F.Registers place s names)

pub said-Integers : (place : Place) (names : List Ident) → said_of_item (i.Integers place names) ≡ all_said Some Integer false names
unfolding said_of_item said_by_parts
said-Integers place names = ap said_of_item (sym (i.rolls-Integers place names)) ∙ fold-roll-Item (List Said) said_by_parts (Item-F.Integers place names)

pub said-Genvars : (place : Place) (names : List Ident) → said_of_item (i.Genvars place names) ≡ all_said Some Genvar false names
unfolding said_of_item said_by_parts
said-Genvars place names = ap said_of_item (sym (i.rolls-Genvars place names)) ∙ fold-roll-Item (List Said) said_by_parts (Item-F.Genvars place names)

pub said-Parameters : (place : Place) (s : Shape) (bs : List Binding) → said_of_item (i.Parameters place s bs) ≡ all_said (λ (b : Binding). Some b.name) Thing false bs
unfolding said_of_item said_by_parts
said-Parameters place s bs = ap said_of_item (sym (i.rolls-Parameters place s bs)) ∙ fold-roll-Item (List Said) said_by_parts (Item-F.Parameters place s bs)

pub said-Constants : (place : Place) (s : Shape) (bs : List Binding) → said_of_item (i.Constants place s bs) ≡ all_said (λ (b : Binding). Some b.name) Thing false bs
unfolding said_of_item said_by_parts
said-Constants place s bs = ap said_of_item (sym (i.rolls-Constants place s bs)) ∙ fold-roll-Item (List Said) said_by_parts (Item-F.Constants place s bs)

pub said-Assign : (place : Place) (xs : List Assignment) → said_of_item (i.Assign place xs) ≡ []
unfolding said_of_item said_by_parts
said-Assign place xs = ap said_of_item (sym (i.rolls-Assign place xs)) ∙ fold-roll-Item (List Said) said_by_parts (Item-F.Assign place xs)

pub said-Always : (place : Place) (c : Control) (s : Stmt) → said_of_item (i.Always place c s) ≡ []
unfolding said_of_item said_by_parts
said-Always place c s = ap said_of_item (sym (i.rolls-Always place c s)) ∙ fold-roll-Item (List Said) said_by_parts (Item-F.Always place c s)

pub said-Gates : (place : Place) (which : GateKind) (gs : List Gate) → said_of_item (i.Gates place which gs) ≡ all_said (λ (g : Gate). g.name) Thing false gs
unfolding said_of_item said_by_parts
said-Gates place which gs = ap said_of_item (sym (i.rolls-Gates place which gs)) ∙ fold-roll-Item (List Said) said_by_parts (Item-F.Gates place which gs)

pub said-Instances : (place : Place) (called : Ident) (passed : Connections) (is : List Instance) → said_of_item (i.Instances place called passed is) ≡ all_said (λ (i : Instance). Some i.name) Thing false is
unfolding said_of_item said_by_parts
said-Instances place called passed is = ap said_of_item (sym (i.rolls-Instances place called passed is)) ∙ fold-roll-Item (List Said) said_by_parts (Item-F.Instances place called passed is)

pub said-Generate : (place : Place) (items : List Item) → said_of_item (i.Generate place items) ≡ flat_map said_of_item items
unfolding said_of_item said_by_parts
said-Generate place items = ap said_of_item (sym (i.rolls-Generate place items)) ∙ fold-roll-Item (List Said) said_by_parts (Item-F.Generate place items) ∙ parts items

pub said-For : (place : Place) (h : Loop) (label : Ident) (items : List Item) → said_of_item (i.For place h label items) ≡ []
unfolding said_of_item said_by_parts
said-For place h label items = ap said_of_item (sym (i.rolls-For place h label items)) ∙ fold-roll-Item (List Said) said_by_parts (Item-F.For place h label items)

pub said-If : (place : Place) (test : Expr) (a : Block (List Item)) (b : Option (Block (List Item))) → said_of_item (i.If place test a b) ≡ []
unfolding said_of_item said_by_parts
said-If place test a b = ap said_of_item (sym (i.rolls-If place test a b)) ∙ fold-roll-Item (List Said) said_by_parts (Item-F.If place test a b)

pub said-Case : (place : Place) (selector : Expr) (arms : List (Arm (Block (List Item)))) → said_of_item (i.Case place selector arms) ≡ []
unfolding said_of_item said_by_parts
said-Case place selector arms = ap said_of_item (sym (i.rolls-Case place selector arms)) ∙ fold-roll-Item (List Said) said_by_parts (Item-F.Case place selector arms)

pub ruleset forms = (said-Ports, said-Wires, said-Registers, said-Integers, said-Genvars, said-Parameters, said-Constants, said-Assign, said-Always, said-Gates, said-Instances, said-Generate, said-For, said-If, said-Case)

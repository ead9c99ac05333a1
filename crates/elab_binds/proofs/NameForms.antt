-- The parameters of each form of item, by name.
use Rattle.std.proofs.Common.{◌≡◌, ℕ, List, [], ◌∷◌, ◌++◌, map, Option, refl, sym, ap, ◌∙◌}
use Rattle.std.proofs.lemmas.List.{append-nil}
use Rattle.std.specs.List.{flat_map}
use Rattle.rdc_outside.specs.declared.source.Place.{Place}
use Rattle.vlog_tree.specs.declared.ident.Ident.{Ident}
use Rattle.vlog_tree.specs.declared.expr.Expr.{Expr}
use Rattle.vlog_tree.specs.declared.port.Shape.{Shape}
use Rattle.vlog_tree.specs.declared.port.Direction.{Direction}
use Rattle.vlog_tree.specs.declared.stmt.Arm.{Arm}
use Rattle.vlog_tree.specs.declared.stmt.Loop.{Loop}
use Rattle.vlog_tree.specs.declared.stmt.Stmt.{Stmt}
use Rattle.vlog_tree.specs.declared.stmt.Control.{Control}
use Rattle.vlog_tree.specs.declared.item.Net.{Net}
use Rattle.vlog_tree.specs.declared.item.Binding.{Binding}
use Rattle.vlog_tree.specs.declared.item.Assignment.{Assignment}
use Rattle.vlog_tree.specs.declared.item.GateKind.{GateKind}
use Rattle.vlog_tree.specs.declared.item.Gate.{Gate}
use Rattle.vlog_tree.specs.declared.item.Connections.{Connections}
use Rattle.vlog_tree.specs.declared.item.Instance.{Instance}
use Rattle.vlog_tree.specs.declared.item.Block.{Block}
use Rattle.vlog_tree.specs.declared.item.Item.{Item, Item-F, fold-roll-Item}
use Rattle.vlog_tree.specs.declared.item.Item.TheVariants as i
use Rattle.elab_binds.specs.ParameterNames.{name_of, names_of_item, names_by_parts}

-- those of parts, one after another
parts : (items : List Item) → flat_map (λ (names : List (List ℕ)). names) (map names_of_item items) ≡ flat_map names_of_item items
parts [] = refl
parts (x ∷ xs) = ap (λ names. names_of_item x ++ names) (parts xs)

pub names-Ports : (place : Place) (d : Direction) (s : Shape) (names : List Ident) → names_of_item (i.Ports place d s names) ≡ []
unfolding names_of_item names_by_parts
names-Ports place d s names = ap names_of_item (sym (i.rolls-Ports place d s names)) ∙ fold-roll-Item (List (List ℕ)) names_by_parts (Item-F.Ports place d s names)

pub names-Wires : (place : Place) (s : Shape) (nets : List Net) → names_of_item (i.Wires place s nets) ≡ []
unfolding names_of_item names_by_parts
names-Wires place s nets = ap names_of_item (sym (i.rolls-Wires place s nets)) ∙ fold-roll-Item (List (List ℕ)) names_by_parts (Item-F.Wires place s nets)

pub names-Registers : (place : Place) (s : Shape) (names : List Ident) → names_of_item (i.Registers place s names) ≡ []
unfolding names_of_item names_by_parts
names-Registers place s names = ap names_of_item (sym (i.rolls-Registers place s names)) ∙ fold-roll-Item (List (List ℕ)) names_by_parts (Item-F.Registers place s names)

pub names-Integers : (place : Place) (names : List Ident) → names_of_item (i.Integers place names) ≡ []
unfolding names_of_item names_by_parts
names-Integers place names = ap names_of_item (sym (i.rolls-Integers place names)) ∙ fold-roll-Item (List (List ℕ)) names_by_parts (Item-F.Integers place names)

pub names-Genvars : (place : Place) (names : List Ident) → names_of_item (i.Genvars place names) ≡ []
unfolding names_of_item names_by_parts
names-Genvars place names = ap names_of_item (sym (i.rolls-Genvars place names)) ∙ fold-roll-Item (List (List ℕ)) names_by_parts (Item-F.Genvars place names)

pub names-Parameters : (place : Place) (s : Shape) (bs : List Binding) → names_of_item (i.Parameters place s bs) ≡ map name_of bs
unfolding names_of_item names_by_parts
names-Parameters place s bs = ap names_of_item (sym (i.rolls-Parameters place s bs)) ∙ fold-roll-Item (List (List ℕ)) names_by_parts (Item-F.Parameters place s bs)

pub names-Constants : (place : Place) (s : Shape) (bs : List Binding) → names_of_item (i.Constants place s bs) ≡ []
unfolding names_of_item names_by_parts
names-Constants place s bs = ap names_of_item (sym (i.rolls-Constants place s bs)) ∙ fold-roll-Item (List (List ℕ)) names_by_parts (Item-F.Constants place s bs)

pub names-Assign : (place : Place) (xs : List Assignment) → names_of_item (i.Assign place xs) ≡ []
unfolding names_of_item names_by_parts
names-Assign place xs = ap names_of_item (sym (i.rolls-Assign place xs)) ∙ fold-roll-Item (List (List ℕ)) names_by_parts (Item-F.Assign place xs)

pub names-Always : (place : Place) (c : Control) (s : Stmt) → names_of_item (i.Always place c s) ≡ []
unfolding names_of_item names_by_parts
names-Always place c s = ap names_of_item (sym (i.rolls-Always place c s)) ∙ fold-roll-Item (List (List ℕ)) names_by_parts (Item-F.Always place c s)

pub names-Gates : (place : Place) (which : GateKind) (gs : List Gate) → names_of_item (i.Gates place which gs) ≡ []
unfolding names_of_item names_by_parts
names-Gates place which gs = ap names_of_item (sym (i.rolls-Gates place which gs)) ∙ fold-roll-Item (List (List ℕ)) names_by_parts (Item-F.Gates place which gs)

pub names-Instances : (place : Place) (called : Ident) (passed : Connections) (is : List Instance) → names_of_item (i.Instances place called passed is) ≡ []
unfolding names_of_item names_by_parts
names-Instances place called passed is = ap names_of_item (sym (i.rolls-Instances place called passed is)) ∙ fold-roll-Item (List (List ℕ)) names_by_parts (Item-F.Instances place called passed is)

pub names-Generate : (place : Place) (items : List Item) → names_of_item (i.Generate place items) ≡ flat_map names_of_item items
unfolding names_of_item names_by_parts
names-Generate place items = ap names_of_item (sym (i.rolls-Generate place items)) ∙ fold-roll-Item (List (List ℕ)) names_by_parts (Item-F.Generate place items) ∙ parts items

pub names-For : (place : Place) (h : Loop) (label : Ident) (items : List Item) → names_of_item (i.For place h label items) ≡ []
unfolding names_of_item names_by_parts
names-For place h label items = ap names_of_item (sym (i.rolls-For place h label items)) ∙ fold-roll-Item (List (List ℕ)) names_by_parts (Item-F.For place h label items)

pub names-If : (place : Place) (test : Expr) (a : Block (List Item)) (b : Option (Block (List Item))) → names_of_item (i.If place test a b) ≡ []
unfolding names_of_item names_by_parts
names-If place test a b = ap names_of_item (sym (i.rolls-If place test a b)) ∙ fold-roll-Item (List (List ℕ)) names_by_parts (Item-F.If place test a b)

pub names-Case : (place : Place) (selector : Expr) (arms : List (Arm (Block (List Item)))) → names_of_item (i.Case place selector arms) ≡ []
unfolding names_of_item names_by_parts
names-Case place selector arms = ap names_of_item (sym (i.rolls-Case place selector arms)) ∙ fold-roll-Item (List (List ℕ)) names_by_parts (Item-F.Case place selector arms)

pub ruleset forms = (append-nil, names-Ports, names-Wires, names-Registers, names-Integers, names-Genvars, names-Parameters, names-Constants, names-Assign, names-Always, names-Gates, names-Instances, names-Generate, names-For, names-If, names-Case)

-- The depth of each form of item.
use Rattle.std.proofs.Common.{◌≡◌, ℕ, ◌+◌, max, List, [], ◌∷◌, map, Option, Some, None, refl, sym, ap, ◌∙◌, arith}
use Rattle.rdc_outside.specs.declared.source.Place.{Place}
use Rattle.vlog_tree.specs.declared.ident.Ident.{Ident}
use Rattle.vlog_tree.specs.declared.expr.Expr.{Expr}
use Rattle.vlog_tree.specs.declared.port.Shape.{Shape}
use Rattle.vlog_tree.specs.declared.port.Direction.{Direction}
use Rattle.vlog_tree.specs.declared.stmt.Arm.{Arm}
use Rattle.vlog_tree.specs.declared.stmt.Loop.{Loop}
use Rattle.vlog_tree.specs.declared.stmt.Stmt.{Stmt}
use Rattle.vlog_tree.specs.declared.stmt.Control.{Control}
use Rattle.vlog_tree.specs.declared.item.Net.{Net}
use Rattle.vlog_tree.specs.declared.item.Binding.{Binding}
use Rattle.vlog_tree.specs.declared.item.Assignment.{Assignment}
use Rattle.vlog_tree.specs.declared.item.GateKind.{GateKind}
use Rattle.vlog_tree.specs.declared.item.Gate.{Gate}
use Rattle.vlog_tree.specs.declared.item.Connections.{Connections}
use Rattle.vlog_tree.specs.declared.item.Instance.{Instance}
use Rattle.vlog_tree.specs.declared.item.Block.{Block}
use Rattle.vlog_tree.specs.declared.item.Item.{Item, Item-F, fold-roll-Item}
use Rattle.vlog_tree.specs.declared.item.Item.TheVariants as i
use Rattle.vlog_tree.specs.Depth.{depth, deepest, deepest_of, depth_of_label, depth_of_loop, depth_of_stmt, depth_of_control, depth_of_shape, depth_of_net, depth_of_binding, depth_of_assignment, depth_of_gate, depth_of_connections, depth_of_instance, depth_of_block, depth_of_block_if, depth_of_item_arm, item_by_parts, depth_of_item}

pub depth-Ports : (place : Place) (d : Direction) (s : Shape) (names : List Ident) → depth_of_item (i.Ports place d s names) ≡ max (depth_of_shape s) 1
unfolding depth_of_item item_by_parts
depth-Ports place d s names = ap depth_of_item (sym (i.rolls-Ports place d s names)) ∙ fold-roll-Item ℕ item_by_parts (Item-F.Ports place d s names)

pub depth-Wires : (place : Place) (s : Shape) (nets : List Net) → depth_of_item (i.Wires place s nets) ≡ max (depth_of_shape s) (deepest_of depth_of_net nets)
unfolding depth_of_item item_by_parts
depth-Wires place s nets = ap depth_of_item (sym (i.rolls-Wires place s nets)) ∙ fold-roll-Item ℕ item_by_parts (Item-F.Wires place s nets)

pub depth-Registers : (place : Place) (s : Shape) (names : List Ident) → depth_of_item (i.Registers place s names) ≡ max (depth_of_shape s) 1
unfolding depth_of_item item_by_parts
depth-Registers place s names = ap depth_of_item (sym (i.rolls-Registers place s names)) ∙ fold-roll-Item ℕ item_by_parts (Item-F.Registers place s names)

pub depth-Integers : (place : Place) (names : List Ident) → depth_of_item (i.Integers place names) ≡ 1
unfolding depth_of_item item_by_parts
depth-Integers place names = ap depth_of_item (sym (i.rolls-Integers place names)) ∙ fold-roll-Item ℕ item_by_parts (Item-F.Integers place names)

pub depth-Genvars : (place : Place) (names : List Ident) → depth_of_item (i.Genvars place names) ≡ 1
unfolding depth_of_item item_by_parts
depth-Genvars place names = ap depth_of_item (sym (i.rolls-Genvars place names)) ∙ fold-roll-Item ℕ item_by_parts (Item-F.Genvars place names)

pub depth-Parameters : (place : Place) (s : Shape) (bs : List Binding) → depth_of_item (i.Parameters place s bs) ≡ max (depth_of_shape s) (deepest_of depth_of_binding bs)
unfolding depth_of_item item_by_parts
depth-Parameters place s bs = ap depth_of_item (sym (i.rolls-Parameters place s bs)) ∙ fold-roll-Item ℕ item_by_parts (Item-F.Parameters place s bs)

pub depth-Constants : (place : Place) (s : Shape) (bs : List Binding) → depth_of_item (i.Constants place s bs) ≡ max (depth_of_shape s) (deepest_of depth_of_binding bs)
unfolding depth_of_item item_by_parts
depth-Constants place s bs = ap depth_of_item (sym (i.rolls-Constants place s bs)) ∙ fold-roll-Item ℕ item_by_parts (Item-F.Constants place s bs)

pub depth-Assign : (place : Place) (xs : List Assignment) → depth_of_item (i.Assign place xs) ≡ deepest_of depth_of_assignment xs
unfolding depth_of_item item_by_parts
depth-Assign place xs = ap depth_of_item (sym (i.rolls-Assign place xs)) ∙ fold-roll-Item ℕ item_by_parts (Item-F.Assign place xs)

pub depth-Always : (place : Place) (c : Control) (s : Stmt) → depth_of_item (i.Always place c s) ≡ max (depth_of_control c) (depth_of_stmt s)
unfolding depth_of_item item_by_parts
depth-Always place c s = ap depth_of_item (sym (i.rolls-Always place c s)) ∙ fold-roll-Item ℕ item_by_parts (Item-F.Always place c s)

pub depth-Gates : (place : Place) (which : GateKind) (gs : List Gate) → depth_of_item (i.Gates place which gs) ≡ deepest_of depth_of_gate gs
unfolding depth_of_item item_by_parts
depth-Gates place which gs = ap depth_of_item (sym (i.rolls-Gates place which gs)) ∙ fold-roll-Item ℕ item_by_parts (Item-F.Gates place which gs)

pub depth-Instances : (place : Place) (called : Ident) (passed : Connections) (is : List Instance) → depth_of_item (i.Instances place called passed is) ≡ max (depth_of_connections passed) (deepest_of depth_of_instance is)
unfolding depth_of_item item_by_parts
depth-Instances place called passed is = ap depth_of_item (sym (i.rolls-Instances place called passed is)) ∙ fold-roll-Item ℕ item_by_parts (Item-F.Instances place called passed is)

pub depth-Generate : (place : Place) (items : List Item) → depth_of_item (i.Generate place items) ≡ 1 + deepest_of depth_of_item items
unfolding depth_of_item item_by_parts
depth-Generate place items = ap depth_of_item (sym (i.rolls-Generate place items)) ∙ fold-roll-Item ℕ item_by_parts (Item-F.Generate place items)

pub depth-For : (place : Place) (h : Loop) (label : Ident) (items : List Item) → depth_of_item (i.For place h label items) ≡ 1 + max (depth_of_loop h) (deepest_of depth_of_item items)
unfolding depth_of_item item_by_parts
depth-For place h label items = ap depth_of_item (sym (i.rolls-For place h label items)) ∙ fold-roll-Item ℕ item_by_parts (Item-F.For place h label items)

-- of a block, and of one that may be left out
unfoldable pub block_depth : Block (List Item) → ℕ
block_depth b = max (depth_of_label b.name) (deepest_of depth_of_item b.items)

unfoldable pub block_depth_if : Option (Block (List Item)) → ℕ
block_depth_if None = 0
block_depth_if (Some b) = block_depth b

pub depth-If : (place : Place) (test : Expr) (a : Block (List Item)) (b : Option (Block (List Item))) → depth_of_item (i.If place test a b) ≡ 1 + max (depth test) (max (block_depth a) (block_depth_if b))
unfolding depth_of_item item_by_parts depth_of_block depth_of_block_if block_depth block_depth_if deepest
depth-If place test a None = let e = ap depth_of_item (sym (i.rolls-If place test a None)) ∙ fold-roll-Item ℕ item_by_parts (Item-F.If place test a None) in omega arith
depth-If place test a (Some b) = let e = ap depth_of_item (sym (i.rolls-If place test a (Some b))) ∙ fold-roll-Item ℕ item_by_parts (Item-F.If place test a (Some b)) in omega arith

twice : {A B : Type 0} (f : B → ℕ) (g : A → B) (h : A → ℕ) → ((a : A) → f (g a) ≡ h a) → (xs : List A) → map f (map g xs) ≡ map h xs
twice f g h same [] = refl
twice f g h same (x ∷ xs) = ap (λ n. n ∷ map f (map g xs)) (same x) ∙ ap (λ ns. h x ∷ ns) (twice f g h same xs)

-- of an item of a generate case
unfoldable pub arm_depth : Arm (Block (List Item)) → ℕ
arm_depth a = max (deepest_of depth a.labels) (block_depth a.body)

pub depth-Case : (place : Place) (s : Expr) (arms : List (Arm (Block (List Item)))) → depth_of_item (i.Case place s arms) ≡ 1 + max (depth s) (deepest_of arm_depth arms)
unfolding depth_of_item item_by_parts depth_of_block depth_of_item_arm block_depth arm_depth
depth-Case place s arms = ap depth_of_item (sym (i.rolls-Case place s arms)) ∙ (fold-roll-Item ℕ item_by_parts (Item-F.Case place s arms) ∙ ap (λ ns. 1 + max (depth s) (deepest ns)) (twice depth_of_item_arm _ arm_depth (λ a. refl) arms))

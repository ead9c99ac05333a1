-- The parameters of each form of item.
use Rattle.std.proofs.Common.{◌≡◌, List, Option, Ok, sym, ap, ◌∙◌}
use Rattle.rdc_outside.specs.declared.source.Place.{Place}
use Rattle.vlog_tree.specs.declared.ident.Ident.{Ident}
use Rattle.vlog_tree.specs.declared.expr.Expr.{Expr}
use Rattle.vlog_tree.specs.declared.port.Shape.{Shape}
use Rattle.vlog_tree.specs.declared.port.Direction.{Direction}
use Rattle.vlog_tree.specs.declared.stmt.Arm.{Arm}
use Rattle.vlog_tree.specs.declared.stmt.Loop.{Loop}
use Rattle.vlog_tree.specs.declared.stmt.Stmt.{Stmt}
use Rattle.vlog_tree.specs.declared.stmt.Control.{Control}
use Rattle.vlog_tree.specs.declared.item.Net.{Net}
use Rattle.vlog_tree.specs.declared.item.Binding.{Binding}
use Rattle.vlog_tree.specs.declared.item.Assignment.{Assignment}
use Rattle.vlog_tree.specs.declared.item.GateKind.{GateKind}
use Rattle.vlog_tree.specs.declared.item.Gate.{Gate}
use Rattle.vlog_tree.specs.declared.item.Connections.{Connections}
use Rattle.vlog_tree.specs.declared.item.Instance.{Instance}
use Rattle.vlog_tree.specs.declared.item.Block.{Block}
use Rattle.vlog_tree.specs.declared.item.Item.{Item, Item-F, fold-roll-Item}
use Rattle.vlog_tree.specs.declared.item.Item.TheVariants as i
use Rattle.elab_names.specs.Answers.{Or_fault}
use Rattle.elab_names.specs.Meanings.{Frames}
use Rattle.elab_scopes.specs.Threads.{threaded}
use Rattle.elab_scopes.specs.Parameters.{Given, none_given, entered, item_by_parts, parameters_of_item}
use Rattle.elab_scopes.proofs.ThreadLemmas.{ready}

pub params-Ports : (given : Given) (s0 : Frames) (place : Place) (d : Direction) (s : Shape) (names : List Ident) → parameters_of_item given s0 (i.Ports place d s names) ≡ Ok s0
unfolding parameters_of_item item_by_parts
params-Ports given s0 place d s names = ap (parameters_of_item given s0) (sym (i.rolls-Ports place d s names)) ∙ ap (λ (f : Frames → Or_fault Frames). f s0) (fold-roll-Item (Frames → Or_fault Frames) (item_by_parts given) (Item-F.Ports place d s names))

pub params-Wires : (given : Given) (s0 : Frames) (place : Place) (s : Shape) (nets : List Net) → parameters_of_item given s0 (i.Wires place s nets) ≡ Ok s0
unfolding parameters_of_item item_by_parts
params-Wires given s0 place s nets = ap (parameters_of_item given s0) (sym (i.rolls-Wires place s nets)) ∙ ap (λ (f : Frames → Or_fault Frames). f s0) (fold-roll-Item (Frames → Or_fault Frames) (item_by_parts given) (Item-F.Wires place s nets))

pub params-Registers : (given : Given) (s0 : Frames) (place : Place) (s : Shape) (names : List Ident) → parameters_of_item given s0 (i.Registers place s names) ≡ Ok s0
unfolding parameters_of_item item_by_parts
params-Registers given s0 place s names = ap (parameters_of_item given s0) (sym (i.rolls-Registers place s names)) ∙ ap (λ (f : Frames → Or_fault Frames). f s0) (fold-roll-Item (Frames → Or_fault Frames) (item_by_parts given) (Item-F.Registers place s names))

pub params-Integers : (given : Given) (s0 : Frames) (place : Place) (names : List Ident) → parameters_of_item given s0 (i.Integers place names) ≡ Ok s0
unfolding parameters_of_item item_by_parts
params-Integers given s0 place names = ap (parameters_of_item given s0) (sym (i.rolls-Integers place names)) ∙ ap (λ (f : Frames → Or_fault Frames). f s0) (fold-roll-Item (Frames → Or_fault Frames) (item_by_parts given) (Item-F.Integers place names))

pub params-Genvars : (given : Given) (s0 : Frames) (place : Place) (names : List Ident) → parameters_of_item given s0 (i.Genvars place names) ≡ Ok s0
unfolding parameters_of_item item_by_parts
params-Genvars given s0 place names = ap (parameters_of_item given s0) (sym (i.rolls-Genvars place names)) ∙ ap (λ (f : Frames → Or_fault Frames). f s0) (fold-roll-Item (Frames → Or_fault Frames) (item_by_parts given) (Item-F.Genvars place names))

pub params-Parameters : (given : Given) (s0 : Frames) (place : Place) (s : Shape) (bs : List Binding) → parameters_of_item given s0 (i.Parameters place s bs) ≡ threaded (entered s given) s0 bs
unfolding parameters_of_item item_by_parts
params-Parameters given s0 place s bs = ap (parameters_of_item given s0) (sym (i.rolls-Parameters place s bs)) ∙ ap (λ (f : Frames → Or_fault Frames). f s0) (fold-roll-Item (Frames → Or_fault Frames) (item_by_parts given) (Item-F.Parameters place s bs))

pub params-Constants : (given : Given) (s0 : Frames) (place : Place) (s : Shape) (bs : List Binding) → parameters_of_item given s0 (i.Constants place s bs) ≡ threaded (entered s none_given) s0 bs
unfolding parameters_of_item item_by_parts
params-Constants given s0 place s bs = ap (parameters_of_item given s0) (sym (i.rolls-Constants place s bs)) ∙ ap (λ (f : Frames → Or_fault Frames). f s0) (fold-roll-Item (Frames → Or_fault Frames) (item_by_parts given) (Item-F.Constants place s bs))

pub params-Assign : (given : Given) (s0 : Frames) (place : Place) (xs : List Assignment) → parameters_of_item given s0 (i.Assign place xs) ≡ Ok s0
unfolding parameters_of_item item_by_parts
params-Assign given s0 place xs = ap (parameters_of_item given s0) (sym (i.rolls-Assign place xs)) ∙ ap (λ (f : Frames → Or_fault Frames). f s0) (fold-roll-Item (Frames → Or_fault Frames) (item_by_parts given) (Item-F.Assign place xs))

pub params-Always : (given : Given) (s0 : Frames) (place : Place) (c : Control) (s : Stmt) → parameters_of_item given s0 (i.Always place c s) ≡ Ok s0
unfolding parameters_of_item item_by_parts
params-Always given s0 place c s = ap (parameters_of_item given s0) (sym (i.rolls-Always place c s)) ∙ ap (λ (f : Frames → Or_fault Frames). f s0) (fold-roll-Item (Frames → Or_fault Frames) (item_by_parts given) (Item-F.Always place c s))

pub params-Gates : (given : Given) (s0 : Frames) (place : Place) (which : GateKind) (gs : List Gate) → parameters_of_item given s0 (i.Gates place which gs) ≡ Ok s0
unfolding parameters_of_item item_by_parts
params-Gates given s0 place which gs = ap (parameters_of_item given s0) (sym (i.rolls-Gates place which gs)) ∙ ap (λ (f : Frames → Or_fault Frames). f s0) (fold-roll-Item (Frames → Or_fault Frames) (item_by_parts given) (Item-F.Gates place which gs))

pub params-Instances : (given : Given) (s0 : Frames) (place : Place) (called : Ident) (passed : Connections) (is : List Instance) → parameters_of_item given s0 (i.Instances place called passed is) ≡ Ok s0
unfolding parameters_of_item item_by_parts
params-Instances given s0 place called passed is = ap (parameters_of_item given s0) (sym (i.rolls-Instances place called passed is)) ∙ ap (λ (f : Frames → Or_fault Frames). f s0) (fold-roll-Item (Frames → Or_fault Frames) (item_by_parts given) (Item-F.Instances place called passed is))

pub params-Generate : (given : Given) (s0 : Frames) (place : Place) (items : List Item) → parameters_of_item given s0 (i.Generate place items) ≡ threaded (parameters_of_item given) s0 items
unfolding parameters_of_item item_by_parts
params-Generate given s0 place items = ap (parameters_of_item given s0) (sym (i.rolls-Generate place items)) ∙ ap (λ (f : Frames → Or_fault Frames). f s0) (fold-roll-Item (Frames → Or_fault Frames) (item_by_parts given) (Item-F.Generate place items)) ∙ ready (λ i s. parameters_of_item given s i) items s0

pub params-For : (given : Given) (s0 : Frames) (place : Place) (h : Loop) (label : Ident) (items : List Item) → parameters_of_item given s0 (i.For place h label items) ≡ Ok s0
unfolding parameters_of_item item_by_parts
params-For given s0 place h label items = ap (parameters_of_item given s0) (sym (i.rolls-For place h label items)) ∙ ap (λ (f : Frames → Or_fault Frames). f s0) (fold-roll-Item (Frames → Or_fault Frames) (item_by_parts given) (Item-F.For place h label items))

pub params-If : (given : Given) (s0 : Frames) (place : Place) (test : Expr) (a : Block (List Item)) (b : Option (Block (List Item))) → parameters_of_item given s0 (i.If place test a b) ≡ Ok s0
unfolding parameters_of_item item_by_parts
params-If given s0 place test a b = ap (parameters_of_item given s0) (sym (i.rolls-If place test a b)) ∙ ap (λ (f : Frames → Or_fault Frames). f s0) (fold-roll-Item (Frames → Or_fault Frames) (item_by_parts given) (Item-F.If place test a b))

pub params-Case : (given : Given) (s0 : Frames) (place : Place) (selector : Expr) (arms : List (Arm (Block (List Item)))) → parameters_of_item given s0 (i.Case place selector arms) ≡ Ok s0
unfolding parameters_of_item item_by_parts
params-Case given s0 place selector arms = ap (parameters_of_item given s0) (sym (i.rolls-Case place selector arms)) ∙ ap (λ (f : Frames → Or_fault Frames). f s0) (fold-roll-Item (Frames → Or_fault Frames) (item_by_parts given) (Item-F.Case place selector arms))

pub ruleset forms = (params-Ports, params-Wires, params-Registers, params-Integers, params-Genvars, params-Parameters, params-Constants, params-Assign, params-Always, params-Gates, params-Instances, params-Generate, params-For, params-If, params-Case)

-- The signals of each form of item.
use Rattle.std.proofs.Common.{◌≡◌, ℕ, true, false, List, Option, Some, Ok, sym, ap, ◌∙◌}
use Rattle.rdc_outside.specs.declared.source.Place.{Place}
use Rattle.vlog_tree.specs.declared.ident.Ident.{Ident}
use Rattle.vlog_tree.specs.declared.expr.Expr.{Expr}
use Rattle.vlog_tree.specs.declared.port.Shape.{Shape}
use Rattle.vlog_tree.specs.declared.port.Direction.{Direction}
use Rattle.vlog_tree.specs.declared.stmt.Arm.{Arm}
use Rattle.vlog_tree.specs.declared.stmt.Loop.{Loop}
use Rattle.vlog_tree.specs.declared.stmt.Stmt.{Stmt}
use Rattle.vlog_tree.specs.declared.stmt.Control.{Control}
use Rattle.vlog_tree.specs.declared.item.Net.{Net}
use Rattle.vlog_tree.specs.declared.item.Binding.{Binding}
use Rattle.vlog_tree.specs.declared.item.Assignment.{Assignment}
use Rattle.vlog_tree.specs.declared.item.GateKind.{GateKind}
use Rattle.vlog_tree.specs.declared.item.Gate.{Gate}
use Rattle.vlog_tree.specs.declared.item.Connections.{Connections}
use Rattle.vlog_tree.specs.declared.item.Instance.{Instance}
use Rattle.vlog_tree.specs.declared.item.Block.{Block}
use Rattle.vlog_tree.specs.declared.item.Item.{Item, Item-F, fold-roll-Item}
use Rattle.vlog_tree.specs.declared.item.Item.TheVariants as i
use Rattle.elab_names.specs.Answers.{Or_fault}
use Rattle.elab_scopes.specs.Threads.{threaded}
use Rattle.elab_scopes.specs.Signals.{Drawn, Entries, shaped, integer, item_by_parts, signals_of_item}
use Rattle.elab_scopes.proofs.ThreadLemmas.{ready}

pub drawn-Ports : (prefix : List ℕ) (entries : Entries) (s0 : Drawn) (place : Place) (d : Direction) (s : Shape) (names : List Ident) → signals_of_item prefix entries s0 (i.Ports place d s names) ≡ shaped Some prefix entries true s names s0
unfolding signals_of_item item_by_parts
drawn-Ports prefix entries s0 place d s names = ap (signals_of_item prefix entries s0) (sym (i.rolls-Ports place d s names)) ∙ ap (λ (f : Drawn → Or_fault Drawn). f s0) (fold-roll-Item (Drawn → Or_fault Drawn) (item_by_parts prefix entries) (Item-F.Ports place d s names))

pub drawn-Wires : (prefix : List ℕ) (entries : Entries) (s0 : Drawn) (place : Place) (s : Shape) (nets : List Net) → signals_of_item prefix entries s0 (i.Wires place s nets) ≡ shaped (λ (n : Net). Some n.name) prefix entries false s nets s0
unfolding signals_of_item item_by_parts
drawn-Wires prefix entries s0 place s nets = ap (signals_of_item prefix entries s0) (sym (i.rolls-Wires place s nets)) ∙ ap (λ (f : Drawn → Or_fault Drawn). f s0) (fold-roll-Item (Drawn → Or_fault Drawn) (item_by_parts prefix entries) (Item-F.Wires place s nets))

pub drawn-Registers : (prefix : List ℕ) (entries : Entries) (s0 : Drawn) (place : Place) (s : Shape) (names : List Ident) → signals_of_item prefix entries s0 (i.Registers place s names) ≡ shaped Some prefix entries false s names s0
unfolding signals_of_item item_by_parts
drawn-Registers prefix entries s0 place s names = ap (signals_of_item prefix entries s0) (sym (i.rolls-Registers place s names)) ∙ ap (λ (f : Drawn → Or_fault Drawn). f s0) (fold-roll-Item (Drawn → Or_fault Drawn) (item_by_parts prefix entries) (Item-F.Registers place s names))

pub drawn-Integers : (prefix : List ℕ) (entries : Entries) (s0 : Drawn) (place : Place) (names : List Ident) → signals_of_item prefix entries s0 (i.Integers place names) ≡ threaded (integer prefix entries) s0 names
unfolding signals_of_item item_by_parts
drawn-Integers prefix entries s0 place names = ap (signals_of_item prefix entries s0) (sym (i.rolls-Integers place names)) ∙ ap (λ (f : Drawn → Or_fault Drawn). f s0) (fold-roll-Item (Drawn → Or_fault Drawn) (item_by_parts prefix entries) (Item-F.Integers place names))

pub drawn-Genvars : (prefix : List ℕ) (entries : Entries) (s0 : Drawn) (place : Place) (names : List Ident) → signals_of_item prefix entries s0 (i.Genvars place names) ≡ Ok s0
unfolding signals_of_item item_by_parts
drawn-Genvars prefix entries s0 place names = ap (signals_of_item prefix entries s0) (sym (i.rolls-Genvars place names)) ∙ ap (λ (f : Drawn → Or_fault Drawn). f s0) (fold-roll-Item (Drawn → Or_fault Drawn) (item_by_parts prefix entries) (Item-F.Genvars place names))

pub drawn-Parameters : (prefix : List ℕ) (entries : Entries) (s0 : Drawn) (place : Place) (s : Shape) (bs : List Binding) → signals_of_item prefix entries s0 (i.Parameters place s bs) ≡ Ok s0
unfolding signals_of_item item_by_parts
drawn-Parameters prefix entries s0 place s bs = ap (signals_of_item prefix entries s0) (sym (i.rolls-Parameters place s bs)) ∙ ap (λ (f : Drawn → Or_fault Drawn). f s0) (fold-roll-Item (Drawn → Or_fault Drawn) (item_by_parts prefix entries) (Item-F.Parameters place s bs))

pub drawn-Constants : (prefix : List ℕ) (entries : Entries) (s0 : Drawn) (place : Place) (s : Shape) (bs : List Binding) → signals_of_item prefix entries s0 (i.Constants place s bs) ≡ Ok s0
unfolding signals_of_item item_by_parts
drawn-Constants prefix entries s0 place s bs = ap (signals_of_item prefix entries s0) (sym (i.rolls-Constants place s bs)) ∙ ap (λ (f : Drawn → Or_fault Drawn). f s0) (fold-roll-Item (Drawn → Or_fault Drawn) (item_by_parts prefix entries) (Item-F.Constants place s bs))

pub drawn-Assign : (prefix : List ℕ) (entries : Entries) (s0 : Drawn) (place : Place) (xs : List Assignment) → signals_of_item prefix entries s0 (i.Assign place xs) ≡ Ok s0
unfolding signals_of_item item_by_parts
drawn-Assign prefix entries s0 place xs = ap (signals_of_item prefix entries s0) (sym (i.rolls-Assign place xs)) ∙ ap (λ (f : Drawn → Or_fault Drawn). f s0) (fold-roll-Item (Drawn → Or_fault Drawn) (item_by_parts prefix entries) (Item-F.Assign place xs))

pub drawn-Always : (prefix : List ℕ) (entries : Entries) (s0 : Drawn) (place : Place) (c : Control) (s : Stmt) → signals_of_item prefix entries s0 (i.Always place c s) ≡ Ok s0
unfolding signals_of_item item_by_parts
drawn-Always prefix entries s0 place c s = ap (signals_of_item prefix entries s0) (sym (i.rolls-Always place c s)) ∙ ap (λ (f : Drawn → Or_fault Drawn). f s0) (fold-roll-Item (Drawn → Or_fault Drawn) (item_by_parts prefix entries) (Item-F.Always place c s))

pub drawn-Gates : (prefix : List ℕ) (entries : Entries) (s0 : Drawn) (place : Place) (which : GateKind) (gs : List Gate) → signals_of_item prefix entries s0 (i.Gates place which gs) ≡ Ok s0
unfolding signals_of_item item_by_parts
drawn-Gates prefix entries s0 place which gs = ap (signals_of_item prefix entries s0) (sym (i.rolls-Gates place which gs)) ∙ ap (λ (f : Drawn → Or_fault Drawn). f s0) (fold-roll-Item (Drawn → Or_fault Drawn) (item_by_parts prefix entries) (Item-F.Gates place which gs))

pub drawn-Instances : (prefix : List ℕ) (entries : Entries) (s0 : Drawn) (place : Place) (called : Ident) (passed : Connections) (is : List Instance) → signals_of_item prefix entries s0 (i.Instances place called passed is) ≡ Ok s0
unfolding signals_of_item item_by_parts
drawn-Instances prefix entries s0 place called passed is = ap (signals_of_item prefix entries s0) (sym (i.rolls-Instances place called passed is)) ∙ ap (λ (f : Drawn → Or_fault Drawn). f s0) (fold-roll-Item (Drawn → Or_fault Drawn) (item_by_parts prefix entries) (Item-F.Instances place called passed is))

pub drawn-Generate : (prefix : List ℕ) (entries : Entries) (s0 : Drawn) (place : Place) (items : List Item) → signals_of_item prefix entries s0 (i.Generate place items) ≡ threaded (signals_of_item prefix entries) s0 items
unfolding signals_of_item item_by_parts
drawn-Generate prefix entries s0 place items = ap (signals_of_item prefix entries s0) (sym (i.rolls-Generate place items)) ∙ ap (λ (f : Drawn → Or_fault Drawn). f s0) (fold-roll-Item (Drawn → Or_fault Drawn) (item_by_parts prefix entries) (Item-F.Generate place items)) ∙ ready (λ i s. signals_of_item prefix entries s i) items s0

pub drawn-For : (prefix : List ℕ) (entries : Entries) (s0 : Drawn) (place : Place) (h : Loop) (label : Ident) (items : List Item) → signals_of_item prefix entries s0 (i.For place h label items) ≡ Ok s0
unfolding signals_of_item item_by_parts
drawn-For prefix entries s0 place h label items = ap (signals_of_item prefix entries s0) (sym (i.rolls-For place h label items)) ∙ ap (λ (f : Drawn → Or_fault Drawn). f s0) (fold-roll-Item (Drawn → Or_fault Drawn) (item_by_parts prefix entries) (Item-F.For place h label items))

pub drawn-If : (prefix : List ℕ) (entries : Entries) (s0 : Drawn) (place : Place) (test : Expr) (a : Block (List Item)) (b : Option (Block (List Item))) → signals_of_item prefix entries s0 (i.If place test a b) ≡ Ok s0
unfolding signals_of_item item_by_parts
drawn-If prefix entries s0 place test a b = ap (signals_of_item prefix entries s0) (sym (i.rolls-If place test a b)) ∙ ap (λ (f : Drawn → Or_fault Drawn). f s0) (fold-roll-Item (Drawn → Or_fault Drawn) (item_by_parts prefix entries) (Item-F.If place test a b))

pub drawn-Case : (prefix : List ℕ) (entries : Entries) (s0 : Drawn) (place : Place) (selector : Expr) (arms : List (Arm (Block (List Item)))) → signals_of_item prefix entries s0 (i.Case place selector arms) ≡ Ok s0
unfolding signals_of_item item_by_parts
drawn-Case prefix entries s0 place selector arms = ap (signals_of_item prefix entries s0) (sym (i.rolls-Case place selector arms)) ∙ ap (λ (f : Drawn → Or_fault Drawn). f s0) (fold-roll-Item (Drawn → Or_fault Drawn) (item_by_parts prefix entries) (Item-F.Case place selector arms))

pub ruleset forms = (drawn-Ports, drawn-Wires, drawn-Registers, drawn-Integers, drawn-Genvars, drawn-Parameters, drawn-Constants, drawn-Assign, drawn-Always, drawn-Gates, drawn-Instances, drawn-Generate, drawn-For, drawn-If, drawn-Case)

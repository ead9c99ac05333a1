-- What each form of item adds.
use Rattle.std.proofs.Common.{◌≡◌, ℕ, if◌then◌else◌, List, map, Option, Some, None, Ok, sym, ap, ◌∙◌}
use Rattle.std.specs.Option.{option_map}
use Rattle.rdc_outside.specs.declared.source.Place.{Place}
use Rattle.vlog_tree.specs.declared.ident.Ident.{Ident}
use Rattle.vlog_tree.specs.declared.expr.Expr.{Expr}
use Rattle.vlog_tree.specs.declared.port.Shape.{Shape}
use Rattle.vlog_tree.specs.declared.port.Direction.{Direction}
use Rattle.vlog_tree.specs.declared.stmt.Arm.{Arm}
use Rattle.vlog_tree.specs.declared.stmt.Loop.{Loop}
use Rattle.vlog_tree.specs.declared.stmt.Stmt.{Stmt}
use Rattle.vlog_tree.specs.declared.stmt.Control.{Control}
use Rattle.vlog_tree.specs.declared.item.Net.{Net}
use Rattle.vlog_tree.specs.declared.item.Binding.{Binding}
use Rattle.vlog_tree.specs.declared.item.Assignment.{Assignment}
use Rattle.vlog_tree.specs.declared.item.GateKind.{GateKind}
use Rattle.vlog_tree.specs.declared.item.Gate.{Gate}
use Rattle.vlog_tree.specs.declared.item.Connections.{Connections}
use Rattle.vlog_tree.specs.declared.item.Instance.{Instance}
use Rattle.vlog_tree.specs.declared.item.Block.{Block}
use Rattle.vlog_tree.specs.declared.item.Item.{Item, Item-F, para-roll-Item}
use Rattle.vlog_tree.specs.declared.item.Item.TheVariants as i
use Rattle.elab_names.specs.Answers.{and_then}
use Rattle.elab_scopes.specs.Threads.{threaded}
use Rattle.elab_drivers.specs.Drivers.{wired, assigns, processed, gated}
use Rattle.elab_items.specs.Plans.{Plan, frames_in, on_draft}
use Rattle.elab_choices.specs.Choices.{is_true, chosen}
use Rattle.elab_items.specs.Instances.{Lib, instanced}
use Rattle.elab_items.specs.Items.{Act, act_by_parts, item_act, items_act, bodied, block_of, arm_of, blocked, blocked_if, arm_chosen, looped}
use Rattle.elab_items.proofs.BodyForms.{acted, labels_kept}

pub act-Ports : (lib : Lib) (prefix : List ℕ) (p : Plan) (place : Place) (d : Direction) (s : Shape) (names : List Ident) → item_act lib (i.Ports place d s names) prefix p ≡ Ok p
unfolding item_act act_by_parts
act-Ports lib prefix p place d s names = ap (λ (j : Item). item_act lib j prefix p) (sym (i.rolls-Ports place d s names)) ∙ ap (λ (f : Act). f prefix p) (para-roll-Item Act (act_by_parts lib) (Item-F.Ports place d s names))

pub act-Wires : (lib : Lib) (prefix : List ℕ) (p : Plan) (place : Place) (s : Shape) (nets : List Net) → item_act lib (i.Wires place s nets) prefix p ≡ on_draft (λ d. threaded wired d nets) p
unfolding item_act act_by_parts
act-Wires lib prefix p place s nets = ap (λ (j : Item). item_act lib j prefix p) (sym (i.rolls-Wires place s nets)) ∙ ap (λ (f : Act). f prefix p) (para-roll-Item Act (act_by_parts lib) (Item-F.Wires place s nets))

pub act-Registers : (lib : Lib) (prefix : List ℕ) (p : Plan) (place : Place) (s : Shape) (names : List Ident) → item_act lib (i.Registers place s names) prefix p ≡ Ok p
unfolding item_act act_by_parts
act-Registers lib prefix p place s names = ap (λ (j : Item). item_act lib j prefix p) (sym (i.rolls-Registers place s names)) ∙ ap (λ (f : Act). f prefix p) (para-roll-Item Act (act_by_parts lib) (Item-F.Registers place s names))

pub act-Integers : (lib : Lib) (prefix : List ℕ) (p : Plan) (place : Place) (names : List Ident) → item_act lib (i.Integers place names) prefix p ≡ Ok p
unfolding item_act act_by_parts
act-Integers lib prefix p place names = ap (λ (j : Item). item_act lib j prefix p) (sym (i.rolls-Integers place names)) ∙ ap (λ (f : Act). f prefix p) (para-roll-Item Act (act_by_parts lib) (Item-F.Integers place names))

pub act-Genvars : (lib : Lib) (prefix : List ℕ) (p : Plan) (place : Place) (names : List Ident) → item_act lib (i.Genvars place names) prefix p ≡ Ok p
unfolding item_act act_by_parts
act-Genvars lib prefix p place names = ap (λ (j : Item). item_act lib j prefix p) (sym (i.rolls-Genvars place names)) ∙ ap (λ (f : Act). f prefix p) (para-roll-Item Act (act_by_parts lib) (Item-F.Genvars place names))

pub act-Parameters : (lib : Lib) (prefix : List ℕ) (p : Plan) (place : Place) (s : Shape) (bs : List Binding) → item_act lib (i.Parameters place s bs) prefix p ≡ Ok p
unfolding item_act act_by_parts
act-Parameters lib prefix p place s bs = ap (λ (j : Item). item_act lib j prefix p) (sym (i.rolls-Parameters place s bs)) ∙ ap (λ (f : Act). f prefix p) (para-roll-Item Act (act_by_parts lib) (Item-F.Parameters place s bs))

pub act-Constants : (lib : Lib) (prefix : List ℕ) (p : Plan) (place : Place) (s : Shape) (bs : List Binding) → item_act lib (i.Constants place s bs) prefix p ≡ Ok p
unfolding item_act act_by_parts
act-Constants lib prefix p place s bs = ap (λ (j : Item). item_act lib j prefix p) (sym (i.rolls-Constants place s bs)) ∙ ap (λ (f : Act). f prefix p) (para-roll-Item Act (act_by_parts lib) (Item-F.Constants place s bs))

pub act-Assign : (lib : Lib) (prefix : List ℕ) (p : Plan) (place : Place) (xs : List Assignment) → item_act lib (i.Assign place xs) prefix p ≡ on_draft (λ d. threaded assigns d xs) p
unfolding item_act act_by_parts
act-Assign lib prefix p place xs = ap (λ (j : Item). item_act lib j prefix p) (sym (i.rolls-Assign place xs)) ∙ ap (λ (f : Act). f prefix p) (para-roll-Item Act (act_by_parts lib) (Item-F.Assign place xs))

pub act-Always : (lib : Lib) (prefix : List ℕ) (p : Plan) (place : Place) (c : Control) (s : Stmt) → item_act lib (i.Always place c s) prefix p ≡ on_draft (processed place c s) p
unfolding item_act act_by_parts
act-Always lib prefix p place c s = ap (λ (j : Item). item_act lib j prefix p) (sym (i.rolls-Always place c s)) ∙ ap (λ (f : Act). f prefix p) (para-roll-Item Act (act_by_parts lib) (Item-F.Always place c s))

pub act-Gates : (lib : Lib) (prefix : List ℕ) (p : Plan) (place : Place) (which : GateKind) (gs : List Gate) → item_act lib (i.Gates place which gs) prefix p ≡ on_draft (λ d. threaded (gated which) d gs) p
unfolding item_act act_by_parts
act-Gates lib prefix p place which gs = ap (λ (j : Item). item_act lib j prefix p) (sym (i.rolls-Gates place which gs)) ∙ ap (λ (f : Act). f prefix p) (para-roll-Item Act (act_by_parts lib) (Item-F.Gates place which gs))

pub act-Instances : (lib : Lib) (prefix : List ℕ) (p : Plan) (place : Place) (called : Ident) (passed : Connections) (is : List Instance) → item_act lib (i.Instances place called passed is) prefix p ≡ threaded (instanced lib prefix called passed) p is
unfolding item_act act_by_parts
act-Instances lib prefix p place called passed is = ap (λ (j : Item). item_act lib j prefix p) (sym (i.rolls-Instances place called passed is)) ∙ ap (λ (f : Act). f prefix p) (para-roll-Item Act (act_by_parts lib) (Item-F.Instances place called passed is))

pub act-Generate : (lib : Lib) (prefix : List ℕ) (p : Plan) (place : Place) (items : List Item) → item_act lib (i.Generate place items) prefix p ≡ items_act lib prefix p items
unfolding item_act act_by_parts
act-Generate lib prefix p place items = ap (λ (j : Item). item_act lib j prefix p) (sym (i.rolls-Generate place items)) ∙ ap (λ (f : Act). f prefix p) (para-roll-Item Act (act_by_parts lib) (Item-F.Generate place items)) ∙ acted lib prefix items p

pub act-For : (lib : Lib) (prefix : List ℕ) (p : Plan) (place : Place) (h : Loop) (label : Ident) (items : List Item) → item_act lib (i.For place h label items) prefix p ≡ looped place h label (bodied lib items) prefix p
unfolding item_act act_by_parts
act-For lib prefix p place h label items = ap (λ (j : Item). item_act lib j prefix p) (sym (i.rolls-For place h label items)) ∙ ap (λ (f : Act). f prefix p) (para-roll-Item Act (act_by_parts lib) (Item-F.For place h label items))

pub act-If : (lib : Lib) (prefix : List ℕ) (p : Plan) (place : Place) (test : Expr) (a : Block (List Item)) (b : Option (Block (List Item))) → item_act lib (i.If place test a b) prefix p ≡ and_then (is_true (frames_in p) test) (λ yes. if yes then blocked (block_of lib a) prefix p else blocked_if (option_map (block_of lib) b) prefix p)
unfolding item_act act_by_parts
act-If lib prefix p place test a None = ap (λ (j : Item). item_act lib j prefix p) (sym (i.rolls-If place test a None)) ∙ ap (λ (f : Act). f prefix p) (para-roll-Item Act (act_by_parts lib) (Item-F.If place test a None))
act-If lib prefix p place test a (Some b) = ap (λ (j : Item). item_act lib j prefix p) (sym (i.rolls-If place test a (Some b))) ∙ ap (λ (f : Act). f prefix p) (para-roll-Item Act (act_by_parts lib) (Item-F.If place test a (Some b)))

pub act-Case : (lib : Lib) (prefix : List ℕ) (p : Plan) (place : Place) (selector : Expr) (arms : List (Arm (Block (List Item)))) → item_act lib (i.Case place selector arms) prefix p ≡ and_then (chosen (frames_in p) selector (map (λ a. a.labels) arms)) (λ k. arm_chosen k (map (arm_of lib) arms) prefix p)
unfolding item_act act_by_parts
act-Case lib prefix p place selector arms = ap (λ (j : Item). item_act lib j prefix p) (sym (i.rolls-Case place selector arms)) ∙ ap (λ (f : Act). f prefix p) (para-roll-Item Act (act_by_parts lib) (Item-F.Case place selector arms))
    ∙ ap (λ (ls : List (List Expr)). and_then (chosen (frames_in p) selector ls) (λ k. arm_chosen k (map (arm_of lib) arms) prefix p)) (labels_kept lib arms)

pub ruleset forms = (act-Ports, act-Wires, act-Registers, act-Integers, act-Genvars, act-Parameters, act-Constants, act-Assign, act-Always, act-Gates, act-Instances, act-Generate, act-For, act-If, act-Case)

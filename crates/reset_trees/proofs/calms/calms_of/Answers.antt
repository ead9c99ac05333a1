-- Each pin is looked at.
use Rattle.std.proofs.Common.{List, sym, subst}
use Rattle.std.proofs.lemmas.List.{take_all}
use Rattle.cons_bind.specs.Names.{net_of}
use Rattle.reset_trees.specs.declared.answers.Marked.{Marked}
use Rattle.reset_trees.specs.declared.trees.PinCone.{PinCone}
use Rattle.reset_trees.specs.Marking.{AreCalmsOf}
use Rattle.reset_trees.specs.Problems.{AreCalms}
use Rattle.reset_trees.proofs.CalmLemmas.{IsListed}
use Rattle.reset_trees.proofs.ListedLemmas.{pin_lawful, pins_before, pins_after, calms_whole}
use Rattle.reset_trees.proofs.calms.calms_of.Goals as goal

pub pin_calms-requires-clause-pin : goal.pin_calms-requires-clause-pin
pin_calms-requires-clause-pin g c =
    let net = net_of (g.V.View.gates c.args.view.now) (g.V.FlopNet.names c.args.view.now) (g.V.FlopNet.kinds c.args.view.now) (g.V.FlopNet.named_bits c.args.view.now) in
    pin_lawful net c.args.pins.now c.pins.pin-index c.pin-item.result c.requires.pins c.pins-test.true c.pin-item.is

pub pins-preserved : goal.pins-preserved
pins-preserved g c = λ lines are.
    let net = net_of (g.V.View.gates c.args.view.now) (g.V.FlopNet.names c.args.view.now) (g.V.FlopNet.kinds c.args.view.now) (g.V.FlopNet.named_bits c.args.view.now) in
    let pins = c.args.pins.now in
    let k = c.pins.pin-index in
    let pin = c.pin-item.result in
    pins_after net lines pins k pin c.requires.pins c.pins-test.true c.pin-item.is c.pin_calms.new.calms.items
    (c.in_ok-pin_calms.ensures lines are (pins_before net lines pins k pin c.requires.pins c.pins-test.true c.pin-item.is c.pins.calms.items (c.pins.invariant lines are)))

pub returns : goal.returns
returns g c = λ lines are.
    let net = net_of (g.V.View.gates c.args.view.now) (g.V.FlopNet.names c.args.view.now) (g.V.FlopNet.kinds c.args.view.now) (g.V.FlopNet.named_bits c.args.view.now) in
    let pins = c.args.pins.now in
    subst (λ (cs : List Marked). AreCalms net lines cs) (sym c.from_vec.ensures)
    (calms_whole net lines pins c.pins.calms.items c.requires.pins
    (subst (λ (ps : List PinCone). AreCalmsOf net lines (IsListed ps) c.pins.calms.items) (take_all c.pins.pin-index pins c.pins-test.false) (c.pins.invariant lines are)))

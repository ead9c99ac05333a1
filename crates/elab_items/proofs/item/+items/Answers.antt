use Rattle.std.proofs.Common.{◌-◌, inr, sym, ◌∙◌, arith}
use Rattle.vlog_tree.specs.declared.item.Item.{Item}
use Rattle.elab_scopes.proofs.ThreadLemmas.{one_more, one_stops, all_done}
use Rattle.elab_items.specs.Plans.{Plan}
use Rattle.elab_items.specs.Items.{bodied, item_act}
use Rattle.elab_items.specs.Tables.{lib_of, plan_of}
use Rattle.vlog_tree.specs.declared.item.Item.TheShapes.{weighed-Item-Case-2-at-6}
use Rattle.vlog_tree.proofs.item.Item.TheLaws.{the_size}
use Rattle.elab_items.proofs.Depths.{part}
use Rattle.elab_items.proofs.BodyForms.{arm-taken}
use Rattle.elab_items.proofs.TurnForms.{bounded, turns-made, turns-ended, turns-stopped, turns-none}
use Rattle.elab_items.proofs.item.+items.Goals as goal

pub all-loop-one-preserved : goal.all-loop-one-preserved
all-loop-one-preserved t c = one_more (λ (q : Plan) (i : Item). item_act (lib_of c.args.at.library.now) i c.args.at.prefix.now q) (plan_of c.loop-one.p) (plan_of c.item.new.p) (plan_of c.args.p.now) c.args.items.now c.loop-one.one-index c.one-item.result (omega arith) c.one-item.is c.loop-one.invariant c.in-Ok.ensures

pub all-returns-in-Err : goal.all-returns-in-Err
all-returns-in-Err t c = one_stops (λ (q : Plan) (i : Item). item_act (lib_of c.args.at.library.now) i c.args.at.prefix.now q) (plan_of c.loop-one.p) (plan_of c.args.p.now) c.in-Err.fault c.args.items.now c.loop-one.one-index c.one-item.result (omega arith) c.one-item.is c.loop-one.invariant c.in-Err.ensures

pub all-returns : goal.all-returns
all-returns t c = all_done (λ (q : Plan) (i : Item). item_act (lib_of c.args.at.library.now) i c.args.at.prefix.now q) (plan_of c.loop-one.p) (plan_of c.args.p.now) c.args.items.now c.loop-one.one-index (omega arith) c.loop-one.invariant

pub turns-loop-left-preserved : goal.turns-loop-left-preserved
turns-loop-left-preserved t c =
    (sym (turns-made c.loop-left.left (c.loop-left.left - 1) c.args.head.place c.args.at.prefix.now c.args.head.header.now c.args.head.label.now (bodied (lib_of c.args.at.library.now) c.args.body.now) c.loop-left.value c.in-Ok-Some.next c.in-Ok-Some.field-0 (plan_of c.loop-left.p) (plan_of c.once.new.p) (omega arith) c.in-Ok-Some.field-0-is c.in-Ok-Some.ensures.value) ∙ c.loop-left.invariant.0, bounded c.in-Ok-Some.field-0 c.in-Ok-Some.next c.in-Ok-Some.field-0-is c.in-Ok-Some.ensures.bound)

pub turns-returns-in-Ok-None : goal.turns-returns-in-Ok-None
turns-returns-in-Ok-None t c =
    sym c.loop-left.invariant.0 ∙ turns-ended c.loop-left.left (c.loop-left.left - 1) c.args.head.place c.args.at.prefix.now c.args.head.header.now c.args.head.label.now (bodied (lib_of c.args.at.library.now) c.args.body.now) c.loop-left.value c.in-Ok-None.field-0 (plan_of c.loop-left.p) (plan_of c.once.new.p) (omega arith) c.in-Ok-None.field-0-is c.in-Ok-None.ensures.value

pub turns-returns-in-Err : goal.turns-returns-in-Err
turns-returns-in-Err t c =
    turns-stopped c.loop-left.left (c.loop-left.left - 1) c.args.head.place c.args.at.prefix.now c.args.head.header.now c.args.head.label.now (bodied (lib_of c.args.at.library.now) c.args.body.now) c.loop-left.value (plan_of c.loop-left.p) c.in-Err.fault _ (omega arith) c.loop-left.invariant.0 c.in-Err.ensures.value

pub turns-returns : goal.turns-returns
turns-returns t c =
    inr (sym c.loop-left.invariant.0 ∙ turns-none c.loop-left.left c.args.head.place c.args.at.prefix.now c.args.head.header.now c.args.head.label.now (bodied (lib_of c.args.at.library.now) c.args.body.now) c.loop-left.value (plan_of c.loop-left.p) (omega arith))

pub arm-block-requires : goal.arm-block-requires
arm-block-requires t c =
    let fits = part the_size (λ a. weighed-Item-Case-2-at-6.weight Item the_size a) (λ a. a.body.items) c.args.arms.now c.in-Some.k c.index-arms-k.result c.as_slice.result.now (λ a. omega arith) c.if-arms-k.false c.as_slice.ensures in
    grind (arith, fits)

pub arm-returns : goal.arm-returns
arm-returns t c = arm-taken (lib_of c.args.at.library.now) c.args.arms.now c.in-Some.k c.index-arms-k.result c.args.chosen c.as_slice.result.now c.args.at.prefix.now (plan_of c.args.p.now) (plan_of c.block.new.p) c.block.result c.if-arms-k.false c.index-arms-k.is c.in-Some.is c.as_slice.ensures c.block.ensures

use Rattle.thin_form.specs.Listed.{lists}
use Rattle.thin_form.proofs.Terms.{mark_within}
use Rattle.thin_form.proofs.controls.control.Goals as goal

pub bounds-names-pin : goal.bounds-names-pin
bounds-names-pin c = mark_within (lists c.args.names.now) c.args.p.now.event.now c.in_ok-pin.pin c.requires (c.requires.each c.args.p.now.event.now c.in_ok-pin.ensures.0) c.in_ok-pin.ensures.1

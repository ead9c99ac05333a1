use Rattle.thin_form.specs.Listed.{lists}
use Rattle.thin_form.proofs.Terms.{mark_within, a_clock, a_source, a_wire, nothing}
use Rattle.thin_form.proofs.names.find.Goals as goal

pub bounds-names-n : goal.bounds-names-n
bounds-names-n c = mark_within (lists c.args.names.now) c.args.name.now c.in-Some.n c.requires c.in-Some.ensures.0 c.in-Some.ensures.1

pub returns-in-Some : goal.returns-in-Some
returns-in-Some c = a_clock (lists c.args.names.now) c.args.name.now c.in-Some.n c.in-Some.ensures.0 c.in-Some.ensures.1 c.if-names-n.true

pub returns-in-Some-2 : goal.returns-in-Some-2
returns-in-Some-2 c = a_source (lists c.args.names.now) c.args.name.now c.in-Some.n c.in-Some.ensures.0 c.in-Some.ensures.1 c.if-names-n.false

pub returns-in-Some-place_in : goal.returns-in-Some-place_in
returns-in-Some-place_in c = a_wire (lists c.args.names.now) c.args.name.now c.in-Some-place_in.w c.in-None.ensures c.in-Some-place_in.ensures.0 c.in-Some-place_in.ensures.1

pub returns-in-None-place_in : goal.returns-in-None-place_in
returns-in-None-place_in c = nothing (lists c.args.names.now) c.args.name.now c.in-None.ensures c.in-None-place_in.ensures

use Rattle.std.proofs.Common.{◌≡◌}
use Rattle.thin_tree.specs.Form.{assignment_in}
use Rattle.thin_tree.specs.Written.{an_assignment}
use Rattle.thin_tree.proofs.Gathered.{goes_on, ends, answered}
use Rattle.thin_tree.proofs.items.assignments.Goals as goal

pub returns-in-None-clause-not_of_form : goal.returns-in-None-clause-not_of_form
returns-in-None-clause-not_of_form c _ = ends (assignment_in c.args.names.now.design.now) an_assignment c.args.given.now c.loop-d.out.items c.loop-d.d-index c.d-item.result c.loop-d-test.true c.d-item.is (answered an_assignment _ _ _ c.in-None.is c.in_ok-found.ensures) c.loop-d.invariant

pub loop-d-preserved : goal.loop-d-preserved
loop-d-preserved c = goes_on (assignment_in c.args.names.now.design.now) an_assignment c.args.given.now c.loop-d.out.items c.loop-d.d-index c.d-item.result c.loop-d-test.true c.d-item.is c.in-Some.found c.push.new.self.items c.in_ok-push-in-Some.ensures.items (answered an_assignment _ _ _ c.in-Some.is c.in_ok-found.ensures) c.loop-d.invariant

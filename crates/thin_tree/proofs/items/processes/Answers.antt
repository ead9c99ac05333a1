use Rattle.std.proofs.Common.{◌≡◌}
use Rattle.thin_tree.specs.Form.{process_in}
use Rattle.thin_tree.specs.Written.{a_process}
use Rattle.thin_tree.proofs.Gathered.{goes_on, ends, answered}
use Rattle.thin_tree.proofs.items.processes.Goals as goal

pub returns-in-None-clause-not_of_form : goal.returns-in-None-clause-not_of_form
returns-in-None-clause-not_of_form c _ = ends (process_in c.args.names.now.design.now) a_process c.args.given.now c.loop-p.out.items c.loop-p.p-index c.p-item.result c.loop-p-test.true c.p-item.is (answered a_process _ _ _ c.in-None.is c.in_ok-found.ensures) c.loop-p.invariant

pub loop-p-preserved : goal.loop-p-preserved
loop-p-preserved c = goes_on (process_in c.args.names.now.design.now) a_process c.args.given.now c.loop-p.out.items c.loop-p.p-index c.p-item.result c.loop-p-test.true c.p-item.is c.in-Some.found c.push.new.self.items c.in_ok-push-in-Some.ensures.items (answered a_process _ _ _ c.in-Some.is c.in_ok-found.ensures) c.loop-p.invariant

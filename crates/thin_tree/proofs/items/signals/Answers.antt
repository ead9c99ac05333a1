use Rattle.std.proofs.Common.{◌≡◌}
use Rattle.thin_tree.specs.Form.{input_names, signal_in}
use Rattle.thin_tree.specs.Written.{a_declared}
use Rattle.thin_tree.proofs.Gathered.{goes_on, ends}
use Rattle.thin_tree.proofs.items.signals.Goals as goal

pub returns-in-None-clause-not_of_form : goal.returns-in-None-clause-not_of_form
returns-in-None-clause-not_of_form c _ = ends (signal_in (input_names c.args.names.now.design.now.ports)) a_declared c.args.given.now c.loop-s.out.items c.loop-s.s-index c.s-item.result c.loop-s-test.true c.s-item.is c.in-None.ensures c.loop-s.invariant

pub loop-s-preserved : goal.loop-s-preserved
loop-s-preserved c = goes_on (signal_in (input_names c.args.names.now.design.now.ports)) a_declared c.args.given.now c.loop-s.out.items c.loop-s.s-index c.s-item.result c.loop-s-test.true c.s-item.is c.in-Some.found c.push.new.self.items c.in_ok-push-in-Some.ensures.items c.in-Some.ensures c.loop-s.invariant

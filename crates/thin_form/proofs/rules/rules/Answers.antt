use Rattle.std.proofs.Common.{map}
use Rattle.thin_form.specs.Listed.{lists}
use Rattle.thin_form.proofs.Faults.{passed_on}
use Rattle.thin_form.proofs.Terms.{rules_pushed, rules_ended, rules_done}
use Rattle.thin_form.proofs.rules.rules.Goals as goal

pub returns-in-Err-clause-not_of_form : goal.returns-in-Err-clause-not_of_form
returns-in-Err-clause-not_of_form c = λ fault.
    rules_ended (lists c.args.names.now) c.args.read.now c.loop-e.e-index c.e-item.result _ (map (λ r. r.items) c.loop-e.out.items) c.loop-e-test.true c.e-item.is c.loop-e.invariant (c.in-Err.ensures.not_of_form (passed_on _ _ fault))

pub loop-e-preserved : goal.loop-e-preserved
loop-e-preserved c =
    rules_pushed (λ r. r.items) (lists c.args.names.now) c.args.read.now c.loop-e.e-index c.e-item.result _ c.loop-e.out.items c.push.new.self.items c.in-Ok.rule c.loop-e-test.true c.in_ok-push-in-Ok.ensures.items c.e-item.is c.loop-e.invariant c.in-Ok.ensures.terms

pub returns-clause-rules : goal.returns-clause-rules
returns-clause-rules c = rules_done (lists c.args.names.now) c.args.read.now c.loop-e.e-index _ (map (λ r. r.items) c.loop-e.out.items) c.loop-e-test.false c.loop-e.invariant

use Rattle.std.proofs.Common.{drop, arith}
use Rattle.std.proofs.lemmas.List.{length-drop}
use Rattle.design_form.specs.Gates.{gate_of}
use Rattle.design_form.proofs.WordLemmas.{each-more, each-end, pushed, ended}
use Rattle.design_form.proofs.words.bitwise.Goals as goal

pub loop-i-preserved : goal.loop-i-preserved
loop-i-preserved c = pushed _ _ _ _ _ _ _ c.in_ok-push.ensures.items c.gate.ensures (each-more (gate_of c.args.op) c.args.a.now c.args.b.now c.loop-i.i _ _ (omega arith) (omega arith)) c.loop-i.invariant

pub returns : goal.returns
returns c = ended _ _ _ (each-end (gate_of c.args.op) (drop c.loop-i.i c.args.a.now) (drop c.loop-i.i c.args.b.now) (omega (arith, length-drop c.loop-i.i c.args.a.now))) c.loop-i.invariant

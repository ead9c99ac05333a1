use Rattle.std.proofs.Common.{◌++◌, ◌∷◌, [], arith}
use Rattle.rdcsign.proofs.PutsLemmas.{puts_after, cut_after, cut_before, written_twice_after}
use Rattle.rdcsign.proofs.conclusion.put_line.Goals as goal

pub returns-then-not-put-2 : goal.returns-then-not-put-2
returns-then-not-put-2 g c =
    cut_before (c.args.kind.now ++ c.args.name.now) (10 ∷ []) _ _ _ _
    (cut_after c.args.kind.now c.args.name.now _ _ _ _ _ _ c.if-not-put.ensures.puts c.put.ensures.faults c.put-2.ensures.faults c.if-not-put-2.ensures.puts)

pub returns : goal.returns
returns g c =
    puts_after (c.args.kind.now ++ c.args.name.now) (10 ∷ []) c.put-3.result _ _ _ (g.K.Sink.faults c.args.out.now) (g.K.Sink.faults c.put-2.new.out) _
    (written_twice_after c.args.kind.now c.args.name.now _ _ _ c.if-not-put.ensures.puts c.if-not-put-2.ensures.puts) (omega (arith, c.put.ensures.faults, c.put-2.ensures.faults)) c.put-3.ensures.faults c.put-3.ensures.puts

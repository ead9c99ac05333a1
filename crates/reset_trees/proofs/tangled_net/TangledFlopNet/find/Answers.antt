use Rattle.std.proofs.Common.{sym, ◌∙◌}
use Rattle.std.proofs.lemmas.Slice.Eq.{bytes_eq-Decides}
use Rattle.reset_trees.proofs.TangledNetLemmas.{finds}
use Rattle.reset_trees.proofs.tangled_net.TangledFlopNet.find.Goals as goal

pub returns-then-eq : goal.returns-then-eq
returns-then-eq c =
    finds c.bits.b c.args.name.now c.bit_name.result.now c.bits-test.true c.bit_name.ensures
    ((bytes_eq-Decides c.bit_name.result.now c.args.name.now).0 (sym c.eq.ensures ∙ c.if-eq.true)) c.bits.invariant

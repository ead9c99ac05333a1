use Rattle.std.proofs.Common.{◌≡◌, arith}
use Rattle.std.proofs.lemmas.Grind.{common_steps}
use Rattle.rdc_tern.specs.Words.{add_of}
use Rattle.rdc_tern.proofs.WordSteps.{xor_zero_each}
use Rattle.rdc_tern.proofs.sums.add.Goals as goal

pub returns : goal.returns
returns c =
    let sum : c.add_word.new.sum ≡ add_of c.deref_mut.result.now c.args.b.now = rw (xor_zero_each c.args.b.now) at c.add_word.ensures in
    grind (arith, common_steps)

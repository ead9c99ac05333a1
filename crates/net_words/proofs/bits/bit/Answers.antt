use Rattle.net_words.specs.Bits.{bit}
use Rattle.net_words.proofs.bits.bit.Goals as goal

pub returns-in-And-clause-builds : goal.returns-in-And-clause-builds
unfolding bit
returns-in-And-clause-builds c = rw c.in-And.is c.put.ensures.builds

pub returns-in-Or-clause-builds : goal.returns-in-Or-clause-builds
unfolding bit
returns-in-Or-clause-builds c = rw c.in-Or.is c.put-in-Or.ensures.builds

pub returns-in-Xor-clause-builds : goal.returns-in-Xor-clause-builds
unfolding bit
returns-in-Xor-clause-builds c = rw c.in-Xor.is c.put-in-Xor.ensures.builds

pub returns-in-Xnor-clause-builds : goal.returns-in-Xnor-clause-builds
unfolding bit
returns-in-Xnor-clause-builds c = rw c.in-Xnor.is c.xnor.ensures.builds

use Rattle.std.proofs.Common.{◌≡◌, ◌≤◌, ◌-◌, ◌^◌, drop}
use Rattle.sat_chain.proofs.TextLemmas.{digits_from}
use Rattle.sat_chain.proofs.words.digits.Given as goal

abbrev pub invariant-loop-b : goal.invariant-loop-b
invariant-loop-b l = (digits_from l.n (drop l.b-index l.word) ≡ digits_from 0 l.word) × (l.n ≤ 2 ^ 64 - 1)

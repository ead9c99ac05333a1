-- The digits that are left decide the number.
use Rattle.std.proofs.Common.{◌≡◌, ◌+◌, ◌-◌, ◌*◌, ◌^◌, min, arith, drop, ap, ◌∙◌, get_or}
use Rattle.sat_chain.proofs.TextLemmas.{digits_from, digits_step, digits_done}
use Rattle.sat_chain.proofs.words.digits.Goals as goal

pub loop-b-preserved : goal.loop-b-preserved
loop-b-preserved c =
    let next : c.saturating_add-n.result ≡ min (min (c.loop-b.n * 10) (2 ^ 64 - 1) + (get_or c.args.word.now c.loop-b.b-index 0 - 48)) (2 ^ 64 - 1) = omega arith in
    (ap (λ n. digits_from n (drop (c.loop-b.b-index + 1) c.args.word.now)) next ∙ digits_step c.loop-b.n c.args.word.now c.loop-b.b-index (omega arith) (omega arith) (omega arith) ∙ c.loop-b.invariant.0, omega arith)

pub returns : goal.returns
returns c = digits_done c.loop-b.n c.args.word.now c.loop-b.b-index c.loop-b.invariant.1 (omega arith) c.loop-b.invariant.0

use Rattle.std.proofs.Common.{◌+◌, ◌≤◌, List, length, ap, ◌∙◌, arith}
use Rattle.design_form.specs.declared.signal.Signal.{Signal}
use Rattle.design_form.specs.Signals.{width_of}
use Rattle.design_form.specs.Numbers.{printed}
use Rattle.design_form.proofs.NameLemmas.{counted-more, printed-take}
use Rattle.design_form.proofs.parts.Parts.is_countable.Goals as goal

pub returns-then-count : goal.returns-then-count
returns-then-count c =
    let items = c.as_slice-signal-items.result.now in
    let more = counted-more items c.loop-signal.signal-index c.signal-item.result c.loop-signal.count c.width.result (omega arith) c.signal-item.is (c.width.ensures ∙ ap width_of c.bounds.ensures) c.loop-signal.invariant.0 in
    let all = printed-take (c.loop-signal.signal-index + 1) items in
    let same = ap (λ (ss : List Signal). length (printed ss)) c.as_slice-signal-items.ensures in
    let many : 4294967296 ≤ length (printed c.args.self.now.signals) = omega (arith, more, all, same) in
    (λ no. absurd cc, λ few. absurd (omega (arith, many, few)))

pub loop-signal-preserved : goal.loop-signal-preserved
loop-signal-preserved c =
    let items = c.as_slice-signal-items.result.now in
    let more = counted-more items c.loop-signal.signal-index c.signal-item.result c.loop-signal.count c.width.result (omega arith) c.signal-item.is (c.width.ensures ∙ ap width_of c.bounds.ensures) c.loop-signal.invariant.0 in
    (more, omega arith)

use Rattle.std.proofs.Common.{◌∙◌}
use Rattle.net_procs.proofs.wires.copied.Goals as goal

pub returns-clause-run : goal.returns-clause-run
returns-clause-run c =
    let seen = c.in_ok-seen.ensures.items ∙ c.as_slice.ensures.value in
    let becomes = c.in_ok-becomes.ensures.items ∙ c.as_slice-2.ensures.value in
    λ k. record { now = seen k; next = becomes k }

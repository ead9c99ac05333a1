-- The numbers that are left decide what all say.
use Rattle.std.proofs.Common.{◌≡◌, ◌≤◌, ◌^◌}
use Rattle.std.specs.List.{list_any}
use Rattle.proc_cases.specs.Full.{each_below, hits, value_in_case}
use Rattle.proc_cases.proofs.full.covers.Given as goal

abbrev pub invariant-numbers : goal.invariant-numbers
invariant-numbers l = record {
  within : l.left ≤ 2 ^ l.width;
  same : each_below l.left (λ x. list_any (hits (value_in_case l.context l.width x)) l.patterns) ≡ each_below (2 ^ l.width) (λ x. list_any (hits (value_in_case l.context l.width x)) l.patterns);
}

abbrev pub decreases-numbers : goal.decreases-numbers
decreases-numbers l = l.left

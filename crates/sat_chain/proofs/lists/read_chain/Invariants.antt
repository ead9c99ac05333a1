use Rattle.std.proofs.Common.{◌≡◌, ◌+◌, ◌*◌, ◌≤◌, [], vec_len, vec_capacity}
use Rattle.std.specs.Option.{option_copied}
use Rattle.sat_chain.specs.Text.{chain_of}
use Rattle.sat_chain.specs.Scan.{words_after, left_of, numbers_behind}
use Rattle.sat_chain.proofs.lists.read_chain.Given as goal

abbrev pub invariant-loop-left : goal.invariant-loop-left
invariant-loop-left l = record {
  value : numbers_behind l.chain.items (chain_of (words_after (option_copied l.left))) ≡ numbers_behind [] (chain_of (words_after (option_copied l.initial.left)));
  bytes : left_of (option_copied l.left) + 2 * vec_len l.chain ≤ left_of (option_copied l.initial.left);
  capacity : vec_capacity l.chain ≡ vec_capacity l.initial.chain;
}

abbrev pub decreases-loop-left : goal.decreases-loop-left
decreases-loop-left l = left_of (option_copied l.left)

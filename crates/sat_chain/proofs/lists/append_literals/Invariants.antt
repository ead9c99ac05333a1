use Rattle.std.proofs.Common.{◌≡◌, ◌+◌, ◌*◌, ◌≤◌, take, vec_len, vec_capacity}
use Rattle.std.specs.Option.{option_copied}
use Rattle.sat_chain.specs.Text.{literals_of}
use Rattle.sat_chain.specs.Scan.{words_after, left_of, prefixed}
use Rattle.sat_chain.proofs.lists.append_literals.Given as goal

abbrev pub invariant-loop-left : goal.invariant-loop-left
invariant-loop-left l = record {
  value : prefixed l.lits.items (literals_of l.vars (words_after (option_copied l.left))) ≡ prefixed l.initial.lits.items (literals_of l.vars (words_after (option_copied l.initial.left)));
  bytes : left_of (option_copied l.left) + 2 * vec_len l.lits ≤ left_of (option_copied l.initial.left) + 2 * vec_len l.initial.lits;
  longer : vec_len l.initial.lits ≤ vec_len l.lits;
  front : take (vec_len l.initial.lits) l.lits.items ≡ l.initial.lits.items;
  capacity : vec_capacity l.lits ≡ vec_capacity l.initial.lits;
}

abbrev pub decreases-loop-left : goal.decreases-loop-left
decreases-loop-left l = left_of (option_copied l.left)

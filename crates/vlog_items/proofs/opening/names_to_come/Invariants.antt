-- The names so far and those that are left are all names.
use Rattle.std.proofs.Common.{◌≡◌, ◌++◌, map, length}
use Rattle.std.specs.String.{string_bytes}
use Rattle.vlog_items.proofs.opening.names_to_come.Given as goal

abbrev pub invariant-names : goal.invariant-names
invariant-names l = map string_bytes l.coming.items ++ map string_bytes l.left ≡ map string_bytes l.names

abbrev pub decreases-names : goal.decreases-names
decreases-names l = length l.left

-- The table has the names behind those that are left.
use Rattle.std.proofs.Common.{◌≡◌, ◌≤◌, ℕ, List, drop, length}
use Rattle.std.specs.Str.{bytes_eq}
use Rattle.std.specs.HashMap as hash
use Rattle.design_form.specs.Numbers.{index_from}
use Rattle.thin_tree.specs.Written.{texts}
use Rattle.thin_tree.proofs.places.Places.new.Given as goal

abbrev pub invariant-loop-left : goal.invariant-loop-left
invariant-loop-left l =
    ((λ (other : List ℕ). hash.get_by (λ key. bytes_eq other key.items) l.table) ≡ index_from l.left (texts (drop l.left l.names)))
    × (l.left ≤ length l.names)

abbrev pub decreases-loop-left : goal.decreases-loop-left
decreases-loop-left l = l.left

-- Frames of which nothing is left add no items.
use Rattle.std.proofs.Common.{◌≡◌, ◌++◌, ◌∷◌, List, length}
use Rattle.vlog_items.specs.Items.{Item}
use Rattle.vlog_items.specs.Stack.{items_of, names_of}
use Rattle.vlog_items.proofs.opening.uncover.Given as goal

abbrev pub invariant-frames : goal.invariant-frames
invariant-frames l = record {
  items : (later : List Item) → items_of later (l.top ∷ l.below.items) ≡ items_of later (l.initial.top ∷ l.initial.below.items);
  names : l.spent.items ++ names_of (l.top ∷ l.below.items) ≡ l.initial.spent.items ++ names_of (l.initial.top ∷ l.initial.below.items);
}

abbrev pub decreases-frames : goal.decreases-frames
decreases-frames l = length l.below.items

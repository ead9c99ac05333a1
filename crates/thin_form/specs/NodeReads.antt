-- What a node reads.
use Rattle.std.specs.Prelude.{ℕ, ◌<◌}
use Rattle.thin_form.specs.declared.kind.Node.{Node}
use Rattle.thin_form.specs.declared.kind.Node.TheVariants as node

-- the numbers in node k: a source that is there, or lower nodes
abbrev pub ReadsBelow : ℕ → ℕ → Node → Type 0
ReadsBelow count k (node.Source n) = n < count
ReadsBelow count k (node.Not a) = a < k
ReadsBelow count k (node.And a b) = (a < k) × (b < k)
ReadsBelow count k (node.Or a b) = (a < k) × (b < k)

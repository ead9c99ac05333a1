-- Rows of specs/Order.antt, worked by hand.
use Rattle.std.proofs.Common.{◌≡◌, refl, [], ◌∷◌, Some, None}
use Rattle.net_view.specs.declared.gate.Gate.TheVariants.{Source, Not, And, Xor}
use Rattle.net_order.specs.Order.{order}

-- bits 0 and 1 are free; bit 2 is the AND of leaf 1, on the left, and leaf 0
pub left_comes_first : order (Source 0 ∷ Source 1 ∷ And 1 0 ∷ []) (None ∷ None ∷ Some 2 ∷ []) ≡ 1 ∷ 0 ∷ 2 ∷ []
left_comes_first = refl

-- bit 0 is the inverse of bit 1, which is the XOR of a leaf of bit 2 with itself
pub leaves_read_roots : order (Source 1 ∷ Not 0 ∷ Source 2 ∷ Xor 2 2 ∷ []) (Some 1 ∷ Some 3 ∷ None ∷ []) ≡ 2 ∷ 3 ∷ 0 ∷ 1 ∷ []
leaves_read_roots = refl

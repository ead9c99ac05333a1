-- How deep the parts of a list are.
use Rattle.std.proofs.Common.{◌≡◌, ℕ, ◌<◌, ◌≤◌, List, length, get_or, ap, arith}
use denote.Param.Weighed.{most, at_most}

-- what one of them holds is no deeper than all
pub part : {X Y : Type 0} (deep : X → ℕ) (weight : Y → ℕ) (inner : Y → List X) (ys : List Y) (k : ℕ) (y : Y) (xs : List X)
    → ((a : Y) → most deep (inner a) ≤ weight a) → k < length ys → xs ≡ inner (get_or ys k y) → most deep xs ≤ most weight ys
part deep weight inner ys k y xs holds within is =
    let here : most deep xs ≡ most deep (inner (get_or ys k y)) = ap (most deep) is in
    let one : most deep (inner (get_or ys k y)) ≤ weight (get_or ys k y) = holds (get_or ys k y) in
    let all : weight (get_or ys k y) ≤ most weight ys = at_most weight ys k y within in
    omega arith

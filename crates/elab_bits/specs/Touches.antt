-- Touches: bits of a design by their numbers, each at a place.
--     touched place ns        these bits at one place
--     once ns                 each of these numbers once, in ascending order
--     is_among ns n           whether a number is one of these
--     others ns ts            the touches that are of none of these bits
use Rattle.std.specs.Prelude.{ℕ, Bool, ◌==◌, if◌then◌else◌, List, [], ◌∷◌, map}
use Rattle.std.specs.List.{list_any, flat_map}
use Rattle.std.specs.Ordering.{nat_cmp}
use Rattle.std.specs.BTreeSet.{insert_key}
use Rattle.rdc_outside.specs.declared.source.Place.{Place}
use Rattle.elab_bits.specs.declared.touch.Touch.{Touch}

-- these bits at one place
abbrev pub touched : Place → List ℕ → List Touch
touched place ns = map (λ n. record { bit = n; place = place }) ns

-- numbers put in one by one, each at its place in ascending order, unless it is there
unfoldable pub entered : List ℕ → List ℕ → List ℕ
entered so_far [] = so_far
entered so_far (n ∷ ns) = entered (insert_key nat_cmp so_far n) ns

-- each number once, in ascending order
abbrev pub once : List ℕ → List ℕ
once ns = entered [] ns

unfoldable pub is_among : List ℕ → ℕ → Bool
is_among ns n = list_any (λ m. n == m) ns

-- a touch, unless its bit is one of these
unfoldable pub unless : List ℕ → Touch → List Touch
unless ns t = if is_among ns t.bit then [] else t ∷ []

-- the touches that are of none of these bits
abbrev pub others : List ℕ → List Touch → List Touch
others ns ts = flat_map (unless ns) ts

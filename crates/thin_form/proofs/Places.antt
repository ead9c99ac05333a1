-- What stands at a place of a list whose elements are seen through functions.
use Rattle.std.proofs.Common.{◌≡◌, ℕ, ◌+◌, ◌<◌, drop, List, ◌∷◌, length, get_or, map, slice_get, Some, refl, sym, ap, ◌∙◌, arith}
use Rattle.std.proofs.lemmas.List.{get_or-map, length-map, drop_more}
use Rattle.std.proofs.lemmas.Option.{slice_get-map, slice_get_read}
use Rattle.std.specs.Option.{option_map}

-- a member of what is seen at a place
pub member_at : {X Y Z : Type 0} (f : X → Y) (g : Y → Z) (xs : List X) (n : ℕ) (x : X) (d : Z) → n < length xs → x ≡ get_or xs n x → get_or (map g (map f xs)) n d ≡ g (f x)
member_at f g xs n x d within at =
    let further : n < length (map f xs) = omega (arith, length-map xs f) in
    get_or-map g (map f xs) n (f x) d further ∙ ap g (get_or-map f xs n x (f x) within ∙ ap f (sym at))

-- what is seen at a place
pub seen_at : {X Y : Type 0} (f : X → Y) (xs : List X) (n : ℕ) (x : X) → n < length xs → x ≡ get_or xs n x → slice_get (map f xs) n ≡ Some (f x)
seen_at f xs n x within at = slice_get-map f xs n ∙ ap (option_map f) (slice_get_read xs (length xs) n x refl within at)

-- a member at a place of a list that is seen so
pub member_of_seen : {X Y Z : Type 0} (f : X → Y) (g : Y → Z) (xs : List X) (ys : List Y) (n : ℕ) (x : X) (d : Z) → map f xs ≡ ys → n < length ys → x ≡ get_or xs n x → g (f x) ≡ get_or (map g ys) n d
member_of_seen f g xs ys n x d seen within at =
    let inside : n < length xs = omega (arith, length-map xs f, ap length seen) in
    sym (member_at f g xs n x d inside at) ∙ ap (λ zs. get_or (map g zs) n d) seen

-- a list from a place on, with what stands there
pub drop_item : {X : Type 0} (xs : List X) (i : ℕ) (x : X) → i < length xs → x ≡ get_or xs i x → drop i xs ≡ x ∷ drop (i + 1) xs
drop_item xs i x within at = drop_more xs i x within ∙ ap (λ (y : _). y ∷ drop (i + 1) xs) (sym at)

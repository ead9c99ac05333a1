-- Comments: how far the one that begins with a slash reaches.
use Rattle.std.specs.Prelude.{ℕ, ◌+◌, ◌&&◌, ◌==◌, if◌then◌else◌, List, [], ◌∷◌, slice_index, Option, Some, None}

-- the number of bytes up to the end of the first `*/`, with n more before them
unfoldable pub close_from : ℕ → List ℕ → Option ℕ
close_from n [] = None
close_from n (b ∷ bs) = if b == 42 && slice_index bs 0 == 47 then Some (n + 2) else close_from (n + 1) bs

-- the number of bytes up to the end of the first `*/`
abbrev pub close_of : List ℕ → Option ℕ
close_of bs = close_from 0 bs

-- The order of places: by file, then by line, then by column.
--     is_before p q             whether p comes before q
--     in_order ps               places in this order; equal ones all stand there
--     places_at n ts            where a bit is touched, in this order
use Rattle.std.specs.Prelude.{ℕ, Bool, ◌==◌, nat_lt, if◌then◌else◌, List, [], ◌∷◌}
use Rattle.rdc_outside.specs.declared.source.Place.{Place}
use Rattle.elab_bits.specs.declared.touch.Touch.{Touch}

unfoldable pub is_before : Place → Place → Bool
is_before p q =
    if p.file == q.file then (if p.line == q.line then nat_lt p.col q.col else nat_lt p.line q.line)
    else nat_lt p.file q.file

-- places with p at its place in order
unfoldable pub placed : List Place → Place → List Place
placed [] p = p ∷ []
placed (q ∷ qs) p = if is_before p q then p ∷ q ∷ qs else q ∷ placed qs p

-- places put in one by one
unfoldable pub ordered : List Place → List Place → List Place
ordered so_far [] = so_far
ordered so_far (p ∷ ps) = ordered (placed so_far p) ps

abbrev pub in_order : List Place → List Place
in_order ps = ordered [] ps

-- where a bit is touched, in the order of the touches
unfoldable pub places_of : ℕ → List Touch → List Place
places_of n [] = []
places_of n (t ∷ ts) = if n == t.bit then t.place ∷ places_of n ts else places_of n ts

-- the same in the order of places
abbrev pub places_at : ℕ → List Touch → List Place
places_at n ts = in_order (places_of n ts)

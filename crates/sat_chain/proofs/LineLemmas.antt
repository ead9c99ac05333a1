-- Serves specs/Text.antt: the line of a text by its first word.
use Rattle.std.proofs.Common.{◌≡◌, ℕ, true, false, List, ◌∷◌, refl, None}
use Rattle.sat_chain.specs.Text.{words, is_byte, line_in, line_of, given_line, derived_line, literals_of, chain_of}

pub line_given : (v : ℕ) (text w : List ℕ) (ws : List (List ℕ)) → words text ≡ w ∷ ws → is_byte 99 w ≡ true → line_of v text ≡ given_line (literals_of v ws)
unfolding line_in
line_given v text w ws is one = rw (is, one) refl

pub line_derived : (v : ℕ) (text w : List ℕ) (ws : List (List ℕ)) → words text ≡ w ∷ ws → is_byte 99 w ≡ false → is_byte 114 w ≡ true → line_of v text ≡ derived_line v (chain_of ws)
unfolding line_in
line_derived v text w ws is other one = rw (is, other, one) refl

pub line_none : (v : ℕ) (text w : List ℕ) (ws : List (List ℕ)) → words text ≡ w ∷ ws → is_byte 99 w ≡ false → is_byte 114 w ≡ false → line_of v text ≡ None
unfolding line_in
line_none v text w ws is other one = rw (is, other, one) refl

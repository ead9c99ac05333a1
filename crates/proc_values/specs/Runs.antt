-- What a process body makes of a state, step by step.
--     Run                          what reads see, and what each bit becomes
--     is_among bits n              whether a bit is one of these
--     put bits s n v               a bit of these gets another value; a bit of none of them keeps its own
--     struck bits ks s             strokes, one after the other: each bit becomes mux(hit, value, what it is)
--     mixed bits c ys ns           each of these bits becomes mux(c, y, n); others are as in ns
--     chosen reads bits c one other      the same of both: of what reads see at `reads`, of what bits become at `bits`
--     values_of s bits             the values of bits
use Rattle.std.specs.Prelude.{ℕ, ◌+◌, Bool, ◌==◌, if◌then◌else◌, List, [], ◌∷◌, map, slice_set}
use Rattle.std.specs.List.{list_any}
use Rattle.rdc_tern.specs.declared.value.Tern.{Tern}
use Rattle.rdc_tern.specs.Kleene.{mux_of}
use Rattle.design_form.specs.State.{value_at}
use Rattle.proc_values.specs.declared.stroke.Stroke.{Stroke}

-- what reads see, and what each bit becomes, by the numbers of the bits
pub record Run : Type 0 where
  pub now : List Tern
  pub next : List Tern

unfoldable pub is_among : List ℕ → ℕ → Bool
is_among bits n = list_any (λ b. n == b) bits

-- a bit of these gets another value; a bit of none of them keeps its own
unfoldable pub put : List ℕ → List Tern → ℕ → Tern → List Tern
put bits s n v = if is_among bits n then slice_set s n v else s

-- strokes, one after the other
unfoldable pub struck : List ℕ → List Stroke → List Tern → List Tern
struck bits [] s = s
struck bits (k ∷ ks) s = struck bits ks (put bits s k.bit (mux_of k.hit k.value (value_at s k.bit)))

-- from bit k on, each of these bits becomes mux(c, y, n); others are as in the second list
unfoldable pub mixed_from : List ℕ → Tern → ℕ → List Tern → List Tern → List Tern
mixed_from bits c k ys [] = []
mixed_from bits c k [] (n ∷ ns) = n ∷ ns
mixed_from bits c k (y ∷ ys) (n ∷ ns) = (if is_among bits k then mux_of c y n else n) ∷ mixed_from bits c (k + 1) ys ns

abbrev pub mixed : List ℕ → Tern → List Tern → List Tern → List Tern
mixed bits c ys ns = mixed_from bits c 0 ys ns

abbrev pub chosen : List ℕ → List ℕ → Tern → Run → Run → Run
chosen reads bits c one other = record { now = mixed reads c one.now other.now; next = mixed bits c one.next other.next }

-- the values of bits
abbrev pub values_of : List Tern → List ℕ → List Tern
values_of s bits = map (value_at s) bits

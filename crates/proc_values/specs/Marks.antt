-- What private functions keep of bits and of sides that are tried.
--     same_bit free a b              whether two bits are the same, or don't count
--     AreMarks bits marks            a flag for each bit: whether it is one of these
--     StaysOutside bits a b          other bits are the same
--     scattered bits vs s            values put back at bits, the last one last
--     IsSide reads bits r out now next     what a side leaves at these bits, from r: what reads see, and what bits become
use Rattle.std.specs.Prelude.{◌≡◌, ℕ, ◌<◌, Bool, true, false, List, [], ◌∷◌, length, get_or, slice_set}
use Rattle.rdc_tern.specs.declared.value.Tern.{Tern}
use Rattle.rdc_tern.specs.declared.value.Tern.TheVariants.{One}
use Rattle.rdc_tern.specs.Kleene.{not_of, xor_of}
use Rattle.design_form.specs.State.{value_at}
use Rattle.proc_values.specs.Runs.{Run, is_among, values_of}

abbrev pub same_bit : Bool → Tern → Tern → Tern
same_bit true a b = One
same_bit false a b = not_of (xor_of a b)

abbrev pub AreMarks : List ℕ → List Bool → Type 0
AreMarks bits marks = (n : ℕ) → n < length marks → get_or marks n false ≡ is_among bits n

abbrev pub StaysOutside : List ℕ → List Tern → List Tern → Type 0
StaysOutside bits a b = (n : ℕ) → is_among bits n ≡ false → value_at a n ≡ value_at b n

unfoldable pub scattered : List ℕ → List Tern → List Tern → List Tern
scattered [] vs s = s
scattered (b ∷ bits) [] s = s
scattered (b ∷ bits) (v ∷ vs) s = scattered bits vs (slice_set s b v)

-- two states as long as one another, which differ at these bits alone
pub record Moves (bits : List ℕ) (a b : List Tern) : Type 0 where
  pub long : length b ≡ length a
  pub outside : StaysOutside bits a b

-- what a side leaves at these bits, from r
pub record IsSide (reads bits : List ℕ) (r out : Run) (now next : List Tern) : Type 0 where
  pub now_is : now ≡ values_of out.now reads
  pub next_is : next ≡ values_of out.next bits
  pub now_moves : Moves reads r.now out.now
  pub next_moves : Moves bits r.next out.next

-- flags and states fit
pub record IsReady (reads bits : List ℕ) (read_marks marks : List Bool) (now next : List Tern) : Type 0 where
  pub reads_are : AreMarks reads read_marks
  pub marks_are : AreMarks bits marks
  pub now_long : length now ≡ length read_marks
  pub next_long : length next ≡ length marks

-- the states became what a step makes of them, at these bits alone
pub record Runs (reads bits : List ℕ) (f : Run → Run) (now next now' next' : List Tern) : Type 0 where
  pub same : record { now = now'; next = next' } ≡ f (record { now = now; next = next })
  pub now_moves : Moves reads now now'
  pub next_moves : Moves bits next next'

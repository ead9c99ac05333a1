-- Laws of bits.
--     picked r first end o ns      of bits from place o up, those whose index lies from `first` up to that before `end`
--     GoByIndex                    these are the bits that a select between two indices stands for
--     KeepsMembers                 of numbers put in order, each once, none is lost and none is new
use Rattle.std.specs.Prelude.{◌≡◌, ℕ, ◌+◌, ◌&&◌, nat_le, nat_lt, if◌then◌else◌, List, [], ◌∷◌}
use Rattle.design_form.specs.declared.signal.Bounds.{Bounds}
use Rattle.design_form.specs.declared.signal.Signal.{Signal}
use Rattle.design_form.specs.Signals.{bounds_of, index_at}
use Rattle.design_form.specs.Numbers.{numbers_of}
use Rattle.elab_bits.specs.Touches.{is_among, once}
use Rattle.elab_bits.specs.Selects.{between}

-- of bits from place o up, those whose index lies from `first` up to that before `end`
unfoldable pub picked : Bounds → ℕ → ℕ → ℕ → List ℕ → List ℕ
picked r first end o [] = []
picked r first end o (n ∷ ns) =
    if nat_le first (index_at r o) && nat_lt (index_at r o) end then n ∷ picked r first end (o + 1) ns
    else picked r first end (o + 1) ns

-- these are the bits that a select between two indices stands for
abbrev pub GoByIndex : Type 0
GoByIndex = (ss : List Signal) (s : Signal) (first end : ℕ) → between (bounds_of s) (numbers_of ss s) first end ≡ picked (bounds_of s) first end 0 (numbers_of ss s)

-- of numbers put in order, each once, none is lost and none is new
abbrev pub KeepsMembers : Type 0
KeepsMembers = (ns : List ℕ) (n : ℕ) → is_among (once ns) n ≡ is_among ns n

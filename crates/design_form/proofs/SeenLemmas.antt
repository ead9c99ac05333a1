-- What names are by themselves, whatever the state.
use Rattle.std.proofs.Common.{◌≡◌, ℕ, zero, suc, ◌+◌, List, length, Option, Some, None, refl, ap, ◌∙◌}
use Rattle.std.proofs.lemmas.List.{length-map}
use Rattle.rdc_tern.specs.declared.value.Tern.{Tern}
use Rattle.design_form.specs.declared.signal.Signal.{Signal}
use Rattle.design_form.specs.declared.parts.Parts.{Parts}
use Rattle.design_form.specs.Signals.{bounds_of, width_of, names_from, bit_names}
use Rattle.design_form.specs.Numbers.{number_in, bits_of, signal_of}
use Rattle.design_form.specs.State.{value_at, word_at, seen_in, seen_as}
use Rattle.design_form.specs.Selects.{Seen}

length-names_from : (s : Signal) (o n : ℕ) → length (names_from s o n) ≡ n
unfolding names_from
length-names_from s o zero = refl
length-names_from s o (suc n) = ap suc (length-names_from s (o + 1) n)

pub length-word_at : (ss : List Signal) (state : List Tern) (s : Signal) → length (word_at ss state s) ≡ width_of (bounds_of s)
length-word_at ss state s =
    length-map _ (value_at state) ∙ length-map (bit_names s) (number_in (bits_of ss)) ∙ length-names_from s 0 (width_of (bounds_of s))

pub ruleset shapes = (length-word_at)

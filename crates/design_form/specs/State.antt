-- A state of a design, which gives each bit a value by its number, and expressions in it.
--     value_at state n        the value of a bit
--     word_at ss state s      the word of a signal, least significant bit first
--     seen_in d state         what each name stands for
--     val d state e           the word of an expression
use Rattle.std.specs.Prelude.{ℕ, false, List, [], map, Option, Some, None, slice_index_or}
use Rattle.vlog_tree.specs.declared.expr.Expr.{Expr}
use Rattle.rdc_tern.specs.declared.value.Tern.{Tern}
use Rattle.rdc_tern.specs.declared.value.Tern.TheVariants.{Unsettled}
use Rattle.design_form.specs.declared.signal.Signal.{Signal}
use Rattle.design_form.specs.declared.parts.Parts.{Parts}
use Rattle.design_form.specs.Signals.{bounds_of}
use Rattle.design_form.specs.Numbers.{numbers_of, signal_of}
use Rattle.design_form.specs.Selects.{Seen}
use Rattle.design_form.specs.Values.{word_of}

-- the value of a bit; of one that the state doesn't reach nothing is known
abbrev pub value_at : List Tern → ℕ → Tern
value_at state n = slice_index_or state n Unsettled

-- the word of a signal, least significant bit first
abbrev pub word_at : List Signal → List Tern → Signal → List Tern
word_at ss state s = map (value_at state) (numbers_of ss s)

-- what a signal stands for; a name that is not declared has no bits
unfoldable pub seen_as : List Signal → List Tern → Option Signal → Seen
seen_as ss state None = record { range = record { msb = 0; lsb = 0 }; signed = false; word = [] }
seen_as ss state (Some s) = record { range = bounds_of s; signed = s.signed; word = word_at ss state s }

-- what each name stands for
unfoldable pub seen_in : Parts → List Tern → List ℕ → Seen
seen_in d state name = seen_as d.signals state (signal_of d.signals name)

-- the word of an expression
abbrev pub val : Parts → List Tern → Expr → List Tern
val d state e = word_of (seen_in d state) e

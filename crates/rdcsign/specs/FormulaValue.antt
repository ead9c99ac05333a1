-- What a formula is worth in a state of the sources, and which sources it reads.
--     formula_value state f      its value, by Kleene's tables
--     reads f n                  source n stands in it: the cone, as a set
--     logic_of f                 both, in the words of the event model
use Rattle.std.specs.Prelude.{ℕ, Bool, ◌==◌}
use Rattle.std.specs.List.{list_any}
use Rattle.rdc_tern.specs.declared.value.Tern.{Tern}
use Rattle.rdc_tern.specs.Kleene.{not_of, and_of, or_of}
use Rattle.thin_form.specs.Formula.{Formula, Source, Not, And, Or, sources_in}
use Rattle.run_model.specs.State.{State}
use Rattle.run_model.specs.Machine.{Logic}

-- the value of a formula
abbrev pub formula_value : State → Formula → Tern
formula_value state (Source n) = state n
formula_value state (Not a) = not_of (formula_value state a)
formula_value state (And a b) = and_of (formula_value state a) (formula_value state b)
formula_value state (Or a b) = or_of (formula_value state a) (formula_value state b)

-- source n stands in the formula
abbrev pub reads : Formula → ℕ → Bool
reads f n = list_any (λ k. k == n) (sources_in f)

-- a formula as a net: its value, and its cone
abbrev pub logic_of : Formula → Logic
logic_of f = record { value = λ state. formula_value state f; cone = reads f }

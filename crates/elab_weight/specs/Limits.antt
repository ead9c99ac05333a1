-- The limit of a weight.
--     most_weight            the least weight that is refused
--     capped n               a number, as far as the limit
--     weighed place n        a weight, or `Heavy` at the place
use Rattle.std.specs.Prelude.{ℕ, min, nat_lt, if◌then◌else◌, Ok, Err}
use Rattle.rdc_outside.specs.declared.source.Place.{Place}
use Rattle.elab_names.specs.Answers.{Or_fault}
use Rattle.elab_names.specs.declared.fault.ElabFault.TheVariants.{Heavy}

unfoldable pub most_weight : ℕ
most_weight = 1048576

unfoldable pub capped : ℕ → ℕ
capped n = min n most_weight

unfoldable pub weighed : Place → ℕ → Or_fault ℕ
weighed place n = if nat_lt n most_weight then Ok n else Err (Heavy place)

-- Names with values.
--     Values, no_values, with_value values name v      what each name stands for
--     values_of env                                    the same of a table
use Rattle.std.specs.Prelude.{ℕ, if◌then◌else◌, List, Option, Some, None}
use Rattle.std.specs.Str.{bytes_eq}
use Rattle.std.specs.HashMap as hash
use Rattle.vlog_const.specs.declared.answer.ConstValue.{ConstValue}
use Rattle.vlog_const.specs.declared.env.Env.{Env}

-- what each name stands for
abbrev pub Values : Type 0
Values = List ℕ → Option ConstValue

-- no name has a value
abbrev pub no_values : Values
no_values name = None

-- the same, but for one name
abbrev pub with_value : Values → List ℕ → ConstValue → Values
with_value values name v = λ other. if bytes_eq name other then Some v else values other

-- what the names of a table stand for
abbrev pub values_of : Env → Values
values_of env = λ name. hash.get_by (λ key. bytes_eq name key.items) env.table

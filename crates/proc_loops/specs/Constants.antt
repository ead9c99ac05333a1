-- Names that are constants.
--     value_if r     the value of a constant expression, where it has one
use Rattle.std.specs.Prelude.{Option, Some, None, Ok, Err}
use Rattle.vlog_const.specs.declared.answer.ConstValue.{ConstValue}
use Rattle.vlog_const.specs.Worths as worths

abbrev pub value_if : worths.Or_fault ConstValue → Option ConstValue
value_if (Ok v) = Some v
value_if (Err fault) = None

-- What is left decides how many there are.
use Rattle.std.proofs.Common.{◌≡◌, ◌+◌, drop}
use Rattle.std.specs.List.{prefix_len}
use Rattle.vlog_lex.specs.Bytes.{is_name_byte}
use Rattle.vlog_lex.proofs.bytes.name_bytes.Given as goal

abbrev pub invariant-loop-n : goal.invariant-loop-n
invariant-loop-n l = l.n + prefix_len is_name_byte (drop l.n l.bytes) ≡ prefix_len is_name_byte l.bytes

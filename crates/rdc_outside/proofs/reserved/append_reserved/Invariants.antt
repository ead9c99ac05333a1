-- The bytes up to the index stand at the end, and there is room for the others.
use Rattle.std.proofs.Common.{◌≡◌, ◌+◌, ◌++◌, take, vec_len, vec_capacity}
use Rattle.rdc_outside.proofs.reserved.append_reserved.Given as goal

abbrev pub invariant-loop-byte : goal.invariant-loop-byte
invariant-loop-byte l =
    (l.to.items ≡ l.initial.to.items ++ take l.byte-index l.piece)
    × (vec_len l.to ≡ vec_len l.initial.to + l.byte-index)
    × (vec_capacity l.to ≡ vec_capacity l.initial.to)

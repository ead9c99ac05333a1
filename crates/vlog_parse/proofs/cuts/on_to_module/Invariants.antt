-- What is left decides.
use Rattle.std.proofs.Common.{◌≡◌, length}
use Rattle.vlog_parse.specs.Cuts.{from_module}
use Rattle.vlog_parse.proofs.cuts.on_to_module.Given as goal

abbrev pub invariant-tokens : goal.invariant-tokens
invariant-tokens l = from_module l.cursor ≡ from_module l.fn.cursor

abbrev pub decreases-tokens : goal.decreases-tokens
decreases-tokens l = length l.cursor

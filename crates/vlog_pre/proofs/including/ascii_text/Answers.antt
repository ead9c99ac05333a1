-- ASCII is text.
use Rattle.std.proofs.Common.{◌≡◌, true, sym}
use Rattle.std.specs.Char.{is_ascii}
use Rattle.std.specs.List.{list_all}
use Rattle.vlog_pre.proofs.TextLemmas.{ascii_is_text}
use Rattle.vlog_pre.proofs.including.ascii_text.Goals as goal

pub returns : goal.returns
returns c =
    let all : list_all is_ascii c.args.bytes.items ≡ true = rw (← c.deref.ensures.value) (sym c.if-not-is_ascii.ensures) in
    let fails = c.in-Err.ensures.succeeds (ascii_is_text c.args.bytes.items all) in absurd cc

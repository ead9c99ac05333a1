-- One byte more.
use Rattle.std.proofs.Common.{◌≡◌, ◌<◌, false, length, nat_eq, sym, ◌∙◌, ap, arith}
use Rattle.std.specs.Prelude.{nat_le}
use Rattle.std.proofs.lemmas.Bool.Decides.{nat_tests}
use Rattle.vlog_pre.specs.Levels.{is_taken}
use Rattle.vlog_pre.specs.Known.{state_of}
use Rattle.vlog_pre.proofs.CopyLemmas.{copied_none, copied_more}
use Rattle.vlog_pre.proofs.copying.copy_taken.Goals as goal

pub bytes-init : goal.bytes-init
bytes-init c = record { copied = copied_none (state_of c.args.known.now) c.args.reader.now.items; taken = c.requires }

pub bytes-preserved : goal.bytes-preserved
bytes-preserved c =
    let plain : nat_eq c.in-Read.b 96 ≡ false = grind (arith, nat_tests, c.if-b-eq96.false) in
    let less : length c.bytes.known.bytes < 16777215 = omega (arith, c.if-len-ge16777215.false, c.len.ensures) in
    let short : nat_le 16777215 (length c.bytes.known.bytes) ≡ false = grind (arith, nat_tests, less) in
    record {
      copied =
          copied_more (state_of c.args.known.now) (state_of c.bytes.known) (state_of c.add.new.known) c.args.reader.now.items c.bytes.reader.items c.advance.new.self.items c.in-Read.b c.in-Read.place c.bytes.invariant.copied (sym c.in-Read.ensures) c.bytes.invariant.taken plain short c.in_ok-add.ensures.known c.in_ok-advance.ensures.items;
      taken = ap is_taken c.in_ok-add.ensures.levels ∙ c.bytes.invariant.taken;
    }

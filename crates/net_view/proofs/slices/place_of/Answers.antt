use Rattle.std.proofs.Common.{inl, inr, Err, arith}
use Rattle.std.proofs.lemmas.Bool.{cases_lt}
use Rattle.std.proofs.lemmas.List.Sorted.{searched}
use Rattle.net_view.proofs.Members.{rising_le, contains_at}
use Rattle.net_view.proofs.slices.place_of.Goals as goal

pub returns-in-Err : goal.returns-in-Err
returns-in-Err c h =
    let split = searched c.args.numbers.now c.args.n (Err c.in-Err.field-0) c.in-Err.ensures.position (rising_le c.args.numbers.now c.requires.rising) in
    let there = contains_at c.args.numbers.now c.args.n h in
    elim (cases_lt there.0 c.in-Err.field-0) [
      | inl lt ↦ let low = split.1 there.0 lt in absurd (omega (arith, there.2))
      | inr ge ↦ let high = split.2 there.0 ge there.1 in absurd (omega (arith, there.2))
    ]

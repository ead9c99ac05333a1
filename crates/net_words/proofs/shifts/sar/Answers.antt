use Rattle.std.proofs.Common.{◌-◌, ℕ, length, arith, ◌∙◌, subst}
use Rattle.net_words.specs.Builds.{Builds}
use Rattle.net_words.specs.Shifts.{sar, shift_from}
use Rattle.net_words.specs.declared.shifts.Toward.TheVariants.{Bottom}
use Rattle.net_words.proofs.ShiftSteps.{get_alike}
use Rattle.net_words.proofs.shifts.sar.Goals as goal

pub returns-clause-builds : goal.returns-clause-builds
unfolding sar
returns-clause-builds c =
    let word = c.args.word.now in
    let top = c.index-word-word.is ∙ get_alike word (length word - 1) c.index-word-word.result 0 (omega (arith, c.requires.some)) in
    subst (λ (n : ℕ). Builds (λ w. w.items) (shift_from Bottom n 0 word c.args.amount.now) c.args.net.now c.shift.result c.shift.new.net) top c.shift.ensures.builds

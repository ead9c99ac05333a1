use Rattle.std.proofs.Common.{◌≡◌, ◌+◌, ◌-◌, List, ℕ, length, set, sym, subst, arith}
use Rattle.std.proofs.lemmas.Grind.{common_steps}
use Rattle.net_words.specs.Builds.{return}
use Rattle.net_words.specs.Comparisons.{top_inverted}
use Rattle.net_words.proofs.BuildLemmas.{IsLeft, next, fault, done}
use Rattle.net_words.proofs.WordSteps.{top_here, top_of_none}
use Rattle.net_words.proofs.comparisons.top_inverted.Goals as goal

pub returns-then-is_empty-clause-builds : goal.returns-then-is_empty-clause-builds
returns-then-is_empty-clause-builds c =
    let word = c.args.word.now in
    let none : length word ≡ 0 = grind (arith, common_steps) in
    done (λ w. w.items) c.in_ok-made.made (subst (λ (w : List ℕ). IsLeft (top_inverted word) c.args.net.now c.args.net.now (return w)) (sym c.in_ok-made.ensures.items) (top_of_none c.args.net.now word none))

pub returns-in_err-n-clause-builds : goal.returns-in_err-n-clause-builds
returns-in_err-n-clause-builds c =
    let word = c.args.word.now in
    let top : length word - 1 + 1 ≡ length word = grind (arith, common_steps) in
    fault _ _ (top_here c.args.net.now word (length word - 1) c.index-word-top.result top c.index-word-top.is) c.in_err-n.ensures.builds c.from_residual-in_err-n.ensures

pub returns-clause-builds : goal.returns-clause-builds
returns-clause-builds c =
    let word = c.args.word.now in
    let top : length word - 1 + 1 ≡ length word = grind (arith, common_steps) in
    let made = next _ _ (top_here c.args.net.now word (length word - 1) c.index-word-top.result top c.index-word-top.is) c.in_ok-n.ensures.builds in
    done (λ w. w.items) _ (subst (λ (w : List ℕ). IsLeft (top_inverted word) c.args.net.now c.put.new.net (return (set w (length word - 1) c.in_ok-n.n))) (sym c.in_ok-made.ensures.items) made)

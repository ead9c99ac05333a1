-- The byte before the end decides.
use Rattle.std.proofs.Common.{◌≡◌, ℕ, suc, ◌-◌, ◌<◌, true, false, length, get_or, take, refl, sym, ◌∙◌, arith}
use Rattle.cons_file.specs.Lines.{is_blank}
use Rattle.cons_file.specs.Forms.{cut_blanks}
use Rattle.cons_file.proofs.CutLemmas.{cut_step, cut_stop}
use Rattle.cons_file.proofs.words.cut.Goals as goal
use Rattle.cons_file.proofs.words.cut.Goals.{then-loop-end-test+else-blank, else-loop-end-test}

pub loop-end-preserved : goal.loop-end-preserved
loop-end-preserved c =
    let k : ℕ = c.loop-end.end - 1 in
    let text = c.args.text.now in
    let lt : c.loop-end.end - 1 < length text = omega arith in
    let whole : suc (c.loop-end.end - 1) ≡ c.loop-end.end = omega arith in
    let blank : is_blank (get_or text (c.loop-end.end - 1) 0) ≡ true = sym c.blank.ensures ∙ c.if-blank.true in
    let step = rw whole at (cut_step text (c.loop-end.end - 1) lt blank) in
    record { within = omega arith; same = sym step ∙ c.loop-end.invariant.same }

pub returns-clause-value : goal.returns-clause-value
returns-clause-value c =
    let text = c.args.text.now in
    let kept : take c.loop-end.end text ≡ cut_blanks (take c.loop-end.end text) =
    elim c.loop-end-test.branch [
      | then-loop-end-test+else-blank w ↦
          let lt : c.loop-end.end - 1 < length text = omega arith in
          let whole : suc (c.loop-end.end - 1) ≡ c.loop-end.end = omega arith in
          let other : is_blank (get_or text (c.loop-end.end - 1) 0) ≡ false = sym w.blank.ensures ∙ w.if-blank.false in
          sym (rw whole at (cut_stop text (c.loop-end.end - 1) lt other))
      | else-loop-end-test w ↦
          let none : c.loop-end.end ≡ 0 = omega arith in
          rw none refl
    ] in
    c.split_at.ensures.front ∙ kept ∙ c.loop-end.invariant.same

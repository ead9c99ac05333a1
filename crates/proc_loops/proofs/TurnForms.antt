-- What the turns of a loop give, by what its next one gives.
use Rattle.std.proofs.Common.{◌≡◌, ℕ, zero, suc, ◌-◌, ◌<◌, List, [], ◌∷◌, ◌++◌, Ok, Err, refl, ap, ◌∙◌, arith}
use Rattle.vlog_tree.specs.declared.stmt.Loop.{Loop}
use Rattle.vlog_tree.specs.declared.stmt.Stmt.{Stmt}
use Rattle.vlog_const.specs.declared.answer.ConstValue.{ConstValue}
use Rattle.vlog_const.specs.Names.{Values}
use Rattle.proc_loops.specs.declared.fault.LoopFault.{LoopFault}
use Rattle.proc_loops.specs.declared.progress.Progress.{Progress}
use Rattle.proc_loops.specs.declared.turn.Turn.TheVariants.{Ended, Full, Cut, Made}
use Rattle.proc_loops.specs.Faults.{and_then}
use Rattle.proc_loops.specs.Turns.{Run, closed, ended, cut, turn, after_turn, turns}

pub turns-next : (k n : ℕ) (h : Loop) (inside : ConstValue → Values) (body : Run Stmt) (v : ConstValue) (done : List Stmt) (p : Progress)
    → 0 < k → n ≡ k - 1 → turns k h inside body v done p ≡ and_then (turn h (inside v) body v p) (after_turn (turns n h inside body) h v done p)
unfolding turns
turns-next zero n h inside body v done p more is = absurd (omega arith)
turns-next (suc k) n h inside body v done p more is = ap (λ m. and_then (turn h (inside v) body v p) (after_turn (turns m h inside body) h v done p)) (let e : k ≡ n = omega arith in e)

pub turns-fault : (k : ℕ) (h : Loop) (inside : ConstValue → Values) (body : Run Stmt) (v : ConstValue) (done : List Stmt) (p : Progress) (fault : LoopFault)
    → 0 < k → turn h (inside v) body v p ≡ Err fault → turns k h inside body v done p ≡ Err fault
unfolding and_then
turns-fault k h inside body v done p fault more is = turns-next k (k - 1) h inside body v done p more refl ∙ ap (λ r. and_then r (after_turn (turns (k - 1) h inside body) h v done p)) is

pub turns-ended : (k : ℕ) (h : Loop) (inside : ConstValue → Values) (body : Run Stmt) (v : ConstValue) (done : List Stmt) (p : Progress)
    → 0 < k → turn h (inside v) body v p ≡ Ok Ended → turns k h inside body v done p ≡ Ok (done ++ ended h.variable v ∷ [], closed p)
unfolding and_then after_turn
turns-ended k h inside body v done p more is = turns-next k (k - 1) h inside body v done p more refl ∙ ap (λ r. and_then r (after_turn (turns (k - 1) h inside body) h v done p)) is

pub turns-full : (k : ℕ) (h : Loop) (inside : ConstValue → Values) (body : Run Stmt) (v : ConstValue) (done : List Stmt) (p : Progress)
    → 0 < k → turn h (inside v) body v p ≡ Ok Full → turns k h inside body v done p ≡ Ok (done, cut p)
unfolding and_then after_turn
turns-full k h inside body v done p more is = turns-next k (k - 1) h inside body v done p more refl ∙ ap (λ r. and_then r (after_turn (turns (k - 1) h inside body) h v done p)) is

pub turns-cut : (k : ℕ) (h : Loop) (inside : ConstValue → Values) (body : Run Stmt) (v : ConstValue) (done : List Stmt) (p : Progress) (s : Stmt) (q : Progress)
    → 0 < k → turn h (inside v) body v p ≡ Ok (Cut s q) → turns k h inside body v done p ≡ Ok (done ++ s ∷ [], q)
unfolding and_then after_turn
turns-cut k h inside body v done p s q more is = turns-next k (k - 1) h inside body v done p more refl ∙ ap (λ r. and_then r (after_turn (turns (k - 1) h inside body) h v done p)) is

pub turns-made : (k n : ℕ) (h : Loop) (inside : ConstValue → Values) (body : Run Stmt) (v : ConstValue) (done : List Stmt) (p : Progress) (s : Stmt) (w : ConstValue) (q : Progress)
    → 0 < k → n ≡ k - 1 → turn h (inside v) body v p ≡ Ok (Made s w q) → turns k h inside body v done p ≡ turns n h inside body w (done ++ s ∷ []) q
unfolding and_then after_turn
turns-made k n h inside body v done p s w q more less is = turns-next k n h inside body v done p more less ∙ ap (λ r. and_then r (after_turn (turns n h inside body) h v done p)) is

pub turns-none : (k : ℕ) (h : Loop) (inside : ConstValue → Values) (body : Run Stmt) (v : ConstValue) (done : List Stmt) (p : Progress) → k ≡ 0 → turns k h inside body v done p ≡ Ok (done, cut p)
unfolding turns
turns-none k h inside body v done p is = ap (λ m. turns m h inside body v done p) is

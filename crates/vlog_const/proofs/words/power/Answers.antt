-- Squaring the base and halving the exponent keeps the power.
use Rattle.std.proofs.Common.{◌≡◌, ℕ, ◌^◌, ◌%◌, sym, ap, ◌∙◌, arith}
use Rattle.vlog_const.proofs.PowerLemmas.{even_step, odd_step, first_step, last_step}
use Rattle.vlog_const.proofs.WordLemmas.{low-low}
use Rattle.vlog_const.proofs.words.power.Goals as goal

pub squares-init : goal.squares-init
squares-init c = first_step _ _ _

pub squares-preserved : goal.squares-preserved
squares-preserved c = let l = c.squares in elim c.if-left-eq1.branch [
  | goal.then-left-eq1 v ↦ rw v.power-is (odd_step l.power l.base l.left (2 ^ 128) v.if-left-eq1.true ∙ l.invariant)
  | goal.else-left-eq1 v ↦ rw v.power-is (even_step l.power l.base l.left (2 ^ 128) v.if-left-eq1.false ∙ l.invariant)
]

pub returns : goal.returns
returns c =
    let l = c.squares in
    let done : l.left ≡ 0 = omega arith in
    let last : l.power % 2 ^ 128 ≡ (c.args.a ^ c.args.n) % 2 ^ 128 = sym (last_step l.power l.base l.left (2 ^ 128) done) ∙ l.invariant in
    c.low.ensures ∙ sym (low-low c.args.width l.power c.requires) ∙ ap (λ (x : ℕ). x % 2 ^ c.args.width) last
    ∙ low-low c.args.width (c.args.a ^ c.args.n) c.requires

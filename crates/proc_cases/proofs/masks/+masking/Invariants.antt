-- What is left of the members decides what all have.
use Rattle.std.proofs.Common.{◌≡◌, map, drop}
use Rattle.proc_cases.specs.Masks.{empty, mask_of, row_of}
use Rattle.proc_cases.proofs.masks.+masking.Given as goal

abbrev pub invariant-row_of-loop-member : goal.invariant-row_of-loop-member
invariant-row_of-loop-member l = row_of l.row (map (λ e. (e, mask_of e)) (drop l.member-index l.members)) ≡ row_of empty (map (λ e. (e, mask_of e)) l.members)

-- Serves hits: one bit of an index beside a start.
use Rattle.std.proofs.Common.{◌≡◌, ℕ, suc, ◌+◌, ◌-◌, ◌/◌, ◌<◌, Bool, true, false, List, length, drop, get_or, refl, subst}
use Rattle.std.proofs.Math.Dec.{leb-zero, leb-suc-zero}
use Rattle.std.proofs.Math.Nat.{sub-zero}
use Rattle.std.proofs.Math.Numerals.{sub-one}
use Rattle.rdc_tern.specs.declared.value.Tern.{Tern}
use Rattle.rdc_tern.specs.Kleene.{and_of, not_of, xor_of}
use Rattle.rdc_tern.specs.Words.{eq_of}
use Rattle.design_form.specs.Bits.{start_word, start_bit, start_rest}
use Rattle.design_form.specs.Selects.{difference}
use Rattle.design_form.proofs.SelectLemmas.{equal-more}
use Rattle.proc_values.specs.Starts.{above, under}

halved : (below : Bool) (n : ℕ) → start_rest (difference (above below n) (under below n)) ≡ difference (above below (n / 2)) (under below (n / 2))
unfolding difference above under start_rest
halved true n = rw (leb-suc-zero n, leb-suc-zero (n / 2), sub-zero (suc n), sub-zero (suc (n / 2)), sub-one (suc n), sub-one (suc (n / 2))) refl
halved false n = rw (leb-zero n, leb-zero (n / 2), sub-zero n, sub-zero (n / 2)) refl

pub equal_more : (so_far : Tern) (x : List Tern) (below : Bool) (n i : ℕ) (d whole : Tern) → i < length x → and_of so_far (eq_of (drop i x) (start_word (length x - i) (difference (above below n) (under below n)))) ≡ whole
    → and_of (and_of so_far (not_of (xor_of (get_or x i d) (start_bit (difference (above below n) (under below n)))))) (eq_of (drop (i + 1) x) (start_word (length x - (i + 1)) (difference (above below (n / 2)) (under below (n / 2))))) ≡ whole
equal_more so_far x below n i d whole lt h =
    rw (halved below n) at (equal-more so_far x (difference (above below n) (under below n)) i d whole lt h)

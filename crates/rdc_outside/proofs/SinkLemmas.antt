-- What several writes make together.
use Rattle.std.proofs.Common.{◌≡◌, ◌∙◌, sym, ℕ, ◌+◌, ◌++◌, List, [], take, drop, Option, Some, None, ap, append_assoc, append-nil, take-add, refl}
use Rattle.rdc_outside.specs.Sink.{written_with}

-- two parts, one after the other, are one part
pub written_with-written_with : (written : Option (List ℕ)) (a b : List ℕ) → written_with (written_with written a) b ≡ written_with written (a ++ b)
written_with-written_with None a b = refl
written_with-written_with (Some told) a b = ap Some (append_assoc told a b)

-- an empty part changes nothing
pub written_with-nil : (written : Option (List ℕ)) → written_with written [] ≡ written
written_with-nil None = refl
written_with-nil (Some told) = ap Some (append-nil told)

-- the next part of a text follows what was written of it
pub written_with-take : (written now after : Option (List ℕ)) (bytes rest : List ℕ) (n m : ℕ)
    → now ≡ written_with written (take n bytes) → rest ≡ drop n bytes → after ≡ written_with now (take m rest)
    → after ≡ written_with written (take (n + m) bytes)
written_with-take written now after bytes rest n m so_far left next =
    next ∙ (rw (left, so_far) (written_with-written_with written (take n bytes) (take m (drop n bytes)) ∙ ap (written_with written) (sym (take-add n m bytes))))

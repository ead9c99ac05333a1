-- Laws of counts, for callers that make several calls.
use Rattle.std.proofs.Common.{◌≤◌, ℕ, inl, inr, arith}
use Rattle.rdc_outside.specs.Counts.{Rose}

-- what rose in one of several calls rose in all of them
pub Rose-widen : (a old new b : ℕ) → a ≤ old → old ≤ new → Rose old new → new ≤ b → Rose a b
Rose-widen a old new b before held rose after =
    elim rose as (λ _. Rose a b) [ inl less ↦ inl (omega (arith, less, before, after)) | inr last ↦ grind arith ]

-- What is marked was claimed, and what is left decides whether a claim is repeated.
use Rattle.std.proofs.Common.{ℕ, List, Contains}
use Rattle.cons_bind.specs.Marks.{Marks}
use Rattle.cons_bind.proofs.ClaimsLemmas.{SoFar}
use Rattle.cons_bind.proofs.claims.claim.Given as goal

abbrev pub invariant-sources : goal.invariant-sources
invariant-sources l = (before : List ℕ) → Marks (Contains before) l.initial.marks → SoFar before l.sources l.source-index l.marks

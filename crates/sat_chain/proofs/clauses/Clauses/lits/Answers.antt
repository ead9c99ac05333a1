-- The clause lies at its place.
use Rattle.std.proofs.Common.{List, ℤ, sym, ap, ◌∙◌, length, take, drop, Some}
use Rattle.std.specs.Prelude.{slice_get}
use Rattle.sat_chain.proofs.PlacedLemmas.{place_lies, piece_at}
use Rattle.sat_chain.proofs.clauses.Clauses.lits.Goals as goal

pub returns : goal.returns
returns c =
    let lies = place_lies (length c.self.inside.lits.items) c.self.inside.places c.args.id c.get-place.result.now c.self.invariant.places c.get-place.ensures in
    ap (λ k. slice_get k.clauses c.args.id) (sym c.self.view_is)
    ∙ piece_at c.self.inside.lits.items c.self.inside.places c.args.id c.get-place.result.now lies.0 c.get-place.ensures
    ∙ ap (λ (r : List ℤ). Some r) (sym (c.split_at-2.ensures.back ∙ ap (drop c.get-place.result.now.start) (c.split_at.ensures.front ∙ ap (take c.get-place.result.now.end) c.as_slice.ensures.value)))

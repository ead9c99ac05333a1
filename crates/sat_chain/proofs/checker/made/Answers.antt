-- No clause is there, and all the memory is.
use Rattle.std.proofs.Common.{◌++◌, ◌∷◌, [], arith, sym, ap, ◌∙◌, refl}
use Rattle.sat_chain.proofs.NewLemmas.{holds_new}
use Rattle.sat_chain.proofs.checker.made.Goals as goal

pub invariant_of-result : goal.invariant_of-result
invariant_of-result c =
    let n = holds_new c.args.vars c.in_ok-lits.lits.items c.push_reserved.new.self.items c.in_ok-given.given.items c.in_ok-lits.ensures.items (c.push_reserved.ensures.items ∙ ap (λ b. b ++ 0 ∷ []) c.in_ok-bounds.ensures.items) c.in_ok-given.ensures.items in
    record {
      few = c.requires;
      places = n.0.places;
      flags = n.0.flags;
      clauses = n.0.clauses;
      follows = n.0.follows;
      marks = sym c.in_ok-marks.marks.ok.0 ∙ c.in_ok-marks.ensures.len;
      emptied = c.in_ok-marks.ensures.emptied;
      literals_fit = omega (arith, c.in_ok-lits.ensures.len, c.in_ok-lits.ensures.exact);
      places_fit = omega (arith, c.in_ok-bounds.ensures.len, c.in_ok-bounds.ensures.exact, c.push_reserved.ensures.len, c.push_reserved.ensures.capacity);
      flags_fit = omega (arith, c.in_ok-given.ensures.len, c.in_ok-given.ensures.exact);
      numbers_fit = omega (arith, c.in_ok-chain.ensures.exact);
    }

pub returns : goal.returns
returns c =
    let n = holds_new c.args.vars c.in_ok-lits.lits.items c.push_reserved.new.self.items c.in_ok-given.given.items c.in_ok-lits.ensures.items (c.push_reserved.ensures.items ∙ ap (λ b. b ++ 0 ∷ []) c.in_ok-bounds.ensures.items) c.in_ok-given.ensures.items in
    rw (n.2, n.1) refl

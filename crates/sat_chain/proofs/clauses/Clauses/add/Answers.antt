-- A clause more, behind the others.
use Rattle.std.proofs.Common.{◌≡◌, ℕ, sym, ap, ◌∙◌, subst, take, refl}
use Rattle.sat_chain.specs.Clause.{IsClause}
use Rattle.sat_chain.specs.Placed.{pieces}
use Rattle.sat_chain.proofs.KeptLemmas.{take_front}
use Rattle.sat_chain.proofs.PlacedLemmas.{placed_push, length-pieces, placed_kept, placed_more}
use Rattle.sat_chain.proofs.clauses.Clauses.add.Goals as goal

pub returns-in-Ok-push : goal.returns-in-Ok-push
returns-in-Ok-push c =
    let p = placed_push c.self.inside.lits.items c.args.lits.now c.extend_from_slice.new.self.items c.self.inside.places c.push.new.self _ c.self.invariant.places c.in-Ok.ensures.items
    (c.len-start.ensures ∙ c.self.inside.lits.ok.0) (c.len.ensures ∙ c.extend_from_slice.new.self.ok.0) c.in-Ok-push.ensures.ok.1 in
    rw (sym c.self.view_is) (c.in-Ok-push.ensures.ok.0 ∙ sym (length-pieces c.self.inside.lits.items c.self.inside.places), rw p.1 refl)

pub invariant_of-self-in-Ok-push : goal.invariant_of-self-in-Ok-push
invariant_of-self-in-Ok-push c =
    let p = placed_push c.self.inside.lits.items c.args.lits.now c.extend_from_slice.new.self.items c.self.inside.places c.push.new.self _ c.self.invariant.places c.in-Ok.ensures.items
    (c.len-start.ensures ∙ c.self.inside.lits.ok.0) (c.len.ensures ∙ c.extend_from_slice.new.self.ok.0) c.in-Ok-push.ensures.ok.1 in
    let vars = ap (λ k. k.vars) c.self.view_is in
    record {
      few = c.self.invariant.few;
      places = p.0;
      clauses = placed_more c.self.inside.vars (pieces c.self.inside.lits.items c.self.inside.places) _ c.args.lits.now p.1 c.self.invariant.clauses (subst (λ (v : ℕ). IsClause v c.args.lits.now) (sym vars) c.requires.clause);
    }

pub invariant_of-self-in-Err : goal.invariant_of-self-in-Err
invariant_of-self-in-Err c =
    let start = c.len-start.ensures ∙ c.self.inside.lits.ok.0 in
    let same : c.truncate.new.self.items ≡ c.self.inside.lits.items =
    c.truncate.ensures.items ∙ ap (λ n. take n c.extend_from_slice.new.self.items) start ∙ take_front c.self.inside.lits.items c.args.lits.now c.extend_from_slice.new.self.items c.in-Ok.ensures.items in
    let k = placed_kept c.self.inside.vars c.self.inside.lits.items c.truncate.new.self.items c.self.inside.places same c.self.invariant.places c.self.invariant.clauses in
    record { few = c.self.invariant.few; places = rw c.in-Err.ensures.ok k.0; clauses = rw c.in-Err.ensures.ok k.1 }

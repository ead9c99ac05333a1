-- The places of a clause lie in the literals.
use Rattle.std.proofs.Common.{◌-◌, arith, sym, ap, ◌∙◌, length, get_or, drop}
use Rattle.sat_chain.proofs.StoreLemmas.{cut_within, cut_at, parts_range}
use Rattle.sat_chain.proofs.resolution.clause_at.Goals as goal

pub split_at-requires : goal.split_at-requires
split_at-requires c = let w = cut_within (length c.args.lits.now) c.args.bounds.now c.args.n c.requires.places c.requires.from c.requires.to in omega (arith, w.0, w.1)

pub split_at-requires-2 : goal.split_at-requires-2
split_at-requires-2 c = let w = cut_within (length c.args.lits.now) c.args.bounds.now c.args.n c.requires.places c.requires.from c.requires.to in omega (arith, w.0, w.1, c.split_at.ensures.front_len)

pub returns : goal.returns
returns c =
    let w = cut_within (length c.args.lits.now) c.args.bounds.now c.args.n c.requires.places c.requires.from c.requires.to in
    c.split_at-2.ensures.back
    ∙ ap (drop (get_or c.args.bounds.now (c.args.n - 1) 0)) c.split_at.ensures.front
    ∙ parts_range (get_or c.args.bounds.now (c.args.n - 1) 0) (get_or c.args.bounds.now c.args.n 0) c.args.lits.now w.0
    ∙ sym (cut_at (length c.args.lits.now) c.args.bounds.now c.args.lits.now c.args.n c.requires.places c.requires.from c.requires.to)

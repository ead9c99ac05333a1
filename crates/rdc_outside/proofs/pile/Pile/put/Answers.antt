-- One more entry, in the room that is left.
use Rattle.std.proofs.Common.{arith}
use Rattle.rdc_outside.proofs.PileLemmas.{entries_of-put, total_length-put}
use Rattle.rdc_outside.proofs.pile.Pile.put.Goals as goal

pub invariant_of-self : goal.invariant_of-self
invariant_of-self c =
    record {
      filled = total_length-put _ _ _ _ _ _ _ _ c.self.invariant.filled c.push_reserved.ensures.items c.append_reserved.ensures.items c.append_reserved-2.ensures.items;
      spans_fit = omega (arith, c.self.invariant.spans_fit, c.push_reserved.ensures.len, c.push_reserved.ensures.capacity, c.requires);
      text_fits = omega (arith, c.self.invariant.text_fits, c.append_reserved.ensures.len, c.append_reserved.ensures.capacity, c.append_reserved-2.ensures.len, c.append_reserved-2.ensures.capacity, c.requires);
    }

pub returns-clause-entries : goal.returns-clause-entries
returns-clause-entries c =
    rw (← c.self.view_is)
    (entries_of-put _ _ _ _ _ _ _ _ c.self.invariant.filled c.push_reserved.ensures.items c.append_reserved.ensures.items c.append_reserved-2.ensures.items)

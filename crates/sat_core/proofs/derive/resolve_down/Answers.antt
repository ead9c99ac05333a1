-- Down the path, variable by variable.
use Rattle.std.proofs.Common.{◌≡◌, ◌-◌, get_or, sym, ◌∙◌, arith, None, Some, ◌<◌, length}
use Rattle.std.proofs.lemmas.List.{get_or_read}
use Rattle.sat_core.proofs.UnionLemmas.{come_push}
use Rattle.sat_core.proofs.derive.resolve_down.Goals as goal

pub resolve-requires-clause-reason : goal.resolve-requires-clause-reason
resolve-requires-clause-reason c =
    let lt : c.loop-at.at < length c.args.path.now.reasons.items = omega arith in
    let here : get_or c.args.path.now.reasons.items c.loop-at.at None ≡ Some c.in-Some.reason = sym (get_or_read c.args.path.now.reasons.items _ _ lt c.index.ensures None) ∙ c.in-Some.is in
    rw c.as_slice.ensures.value (c.requires.path.because c.loop-at.at c.in-Some.reason (omega arith) (omega arith) here)

pub loop-at-preserved : goal.loop-at-preserved
loop-at-preserved c =
    let lt : c.loop-at.at < length c.args.path.now.reasons.items = omega arith in
    let here : get_or c.args.path.now.reasons.items c.loop-at.at None ≡ Some c.in-Some.reason = sym (get_or_read c.args.path.now.reasons.items _ _ lt c.index.ensures None) ∙ c.in-Some.is in
    let reason = c.requires.path.because c.loop-at.at c.in-Some.reason (omega arith) (omega arith) here in
    record {
      within = omega arith;
      marked = c.resolve.ensures.marked (c.loop-at.at - 1) (omega arith);
      union = come_push c.args.store.now.clauses c.loop-at.from.items c.push.new.self.items c.in-Some.reason _ _ c.loop-at.invariant.union c.in_ok-push.ensures.items reason.0
          (rw c.as_slice.ensures.value at c.resolve.ensures.step);
    }

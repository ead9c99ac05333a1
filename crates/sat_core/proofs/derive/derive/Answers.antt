-- The line from the false clause down to a choice.
use Rattle.std.proofs.Common.{length, take, drop, ◌≡◌, ◌++◌, ◌∷◌, [], get_or, sym, ap, ◌∙◌, arith}
use Rattle.std.proofs.Math.Seq.{take-append_seam}
use Rattle.std.proofs.lemmas.Option.{get_or_from_slice_get}
use Rattle.sat_core.specs.Path.{sign_at}
use Rattle.sat_core.specs.Marked.{union_at, stands_in, literals_from}
use Rattle.sat_core.proofs.FalseLemmas.{clause_at}
use Rattle.sat_core.proofs.UnionLemmas.{come_one, marked_start, union_start, stands_not}
use Rattle.sat_core.proofs.DeriveLemmas.{derived}
use Rattle.sat_core.proofs.derive.derive.Goals as goal

pub resolve_down-requires-clause-marked : goal.resolve_down-requires-clause-marked
resolve_down-requires-clause-marked c =
    let cs = c.args.store.now.clauses in
    let clause = clause_at c.args.store.now.vars cs c.args.id c.len-count.ensures.lawful c.requires.known in
    let here : get_or cs c.args.id [] ≡ c.lits.result.now = get_or_from_slice_get cs c.args.id c.lits.result.now [] c.lits.ensures in
    rw c.as_mut_slice.ensures.value (marked_start (sign_at c.args.path.now.signs.items) (sign_at c.in_ok-marks.marks.items) c.args.path.now.top (get_or cs c.args.id []) c.requires.now (stands_not (get_or cs c.args.id []) clause.0)
    (λ x. c.in_ok-marks.ensures.value x ∙ ap (λ r. stands_in r x) (sym here)))

pub resolve_down-requires-clause-union : goal.resolve_down-requires-clause-union
resolve_down-requires-clause-union c =
    let cs = c.args.store.now.clauses in
    let here : get_or cs c.args.id [] ≡ c.lits.result.now = get_or_from_slice_get cs c.args.id c.lits.result.now [] c.lits.ensures in
    rw c.as_mut_slice.ensures.value (come_one cs c.push.new.self.items c.args.id (union_at (sign_at c.args.path.now.signs.items) (sign_at c.in_ok-marks.marks.items)) (c.in_ok-push.ensures.items ∙ ap (λ ids. ids ++ c.args.id ∷ []) c.new-from.ensures.items) c.requires.known
    (union_start (sign_at c.args.path.now.signs.items) (sign_at c.in_ok-marks.marks.items) c.args.path.now.top (get_or cs c.args.id []) c.requires.now
    (λ x. c.in_ok-marks.ensures.value x ∙ ap (λ r. stands_in r x) (sym here))))

pub literals-requires-clause-few : goal.literals-requires-clause-few
literals-requires-clause-few c = omega (arith, c.in_ok-at.ensures.within, c.requires.path.top_within, c.len-count.ensures.few)

pub returns : goal.returns
returns c =
    let marks = c.resolve_down.new.marks in
    let len : c.in_ok-marks.marks.len ≡ length marks = omega arith in
    let same : c.as_slice-2.result.now ≡ marks = c.as_slice-2.ensures.value ∙ ap (λ n. take n (marks ++ drop (length marks) c.in_ok-marks.marks.items)) len ∙ take-append_seam marks (drop (length marks) c.in_ok-marks.marks.items) in
    derived c.args.store.now.vars c.args.store.now.clauses (sign_at c.args.path.now.signs.items) (sign_at marks) c.args.path.now.reasons.items c.args.path.now.top c.in_ok-at.at _
    c.requires.path.top_within c.in_ok-at.ensures.within c.in_ok-at.ensures.choice c.in_ok-at.ensures.last c.in_ok-at.ensures.marked c.in_ok-at.ensures.union
    (c.in_ok-lits.ensures ∙ ap (λ signs. literals_from (sign_at signs) (sign_at c.as_slice-2.result.now) 1 c.in_ok-at.at) c.as_slice.ensures.value ∙ ap (λ ms. literals_from (sign_at c.args.path.now.signs.items) (sign_at ms) 1 c.in_ok-at.at) same)

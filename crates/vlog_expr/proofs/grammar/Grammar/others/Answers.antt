use Rattle.std.proofs.Common.{◌≡◌, ℕ, suc, ◌+◌, ◌-◌, ◌≤◌, true, [], ◌∷◌, ◌++◌, length, drop, max, refl, sym, ap, ◌∙◌, append_assoc, append-nil, length-drop, Ok, Err, arith}
use Rattle.std.proofs.lemmas.Result.{err_from_is_err_and}
use Rattle.std.specs.Prelude.{codes}
use Rattle.vlog_tree.specs.Depth.{depth, deepest_of}
use Rattle.vlog_tree.proofs.DepthLemmas.{deepest-append, deepest-cons, deepest-nil}
use Rattle.vlog_expr.specs.Reading.{first, sees}
use Rattle.vlog_expr.specs.Exprs.{expr, others, others_from}
use Rattle.vlog_expr.proofs.OthersLemmas.{behind, seen_some, read_shorter, others_begin, no_other, one_other, broken_other}
use Rattle.vlog_expr.proofs.grammar.Grammar.others.Goals as goal

pub members-init : goal.members-init
members-init g c = (length c.args.cursor.now, [], omega arith, c.requires.within, sym (append-nil c.args.found.now), others_begin c.args.self.now.room (expr c.args.self.now.room) c.args.cursor.now)

pub returns-in_err-next-clause-value : goal.returns-in_err-next-clause-value
returns-in_err-next-clause-value g c =
    let kept = c.members.invariant in
    let room = c.args.self.now.room in
    let seen : sees (codes ",") (first c.members.cursor) ≡ true = sym c.sees.ensures ∙ c.members-test.true in
    let some = seen_some (codes ",") c.members.cursor seen in
    let turn : suc (kept.0 - 1) ≡ kept.0 = omega arith in
    let p = err_from_is_err_and c.from_residual.result c.from_residual.ensures.1 in
    rw (p.1, p.2) (λ fresh.
    let read : expr room 0 (drop 1 c.members.cursor) ≡ (Err c.in_err-next.field-0.0, c.inner.new.cursor) = ap (expr room 0) (sym c.advance.ensures) ∙ c.in_err-next.ensures.value fresh in
    kept.5 ∙ (ap (λ n. behind kept.1 (others_from room (expr room) n c.members.cursor)) (sym turn)
    ∙ broken_other room (expr room) (kept.0 - 1) c.members.cursor kept.1 c.in_err-next.field-0.0 c.inner.new.cursor seen read))

pub members-smaller : goal.members-smaller
members-smaller g c =
    let some = seen_some (codes ",") c.members.cursor (sym c.sees.ensures ∙ c.members-test.true) in
    let less = read_shorter c.args.self.now.room 0 c.advance.new.self (Ok c.in_ok-next.next) c.inner.new.cursor c.in_ok-next.ensures.value in
    omega (arith, ap length c.advance.ensures, length-drop 1 c.members.cursor)

pub members-preserved : goal.members-preserved
members-preserved g c =
    let kept = c.members.invariant in
    let room = c.args.self.now.room in
    let seen : sees (codes ",") (first c.members.cursor) ≡ true = sym c.sees.ensures ∙ c.members-test.true in
    let some = seen_some (codes ",") c.members.cursor seen in
    let less = read_shorter room 0 c.advance.new.self (Ok c.in_ok-next.next) c.inner.new.cursor c.in_ok-next.ensures.value in
    let read : expr room 0 (drop 1 c.members.cursor) ≡ (Ok c.in_ok-next.next, c.inner.new.cursor) = ap (expr room 0) (sym c.advance.ensures) ∙ c.in_ok-next.ensures.value in
    let turn : suc (kept.0 - 1) ≡ kept.0 = omega arith in
    let step = one_other room (expr room) (kept.0 - 1) c.members.cursor kept.1 c.in_ok-next.next c.inner.new.cursor seen read in
    let more : c.push.new.self ≡ c.members.found ++ c.in_ok-next.next ∷ [] = c.in_ok-push.ensures in
    let deep = ap (deepest_of depth) more ∙ deepest-append c.members.found (c.in_ok-next.next ∷ []) in
    let last = deepest-cons c.in_ok-next.next [] in
    let nil = deepest-nil in
    let shallow : depth c.in_ok-next.next ≤ room = c.in_ok-next.ensures.within in (
      kept.0 - 1,
      kept.1 ++ c.in_ok-next.next ∷ [],
      omega (arith, ap length c.advance.ensures, length-drop 1 c.members.cursor),
      omega arith,
      more ∙ (ap (λ found. found ++ c.in_ok-next.next ∷ []) kept.4 ∙ append_assoc c.args.found.now kept.1 (c.in_ok-next.next ∷ [])),
      kept.5 ∙ (ap (λ n. behind kept.1 (others_from room (expr room) n c.members.cursor)) (sym turn) ∙ step),
    )

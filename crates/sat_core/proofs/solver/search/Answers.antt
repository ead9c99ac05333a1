-- A turn: a choice, a turned choice, or a derived clause.
use Rattle.std.proofs.Common.{◌≡◌, ◌+◌, ◌<◌, [], true, false, Some, get_or, set, drop, sym, ap, ◌∙◌, arith}
use Rattle.sat_chain.specs.Clause.{Problem}
use Rattle.sat_core.specs.Path.{sign_at, some_false, is_false, rank}
use Rattle.sat_core.proofs.PathLemmas.{path_choose, path_turn_top, path_some}
use Rattle.sat_core.proofs.RankLemmas.{rank_choose, rank_turn, rank_below, left_choose, left_turn}
use Rattle.sat_core.proofs.AnswerLemmas.{model}
use Rattle.sat_core.proofs.SearchLemmas.{search_more, turned_by, turned_search, turned_spent, turned_left, refutes}
use Rattle.sat_core.proofs.solver.search.Goals as goal

pub turns-preserved-in_default : goal.turns-preserved-in_default
turns-preserved-in_default c =
    let vars = c.turns.store.vars in
    let top = c.turns.path.top in
    let r = c.turns.path.reasons.items in
    let lt : top < vars = omega (arith, c.turns.invariant.path.top_within, c.if-top-vars.false) in
    let clear : some_false (sign_at c.turns.path.signs.items) top c.turns.store.clauses ≡ false = sym (ap (λ s. some_false (sign_at s) top c.turns.store.clauses) c.as_slice.ensures.value) ∙ c.in_default.ensures in
    record {
      path = rw (c.choose.ensures.signs, c.choose.ensures.reasons, c.choose.ensures.top) (path_choose vars c.turns.store.clauses c.turns.path.signs.items r top c.turns.invariant.path lt clear);
      search = search_more c.args.clauses c.turns.store c.args.budget c.turns.lines.items (rank r vars top) _ c.turns.invariant.search
          (rw (c.choose.ensures.reasons, c.choose.ensures.top) (omega (arith, rank_choose r vars top (omega (arith, c.turns.invariant.path.reasons_len)))));
    }

pub turns-smaller-in_default : goal.turns-smaller-in_default
turns-smaller-in_default c =
    let vars = c.turns.store.vars in
    let top = c.turns.path.top in
    let r = c.turns.path.reasons.items in
    let lt : top < vars = omega (arith, c.turns.invariant.path.top_within, c.if-top-vars.false) in
    left_choose vars (rank r vars top) _ top c.choose.new.self.top
    (ap (λ n. rank c.choose.new.self.reasons.items vars n) c.choose.ensures.top ∙ ap (λ rs. rank rs vars (top + 1)) c.choose.ensures.reasons ∙ rank_choose r vars top (omega (arith, c.turns.invariant.path.reasons_len)))
    c.choose.ensures.top lt

pub turns-preserved-then-is_choice : goal.turns-preserved-then-is_choice
turns-preserved-then-is_choice c =
    let vars = c.turns.store.vars in
    let top = c.turns.path.top in
    let r = c.turns.path.reasons.items in
    let now : is_false (sign_at c.turns.path.signs.items) top (get_or c.turns.store.clauses c.in-Some.id []) ≡ true = sym (ap (λ s. is_false (sign_at s) top (get_or c.turns.store.clauses c.in-Some.id [])) c.as_slice.ensures.value) ∙ c.in-Some.ensures.1 in
    let some = path_some vars c.turns.store.clauses c.turns.path.signs.items r top c.in-Some.id c.turns.invariant.path c.in-Some.ensures.0 now in
    let more = rank_turn r vars top top c.in-Some.id (omega (arith, c.turns.invariant.path.reasons_len, c.turns.invariant.path.top_within)) some (omega arith) c.turns.invariant.path.top_within c.if-is_choice.ensures in
    record {
      path = rw (c.turn.ensures.signs, c.turn.ensures.reasons, c.turn.ensures.top) (path_turn_top vars c.turns.store.clauses c.turns.path.signs.items r top c.in-Some.id c.turns.invariant.path some c.in-Some.ensures.0 now);
      search = search_more c.args.clauses c.turns.store c.args.budget c.turns.lines.items (rank r vars top) _ c.turns.invariant.search (rw (c.turn.ensures.reasons, c.turn.ensures.top) (omega (arith, more)));
    }

pub turns-smaller-then-is_choice : goal.turns-smaller-then-is_choice
turns-smaller-then-is_choice c =
    let vars = c.turns.store.vars in
    let top = c.turns.path.top in
    let r = c.turns.path.reasons.items in
    let now : is_false (sign_at c.turns.path.signs.items) top (get_or c.turns.store.clauses c.in-Some.id []) ≡ true = sym (ap (λ s. is_false (sign_at s) top (get_or c.turns.store.clauses c.in-Some.id [])) c.as_slice.ensures.value) ∙ c.in-Some.ensures.1 in
    let some = path_some vars c.turns.store.clauses c.turns.path.signs.items r top c.in-Some.id c.turns.invariant.path c.in-Some.ensures.0 now in
    let more = rank_turn r vars top top c.in-Some.id (omega (arith, c.turns.invariant.path.reasons_len, c.turns.invariant.path.top_within)) some (omega arith) c.turns.invariant.path.top_within c.if-is_choice.ensures in
    let same : rank c.turn.new.self.reasons.items vars c.turn.new.self.top ≡ rank (set r top (Some c.in-Some.id)) vars top = ap (λ n. rank c.turn.new.self.reasons.items vars n) c.turn.ensures.top ∙ ap (λ rs. rank rs vars top) c.turn.ensures.reasons in
    left_turn vars (rank r vars top) _ top c.turn.new.self.top (omega (arith, same, more))
    (omega (arith, same, rank_below (set r top (Some c.in-Some.id)) vars top c.turns.invariant.path.top_within))

pub returns-then-top-vars : goal.returns-then-top-vars
returns-then-top-vars c =
    let top = c.turns.path.top in
    let clear : some_false (sign_at c.turns.path.signs.items) top c.turns.store.clauses ≡ false = sym (ap (λ s. some_false (sign_at s) top c.turns.store.clauses) c.as_slice.ensures.value) ∙ c.in_default.ensures in
    model c.args.clauses c.turns.store c.args.budget c.turns.lines.items (rank c.turns.path.reasons.items c.turns.store.vars top) c.turns.path.signs.items c.in_ok-values.field-0.items top
    c.turns.invariant.search c.len-count.ensures.lawful c.turns.invariant.path.signs_len (c.if-top-vars.true ∙ c.vars.ensures) clear (c.in_ok-values.ensures ∙ ap (λ s. drop 1 s) c.as_slice-then-top-vars.ensures.value)

pub returns-then-at-eq0 : goal.returns-then-at-eq0
returns-then-at-eq0 c =
    refutes c.args.clauses c.turns.store c.args.budget c.turns.lines.items c.push.new.self.items (sign_at c.turns.path.signs.items) c.turns.path.reasons.items (rank c.turns.path.reasons.items c.turns.store.vars c.turns.path.top) c.turns.path.top c.in_ok-line.at c.in_ok-line.line
    c.turns.invariant.search c.in_ok-line.ensures c.if-at-eq0.true c.in_ok-push.ensures.items

pub returns-then-is_spent : goal.returns-then-is_spent
returns-then-is_spent c =
    let t = turned_by c.args.clauses c.turns.store c.add.new.self c.args.budget c.turns.lines.items c.push-in-turns.new.self.items c.turns.path.signs.items c.turn-in-turns.new.self.signs.items c.turns.path.reasons.items c.turn-in-turns.new.self.reasons.items
    c.turns.path.top c.turn-in-turns.new.self.top c.in_ok-line.at c.in_ok-id.id c.in_ok-line.line c.as_slice-in-turns.result.now
    c.turns.invariant.path c.turns.invariant.search c.if-is_choice.ensures c.in_ok-line.ensures c.if-at-eq0.false c.in_ok-id.ensures.0 c.as_slice-in-turns.ensures.value c.in_ok-id.ensures.1 c.in_ok-push-2.ensures.items
    c.turn-in-turns.ensures.signs c.turn-in-turns.ensures.reasons c.turn-in-turns.ensures.top in
    turned_spent c.args.clauses c.add.new.self c.args.budget c.push-in-turns.new.self.items c.turn-in-turns.new.self.signs.items c.turn-in-turns.new.self.reasons.items c.turn-in-turns.new.self.top _ c.len.result t (c.len.ensures ∙ c.push-in-turns.new.self.ok.0) c.if-is_spent.ensures

pub turns-smaller : goal.turns-smaller
turns-smaller c =
    let t = turned_by c.args.clauses c.turns.store c.add.new.self c.args.budget c.turns.lines.items c.push-in-turns.new.self.items c.turns.path.signs.items c.turn-in-turns.new.self.signs.items c.turns.path.reasons.items c.turn-in-turns.new.self.reasons.items
    c.turns.path.top c.turn-in-turns.new.self.top c.in_ok-line.at c.in_ok-id.id c.in_ok-line.line c.as_slice-in-turns.result.now
    c.turns.invariant.path c.turns.invariant.search c.if-is_choice.ensures c.in_ok-line.ensures c.if-at-eq0.false c.in_ok-id.ensures.0 c.as_slice-in-turns.ensures.value c.in_ok-id.ensures.1 c.in_ok-push-2.ensures.items
    c.turn-in-turns.ensures.signs c.turn-in-turns.ensures.reasons c.turn-in-turns.ensures.top in
    turned_left c.args.clauses c.add.new.self c.push-in-turns.new.self.items c.turn-in-turns.new.self.signs.items c.turn-in-turns.new.self.reasons.items c.turn-in-turns.new.self.top _ c.turns.store.vars c.turns.path.top t (ap (λ (p : Problem). p.vars) c.in_ok-id.ensures.1)

pub turns-preserved : goal.turns-preserved
turns-preserved c =
    let t = turned_by c.args.clauses c.turns.store c.add.new.self c.args.budget c.turns.lines.items c.push-in-turns.new.self.items c.turns.path.signs.items c.turn-in-turns.new.self.signs.items c.turns.path.reasons.items c.turn-in-turns.new.self.reasons.items
    c.turns.path.top c.turn-in-turns.new.self.top c.in_ok-line.at c.in_ok-id.id c.in_ok-line.line c.as_slice-in-turns.result.now
    c.turns.invariant.path c.turns.invariant.search c.if-is_choice.ensures c.in_ok-line.ensures c.if-at-eq0.false c.in_ok-id.ensures.0 c.as_slice-in-turns.ensures.value c.in_ok-id.ensures.1 c.in_ok-push-2.ensures.items
    c.turn-in-turns.ensures.signs c.turn-in-turns.ensures.reasons c.turn-in-turns.ensures.top in
    record {
      path = t.path;
      search = turned_search c.args.clauses c.add.new.self c.args.budget c.push-in-turns.new.self.items c.turns.lines.items c.in_ok-line.line c.turn-in-turns.new.self.signs.items c.turn-in-turns.new.self.reasons.items c.turn-in-turns.new.self.top _ c.len.result t
          c.in_ok-push-2.ensures.items c.turns.invariant.search.within (c.len.ensures ∙ c.push-in-turns.new.self.ok.0) c.if-is_spent.ensures;
    }

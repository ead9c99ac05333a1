-- Serves specs/Search.antt: what a turn of the search keeps, and the answers at its end.
use Rattle.std.proofs.Common.{◌≡◌, ◌≢◌, ℕ, ◌+◌, ◌-◌, ◌^◌, ◌<◌, ◌≤◌, Bool, true, false, not, nat_eq, List, [], ◌∷◌, ◌++◌, length, get_or, set, refl, sym, ap, ◌∙◌, subst, Option, Some, None, arith, ℤ, length-append}
use Rattle.std.proofs.lemmas.Bool.Decides.{nat_tests}
use Rattle.std.proofs.lemmas.List.{append-nil}
use Rattle.sat_chain.specs.Clause.{Problem}
use Rattle.sat_chain.specs.declared.chain.ChainLine.{ChainLine}
use Rattle.sat_core.specs.Counts.{Passes, Counts, with_lines, AllCount}
use Rattle.sat_core.specs.Answers.{IsWithin, Refutes, IsSpent}
use Rattle.sat_core.specs.Path.{sign_at, is_false, IsPath, rank}
use Rattle.sat_core.specs.Marked.{IsDerived}
use Rattle.sat_core.specs.Search.{IsSearch, left_of}
use Rattle.sat_core.proofs.FalseLemmas.{false_later, none_is}
use Rattle.sat_core.proofs.PathLemmas.{path_turn_derived}
use Rattle.sat_core.proofs.RankLemmas.{rank_turn, rank_below, left_turn}
use Rattle.sat_core.proofs.AnswerLemmas.{count_push, with_push, within_more}

-- a higher rank
pub search_more : (p store : Problem) (budget : Option ℕ) (lines : List ChainLine) (r s : ℕ) → IsSearch p budget store lines r → r ≤ s → IsSearch p budget store lines s
search_more p store budget lines r s h le = record {
  vars = h.vars;
  clauses = h.clauses;
  counts = h.counts;
  counted = omega (arith, h.counted);
  within = h.within;
}

-- the choice stands before the last variable, which has a reason
before_last : (reasons : List (Option ℕ)) (top at : ℕ) → at ≤ top → get_or reasons top None ≢ None → get_or reasons at None ≡ None → at < top
before_last reasons top at le some none = elim (nat_eq at top) as (λ b. nat_eq at top ≡ b → at < top) [
  | true ↦ λ e. (let same : at ≡ top = grind (arith, nat_tests) in absurd (some (sym (ap (λ k. get_or reasons k None) same) ∙ none)))
  | false ↦ λ e. (let ne : at ≢ top = grind (arith, nat_tests) in omega arith)
] refl

-- a derived clause counts
pub derived_counts : (vars : ℕ) (cs : List (List ℤ)) (signs : List Bool) (reasons : List (Option ℕ)) (top at : ℕ) (line : ChainLine) → IsPath vars cs signs reasons top → get_or reasons top None ≢ None → IsDerived vars cs (sign_at signs) reasons top line at → 0 < at → Counts vars cs line
derived_counts vars cs signs reasons top at line p some d lt =
    let less = before_last reasons top at d.within some (d.choice lt) in
    record {
      passes = d.passes;
      some = λ e. (let no : is_false (sign_at signs) (at - 1) line.lits.items ≡ true = ap (is_false (sign_at signs) (at - 1)) e in let b = (d.ends lt).before in cc);
      new = none_is (sign_at signs) (top - 1) cs line.lits.items p.clear (false_later (sign_at signs) at (top - 1) line.lits.items (omega arith) (d.ends lt).now);
    }

-- what a derived clause leaves
pub record Turned (p store : Problem) (lines : List ChainLine) (signs : List Bool) (reasons : List (Option ℕ)) (top old : ℕ) : Type 0 where
  pub path : IsPath store.vars store.clauses signs reasons top
  pub vars : store.vars ≡ p.vars
  pub clauses : store.clauses ≡ with_lines p.clauses lines
  pub counts : AllCount p.vars p.clauses lines
  pub more : old + 1 ≤ rank reasons store.vars top
  pub below : rank reasons store.vars top < 2 ^ store.vars
  pub counted : length lines ≤ rank reasons store.vars top

counts_given : (p store : Problem) (budget : Option ℕ) (lines : List ChainLine) (r : ℕ) (line : ChainLine) → IsSearch p budget store lines r → Counts store.vars store.clauses line → Counts p.vars (with_lines p.clauses lines) line
counts_given p store budget lines r line s c = subst (λ v. Counts v (with_lines p.clauses lines) line) s.vars (subst (λ cs. Counts store.vars cs line) s.clauses c)

turned_plain : (p store : Problem) (budget : Option ℕ) (lines : List ChainLine) (signs : List Bool) (reasons : List (Option ℕ)) (top at id : ℕ) (line : ChainLine) → IsPath store.vars store.clauses signs reasons top → IsSearch p budget store lines (rank reasons store.vars top)
    → get_or reasons top None ≢ None → IsDerived store.vars store.clauses (sign_at signs) reasons top line at → 0 < at → id ≡ length store.clauses
    → Turned p (record { vars = store.vars; clauses = store.clauses ++ line.lits.items ∷ [] }) (lines ++ line ∷ []) (set signs at (not (sign_at signs at))) (set reasons at (Some id)) at (rank reasons store.vars top)
turned_plain p store budget lines signs reasons top at id line path s some d lt is =
    let more = rank_turn reasons store.vars at top id (omega (arith, path.reasons_len, path.top_within, d.within)) lt d.within path.top_within (d.choice lt) in
    record {
      path = path_turn_derived store.vars store.clauses (store.clauses ++ line.lits.items ∷ []) signs reasons top at id line.lits.items path lt d.within refl is (d.ends lt);
      vars = s.vars;
      clauses = ap (λ cs. cs ++ line.lits.items ∷ []) s.clauses ∙ sym (with_push p.clauses lines line);
      counts = count_push p.vars p.clauses lines line s.counts (counts_given p store budget lines (rank reasons store.vars top) line s (derived_counts store.vars store.clauses signs reasons top at line path some d lt));
      more = more;
      below = rank_below (set reasons at (Some id)) store.vars at (omega (arith, path.top_within, d.within));
      counted = omega (arith, more, s.counted, length-append lines (line ∷ []));
    }

pub turned_by : (p store store' : Problem) (budget : Option ℕ) (lines lines' : List ChainLine) (signs signs' : List Bool) (reasons reasons' : List (Option ℕ)) (top top' at id : ℕ) (line : ChainLine) (lits : List ℤ)
    → IsPath store.vars store.clauses signs reasons top → IsSearch p budget store lines (rank reasons store.vars top)
    → get_or reasons top None ≢ None → IsDerived store.vars store.clauses (sign_at signs) reasons top line at → at ≢ 0 → id ≡ length store.clauses
    → lits ≡ line.lits.items → store' ≡ record { vars = store.vars; clauses = store.clauses ++ lits ∷ [] } → lines' ≡ lines ++ line ∷ []
    → signs' ≡ set signs at (not (sign_at signs at)) → reasons' ≡ set reasons at (Some id) → top' ≡ at → Turned p store' lines' signs' reasons' top' (rank reasons store.vars top)
turned_by p store store' budget lines lines' signs signs' reasons reasons' top top' at id line lits path s some d ne is same more pushed by because cut =
    let lt : 0 < at = omega arith in
    rw (more, same, pushed, by, because, cut) (turned_plain p store budget lines signs reasons top at id line path s some d lt is)

-- the search goes on
pub turned_search : (p store : Problem) (budget : Option ℕ) (lines old : List ChainLine) (line : ChainLine) (signs : List Bool) (reasons : List (Option ℕ)) (top r n : ℕ) → Turned p store lines signs reasons top r → lines ≡ old ++ line ∷ [] → IsWithin budget (length old)
    → n ≡ length lines → budget ≢ Some n → IsSearch p budget store lines (rank reasons store.vars top)
turned_search p store budget lines old line signs reasons top r n t is within count ne = record {
  vars = t.vars;
  clauses = t.clauses;
  counts = t.counts;
  counted = t.counted;
  within = within_more budget (length old) (length lines) within (ap length is ∙ length-append old (line ∷ []) ∙ (let e : length (line ∷ []) ≡ 1 = refl in ap (λ k. length old + k) e)) (λ e. ne (e ∙ ap (λ (k : ℕ). Some k) (sym count)));
}

-- or the budget is spent
pub turned_spent : (p store : Problem) (budget : Option ℕ) (lines : List ChainLine) (signs : List Bool) (reasons : List (Option ℕ)) (top r n : ℕ) → Turned p store lines signs reasons top r → n ≡ length lines → budget ≡ Some n → IsSpent p budget lines
turned_spent p store budget lines signs reasons top r n t count is = record {
  all = is ∙ ap (λ (k : ℕ). Some k) count;
  counts = t.counts;
  below = (let e : 2 ^ store.vars ≡ 2 ^ p.vars = ap (λ k. 2 ^ k) t.vars in omega (arith, t.counted, t.below, e));
}

-- either way less is left
pub turned_left : (p store : Problem) (lines : List ChainLine) (signs : List Bool) (reasons : List (Option ℕ)) (top r vars old : ℕ) → Turned p store lines signs reasons top r → store.vars ≡ vars → left_of store.vars (rank reasons store.vars top) top < left_of vars r old
turned_left p store lines signs reasons top r vars old t same =
    rw (← same) (left_turn store.vars r (rank reasons store.vars top) old top t.more (omega (arith, t.below)))

-- a derived clause that is empty refutes
pub refutes : (p store : Problem) (budget : Option ℕ) (lines lines' : List ChainLine) (a : ℕ → Bool) (reasons : List (Option ℕ)) (r top at : ℕ) (line : ChainLine) → IsSearch p budget store lines r → IsDerived store.vars store.clauses a reasons top line at → at ≡ 0 → lines' ≡ lines ++ line ∷ [] → Refutes p budget lines'
refutes p store budget lines lines' a reasons r top at line s d none is = record {
  front = lines;
  last = line;
  parts = is;
  counts = s.counts;
  within = s.within;
  passes = subst (λ v. Passes v (with_lines p.clauses lines) line.from.items line.lits.items) s.vars (subst (λ cs. Passes store.vars cs line.from.items line.lits.items) s.clauses d.passes);
  empty = d.empty none;
}

-- no line yet
pub search_start : (p : Problem) (budget : Option ℕ) (lines : List ChainLine) (r : ℕ) → lines ≡ [] → IsWithin budget 0 → IsSearch p budget p lines r
search_start p budget lines r is within = rw is record {
  vars = refl;
  clauses = sym (append-nil p.clauses);
  counts = tt;
  counted = omega arith;
  within = within;
}

-- Serves specs/Answers.antt: a refutation by an empty clause, and what a refutation means.
use Rattle.std.proofs.Common.{◌≡◌, ℕ, ◌<◌, Bool, true, List, [], ◌∷◌, ◌++◌, length, map, get_or, refl, sym, ap, subst, Option, ℤ, append_assoc}
use Rattle.std.specs.Prelude.{Result, Ok, Err, IfOk}
use Rattle.std.proofs.lemmas.List.{append-nil}
use Rattle.sat_chain.specs.Clause.{Problem, IsClause, AreClauses, Meets, MeetsAll}
use Rattle.sat_chain.specs.Resolvent.{sign_in, union_of}
use Rattle.sat_chain.specs.Refutes.{HasNoModel}
use Rattle.sat_chain.specs.Answer.{IsResult}
use Rattle.sat_chain.specs.declared.chain.ChainLine.{ChainLine}
use Rattle.sat_chain.proofs.JudgeLemmas.{some_and}
use Rattle.sat_chain.proofs.SoundLemmas.{derived_met, by_push}
use Rattle.sat_core.specs.Counts.{numbers, Passes, with_lines, AllCount}
use Rattle.sat_core.specs.Answers.{IsWithin, Refutes, IsAnswer, IsSound}
use Rattle.sat_core.specs.declared.answers.Answer.{Answer}
use Rattle.sat_core.specs.declared.answers.Answer.TheVariants.{Model, Refuted, Spent}
use Rattle.sat_core.specs.declared.answers.SolveFault.{SolveFault}
use Rattle.sat_core.specs.Path.{is_false}
use Rattle.sat_core.proofs.FalseLemmas.{clause_at, false_empty}
use Rattle.sat_core.proofs.UnionLemmas.{come_one}

empty_passes : (vars : ℕ) (cs : List (List ℤ)) (ids : List ℕ) (id : ℕ) → ids ≡ [] ++ id ∷ [] → id < length cs → get_or cs id [] ≡ [] → Passes vars cs ids []
empty_passes vars cs ids id is lt none =
    let come = come_one cs ids id (sign_in []) is lt (ap sign_in none) in
    record {
      clause = (refl, tt);
      answer = (come.known, some_and (union_of cs (numbers ids)) (sign_in []) (IsResult []) come.union (refl, λ x. refl), refl);
    }

-- a given clause without literals refutes
pub empty_refutes : (p : Problem) (budget : Option ℕ) (a : ℕ → Bool) (lines : List ChainLine) (line : ChainLine) (id : ℕ) → AreClauses p.vars p.clauses → id < length p.clauses → is_false a 0 (get_or p.clauses id []) ≡ true → IsWithin budget 0
    → line.from.items ≡ id ∷ [] → line.lits.items ≡ [] → lines ≡ line ∷ [] → Refutes p budget lines
empty_refutes p budget a lines line id all lt now within from lits is =
    let none : get_or p.clauses id [] ≡ [] = false_empty a (get_or p.clauses id []) (clause_at p.vars p.clauses id all lt).0 now in
    record {
      front = [];
      last = line;
      parts = is;
      counts = tt;
      within = within;
      passes = subst (λ cs. Passes p.vars cs line.from.items line.lits.items) (sym (append-nil p.clauses)) (subst (λ ls. Passes p.vars p.clauses line.from.items ls) (sym lits) (empty_passes p.vars p.clauses line.from.items id from lt none));
      empty = lits;
    }

line_met : (a : ℕ → Bool) (vars : ℕ) (cs : List (List ℤ)) (ids : List ℕ) (lits : List ℤ) → AreClauses vars cs → Passes vars cs ids lits → MeetsAll a cs → Meets a lits
line_met a vars cs ids lits all p meets = derived_met vars cs (numbers ids) lits all p.answer.0 p.answer.1 a meets

-- what meets the clauses meets each line's
lines_met : (a : ℕ → Bool) (vars : ℕ) (cs : List (List ℤ)) (ls : List ChainLine) → AreClauses vars cs → AllCount vars cs ls → MeetsAll a cs → AreClauses vars (with_lines cs ls) × MeetsAll a (with_lines cs ls)
lines_met a vars cs [] all h meets = rw (append-nil cs) (all, meets)
lines_met a vars cs (l ∷ ls) all h meets =
    let r = lines_met a vars (cs ++ l.lits.items ∷ []) ls (by_push (IsClause vars) cs l.lits.items all h.0.passes.clause) h.1 (by_push (Meets a) cs l.lits.items meets (line_met a vars cs l.from.items l.lits.items all h.0.passes meets)) in
    let e = append_assoc cs (l.lits.items ∷ []) (map (λ (y : ChainLine). y.lits.items) ls) in
    (subst (λ ds. AreClauses vars ds) e r.0, subst (λ ds. MeetsAll a ds) e r.1)

refuted_sound : (p : Problem) (budget : Option ℕ) (lines : List ChainLine) → AreClauses p.vars p.clauses → Refutes p budget lines → HasNoModel p.clauses
refuted_sound p budget lines all h a meets =
    let r = lines_met a p.vars p.clauses h.front all h.counts meets in
    subst (Meets a) h.empty (line_met a p.vars (with_lines p.clauses h.front) h.last.from.items h.last.lits.items r.0 h.passes r.1)

answer_sound : (p : Problem) (budget : Option ℕ) (answer : Answer) → AreClauses p.vars p.clauses → IsAnswer p budget answer → IsSound p answer
answer_sound p budget (Model values) all h = tt
answer_sound p budget (Refuted chain) all h = refuted_sound p budget chain.lines.items all h
answer_sound p budget (Spent chain) all h = tt

pub result_sound : (p : Problem) (budget : Option ℕ) (result : Result Answer SolveFault) → AreClauses p.vars p.clauses → IfOk result (IsAnswer p budget) → IfOk result (IsSound p)
result_sound p budget (Ok answer) all h = answer_sound p budget answer all h
result_sound p budget (Err fault) all h = h

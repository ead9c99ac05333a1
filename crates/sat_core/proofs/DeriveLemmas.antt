-- Serves specs/Marked.antt: a derived clause passes, and is false up to its last variable.
use Rattle.std.proofs.Common.{◌≡◌, ℕ, ◌<◌, ◌≤◌, Bool, true, List, refl, sym, ap, ◌∙◌, subst, Option, None, arith, ℤ, get_or}
use Rattle.sat_chain.specs.Resolvent.{union_of}
use Rattle.sat_chain.specs.Answer.{IsResult}
use Rattle.sat_chain.specs.declared.chain.ChainLine.{ChainLine}
use Rattle.sat_chain.proofs.JudgeLemmas.{some_and}
use Rattle.sat_core.specs.Counts.{numbers, Passes}
use Rattle.sat_core.specs.Path.{IsFirstFalse}
use Rattle.sat_core.specs.Marked.{union_at, literals_from, IsMarked, ComeTo, IsDerived}
use Rattle.sat_core.proofs.LiteralLemmas.{ascends_from, union_literals, first_false, clause_literals}

passes_from : (vars : ℕ) (cs : List (List ℤ)) (a m : ℕ → Bool) (n : ℕ) (ids : List ℕ) → n ≤ vars → IsMarked m n → ComeTo cs ids (union_at a m) → Passes vars cs ids (literals_from a m 1 n)
passes_from vars cs a m n ids le marks come = record {
  clause = clause_literals a m n vars le;
  answer = (come.known, some_and (union_of cs (numbers ids)) (union_at a m) (IsResult (literals_from a m 1 n)) come.union (ascends_from a m 0 1 n (omega arith), λ y. union_literals a m n y marks), refl);
}

pub derived : (vars : ℕ) (cs : List (List ℤ)) (a m : ℕ → Bool) (reasons : List (Option ℕ)) (top at : ℕ) (line : ChainLine) → top ≤ vars → at ≤ top → (0 < at → get_or reasons at None ≡ None) → (0 < at → m at ≡ true) → IsMarked m at
    → ComeTo cs line.from.items (union_at a m) → line.lits.items ≡ literals_from a m 1 at → IsDerived vars cs a reasons top line at
derived vars cs a m reasons top at line most within choice last marks come is = record {
  within = within;
  choice = choice;
  passes = subst (Passes vars cs line.from.items) (sym is) (passes_from vars cs a m at line.from.items (omega arith) marks come);
  ends = λ some. subst (IsFirstFalse a at) (sym is) (first_false a m at some (last some));
  empty = λ none. is ∙ ap (literals_from a m 1) none;
}

-- Serves specs/Answer.antt: the parts of an answer to a derived clause.
use Rattle.std.proofs.Common.{◌≡◌, ℕ, ◌+◌, ◌-◌, Bool, true, false, nat_eq, List, [], ◌∷◌, length, refl, sym, ap, ◌∙◌, subst, Option, Some, None, arith, ℤ}
use Rattle.std.specs.List.{list_all}
use Rattle.std.specs.Option.{IsSomeAnd}
use Rattle.std.proofs.lemmas.Option.{same_Some}
use Rattle.std.proofs.lemmas.Bool.Decides.{nat_tests}
use Rattle.sat_chain.specs.Resolvent.{Union}
use Rattle.sat_chain.specs.Answer.{is_known, all_known, seen}
use Rattle.sat_chain.specs.declared.fault.Seen.TheVariants.{Added, Empty}
use Rattle.sat_chain.specs.Store.{cut, IsCut}
use Rattle.sat_chain.proofs.StoreLemmas.{length-cut}

pub some_and : (o : Option Union) (w : Union) (P : Union → Type 0) → o ≡ Some w → P w → IsSomeAnd o P
some_and None w P is h = cc
some_and (Some v) w P is h = subst P (sym (same_Some v w is)) h

pub known_is : (end : ℕ) (bs : List ℕ) (lits : List ℤ) (ns : List ℕ) (r : Bool) → IsCut end bs → r ≡ list_all (is_known (length bs - 1)) ns → all_known (cut bs lits) ns ≡ r
known_is end bs lits ns r h is =
    let many : length (cut bs lits) + 1 ≡ length bs = length-cut end bs lits h in
    let count : length bs - 1 ≡ length (cut bs lits) = omega arith in
    sym (is ∙ ap (λ n. list_all (is_known n) ns) count)

pub seen_empty : (ls : List ℤ) (b : Bool) → b ≡ nat_eq (length ls) 0 → b ≡ true → Empty ≡ seen ls
seen_empty [] b is e = refl
seen_empty (l ∷ ls) b is e = absurd (let z : length ls + 1 ≡ 0 = grind (arith, nat_tests) in omega arith)

pub seen_added : (ls : List ℤ) (b : Bool) → b ≡ nat_eq (length ls) 0 → b ≡ false → Added ≡ seen ls
seen_added [] b is e = cc
seen_added (l ∷ ls) b is e = refl

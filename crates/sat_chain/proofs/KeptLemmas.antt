-- Serves specs/Kept.antt: what a checker keeps with one clause more, and the answers that come of it.
use Rattle.std.proofs.Common.{◌≡◌, ℕ, zero, suc, ◌+◌, ◌-◌, ◌^◌, ◌<◌, ◌≤◌, Bool, true, false, nat_lt, nat_le, cond, List, [], ◌∷◌, ◌++◌, length, map, take, drop, refl, sym, ap, ◌∙◌, subst, Option, Some, None, Result, Ok, Err, arith, ℤ, ◌&&◌}
use Rattle.std.specs.List.{list_all, All, AllByRecursion}
use Rattle.std.proofs.lemmas.List.Elements.{All-from_recursion}
use Rattle.std.proofs.lemmas.Grind.{common_steps}
use Rattle.sat_chain.proofs.ChainLemmas.{below}
use Rattle.std.specs.Option.{IsSomeAnd, option_map}
use Rattle.std.proofs.lemmas.Option.{same_Some, cond_some}
use Rattle.std.proofs.lemmas.Bool.Decides.{nat_tests}
use Rattle.sat_chain.specs.Clause.{variable, ascends_above, IsClause, AreClauses, Meets, MeetsAll}
use Rattle.sat_chain.specs.Text.{Line, Given, Derived, signed, is_plain, magnitude, number_of, variable_up_to, literal_of, with_literal, literals_of, ended, is_end, given_line, derived_line}
use Rattle.sat_chain.specs.Resolvent.{Union, union_of}
use Rattle.sat_chain.specs.Refutes.{Known, Follows, HasNoModel}
use Rattle.sat_chain.specs.Scan.{capped}
use Rattle.sat_chain.specs.Answer.{is_known, all_known, seen, IsResult, DerivedAnswer, with_line, Answers}
use Rattle.sat_chain.specs.Store.{cut, IsCut, marked}
use Rattle.sat_chain.specs.declared.fault.ChainFault.{ChainFault}
use Rattle.sat_chain.specs.declared.fault.ChainFault.TheVariants.{BadLine, NoClause, NoPivot, NotResolvent}
use Rattle.sat_chain.specs.declared.fault.Seen.{Seen}
use Rattle.sat_chain.specs.declared.fault.Seen.TheVariants.{Added, Empty}
use Rattle.sat_chain.proofs.StoreLemmas.{length-cut, cut_push, is_cut_push, marked_push}
use Rattle.sat_chain.proofs.SoundLemmas.{by_push, follows_given, follows_derived, no_model}

signed_variable : (b : Bool) (n : ℕ) → variable (signed b n) ≡ n
signed_variable true n = refl
signed_variable false zero = refl
signed_variable false (suc n) = refl

up_to : (v : ℕ) (o : Option ℕ) (n : ℕ) → variable_up_to v o ≡ Some n → n ≤ v
up_to v None n h = cc
up_to v (Some m) n h =
    let c = cond_some (nat_lt 0 m && nat_le m v) m n h in
    let le : m ≤ v = elim (nat_lt 0 m) as (λ b. (b && nat_le m v) ≡ true → m ≤ v) [ true ↦ λ e. grind (arith, nat_tests) | false ↦ λ e. cc ] c.0 in
    omega (arith, le, c.1)

literal_up_to : (v : ℕ) (b : Bool) (o : Option ℕ) (l : ℤ) → ((n : ℕ) → o ≡ Some n → n ≤ v) → option_map (signed b) o ≡ Some l → variable l ≤ v
literal_up_to v b None l h e = cc
literal_up_to v b (Some n) l h e =
    let is : signed b n ≡ l = same_Some (signed b n) l e in
    let size : variable l ≡ n = sym (ap variable is) ∙ signed_variable b n in
    omega (arith, size, h n refl)

with_within : (v : ℕ) (o : Option ℤ) (more : Option (List ℤ)) (ls : List ℤ) → ((l : ℤ) → o ≡ Some l → variable l ≤ v) → ((ms : List ℤ) → more ≡ Some ms → AllByRecursion (λ l. variable l ≤ v) ms)
    → with_literal o more ≡ Some ls → AllByRecursion (λ l. variable l ≤ v) ls
with_within v None more ls h k e = cc
with_within v (Some l) None ls h k e = cc
with_within v (Some l) (Some ms) ls h k e = subst (AllByRecursion (λ x. variable x ≤ v)) (same_Some (l ∷ ms) ls e) (h l refl, k ms refl)

ended_within : (v : ℕ) (ws : List (List ℕ)) (ls : List ℤ) → ended ws ≡ Some ls → AllByRecursion (λ l. variable l ≤ v) ls
ended_within v [] ls e = subst (AllByRecursion (λ x. variable x ≤ v)) (same_Some [] ls e) tt
ended_within v (w ∷ ws) ls e = cc

-- the literals that are read are of these variables
literals_within : (v : ℕ) (ws : List (List ℕ)) (ls : List ℤ) → literals_of v ws ≡ Some ls → AllByRecursion (λ l. variable l ≤ v) ls
unfolding literals_of
literals_within v [] ls e = cc
literals_within v (w ∷ ws) ls e =
    elim (is_end w) as (λ b. cond b (ended ws) (with_literal (literal_of v w) (literals_of v ws)) ≡ Some ls → AllByRecursion (λ l. variable l ≤ v) ls) [
      | true ↦ λ h. ended_within v ws ls h
      | false ↦ λ h. with_within v (literal_of v w) (literals_of v ws) ls
          (λ l is. literal_up_to v (is_plain w) (variable_up_to v (number_of (magnitude w))) l (λ n at. up_to v (number_of (magnitude w)) n at) is)
          (λ ms is. literals_within v ws ms is) h
    ] e

same_given : (a b : List ℤ) → ◌≡◌ {A = Option Line} (Some (Given a)) (Some (Given b)) → a ≡ b
same_given a b e = cc

given_clause_of : (v : ℕ) (o : Option (List ℤ)) (ls : List ℤ) → ((ms : List ℤ) → o ≡ Some ms → AllByRecursion (λ l. variable l ≤ v) ms) → given_line o ≡ Some (Given ls) → IsClause v ls
given_clause_of v None ls h e = cc
given_clause_of v (Some []) ls h e = cc
given_clause_of v (Some (l ∷ ms)) ls h e =
    let c = cond_some (ascends_above 0 (l ∷ ms)) (Given (l ∷ ms)) (Given ls) e in
    let is : l ∷ ms ≡ ls = same_given (l ∷ ms) ls (ap (λ (x : Line). Some x) c.1) in
    subst (IsClause v) is (c.0, h (l ∷ ms) refl)

-- a given clause is one
pub given_clause : (v : ℕ) (ws : List (List ℕ)) (ls : List ℤ) → given_line (literals_of v ws) ≡ Some (Given ls) → IsClause v ls
given_clause v ws ls e = given_clause_of v (literals_of v ws) ls (λ ms is. literals_within v ws ms is) e

same_derived : (m n : List ℕ) (a b : List ℤ) → ◌≡◌ {A = Option Line} (Some (Derived m a)) (Some (Derived n b)) → a ≡ b
same_derived m n a b e = cc

derived_some : (v : ℕ) (m n : List ℕ) (o : Option (List ℤ)) (ls : List ℤ) → ((ms : List ℤ) → o ≡ Some ms → AllByRecursion (λ l. variable l ≤ v) ms) → option_map (Derived m) o ≡ Some (Derived n ls) → AllByRecursion (λ l. variable l ≤ v) ls
derived_some v m n None ls h e = cc
derived_some v m n (Some ms) ls h e = subst (AllByRecursion (λ l. variable l ≤ v)) (same_derived m n ms ls e) (h ms refl)

-- the literals of a derived clause are of these variables
pub derived_within : (v : ℕ) (o : Option (List ℕ × List (List ℕ))) (ns : List ℕ) (ls : List ℤ) → derived_line v o ≡ Some (Derived ns ls) → AllByRecursion (λ l. variable l ≤ v) ls
derived_within v None ns ls e = cc
derived_within v (Some ([], ws)) ns ls e = cc
derived_within v (Some (m ∷ ms, ws)) ns ls e = derived_some v (m ∷ ms) ns (literals_of v ws) ls (λ k is. literals_within v ws k is) e

-- what is kept, as lists
pub record Holds (v : ℕ) (lits : List ℤ) (bs : List ℕ) (gs : List Bool) : Type 0 where
  pub places : IsCut (length lits) bs
  pub flags : length gs + 1 ≡ length bs
  pub clauses : AreClauses v (cut bs lits)
  pub follows : Follows (marked gs (cut bs lits)) (cut bs lits)

length-push : {X : Type 0} (xs : List X) (x : X) → length (xs ++ x ∷ []) ≡ length xs + 1
length-push [] x = refl
length-push (y ∷ xs) x = omega (arith, length-push xs x)

-- one clause more, given or derived
pub record More (v : ℕ) (lits : List ℤ) (bs : List ℕ) (gs : List Bool) (ls : List ℤ) (lits' : List ℤ) (bs' : List ℕ) (gs' : List Bool) (given' : List (List ℤ)) : Type 0 where
  pub holds : Holds v lits' bs' gs'
  pub clauses : cut bs' lits' ≡ cut bs lits ++ ls ∷ []
  pub given : marked gs' (cut bs' lits') ≡ given'

marked_true : (c : List ℤ) → marked (true ∷ []) (c ∷ []) ≡ c ∷ []
unfolding marked
marked_true c = refl

marked_false : (c : List ℤ) → marked (false ∷ []) (c ∷ []) ≡ []
unfolding marked
marked_false c = refl

more_given_here : (v : ℕ) (lits : List ℤ) (bs : List ℕ) (gs : List Bool) (ls : List ℤ) → Holds v lits bs gs → IsClause v ls
    → More v lits bs gs ls (lits ++ ls) (bs ++ length (lits ++ ls) ∷ []) (gs ++ true ∷ []) (marked gs (cut bs lits) ++ ls ∷ [])
more_given_here v lits bs gs ls h is =
    let more : cut (bs ++ length (lits ++ ls) ∷ []) (lits ++ ls) ≡ cut bs lits ++ ls ∷ [] = cut_push bs lits ls h.places in
    let many : length (cut bs lits) + 1 ≡ length bs = length-cut (length lits) bs lits h.places in
    let flags = h.flags in
    let given : marked (gs ++ true ∷ []) (cut bs lits ++ ls ∷ []) ≡ marked gs (cut bs lits) ++ ls ∷ [] = marked_push gs (cut bs lits) true ls (omega arith) ∙ ap (λ r. marked gs (cut bs lits) ++ r) (marked_true ls) in
    record {
      holds = record {
        places = is_cut_push bs lits ls h.places;
        flags = omega (arith, length-push gs true, length-push bs (length (lits ++ ls)));
        clauses = rw more (by_push (IsClause v) (cut bs lits) ls h.clauses is);
        follows = rw (more, given) (follows_given (marked gs (cut bs lits)) (cut bs lits) ls h.follows);
      };
      clauses = more;
      given = rw (more, given) refl;
    }

append_nothing : {X : Type 0} (xs : List X) → xs ++ [] ≡ xs
append_nothing [] = refl
append_nothing (x ∷ xs) = ap (λ r. x ∷ r) (append_nothing xs)

more_derived_here : (v : ℕ) (lits : List ℤ) (bs : List ℕ) (gs : List Bool) (ls : List ℤ) → Holds v lits bs gs → IsClause v ls → ((a : ℕ → Bool) → MeetsAll a (cut bs lits) → Meets a ls)
    → More v lits bs gs ls (lits ++ ls) (bs ++ length (lits ++ ls) ∷ []) (gs ++ false ∷ []) (marked gs (cut bs lits))
more_derived_here v lits bs gs ls h is derives =
    let more : cut (bs ++ length (lits ++ ls) ∷ []) (lits ++ ls) ≡ cut bs lits ++ ls ∷ [] = cut_push bs lits ls h.places in
    let many : length (cut bs lits) + 1 ≡ length bs = length-cut (length lits) bs lits h.places in
    let flags = h.flags in
    let given : marked (gs ++ false ∷ []) (cut bs lits ++ ls ∷ []) ≡ marked gs (cut bs lits) = marked_push gs (cut bs lits) false ls (omega arith) ∙ ap (λ r. marked gs (cut bs lits) ++ r) (marked_false ls) ∙ append_nothing (marked gs (cut bs lits)) in
    record {
      holds = record {
        places = is_cut_push bs lits ls h.places;
        flags = omega (arith, length-push gs false, length-push bs (length (lits ++ ls)));
        clauses = rw more (by_push (IsClause v) (cut bs lits) ls h.clauses is);
        follows = rw (more, given) (follows_derived (marked gs (cut bs lits)) (cut bs lits) ls h.follows derives);
      };
      clauses = more;
      given = rw (more, given) refl;
    }

pub more_given : (v : ℕ) (lits : List ℤ) (bs : List ℕ) (gs : List Bool) (ls lits' : List ℤ) (n : ℕ) (bs' : List ℕ) (gs' : List Bool) → Holds v lits bs gs → IsClause v ls
    → lits' ≡ lits ++ ls → n ≡ length lits' → bs' ≡ bs ++ n ∷ [] → gs' ≡ gs ++ true ∷ [] → More v lits bs gs ls lits' bs' gs' (marked gs (cut bs lits) ++ ls ∷ [])
more_given v lits bs gs ls lits' n bs' gs' h is l-is n-is b-is g-is = rw (g-is, b-is, n-is, l-is) (more_given_here v lits bs gs ls h is)

pub more_derived : (v : ℕ) (lits : List ℤ) (bs : List ℕ) (gs : List Bool) (ls lits' : List ℤ) (n : ℕ) (bs' : List ℕ) (gs' : List Bool) → Holds v lits bs gs → IsClause v ls → ((a : ℕ → Bool) → MeetsAll a (cut bs lits) → Meets a ls)
    → lits' ≡ lits ++ ls → n ≡ length lits' → bs' ≡ bs ++ n ∷ [] → gs' ≡ gs ++ false ∷ [] → More v lits bs gs ls lits' bs' gs' (marked gs (cut bs lits))
more_derived v lits bs gs ls lits' n bs' gs' h is derives l-is n-is b-is g-is = rw (g-is, b-is, n-is, l-is) (more_derived_here v lits bs gs ls h is derives)

pub answers_bad : (k : Known) (bytes : ℕ) (line : Option Line) (new : Known) → line ≡ None → new ≡ k → Answers k bytes line (Err BadLine) new
answers_bad k bytes line new is same = rw is (record { value = refl; after = same; sound = λ e. cc })

pub answers_given : (k : Known) (bytes : ℕ) (line : Option Line) (ls : List ℤ) (new : Known) → line ≡ Some (Given ls) → new ≡ with_line k bytes (Some (Given ls)) → Answers k bytes line (Ok Added) new
answers_given k bytes line ls new is same = rw is (record { value = refl; after = same; sound = λ e. cc })

pub answers_fault : (k : Known) (bytes : ℕ) (line : Option Line) (ns : List ℕ) (ls : List ℤ) (f : ChainFault) (new : Known) → line ≡ Some (Derived ns ls) → DerivedAnswer k.clauses ns ls (Err f) → new ≡ k → Answers k bytes line (Err f) new
answers_fault k bytes line ns ls f new is answer same = rw is (record { value = answer; after = same; sound = λ e. cc })

seen_nil : (ls : List ℤ) → seen ls ≡ Empty → ls ≡ []
seen_nil [] h = refl
seen_nil (l ∷ ls) h = cc

same_seen : (s t : Seen) → ◌≡◌ {A = Result Seen ChainFault} (Ok s) (Ok t) → s ≡ t
same_seen s t e = cc

pub answers_derived : (k : Known) (bytes : ℕ) (line : Option Line) (ns : List ℕ) (ls : List ℤ) (s : Seen) (new : Known) → line ≡ Some (Derived ns ls) → DerivedAnswer k.clauses ns ls (Ok s)
    → new ≡ with_line k bytes (Some (Derived ns ls)) → (ls ≡ [] → HasNoModel new.given) → Answers k bytes line (Ok s) new
answers_derived k bytes line ns ls s new is answer same refuted =
    rw is (record { value = answer; after = same; sound = λ e. refuted (seen_nil ls (sym answer.2 ∙ same_seen s Empty e)) })

known_capped : (count n : ℕ) → count < 2 ^ 64 - 1 → is_known count (capped n) ≡ is_known count n
known_capped count n h = grind (arith, nat_tests)

all_capped : (count : ℕ) (ns : List ℕ) → count < 2 ^ 64 - 1 → list_all (is_known count) (map capped ns) ≡ list_all (is_known count) ns
all_capped count [] h = refl
all_capped count (n ∷ ns) h = rw (known_capped count n h, all_capped count ns h) refl

capped_known : (count n : ℕ) → count < 2 ^ 64 - 1 → is_known count n ≡ true → capped n ≡ n
capped_known count n h is = grind (arith, nat_tests)

map_capped : (count : ℕ) (ns : List ℕ) → count < 2 ^ 64 - 1 → list_all (is_known count) ns ≡ true → map capped ns ≡ ns
map_capped count [] h k = refl
map_capped count (n ∷ ns) h k =
    elim (is_known count n) as (λ b. is_known count n ≡ b → (b && list_all (is_known count) ns) ≡ true → capped n ∷ map capped ns ≡ n ∷ ns) [
      | true ↦ λ e r. rw (capped_known count n h e, map_capped count ns h r) refl
      | false ↦ λ e r. cc
    ] refl k

-- numbers that are no clause's may be capped
pub uncapped : (cs : List (List ℤ)) (ns : List ℕ) (ls : List ℤ) (r : Result Seen ChainFault) → length cs < 2 ^ 64 - 1 → DerivedAnswer cs (map capped ns) ls r → DerivedAnswer cs ns ls r
uncapped cs ns ls (Ok s) h d =
    let k : all_known cs ns ≡ true = sym (all_capped (length cs) ns h) ∙ d.0 in
    subst (λ m. DerivedAnswer cs m ls (Ok s)) (map_capped (length cs) ns h k) d
uncapped cs ns ls (Err BadLine) h d = d
uncapped cs ns ls (Err NoClause) h d = λ k. d (all_capped (length cs) ns h ∙ k)
uncapped cs ns ls (Err NoPivot) h d =
    let k : all_known cs ns ≡ true = sym (all_capped (length cs) ns h) ∙ d.0 in
    subst (λ m. DerivedAnswer cs m ls (Err NoPivot)) (map_capped (length cs) ns h k) d
uncapped cs ns ls (Err NotResolvent) h d =
    let k : all_known cs ns ≡ true = sym (all_capped (length cs) ns h) ∙ d.0 in
    subst (λ m. DerivedAnswer cs m ls (Err NotResolvent)) (map_capped (length cs) ns h k) d

-- what is known with a given clause more
pub known_given : (v r b : ℕ) (g g' c c' : List (List ℤ)) (ls : List ℤ) → g' ≡ g ++ ls ∷ [] → c' ≡ c ++ ls ∷ []
    → ◌≡◌ {A = Known} (record { vars = v; given = g'; clauses = c'; room = r - b }) (with_line (record { vars = v; given = g; clauses = c; room = r }) b (Some (Given ls)))
known_given v r b g g' c c' ls gi ci = rw (gi, ci) refl

-- what is known with a derived clause more
pub known_derived : (v r b : ℕ) (g g' c c' : List (List ℤ)) (ns : List ℕ) (ls : List ℤ) → g' ≡ g → c' ≡ c ++ ls ∷ []
    → ◌≡◌ {A = Known} (record { vars = v; given = g'; clauses = c'; room = r - b }) (with_line (record { vars = v; given = g; clauses = c; room = r }) b (Some (Derived ns ls)))
known_derived v r b g g' c c' ns ls gi ci = rw (gi, ci) refl

pub take_front : (old ls new : List ℤ) → new ≡ old ++ ls → take (length old) new ≡ old
take_front old ls new is = rw is (grind (arith, common_steps))

pub drop_front : (old ls new : List ℤ) → new ≡ old ++ ls → drop (length old) new ≡ ls
drop_front old ls new is = rw is (grind (arith, common_steps))

pub within_marks : (v m : ℕ) (ls : List ℤ) → AllByRecursion (λ l. variable l ≤ v) ls → v < m → All (λ l. variable l < m) ls
within_marks v m ls h lt = All-from_recursion (λ l. variable l < m) ls (below v m ls h lt)

-- the answer of the parts that were given is that of the clauses
pub judged : (bs bs' : List ℕ) (lits lits' : List ℤ) (ns ns' : List ℕ) (ls ls' : List ℤ) (r : Result Seen ChainFault) → bs' ≡ bs → lits' ≡ lits → ns' ≡ map capped ns → ls' ≡ ls
    → length (cut bs lits) < 2 ^ 64 - 1 → DerivedAnswer (cut bs' lits') ns' ls' r → DerivedAnswer (cut bs lits) ns ls r
judged bs bs' lits lits' ns ns' ls ls' r b-is l-is n-is s-is small d =
    uncapped (cut bs lits) ns ls r small
    (subst (λ x. DerivedAnswer (cut x lits) (map capped ns) ls r) b-is
    (subst (λ x. DerivedAnswer (cut bs' x) (map capped ns) ls r) l-is
    (subst (λ x. DerivedAnswer (cut bs' lits') x ls r) n-is
    (subst (λ x. DerivedAnswer (cut bs' lits') ns' x r) s-is d))))

result_ascends : (o : Option Union) (ls : List ℤ) → IsSomeAnd o (IsResult ls) → ascends_above 0 ls ≡ true
result_ascends None ls h = absurd h
result_ascends (Some u) ls h = h.0

-- what passes is a clause
pub passes_clause : (v : ℕ) (cs : List (List ℤ)) (ns : List ℕ) (ls : List ℤ) (s : Seen) → DerivedAnswer cs ns ls (Ok s) → AllByRecursion (λ l. variable l ≤ v) ls → IsClause v ls
passes_clause v cs ns ls s d h = (result_ascends (union_of cs ns) ls d.1, h)

pub refuted : (g c c' : List (List ℤ)) (ls : List ℤ) → Follows g c' → c' ≡ c ++ ls ∷ [] → ls ≡ [] → HasNoModel g
refuted g c c' ls h is none = no_model g c (subst (Follows g) (is ∙ ap (λ x. c ++ x ∷ []) none) h)

pub small_cut : (end : ℕ) (bs : List ℕ) (lits : List ℤ) → IsCut end bs → length bs < 2 ^ 64 → length (cut bs lits) < 2 ^ 64 - 1
small_cut end bs lits h lt = omega (arith, length-cut end bs lits h)

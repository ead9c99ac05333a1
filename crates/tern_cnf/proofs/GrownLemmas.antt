-- Serves specs/Grown.antt: what is left of a list says what all of it comes to.
use Rattle.std.proofs.Common.{◌≡◌, ℕ, ◌+◌, ◌<◌, ◌≤◌, Bool, true, false, nat_eq, ◌||◌, List, [], ◌∷◌, ◌++◌, length, get_or, set, take, drop, replicate, refl, sym, ap, ◌∙◌, subst, inl, inr, arith, ℤ, eq-eqb, get_or-set_same, get_or-set_other, length-set}
use Rattle.std.specs.Prelude.{map}
use Rattle.std.proofs.lemmas.Bool.{cases_eq, or_right, ne_eqb}
use Rattle.std.proofs.lemmas.List.{append-nil, take_more, drop_more, get_or-replicate, length-replicate, length-map, get_or-map, drop_all, get_or_default}
use Rattle.std.proofs.lemmas.List.Folds.{list_any-append}
use Rattle.std.proofs.lemmas.Option.{slice_get_within, get_or_from_slice_get}
use Rattle.net_view.specs.View.{Numbered, IsGateAt}
use Rattle.std.proofs.lemmas.List.Elements.{All-from_recursion}
use Rattle.sat_chain.specs.Clause.{Problem, IsClause}
use Rattle.tern_cnf.specs.Asked.{CanBeAdded}
use Rattle.tern_cnf.specs.Rails.{node_clauses, is_listed, clauses_from, clauses_of}
use Rattle.tern_cnf.specs.Grown.{with_clauses, AreMarks}
use Rattle.tern_cnf.proofs.RailsLemmas.{with_more}

pub marks_none : (n : ℕ) → AreMarks (replicate n false) [] n
marks_none n = record { whole = length-replicate n false; each = λ k lt. get_or-replicate n k false false lt }

or_left_false : (b : Bool) → (b || false) ≡ b
or_left_false true = refl
or_left_false false = refl

listed_more : (listed : List ℕ) (i x k : ℕ) → i < length listed → x ≡ get_or listed i 0 → is_listed (take (i + 1) listed) k ≡ (is_listed (take i listed) k || (nat_eq x k || false))
listed_more listed i x k lt is = rw (take_more listed i 0 lt, ← is) (list_any-append (λ f. nat_eq f k) (take i listed) (x ∷ []))

-- a mark more
pub marks_more : (marks : List Bool) (listed : List ℕ) (n i x : ℕ) → i < length listed → x ≡ get_or listed i 0 → x < n → AreMarks marks (take i listed) n → AreMarks (set marks x true) (take (i + 1) listed) n
marks_more marks listed n i x lt is inside before = record {
  whole = length-set marks x true ∙ before.whole;
  each = λ k below. elim (cases_eq k x) [
    | inl same ↦ ap (λ (j : ℕ). get_or (set marks x true) j false) same ∙ get_or-set_same marks x true false (omega (arith, before.whole))
        ∙ sym (listed_more listed i x k lt is ∙ or_right (is_listed (take i listed) k) (nat_eq x k || false) (rw (eq-eqb x k (sym same)) refl))
    | inr other ↦ get_or-set_other marks x k true false other ∙ before.each k below
        ∙ sym (listed_more listed i x k lt is ∙ rw (ne_eqb x k (λ e. other (sym e))) (or_left_false (is_listed (take i listed) k)))
  ];
}

-- the clauses of what is left begin with those of the next node
pub nodes_more : (fixed : List ℕ) (gates : List Numbered) (n : ℕ) (g : Numbered) → IsGateAt gates n g
    → clauses_from fixed n (drop n gates) ≡ node_clauses (is_listed fixed n) n g ++ clauses_from fixed (n + 1) (drop (n + 1) gates)
unfolding clauses_from
nodes_more fixed gates n g is =
    let inside : n < length gates = slice_get_within gates n g is in
    let here : get_or gates n g ≡ g = get_or_from_slice_get gates n g g is in
    ap (clauses_from fixed n) (drop_more gates n g inside ∙ ap (λ (h : Numbered). h ∷ drop (n + 1) gates) here)

pub no_nodes : (fixed : List ℕ) (n : ℕ) → clauses_from fixed n [] ≡ []
unfolding clauses_from
no_nodes fixed n = refl

-- clauses that are written are no longer left
pub left_less : (k k' whole : Problem) (cs rest : List (List ℤ)) → k' ≡ with_clauses k cs → with_clauses k (cs ++ rest) ≡ whole → with_clauses k' rest ≡ whole
left_less k k' whole cs rest is left = rw is (with_more k cs rest ∙ left)

pub left_none : (k : Problem) → with_clauses k [] ≡ k
left_none k = rw append-nil refl

-- the clauses of the next node are written
pub node_written : (fixed : List ℕ) (gates : List Numbered) (n : ℕ) (g : Numbered) (b : Bool) (k k' whole : Problem) → IsGateAt gates n g → b ≡ is_listed fixed n
    → k' ≡ with_clauses k (node_clauses b n g) → with_clauses k (clauses_from fixed n (drop n gates)) ≡ whole → with_clauses k' (clauses_from fixed (n + 1) (drop (n + 1) gates)) ≡ whole
node_written fixed gates n g b k k' whole at mark written left =
    left_less k k' whole (node_clauses (is_listed fixed n) n g) (clauses_from fixed (n + 1) (drop (n + 1) gates)) (written ∙ ap (λ m. with_clauses k (node_clauses m n g)) mark)
    (ap (λ xs. with_clauses k xs) (sym (nodes_more fixed gates n g at)) ∙ left)

-- those of all nodes are
pub nodes_written : (fixed : List ℕ) (gates : List Numbered) (n : ℕ) (k whole : Problem) → length gates ≤ n → with_clauses k (clauses_from fixed n (drop n gates)) ≡ whole → k ≡ whole
nodes_written fixed gates n k whole all left =
    sym (left_none k) ∙ ap (λ xs. with_clauses k xs) (sym (no_nodes fixed n) ∙ ap (clauses_from fixed n) (sym (drop_all n gates all))) ∙ left

-- a mark, read
pub mark_is : (marks : List Bool) (listed : List ℕ) (count n : ℕ) (b : Bool) → AreMarks marks listed count → n < count → b ≡ get_or marks n b → b ≡ is_listed listed n
mark_is marks listed count n b are inside read = read ∙ get_or_default marks n b false (omega (arith, are.whole)) ∙ are.each n inside

-- a clause of a list can be added where all can
pub side_at : {X : Type 0} (f : X → List ℤ) (xs : List X) (i : ℕ) (x : X) (c : List ℤ) (k whole : Problem) → CanBeAdded whole.vars (map f xs) → i < length xs → x ≡ get_or xs i x → c ≡ f x
    → k.vars ≡ whole.vars → (0 < length c) × IsClause k.vars c
side_at f xs i x c k whole all inside read is vars =
    let here : get_or (map f xs) i (f x) ≡ c = get_or-map f xs i x (f x) inside ∙ ap f (sym read) ∙ sym is in
    let P : ℕ → List ℤ → Type 0 = λ v d. (0 < length d) × IsClause v d in
    subst (λ (v : ℕ). P v c) (sym vars) (subst (P whole.vars) here (All-from_recursion (P whole.vars) (map f xs) all i (f x) (omega (arith, length-map xs f))))

-- one of them is
pub side_written : {X : Type 0} (f : X → List ℤ) (xs : List X) (i : ℕ) (x : X) (c : List ℤ) (k k' whole : Problem) → i < length xs → x ≡ get_or xs i x → c ≡ f x → k' ≡ with_clauses k (c ∷ [])
    → with_clauses k (map f (drop i xs)) ≡ whole → with_clauses k' (map f (drop (i + 1) xs)) ≡ whole
side_written f xs i x c k k' whole inside read is written left =
    left_less k k' whole (c ∷ []) (map f (drop (i + 1) xs)) written
    (ap (λ d. with_clauses k (d ∷ map f (drop (i + 1) xs))) (is ∙ ap f read) ∙ ap (λ ys. with_clauses k (map f ys)) (sym (drop_more xs i x inside)) ∙ left)

-- the clauses of a question, from none on
pub all_written : (vars : ℕ) (k0 k1 k2 : Problem) (fixed fixed' : List ℕ) (gates : List Numbered) (side side' : List (List ℤ)) → k0 ≡ record { vars = vars; clauses = [] } → fixed' ≡ fixed → side' ≡ side
    → k1 ≡ with_clauses k0 (clauses_from fixed' 0 gates) → k2 ≡ with_clauses k1 side' → k2.clauses ≡ clauses_of gates fixed side
all_written vars k0 k1 k2 fixed fixed' gates side side' start f s nodes rest = rw (rest, nodes, start, f, s) refl

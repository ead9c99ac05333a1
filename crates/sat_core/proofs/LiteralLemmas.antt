-- Serves specs/Marked.antt: the literals of marked variables are a false clause, and the union.
use Rattle.std.proofs.Common.{◌≡◌, ◌≢◌, ℕ, zero, suc, ◌+◌, ◌-◌, ◌<◌, ◌≤◌, Bool, true, false, not, nat_eq, nat_lt, cond, List, [], ◌∷◌, ◌++◌, append_assoc, add-one, refl, sym, ap, ◌∙◌, Some, None, arith, ℤ}
use Rattle.std.specs.List.{AllByRecursion}
use Rattle.std.proofs.lemmas.Bool.Decides.{nat_tests}
use Rattle.sat_chain.specs.Clause.{variable, is_positive, ascends_above, IsClause}
use Rattle.sat_chain.specs.Text.{signed}
use Rattle.sat_chain.specs.Resolvent.{differs, sign_in}
use Rattle.sat_core.specs.Path.{is_false_literal, is_false, IsFirstFalse}
use Rattle.sat_core.specs.Marked.{union_at, literals_from, IsMarked}
use Rattle.sat_core.proofs.FalseLemmas.{both, literal_is, literal_false}
use Rattle.sat_core.proofs.UnionLemmas.{false_sign}

pub signed_variable : (b : Bool) (n : ℕ) → variable (signed b n) ≡ n
signed_variable true n = refl
signed_variable false zero = refl
signed_variable false (suc n) = refl

signed_positive : (b : Bool) (n : ℕ) → 0 < n → is_positive (signed b n) ≡ b
signed_positive true n lt = refl
signed_positive false zero lt = absurd (omega arith)
signed_positive false (suc n) lt = refl

-- the literals ascend
pub ascends_from : (a m : ℕ → Bool) (v x k : ℕ) → v < x → ascends_above v (literals_from a m x k) ≡ true
ascends_from a m v x zero lt = refl
ascends_from a m v x (suc k) lt = elim (m x) as (λ b. ascends_above v (cond b (signed (not (a x)) x ∷ literals_from a m (x + 1) k) (literals_from a m (x + 1) k)) ≡ true) [
  | true ↦ (let t : nat_lt v x ≡ true = grind (arith, nat_tests) in rw (signed_variable (not (a x)) x, t) (ascends_from a m x (x + 1) k (omega arith)))
  | false ↦ ascends_from a m v (x + 1) k (omega arith)
]

-- an unmarked variable doesn't stand in them
sign_unmarked : (a m : ℕ → Bool) (x k y : ℕ) → m y ≡ false → sign_in (literals_from a m x k) y ≡ None
sign_unmarked a m x zero y h = refl
sign_unmarked a m x (suc k) y h = elim (m x) as (λ b. m x ≡ b → sign_in (cond b (signed (not (a x)) x ∷ literals_from a m (x + 1) k) (literals_from a m (x + 1) k)) y ≡ None) [
  | true ↦ λ e. (
      let ne : nat_eq x y ≡ false = elim (nat_eq x y) as (λ b. nat_eq x y ≡ b → b ≡ false) [
        | true ↦ λ t. (let same : x ≡ y = grind (arith, nat_tests) in let k : m x ≡ m y = ap m same in cc)
        | false ↦ λ t. refl
      ] refl in
      rw (signed_variable (not (a x)) x, ne) (sign_unmarked a m (x + 1) k y h)
      )
  | false ↦ λ e. sign_unmarked a m (x + 1) k y h
] refl

-- a marked one does
sign_marked : (a m : ℕ → Bool) (x k y : ℕ) → 0 < x → m y ≡ true → x ≤ y → y < x + k → sign_in (literals_from a m x k) y ≡ Some (not (a y))
sign_marked a m x zero y some h le lt = absurd (omega arith)
sign_marked a m x (suc k) y some h le lt = elim (nat_eq x y) as (λ t. nat_eq x y ≡ t → sign_in (literals_from a m x (suc k)) y ≡ Some (not (a y))) [
  | true ↦ λ t. (
      let same : x ≡ y = grind (arith, nat_tests) in
      let here : m x ≡ true = ap m same ∙ h in
      rw (here, signed_variable (not (a x)) x, t) (ap (λ (b : Bool). Some b) (signed_positive (not (a x)) x some ∙ ap (λ z. not (a z)) same))
      )
  | false ↦ λ t. (
      let ne : x ≢ y = grind (arith, nat_tests) in
      let rest = sign_marked a m (x + 1) k y (omega arith) h (omega arith) (omega arith) in
      elim (m x) as (λ b. sign_in (cond b (signed (not (a x)) x ∷ literals_from a m (x + 1) k) (literals_from a m (x + 1) k)) y ≡ Some (not (a y))) [
        | true ↦ rw (signed_variable (not (a x)) x, t) rest
        | false ↦ rest
      ]
      )
] refl

-- the literals are the union
pub union_literals : (a m : ℕ → Bool) (n y : ℕ) → IsMarked m n → union_at a m y ≡ sign_in (literals_from a m 1 n) y
union_literals a m n y marks = elim (m y) as (λ b. m y ≡ b → cond b (Some (not (a y))) None ≡ sign_in (literals_from a m 1 n) y) [
  | true ↦ λ e. (
      let some : 0 < y = elim (nat_eq y 0) as (λ t. nat_eq y 0 ≡ t → 0 < y) [
        | true ↦ λ t. (let same : y ≡ 0 = grind (arith, nat_tests) in let z : m y ≡ false = ap m same ∙ marks.start in cc)
        | false ↦ λ t. grind (arith, nat_tests)
      ] refl in
      let le : y ≤ n = elim (nat_lt n y) as (λ t. nat_lt n y ≡ t → y ≤ n) [
        | true ↦ λ t. (let z : m y ≡ false = marks.above y (grind (arith, nat_tests)) in cc)
        | false ↦ λ t. grind (arith, nat_tests)
      ] refl in
      sym (sign_marked a m 1 n y (omega arith) e (omega arith) (omega arith))
      )
  | false ↦ λ e. sym (sign_unmarked a m 1 n y e)
] refl

differs_self : (s : Bool) → differs s (not s) ≡ true
differs_self true = refl
differs_self false = refl

-- the literals are false
pub false_from : (a m : ℕ → Bool) (n x k : ℕ) → 0 < x → x + k ≤ n + 1 → is_false a n (literals_from a m x k) ≡ true
false_from a m n x zero some le = refl
false_from a m n x (suc k) some le = elim (m x) as (λ b. is_false a n (cond b (signed (not (a x)) x ∷ literals_from a m (x + 1) k) (literals_from a m (x + 1) k)) ≡ true) [
  | true ↦ (
      let v : variable (signed (not (a x)) x) ≡ x = signed_variable (not (a x)) x in
      let p : is_positive (signed (not (a x)) x) ≡ not (a x) = signed_positive (not (a x)) x some in
      let head : is_false_literal a n (signed (not (a x)) x) ≡ true = literal_false a n (signed (not (a x)) x) (omega arith) (rw (v, p) (differs_self (a x))) in
      rw head (false_from a m n (x + 1) k (omega arith) (omega arith))
      )
  | false ↦ false_from a m n (x + 1) k (omega arith) (omega arith)
]

-- and not before their last variable
pub first_false : (a m : ℕ → Bool) (n : ℕ) → 0 < n → m n ≡ true → IsFirstFalse a n (literals_from a m 1 n)
first_false a m n some h = record {
  now = false_from a m n 1 n (omega arith) (omega arith);
  before = elim (is_false a (n - 1) (literals_from a m 1 n)) as (λ b. is_false a (n - 1) (literals_from a m 1 n) ≡ b → b ≡ false) [
    | true ↦ λ e. (let f = false_sign a (n - 1) (literals_from a m 1 n) n (not (a n)) e (sign_marked a m 1 n n (omega arith) h (omega arith) (omega arith)) in absurd (omega (arith, f.0)))
    | false ↦ λ e. refl
  ] refl;
}

false_within : (a : ℕ → Bool) (n v : ℕ) (c : List ℤ) → n ≤ v → is_false a n c ≡ true → AllByRecursion (λ l. variable l ≤ v) c
false_within a n v [] le h = tt
false_within a n v (l ∷ ls) le h =
    let p = both (is_false_literal a n l) (is_false a n ls) h in
    let f = literal_is a n l p.0 in
    (omega (arith, f.within), false_within a n v ls le p.1)

pub clause_literals : (a m : ℕ → Bool) (n v : ℕ) → n ≤ v → IsClause v (literals_from a m 1 n)
clause_literals a m n v le = (ascends_from a m 0 1 n (omega arith), false_within a n v (literals_from a m 1 n) le (false_from a m n 1 n (omega arith) (omega arith)))

-- one variable more is read
pub literals_more : (a m : ℕ → Bool) (x k k' : ℕ) (lits lits' all : List ℤ) → k ≡ k' + 1 → m x ≡ true → lits' ≡ lits ++ signed (not (a x)) x ∷ [] → lits ++ literals_from a m x k ≡ all → lits' ++ literals_from a m (x + 1) k' ≡ all
literals_more a m x k k' lits lits' all e h is so =
    let one : literals_from a m x k ≡ signed (not (a x)) x ∷ literals_from a m (x + 1) k' = ap (literals_from a m x) (e ∙ add-one k') ∙ rw h refl in
    ap (λ ls. ls ++ literals_from a m (x + 1) k') is ∙ append_assoc lits (signed (not (a x)) x ∷ []) (literals_from a m (x + 1) k') ∙ ap (λ ls. lits ++ ls) (sym one) ∙ so

pub literals_skip : (a m : ℕ → Bool) (x k k' : ℕ) (lits all : List ℤ) → k ≡ k' + 1 → m x ≡ false → lits ++ literals_from a m x k ≡ all → lits ++ literals_from a m (x + 1) k' ≡ all
literals_skip a m x k k' lits all e h so =
    let one : literals_from a m x k ≡ literals_from a m (x + 1) k' = ap (literals_from a m x) (e ∙ add-one k') ∙ rw h refl in
    ap (λ ls. lits ++ ls) (sym one) ∙ so

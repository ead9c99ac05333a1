-- The longest mark in front, from what its first bytes are.
use Rattle.std.proofs.Common.{◌≡◌, ℕ, zero, suc, ◌<◌, ◌≤◌, List, [], ◌∷◌, length, take, get_or, refl, arith, ⊎_elim}
use Rattle.std.proofs.lemmas.Bool.{cases_lt}
use Rattle.vlog_lex.specs.Longest.{IsLongest}
use Rattle.vlog_lex.specs.Marks.{is_single, is_pair, is_triple, is_mark, IsMark}

pub three : (bs : List ℕ) → 2 < length bs → is_mark (take 3 bs) ≡ is_triple (get_or bs 0 0) (get_or bs 1 0) (get_or bs 2 0)
unfolding is_mark
three [] some = absurd (omega arith)
three (a ∷ []) some = absurd (omega arith)
three (a ∷ b ∷ []) some = absurd (omega arith)
three (a ∷ b ∷ c ∷ bs) some = refl

pub two : (bs : List ℕ) → 1 < length bs → is_mark (take 2 bs) ≡ is_pair (get_or bs 0 0) (get_or bs 1 0)
unfolding is_mark
two [] some = absurd (omega arith)
two (a ∷ []) some = absurd (omega arith)
two (a ∷ b ∷ bs) some = refl

pub one : (bs : List ℕ) → 0 < length bs → is_mark (take 1 bs) ≡ is_single (get_or bs 0 0)
unfolding is_mark
one [] some = absurd (omega arith)
one (a ∷ bs) some = refl

-- no mark has four bytes
short : (bs : List ℕ) (m : ℕ) → 3 < m → m ≤ length bs → IsMark (take m bs) → ⊥
unfolding is_mark
short [] m long fits is = omega arith
short (a ∷ []) m long fits is = omega arith
short (a ∷ b ∷ []) m long fits is = omega arith
short (a ∷ b ∷ c ∷ []) m long fits is = omega arith
short (a ∷ b ∷ c ∷ d ∷ bs) zero long fits is = omega arith
short (a ∷ b ∷ c ∷ d ∷ bs) (suc zero) long fits is = omega arith
short (a ∷ b ∷ c ∷ d ∷ bs) (suc (suc zero)) long fits is = omega arith
short (a ∷ b ∷ c ∷ d ∷ bs) (suc (suc (suc zero))) long fits is = omega arith
short (a ∷ b ∷ c ∷ d ∷ bs) (suc (suc (suc (suc m)))) long fits is = cc

-- a mark is the longest where the fronts of up to three bytes that are longer are none
pub longest_mark : (bs : List ℕ) (n : ℕ) → n ≤ length bs → IsMark (take n bs) → ((m : ℕ) → n < m → m ≤ 3 → m ≤ length bs → IsMark (take m bs) → ⊥) → IsLongest IsMark bs n
longest_mark bs n within is others = record {
  within = within;
  whole = is;
  longest = λ m fits also. ⊎_elim
      (λ longer. ⊎_elim (λ long. absurd (short bs m long fits also)) (λ small. absurd (others m longer small fits also)) (cases_lt 3 m))
      (λ no_longer. no_longer)
      (cases_lt n m);
}

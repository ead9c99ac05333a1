-- Serves specs/Text.antt: words by places, and numbers by their digits.
use Rattle.std.proofs.Common.{◌≡◌, ℕ, zero, suc, ◌+◌, ◌-◌, ◌*◌, ◌^◌, ◌<◌, ◌≤◌, min, true, false, nat_eq, cond, List, [], ◌∷◌, length, get_or, take, drop, refl, sym, ap, ◌∙◌, Option, Some, None, arith, eq-eqb, add-one, drop-cons}
use Rattle.std.specs.List.{list_all}
use Rattle.std.proofs.lemmas.Bool.Decides.{nat_tests}
use Rattle.std.proofs.lemmas.Grind.{common_steps}
use Rattle.sat_chain.specs.Text.{words, is_digit, value_after}
use Rattle.sat_chain.specs.Scan.{capped, digits_of}

words_front_at : (text : List ℕ) (i : ℕ) → i < length text → ((k : ℕ) → k < i → get_or text k 0 ≡ 32 → ⊥) → get_or text i 0 ≡ 32
    → words text ≡ take i text ∷ words (drop (suc i) text)
unfolding words
words_front_at [] i h none is = absurd (omega arith)
words_front_at (b ∷ bs) zero h none is = rw (eq-eqb b 32 is) refl
words_front_at (b ∷ bs) (suc i) h none is =
    let ne : nat_eq b 32 ≡ false = grind (arith, nat_tests, none 0 (omega arith)) in
    rw (ne, words_front_at bs i (omega arith) (λ k lt at. none (suc k) (omega arith) at) is) refl

-- the first word ends before the first space
pub words_front : (text : List ℕ) (i : ℕ) → i < length text → ((k : ℕ) → k < i → get_or text k 0 ≡ 32 → ⊥) → get_or text i 0 ≡ 32
    → words text ≡ take i text ∷ words (drop (i + 1) text)
words_front text i h none is = words_front_at text i h none is ∙ rw (sym (add-one i)) refl

-- a text without a space is one word
pub words_whole : (text : List ℕ) → ((k : ℕ) → k < length text → get_or text k 0 ≡ 32 → ⊥) → words text ≡ text ∷ []
unfolding words
words_whole [] none = refl
words_whole (b ∷ bs) none =
    let ne : nat_eq b 32 ≡ false = grind (arith, nat_tests, none 0 (omega arith)) in
    rw (ne, words_whole bs (λ k lt at. none (suc k) (omega arith) at)) refl

-- capping along the way changes nothing
capped_after : (x : ℕ) (ds : List ℕ) → capped (value_after (capped x) ds) ≡ capped (value_after x ds)
unfolding value_after
capped_after x [] = omega arith
capped_after x (d ∷ ds) =
    let same : capped (10 * capped x + (d - 48)) ≡ capped (10 * x + (d - 48)) = omega arith in
    sym (capped_after (10 * capped x + (d - 48)) ds) ∙ ap (λ y. capped (value_after y ds)) same ∙ capped_after (10 * x + (d - 48)) ds

-- the capped number of more digits behind one
abbrev pub digits_from : ℕ → List ℕ → Option ℕ
digits_from n ds = cond (list_all is_digit ds) (Some (capped (value_after n ds))) None

digits_cons : (n b : ℕ) (ds : List ℕ) → is_digit b ≡ true → digits_from (min (min (n * 10) (2 ^ 64 - 1) + (b - 48)) (2 ^ 64 - 1)) ds ≡ digits_from n (b ∷ ds)
unfolding value_after
digits_cons n b ds is =
    let same : min (min (n * 10) (2 ^ 64 - 1) + (b - 48)) (2 ^ 64 - 1) ≡ capped (10 * n + (b - 48)) = omega arith in
    rw (is, same) (ap (λ y. cond (list_all is_digit ds) (Some y) None) (capped_after (10 * n + (b - 48)) ds))

-- one digit more
pub digits_step : (n : ℕ) (word : List ℕ) (i : ℕ) → i < length word → 48 ≤ get_or word i 0 → get_or word i 0 ≤ 57
    → digits_from (min (min (n * 10) (2 ^ 64 - 1) + (get_or word i 0 - 48)) (2 ^ 64 - 1)) (drop (i + 1) word) ≡ digits_from n (drop i word)
digits_step n word i h low high =
    let is : is_digit (get_or word i 0) ≡ true = grind (arith, nat_tests) in
    rw (drop-cons word i 0, add-one) (digits_cons n (get_or word i 0) (drop (suc i) word) is)

-- a byte that is no digit
pub digits_stop : (n : ℕ) (word : List ℕ) (i : ℕ) → i < length word → is_digit (get_or word i 0) ≡ false → digits_from n (drop i word) ≡ None
digits_stop n word i h is = rw (drop-cons word i 0, is) refl

-- no digits are left
pub digits_done : (n : ℕ) (word : List ℕ) (i : ℕ) → n ≤ 2 ^ 64 - 1 → length word ≤ i → digits_from n (drop i word) ≡ digits_from 0 word → Some n ≡ digits_of word
unfolding value_after
digits_done n word i small past same =
    let none : drop i word ≡ [] = grind (arith, common_steps) in
    let top : capped n ≡ n = omega arith in
    sym (ap Some top) ∙ (rw none at same)

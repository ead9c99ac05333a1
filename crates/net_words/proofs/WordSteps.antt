-- Serves the loops over words: what is left is one bit and the others, or nothing.
use Rattle.std.proofs.Common.{◌≡◌, ℕ, Bool, true, false, nat_lt, ◌-◌, take, set, Some, inl, inr, lt-ltb, le-ltb, zero, suc, ◌+◌, ◌<◌, ◌≤◌, List, [], ◌∷◌, ◌++◌, length, get_or, drop, refl, sym, ◌∙◌, ap, subst, subst₂, add-one, drop-cons, arith, lt_of_lt_of_le}
use Rattle.std.proofs.lemmas.Bool.{cases_lt}
use Rattle.std.proofs.lemmas.List.{drop_all, take_all}
use Rattle.std.proofs.lemmas.List.Elements.{All-push}
use Rattle.net_view.specs.declared.gate.Gate.TheVariants.{Const, Not}
use Rattle.net_words.specs.declared.bits.Bitwise.{Bitwise}
use Rattle.net_words.specs.Builds.{Build, onward, ◌>>=◌, return, put, AreThere}
use Rattle.net_view.specs.View.{Numbered}
use Rattle.net_words.specs.Bits.{bit, mux}
use Rattle.net_words.specs.Words.{inverted, each, select, reduced_from, reduced}
use Rattle.net_words.specs.Sums.{full_adder, follows, sum}
use Rattle.net_words.specs.Products.{row, rows}
use Rattle.net_words.specs.Comparisons.{lt_bit, lt_from, top_inverted}
use Rattle.net_words.proofs.BuildLemmas.{behind, IsLeft, all_left, bit_first, all_bits, bit_kept, begins_itself}

-- a word is still there in a net that has grown, and so is its next bit
pub still_there : (old new : List Numbered) (word : List ℕ) → AreThere old word → length old ≤ length new → AreThere new word
still_there old new word there longer k d inside = lt_of_lt_of_le (there k d inside) longer

pub one_more : (old new : List Numbered) (word : List ℕ) (n : ℕ) → AreThere old word → length old ≤ length new → n < length new → AreThere new (word ++ n ∷ [])
one_more old new word n there longer inside = All-push (λ n. n < length new) word n (still_there old new word there longer) inside

pub bit_there : (old now : List Numbered) (word : List ℕ) (i a : ℕ) → AreThere old word → length old ≤ length now → i < length word → a ≡ get_or word i a → a < length now
bit_there old now word i a there longer inside is = subst (λ (n : ℕ). n < length now) (sym is) (still_there old now word there longer i a inside)

pub drop_here : (word : List ℕ) (i a : ℕ) → i < length word → a ≡ get_or word i a → drop i word ≡ a ∷ drop (i + 1) word
drop_here word i a inside is = drop-cons word i a inside ∙ (λ j. sym is j ∷ drop (sym (add-one i) j) word)

pub inverted_here : {all : Build (List ℕ)} {old now : List Numbered} (word made : List ℕ) (i a : ℕ) → i < length word → a ≡ get_or word i a
    → IsLeft all old now (behind made (inverted (drop i word))) → IsLeft all old now (put (Not a) >>= (λ n. behind (made ++ n ∷ []) (inverted (drop (i + 1) word))))
unfolding inverted
inverted_here {all} {old} {now} word made i a inside is left =
    bit_first made (put (Not a)) (λ n. n) (λ n. inverted (drop (i + 1) word))
    (subst (λ (w : List ℕ). IsLeft all old now (behind made (inverted w))) (drop_here word i a inside is) left)

pub inverted_whole : {all : Build (List ℕ)} {old now : List Numbered} (word made : List ℕ) (i : ℕ) → length word ≤ i → IsLeft all old now (behind made (inverted (drop i word))) → IsLeft all old now (return made)
unfolding inverted
inverted_whole {all} {old} {now} word made i past left =
    all_bits made (subst (λ (w : List ℕ). IsLeft all old now (behind made (inverted w))) (drop_all i word past) left)

pub each_here : {all : Build (List ℕ)} {old now : List Numbered} (op : Bitwise) (x y made : List ℕ) (i a b : ℕ) → i < length x → i < length y → a ≡ get_or x i a → b ≡ get_or y i b
    → IsLeft all old now (behind made (each op (drop i x) (drop i y))) → IsLeft all old now (bit op a b >>= (λ n. behind (made ++ n ∷ []) (each op (drop (i + 1) x) (drop (i + 1) y))))
unfolding each
each_here {all} {old} {now} op x y made i a b in_x in_y a-is b-is left =
    bit_first made (bit op a b) (λ n. n) (λ n. each op (drop (i + 1) x) (drop (i + 1) y))
    (subst₂ (λ (v w : List ℕ). IsLeft all old now (behind made (each op v w))) (drop_here x i a in_x a-is) (drop_here y i b in_y b-is) left)

pub each_whole : {all : Build (List ℕ)} {old now : List Numbered} (op : Bitwise) (x y made : List ℕ) (i : ℕ) → length x ≤ i → IsLeft all old now (behind made (each op (drop i x) (drop i y))) → IsLeft all old now (return made)
unfolding each
each_whole {all} {old} {now} op x y made i past left =
    all_bits made (subst (λ (w : List ℕ). IsLeft all old now (behind made (each op w (drop i y)))) (drop_all i x past) left)

pub select_here : {all : Build (List ℕ)} {old now : List Numbered} (s : ℕ) (x y made : List ℕ) (i a b : ℕ) → i < length x → i < length y → a ≡ get_or x i a → b ≡ get_or y i b
    → IsLeft all old now (behind made (select s (drop i x) (drop i y))) → IsLeft all old now (mux s a b >>= (λ n. behind (made ++ n ∷ []) (select s (drop (i + 1) x) (drop (i + 1) y))))
unfolding select
select_here {all} {old} {now} s x y made i a b in_x in_y a-is b-is left =
    bit_first made (mux s a b) (λ n. n) (λ n. select s (drop (i + 1) x) (drop (i + 1) y))
    (subst₂ (λ (v w : List ℕ). IsLeft all old now (behind made (select s v w))) (drop_here x i a in_x a-is) (drop_here y i b in_y b-is) left)

pub select_whole : {all : Build (List ℕ)} {old now : List Numbered} (s : ℕ) (x y made : List ℕ) (i : ℕ) → length x ≤ i → IsLeft all old now (behind made (select s (drop i x) (drop i y))) → IsLeft all old now (return made)
unfolding select
select_whole {all} {old} {now} s x y made i past left =
    all_bits made (subst (λ (w : List ℕ). IsLeft all old now (behind made (select s w (drop i y)))) (drop_all i x past) left)

pub reduced_here : {all : Build ℕ} {old now : List Numbered} (op : Bitwise) (found : ℕ) (word : List ℕ) (i a : ℕ) → i < length word → a ≡ get_or word i a
    → IsLeft all old now (reduced_from op found (drop i word)) → IsLeft all old now (bit op found a >>= (λ n. reduced_from op n (drop (i + 1) word)))
unfolding reduced_from
reduced_here {all} {old} {now} op found word i a inside is left = subst (λ (w : List ℕ). IsLeft all old now (reduced_from op found w)) (drop_here word i a inside is) left

pub reduced_whole : {all : Build ℕ} {old now : List Numbered} (op : Bitwise) (found : ℕ) (word : List ℕ) (i : ℕ) → length word ≤ i → IsLeft all old now (reduced_from op found (drop i word)) → IsLeft all old now (return found)
unfolding reduced_from
reduced_whole {all} {old} {now} op found word i past left = subst (λ (w : List ℕ). IsLeft all old now (reduced_from op found w)) (drop_all i word past) left

pub reduced_none : (op : Bitwise) (none : Bool) (word : List ℕ) → length word < 1 → reduced op none word ≡ put (Const none)
unfolding reduced
reduced_none op none [] short = refl
reduced_none op none (a ∷ w) short = absurd (omega (arith, short))

pub reduced_first : (op : Bitwise) (none : Bool) (word : List ℕ) (a : ℕ) → 1 ≤ length word → a ≡ get_or word 0 a → reduced op none word ≡ reduced_from op a (take (length word - 1) (drop 1 word))
unfolding reduced
reduced_first op none [] a long is = absurd (omega (arith, long))
reduced_first op none (b ∷ w) a long is = (λ j. reduced_from op (sym is j) (sym (take_all (length (b ∷ w) - 1) w (omega arith)) j))

follows_true : (x y : List ℕ) (i : ℕ) → length x ≡ length y → i < length x → follows (drop i x) (drop i y) ≡ true
follows_true [] y i width inside = absurd (omega (arith, inside))
follows_true (a ∷ x) [] i width inside = absurd (omega (arith, width))
follows_true (a ∷ x) (b ∷ y) zero width inside = refl
follows_true (a ∷ x) (b ∷ y) (suc i) width inside = follows_true x y i (omega (arith, width)) (omega (arith, inside))

follows_false : (x y : List ℕ) (i : ℕ) → length x ≤ i → follows (drop i x) (drop i y) ≡ false
follows_false x y i past = rw (drop_all i x past) refl

pub follows_is : (x y : List ℕ) (i : ℕ) → length x ≡ length y → follows (drop i x) (drop i y) ≡ nat_lt i (length x)
follows_is x y i width =
    elim (cases_lt i (length x)) [
      | inl inside ↦ follows_true x y i width inside ∙ sym (lt-ltb i (length x) inside)
      | inr past ↦ follows_false x y i past ∙ sym (le-ltb i (length x) past)
    ]

pub sum_here : {all : Build (List ℕ)} {old now : List Numbered} (c : ℕ) (x y made : List ℕ) (i a b : ℕ) → length x ≡ length y → i < length x → a ≡ get_or x i a → b ≡ get_or y i b
    → IsLeft all old now (behind made (sum c (drop i x) (drop i y)))
    → IsLeft all old now (full_adder (nat_lt (i + 1) (length x)) c a b >>= (λ n. behind (made ++ n.0 ∷ []) (sum n.1 (drop (i + 1) x) (drop (i + 1) y))))
unfolding sum
sum_here {all} {old} {now} c x y made i a b width inside a-is b-is left =
    bit_first made (full_adder (nat_lt (i + 1) (length x)) c a b) (λ n. n.0) (λ n. sum n.1 (drop (i + 1) x) (drop (i + 1) y))
    (subst (λ (more : Bool). IsLeft all old now (behind made (full_adder more c a b >>= (λ n. sum n.1 (drop (i + 1) x) (drop (i + 1) y) >>= (λ w. return (n.0 ∷ w)))))) (follows_is x y (i + 1) width)
    (subst₂ (λ (v w : List ℕ). IsLeft all old now (behind made (sum c v w))) (drop_here x i a inside a-is) (drop_here y i b (omega (arith, width, inside)) b-is) left))

pub sum_whole : {all : Build (List ℕ)} {old now : List Numbered} (c : ℕ) (x y made : List ℕ) (i : ℕ) → length x ≤ i → IsLeft all old now (behind made (sum c (drop i x) (drop i y))) → IsLeft all old now (return made)
unfolding sum
sum_whole {all} {old} {now} c x y made i past left =
    all_bits made (subst (λ (w : List ℕ). IsLeft all old now (behind made (sum c w (drop i y)))) (drop_all i x past) left)

pub lt_here : {all : Build ℕ} {old now : List Numbered} (so_far : ℕ) (x y : List ℕ) (i a b : ℕ) → i < length x → i < length y → a ≡ get_or x i a → b ≡ get_or y i b
    → IsLeft all old now (lt_from so_far (drop i x) (drop i y)) → IsLeft all old now (lt_bit so_far a b >>= (λ n. lt_from n (drop (i + 1) x) (drop (i + 1) y)))
unfolding lt_from
lt_here {all} {old} {now} so_far x y i a b in_x in_y a-is b-is left =
    subst₂ (λ (v w : List ℕ). IsLeft all old now (lt_from so_far v w)) (drop_here x i a in_x a-is) (drop_here y i b in_y b-is) left

pub lt_whole : {all : Build ℕ} {old now : List Numbered} (so_far : ℕ) (x y : List ℕ) (i : ℕ) → length x ≤ i → IsLeft all old now (lt_from so_far (drop i x) (drop i y)) → IsLeft all old now (return so_far)
unfolding lt_from
lt_whole {all} {old} {now} so_far x y i past left = subst (λ (w : List ℕ). IsLeft all old now (lt_from so_far w (drop i y))) (drop_all i x past) left

-- the top bit is the last one
top_at : (w : List ℕ) (t a : ℕ) → t + 1 ≡ length w → a ≡ get_or w t a → (gates : List Numbered) → (put (Not a) >>= (λ n. return (set w t n))) gates ≡ top_inverted w gates
unfolding top_inverted ◌>>=◌ return
top_at [] t a top is gates = absurd (omega (arith, top))
top_at (b ∷ []) zero a top is gates = ap (λ m. (put (Not m) >>= (λ n. return (n ∷ []))) gates) is
top_at (b ∷ []) (suc t) a top is gates = absurd (omega (arith, top))
top_at (b ∷ d ∷ w) zero a top is gates = absurd (omega (arith, top))
top_at (b ∷ d ∷ w) (suc t) a top is gates = bit_kept b (λ n. set (d ∷ w) t n) (put (Not a)) gates ∙ ap (λ o. onward o (λ rest gates'. Some (record { gates = gates'; made = b ∷ rest }))) (top_at (d ∷ w) t a (omega (arith, top)) is gates)

pub top_here : (net : List Numbered) (w : List ℕ) (t a : ℕ) → t + 1 ≡ length w → a ≡ get_or w t a → IsLeft (top_inverted w) net net (put (Not a) >>= (λ n. return (set w t n)))
top_here net w t a top is = record { front = begins_itself net; left = top_at w t a top is net }

pub top_of_none : (net : List Numbered) (w : List ℕ) → length w ≡ 0 → IsLeft (top_inverted w) net net (return w)
unfolding top_inverted
top_of_none net [] none = all_left (return []) net
top_of_none net (a ∷ w) none = absurd (omega (arith, none))

pub rows_here : {all : Build (List ℕ)} {old now : List Numbered} (low : ℕ) (so_far x y : List ℕ) (i b : ℕ) → i < length y → b ≡ get_or y i b
    → IsLeft all old now (rows low so_far x i (drop i y)) → IsLeft all old now (row low i b so_far x >>= (λ next. rows low next x (i + 1) (drop (i + 1) y)))
unfolding rows
rows_here {all} {old} {now} low so_far x y i b inside b-is left = subst (λ (w : List ℕ). IsLeft all old now (rows low so_far x i w)) (drop_here y i b inside b-is) left

pub rows_whole : {all : Build (List ℕ)} {old now : List Numbered} (low : ℕ) (so_far x y : List ℕ) (i : ℕ) → length y ≤ i → IsLeft all old now (rows low so_far x i (drop i y)) → IsLeft all old now (return so_far)
unfolding rows
rows_whole {all} {old} {now} low so_far x y i past left = subst (λ (w : List ℕ). IsLeft all old now (rows low so_far x i w)) (drop_all i y past) left

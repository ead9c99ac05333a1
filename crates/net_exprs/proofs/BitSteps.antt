-- Serves src/constants.rt, src/extensions.rt and src/operators.rt: the bits of a number, and words in a context.
use Rattle.std.proofs.Common.{◌≡◌, ◌==◌, ℕ, zero, suc, ◌+◌, ◌-◌, ◌/◌, ◌<◌, ◌≤◌, Bool, true, false, ne_eqb, lt-ltb, le-ltb, All, List, [], ◌∷◌, ◌++◌, length, take, replicate, get_or, refl, sym, ap, subst, ◌∙◌, arith}
use Rattle.std.proofs.lemmas.List.Elements.{All-nil, All-append}
use Rattle.rdc_tern.specs.declared.value.Tern.{Tern}
use Rattle.rdc_tern.specs.Words.{inverted}
use Rattle.vlog_const.specs.declared.shape.Shape.{Shape}
use Rattle.net_view.specs.View.{Numbered}
use Rattle.net_view.specs.declared.gate.Gate.TheVariants.{Const}
use Rattle.design_form.proofs.WordLemmas.{bits-more, bits-end}
use Rattle.net_words.specs.Builds.{Build, ◌>>=◌, return, put}
use Rattle.net_words.specs.Shifts.{top_of, sar}
use Rattle.net_words.proofs.BuildLemmas.{behind, IsLeft, all_left, bit_first, all_bits}
use Rattle.net_exprs.specs.Constants.{is_one, lowest_bit, start_bits, constants}
use Rattle.net_exprs.specs.Extensions.{fill, extended, extended_if, copies}
use Rattle.net_exprs.specs.Operators.{between, filled}
use Rattle.vlog_tree.specs.declared.operator.Binary.{Binary}
use Rattle.vlog_tree.specs.declared.operator.Binary.TheVariants as binary
use Rattle.vlog_const.specs.declared.shape.Family.TheVariants.{Compared}
use Rattle.vlog_const.specs.Widths.{family_of}

bits_here : (inverse : Bool) (w i n : ℕ) → i < w → start_bits inverse n (w - i) ≡ lowest_bit inverse n ∷ start_bits inverse (n / 2) (w - (i + 1))
bits_here true w i n less = ap inverted (bits-more w i n less)
bits_here false w i n less = bits-more w i n less

bits_gone : (inverse : Bool) (w i n : ℕ) → w ≤ i → start_bits inverse n (w - i) ≡ []
bits_gone true w i n past = ap inverted (bits-end w i n past)
bits_gone false w i n past = bits-end w i n past

-- one bit of a number
pub constants_here : {all : Build (List ℕ)} {old now : List Numbered} (inverse : Bool) (w i n : ℕ) (made : List ℕ) → i < w
    → IsLeft all old now (behind made (constants (start_bits inverse n (w - i))))
    → IsLeft all old now (put (Const (is_one (lowest_bit inverse n))) >>= (λ b. behind (made ++ b ∷ []) (constants (start_bits inverse (n / 2) (w - (i + 1))))))
unfolding constants
constants_here {all} {old} {now} inverse w i n made less left =
    bit_first made (put (Const (is_one (lowest_bit inverse n)))) (λ b. b) (λ b. constants (start_bits inverse (n / 2) (w - (i + 1))))
    (subst (λ (t : List Tern). IsLeft all old now (behind made (constants t))) (bits_here inverse w i n less) left)

pub constants_whole : {all : Build (List ℕ)} {old now : List Numbered} (inverse : Bool) (w i n : ℕ) (made : List ℕ) → w ≤ i
    → IsLeft all old now (behind made (constants (start_bits inverse n (w - i)))) → IsLeft all old now (return made)
unfolding constants
constants_whole {all} {old} {now} inverse w i n made past left =
    all_bits made (subst (λ (t : List Tern). IsLeft all old now (behind made (constants t))) (bits_gone inverse w i n past) left)

-- ---- words in a context

get_alike : (w : List ℕ) (i d e : ℕ) → i < length w → get_or w i d ≡ get_or w i e
get_alike [] i d e inside = absurd (omega (arith, inside))
get_alike (a ∷ w) zero d e inside = refl
get_alike (a ∷ w) (suc i) d e inside = get_alike w i d e (omega (arith, inside))

pub top_there : (word : List ℕ) (n : ℕ) → 1 ≤ length word → n ≡ get_or word (length word - 1) n → n ≡ top_of word
top_there word n some is = is ∙ get_alike word (length word - 1) n 0 (omega (arith, some))

pub fill_top : (net : List Numbered) (signed : Bool) (word : List ℕ) (n : ℕ) → signed ≡ true → 1 ≤ length word → n ≡ get_or word (length word - 1) n → IsLeft (fill signed word) net net (return n)
unfolding fill
fill_top net true (a ∷ w) n sign some is = subst (λ (m : ℕ). IsLeft (return (top_of (a ∷ w))) net net (return m)) (sym (top_there (a ∷ w) n some is)) (all_left (return (top_of (a ∷ w))) net)
fill_top net true [] n sign some is = absurd (omega (arith, some))
fill_top net false word n sign some is = absurd cc

pub fill_none : (signed : Bool) (word : List ℕ) → (signed ≡ true → 1 ≤ length word → ⊥) → fill signed word ≡ put (Const false)
unfolding fill
fill_none true [] none = refl
fill_none true (a ∷ w) none = absurd (none refl (omega arith))
fill_none false word none = refl

pub extended_cut : (net : List Numbered) (c : Shape) (word : List ℕ) → c.width ≤ length word → IsLeft (extended c word) net net (return (take c.width word))
unfolding extended extended_if
extended_cut net c word cut = subst (λ (b : Bool). IsLeft (extended_if b c word) net net (return (take c.width word))) (sym (le-ltb (length word) c.width cut)) (all_left (return (take c.width word)) net)

pub extended_more : (net : List Numbered) (c : Shape) (word : List ℕ) → length word < c.width
    → IsLeft (extended c word) net net (fill c.signed word >>= (λ f. return (take c.width word ++ replicate (c.width - length word) f)))
unfolding extended extended_if
extended_more net c word more =
    subst (λ (b : Bool). IsLeft (extended_if b c word) net net (fill c.signed word >>= (λ f. return (take c.width word ++ replicate (c.width - length word) f)))) (sym (lt-ltb (length word) c.width more))
    (all_left (extended_if true c word) net)

pub copies_empty : (n : ℕ) (w : List ℕ) → length w ≡ 0 → copies n w ≡ []
unfolding copies
copies_empty zero w none = refl
copies_empty (suc n) [] none = copies_empty n [] none
copies_empty (suc n) (a ∷ w) none = absurd (omega (arith, none))

-- ---- `>>>`

pub right_none : (net : List Numbered) (w amount : List ℕ) → length w ≡ 0 → IsLeft (filled w amount) net net (return w)
unfolding filled
right_none net [] amount none = all_left (return []) net
right_none net (a ∷ w) amount none = absurd (omega (arith, none))

pub filled_some : (w amount : List ℕ) → 0 < length w → filled w amount ≡ sar w amount
unfolding filled
filled_some [] amount some = absurd (omega (arith, some))
filled_some (a ∷ w) amount some = refl

-- only where values are compared their sign tells
pub sign_told : (op : Binary) (s t : Bool) (c : Shape) (x y : List ℕ) → (family_of op ≡ Compared → ⊥) → between op s c x y ≡ between op t c x y
unfolding between family_of
sign_told binary.Power s t c x y other = refl
sign_told binary.Multiply s t c x y other = refl
sign_told binary.Divide s t c x y other = refl
sign_told binary.Remainder s t c x y other = refl
sign_told binary.Add s t c x y other = refl
sign_told binary.Subtract s t c x y other = refl
sign_told binary.ShiftLeft s t c x y other = refl
sign_told binary.ShiftRight s t c x y other = refl
sign_told binary.ArithmeticShiftLeft s t c x y other = refl
sign_told binary.ArithmeticShiftRight s t c x y other = refl
sign_told binary.Less s t c x y other = absurd (other refl)
sign_told binary.AtMost s t c x y other = absurd (other refl)
sign_told binary.Greater s t c x y other = absurd (other refl)
sign_told binary.AtLeast s t c x y other = absurd (other refl)
sign_told binary.Equal s t c x y other = absurd (other refl)
sign_told binary.NotEqual s t c x y other = absurd (other refl)
sign_told binary.CaseEqual s t c x y other = absurd (other refl)
sign_told binary.CaseNotEqual s t c x y other = absurd (other refl)
sign_told binary.And s t c x y other = refl
sign_told binary.Xor s t c x y other = refl
sign_told binary.Xnor s t c x y other = refl
sign_told binary.Or s t c x y other = refl
sign_told binary.LogicalAnd s t c x y other = refl
sign_told binary.LogicalOr s t c x y other = refl

-- ---- tests

pub not_empty : (n : ℕ) (b : Bool) → b ≡ (n == 0) → b ≡ false → 1 ≤ n
not_empty zero b is test = absurd cc
not_empty (suc n) b is test = omega arith

pub empty : (n : ℕ) (b : Bool) → b ≡ (n == 0) → b ≡ true → n ≡ 0
empty zero b is test = refl
empty (suc n) b is test =
    let other : (suc n == 0) ≡ false = ne_eqb (suc n) 0 (λ e. omega (arith, e)) in
    absurd cc

pub copies_there : (n : ℕ) (w : List ℕ) (limit : ℕ) → All (λ k. k < limit) w → All (λ k. k < limit) (copies n w)
unfolding copies
copies_there zero w limit there = All-nil (λ k. k < limit)
copies_there (suc n) w limit there = All-append (λ k. k < limit) w (copies n w) there (copies_there n w limit there)

pub copies-more : (n k : ℕ) (w : List ℕ) → k < n → copies (n - k) w ≡ w ++ copies (n - (k + 1)) w
unfolding copies
copies-more n k w h =
    let e : n - k ≡ suc (n - (k + 1)) = omega arith in
    ap (λ (m : ℕ). copies m w) e

pub copies-end : (n k : ℕ) (w : List ℕ) → n ≤ k → copies (n - k) w ≡ []
unfolding copies
copies-end n k w h =
    let e : n - k ≡ zero = omega arith in
    ap (λ (m : ℕ). copies m w) e

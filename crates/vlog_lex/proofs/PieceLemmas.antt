-- One piece stands in front of a text, and where one does nothing is broken.
use Rattle.std.proofs.Common.{◌≡◌, ℕ, List, get_or, subst, sym, ap, ◌∙◌, refl, arith, ⊎_elim}
use Rattle.std.specs.Prelude.{Result, Ok, Err, IfOk, IfErr, [], ◌∷◌, length}
use Rattle.vlog_lex.specs.Bytes.{is_letter, is_blank, is_digit}
use Rattle.vlog_lex.specs.Marks.{is_single}
use Rattle.vlog_lex.specs.declared.tokens.Kind.{Kind}
use Rattle.vlog_lex.specs.declared.piece.Piece.{Piece}
use Rattle.vlog_lex.specs.declared.piece.Piece.TheVariants.{One}
use Rattle.vlog_lex.specs.declared.piece.Broken.{Broken}
use Rattle.vlog_lex.specs.declared.piece.Lead.{Lead}
use Rattle.vlog_lex.specs.declared.piece.Lead.TheVariants.{Blank, Slash, Letter, Dollar, Backslash, Digit, Quote, Sign, Other}
use Rattle.vlog_lex.specs.Longest.{IsLongest}
use Rattle.vlog_lex.specs.Pieces.{lead_of, ascii_in, IsOne, IsOneOfAscii, HasNone, HasOtherByte, IsAfterLead, BreaksAfterLead, IsSimple, Breaks, slash_at, digit_at}

-- what stands behind the first byte's lead stands in front
pub stands : (lead : Lead) (bs : List ℕ) (p : Piece) → lead ≡ lead_of (get_or bs 0 0) → IsAfterLead lead bs p → IsSimple bs p
stands lead bs p is after = subst (λ (l : Lead). IsAfterLead l bs p) is after

pub breaks : (lead : Lead) (bs : List ℕ) (f : Broken) → lead ≡ lead_of (get_or bs 0 0) → BreaksAfterLead lead bs f → Breaks bs f
breaks lead bs f is after = subst (λ (l : Lead). BreaksAfterLead l bs f) is after

pub all_stand : (lead : Lead) (bs : List ℕ) (r : Result Piece Broken) → lead ≡ lead_of (get_or bs 0 0) → IfOk r (IsAfterLead lead bs) → IfOk r (IsSimple bs)
all_stand lead bs r is after = subst (λ (l : Lead). IfOk r (IsAfterLead l bs)) is after

pub all_break : (lead : Lead) (bs : List ℕ) (r : Result Piece Broken) → lead ≡ lead_of (get_or bs 0 0) → IfErr r (BreaksAfterLead lead bs) → IfErr r (Breaks bs)
all_break lead bs r is after = subst (λ (l : Lead). IfErr r (BreaksAfterLead l bs)) is after

-- an exact result says which of both it is
pub ok_result : (r s : Result Piece Broken) → r ≡ s → IfOk r (λ p. s ≡ Ok p)
ok_result (Ok p) s is = sym is
ok_result (Err f) s is = tt

pub err_result : (r s : Result Piece Broken) → r ≡ s → IfErr r (λ f. s ≡ Err f)
err_result (Ok p) s is = tt
err_result (Err f) s is = sym is

-- nothing stands in front of an empty text
nothing_leads : lead_of 0 ≡ Other
unfolding lead_of is_letter is_blank is_digit is_single
nothing_leads = refl

pub nothing : (bs : List ℕ) (p : Piece) → length bs ≡ 0 → IsSimple bs p → ⊥
unfolding IsAfterLead
nothing [] p none is = subst (λ (l : Lead). IsAfterLead l [] p) nothing_leads is
nothing (b ∷ bs) p none is = omega arith

-- a text has one longest front of a kind
pub one_longest : {P : List ℕ → Type 0} {bs : List ℕ} (m n : ℕ) → IsLongest P bs m → IsLongest P bs n → m ≡ n
one_longest m n is also = omega (arith, is.longest n also.within also.whole, also.longest m is.within is.whole)

one_of : (P : List ℕ → Type 0) (kind : Kind) (bs : List ℕ) (p q : Piece) → IsOne P kind bs p → IsOne P kind bs q → p ≡ q
one_of P kind bs p q is also =
    let same : is.count ≡ also.count = one_longest is.count also.count is.longest also.longest in
    is.piece ∙ ap (λ (n : ℕ). One kind n) same ∙ sym also.piece

one_of_ascii : (P : List ℕ → Type 0) (kind : Kind) (bs : List ℕ) (p q : Piece) → IsOneOfAscii P kind bs p → IsOneOfAscii P kind bs q → p ≡ q
one_of_ascii P kind bs p q is also =
    let same : is.count ≡ also.count = one_longest is.count also.count is.longest also.longest in
    is.piece ∙ ap (λ (n : ℕ). One kind n) same ∙ sym also.piece

same_result : (r : Result Piece Broken) (p q : Piece) → r ≡ Ok p → r ≡ Ok q → p ≡ q
same_result r p q is also = cc

one_after : (lead : Lead) (bs : List ℕ) (p q : Piece) → IsAfterLead lead bs p → IsAfterLead lead bs q → p ≡ q
unfolding IsAfterLead
one_after Blank bs p q is also = is ∙ sym also
one_after Slash bs p q is also = same_result (slash_at bs) p q is also
one_after Letter bs p q is also = one_of _ _ bs p q is also
one_after Dollar bs p q is also = one_of _ _ bs p q is also
one_after Backslash bs p q is also = one_of_ascii _ _ bs p q is also
one_after Digit bs p q is also = same_result (digit_at bs) p q is also
one_after Quote bs p q is also = one_of_ascii _ _ bs p q is also
one_after Sign bs p q is also = one_of _ _ bs p q is also
one_after Other bs p q is also = absurd is

-- a text has one piece in front
pub one_simple : (bs : List ℕ) (p q : Piece) → IsSimple bs p → IsSimple bs q → p ≡ q
one_simple bs p q is also = one_after (lead_of (get_or bs 0 0)) bs p q is also

not_none : (P : List ℕ → Type 0) (kind : Kind) (why : Broken) (bs : List ℕ) (p : Piece) (f : Broken) → IsOne P kind bs p → HasNone P why bs f → ⊥
not_none P kind why bs p f is none = none.none is.count is.longest

not_none_of_ascii : (P : List ℕ → Type 0) (kind : Kind) (why : Broken) (bs : List ℕ) (p : Piece) (f : Broken) → IsOneOfAscii P kind bs p → HasNone P why bs f → ⊥
not_none_of_ascii P kind why bs p f is none = none.none is.count is.longest

not_other : (P : List ℕ → Type 0) (kind : Kind) (bs : List ℕ) (p : Piece) (f : Broken) → IsOneOfAscii P kind bs p → HasOtherByte P bs f → ⊥
not_other P kind bs p f is other =
    let same : is.count ≡ other.count = one_longest is.count other.count is.longest other.longest in
    let here : ascii_in is.count bs ≡ ascii_in other.count bs = ap (λ (n : ℕ). ascii_in n bs) same in
    omega (arith, is.ascii, other.early)

not_result : (r : Result Piece Broken) (p : Piece) (f : Broken) → r ≡ Ok p → r ≡ Err f → ⊥
not_result r p f is also = cc

not_after : (lead : Lead) (bs : List ℕ) (p : Piece) (f : Broken) → IsAfterLead lead bs p → BreaksAfterLead lead bs f → ⊥
unfolding IsAfterLead BreaksAfterLead
not_after Blank bs p f is broken = broken
not_after Slash bs p f is broken = not_result (slash_at bs) p f is broken
not_after Letter bs p f is broken = broken
not_after Dollar bs p f is broken = not_none _ _ _ bs p f is broken
not_after Backslash bs p f is broken = ⊎_elim (λ none. not_none_of_ascii _ _ _ bs p f is none) (λ other. not_other _ _ bs p f is other) broken
not_after Digit bs p f is broken = not_result (digit_at bs) p f is broken
not_after Quote bs p f is broken = ⊎_elim (λ none. not_none_of_ascii _ _ _ bs p f is none) (λ other. not_other _ _ bs p f is other) broken
not_after Sign bs p f is broken = broken
not_after Other bs p f is broken = is

-- where a piece stands nothing is broken
pub not_broken : (bs : List ℕ) (p : Piece) (f : Broken) → IsSimple bs p → Breaks bs f → ⊥
not_broken bs p f is broken = not_after (lead_of (get_or bs 0 0)) bs p f is broken

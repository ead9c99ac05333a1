-- An attribute, part by part: each has one way to go on, and one to end.
use Rattle.std.proofs.Common.{◌≡◌, ℕ, ◌+◌, Bool, true, false, IsTrue, List, drop, get_or, Some, refl, sym, ap, subst, ◌∙◌, arith}
use Rattle.std.specs.Prelude.{◌&&◌, ◌==◌}
use Rattle.vlog_lex.specs.declared.tokens.Kind.TheVariants.{Mark}
use Rattle.vlog_lex.specs.declared.piece.Piece.{Piece}
use Rattle.vlog_lex.specs.declared.piece.Piece.TheVariants.{One}
use Rattle.vlog_lex.specs.declared.piece.Lead.{Lead}
use Rattle.vlog_lex.specs.declared.piece.Lead.TheVariants.{Sign}
use Rattle.vlog_lex.specs.declared.piece.Part.{Part}
use Rattle.vlog_lex.specs.declared.piece.Part.TheVariants.{BeforeName, AfterName, BeforeValue, AfterValue}
use Rattle.std.proofs.lemmas.Bool.{eqb-true}
use Rattle.vlog_lex.specs.Bytes.{is_letter, is_blank, is_digit}
use Rattle.vlog_lex.specs.Marks.{is_single, IsMark}
use Rattle.vlog_lex.specs.Pieces.{lead_of, len_of, IsOne, IsAfterLead}
use Rattle.vlog_lex.specs.Attributes.{part_after, may_end, ends_at, GoesOn, IsAttributeFrom, ends, goes}
use Rattle.vlog_lex.proofs.PieceLemmas.{one_simple}

star_leads : lead_of 42 ≡ Sign
unfolding lead_of is_letter is_blank is_digit is_single
star_leads = refl

-- a mark that begins with `*` leads nowhere
star_stops : (part next : Part) (n : ℕ) → part_after part (One Mark n) 42 ≡ Some next → ⊥
unfolding part_after
star_stops BeforeName next n leads = cc
star_stops AfterName next n leads = cc
star_stops BeforeValue next n leads = cc
star_stops AfterValue next n leads = cc

left_of : (a b : Bool) → IsTrue (a && b) → IsTrue a
left_of true b is = refl
left_of false b is = is

-- where an attribute ends its text begins with `*`
end_begins : (part : Part) (bs : List ℕ) → IsTrue (ends_at part bs) → get_or bs 0 0 ≡ 42
unfolding ends_at may_end
end_begins BeforeName bs end = absurd cc
end_begins AfterName bs end = eqb-true _ _ (left_of (get_or bs 0 0 == 42) (get_or bs 1 0 == 41) end)
end_begins BeforeValue bs end = absurd cc
end_begins AfterValue bs end = eqb-true _ _ (left_of (get_or bs 0 0 == 42) (get_or bs 1 0 == 41) end)

-- where an attribute ends nothing of it goes on
pub end_stops : (part next : Part) (bs : List ℕ) (count : ℕ) → IsTrue (ends_at part bs) → GoesOn part bs next count → ⊥
unfolding IsAfterLead
end_stops part next bs count end on =
    let first : get_or bs 0 0 ≡ 42 = end_begins part bs end in
    let one : IsOne IsMark Mark bs on.piece = subst (λ (l : Lead). IsAfterLead l bs on.piece) (ap lead_of first ∙ star_leads) on.stands in
    star_stops part next one.count (ap (λ (p : Piece). part_after part p 42) (sym one.piece) ∙ ap (λ (b : ℕ). part_after part on.piece b) (sym first) ∙ on.leads)

-- there is one way to go on
pub one_step : (part : Part) (bs : List ℕ) (next other : Part) (m n : ℕ) → GoesOn part bs next m → GoesOn part bs other n → (next ≡ other) × (m ≡ n)
one_step part bs next other m n on also =
    let same : on.piece ≡ also.piece = one_simple bs on.piece also.piece on.stands also.stands in
    let led = on.leads in
    let leads = also.leads in
    let here : part_after part on.piece (get_or bs 0 0) ≡ Some other = ap (λ (p : Piece). part_after part p (get_or bs 0 0)) same ∙ leads in
    (cc, on.size ∙ ap len_of same ∙ sym also.size)

-- one more piece: what completes the attribute
pub sound_more : (part next : Part) (bs rest : List ℕ) (start : List ℕ) (at count : ℕ) → GoesOn part bs next count → rest ≡ drop count bs → ((m : ℕ) → IsAttributeFrom part bs m → IsAttributeFrom BeforeName start (at + m)) → (m : ℕ) → IsAttributeFrom next rest m → IsAttributeFrom BeforeName start (at + count + m)
sound_more part next bs rest start at count on is sound m more =
    let longer : IsAttributeFrom BeforeName start (at + (count + m)) = sound (count + m) (goes next count m on (subst (λ (r : List ℕ). IsAttributeFrom next r m) is more) refl) in
    let regroup : at + (count + m) ≡ at + count + m = omega arith in
    subst (λ (n : ℕ). IsAttributeFrom BeforeName start n) regroup longer

-- one more piece: the attribute has no other
pub complete_more : (part next : Part) (bs rest : List ℕ) (n count : ℕ) → GoesOn part bs next count → rest ≡ drop count bs → IsAttributeFrom part bs n → (m : ℕ) × IsAttributeFrom next rest m
complete_more part next bs rest n count on is (ends end size) = absurd (end_stops part next bs count end on)
complete_more part next bs rest n count on is (goes other many m also more size) =
    let same = one_step part bs next other count many on also in
    let left : IsAttributeFrom next (drop many bs) m = subst (λ (p : Part). IsAttributeFrom p (drop many bs) m) (sym same.0) more in
    let here : IsAttributeFrom next (drop count bs) m = subst (λ (k : ℕ). IsAttributeFrom next (drop k bs) m) (sym same.1) left in
    (m, subst (λ (r : List ℕ). IsAttributeFrom next r m) (sym is) here)

-- where it neither ends nor goes on there is none
pub none_from : (part : Part) (bs : List ℕ) (n : ℕ) → ends_at part bs ≡ false → ((next : Part) (count : ℕ) → GoesOn part bs next count → ⊥) → IsAttributeFrom part bs n → ⊥
none_from part bs n unended none (ends end size) = cc
none_from part bs n unended none (goes next count m on more size) = none next count on

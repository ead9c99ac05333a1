-- Serves specs/Shifts.antt: one more place of a word that moves, and one more bit of an amount.
use Rattle.std.proofs.Common.{◌≡◌, ℕ, suc, ◌+◌, ◌^◌, ◌<◌, ◌≤◌, min, All, List, [], ◌∷◌, ◌++◌, length, take, drop, get_or, replicate, refl, sym, ap, ◌∙◌, subst, inl, inr, arith}
use Rattle.std.proofs.lemmas.Bool.{cases_lt}
use Rattle.std.proofs.lemmas.Nat.{pow-add}
use Rattle.std.proofs.lemmas.List.{drop_more, drop_all, get_or-drop, length-append, length-replicate, length-take, take_more, take-append-le, take-replicate, get_or_past, get_or_default, append_assoc, append-nil}
use Rattle.std.proofs.lemmas.List.Elements.{All-cons, All-tail, All-take, All-append, All-replicate}
use Rattle.net_words.specs.declared.shifts.Toward.{Toward}
use Rattle.net_words.specs.declared.shifts.Toward.TheVariants.{Top, Bottom}
use Rattle.net_view.specs.View.{Numbered}
use Rattle.net_words.specs.Builds.{Build, ◌>>=◌, return, AreThere}
use Rattle.net_words.specs.Words.{select}
use Rattle.net_words.specs.Shifts.{raised, lowered, moved, shift_from}
use Rattle.net_words.proofs.BuildLemmas.{IsLeft}
use Rattle.net_words.proofs.WordSteps.{drop_here}

pub raised_more : (fill : ℕ) (n : ℕ) (w made : List ℕ) (i a : ℕ) → i < length w → a ≡ get_or (replicate n fill ++ w) i fill → made ≡ take i (replicate n fill ++ w) → made ++ a ∷ [] ≡ take (i + 1) (replicate n fill ++ w)
raised_more fill n w made i a inside a-is made-is =
    let all = length-append (replicate n fill) w in
    (λ j. made-is j ++ a-is j ∷ []) ∙ sym (take_more (replicate n fill ++ w) i fill (omega (arith, all)))

pub lowered_more : (fill : ℕ) (n : ℕ) (w made whole : List ℕ) (i a : ℕ) → i < length w → a ≡ get_or w (i + n) fill → made ++ lowered fill n (drop i w) ≡ whole → (made ++ a ∷ []) ++ lowered fill n (drop (i + 1) w) ≡ whole
lowered_more fill n w made whole i a inside a-is left =
    let rest : drop i w ≡ get_or w i 0 ∷ drop (i + 1) w = drop_more w i 0 inside in
    let read : get_or (get_or w i 0 ∷ drop (i + 1) w) n fill ≡ a = ap (λ (t : List ℕ). get_or t n fill) (sym rest) ∙ get_or-drop i w n fill ∙ sym a-is in
    append_assoc made (a ∷ []) (lowered fill n (drop (i + 1) w))
    ∙ ap (λ (b : ℕ). made ++ (b ∷ lowered fill n (drop (i + 1) w))) (sym read)
    ∙ ap (λ (t : List ℕ). made ++ lowered fill n t) (sym rest) ∙ left

pub lowered_whole : (fill : ℕ) (n : ℕ) (w made whole : List ℕ) (i : ℕ) → length w ≤ i → made ++ lowered fill n (drop i w) ≡ whole → made ≡ whole
lowered_whole fill n w made whole i past left = sym (append-nil made) ∙ ap (λ (t : List ℕ). made ++ lowered fill n t) (sym (drop_all i w past)) ∙ left

length-raised : (fill : ℕ) (n : ℕ) (w : List ℕ) → length (raised fill n w) ≡ length w
length-raised fill n w = omega (arith, length-take (length w) (replicate n fill ++ w), length-append (replicate n fill) w, length-replicate n fill)

length-lowered : (fill : ℕ) (n : ℕ) (w : List ℕ) → length (lowered fill n w) ≡ length w
length-lowered fill n [] = refl
length-lowered fill n (a ∷ w) = ap (λ (k : ℕ). suc k) (length-lowered fill n w)

pub length-moved : (toward : Toward) (fill : ℕ) (n : ℕ) (w : List ℕ) → length (moved toward fill n w) ≡ length w
length-moved Top fill n w = length-raised fill n w
length-moved Bottom fill n w = length-lowered fill n w

lowered_past : (fill : ℕ) (n : ℕ) (w : List ℕ) → length w ≤ n → lowered fill n w ≡ replicate (length w) fill
lowered_past fill n [] past = refl
lowered_past fill n (a ∷ w) past = ap (λ (b : ℕ). b ∷ lowered fill n w) (get_or_past (a ∷ w) n fill past) ∙ ap (λ (t : List ℕ). fill ∷ t) (lowered_past fill n w (omega arith))

raised_past : (fill : ℕ) (n : ℕ) (w : List ℕ) → length w ≤ n → raised fill n w ≡ replicate (length w) fill
raised_past fill n w past =
    let fills = length-replicate n fill in
    take-append-le (length w) (replicate n fill) w (omega arith) ∙ take-replicate (length w) n fill past

moved_past : (toward : Toward) (fill : ℕ) (n : ℕ) (w : List ℕ) → length w ≤ n → moved toward fill n w ≡ replicate (length w) fill
moved_past Top fill n w past = raised_past fill n w past
moved_past Bottom fill n w past = lowered_past fill n w past

-- past the width one distance is like another
pub moved_far : (toward : Toward) (fill : ℕ) (n m : ℕ) (w : List ℕ) → min n (length w) ≡ min m (length w) → moved toward fill n w ≡ moved toward fill m w
moved_far toward fill n m w same = elim (cases_lt n (length w)) [
  | inl here ↦ let is : n ≡ m = omega arith in ap (λ (k : ℕ). moved toward fill k w) is
  | inr past ↦ moved_past toward fill n w past ∙ sym (moved_past toward fill m w (omega arith))
]

-- each bit of a word that moves is one of the word's, or the fill
get_there : (bound fill : ℕ) (w : List ℕ) (n : ℕ) → fill < bound → All (λ k. k < bound) w → get_or w n fill < bound
get_there bound fill w n low there = elim (cases_lt n (length w)) [
  | inl here ↦ there n fill here
  | inr past ↦ subst (λ (k : ℕ). k < bound) (sym (get_or_past w n fill past)) low
]

lowered_there : (bound fill : ℕ) (n : ℕ) (w : List ℕ) → fill < bound → All (λ k. k < bound) w → All (λ k. k < bound) (lowered fill n w)
lowered_there bound fill n [] low there = there
lowered_there bound fill n (a ∷ w) low there =
    All-cons (λ k. k < bound) (get_or (a ∷ w) n fill) (lowered fill n w) (get_there bound fill (a ∷ w) n low there) (lowered_there bound fill n w low (All-tail (λ k. k < bound) a w there))

raised_there : (bound fill : ℕ) (n : ℕ) (w : List ℕ) → fill < bound → All (λ k. k < bound) w → All (λ k. k < bound) (raised fill n w)
raised_there bound fill n w low there = All-take (λ k. k < bound) (length w) (replicate n fill ++ w) (All-append (λ k. k < bound) (replicate n fill) w (All-replicate (λ k. k < bound) n fill low) there)

pub moved_there : (net : List Numbered) (toward : Toward) (fill : ℕ) (n : ℕ) (w : List ℕ) → fill < length net → AreThere net w → AreThere net (moved toward fill n w)
moved_there net Top fill n w low there = raised_there (length net) fill n w low there
moved_there net Bottom fill n w low there = lowered_there (length net) fill n w low there

pub shift_here : {all : Build (List ℕ)} {old now : List Numbered} (toward : Toward) (fill : ℕ) (w far amount : List ℕ) (i n b : ℕ) → i < length amount → b ≡ get_or amount i b
    → min n (length w) ≡ min (2 ^ i) (length w) → far ≡ moved toward fill n w
    → IsLeft all old now (shift_from toward fill i w (drop i amount)) → IsLeft all old now (select b far w >>= (λ next. shift_from toward fill (i + 1) next (drop (i + 1) amount)))
unfolding shift_from
shift_here {all} {old} {now} toward fill w far amount i n b inside b-is same far-is left =
    subst (λ (v : List ℕ). IsLeft all old now (select b v w >>= (λ next. shift_from toward fill (i + 1) next (drop (i + 1) amount)))) (sym (far-is ∙ moved_far toward fill n (2 ^ i) w same))
    (subst (λ (v : List ℕ). IsLeft all old now (shift_from toward fill i w v)) (drop_here amount i b inside b-is) left)

pub shift_whole : {all : Build (List ℕ)} {old now : List Numbered} (toward : Toward) (fill : ℕ) (w amount : List ℕ) (i : ℕ) → length amount ≤ i → IsLeft all old now (shift_from toward fill i w (drop i amount)) → IsLeft all old now (return w)
unfolding shift_from
shift_whole {all} {old} {now} toward fill w amount i past left = subst (λ (v : List ℕ). IsLeft all old now (shift_from toward fill i w v)) (drop_all i amount past) left

pub twice : (m n w v i : ℕ) → v ≡ w → min n w ≡ min (2 ^ i) w → min m w ≡ min (n + n) w → min m v ≡ min (2 ^ (i + 1)) v
twice m n w v i wide same doubled = omega (arith, pow-add 2 i 1)

pub get_alike : (w : List ℕ) (i d e : ℕ) → i < length w → get_or w i d ≡ get_or w i e
get_alike w i d e inside = get_or_default w i d e inside

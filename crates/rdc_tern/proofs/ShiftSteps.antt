-- Serves specs/Shifts.antt: one more place of a word that moves, and one more bit of an amount.
use Rattle.std.proofs.Common.{◌≡◌, ℕ, suc, ◌+◌, ◌-◌, ◌^◌, ◌<◌, ◌≤◌, min, List, [], ◌∷◌, ◌++◌, length, take, drop, get_or, set, replicate, refl, sym, ap, ◌∙◌, inl, inr, append_assoc, arith}
use Rattle.std.proofs.lemmas.Nat.{pow-add}
use Rattle.std.proofs.lemmas.Bool.{cases_lt}
use Rattle.std.proofs.lemmas.List.{drop_more, take_more_set, drop-set-lt, drop_all, take_all, append-nil, length-take-le, get_or-drop, length-append, length-replicate, take_more, take-append-le, take-set, drop-set, get_or_append_left, get_or-append_right, get_or_past, get_or-take, length-take, take-replicate}
use Rattle.rdc_tern.specs.declared.value.Tern.{Tern}
use Rattle.rdc_tern.specs.declared.value.Tern.TheVariants.{Zero}
use Rattle.rdc_tern.specs.Kleene.{mux_of}
use Rattle.rdc_tern.specs.Shifts.{raised, lowered, select_of, shift_of}

lower_more : (bit fill : Tern) (n : ℕ) (w : List Tern) (i : ℕ) (e : Tern) → i < length w
    → select_of bit (lowered fill n (drop i w)) (drop i w) ≡ mux_of bit (get_or w (i + n) fill) (get_or w i e) ∷ select_of bit (lowered fill n (drop (i + 1) w)) (drop (i + 1) w)
lower_more bit fill n w i e p =
    let rest : drop i w ≡ get_or w i e ∷ drop (i + 1) w = drop_more w i e p in
    let read : get_or (get_or w i e ∷ drop (i + 1) w) n fill ≡ get_or w (i + n) fill = ap (λ (t : List Tern). get_or t n fill) (sym rest) ∙ get_or-drop i w n fill in
    ap (λ (t : List Tern). select_of bit (lowered fill n t) t) rest ∙ ap (λ (a : Tern). mux_of bit a (get_or w i e) ∷ select_of bit (lowered fill n (drop (i + 1) w)) (drop (i + 1) w)) read

-- a place of a word that moves down is written
pub lower_written : (bit fill : Tern) (n : ℕ) (w : List Tern) (i : ℕ) (e v : Tern) (whole : List Tern) → i < length w → v ≡ mux_of bit (get_or w (i + n) fill) (get_or w i e)
    → take i w ++ select_of bit (lowered fill n (drop i w)) (drop i w) ≡ whole
    → take (i + 1) (set w i v) ++ select_of bit (lowered fill n (drop (i + 1) (set w i v))) (drop (i + 1) (set w i v)) ≡ whole
lower_written bit fill n w i e v whole p v-is before =
    let front : take (i + 1) (set w i v) ≡ take i w ++ v ∷ [] = take_more_set w i v p in
    let rest : drop (i + 1) (set w i v) ≡ drop (i + 1) w = drop-set-lt (i + 1) w i v (omega arith) in
    let more = lower_more bit fill n w i e p in
    rw (front, rest, append_assoc, v-is) (rw more at before)

pub lower_whole : (bit fill : Tern) (n : ℕ) (w : List Tern) (i : ℕ) (whole : List Tern) → length w ≤ i → take i w ++ select_of bit (lowered fill n (drop i w)) (drop i w) ≡ whole → w ≡ whole
lower_whole bit fill n w i whole p before =
    let front : take i w ≡ w = take_all i w p in
    let rest : drop i w ≡ [] = drop_all i w p in
    sym (append-nil w) ∙ (rw (front, rest) at before)

pub length-raised : (fill : Tern) (n : ℕ) (w : List Tern) → length (raised fill n w) ≡ length w
length-raised fill n w = omega (arith, length-take (length w) (replicate n fill ++ w), length-append (replicate n fill) w, length-replicate n fill)

pub length-lowered : (fill : Tern) (n : ℕ) (w : List Tern) → length (lowered fill n w) ≡ length w
length-lowered fill n [] = refl
length-lowered fill n (a ∷ w) = ap (λ (k : ℕ). suc k) (length-lowered fill n w)

pub length-select_of : (s : Tern) (x y : List Tern) → length x ≡ length y → length (select_of s x y) ≡ length y
length-select_of s [] y same = same
length-select_of s (a ∷ x) [] same = refl
length-select_of s (a ∷ x) (b ∷ y) same = ap (λ (k : ℕ). suc k) (length-select_of s x y (omega arith))

select_of-append : (s : Tern) (x y x' y' : List Tern) → length x ≡ length y → select_of s (x ++ x') (y ++ y') ≡ select_of s x y ++ select_of s x' y'
select_of-append s [] [] x' y' same = refl
select_of-append s [] (b ∷ y) x' y' same = absurd (omega arith)
select_of-append s (a ∷ x) [] x' y' same = absurd (omega arith)
select_of-append s (a ∷ x) (b ∷ y) x' y' same = ap (λ (t : List Tern). mux_of s a b ∷ t) (select_of-append s x y x' y' (omega arith))

raised_push : (fill : Tern) (n : ℕ) (w : List Tern) (a : Tern) → raised fill n (w ++ a ∷ []) ≡ raised fill n w ++ get_or (replicate n fill ++ (w ++ a ∷ [])) (length w) fill ∷ []
raised_push fill n w a =
    let fills = replicate n fill in
    let wide : length (w ++ a ∷ []) ≡ length w + 1 = length-append w (a ∷ []) in
    let all : length (fills ++ (w ++ a ∷ [])) ≡ n + (length w + 1) = length-append fills (w ++ a ∷ []) ∙ ap (λ (k : ℕ). k + length (w ++ a ∷ [])) (length-replicate n fill) ∙ ap (λ (k : ℕ). n + k) wide in
    let both : length (fills ++ w) ≡ n + length w = length-append fills w ∙ ap (λ (k : ℕ). k + length w) (length-replicate n fill) in
    ap (λ (k : ℕ). take k (fills ++ (w ++ a ∷ []))) wide ∙ take_more (fills ++ (w ++ a ∷ [])) (length w) fill (omega arith)
    ∙ ap (λ (t : List Tern). t ++ get_or (fills ++ (w ++ a ∷ [])) (length w) fill ∷ []) (ap (take (length w)) (sym (append_assoc fills w (a ∷ []))) ∙ take-append-le (length w) (fills ++ w) (a ∷ []) (omega arith))

-- a word read so far up as its front goes
read_front : (fill : Tern) (n : ℕ) (w : List Tern) (p : ℕ) → p < length w → get_or (replicate n fill ++ take (p + 1) w) p fill ≡ get_or (replicate n fill ++ w) p fill
read_front fill n w p lt =
    let fills = length-replicate n fill in
    elim (cases_lt p n) [
      | inl here ↦ get_or_append_left (replicate n fill) (take (p + 1) w) fill p (omega arith) ∙ sym (get_or_append_left (replicate n fill) w fill p (omega arith))
      | inr past ↦ get_or-append_right (replicate n fill) (take (p + 1) w) n p fill fills past ∙ get_or-take (p + 1) w (p - n) fill (omega arith) ∙ sym (get_or-append_right (replicate n fill) w n p fill fills past)
    ]

raise_more : (bit fill : Tern) (n : ℕ) (w : List Tern) (p : ℕ) (e : Tern) → p < length w
    → select_of bit (raised fill n (take (p + 1) w)) (take (p + 1) w) ≡ select_of bit (raised fill n (take p w)) (take p w) ++ mux_of bit (get_or (replicate n fill ++ w) p fill) (get_or w p e) ∷ []
raise_more bit fill n w p e lt =
    let whole : take (p + 1) w ≡ take p w ++ get_or w p e ∷ [] = take_more w p e lt in
    let front : length (take p w) ≡ p = length-take-le p w (omega arith) in
    let read : get_or (replicate n fill ++ (take p w ++ get_or w p e ∷ [])) (length (take p w)) fill ≡ get_or (replicate n fill ++ w) p fill =
    ap (λ (k : ℕ). get_or (replicate n fill ++ (take p w ++ get_or w p e ∷ [])) k fill) front ∙ ap (λ (t : List Tern). get_or (replicate n fill ++ t) p fill) (sym whole) ∙ read_front fill n w p lt in
    ap (λ (t : List Tern). select_of bit (raised fill n t) t) whole
    ∙ ap (λ (t : List Tern). select_of bit t (take p w ++ get_or w p e ∷ [])) (raised_push fill n (take p w) (get_or w p e))
    ∙ select_of-append bit (raised fill n (take p w)) (take p w) (get_or (replicate n fill ++ (take p w ++ get_or w p e ∷ [])) (length (take p w)) fill ∷ []) (get_or w p e ∷ []) (length-raised fill n (take p w))
    ∙ ap (λ (a : Tern). select_of bit (raised fill n (take p w)) (take p w) ++ mux_of bit a (get_or w p e) ∷ []) read

-- a place of a word that moves up is written
pub raise_written : (bit fill : Tern) (n : ℕ) (w : List Tern) (p more : ℕ) (e v : Tern) (whole : List Tern) → p < length w → more ≡ p + 1
    → v ≡ mux_of bit (get_or (replicate n fill ++ w) p fill) (get_or w p e)
    → select_of bit (raised fill n (take more w)) (take more w) ++ drop more w ≡ whole
    → select_of bit (raised fill n (take p (set w p v))) (take p (set w p v)) ++ drop p (set w p v) ≡ whole
raise_written bit fill n w p more e v whole lt more-is v-is before =
    let front : take p (set w p v) ≡ take p w = take-set w p v in
    let rest : drop p (set w p v) ≡ v ∷ drop (p + 1) w = drop-set w p v lt in
    let step = raise_more bit fill n w p e lt in
    rw (front, rest, v-is) (rw (more-is, step, append_assoc) at before)

lowered_past : (fill : Tern) (n : ℕ) (w : List Tern) → length w ≤ n → lowered fill n w ≡ replicate (length w) fill
lowered_past fill n [] past = refl
lowered_past fill n (a ∷ w) past = ap (λ (b : Tern). b ∷ lowered fill n w) (get_or_past (a ∷ w) n fill past) ∙ ap (λ (t : List Tern). fill ∷ t) (lowered_past fill n w (omega arith))

-- past the width one distance is like another
pub lowered_far : (fill : Tern) (n m : ℕ) (w : List Tern) → min n (length w) ≡ min m (length w) → lowered fill n w ≡ lowered fill m w
lowered_far fill n m w same = elim (cases_lt n (length w)) [
  | inl here ↦ let is : n ≡ m = omega arith in ap (λ (k : ℕ). lowered fill k w) is
  | inr past ↦ lowered_past fill n w past ∙ sym (lowered_past fill m w (omega arith))
]

raised_past : (fill : Tern) (n : ℕ) (w : List Tern) → length w ≤ n → raised fill n w ≡ replicate (length w) fill
raised_past fill n w past =
    let fills = length-replicate n fill in
    take-append-le (length w) (replicate n fill) w (omega arith) ∙ take-replicate (length w) n fill past

pub raised_far : (fill : Tern) (n m : ℕ) (w : List Tern) → min n (length w) ≡ min m (length w) → raised fill n w ≡ raised fill m w
raised_far fill n m w same = elim (cases_lt n (length w)) [
  | inl here ↦ let is : n ≡ m = omega arith in ap (λ (k : ℕ). raised fill k w) is
  | inr past ↦ raised_past fill n w past ∙ sym (raised_past fill m w (omega arith))
]

-- one more bit of an amount moves the word up
pub raise_bit : (w next : List Tern) (amount : List Tern) (i n m : ℕ) (d : Tern) (whole : List Tern) → i < length amount → next ≡ select_of (get_or amount i d) (raised Zero n w) w
    → min n (length w) ≡ min (2 ^ i) (length w) → min m (length next) ≡ min (n + n) (length next) → shift_of (raised Zero) i w (drop i amount) ≡ whole
    → (length next ≡ length w) × (shift_of (raised Zero) (i + 1) next (drop (i + 1) amount) ≡ whole) × (min m (length next) ≡ min (2 ^ (i + 1)) (length next))
raise_bit w next amount i n m d whole lt next-is far doubled before =
    let wide : length next ≡ length w = ap length next-is ∙ length-select_of (get_or amount i d) (raised Zero n w) w (length-raised Zero n w) in
    let same = raised_far Zero n (2 ^ i) w far in
    let more : next ≡ select_of (get_or amount i d) (raised Zero (2 ^ i) w) w = next-is ∙ ap (λ (t : List Tern). select_of (get_or amount i d) t w) same in
    (wide, rw more (rw (drop_more amount i d lt) at before), omega (arith, pow-add 2 i 1))

-- one more bit of an amount moves the word down
pub lower_bit : (fill : Tern) (w next : List Tern) (amount : List Tern) (i n m : ℕ) (d : Tern) (whole : List Tern) → i < length amount → next ≡ select_of (get_or amount i d) (lowered fill n w) w
    → min n (length w) ≡ min (2 ^ i) (length w) → min m (length next) ≡ min (n + n) (length next) → shift_of (lowered fill) i w (drop i amount) ≡ whole
    → (length next ≡ length w) × (shift_of (lowered fill) (i + 1) next (drop (i + 1) amount) ≡ whole) × (min m (length next) ≡ min (2 ^ (i + 1)) (length next))
lower_bit fill w next amount i n m d whole lt next-is far doubled before =
    let wide : length next ≡ length w = ap length next-is ∙ length-select_of (get_or amount i d) (lowered fill n w) w (length-lowered fill n w) in
    let same = lowered_far fill n (2 ^ i) w far in
    let more : next ≡ select_of (get_or amount i d) (lowered fill (2 ^ i) w) w = next-is ∙ ap (λ (t : List Tern). select_of (get_or amount i d) t w) same in
    (wide, rw more (rw (drop_more amount i d lt) at before), omega (arith, pow-add 2 i 1))

pub shift_whole : (moved : ℕ → List Tern → List Tern) (i : ℕ) (w amount whole : List Tern) → length amount ≤ i → shift_of moved i w (drop i amount) ≡ whole → w ≡ whole
shift_whole moved i w amount whole past before = rw (drop_all i amount past) at before

-- Taking a line or a word from the front leaves the other lines, or the other words.
use Rattle.std.proofs.Common.{◌≡◌, ℕ, suc, ◌+◌, ◌-◌, ◌<◌, ◌≤◌, Bool, true, false, not, ltb, eqb, ◌&&◌, Option, List, [], ◌∷◌, length, get_or, take, drop, refl, sym, ap, ◌∙◌, inl, inr, arith}
use Rattle.std.specs.Prelude.{filter, position, unwrap_or}
use Rattle.std.specs.List.{slice_split, position_or_len}
use Rattle.std.proofs.lemmas.Bool.{cases_Bool, eqb-true, eq-eqb, ne_eqb, ltb-false, and_cases, and_parts, and_left, and_right}
use Rattle.std.proofs.lemmas.List.{length-drop, drop-drop, take_all, nil_from_length}
use Rattle.std.proofs.lemmas.List.Sums.{prefix_len-le-length}
use Rattle.cons_file.specs.Lines.{is_line_feed, is_at_line_feed, is_blank, has_items, lines_of, without_comment, words_in, with_row, rows_from}
use Rattle.cons_file.specs.Forms.{skip_blanks}
use Rattle.cons_file.specs.Front.{with_front, without_return}

-- the first place that passes, or the length
pub unwrap_or-position : (p : ℕ → Bool) (bytes : List ℕ) → unwrap_or (position p bytes) (length bytes) ≡ position_or_len p bytes
unwrap_or-position p bytes =
    elim (cases_Bool (ltb (position_or_len p bytes) (length bytes))) [
      | inl within ↦ rw within refl
      | inr past ↦ rw past (let le = ltb-false (position_or_len p bytes) (length bytes) past in omega (arith, prefix_len-le-length (λ b. not (p b)) bytes))
    ]

-- the parts after the first, of what stands from its end on
abbrev other_parts : (ℕ → Bool) → List ℕ → List (List ℕ)
other_parts p [] = []
other_parts p (b ∷ bytes) = slice_split p bytes

add_drop : (n : ℕ) (b : ℕ) (bytes : List ℕ) → drop (1 + n) (b ∷ bytes) ≡ drop n bytes
add_drop n b bytes = let e : 1 + n ≡ suc n = omega arith in rw e refl

add_take : (n : ℕ) (b : ℕ) (bytes : List ℕ) → take (1 + n) (b ∷ bytes) ≡ b ∷ take n bytes
add_take n b bytes = let e : 1 + n ≡ suc n = omega arith in rw e refl

split_first : (p : ℕ → Bool) (bytes : List ℕ) → slice_split p bytes ≡ take (position_or_len p bytes) bytes ∷ other_parts p (drop (position_or_len p bytes) bytes)
split_first p [] = refl
split_first p (b ∷ bytes) =
    elim (cases_Bool (p b)) [
      | inl marked ↦ rw marked refl
      | inr other ↦ rw (other, split_first p bytes, add_drop, add_take) refl
    ]

filter_front : {X : Type 0} (xs : List X) (others : List (List X)) → filter has_items (xs ∷ others) ≡ with_front xs (filter has_items others)
filter_front [] others = refl
filter_front (x ∷ xs) others = refl

-- blanks in front change no word
pub words_in-drop_gap : (text : List ℕ) → words_in text ≡ words_in (drop (position_or_len (λ b. not (is_blank b)) text) text)
words_in-drop_gap [] = refl
words_in-drop_gap (b ∷ text) =
    elim (cases_Bool (is_blank b)) [
      | inl blank ↦ rw (blank, add_drop) (words_in-drop_gap text)
      | inr other ↦ rw other (rw other refl)
    ]

-- what stands from the end of a word on has the other words
others_are_words : (text : List ℕ) → filter has_items (other_parts is_blank (drop (position_or_len is_blank text) text)) ≡ words_in (drop (position_or_len is_blank text) text)
others_are_words [] = refl
others_are_words (b ∷ text) =
    elim (cases_Bool (is_blank b)) [
      | inl blank ↦ rw blank (rw blank refl)
      | inr other ↦ rw (other, add_drop) (others_are_words text)
    ]

-- the bytes up to a blank are a word, unless there are none
pub words_in-word : (text : List ℕ) → words_in text ≡ with_front (take (position_or_len is_blank text) text) (words_in (drop (position_or_len is_blank text) text))
words_in-word text =
    rw (split_first is_blank text)
    (filter_front (take (position_or_len is_blank text) text) (other_parts is_blank (drop (position_or_len is_blank text) text))
    ∙ ap (with_front (take (position_or_len is_blank text) text)) (others_are_words text))

-- a text that begins with no blank and has no first word is empty
pub words_in-no_word : (text : List ℕ) → take (position_or_len is_blank (drop (position_or_len (λ b. not (is_blank b)) text) text)) (drop (position_or_len (λ b. not (is_blank b)) text) text) ≡ [] → words_in text ≡ []
words_in-no_word [] e = refl
words_in-no_word (b ∷ text) e =
    elim (cases_Bool (is_blank b)) [
      | inl blank ↦ let rest = simp (blank, add_drop) at e in rw blank (words_in-no_word text rest)
      | inr other ↦ let rest = simp (other, add_take) at e in absurd cc
    ]

-- ---- lines

no_feed_next : (bytes : List ℕ) → length bytes ≤ position_or_len is_line_feed bytes → is_at_line_feed bytes ≡ false
no_feed_next [] le = refl
no_feed_next (b ∷ bytes) le =
    elim (cases_Bool (is_line_feed b)) [
      | inl marked ↦ let short = simp marked at le in absurd (omega arith)
      | inr other ↦ other
    ]

-- bytes with no line feed are one line
no_line_feed : (bytes : List ℕ) → length bytes ≤ position_or_len is_line_feed bytes → lines_of bytes ≡ bytes ∷ []
no_line_feed [] le = refl
no_line_feed (b ∷ bytes) le =
    elim (cases_Bool (is_line_feed b)) [
      | inl marked ↦ let short = simp marked at le in absurd (omega arith)
      | inr other ↦
          let long = simp other at le in
          let shorter : length bytes ≤ position_or_len is_line_feed bytes = omega arith in
          rw (and_right (eqb b 13) (is_at_line_feed bytes) (no_feed_next bytes shorter), other, no_line_feed bytes shorter) refl
    ]

feed_is_first : (bytes : List ℕ) → is_at_line_feed bytes ≡ true → position_or_len is_line_feed bytes ≡ 0
feed_is_first [] e = refl
feed_is_first (b ∷ bytes) e = rw e refl

-- the line before a feed has bytes, unless the feed comes next
has_line : (bytes : List ℕ) → position_or_len is_line_feed bytes < length bytes → is_at_line_feed bytes ≡ false → not (has_items (take (position_or_len is_line_feed bytes) bytes)) ≡ false
has_line [] lt e = absurd (omega arith)
has_line (b ∷ bytes) lt e = rw (e, add_take) refl

keeps_byte : (b : ℕ) (bytes : List ℕ) → position_or_len is_line_feed bytes < length bytes → (eqb b 13 && is_at_line_feed bytes) ≡ false → (eqb b 13 && not (has_items (take (position_or_len is_line_feed bytes) bytes))) ≡ false
keeps_byte b bytes lt e =
    elim (and_cases (eqb b 13) (is_at_line_feed bytes) e) [
      | inl other ↦ and_left (eqb b 13) _ other
      | inr apart ↦ and_right (eqb b 13) _ (has_line bytes lt apart)
    ]

-- the first of several lines
one_line_feed : (bytes : List ℕ) → position_or_len is_line_feed bytes < length bytes → lines_of bytes ≡ without_return (take (position_or_len is_line_feed bytes) bytes) ∷ lines_of (drop (position_or_len is_line_feed bytes + 1) bytes)
one_line_feed [] lt = absurd (omega arith)
one_line_feed (b ∷ bytes) lt =
    elim (cases_Bool (is_line_feed b)) [
      | inl marked ↦ rw (marked, eqb-true b 10 marked) refl
      | inr other ↦
          let within = simp other at lt in
          let shorter : position_or_len is_line_feed bytes < length bytes = omega arith in
          let others = one_line_feed bytes shorter in
          elim (cases_Bool (eqb b 13 && is_at_line_feed bytes)) [
            | inl ended ↦
                let both = and_parts (eqb b 13) (is_at_line_feed bytes) ended in
                let first = feed_is_first bytes both.1 in
                let rest = rw first at others in
                rw (other, ended, first, both.0) rest
            | inr unended ↦
                let more : 1 + position_or_len is_line_feed bytes + 1 ≡ suc (position_or_len is_line_feed bytes + 1) = omega arith in
                rw (unended, other, others, more, add_take, keeps_byte b bytes shorter unended) refl
          ]
    ]

-- the return at the end
pub without_return-last : (line : List ℕ) → 0 < length line → get_or line (length line - 1) 0 ≡ 13 → take (length line - 1) line ≡ without_return line
without_return-last [] lt e = absurd (omega arith)
without_return-last (b ∷ []) lt e = rw (eq-eqb b 13 e) refl
without_return-last (b ∷ (c ∷ line)) lt e =
    let k : suc (suc (length line)) - 1 ≡ suc (suc (length line) - 1) = omega arith in
    let last = rw k at e in
    let some : 0 < suc (length line) = omega arith in
    rw (k, and_right (eqb b 13) false refl) (ap (λ (t : List ℕ). b ∷ t) (without_return-last (c ∷ line) some last))

pub without_return-other : (line : List ℕ) → (0 < length line → get_or line (length line - 1) 0 ≡ 13 → ⊥) → line ≡ without_return line
without_return-other [] apart = refl
without_return-other (b ∷ []) apart = rw (ne_eqb b 13 (apart (omega arith))) refl
without_return-other (b ∷ (c ∷ line)) apart =
    let k : suc (suc (length line)) - 1 ≡ suc (suc (length line) - 1) = omega arith in
    rw (and_right (eqb b 13) false refl) (ap (λ (t : List ℕ). b ∷ t) (without_return-other (c ∷ line) (λ lt e. apart (omega arith) (rw k e))))

-- ---- as the code takes them

place_is : (p : ℕ → Bool) (bytes : List ℕ) (place : Option ℕ) → place ≡ position p bytes → unwrap_or place (length bytes) ≡ position_or_len p bytes
place_is p bytes place e = ap (λ o. unwrap_or o (length bytes)) e ∙ unwrap_or-position p bytes

pub takes_last_line : (bytes line rest : List ℕ) (place : Option ℕ) → place ≡ position is_line_feed bytes → line ≡ take (unwrap_or place (length bytes)) bytes → rest ≡ drop (unwrap_or place (length bytes)) bytes → length rest ≡ 0
    → (n : ℕ) → rows_from n (lines_of bytes) ≡ with_row n (without_comment line) (rows_from (n + 1) (lines_of rest))
takes_last_line bytes line rest place at front back none n =
    let p = place_is is_line_feed bytes place at in
    let len = ap length back ∙ ap length (ap (λ k. drop k bytes) p) ∙ length-drop (position_or_len is_line_feed bytes) bytes in
    let le : length bytes ≤ position_or_len is_line_feed bytes = omega arith in
    let whole : line ≡ bytes = front ∙ ap (λ k. take k bytes) p ∙ take_all _ bytes le in
    rw (whole, nil_from_length rest none, no_line_feed bytes le) refl

pub takes_line : (bytes line rest short after : List ℕ) (place : Option ℕ) → place ≡ position is_line_feed bytes → line ≡ take (unwrap_or place (length bytes)) bytes → rest ≡ drop (unwrap_or place (length bytes)) bytes → 0 < length rest
    → short ≡ without_return line → after ≡ drop 1 rest → (n : ℕ) → rows_from n (lines_of bytes) ≡ with_row n (without_comment short) (rows_from (n + 1) (lines_of after))
takes_line bytes line rest short after place at front back some shorter next n =
    let p = place_is is_line_feed bytes place at in
    let len = ap length back ∙ ap length (ap (λ k. drop k bytes) p) ∙ length-drop (position_or_len is_line_feed bytes) bytes in
    let lt : position_or_len is_line_feed bytes < length bytes = omega arith in
    let after_is : after ≡ drop (position_or_len is_line_feed bytes + 1) bytes = rw (next, back, p, drop-drop) refl in
    let short_is : short ≡ without_return (take (position_or_len is_line_feed bytes) bytes) = rw (shorter, front, p) refl in
    rw (one_line_feed bytes lt, after_is, short_is) refl

pub takes_word : (text some word rest : List ℕ) (end : Option ℕ) → some ≡ skip_blanks text → end ≡ position is_blank some
    → word ≡ take (unwrap_or end (length some)) some → rest ≡ drop (unwrap_or end (length some)) some → (words_in text ≡ with_front word (words_in rest)) × (word ≡ [] → words_in text ≡ [])
takes_word text some word rest end some_is ends front back =
    let n = place_is is_blank some end ends in
    let word_is = front ∙ ap (λ k. take k some) n in
    let rest_is = back ∙ ap (λ k. drop k some) n in
    let words : words_in text ≡ words_in some = words_in-drop_gap text ∙ ap words_in (sym some_is) in
    (words ∙ rw (word_is, rest_is) (words_in-word some), λ none. words_in-no_word text (rw (← some_is) (sym word_is ∙ none)))

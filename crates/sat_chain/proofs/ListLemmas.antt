-- Serves specs/Scan.antt: one word more of a list of numbers.
use Rattle.std.proofs.Common.{◌≡◌, ℕ, ◌+◌, ◌<◌, ◌≤◌, Bool, true, false, nat_eq, List, [], ◌∷◌, ◌++◌, length, map, refl, ap, Option, Some, None, is_some, not, MatchOption, OnSome, cond, Bor, arith, append_assoc, ℤ}
use Rattle.std.proofs.lemmas.List.{append-nil}
use Rattle.std.specs.Option.{option_map, option_copied}
use Rattle.std.proofs.lemmas.Option.{same_Some}
use Rattle.sat_chain.specs.Text.{words, lengthen, is_end, literal_of, literals_of, with_literal, number_of, chain_of, with_number, ended}
use Rattle.sat_chain.specs.Scan.{words_after, left_of, prefixed, numbers_behind, capped}

prefixed_with : (front : List ℤ) (l : ℤ) (more : Option (List ℤ)) → prefixed (front ++ l ∷ []) more ≡ prefixed front (with_literal (Some l) more)
prefixed_with front l None = refl
prefixed_with front l (Some ls) = ap (λ (r : List ℤ). Some r) (append_assoc front (l ∷ []) ls)

-- a literal more
pub literals_more : (vars : ℕ) (front : List ℤ) (w : List ℕ) (ws : List (List ℕ)) (l : ℤ) → is_end w ≡ false → literal_of vars w ≡ Some l
    → prefixed (front ++ l ∷ []) (literals_of vars ws) ≡ prefixed front (literals_of vars (w ∷ ws))
unfolding literals_of
literals_more vars front w ws l ne is = rw (ne, is) (prefixed_with front l (literals_of vars ws))

-- a word that is no literal
pub literals_stop : (vars : ℕ) (front : List ℤ) (w : List ℕ) (ws : List (List ℕ)) → is_end w ≡ false → literal_of vars w ≡ None → prefixed front (literals_of vars (w ∷ ws)) ≡ None
unfolding literals_of
literals_stop vars front w ws ne is = rw (ne, is) refl

-- the word 0
pub literals_end : (vars : ℕ) (front : List ℤ) (w : List ℕ) (ws : List (List ℕ)) → is_end w ≡ true → prefixed front (literals_of vars (w ∷ ws)) ≡ prefixed front (ended ws)
unfolding literals_of
literals_end vars front w ws e = rw e refl

pub literals_none : (vars : ℕ) (front : List ℤ) → prefixed front (literals_of vars []) ≡ None
unfolding literals_of
literals_none vars front = refl

behind_with : (front : List ℕ) (o : Option ℕ) (n : ℕ) (more : Option (List ℕ × List (List ℕ))) → option_map capped o ≡ Some n
    → numbers_behind (front ++ n ∷ []) more ≡ numbers_behind front (with_number o more)
behind_with front None n more h = cc
behind_with front (Some m) n None h = refl
behind_with front (Some m) n (Some (ns, ws)) h =
    let is : capped m ≡ n = same_Some (capped m) n h in
    rw is (ap (λ (r : List ℕ). Some (r, ws)) (append_assoc front (n ∷ []) (map capped ns)))

without : (front : List ℕ) (o : Option ℕ) (more : Option (List ℕ × List (List ℕ))) → option_map capped o ≡ None → numbers_behind front (with_number o more) ≡ None
without front None more h = refl
without front (Some m) more h = cc

-- a clause number more
pub chain_more : (front : List ℕ) (w : List ℕ) (ws : List (List ℕ)) (n : ℕ) → is_end w ≡ false → option_map capped (number_of w) ≡ Some n
    → numbers_behind (front ++ n ∷ []) (chain_of ws) ≡ numbers_behind front (chain_of (w ∷ ws))
unfolding chain_of
chain_more front w ws n ne is = rw ne (behind_with front (number_of w) n (chain_of ws) is)

pub chain_stop : (front : List ℕ) (w : List ℕ) (ws : List (List ℕ)) → is_end w ≡ false → option_map capped (number_of w) ≡ None → numbers_behind front (chain_of (w ∷ ws)) ≡ None
unfolding chain_of
chain_stop front w ws ne is = rw ne (without front (number_of w) (chain_of ws) is)

pub chain_end : (front : List ℕ) (w : List ℕ) (ws : List (List ℕ)) → is_end w ≡ true → numbers_behind front (chain_of (w ∷ ws)) ≡ Some (front, ws)
unfolding chain_of
chain_end front w ws e = rw e (ap (λ (r : List ℕ). Some (r, ws)) (append-nil front))

pub chain_none : (front : List ℕ) → numbers_behind front (chain_of []) ≡ None
unfolding chain_of
chain_none front = refl

-- the words of a text that is left
pub words_at : (left : Option (Bor (List ℕ))) (text : Bor (List ℕ)) → left ≡ Some text → (ws : List (List ℕ)) → words text.now ≡ ws → words_after (option_copied left) ≡ ws
words_at left text is ws e = rw is e

-- nothing is left
pub words_over : (left : Option (Bor (List ℕ))) → ((text : Bor (List ℕ)) → left ≡ Some text → ⊥) → words_after (option_copied left) ≡ []
words_over None none = refl
words_over (Some text) none = absurd (none text refl)

some_word : (text : List ℕ) → (w : List ℕ) × (ws : List (List ℕ)) × (words text ≡ w ∷ ws)
unfolding words
some_word [] = ([], [], refl)
some_word (b ∷ bs) = elim (nat_eq b 32) as (λ t. (w : List ℕ) × (ws : List (List ℕ)) × (cond t ([] ∷ words bs) (lengthen b (words bs)) ≡ w ∷ ws)) [
  | true ↦ ([], words bs, refl)
  | false ↦ elim (words bs) as (λ v. (w : List ℕ) × (ws : List (List ℕ)) × (lengthen b v ≡ w ∷ ws)) [ [] ↦ (b ∷ [], [], refl) | w ∷ ws ↦ (b ∷ w, ws, refl) ]
]

-- the word 0, and whether a text follows it
pub literals_end_at : (vars : ℕ) (front : List ℤ) (all : List (List ℕ)) (w : List ℕ) (after : Option (Bor (List ℕ))) → all ≡ w ∷ words_after (option_copied after) → is_end w ≡ true
    → (b : Bool) → is_some after ≡ not b → prefixed front (literals_of vars all) ≡ cond b (Some front) None
literals_end_at vars front all w None e end true is = rw (e, literals_end vars front w [] end) (ap (λ (r : List ℤ). Some r) (append-nil front))
literals_end_at vars front all w None e end false is = cc
literals_end_at vars front all w (Some text) e end true is = cc
literals_end_at vars front all w (Some text) e end false is =
    let s = some_word text.now in
    rw (e, literals_end vars front w (words text.now) end, s.2) refl

-- what is left behind a word
pub left_less : (left : Option (Bor (List ℕ))) (text : Bor (List ℕ)) (after : Option (Bor (List ℕ))) (w : ℕ) → left ≡ Some text → 0 < w
    → MatchOption after (w ≡ length text.now) (λ rest. w + 1 + length rest.now ≡ length text.now) → left_of (option_copied after) + 2 ≤ left_of (option_copied left)
left_less left text None w is some h = rw is (omega arith)
left_less left text (Some rest) w is some h = rw is (omega arith)

-- what is left behind a word of one byte
pub left_end : (left : Option (Bor (List ℕ))) (text : Bor (List ℕ)) (after : Option (Bor (List ℕ))) (w : ℕ) → left ≡ Some text → w ≡ 1
    → MatchOption after (w ≡ length text.now) (λ rest. w + 1 + length rest.now ≡ length text.now) → left_of (option_copied after) + 2 ≤ left_of (option_copied left)
left_end left text after w is one h = left_less left text after w is (omega arith) h

pub spelled_some : {X : Type 0} (o : Option X) (x : X) (P : Type 0) → o ≡ Some x → OnSome o P → P
spelled_some None x P is h = cc
spelled_some (Some y) x P is h = h

-- A file has one list of declarations, and none where a row is no declaration's.
use Rattle.std.proofs.Common.{◌≡◌, ℕ, true, false, List, [], ◌∷◌, ◌++◌, map, refl, sym, ◌∙◌}
use Rattle.thin_cons.specs.Lines.{rows_of}
use Rattle.thin_cons.specs.Forms.{Declaration, Clock, Reset, heading, words_of, IsFile}

tail_is : {A : Type 0} (x y : A) (xs ys : List A) → x ∷ xs ≡ y ∷ ys → xs ≡ ys
tail_is x y xs ys e = cc

head_is : {A : Type 0} (x y : A) (xs ys : List A) → x ∷ xs ≡ y ∷ ys → x ≡ y
head_is x y xs ys e = cc

no_row : (before : List Declaration) (row : List (List ℕ)) (after : List (List (List ℕ))) (declarations : List Declaration) → ((d : Declaration) → row ≡ words_of d → ⊥) → map words_of before ++ row ∷ after ≡ map words_of declarations → ⊥
no_row [] row after [] apart e = absurd cc
no_row [] row after (d ∷ ds) apart e = apart d (head_is _ _ _ _ e)
no_row (b ∷ before) row after [] apart e = absurd cc
no_row (b ∷ before) row after (d ∷ ds) apart e = no_row before row after ds apart (tail_is _ _ _ _ e)

-- a row that is no declaration's
pub no_file : (bytes : List ℕ) (before : List Declaration) (row : List (List ℕ)) (after : List (List (List ℕ))) → rows_of bytes ≡ heading ∷ (map words_of before ++ row ∷ after) → ((d : Declaration) → row ≡ words_of d → ⊥)
    → (declarations : List Declaration) → IsFile bytes declarations → ⊥
no_file bytes before row after rows apart declarations file = no_row before row after declarations apart (tail_is _ _ _ _ (sym rows ∙ file))

one_spelling : (a b : Declaration) → words_of a ≡ words_of b → a ≡ b
one_spelling (Clock p) (Clock q) e = cc
one_spelling (Clock p) (Reset q true) e = absurd cc
one_spelling (Clock p) (Reset q false) e = absurd cc
one_spelling (Reset p true) (Clock q) e = absurd cc
one_spelling (Reset p false) (Clock q) e = absurd cc
one_spelling (Reset p true) (Reset q true) e = cc
one_spelling (Reset p false) (Reset q false) e = cc
one_spelling (Reset p true) (Reset q false) e = absurd cc
one_spelling (Reset p false) (Reset q true) e = absurd cc

one_list : (ours others : List Declaration) → map words_of ours ≡ map words_of others → ours ≡ others
one_list [] [] e = refl
one_list [] (b ∷ others) e = absurd cc
one_list (a ∷ ours) [] e = absurd cc
one_list (a ∷ ours) (b ∷ others) e =
    let first = one_spelling a b (head_is _ _ _ _ e) in
    let others = one_list ours others (tail_is _ _ _ _ e) in
    cc

-- one text is one list of declarations
pub one_file : (bytes : List ℕ) (ours others : List Declaration) → IsFile bytes ours → IsFile bytes others → ours ≡ others
one_file bytes ours others e f = one_list ours others (tail_is _ _ _ _ (sym e ∙ f))

-- What marks, words and names are not.
use Rattle.std.proofs.Common.{◌≡◌, ℕ, Bool, true, false, List, [], ◌∷◌, Some, None, refl, sym, ap, ◌∙◌}
use Rattle.std.specs.Prelude.{◌==◌, ◌||◌, if◌then◌else◌}
use Rattle.std.specs.Str.{bytes_eq}
use Rattle.std.proofs.lemmas.Slice.Eq.{bytes_eq-Decides}
use Rattle.vlog_lex.specs.declared.tokens.Kind.{Kind}
use Rattle.vlog_lex.specs.declared.tokens.Kind.TheVariants.{Identifier, Number, Str, Mark}
use Rattle.vlog_tree.specs.Lexemes.{Lexeme, mark_of, mark_in, word_of, word_in, is_mark, is_word, IsMark, IsWord}
use Rattle.vlog_tree.specs.Names.{name_of, name_in}
use Rattle.vlog_tree.specs.Reserved.{is_reserved}
use Rattle.vlog_expr.specs.Reading.{sees, sees_word}
use Rattle.vlog_expr.proofs.MarkLemmas.{bytes_of}

-- the bytes of a mark and of a word
pub marked : (m : List ℕ) (l : Lexeme) → IsMark m l → mark_of l ≡ m
marked m l is = bytes_of m l is

pub worded : (w : List ℕ) (l : Lexeme) → IsWord w l → word_of l ≡ w
unfolding is_word
worded w l is = (bytes_eq-Decides (word_of l) w).0 is

-- another mark, another word
pub other_mark : (m n : List ℕ) (l : Lexeme) → IsMark m l → bytes_eq m n ≡ false → sees n (Some l) ≡ false
unfolding sees is_mark
other_mark m n l is other = ap (λ z. bytes_eq z n) (marked m l is) ∙ other

pub other_word : (w v : List ℕ) (l : Lexeme) → IsWord w l → bytes_eq w v ≡ false → sees_word v (Some l) ≡ false
unfolding sees_word is_word
other_word w v l is other = ap (λ z. bytes_eq z v) (worded w l is) ∙ other

no_word : (k : Kind) (bs : List ℕ) (m : ℕ) (ms : List ℕ) → mark_in k bs ≡ m ∷ ms → word_in k bs ≡ []
unfolding mark_in word_in
no_word Identifier bs m ms h = cc
no_word Number bs m ms h = cc
no_word Str bs m ms h = cc
no_word Mark bs m ms h = refl

no_mark : (k : Kind) (bs : List ℕ) (w : ℕ) (ws : List ℕ) → word_in k bs ≡ w ∷ ws → mark_in k bs ≡ []
unfolding mark_in word_in
no_mark Identifier bs m ms h = refl
no_mark Number bs m ms h = cc
no_mark Str bs m ms h = cc
no_mark Mark bs m ms h = cc

-- a mark is no word, and a word no mark
pub mark_word : (m : ℕ) (ms : List ℕ) (v : ℕ) (vs : List ℕ) (l : Lexeme) → IsMark (m ∷ ms) l → sees_word (v ∷ vs) (Some l) ≡ false
unfolding sees_word is_word
mark_word m ms v vs l is = ap (λ z. bytes_eq z (v ∷ vs)) (no_word l.kind l.bytes m ms (marked (m ∷ ms) l is))

pub word_mark : (w : ℕ) (ws : List ℕ) (n : ℕ) (ns : List ℕ) (l : Lexeme) → IsWord (w ∷ ws) l → sees (n ∷ ns) (Some l) ≡ false
unfolding sees is_mark
word_mark w ws n ns l is = ap (λ z. bytes_eq z (n ∷ ns)) (no_mark l.kind l.bytes w ws (worded (w ∷ ws) l is))

name_mark_by : (k : Kind) (bs name : List ℕ) → name_in (word_in k bs) ≡ Some name → mark_in k bs ≡ []
unfolding mark_in word_in name_in
name_mark_by Identifier bs name h = refl
name_mark_by Number bs name h = cc
name_mark_by Str bs name h = cc
name_mark_by Mark bs name h = cc

-- a name is neither
pub name_mark : (l : Lexeme) (called : List ℕ) (n : ℕ) (ns : List ℕ) → name_of l ≡ Some called → sees (n ∷ ns) (Some l) ≡ false
unfolding sees is_mark name_of
name_mark l called n ns is = ap (λ z. bytes_eq z (n ∷ ns)) (name_mark_by l.kind l.bytes called is)

reserved_no_name : (w : ℕ) (ws name : List ℕ) → (w == 92) ≡ false → is_reserved (w ∷ ws) ≡ true → name_in (w ∷ ws) ≡ Some name → ⊥
unfolding name_in
reserved_no_name w ws name plain reserved h = let never = rw (plain, reserved) at h in by (w == 36) never
  where
    by : (b : Bool) → (if (b || true) then None else Some (w ∷ ws)) ≡ Some name → ⊥
    by true e = cc
    by false e = cc

name_word_by : (l : Lexeme) (called : List ℕ) (w : ℕ) (ws : List ℕ) → name_of l ≡ Some called → (w == 92) ≡ false → is_reserved (w ∷ ws) ≡ true → (b : Bool) → is_word (w ∷ ws) l ≡ b → b ≡ false
unfolding name_of
name_word_by l called w ws is plain reserved false found = refl
name_word_by l called w ws is plain reserved true found = absurd (reserved_no_name w ws called plain reserved (ap name_in (sym (worded (w ∷ ws) l found)) ∙ is))

pub name_word : (l : Lexeme) (called : List ℕ) (w : ℕ) (ws : List ℕ) → name_of l ≡ Some called → (w == 92) ≡ false → is_reserved (w ∷ ws) ≡ true → sees_word (w ∷ ws) (Some l) ≡ false
unfolding sees_word
name_word l called w ws is plain reserved = name_word_by l called w ws is plain reserved (is_word (w ∷ ws) l) refl ∙ refl

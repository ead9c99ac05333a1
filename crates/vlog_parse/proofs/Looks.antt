-- What marks, words and names are not.
--     Ends o        a mark stands there that ends an expression
use Rattle.std.proofs.Common.{◌≡◌, ℕ, Bool, true, false, List, [], ◌∷◌, ◌++◌, Option, Some, None, refl, sym, ap, ◌∙◌}
use Rattle.std.specs.Prelude.{◌==◌, ◌||◌, not, if◌then◌else◌, codes}
use Rattle.std.specs.Str.{bytes_eq}
use Rattle.vlog_lex.specs.declared.tokens.Kind.{Kind}
use Rattle.vlog_lex.specs.declared.tokens.Kind.TheVariants.{Identifier, Number, Str, Mark}
use Rattle.vlog_tree.specs.declared.ident.Ident.{Ident}
use Rattle.vlog_tree.specs.Lexemes.{Lexeme, mark_of, mark_in, word_of, word_in, is_mark, is_word, IsMark, IsWord, start}
use Rattle.vlog_tree.specs.Names.{IsIdent, name_of, name_in}
use Rattle.vlog_tree.specs.Reserved.{is_reserved}
use Rattle.vlog_expr.specs.Reading.{place_if, name_if, sees, sees_word}
use Rattle.vlog_expr.proofs.NextLemmas.{is_bytes}
use Rattle.vlog_parse.specs.Parts.{names, is_name, goes_on}
use Rattle.vlog_parse.proofs.Exact.{front}

-- the bytes of a mark and of a word
pub marked : (m : List ℕ) (l : Lexeme) → IsMark m l → mark_of l ≡ m
unfolding is_mark
marked m l is = is_bytes (mark_of l) m is

pub worded : (w : List ℕ) (l : Lexeme) → IsWord w l → word_of l ≡ w
unfolding is_word
worded w l is = is_bytes (word_of l) w is

-- another mark, another word
pub other_mark : (m n : List ℕ) (l : Lexeme) → IsMark m l → bytes_eq m n ≡ false → sees n (Some l) ≡ false
unfolding sees is_mark
other_mark m n l is other = ap (λ z. bytes_eq z n) (marked m l is) ∙ other

pub other_word : (w v : List ℕ) (l : Lexeme) → IsWord w l → bytes_eq w v ≡ false → sees_word v (Some l) ≡ false
unfolding sees_word is_word
other_word w v l is other = ap (λ z. bytes_eq z v) (worded w l is) ∙ other

no_word : (k : Kind) (bs : List ℕ) (m : ℕ) (ms : List ℕ) → mark_in k bs ≡ m ∷ ms → word_in k bs ≡ []
unfolding mark_in word_in
no_word Identifier bs m ms h = cc
no_word Number bs m ms h = cc
no_word Str bs m ms h = cc
no_word Mark bs m ms h = refl

no_mark : (k : Kind) (bs : List ℕ) (w : ℕ) (ws : List ℕ) → word_in k bs ≡ w ∷ ws → mark_in k bs ≡ []
unfolding mark_in word_in
no_mark Identifier bs m ms h = refl
no_mark Number bs m ms h = cc
no_mark Str bs m ms h = cc
no_mark Mark bs m ms h = cc

-- a mark is no word, and a word no mark
pub mark_word : (m : ℕ) (ms : List ℕ) (v : ℕ) (vs : List ℕ) (l : Lexeme) → IsMark (m ∷ ms) l → sees_word (v ∷ vs) (Some l) ≡ false
unfolding sees_word is_word
mark_word m ms v vs l is = ap (λ z. bytes_eq z (v ∷ vs)) (no_word l.kind l.bytes m ms (marked (m ∷ ms) l is))

pub word_mark : (w : ℕ) (ws : List ℕ) (n : ℕ) (ns : List ℕ) (l : Lexeme) → IsWord (w ∷ ws) l → sees (n ∷ ns) (Some l) ≡ false
unfolding sees is_mark
word_mark w ws n ns l is = ap (λ z. bytes_eq z (n ∷ ns)) (no_mark l.kind l.bytes w ws (worded (w ∷ ws) l is))

name_mark_by : (k : Kind) (bs name : List ℕ) → name_in (word_in k bs) ≡ Some name → mark_in k bs ≡ []
unfolding mark_in word_in name_in
name_mark_by Identifier bs name h = refl
name_mark_by Number bs name h = cc
name_mark_by Str bs name h = cc
name_mark_by Mark bs name h = cc

-- a name is neither
pub name_mark : (l : Lexeme) (i : Ident) (n : ℕ) (ns : List ℕ) → IsIdent l i → sees (n ∷ ns) (Some l) ≡ false
unfolding sees is_mark name_of
name_mark l i n ns is = ap (λ z. bytes_eq z (n ∷ ns)) (name_mark_by l.kind l.bytes i.name is.name)

reserved_no_name : (w : ℕ) (ws name : List ℕ) → (w == 92) ≡ false → is_reserved (w ∷ ws) ≡ true → name_in (w ∷ ws) ≡ Some name → ⊥
unfolding name_in
reserved_no_name w ws name plain reserved h = let never = rw (plain, reserved) at h in by (w == 36) never
  where
    by : (b : Bool) → (if (b || true) then None else Some (w ∷ ws)) ≡ Some name → ⊥
    by true e = cc
    by false e = cc

name_word_by : (l : Lexeme) (i : Ident) (w : ℕ) (ws : List ℕ) → IsIdent l i → (w == 92) ≡ false → is_reserved (w ∷ ws) ≡ true → (b : Bool) → is_word (w ∷ ws) l ≡ b → b ≡ false
unfolding name_of
name_word_by l i w ws is plain reserved false found = refl
name_word_by l i w ws is plain reserved true found = absurd (reserved_no_name w ws i.name plain reserved (ap name_in (sym (worded (w ∷ ws) l found)) ∙ is.name))

pub name_word : (l : Lexeme) (i : Ident) (w : ℕ) (ws : List ℕ) → IsIdent l i → (w == 92) ≡ false → is_reserved (w ∷ ws) ≡ true → sees_word (w ∷ ws) (Some l) ≡ false
unfolding sees_word
name_word l i w ws is plain reserved = name_word_by l i w ws is plain reserved (is_word (w ∷ ws) l) refl ∙ refl

-- neither a mark nor a word is a name
pub mark_name : (m : ℕ) (ms : List ℕ) (l : Lexeme) → IsMark (m ∷ ms) l → names (Some l) ≡ false
unfolding names is_name name_if name_of name_in
mark_name m ms l is = ap (λ z. is_name (name_in z)) (no_word l.kind l.bytes m ms (marked (m ∷ ms) l is))

pub word_name : (w : ℕ) (ws : List ℕ) (l : Lexeme) → IsWord (w ∷ ws) l → is_name (name_in (w ∷ ws)) ≡ false → names (Some l) ≡ false
unfolding names is_name name_if name_of name_in
word_name w ws l is reserved = ap (λ z. is_name (name_in z)) (worded (w ∷ ws) l is) ∙ reserved

pub ident_name : (l : Lexeme) (i : Ident) → IsIdent l i → names (Some l) ≡ true
unfolding names is_name name_if
ident_name l i is = ap is_name is.name

-- a mark that ends an expression
pub data Ends (o : Option Lexeme) : Type 0 where
  at_comma : (l : Lexeme) → o ≡ Some l → IsMark (codes ",") l → Ends o
  at_semi : (l : Lexeme) → o ≡ Some l → IsMark (codes ";") l → Ends o
  at_round : (l : Lexeme) → o ≡ Some l → IsMark (codes ")") l → Ends o
  at_square : (l : Lexeme) → o ≡ Some l → IsMark (codes "]") l → Ends o
  at_colon : (l : Lexeme) → o ≡ Some l → IsMark (codes ":") l → Ends o

pub unlike : (m n : List ℕ) (o : Option Lexeme) (l : Lexeme) → o ≡ Some l → IsMark m l → bytes_eq m n ≡ false → sees n o ≡ false
unlike m n o l is marks other = ap (sees n) is ∙ other_mark m n l marks other

pub ends_unlike : (n : List ℕ) {o : Option Lexeme} → Ends o → bytes_eq (codes ",") n ≡ false → bytes_eq (codes ";") n ≡ false → bytes_eq (codes ")") n ≡ false → bytes_eq (codes "]") n ≡ false → bytes_eq (codes ":") n ≡ false → sees n o ≡ false
ends_unlike n {o = o} (at_comma l is marks) a b c d e = unlike (codes ",") n o l is marks a
ends_unlike n {o = o} (at_semi l is marks) a b c d e = unlike (codes ";") n o l is marks b
ends_unlike n {o = o} (at_round l is marks) a b c d e = unlike (codes ")") n o l is marks c
ends_unlike n {o = o} (at_square l is marks) a b c d e = unlike (codes "]") n o l is marks d
ends_unlike n {o = o} (at_colon l is marks) a b c d e = unlike (codes ":") n o l is marks e

-- such a mark
pub record MarkAhead (m : List ℕ) (o : Option Lexeme) : Type 0 where
  pub lexeme : Lexeme
  pub is : o ≡ Some lexeme
  pub marks : IsMark m lexeme

-- a name
pub record NameAhead (o : Option Lexeme) : Type 0 where
  pub lexeme : Lexeme
  pub ident : Ident
  pub is : o ≡ Some lexeme
  pub named : IsIdent lexeme ident

-- the place of the first lexeme
pub placed : (us : List Lexeme) (l : Lexeme) (ls : List Lexeme) (next : Option Lexeme) → us ≡ l ∷ ls → place_if (front us next) ≡ start us
unfolding place_if start
placed us l ls next is = ap (λ z. place_if (front z next)) is ∙ sym (ap start is)

pub placed_at : (us one : List Lexeme) (l : Lexeme) (ls : List Lexeme) (next : Option Lexeme) → us ≡ one ++ l ∷ ls → place_if (front us next) ≡ start us
placed_at us [] l ls next is = placed us l ls next is
placed_at us (m ∷ ms) l ls next is = placed us m (ms ++ l ∷ ls) next is

-- a bracket closes
abbrev pub Closes : Option Lexeme → Type 0
Closes o = MarkAhead (codes ")") o

pub closes_end : (o : Option Lexeme) → Closes o → Ends o
closes_end o c = at_round c.lexeme c.is c.marks

pub closes_no_comma : (o : Option Lexeme) → Closes o → sees (codes ",") o ≡ false
closes_no_comma o c = unlike (codes ")") (codes ",") o c.lexeme c.is c.marks refl

pub closes_sees : (o : Option Lexeme) → Closes o → sees (codes ")") o ≡ true
unfolding sees
closes_sees o c = ap (sees (codes ")")) c.is ∙ c.marks

-- a declaration ends
abbrev pub Finishes : Option Lexeme → Type 0
Finishes o = MarkAhead (codes ";") o

pub finishes_end : (o : Option Lexeme) → Finishes o → Ends o
finishes_end o c = at_semi c.lexeme c.is c.marks

pub finishes_no_comma : (o : Option Lexeme) → Finishes o → sees (codes ",") o ≡ false
finishes_no_comma o c = unlike (codes ";") (codes ",") o c.lexeme c.is c.marks refl

by_comma : (a : Bool) → not (a || true) ≡ false
by_comma true = refl
by_comma false = refl

pub closes_stop : (o : Option Lexeme) → Closes o → goes_on o ≡ false
unfolding goes_on
closes_stop o c = let seen = closes_sees o c in rw seen (by_comma (sees (codes ",") o))

pub comma_stop : (l : Lexeme) → IsMark (codes ",") l → goes_on (Some l) ≡ false
unfolding goes_on sees
comma_stop l is = rw is refl

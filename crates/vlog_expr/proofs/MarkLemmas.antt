-- What marks, names and numbers are not.
--     Quiet r                  nothing goes on with the mark r
--     numbered, called, marked      a number is no mark; a name is neither mark nor number; a mark is neither name nor number
use Rattle.std.proofs.Common.{◌≡◌, ℕ, zero, suc, ◌+◌, ◌<◌, ◌≤◌, Bool, true, false, List, [], ◌∷◌, length, Option, Some, None, refl, sym, ap, ◌∙◌, subst, arith}
use Rattle.std.specs.Prelude.{nat_le, ◌==◌, ◌&&◌, if◌then◌else◌, codes}
use Rattle.std.specs.Str.{bytes_eq}
use Rattle.std.proofs.lemmas.Bool.{leb-false, lt-leb, eqb-true}
use Rattle.vlog_lex.specs.declared.tokens.Kind.{Kind}
use Rattle.vlog_lex.specs.declared.tokens.Kind.TheVariants.{Identifier, Number, Str, Mark}
use Rattle.vlog_tree.specs.declared.expr.Part.{Part}
use Rattle.vlog_tree.specs.declared.expr.Part.TheVariants.{Fixed, Up, Down}
use Rattle.vlog_tree.specs.declared.number.Number as number
use Rattle.vlog_tree.specs.declared.operator.Unary.{Unary}
use Rattle.vlog_tree.specs.declared.operator.Binary.{Binary}
use Rattle.vlog_tree.specs.Lexemes.{Lexeme, mark_of, mark_in, word_in, digits_in, is_mark, IsMark}
use Rattle.vlog_tree.specs.Names.{name_of, name_in}
use Rattle.vlog_tree.specs.Numbers.{number_of, settled_in}
use Rattle.vlog_tree.specs.Operators.{level_of, unary_of, unary_of_one, unary_of_two, binary_of, binary_of_one, binary_of_two, part_of}
use Rattle.vlog_expr.specs.declared.cursor.Next.{Next}
use Rattle.vlog_expr.specs.declared.cursor.Next.TheVariants.{Operator, Question, End}
use Rattle.vlog_expr.specs.Reading.{first, mark_if, sees}
use Rattle.vlog_expr.specs.Exprs.{next_at, operator_from, unary_at}
use Rattle.vlog_expr.proofs.NextLemmas.{is_bytes}

-- the bytes of a mark
pub bytes_of : (m : List ℕ) (l : Lexeme) → IsMark m l → mark_of l ≡ m
unfolding is_mark
bytes_of m l marks = is_bytes (mark_of l) m marks

-- of some kind: a number, a name, a mark
number_kind : (k : Kind) (bs : List ℕ) (n : number.Number) → settled_in (digits_in k bs) ≡ Some n → mark_in k bs ≡ []
unfolding settled_in digits_in mark_in
number_kind Identifier bs n h = refl
number_kind Number bs n h = refl
number_kind Str bs n h = refl
number_kind Mark bs n h = cc

name_kind : (k : Kind) (bs called : List ℕ) → name_in (word_in k bs) ≡ Some called → (mark_in k bs ≡ []) × (settled_in (digits_in k bs) ≡ None)
unfolding settled_in digits_in mark_in word_in name_in
name_kind Identifier bs called h = (refl, refl)
name_kind Number bs called h = cc
name_kind Str bs called h = cc
name_kind Mark bs called h = cc

mark_kind : (k : Kind) (bs : List ℕ) (m : ℕ) (ms : List ℕ) → mark_in k bs ≡ m ∷ ms → (name_in (word_in k bs) ≡ None) × (settled_in (digits_in k bs) ≡ None)
unfolding settled_in digits_in mark_in word_in name_in
mark_kind Identifier bs m ms h = cc
mark_kind Number bs m ms h = cc
mark_kind Str bs m ms h = cc
mark_kind Mark bs m ms h = (refl, refl)

pub numbered : (l : Lexeme) (n : number.Number) → number_of l ≡ Some n → mark_of l ≡ []
unfolding number_of
numbered l n h = number_kind l.kind l.bytes n h

pub called_mark : (l : Lexeme) (called : List ℕ) → name_of l ≡ Some called → mark_of l ≡ []
unfolding name_of
called_mark l called h = (name_kind l.kind l.bytes called h).0

pub called_number : (l : Lexeme) (called : List ℕ) → name_of l ≡ Some called → number_of l ≡ None
unfolding name_of number_of
called_number l called h = (name_kind l.kind l.bytes called h).1

pub marked_name : (l : Lexeme) (m : ℕ) (ms : List ℕ) → mark_of l ≡ m ∷ ms → name_of l ≡ None
unfolding name_of
marked_name l m ms h = (mark_kind l.kind l.bytes m ms h).0

pub marked_number : (l : Lexeme) (m : ℕ) (ms : List ℕ) → mark_of l ≡ m ∷ ms → number_of l ≡ None
unfolding number_of
marked_number l m ms h = (mark_kind l.kind l.bytes m ms h).1

-- no operator, and so none behind an operand
pub ends_at : (level : ℕ) (o : Option Lexeme) → sees (codes "?") o ≡ false → binary_of (mark_if o) ≡ None → next_at level o ≡ End
unfolding next_at operator_from
ends_at level o unasked none = rw (unasked, none) (by (level == 0))
  where
    by : (b : Bool) → (if (b && false) then Question else End) ≡ End
    by true = refl
    by false = refl

-- nothing goes on with the mark: no operator, no `?`, no `[`
pub record Quiet (r : Lexeme) : Type 0 where
  pub ends : (level : ℕ) → next_at level (Some r) ≡ End
  pub opens : sees (codes "[") (Some r) ≡ false

pub quiet : (m : List ℕ) (r : Lexeme) → IsMark m r → binary_of m ≡ None → bytes_eq m (codes "?") ≡ false → bytes_eq m (codes "[") ≡ false → Quiet r
unfolding sees is_mark mark_if
quiet m r marks none unasked unopened =
    let bytes = bytes_of m r marks in
    record {
      ends = λ level. ends_at level (Some r) (ap (λ b. bytes_eq b (codes "?")) bytes ∙ unasked) (ap binary_of bytes ∙ none);
      opens = ap (λ b. bytes_eq b (codes "[")) bytes ∙ unopened;
    }

pub quiet_round : (r : Lexeme) → IsMark (codes ")") r → Quiet r
unfolding binary_of binary_of_one
quiet_round r marks = quiet (codes ")") r marks refl refl refl

pub quiet_square : (r : Lexeme) → IsMark (codes "]") r → Quiet r
unfolding binary_of binary_of_one
quiet_square r marks = quiet (codes "]") r marks refl refl refl

pub quiet_brace : (r : Lexeme) → IsMark (codes "}") r → Quiet r
unfolding binary_of binary_of_one
quiet_brace r marks = quiet (codes "}") r marks refl refl refl

pub quiet_open : (r : Lexeme) → IsMark (codes "{") r → Quiet r
unfolding binary_of binary_of_one
quiet_open r marks = quiet (codes "{") r marks refl refl refl

pub quiet_comma : (r : Lexeme) → IsMark (codes ",") r → Quiet r
unfolding binary_of binary_of_one
quiet_comma r marks = quiet (codes ",") r marks refl refl refl

pub quiet_colon : (r : Lexeme) → IsMark (codes ":") r → Quiet r
unfolding binary_of binary_of_one
quiet_colon r marks = quiet (codes ":") r marks refl refl refl

-- the marks of a part select go on with nothing
Silent : List ℕ → Type 0
Silent bs = (binary_of bs ≡ None) × (bytes_eq bs (codes "?") ≡ false) × (bytes_eq bs (codes "[") ≡ false)

silent_by : (a b c : Bool) (x y : ℕ) (p : Part) → (x == 43) ≡ a → (x == 45) ≡ b → (y == 58) ≡ c
    → (if c then (if a then Some Up else (if b then Some Down else None)) else None) ≡ Some p → Silent (x ∷ y ∷ [])
unfolding Silent binary_of binary_of_two
silent_by true b true x y p f g h seen = subst (λ z. Silent (z ∷ y ∷ [])) (sym (eqb-true x 43 f)) (subst (λ z. Silent (43 ∷ z ∷ [])) (sym (eqb-true y 58 h)) (refl, refl, refl))
silent_by false true true x y p f g h seen = subst (λ z. Silent (z ∷ y ∷ [])) (sym (eqb-true x 45 g)) (subst (λ z. Silent (45 ∷ z ∷ [])) (sym (eqb-true y 58 h)) (refl, refl, refl))
silent_by false false true x y p f g h seen = cc
silent_by a b false x y p f g h seen = cc

silent_one : (a : Bool) (x : ℕ) (p : Part) → (x == 58) ≡ a → (if a then Some Fixed else None) ≡ Some p → Silent (x ∷ [])
unfolding Silent binary_of binary_of_one
silent_one true x p f seen = subst (λ z. Silent (z ∷ [])) (sym (eqb-true x 58 f)) (refl, refl, refl)
silent_one false x p f seen = cc

silent : (bs : List ℕ) (p : Part) → part_of bs ≡ Some p → Silent bs
unfolding part_of
silent [] p seen = cc
silent (x ∷ []) p seen = silent_one (x == 58) x p refl seen
silent (x ∷ y ∷ []) p seen = silent_by (x == 43) (x == 45) (y == 58) x y p refl refl refl seen
silent (x ∷ y ∷ z ∷ bs) p seen = cc

pub quiet_part : (r : Lexeme) (p : Part) → part_of (mark_of r) ≡ Some p → Quiet r
unfolding sees is_mark mark_if Silent
quiet_part r p seen =
    let s = silent (mark_of r) p seen in
    record { ends = λ level. ends_at level (Some r) s.1 s.0; opens = s.2 }

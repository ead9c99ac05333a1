-- What an expression begins with, and lists of expressions without z digits.
use Rattle.std.proofs.Common.{◌≡◌, ℕ, Bool, true, false, List, [], ◌∷◌, ◌++◌, Option, Some, None, refl, sym, ap, ◌∙◌}
use Rattle.std.specs.Prelude.{IsTrue, not, ◌||◌, ◌==◌, codes}
use Rattle.std.specs.List.{list_any}
use Rattle.std.specs.Str.{bytes_eq}
use Rattle.std.proofs.lemmas.List.Folds.{list_any-append}
use Rattle.vlog_lex.specs.declared.tokens.Kind.{Kind}
use Rattle.vlog_lex.specs.declared.tokens.Kind.TheVariants.{Identifier, Number, Str, Mark}
use Rattle.vlog_tree.specs.declared.expr.Expr.{Expr}
use Rattle.vlog_tree.specs.declared.ident.Ident.{Ident}
use Rattle.vlog_tree.specs.declared.number.Number as number
use Rattle.vlog_tree.specs.declared.operator.Unary.{Unary}
use Rattle.vlog_tree.specs.Lexemes.{Lexeme, mark_of, mark_in, word_in, digits_in, is_mark, is_word, IsMark}
use Rattle.vlog_tree.specs.Names.{name_of}
use Rattle.vlog_tree.specs.Numbers.{number_of, has_z, is_z, settled_in}
use Rattle.vlog_tree.specs.Operators.{unary_of, unary_of_one}
use Rattle.vlog_tree.specs.Lists.{SpellsCommas}
use Rattle.vlog_tree.specs.Lists as l
use Rattle.vlog_tree.specs.Expressions.{Spells, SpellsList, SpellsPlain, SpellsPlainList, IsWithoutZ}
use Rattle.vlog_tree.specs.Expressions as e
use Rattle.vlog_tree.specs.Reserved.{is_reserved}
use Rattle.vlog_tree.specs.Depth.{depth, deepest_of}
use Rattle.vlog_expr.specs.Reading.{sees, sees_word}
use Rattle.vlog_expr.proofs.MarkLemmas.{numbered, called_mark}
use Rattle.vlog_parse.specs.Lists.{plain_expr, commas}
use Rattle.vlog_parse.specs.Parts.{goes_on}
use Rattle.vlog_parse.proofs.Exact.{front, Exact, exact_as}
use Rattle.vlog_parse.proofs.Commas.{Fits, Before, exact_list, fit, before}
use Rattle.vlog_parse.proofs.Looks.{Ends, at_comma, marked, other_mark, mark_word, name_word}
use Rattle.vlog_parse.proofs.Given.{exact_expr}

-- a lexeme that may stand first in an expression
pub data Fine (l : Lexeme) : Type 0 where
  a_number : (n : number.Number) → number_of l ≡ Some n → Fine l
  a_name : (called : List ℕ) → name_of l ≡ Some called → Fine l
  an_operator : (op : Unary) → unary_of (mark_of l) ≡ Some op → Fine l
  a_bracket : IsMark (codes "(") l → Fine l
  a_brace : IsMark (codes "{") l → Fine l

pub record Starts (us : List Lexeme) : Type 0 where
  pub lexeme : Lexeme
  pub others : List Lexeme
  pub is : us ≡ lexeme ∷ others
  pub fine : Fine lexeme

longer : {us : List Lexeme} (xs ys : List Lexeme) → us ≡ xs ++ ys → Starts xs → Starts us
longer xs ys parts s = record { lexeme = s.lexeme; others = s.others ++ ys; is = parts ∙ ap (λ z. z ++ ys) s.is; fine = s.fine }

pub starts : {level : ℕ} {us : List Lexeme} {x : Expr} → Spells level us x → Starts us
starts (e.number l n known is x) = record { lexeme = l; others = []; is = is; fine = a_number n known }
starts (e.name l called known is x) = record { lexeme = l; others = []; is = is; fine = a_name called known }
starts (e.index l left right called is i known opens inside closes parts x) = record { lexeme = l; others = left ∷ (is ++ right ∷ []); is = parts; fine = a_name called known }
starts (e.select l left mark right called part is js i j known opens one seen two closes parts x) = record { lexeme = l; others = left ∷ (is ++ mark ∷ (js ++ right ∷ [])); is = parts; fine = a_name called known }
starts (e.brackets left right is i opens inside closes parts x) = record { lexeme = left; others = is ++ right ∷ []; is = parts; fine = a_bracket opens }
starts (e.concat left right is es opens inside closes parts x) = record { lexeme = left; others = is ++ right ∷ []; is = parts; fine = a_brace opens }
starts (e.repeat left inner outer right zs is c es opens count opened inside closed closes parts x) = record { lexeme = left; others = zs ++ inner ∷ (is ++ outer ∷ right ∷ []); is = parts; fine = a_brace opens }
starts (e.unary mark op us u low known inside parts x) = record { lexeme = mark; others = us; is = parts; fine = an_operator op known }
starts (e.binary mark op xs ys a b low one known two parts x) = longer xs (mark ∷ ys) parts (starts one)
starts (e.conditional question colon xs ys zs test a b low one asks two colons three parts x) = longer xs (question ∷ (ys ++ colon ∷ zs)) parts (starts one)

no_bytes : (m : ℕ) (ms : List ℕ) (l : Lexeme) → mark_of l ≡ [] → is_mark (m ∷ ms) l ≡ false
unfolding is_mark
no_bytes m ms l none = ap (λ z. bytes_eq z (m ∷ ms)) none

no_operator : (m : ℕ) (ms : List ℕ) (l : Lexeme) (op : Unary) → unary_of (mark_of l) ≡ Some op → unary_of (m ∷ ms) ≡ None → (b : Bool) → is_mark (m ∷ ms) l ≡ b → b ≡ false
no_operator m ms l op known none false is = refl
no_operator m ms l op known none true is = let same = ap unary_of (marked (m ∷ ms) l is) in cc

-- it is no such mark
pub fine_mark : (m : ℕ) (ms : List ℕ) (l : Lexeme) → Fine l → unary_of (m ∷ ms) ≡ None → bytes_eq (codes "(") (m ∷ ms) ≡ false → bytes_eq (codes "{") (m ∷ ms) ≡ false → sees (m ∷ ms) (Some l) ≡ false
unfolding sees
fine_mark m ms l (a_number n known) none a b = no_bytes m ms l (numbered l n known)
fine_mark m ms l (a_name called known) none a b = no_bytes m ms l (called_mark l called known)
fine_mark m ms l (an_operator op known) none a b = no_operator m ms l op known none (is_mark (m ∷ ms) l) refl ∙ refl
fine_mark m ms l (a_bracket is) none a b = other_mark (codes "(") (m ∷ ms) l is a
fine_mark m ms l (a_brace is) none a b = other_mark (codes "{") (m ∷ ms) l is b

number_no_word : (k : Kind) (bs : List ℕ) (n : number.Number) → settled_in (digits_in k bs) ≡ Some n → word_in k bs ≡ []
unfolding settled_in digits_in word_in
number_no_word Identifier bs n h = cc
number_no_word Number bs n h = refl
number_no_word Str bs n h = refl
number_no_word Mark bs n h = refl

operator_no_word : (k : Kind) (bs : List ℕ) (op : Unary) → unary_of (mark_in k bs) ≡ Some op → word_in k bs ≡ []
unfolding unary_of mark_in word_in
operator_no_word Identifier bs n h = cc
operator_no_word Number bs n h = refl
operator_no_word Str bs n h = refl
operator_no_word Mark bs n h = refl

-- and no reserved word
pub fine_word : (w : ℕ) (ws : List ℕ) (l : Lexeme) → Fine l → (w == 92) ≡ false → is_reserved (w ∷ ws) ≡ true → sees_word (w ∷ ws) (Some l) ≡ false
unfolding sees_word is_word number_of
fine_word w ws l (a_number n known) plain reserved = ap (λ z. bytes_eq z (w ∷ ws)) (number_no_word l.kind l.bytes n known)
fine_word w ws l (a_name called known) plain reserved = let i : Ident = record { place = l.place; name = called } in name_word l i w ws (record { name = known; place = refl }) plain reserved
fine_word w ws l (an_operator op known) plain reserved = ap (λ z. bytes_eq z (w ∷ ws)) (operator_no_word l.kind l.bytes op known)
fine_word w ws l (a_bracket is) plain reserved = mark_word 40 [] w ws l is
fine_word w ws l (a_brace is) plain reserved = mark_word 123 [] w ws l is

-- an expression goes on where one begins
pub plain_goes_on : (us : List Lexeme) (x : Expr) (next : Option Lexeme) → SpellsPlain us x → goes_on (front us next) ≡ true
unfolding goes_on unary_of unary_of_one
plain_goes_on us x next p =
    let s = starts p.spells in
    let comma = fine_mark 44 [] s.lexeme s.fine refl refl refl in
    let round = fine_mark 41 [] s.lexeme s.fine refl refl refl in
    ap (λ z. goes_on (front z next)) s.is ∙ rw (comma, round) refl

-- z digits
none_of : (b : Bool) → IsTrue (not b) → b ≡ false
none_of false h = refl
none_of true h = cc

no_z : (b : Bool) → b ≡ false → IsTrue (not b)
no_z false h = refl
no_z true h = cc

mark_digits : (k : Kind) (bs : List ℕ) (m : ℕ) (ms : List ℕ) → mark_in k bs ≡ m ∷ ms → digits_in k bs ≡ []
unfolding mark_in digits_in
mark_digits Identifier bs m ms h = refl
mark_digits Number bs m ms h = cc
mark_digits Str bs m ms h = refl
mark_digits Mark bs m ms h = refl

mark_z : (m : ℕ) (ms : List ℕ) (l : Lexeme) → IsMark (m ∷ ms) l → has_z l ≡ false
unfolding has_z
mark_z m ms l is = ap (λ z. list_any is_z z) (mark_digits l.kind l.bytes m ms (marked (m ∷ ms) l is))

of_both : (a b c : Bool) → b ≡ false → (a || (b || c)) ≡ (a || c)
of_both true b c h = refl
of_both false true c h = cc
of_both false false c h = refl

either_none : (a b : Bool) → a ≡ false → b ≡ false → (a || b) ≡ false
either_none false false f g = refl
either_none true b f g = cc
either_none false true f g = cc

first_none : (a b : Bool) → (a || b) ≡ false → a ≡ false
first_none false b h = refl
first_none true b h = cc

second_none : (a b : Bool) → (a || b) ≡ false → b ≡ false
second_none false b h = h
second_none true b h = cc

z_of : (us is js : List Lexeme) (comma : Lexeme) → us ≡ is ++ comma ∷ js → IsMark (codes ",") comma → list_any has_z us ≡ (list_any has_z is || list_any has_z js)
z_of us is js comma parts marks = ap (list_any has_z) parts ∙ (list_any-append has_z is (comma ∷ js) ∙ of_both (list_any has_z is) (has_z comma) (list_any has_z js) (mark_z 44 [] comma marks))

pub plain_list_to : {us : List Lexeme} {es : List Expr} → SpellsCommas SpellsPlain us es → SpellsPlainList us es
plain_list_to (l.one x p all) = record { spells = e.one x p.spells all; plain = p.plain }
plain_list_to {us = us} (l.more comma is js x ys p marks o parts all) =
    let t = plain_list_to o in
    record {
      spells = e.more comma is js x ys p.spells marks t.spells parts all;
      plain = no_z (list_any has_z us) (z_of us is js comma parts marks ∙ either_none (list_any has_z is) (list_any has_z js) (none_of (list_any has_z is) p.plain) (none_of (list_any has_z js) t.plain));
    }

plain_list_by : {us : List Lexeme} {es : List Expr} → SpellsList us es → list_any has_z us ≡ false → SpellsCommas SpellsPlain us es
plain_list_by {us = us} (e.one x s all) plain = l.one x (record { spells = s; plain = no_z (list_any has_z us) plain }) all
plain_list_by {us = us} (e.more comma is js x ys s marks o parts all) plain =
    let both = sym (z_of us is js comma parts marks) ∙ plain in
    l.more comma is js x ys (record { spells = s; plain = no_z (list_any has_z is) (first_none (list_any has_z is) (list_any has_z js) both) }) marks
    (plain_list_by o (second_none (list_any has_z is) (list_any has_z js) both)) parts all

pub plain_list_from : {us : List Lexeme} {es : List Expr} → SpellsPlainList us es → SpellsCommas SpellsPlain us es
plain_list_from {us = us} p = plain_list_by p.spells (none_of (list_any has_z us) p.plain)

pub list_starts : {us : List Lexeme} {es : List Expr} → SpellsList us es → Starts us
list_starts (e.one x s all) = starts s
list_starts (e.more comma is js x ys s marks o parts all) = longer is (comma ∷ js) parts (starts s)

-- L(expr), where such a lexeme stands behind
pub exact_exprs : (room : ℕ) (M : Option Lexeme → Type 0) → ((o : Option Lexeme) → M o → Ends o) → ((o : Option Lexeme) → M o → sees (codes ",") o ≡ false)
    → Exact (commas (plain_expr room)) (Fits SpellsPlainList (deepest_of depth) room) (Before M (Fits SpellsPlainList (deepest_of depth) room))
exact_exprs room M ends no_comma =
    exact_as (exact_list SpellsPlain depth room Ends M (λ l is. at_comma l refl is) ends no_comma (exact_expr room))
    (λ us es next f. fit (plain_list_to f.spelled) f.shallow)
    (λ us es next b. before (fit (plain_list_from b.said.spelled) b.said.shallow) b.ahead)

-- Which lexemes are not the word `module`: what expressions are spelled by, and marks, names and other words.
use Rattle.std.proofs.Common.{◌≡◌, ℕ, false, List, [], ◌∷◌, ◌++◌, Some, refl, ap, ◌∙◌}
use Rattle.std.specs.Prelude.{◌||◌, codes}
use Rattle.std.specs.List.{list_any}
use Rattle.std.specs.Str.{bytes_eq}
use Rattle.std.proofs.lemmas.List.Folds.{list_any-append}
use Rattle.vlog_lex.specs.declared.tokens.Kind.{Kind}
use Rattle.vlog_lex.specs.declared.tokens.Kind.TheVariants.{Identifier, Number, Str, Mark}
use Rattle.vlog_tree.specs.declared.ident.Ident.{Ident}
use Rattle.vlog_tree.specs.declared.expr.Expr.{Expr}
use Rattle.vlog_tree.specs.declared.expr.Part.{Part}
use Rattle.vlog_tree.specs.declared.number.Number as n
use Rattle.vlog_tree.specs.declared.operator.Unary as u
use Rattle.vlog_tree.specs.declared.operator.Binary as b
use Rattle.vlog_tree.specs.Lexemes.{Lexeme, mark_in, word_in, digits_in, is_word, IsMark, IsWord}
use Rattle.vlog_tree.specs.Names.{IsIdent, name_of}
use Rattle.vlog_tree.specs.Numbers.{number_of, settled_in}
use Rattle.vlog_tree.specs.Operators.{unary_of, binary_of, part_of}
use Rattle.vlog_tree.specs.Reserved.{is_reserved, reserved_with}
use Rattle.vlog_tree.specs.Expressions.{Spells, SpellsList, number, name, index, select, brackets, concat, repeat, unary, binary, conditional, one, more}
use Rattle.vlog_expr.specs.Reading.{sees_word}
use Rattle.vlog_parse.proofs.Looks.{other_word, mark_word, name_word}

-- none of the lexemes is the word `module`
pub record Free (us : List Lexeme) : Type 0 where
  pub none : list_any (is_word (codes "module")) us ≡ false

pub nothing : Free []
nothing = record { none = refl }

pub behind : (l : Lexeme) {ls : List Lexeme} → is_word (codes "module") l ≡ false → Free ls → Free (l ∷ ls)
behind l {ls = ls} h s = record { none = ap (λ x. x || list_any (is_word (codes "module")) ls) h ∙ s.none }

pub both : {xs ys : List Lexeme} → Free xs → Free ys → Free (xs ++ ys)
both {xs = xs} {ys = ys} s t = record { none = list_any-append (is_word (codes "module")) xs ys ∙ (ap (λ x. x || list_any (is_word (codes "module")) ys) s.none ∙ t.none) }

pub moved : {ls us : List Lexeme} → ls ≡ us → Free us → Free ls
moved e s = record { none = ap (list_any (is_word (codes "module"))) e ∙ s.none }

pub mark : (m : ℕ) (ms : List ℕ) (l : Lexeme) {ls : List Lexeme} → IsMark (m ∷ ms) l → Free ls → Free (l ∷ ls)
unfolding sees_word
mark m ms l is s = behind l (mark_word m ms 109 (codes "odule") l is) s

pub word : (w : List ℕ) (l : Lexeme) {ls : List Lexeme} → IsWord w l → bytes_eq w (codes "module") ≡ false → Free ls → Free (l ∷ ls)
unfolding sees_word
word w l is other s = behind l (other_word w (codes "module") l is other) s

pub ident : (l : Lexeme) (x : Ident) {ls : List Lexeme} → IsIdent l x → Free ls → Free (l ∷ ls)
unfolding sees_word is_reserved reserved_with
ident l x is s = behind l (name_word l x 109 (codes "odule") is refl refl) s

pub called : (l : Lexeme) (c : List ℕ) {ls : List Lexeme} → name_of l ≡ Some c → Free ls → Free (l ∷ ls)
called l c is s = let x : Ident = record { place = l.place; name = c } in ident l x (record { name = is; place = refl }) s

by_number : (k : Kind) (bs : List ℕ) (x : n.Number) → settled_in (digits_in k bs) ≡ Some x → word_in k bs ≡ []
unfolding settled_in digits_in word_in
by_number Identifier bs x h = cc
by_number Number bs x h = refl
by_number Str bs x h = refl
by_number Mark bs x h = refl

by_unary : (k : Kind) (bs : List ℕ) (o : u.Unary) → unary_of (mark_in k bs) ≡ Some o → word_in k bs ≡ []
unfolding mark_in word_in unary_of
by_unary Identifier bs o h = cc
by_unary Number bs o h = refl
by_unary Str bs o h = refl
by_unary Mark bs o h = refl

by_binary : (k : Kind) (bs : List ℕ) (o : b.Binary) → binary_of (mark_in k bs) ≡ Some o → word_in k bs ≡ []
unfolding mark_in word_in binary_of
by_binary Identifier bs o h = cc
by_binary Number bs o h = refl
by_binary Str bs o h = refl
by_binary Mark bs o h = refl

pub by_part : (k : Kind) (bs : List ℕ) (p : Part) → part_of (mark_in k bs) ≡ Some p → word_in k bs ≡ []
unfolding mark_in word_in part_of
by_part Identifier bs p h = cc
by_part Number bs p h = refl
by_part Str bs p h = refl
by_part Mark bs p h = refl

pub wordless : (l : Lexeme) → word_in l.kind l.bytes ≡ [] → is_word (codes "module") l ≡ false
unfolding is_word
wordless l none = ap (λ z. bytes_eq z (codes "module")) none

mutual
  unfolding number_of

  pub free : {level : ℕ} {ls : List Lexeme} {x : Expr} → Spells level ls x → Free ls
  free (number l n known is x) = moved is (behind l (wordless l (by_number l.kind l.bytes n known)) nothing)
  free (name l c known is x) = moved is (called l c known nothing)
  free (index l left right c is i known opens inside closes parts x) = moved parts (called l c known (mark 91 [] left opens (both (free inside) (mark 93 [] right closes nothing))))
  free (select l left m right c part is js i j known opens fst seen snd closes parts x) =
      moved parts (called l c known (mark 91 [] left opens (both (free fst) (behind m (wordless m (by_part m.kind m.bytes part seen)) (both (free snd) (mark 93 [] right closes nothing))))))
  free (brackets left right is i opens inside closes parts x) = moved parts (mark 40 [] left opens (both (free inside) (mark 41 [] right closes nothing)))
  free (concat left right is es opens inside closes parts x) = moved parts (mark 123 [] left opens (both (free_list inside) (mark 125 [] right closes nothing)))
  free (repeat left inner outer right zs is c es opens count opened inside closed closes parts x) =
      moved parts (mark 123 [] left opens (both (free count) (mark 123 [] inner opened (both (free_list inside) (mark 125 [] outer closed (mark 125 [] right closes nothing))))))
  free (unary m op us u low known inside parts x) = moved parts (behind m (wordless m (by_unary m.kind m.bytes op known)) (free inside))
  free (binary m op xs ys a b low fst known snd parts x) = moved parts (both (free fst) (behind m (wordless m (by_binary m.kind m.bytes op known)) (free snd)))
  free (conditional question colon xs ys zs test y z low fst asks snd colons thd parts x) =
      moved parts (both (free fst) (mark 63 [] question asks (both (free snd) (mark 58 [] colon colons (free thd)))))

  pub free_list : {ls : List Lexeme} {es : List Expr} → SpellsList ls es → Free ls
  free_list (one x s es) = free s
  free_list (more comma is js x fs s commas others parts es) = moved parts (both (free s) (mark 44 [] comma commas (free_list others)))

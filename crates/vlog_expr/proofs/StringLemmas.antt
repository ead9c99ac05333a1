-- No lexeme of an expression is a string. So where an expression is spelled by masked lexemes, none of them was masked.
use Rattle.std.proofs.Common.{◌≡◌, ℕ, zero, suc, Bool, true, false, List, [], ◌∷◌, ◌++◌, map, Option, Some, None, refl, sym, ap, ◌∙◌, arith}
use Rattle.std.specs.Prelude.{IsTrue, if◌then◌else◌, codes, ◌||◌, not}
use Rattle.std.specs.List.{list_any}
use Rattle.std.proofs.lemmas.List.Folds.{list_any-append}
use Rattle.vlog_lex.specs.declared.tokens.Kind.{Kind}
use Rattle.vlog_lex.specs.declared.tokens.Kind.TheVariants.{Identifier, Number, Str, Mark}
use Rattle.vlog_tree.specs.declared.expr.Expr.{Expr}
use Rattle.vlog_tree.specs.declared.expr.Part.{Part}
use Rattle.vlog_tree.specs.declared.number.Number as n
use Rattle.vlog_tree.specs.declared.operator.Unary as u
use Rattle.vlog_tree.specs.declared.operator.Binary as b
use Rattle.vlog_tree.specs.Lexemes.{Lexeme, mark_in, word_in, digits_in, mark_of, is_mark, IsMark}
use Rattle.vlog_tree.specs.Names.{name_of, name_in}
use Rattle.vlog_tree.specs.Numbers.{number_of, settled_in, is_z, has_z}
use Rattle.vlog_tree.specs.Operators.{unary_of, binary_of, part_of}
use Rattle.vlog_tree.specs.Expressions.{Spells, SpellsList, number, name, index, select, brackets, concat, repeat, unary, binary, conditional, one, more, IsWithoutZ}
use Rattle.vlog_expr.specs.Plain.{masked, mask}
use Rattle.vlog_expr.proofs.MarkLemmas.{bytes_of}

abbrev pub is_string_kind : Kind → Bool
is_string_kind Identifier = false
is_string_kind Number = false
is_string_kind Str = true
is_string_kind Mark = false

abbrev pub is_string : Lexeme → Bool
is_string l = is_string_kind l.kind

-- no lexeme is a string
pub record Sober (ls : List Lexeme) : Type 0 where
  pub none : list_any is_string ls ≡ false

by_number : (k : Kind) (bs : List ℕ) (x : n.Number) → settled_in (digits_in k bs) ≡ Some x → is_string_kind k ≡ false
unfolding settled_in digits_in
by_number Identifier bs x h = refl
by_number Number bs x h = refl
by_number Str bs x h = cc
by_number Mark bs x h = refl

by_name : (k : Kind) (bs called : List ℕ) → name_in (word_in k bs) ≡ Some called → is_string_kind k ≡ false
unfolding name_in word_in
by_name Identifier bs called h = refl
by_name Number bs called h = refl
by_name Str bs called h = cc
by_name Mark bs called h = refl

by_mark : (k : Kind) (bs : List ℕ) (m : ℕ) (ms : List ℕ) → mark_in k bs ≡ m ∷ ms → is_string_kind k ≡ false
unfolding mark_in
by_mark Identifier bs m ms h = refl
by_mark Number bs m ms h = refl
by_mark Str bs m ms h = cc
by_mark Mark bs m ms h = refl

by_part : (k : Kind) (bs : List ℕ) (p : Part) → part_of (mark_in k bs) ≡ Some p → is_string_kind k ≡ false
unfolding mark_in part_of
by_part Identifier bs p h = refl
by_part Number bs p h = refl
by_part Str bs p h = cc
by_part Mark bs p h = refl

by_unary : (k : Kind) (bs : List ℕ) (o : u.Unary) → unary_of (mark_in k bs) ≡ Some o → is_string_kind k ≡ false
unfolding mark_in unary_of
by_unary Identifier bs o h = refl
by_unary Number bs o h = refl
by_unary Str bs o h = cc
by_unary Mark bs o h = refl

by_binary : (k : Kind) (bs : List ℕ) (o : b.Binary) → binary_of (mark_in k bs) ≡ Some o → is_string_kind k ≡ false
unfolding mark_in binary_of
by_binary Identifier bs o h = refl
by_binary Number bs o h = refl
by_binary Str bs o h = cc
by_binary Mark bs o h = refl

nothing : Sober []
nothing = record { none = refl }

behind : (l : Lexeme) (ls : List Lexeme) → is_string_kind l.kind ≡ false → Sober ls → Sober (l ∷ ls)
behind l ls h s = record { none = ap (λ x. x || list_any is_string ls) h ∙ s.none }

marked : (m : ℕ) (ms : List ℕ) (l : Lexeme) (ls : List Lexeme) → IsMark (m ∷ ms) l → Sober ls → Sober (l ∷ ls)
marked m ms l ls marks s = behind l ls (by_mark l.kind l.bytes m ms (bytes_of (m ∷ ms) l marks)) s

both : (xs ys : List Lexeme) → Sober xs → Sober ys → Sober (xs ++ ys)
both xs ys s t = record { none = list_any-append is_string xs ys ∙ (ap (λ x. x || list_any is_string ys) s.none ∙ t.none) }

moved : {ls us : List Lexeme} → ls ≡ us → Sober us → Sober ls
moved e s = record { none = ap (list_any is_string) e ∙ s.none }

mutual
  unfolding number_of name_of

  pub sober : {level : ℕ} {ls : List Lexeme} {x : Expr} → Spells level ls x → Sober ls
  sober (number l n known is x) = moved is (behind l [] (by_number l.kind l.bytes n known) nothing)
  sober (name l called known is x) = moved is (behind l [] (by_name l.kind l.bytes called known) nothing)
  sober (index l left right called is i known opens inside closes parts x) =
      moved parts (behind l (left ∷ (is ++ right ∷ [])) (by_name l.kind l.bytes called known)
      (marked 91 [] left (is ++ right ∷ []) opens (both is (right ∷ []) (sober inside) (marked 93 [] right [] closes nothing))))
  sober (select l left mark right called part is js i j known opens fst seen snd closes parts x) =
      moved parts (behind l (left ∷ (is ++ mark ∷ (js ++ right ∷ []))) (by_name l.kind l.bytes called known)
      (marked 91 [] left (is ++ mark ∷ (js ++ right ∷ [])) opens (both is (mark ∷ (js ++ right ∷ [])) (sober fst)
      (behind mark (js ++ right ∷ []) (by_part mark.kind mark.bytes part seen) (both js (right ∷ []) (sober snd) (marked 93 [] right [] closes nothing))))))
  sober (brackets left right is i opens inside closes parts x) =
      moved parts (marked 40 [] left (is ++ right ∷ []) opens (both is (right ∷ []) (sober inside) (marked 41 [] right [] closes nothing)))
  sober (concat left right is es opens inside closes parts x) =
      moved parts (marked 123 [] left (is ++ right ∷ []) opens (both is (right ∷ []) (sober_list inside) (marked 125 [] right [] closes nothing)))
  sober (repeat left inner outer right zs is c es opens count opened inside closed closes parts x) =
      moved parts (marked 123 [] left (zs ++ inner ∷ (is ++ outer ∷ right ∷ [])) opens (both zs (inner ∷ (is ++ outer ∷ right ∷ [])) (sober count)
      (marked 123 [] inner (is ++ outer ∷ right ∷ []) opened (both is (outer ∷ right ∷ []) (sober_list inside)
      (marked 125 [] outer (right ∷ []) closed (marked 125 [] right [] closes nothing))))))
  sober (unary mark op us u low known inside parts x) = moved parts (behind mark us (by_unary mark.kind mark.bytes op known) (sober inside))
  sober (binary mark op xs ys a b low fst known snd parts x) =
      moved parts (both xs (mark ∷ ys) (sober fst) (behind mark ys (by_binary mark.kind mark.bytes op known) (sober snd)))
  sober (conditional question colon xs ys zs test yy nn low fst asks snd colons thd parts x) =
      moved parts (both xs (question ∷ (ys ++ colon ∷ zs)) (sober fst) (marked 63 [] question (ys ++ colon ∷ zs) asks
      (both ys (colon ∷ zs) (sober snd) (marked 58 [] colon zs colons (sober thd)))))

  pub sober_list : {ls : List Lexeme} {es : List Expr} → SpellsList ls es → Sober ls
  sober_list (one x spelled es) = sober spelled
  sober_list (more comma is js x fs spelled commas others parts es) =
      moved parts (both is (comma ∷ js) (sober spelled) (marked 44 [] comma js commas (sober_list others)))

-- masked lexemes that are no strings were not masked
kind_by : (z : Bool) → is_string_kind (if z then Str else Number) ≡ false → ((if z then Str else Number) ≡ Number) × (z ≡ false)
kind_by true h = cc
kind_by false h = (refl, refl)

kind_same : (k : Kind) (bs : List ℕ) → is_string_kind (masked k bs) ≡ false → (masked k bs ≡ k) × (list_any is_z (digits_in k bs) ≡ false)
unfolding masked digits_in
kind_same Identifier bs h = (refl, refl)
kind_same Number bs h = kind_by (list_any is_z bs) h
kind_same Str bs h = cc
kind_same Mark bs h = (refl, refl)

or_left : (x y : Bool) → (x || y) ≡ false → x ≡ false
or_left true y h = h
or_left false y h = refl

or_right : (x y : Bool) → (x || y) ≡ false → y ≡ false
or_right true y h = cc
or_right false y h = h

pub unmasked : (ls : List Lexeme) → Sober (map mask ls) → (map mask ls ≡ ls) × (list_any has_z ls ≡ false)
unfolding mask has_z
unmasked [] s = (refl, refl)
unmasked (l ∷ ls) s =
    let rest = unmasked ls (record { none = or_right (is_string (mask l)) (list_any is_string (map mask ls)) s.none }) in
    let same = kind_same l.kind l.bytes (or_left (is_string (mask l)) (list_any is_string (map mask ls)) s.none) in
    (ap (λ k. record { kind = k; bytes = l.bytes; place = l.place } ∷ map mask ls) same.0 ∙ ap (λ xs. l ∷ xs) rest.0, ap (λ x. x || list_any has_z ls) same.1 ∙ rest.1)

pub without : (ls : List Lexeme) → list_any has_z ls ≡ false → IsWithoutZ ls
without ls h = rw h refl

pub without_any : (ls : List Lexeme) → IsWithoutZ ls → list_any has_z ls ≡ false
without_any ls h = by (list_any has_z ls) h
  where
    by : (x : Bool) → IsTrue (not x) → x ≡ false
    by true h = cc
    by false h = refl

-- where there are no z digits nothing is masked
kind_without : (k : Kind) (bs : List ℕ) → list_any is_z (digits_in k bs) ≡ false → masked k bs ≡ k
unfolding masked digits_in
kind_without Identifier bs h = refl
kind_without Number bs h = ap (λ z. if z then Str else Number) h
kind_without Str bs h = refl
kind_without Mark bs h = refl

pub mask-without : (ls : List Lexeme) → list_any has_z ls ≡ false → map mask ls ≡ ls
unfolding mask has_z
mask-without [] h = refl
mask-without (l ∷ ls) h =
    ap (λ k. record { kind = k; bytes = l.bytes; place = l.place } ∷ map mask ls) (kind_without l.kind l.bytes (or_left (list_any is_z (digits_in l.kind l.bytes)) (list_any has_z ls) h))
    ∙ ap (λ xs. l ∷ xs) (mask-without ls (or_right (list_any is_z (digits_in l.kind l.bytes)) (list_any has_z ls) h))

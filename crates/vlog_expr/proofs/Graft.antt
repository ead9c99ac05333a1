-- What goes on with an expression: behind an operator, a `?` or the `[` behind a name some expression goes on.
use Rattle.std.proofs.Common.{◌≡◌, ℕ, zero, suc, ◌+◌, ◌<◌, ◌≤◌, Bool, true, false, ◌⊎◌, inl, inr, List, [], ◌∷◌, ◌++◌, length, Option, Some, None, refl, sym, ap, ◌∙◌, subst, append_assoc, arith}
use Rattle.std.specs.Prelude.{codes, nat_le}
use Rattle.std.proofs.lemmas.Bool.{leb-true, leb-false}
use Rattle.rdc_outside.specs.declared.source.Place.{Place}
use Rattle.vlog_lex.specs.declared.tokens.Kind.TheVariants.{Identifier, Mark}
use Rattle.vlog_tree.specs.declared.expr.Expr.{Expr}
use Rattle.vlog_tree.specs.declared.expr.Expr.TheVariants as e
use Rattle.vlog_tree.specs.declared.operator.Binary.{Binary}
use Rattle.vlog_tree.specs.Lexemes.{Lexeme, IsMark, is_mark, mark_in, mark_of, word_in, start}
use Rattle.vlog_tree.specs.Names.{name_of, name_in}
use Rattle.vlog_tree.specs.Reserved.{is_reserved, reserved_with}
use Rattle.vlog_tree.specs.Operators.{level_of, binary_of}
use Rattle.vlog_tree.specs.Expressions.{Spells, number, name, index, select, brackets, concat, repeat, unary, binary, conditional}
use Rattle.vlog_expr.proofs.NextLemmas.{some_level, low_level}
use Rattle.vlog_expr.proofs.OpenLemmas.{ends_open, open-Number, open-Name, open-Index, open-Select, open-Brackets, open-Concat, open-Repeat, open-Unary, open-Binary, open-Conditional}

-- a name, and the marks that close
pub some_name : Place → Lexeme
some_name place = record { kind = Identifier; bytes = 97 ∷ []; place = place }

pub some_mark : List ℕ → Place → Lexeme
some_mark bytes place = record { kind = Mark; bytes = bytes; place = place }

is_name : (place : Place) → name_of (some_name place) ≡ Some (97 ∷ [])
unfolding some_name name_of name_in word_in is_reserved reserved_with
is_name place = refl

marks_colon : (place : Place) → IsMark (codes ":") (some_mark (codes ":") place)
unfolding some_mark is_mark mark_in
marks_colon place = refl

marks_square : (place : Place) → IsMark (codes "]") (some_mark (codes "]") place)
unfolding some_mark is_mark mark_in
marks_square place = refl

-- the name alone, at any level
a_name : (level : ℕ) (place : Place) → Spells level (some_name place ∷ []) (e.Name (start (some_name place ∷ [])) (97 ∷ []))
a_name level place = name (some_name place) (97 ∷ []) (is_name place) refl refl

-- some expression is spelled so
pub record Goes (level : ℕ) (ls : List Lexeme) : Type 0 where
  pub expr : Expr
  pub spelled : Spells level ls expr

-- behind an operator
behind : (level : ℕ) (t : Lexeme) (o : Binary) (ls : List Lexeme) (x : Expr) → binary_of (mark_of t) ≡ Some o → Spells (level_of o) ls x → level ≤ level_of o → Goes level (ls ++ t ∷ some_name t.place ∷ [])
behind level t o ls x known spelled low = record { expr = _; spelled = binary t o ls (some_name t.place ∷ []) x _ low spelled known (a_name (level_of o + 1) t.place) refl refl }

pub after_operator : {j : ℕ} {ls : List Lexeme} {x : Expr} → Spells j ls x → (level : ℕ) (t : Lexeme) (o : Binary) → binary_of (mark_of t) ≡ Some o → level ≤ j → level ≤ level_of o → Goes level (ls ++ t ∷ some_name t.place ∷ [])
after_operator {ls = ls} {x = x} (number l n a b c) level t o known low lower = behind level t o ls x known (number l n a b c) lower
after_operator {ls = ls} {x = x} (name l n a b c) level t o known low lower = behind level t o ls x known (name l n a b c) lower
after_operator {ls = ls} {x = x} (index l m r n is i a b c d f g) level t o known low lower = behind level t o ls x known (index l m r n is i a b c d f g) lower
after_operator {ls = ls} {x = x} (select l m q r n p is js i j a b c d f g h k) level t o known low lower = behind level t o ls x known (select l m q r n p is js i j a b c d f g h k) lower
after_operator {ls = ls} {x = x} (brackets l r is i a b c d f) level t o known low lower = behind level t o ls x known (brackets l r is i a b c d f) lower
after_operator {ls = ls} {x = x} (concat l r is i a b c d f) level t o known low lower = behind level t o ls x known (concat l r is i a b c d f) lower
after_operator {ls = ls} {x = x} (repeat l m q r zs is i es a b c d f g h k) level t o known low lower = behind level t o ls x known (repeat l m q r zs is i es a b c d f g h k) lower
after_operator {ls = ls} {x = x} (unary m p us u top a b c d) level t o known low lower =
    behind level t o ls x known (unary m p us u (let few = low_level o in omega arith) a b c d) lower
after_operator {ls = ls} {x = x} (binary m p xs ys a b top c d f parts g) level t o known low lower =
    by (nat_le (level_of o) (level_of p)) refl (λ more. after_operator f (level_of p + 1) t o known (omega arith) more)
  where
    by : (fits : Bool) → nat_le (level_of o) (level_of p) ≡ fits → (level_of p + 1 ≤ level_of o → Goes (level_of p + 1) (ys ++ t ∷ some_name t.place ∷ [])) → Goes level (ls ++ t ∷ some_name t.place ∷ [])
    by true fits deeper = behind level t o ls x known (binary m p xs ys a b (leb-true (level_of o) (level_of p) fits) c d f parts g) lower
    by false fits deeper =
        let more = leb-false (level_of o) (level_of p) fits in
        let s = deeper (omega arith) in
        record {
          expr = _;
          spelled = binary m p xs (ys ++ t ∷ some_name t.place ∷ []) a s.expr (omega arith) c d s.spelled
              (ap (λ z. z ++ t ∷ some_name t.place ∷ []) parts ∙ append_assoc xs (m ∷ ys) (t ∷ some_name t.place ∷ [])) refl;
        }
after_operator {ls = ls} {x = x} (conditional q k xs ys zs a b c none d f g h i parts m) level t o known low lower =
    let s = after_operator i 0 t o known (omega arith) (omega arith) in
    record {
      expr = _;
      spelled = conditional q k xs ys (zs ++ t ∷ some_name t.place ∷ []) a b s.expr (omega arith) d f g h s.spelled
          (ap (λ z. z ++ t ∷ some_name t.place ∷ []) parts ∙ (append_assoc xs (q ∷ (ys ++ k ∷ zs)) (t ∷ some_name t.place ∷ []) ∙ ap (λ z. xs ++ q ∷ z) (append_assoc ys (k ∷ zs) (t ∷ some_name t.place ∷ [])))) refl;
    }

-- behind `?`
unfoldable pub questioned : Lexeme → List Lexeme
questioned t = t ∷ some_name t.place ∷ some_mark (codes ":") t.place ∷ some_name t.place ∷ []

asks_behind : (t : Lexeme) (ls : List Lexeme) (x : Expr) → IsMark (codes "?") t → Spells 1 ls x → Goes 0 (ls ++ questioned t)
unfolding questioned
asks_behind t ls x asks spelled =
    record { expr = _; spelled = conditional t (some_mark (codes ":") t.place) ls (some_name t.place ∷ []) (some_name t.place ∷ []) x _ _ refl spelled asks (a_name 0 t.place) (marks_colon t.place) (a_name 0 t.place) refl refl }

pub after_question : {j : ℕ} {ls : List Lexeme} {x : Expr} → Spells j ls x → (t : Lexeme) → IsMark (codes "?") t → Goes 0 (ls ++ questioned t)
after_question {ls = ls} {x = x} (number l n a b c) t asks = asks_behind t ls x asks (number l n a b c)
after_question {ls = ls} {x = x} (name l n a b c) t asks = asks_behind t ls x asks (name l n a b c)
after_question {ls = ls} {x = x} (index l m r n is i a b c d f g) t asks = asks_behind t ls x asks (index l m r n is i a b c d f g)
after_question {ls = ls} {x = x} (select l m q r n p is js i j a b c d f g h k) t asks = asks_behind t ls x asks (select l m q r n p is js i j a b c d f g h k)
after_question {ls = ls} {x = x} (brackets l r is i a b c d f) t asks = asks_behind t ls x asks (brackets l r is i a b c d f)
after_question {ls = ls} {x = x} (concat l r is i a b c d f) t asks = asks_behind t ls x asks (concat l r is i a b c d f)
after_question {ls = ls} {x = x} (repeat l m q r zs is i es a b c d f g h k) t asks = asks_behind t ls x asks (repeat l m q r zs is i es a b c d f g h k)
after_question {ls = ls} {x = x} (unary m p us u top a b c d) t asks = asks_behind t ls x asks (unary m p us u (omega arith) a b c d)
after_question {ls = ls} {x = x} (binary m p xs ys a b top c d f parts g) t asks = asks_behind t ls x asks (binary m p xs ys a b (some_level p) c d f parts g)
after_question {ls = ls} {x = x} (conditional q k xs ys zs a b c none d f g h i parts m) t asks =
    let s = after_question i t asks in
    record {
      expr = _;
      spelled = conditional q k xs ys (zs ++ questioned t) a b s.expr refl d f g h s.spelled
          (ap (λ z. z ++ questioned t) parts ∙ (append_assoc xs (q ∷ (ys ++ k ∷ zs)) (questioned t) ∙ ap (λ z. xs ++ q ∷ z) (append_assoc ys (k ∷ zs) (questioned t)))) refl;
    }

-- behind the `[` of a name
unfoldable pub selected : Lexeme → List Lexeme
selected t = t ∷ some_name t.place ∷ some_mark (codes "]") t.place ∷ []

pub after_open : {j : ℕ} {ls : List Lexeme} {x : Expr} → Spells j ls x → ends_open x ≡ true → (level : ℕ) (t : Lexeme) → IsMark (codes "[") t → level ≤ j → Goes level (ls ++ selected t)
unfolding selected
after_open {ls = ls} (number l n a b c) opens level t marks low = let never = ap ends_open c ∙ open-Number (start ls) n in cc
after_open (name l n a parts c) opens level t marks low =
    record { expr = _; spelled = index l t (some_mark (codes "]") t.place) n (some_name t.place ∷ []) _ a marks (a_name 0 t.place) (marks_square t.place) (ap (λ z. z ++ selected t) parts) refl }
after_open {ls = ls} (index l m r n is i a b c d f g) opens level t marks low = let never = ap ends_open g ∙ open-Index (start ls) n i in cc
after_open {ls = ls} (select l m q r n p is js i j a b c d f g h k) opens level t marks low = let never = ap ends_open k ∙ open-Select (start ls) n p i j in cc
after_open {ls = ls} (brackets l r is i a b c d f) opens level t marks low = let never = ap ends_open f ∙ open-Brackets (start ls) i in cc
after_open {ls = ls} (concat l r is i a b c d f) opens level t marks low = let never = ap ends_open f ∙ open-Concat (start ls) i in cc
after_open {ls = ls} (repeat l m q r zs is i es a b c d f g h k) opens level t marks low = let never = ap ends_open k ∙ open-Repeat (start ls) i es in cc
after_open {ls = ls} (unary m p us u top a b parts d) opens level t marks low =
    let s = after_open b (sym (open-Unary (start ls) p u) ∙ (sym (ap ends_open d) ∙ opens)) 13 t marks (omega arith) in
    record { expr = _; spelled = unary m p (us ++ selected t) s.expr (omega arith) a s.spelled (ap (λ z. z ++ selected t) parts) refl }
after_open {ls = ls} (binary m p xs ys a b top c d f parts g) opens level t marks low =
    let s = after_open f (sym (open-Binary (start ls) p a b) ∙ (sym (ap ends_open g) ∙ opens)) (level_of p + 1) t marks (omega arith) in
    record {
      expr = _;
      spelled = binary m p xs (ys ++ selected t) a s.expr (omega arith) c d s.spelled
          (ap (λ z. z ++ selected t) parts ∙ append_assoc xs (m ∷ ys) (selected t)) refl;
    }
after_open {ls = ls} (conditional q k xs ys zs a b c none d f g h i parts m) opens level t marks low =
    let s = after_open i (sym (open-Conditional (start ls) a b c) ∙ (sym (ap ends_open m) ∙ opens)) 0 t marks (omega arith) in
    record {
      expr = _;
      spelled = conditional q k xs ys (zs ++ selected t) a b s.expr (omega arith) d f g h s.spelled
          (ap (λ z. z ++ selected t) parts ∙ (append_assoc xs (q ∷ (ys ++ k ∷ zs)) (selected t) ∙ ap (λ z. xs ++ q ∷ z) (append_assoc ys (k ∷ zs) (selected t)))) refl;
    }

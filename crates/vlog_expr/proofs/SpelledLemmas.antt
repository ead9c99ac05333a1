-- What is spelled: it has lexemes, at least as many as it is deep, and the first of them is its place.
use Rattle.std.proofs.Common.{◌≡◌, ℕ, zero, suc, ◌+◌, ◌<◌, ◌≤◌, max, List, [], ◌∷◌, ◌++◌, length, refl, sym, ap, ◌∙◌, append_assoc, length-append, arith}
use Rattle.rdc_outside.specs.declared.source.Place.{Place}
use Rattle.vlog_tree.specs.declared.expr.Expr.{Expr}
use Rattle.vlog_tree.specs.declared.expr.Expr.TheVariants as e
use Rattle.vlog_tree.specs.Lexemes.{Lexeme, start}
use Rattle.vlog_tree.specs.Operators.{level_of}
use Rattle.vlog_tree.specs.Expressions.{Spells, SpellsList, number, name, index, select, brackets, concat, repeat, unary, binary, conditional, one, more}
use Rattle.vlog_tree.specs.Depth.{depth, deepest_of}
use Rattle.vlog_tree.proofs.DepthLemmas.{depth-Number, depth-Name, depth-Index, depth-Select, depth-Brackets, depth-Concat, depth-Repeat, depth-Unary, depth-Binary, depth-Conditional, deepest-nil, deepest-cons, deepest-one}

-- the depth is some, and no more than the lexemes
pub record Sized (ls : List Lexeme) (d : ℕ) : Type 0 where
  pub some : 1 ≤ d
  pub most : d ≤ length ls

mutual
  pub sized : {level : ℕ} {ls : List Lexeme} {x : Expr} → Spells level ls x → Sized ls (depth x)
  sized {ls = ls} (number l n known is x) = let d = ap depth x ∙ depth-Number (start ls) n in let c = ap length is in record { some = omega arith; most = omega arith }
  sized {ls = ls} (name l called known is x) = let d = ap depth x ∙ depth-Name (start ls) called in let c = ap length is in record { some = omega arith; most = omega arith }
  sized {ls = ls} (index l left right called is i known opens inside closes parts x) =
      let d = ap depth x ∙ depth-Index (start ls) called i in let c = ap length parts in let s = sized inside in
      record { some = omega arith; most = omega (arith, length-append is (right ∷ [])) }
  sized {ls = ls} (select l left mark right called part is js i j known opens fst seen snd closes parts x) =
      let d = ap depth x ∙ depth-Select (start ls) called part i j in let c = ap length parts in let s = sized fst in let t = sized snd in
      record { some = omega arith; most = omega (arith, length-append is (mark ∷ (js ++ right ∷ [])), length-append js (right ∷ [])) }
  sized {ls = ls} (brackets left right is i opens inside closes parts x) =
      let d = ap depth x ∙ depth-Brackets (start ls) i in let c = ap length parts in let s = sized inside in
      record { some = omega arith; most = omega (arith, length-append is (right ∷ [])) }
  sized {ls = ls} (concat left right is es opens inside closes parts x) =
      let d = ap depth x ∙ depth-Concat (start ls) es in let c = ap length parts in let s = sized_list inside in
      record { some = omega arith; most = omega (arith, length-append is (right ∷ [])) }
  sized {ls = ls} (repeat left inner outer right zs is c es opens count opened inside closed closes parts x) =
      let d = ap depth x ∙ depth-Repeat (start ls) c es in let n = ap length parts in let s = sized count in let t = sized_list inside in
      record { some = omega arith; most = omega (arith, length-append zs (inner ∷ (is ++ outer ∷ right ∷ [])), length-append is (outer ∷ right ∷ [])) }
  sized {ls = ls} (unary mark op us u low known inside parts x) =
      let d = ap depth x ∙ depth-Unary (start ls) op u in let c = ap length parts in let s = sized inside in
      record { some = omega arith; most = omega arith }
  sized {ls = ls} (binary mark op xs ys a b low fst known snd parts x) =
      let d = ap depth x ∙ depth-Binary (start ls) op a b in let c = ap length parts in let s = sized fst in let t = sized snd in
      record { some = omega arith; most = omega (arith, length-append xs (mark ∷ ys)) }
  sized {ls = ls} (conditional question colon xs ys zs test yy nn low fst asks snd colons thd parts x) =
      let d = ap depth x ∙ depth-Conditional (start ls) test yy nn in let c = ap length parts in let s = sized fst in let t = sized snd in let u = sized thd in
      record { some = omega arith; most = omega (arith, length-append xs (question ∷ (ys ++ colon ∷ zs)), length-append ys (colon ∷ zs)) }

  pub sized_list : {ls : List Lexeme} {es : List Expr} → SpellsList ls es → Sized ls (deepest_of depth es)
  sized_list {ls = ls} (one x spelled es) = let d = ap (deepest_of depth) es ∙ deepest-one x in let s = sized spelled in record { some = omega arith; most = omega arith }
  sized_list {ls = ls} (more comma is js x fs spelled commas others parts es) =
      let d = ap (deepest_of depth) es ∙ deepest-cons x fs in let c = ap length parts in let s = sized spelled in let t = sized_list others in
      record { some = omega arith; most = omega (arith, length-append is (comma ∷ js)) }

start_long : (us vs : List Lexeme) → 1 ≤ length us → start (us ++ vs) ≡ start us
unfolding start
start_long [] vs some = absurd (omega arith)
start_long (l ∷ us) vs some = refl

-- the place doesn't change with what follows
pub start_same : {level : ℕ} {ls : List Lexeme} {x : Expr} → Spells level ls x → (vs : List Lexeme) → start (ls ++ vs) ≡ start ls
start_same {ls = ls} spelled vs = let s = sized spelled in start_long ls vs (omega arith)

-- What is read is spelled, and no deeper than was wanted.
use Rattle.std.proofs.Common.{◌≡◌, ℕ, zero, suc, ◌+◌, ◌-◌, ◌<◌, ◌≤◌, max, Bool, true, false, List, [], ◌∷◌, ◌++◌, length, drop, Option, Some, None, Result, Ok, Err, refl, sym, ap, ◌∙◌, subst, append_assoc, arith}
use Rattle.std.specs.Prelude.{nat_le, IsTrue, if◌then◌else◌, codes}
use Rattle.rdc_outside.specs.declared.source.Place.{Place}
use Rattle.vlog_tree.specs.declared.expr.Expr.{Expr}
use Rattle.vlog_tree.specs.declared.expr.Expr.TheVariants as e
use Rattle.vlog_tree.specs.declared.expr.Part.{Part}
use Rattle.vlog_tree.specs.declared.number.Number.{Number}
use Rattle.vlog_tree.specs.declared.operator.Unary.{Unary}
use Rattle.vlog_tree.specs.declared.operator.Binary.{Binary}
use Rattle.vlog_tree.specs.Lexemes.{Lexeme, IsMark, is_mark, mark_of, start}
use Rattle.vlog_tree.specs.Names.{name_of}
use Rattle.vlog_tree.specs.Numbers.{number_of}
use Rattle.vlog_tree.specs.Operators.{level_of, part_of, unary_of, binary_of}
use Rattle.vlog_tree.specs.Expressions as spelling
use Rattle.vlog_tree.specs.Expressions.{Spells, SpellsList}
use Rattle.vlog_tree.specs.Depth.{depth, deepest_of}
use Rattle.vlog_tree.proofs.DepthLemmas.{depth-Number, depth-Name, depth-Index, depth-Select, depth-Brackets, depth-Concat, depth-Repeat, depth-Unary, depth-Binary, depth-Conditional, deepest-nil, deepest-cons}
use Rattle.vlog_expr.specs.declared.stuck.Stuck.{Stuck}
use Rattle.vlog_expr.specs.declared.stuck.Stuck.TheVariants.{Wrong, Deep}
use Rattle.vlog_expr.specs.declared.cursor.Next.{Next}
use Rattle.vlog_expr.specs.declared.cursor.Next.TheVariants.{Operator, Question, End}
use Rattle.vlog_expr.specs.Reading.{Outcome, Reader, first, onward, ◌>>=◌, ◌>>◌, pure, stop, sees, expect, mark_if, name_if, number_if, place_if}
use Rattle.vlog_expr.specs.Exprs.{next_at, operator_from, unary_at, part_if, within, select_by, select, named, brackets, others_from, others, repeat, concat, braces, braced, group, name_by, primary_by, primary, negated, operand_by, operand, choice, right, step_by, climb, whole, expr}
use Rattle.vlog_expr.proofs.Inversion.{went, met, gave, with_last, with_middle}

-- what is read is spelled, and no deeper than the limit
pub record Sound (limit level : ℕ) (ls : List Lexeme) (x : Expr) (rest : List Lexeme) : Type 0 where
  pub taken : List Lexeme
  pub parts : ls ≡ taken ++ rest
  pub spelled : Spells level taken x
  pub shallow : depth x ≤ limit

-- the same at any level
pub record SoundPrimary (limit : ℕ) (l : Lexeme) (ls : List Lexeme) (x : Expr) (rest : List Lexeme) : Type 0 where
  pub taken : List Lexeme
  pub parts : l ∷ ls ≡ (l ∷ taken) ++ rest
  pub spelled : (level : ℕ) → Spells level (l ∷ taken) x
  pub shallow : depth x ≤ limit

-- the same of a list
pub record SoundList (limit : ℕ) (ls : List Lexeme) (xs : List Expr) (rest : List Lexeme) : Type 0 where
  pub taken : List Lexeme
  pub parts : ls ≡ taken ++ rest
  pub spelled : SpellsList taken xs
  pub shallow : deepest_of depth xs ≤ limit

module _ (room : ℕ) (inner : ℕ → Reader Expr) (read : (level : ℕ) (ls : List Lexeme) (x : Expr) (rest : List Lexeme) → inner level ls ≡ (Ok x, rest) → Sound room level ls x rest) where
  part : (level : ℕ) (ls : List Lexeme) (x : Expr) → (inner level ls).0 ≡ Ok x → Sound room level ls x (inner level ls).1
  part level ls x was = read level ls x (inner level ls).1 (ap (λ v. (v, (inner level ls).1)) was)

  brackets_sound : (l : Lexeme) (ls : List Lexeme) (x : Expr) (rest : List Lexeme) → IsMark (codes "(") l → brackets room inner l.place (l ∷ ls) ≡ (Ok x, rest) → SoundPrimary (suc room) l ls x rest
  unfolding brackets start
  brackets_sound l ls x rest mark h =
      let i = went (inner 0 ls).0 (inner 0 ls).1 (λ i. expect (codes ")") >> pure (e.Brackets l.place i)) x rest h in
      let s = part 0 ls i.answer i.was in
      let m = met (codes ")") (inner 0 ls).1 (pure (e.Brackets l.place i.answer)) x rest i.onwards in
      let g = gave (e.Brackets l.place i.answer) m.mid x rest m.onwards in
      let deep = ap depth g.same ∙ depth-Brackets l.place i.answer in
      let inside = s.shallow in
      record {
        taken = s.taken ++ m.lexeme ∷ [];
        parts = ap (λ xs. l ∷ xs) (with_last s.taken rest m.lexeme s.parts (m.is ∙ ap (λ xs. m.lexeme ∷ xs) g.left));
        spelled = λ level. spelling.brackets l m.lexeme s.taken i.answer mark s.spelled m.marks refl g.same;
        shallow = omega arith;
      }

  index_sound : (l left : Lexeme) (called : List ℕ) (ls : List Lexeme) (i x : Expr) (rest : List Lexeme) (s : Sound room 0 ls i (inner 0 ls).1)
      → name_of l ≡ Some called → IsMark (codes "[") left → select_by room inner l.place called i None (inner 0 ls).1 ≡ (Ok x, rest) → SoundPrimary (suc room) l (left ∷ ls) x rest
  unfolding select_by start
  index_sound l left called ls i x rest s name mark h =
      let m = met (codes "]") (inner 0 ls).1 (pure (e.Index l.place called i)) x rest h in
      let g = gave (e.Index l.place called i) m.mid x rest m.onwards in
      let deep = ap depth g.same ∙ depth-Index l.place called i in
      let inside = s.shallow in
      record {
        taken = left ∷ (s.taken ++ m.lexeme ∷ []);
        parts = ap (λ xs. l ∷ left ∷ xs) (with_last s.taken rest m.lexeme s.parts (m.is ∙ ap (λ xs. m.lexeme ∷ xs) g.left));
        spelled = λ level. spelling.index l left m.lexeme called s.taken i name mark s.spelled m.marks refl g.same;
        shallow = omega arith;
      }

  part_sound : (l left mark : Lexeme) (called : List ℕ) (ls mid : List Lexeme) (part_is : Part) (i x : Expr) (rest : List Lexeme) (s : Sound room 0 ls i (mark ∷ mid))
      → name_of l ≡ Some called → IsMark (codes "[") left → part_of (mark_of mark) ≡ Some part_is
      → select_by room inner l.place called i (Some part_is) (mark ∷ mid) ≡ (Ok x, rest) → SoundPrimary (suc room) l (left ∷ ls) x rest
  unfolding select_by start
  part_sound l left mark called ls mid part_is i x rest s name opens parts h =
      let j = went (inner 0 mid).0 (inner 0 mid).1 (λ j. expect (codes "]") >> pure (e.Select part_is l.place called i j)) x rest h in
      let t = part 0 mid j.answer j.was in
      let m = met (codes "]") (inner 0 mid).1 (pure (e.Select part_is l.place called i j.answer)) x rest j.onwards in
      let g = gave (e.Select part_is l.place called i j.answer) m.mid x rest m.onwards in
      let deep = ap depth g.same ∙ depth-Select l.place called part_is i j.answer in
      let inside = s.shallow in
      let beside = t.shallow in
      record {
        taken = left ∷ (s.taken ++ mark ∷ (t.taken ++ m.lexeme ∷ []));
        parts = ap (λ xs. l ∷ left ∷ xs) (with_middle s.taken (t.taken ++ m.lexeme ∷ []) rest mark s.parts (with_last t.taken rest m.lexeme t.parts (m.is ∙ ap (λ xs. m.lexeme ∷ xs) g.left)));
        spelled = λ level. spelling.select l left mark m.lexeme called part_is s.taken t.taken i j.answer name opens s.spelled parts t.spelled m.marks refl g.same;
        shallow = omega arith;
      }

  by_part : (l left : Lexeme) (called : List ℕ) (ls mid : List Lexeme) (part_is : Option Part) (i x : Expr) (rest : List Lexeme) (s : Sound room 0 ls i mid) → mid ≡ (inner 0 ls).1 → part_if (first mid) ≡ part_is
      → name_of l ≡ Some called → IsMark (codes "[") left
      → select_by room inner l.place called i part_is mid ≡ (Ok x, rest) → SoundPrimary (suc room) l (left ∷ ls) x rest
  unfolding part_if first mark_if part_of
  by_part l left called ls mid None i x rest s is seen name opens h = index_sound l left called ls i x rest (subst (λ xs. Sound room 0 ls i xs) is s) name opens (sym (ap (λ xs. select_by room inner l.place called i None xs) is) ∙ h)
  by_part l left called ls [] (Some p) i x rest s is seen name opens h = cc
  by_part l left called ls (mark ∷ mid) (Some p) i x rest s is seen name opens h = part_sound l left mark called ls mid p i x rest s name opens seen h

  select_sound : (l left : Lexeme) (called : List ℕ) (ls : List Lexeme) (x : Expr) (rest : List Lexeme)
      → name_of l ≡ Some called → IsMark (codes "[") left → select room inner l.place called (left ∷ ls) ≡ (Ok x, rest) → SoundPrimary (suc room) l (left ∷ ls) x rest
  unfolding select
  select_sound l left called ls x rest name mark h =
      let i = went (inner 0 ls).0 (inner 0 ls).1 (λ i mid. select_by room inner l.place called i (part_if (first mid)) mid) x rest h in
      by_part l left called ls (inner 0 ls).1 (part_if (first (inner 0 ls).1)) i.answer x rest (part 0 ls i.answer i.was) refl refl name mark i.onwards

  others_none : (x : Expr) (us ls : List Lexeme) (xs : List Expr) (rest : List Lexeme)
      → Spells 0 us x → depth x ≤ room → ◌≡◌ {A = Outcome (List Expr)} (Ok [], ls) (Ok xs, rest) → SoundList room (us ++ ls) (x ∷ xs) rest
  others_none x us ls xs rest spelled shallow h =
      let g = gave [] ls xs rest h in
      let deep = ap (λ ys. deepest_of depth (x ∷ ys)) g.same ∙ deepest-cons x [] in
      let nil = deepest-nil in
      record {
        taken = us;
        parts = ap (λ ls'. us ++ ls') g.left;
        spelled = spelling.one x spelled (ap (λ ys. x ∷ ys) g.same);
        shallow = omega arith;
      }

  others_one : (n : ℕ) → ((y : Expr) (vs mid : List Lexeme) (ys : List Expr) (rest : List Lexeme) → Spells 0 vs y → depth y ≤ room → others_from room inner n mid ≡ (Ok ys, rest) → SoundList room (vs ++ mid) (y ∷ ys) rest)
      → (x : Expr) (us : List Lexeme) (l : Lexeme) (ls : List Lexeme) (xs : List Expr) (rest : List Lexeme) → Spells 0 us x → depth x ≤ room → IsMark (codes ",") l
      → onward (inner 0 ls).0 (inner 0 ls).1 (λ y mid. onward (others_from room inner n mid).0 (others_from room inner n mid).1 (λ ys. pure (y ∷ ys))) ≡ (Ok xs, rest)
      → SoundList room (us ++ l ∷ ls) (x ∷ xs) rest
  others_one n further x us l ls xs rest spelled shallow comma h =
      let a = went (inner 0 ls).0 (inner 0 ls).1 (λ y mid. onward (others_from room inner n mid).0 (others_from room inner n mid).1 (λ ys. pure (y ∷ ys))) xs rest h in
      let mid = (inner 0 ls).1 in
      let b = went (others_from room inner n mid).0 (others_from room inner n mid).1 (λ ys. pure (a.answer ∷ ys)) xs rest a.onwards in
      let g = gave (a.answer ∷ b.answer) (others_from room inner n mid).1 xs rest b.onwards in
      let s = part 0 ls a.answer a.was in
      let t = further a.answer s.taken mid b.answer (others_from room inner n mid).1 s.spelled s.shallow (ap (λ v. (v, (others_from room inner n mid).1)) b.was) in
      let deep = ap (λ ys. deepest_of depth (x ∷ ys)) g.same ∙ deepest-cons x (a.answer ∷ b.answer) in
      let rest_deep = t.shallow in
      record {
        taken = us ++ l ∷ t.taken;
        parts = ap (λ z. us ++ l ∷ z) (s.parts ∙ (t.parts ∙ ap (λ z. t.taken ++ z) g.left)) ∙ sym (append_assoc us (l ∷ t.taken) rest);
        spelled = spelling.more l us t.taken x (a.answer ∷ b.answer) spelled comma t.spelled refl (ap (λ ys. x ∷ ys) g.same);
        shallow = omega arith;
      }

  others_by : (n : ℕ) → ((y : Expr) (vs mid : List Lexeme) (ys : List Expr) (rest : List Lexeme) → Spells 0 vs y → depth y ≤ room → others_from room inner n mid ≡ (Ok ys, rest) → SoundList room (vs ++ mid) (y ∷ ys) rest)
      → (x : Expr) (us : List Lexeme) (l : Lexeme) (ls : List Lexeme) (xs : List Expr) (rest : List Lexeme) → Spells 0 us x → depth x ≤ room → (there : Bool) → is_mark (codes ",") l ≡ there
      → (if there then (λ ls'. onward (inner 0 (drop 1 ls')).0 (inner 0 (drop 1 ls')).1 (λ y mid. onward (others_from room inner n mid).0 (others_from room inner n mid).1 (λ ys. pure (y ∷ ys)))) else pure []) (l ∷ ls) ≡ (Ok xs, rest)
      → SoundList room (us ++ l ∷ ls) (x ∷ xs) rest
  others_by n further x us l ls xs rest spelled shallow true seen h = others_one n further x us l ls xs rest spelled shallow seen h
  others_by n further x us l ls xs rest spelled shallow false seen h = others_none x us (l ∷ ls) xs rest spelled shallow h

  others_from_sound : (n : ℕ) (x : Expr) (us ls : List Lexeme) (xs : List Expr) (rest : List Lexeme)
      → Spells 0 us x → depth x ≤ room → others_from room inner n ls ≡ (Ok xs, rest) → SoundList room (us ++ ls) (x ∷ xs) rest
  unfolding others_from sees first
  others_from_sound zero x us ls xs rest spelled shallow h = others_none x us ls xs rest spelled shallow h
  others_from_sound (suc n) x us [] xs rest spelled shallow h = others_none x us [] xs rest spelled shallow h
  others_from_sound (suc n) x us (l ∷ ls) xs rest spelled shallow h = others_by n (others_from_sound n) x us l ls xs rest spelled shallow (is_mark (codes ",") l) refl h

  others_sound : (x : Expr) (us ls : List Lexeme) (xs : List Expr) (rest : List Lexeme)
      → Spells 0 us x → depth x ≤ room → others room inner ls ≡ (Ok xs, rest) → SoundList room (us ++ ls) (x ∷ xs) rest
  unfolding others
  others_sound x us ls xs rest spelled shallow h = others_from_sound (length ls) x us ls xs rest spelled shallow h

  -- behind "{" and the first member
  concat_sound : (l : Lexeme) (ls : List Lexeme) (y x : Expr) (mid rest : List Lexeme) (s : Sound room 0 ls y mid)
      → IsMark (codes "{") l → concat room inner l.place y mid ≡ (Ok x, rest) → SoundPrimary (suc room) l ls x rest
  unfolding concat start
  concat_sound l ls y x mid rest s mark h =
      let a = went (others room inner mid).0 (others room inner mid).1 (λ ys. expect (codes "}") >> pure (e.Concat l.place (y ∷ ys))) x rest h in
      let t = others_sound y s.taken mid a.answer (others room inner mid).1 s.spelled s.shallow (ap (λ v. (v, (others room inner mid).1)) a.was) in
      let m = met (codes "}") (others room inner mid).1 (pure (e.Concat l.place (y ∷ a.answer))) x rest a.onwards in
      let g = gave (e.Concat l.place (y ∷ a.answer)) m.mid x rest m.onwards in
      let deep = ap depth g.same ∙ depth-Concat l.place (y ∷ a.answer) in
      let inside = t.shallow in
      record {
        taken = t.taken ++ m.lexeme ∷ [];
        parts = ap (λ xs. l ∷ xs) (with_last t.taken rest m.lexeme (s.parts ∙ t.parts) (m.is ∙ ap (λ xs. m.lexeme ∷ xs) g.left));
        spelled = λ level. spelling.concat l m.lexeme t.taken (y ∷ a.answer) mark t.spelled m.marks refl g.same;
        shallow = omega arith;
      }

  repeat_sound : (l inside : Lexeme) (ls : List Lexeme) (count x : Expr) (mid rest : List Lexeme) (s : Sound room 0 ls count (inside ∷ mid))
      → IsMark (codes "{") l → IsMark (codes "{") inside → repeat room inner l.place count (inside ∷ mid) ≡ (Ok x, rest) → SoundPrimary (suc room) l ls x rest
  unfolding repeat start
  repeat_sound l inside ls count x mid rest s mark opens h =
      let k = l.place in
      let i = went (inner 0 mid).0 (inner 0 mid).1 (λ y. others room inner >>= (λ ys. expect (codes "}") >> (expect (codes "}") >> pure (e.Repeat k count (y ∷ ys))))) x rest h in
      let near = (inner 0 mid).1 in
      let y = i.answer in
      let a = went (others room inner near).0 (others room inner near).1 (λ ys. expect (codes "}") >> (expect (codes "}") >> pure (e.Repeat k count (y ∷ ys)))) x rest i.onwards in
      let u = part 0 mid y i.was in
      let t = others_sound y u.taken near a.answer (others room inner near).1 u.spelled u.shallow (ap (λ v. (v, (others room inner near).1)) a.was) in
      let m = met (codes "}") (others room inner near).1 (expect (codes "}") >> pure (e.Repeat k count (y ∷ a.answer))) x rest a.onwards in
      let o = met (codes "}") m.mid (pure (e.Repeat k count (y ∷ a.answer))) x rest m.onwards in
      let g = gave (e.Repeat k count (y ∷ a.answer)) o.mid x rest o.onwards in
      let deep = ap depth g.same ∙ depth-Repeat k count (y ∷ a.answer) in
      let beside = t.shallow in
      let before = s.shallow in
      record {
        taken = s.taken ++ inside ∷ (t.taken ++ m.lexeme ∷ o.lexeme ∷ []);
        parts = ap (λ xs. l ∷ xs) (with_middle s.taken (t.taken ++ m.lexeme ∷ o.lexeme ∷ []) rest inside s.parts
            (u.parts ∙ (t.parts ∙ (ap (λ xs. t.taken ++ xs) (m.is ∙ ap (λ xs. m.lexeme ∷ xs) (o.is ∙ ap (λ xs. o.lexeme ∷ xs) g.left)) ∙ sym (append_assoc t.taken (m.lexeme ∷ o.lexeme ∷ []) rest)))));
        spelled = λ level. spelling.repeat l inside m.lexeme o.lexeme s.taken t.taken count (y ∷ a.answer) mark s.spelled opens t.spelled m.marks o.marks refl g.same;
        shallow = omega arith;
      }

  by_brace : (l : Lexeme) (ls : List Lexeme) (y x : Expr) (mid rest : List Lexeme) (s : Sound room 0 ls y mid) (there : Bool) → sees (codes "{") (first mid) ≡ there
      → IsMark (codes "{") l → (if there then repeat room inner l.place y else concat room inner l.place y) mid ≡ (Ok x, rest) → SoundPrimary (suc room) l ls x rest
  unfolding sees first
  by_brace l ls y x mid rest s false seen mark h = concat_sound l ls y x mid rest s mark h
  by_brace l ls y x [] rest s true seen mark h = cc
  by_brace l ls y x (i ∷ mid) rest s true seen mark h = repeat_sound l i ls y x mid rest s mark seen h

  braces_sound : (l : Lexeme) (ls : List Lexeme) (x : Expr) (rest : List Lexeme) → IsMark (codes "{") l → braces room inner l.place (l ∷ ls) ≡ (Ok x, rest) → SoundPrimary (suc room) l ls x rest
  unfolding braces
  braces_sound l ls x rest mark h =
      let i = went (inner 0 ls).0 (inner 0 ls).1 (λ y mid. (if sees (codes "{") (first mid) then repeat room inner l.place y else concat room inner l.place y) mid) x rest h in
      by_brace l ls i.answer x (inner 0 ls).1 rest (part 0 ls i.answer i.was) (sees (codes "{") (first (inner 0 ls).1)) refl mark i.onwards

  -- there was room
  pub had_room : (b : Bool) (p : Reader Expr) (ls : List Lexeme) (x : Expr) (rest : List Lexeme) → (if b then p else stop Deep) ls ≡ (Ok x, rest) → p ls ≡ (Ok x, rest)
  had_room true p ls x rest h = h
  had_room false p ls x rest h = let never = ap (λ o. o.0) h in cc

  by_curly : (l : Lexeme) (ls : List Lexeme) (x : Expr) (rest : List Lexeme) (there : Bool) → is_mark (codes "{") l ≡ there
      → (if there then within room inner (braces room inner l.place) else stop Wrong) (l ∷ ls) ≡ (Ok x, rest) → SoundPrimary (suc room) l ls x rest
  by_curly l ls x rest true seen h = braces_sound l ls x rest seen (had_room (nat_le 1 room) (braces room inner l.place) (l ∷ ls) x rest h)
  by_curly l ls x rest false seen h = let never = ap (λ o. o.0) h in cc

  by_round : (l : Lexeme) (ls : List Lexeme) (x : Expr) (rest : List Lexeme) (there : Bool) → is_mark (codes "(") l ≡ there
      → (if there then within room inner (brackets room inner l.place) else braced room inner l.place) (l ∷ ls) ≡ (Ok x, rest) → SoundPrimary (suc room) l ls x rest
  unfolding braced sees first
  by_round l ls x rest true seen h = brackets_sound l ls x rest seen (had_room (nat_le 1 room) (brackets room inner l.place) (l ∷ ls) x rest h)
  by_round l ls x rest false seen h = by_curly l ls x rest (is_mark (codes "{") l) refl h

  by_square : (l : Lexeme) (called : List ℕ) (ls : List Lexeme) (x : Expr) (rest : List Lexeme) (there : Bool) → sees (codes "[") (first ls) ≡ there → name_of l ≡ Some called
      → (if there then within room inner (select room inner l.place called) else pure (e.Name l.place called)) ls ≡ (Ok x, rest) → SoundPrimary (suc room) l ls x rest
  unfolding sees first start
  by_square l called [] x rest true seen name h = cc
  by_square l called (left ∷ ls) x rest true seen name h = select_sound l left called ls x rest name seen (had_room (nat_le 1 room) (select room inner l.place called) (left ∷ ls) x rest h)
  by_square l called ls x rest false seen name h =
      let g = gave (e.Name l.place called) ls x rest h in
      let deep = ap depth g.same ∙ depth-Name l.place called in
      record { taken = []; parts = ap (λ xs. l ∷ xs) g.left; spelled = λ level. spelling.name l called name refl g.same; shallow = omega arith }

  by_name : (l : Lexeme) (ls : List Lexeme) (x : Expr) (rest : List Lexeme) (name : Option (List ℕ)) → name_of l ≡ name
      → name_by room inner l.place name (l ∷ ls) ≡ (Ok x, rest) → SoundPrimary (suc room) l ls x rest
  unfolding name_by named group sees first
  by_name l ls x rest (Some called) name h = by_square l called ls x rest (sees (codes "[") (first ls)) refl name h
  by_name l ls x rest None name h = by_round l ls x rest (is_mark (codes "(") l) refl h

  by_number : (l : Lexeme) (ls : List Lexeme) (x : Expr) (rest : List Lexeme) (number : Option Number) → number_of l ≡ number
      → primary_by room inner l.place number (l ∷ ls) ≡ (Ok x, rest) → SoundPrimary (suc room) l ls x rest
  unfolding primary_by name_if first start
  by_number l ls x rest (Some n) number h =
      let g = gave (e.Number l.place n) ls x rest h in
      let deep = ap depth g.same ∙ depth-Number l.place n in
      record { taken = []; parts = ap (λ xs. l ∷ xs) g.left; spelled = λ level. spelling.number l n number refl g.same; shallow = omega arith }
  by_number l ls x rest None number h = by_name l ls x rest (name_of l) refl h

  pub primary_sound : (l : Lexeme) (ls : List Lexeme) (x : Expr) (rest : List Lexeme) → primary room inner l.place (l ∷ ls) ≡ (Ok x, rest) → SoundPrimary (suc room) l ls x rest
  unfolding primary number_if first
  primary_sound l ls x rest h = by_number l ls x rest (number_of l) refl h

  -- at the end of the lexemes there is none
  pub no_primary : (place : Place) (x : Expr) (rest : List Lexeme) → primary room inner place [] ≡ (Ok x, rest) → ⊥
  unfolding primary primary_by name_by group braced number_if name_if sees first
  no_primary place x rest h = let never = ap (λ o. o.0) h in cc

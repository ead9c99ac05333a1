-- What is read with operators is spelled, and the next lexeme goes on with none of them.
use Rattle.std.proofs.Common.{◌≡◌, ℕ, zero, suc, ◌+◌, ◌-◌, ◌<◌, ◌≤◌, max, Bool, true, false, List, [], ◌∷◌, ◌++◌, length, drop, Option, Some, None, Result, Ok, Err, refl, sym, ap, ◌∙◌, subst, append_assoc, length-append, arith}
use Rattle.std.specs.Prelude.{nat_le, if◌then◌else◌, codes}
use Rattle.std.proofs.lemmas.Bool.{leb-true}
use Rattle.rdc_outside.specs.declared.source.Place.{Place}
use Rattle.vlog_tree.specs.declared.expr.Expr.{Expr}
use Rattle.vlog_tree.specs.declared.expr.Expr.TheVariants as e
use Rattle.vlog_tree.specs.declared.operator.Unary.{Unary}
use Rattle.vlog_tree.specs.declared.operator.Binary.{Binary}
use Rattle.vlog_tree.specs.Lexemes.{Lexeme, IsMark, is_mark, mark_of, start}
use Rattle.vlog_tree.specs.Operators.{level_of, unary_of, binary_of}
use Rattle.vlog_tree.specs.Expressions as spelling
use Rattle.vlog_tree.specs.Expressions.{Spells}
use Rattle.vlog_tree.specs.Depth.{depth}
use Rattle.vlog_tree.proofs.DepthLemmas.{depth-Unary, depth-Binary, depth-Conditional}
use Rattle.vlog_expr.specs.declared.stuck.Stuck.TheVariants.{Deep}
use Rattle.vlog_expr.specs.declared.cursor.Next.{Next}
use Rattle.vlog_expr.specs.declared.cursor.Next.TheVariants.{Operator, Question, End}
use Rattle.vlog_expr.specs.Reading.{Outcome, Reader, first, onward, ◌>>=◌, ◌>>◌, pure, stop, sees, expect, mark_if, place_if}
use Rattle.vlog_expr.specs.Exprs.{next_at, unary_at, within, primary, negated, operand_by, operand, choice, right, step_by, climb, whole, expr}
use Rattle.vlog_expr.proofs.SpelledLemmas.{sized}
use Rattle.vlog_expr.proofs.Inversion.{went, met, gave, with_last, with_middle}
use Rattle.vlog_expr.proofs.NextLemmas.{some_level, low_level, next_operator, next_question, next_later}
use Rattle.vlog_expr.proofs.ExprSteady.{no_operator}
use Rattle.vlog_expr.proofs.SoundLemmas.{Sound, SoundPrimary, had_room, primary_sound, no_primary}

-- what was read so far may be the left operand of what follows
pub record Left (level : ℕ) (place : Place) (us : List Lexeme) (left : Expr) (ls : List Lexeme) : Type 0 where
  pub own : ℕ
  pub high : level ≤ own
  pub some : 1 ≤ own
  pub spelled : (j : ℕ) → j ≤ own → Spells j us left
  pub fits : (o : Binary) → next_at level (first ls) ≡ Operator o → level_of o ≤ own
  pub begins : (vs : List Lexeme) → start (us ++ vs) ≡ place

module _ (room : ℕ) (inner : ℕ → Reader Expr) (read : (level : ℕ) (ls : List Lexeme) (x : Expr) (rest : List Lexeme) → inner level ls ≡ (Ok x, rest) → Sound room level ls x rest)
    (stops : (level : ℕ) (ls : List Lexeme) (x : Expr) (rest : List Lexeme) → inner level ls ≡ (Ok x, rest) → next_at level (first rest) ≡ End) where
  part : (level : ℕ) (ls : List Lexeme) (x : Expr) → (inner level ls).0 ≡ Ok x → Sound room level ls x (inner level ls).1
  part level ls x was = read level ls x (inner level ls).1 (ap (λ v. (v, (inner level ls).1)) was)

  -- the operand that a turn makes is the next left one
  turned : (level : ℕ) (place : Place) (us : List Lexeme) (left : Expr) (l : Lexeme) (ls : List Lexeme) (o : Binary) (b : Expr)
      → (w : Left level place us left (l ∷ ls)) → next_at level (Some l) ≡ Operator o → (was : (inner (level_of o + 1) ls).0 ≡ Ok b)
      → Left level place (us ++ l ∷ (part (level_of o + 1) ls b was).taken) (e.Binary place o left b) (inner (level_of o + 1) ls).1
  unfolding first mark_if
  turned level place us left l ls o b w next was =
      let s = part (level_of o + 1) ls b was in
      let known = next_operator level (Some l) o next in
      let done = stops (level_of o + 1) ls b (inner (level_of o + 1) ls).1 (ap (λ v. (v, (inner (level_of o + 1) ls).1)) was) in
      let begins = w.begins (l ∷ s.taken) in
      record {
        own = level_of o;
        high = known.high;
        some = some_level o;
        spelled = λ j low. spelling.binary l o us s.taken left b low (w.spelled (level_of o) (w.fits o next)) known.known s.spelled refl (ap (λ p. e.Binary p o left b) (sym begins));
        fits = λ p after. next_later level (level_of o) (first (inner (level_of o + 1) ls).1) p after done;
        begins = λ vs. ap start (append_assoc us (l ∷ s.taken) vs) ∙ w.begins ((l ∷ s.taken) ++ vs);
      }

  ended : (level : ℕ) (place : Place) (left : Expr) (us ls : List Lexeme) (x : Expr) (rest : List Lexeme)
      → Left level place us left ls → depth left ≤ suc room → ◌≡◌ {A = Outcome Expr} (Ok left, ls) (Ok x, rest) → Sound (suc room) level (us ++ ls) x rest
  ended level place left us ls x rest w shallow h =
      let g = gave left ls x rest h in
      let deep = ap depth g.same in
      record { taken = us; parts = ap (λ z. us ++ z) g.left; spelled = subst (λ z. Spells level us z) (sym g.same) (w.spelled level w.high); shallow = omega arith }

  chosen : (level : ℕ) (left : Expr) (us : List Lexeme) (l : Lexeme) (place : Place) (ls : List Lexeme) (x : Expr) (rest : List Lexeme)
      → Left level place us left (l ∷ ls) → depth left ≤ room → level ≡ 0 → IsMark (codes "?") l → choice room inner place left (l ∷ ls) ≡ (Ok x, rest) → Sound (suc room) level (us ++ l ∷ ls) x rest
  unfolding choice
  chosen level left us l place ls x rest w shallow none mark h =
      let a = went (inner 0 ls).0 (inner 0 ls).1 (λ a. expect (codes ":") >> (inner 0 >>= (λ b. pure (e.Conditional place left a b)))) x rest h in
      let s = part 0 ls a.answer a.was in
      let m = met (codes ":") (inner 0 ls).1 (inner 0 >>= (λ b. pure (e.Conditional place left a.answer b))) x rest a.onwards in
      let b = went (inner 0 m.mid).0 (inner 0 m.mid).1 (λ b. pure (e.Conditional place left a.answer b)) x rest m.onwards in
      let t = part 0 m.mid b.answer b.was in
      let g = gave (e.Conditional place left a.answer b.answer) (inner 0 m.mid).1 x rest b.onwards in
      let deep = ap depth g.same ∙ depth-Conditional place left a.answer b.answer in
      let one = s.shallow in
      let two = t.shallow in
      let begins = w.begins (l ∷ (s.taken ++ m.lexeme ∷ t.taken)) in
      record {
        taken = us ++ l ∷ (s.taken ++ m.lexeme ∷ t.taken);
        parts = ap (λ z. us ++ l ∷ z) (with_middle s.taken t.taken rest m.lexeme (s.parts ∙ ap (λ z. s.taken ++ z) m.is) (t.parts ∙ ap (λ z. t.taken ++ z) g.left))
            ∙ sym (append_assoc us (l ∷ (s.taken ++ m.lexeme ∷ t.taken)) rest);
        spelled = spelling.conditional l m.lexeme us s.taken t.taken left a.answer b.answer none (w.spelled 1 w.some) mark s.spelled m.marks t.spelled refl
            (g.same ∙ ap (λ p. e.Conditional p left a.answer b.answer) (sym begins));
        shallow = omega arith;
      }

  -- an operand that is shallow enough
  was_room : (b : Bool) (left : Expr) (p : Reader Expr) (ls : List Lexeme) (x : Expr) (rest : List Lexeme) → nat_le (depth left) room ≡ b → (if b then p else stop Deep) ls ≡ (Ok x, rest) → depth left ≤ room
  was_room true left p ls x rest fits h = leb-true (depth left) room fits
  was_room false left p ls x rest fits h = let never = ap (λ o. o.0) h in cc

  Further : ℕ → ℕ → Type 0
  Further n level = (place : Place) (left : Expr) (us ls : List Lexeme) (x : Expr) (rest : List Lexeme)
      → Left level place us left ls → depth left ≤ suc room → climb room inner n level place left ls ≡ (Ok x, rest) → Sound (suc room) level (us ++ ls) x rest

  one_turn : (n level : ℕ) → Further n level → (place : Place) (left : Expr) (us : List Lexeme) (l : Lexeme) (ls : List Lexeme) (x : Expr) (rest : List Lexeme) (o : Binary)
      → Left level place us left (l ∷ ls) → depth left ≤ room → next_at level (Some l) ≡ Operator o
      → onward (right room inner o (l ∷ ls)).0 (right room inner o (l ∷ ls)).1 (λ b. climb room inner n level place (e.Binary place o left b)) ≡ (Ok x, rest)
      → Sound (suc room) level (us ++ l ∷ ls) x rest
  unfolding right Further
  one_turn n level further place left us l ls x rest o w shallow next h =
      let k = level_of o + 1 in
      let a = went (inner k ls).0 (inner k ls).1 (λ b. climb room inner n level place (e.Binary place o left b)) x rest h in
      let s = part k ls a.answer a.was in
      let deep = depth-Binary place o left a.answer in
      let beside = s.shallow in
      let t = further place (e.Binary place o left a.answer) (us ++ l ∷ s.taken) (inner k ls).1 x rest (turned level place us left l ls o a.answer w next a.was) (omega arith) a.onwards in
      record {
        taken = t.taken;
        parts = ap (λ z. us ++ l ∷ z) s.parts ∙ (sym (append_assoc us (l ∷ s.taken) (inner k ls).1) ∙ t.parts);
        spelled = t.spelled;
        shallow = t.shallow;
      }

  by_next : (n level : ℕ) → Further n level → (place : Place) (left : Expr) (us ls : List Lexeme) (x : Expr) (rest : List Lexeme) (next : Next)
      → Left level place us left ls → depth left ≤ suc room → next_at level (first ls) ≡ next → step_by room inner (climb room inner n level place) place left next ls ≡ (Ok x, rest)
      → Sound (suc room) level (us ++ ls) x rest
  unfolding step_by first mark_if sees binary_of
  by_next n level further place left us ls x rest End w shallow seen h = ended level place left us ls x rest w shallow h
  by_next n level further place left us [] x rest Question w shallow seen h = let no = (next_question level None seen).1 in cc
  by_next n level further place left us (l ∷ ls) x rest Question w shallow seen h =
      let q = next_question level (Some l) seen in
      chosen level left us l place ls x rest w (was_room (nat_le (depth left) room) left (choice room inner place left) (l ∷ ls) x rest refl h) q.0 q.1
      (had_room room inner read (nat_le (depth left) room) (choice room inner place left) (l ∷ ls) x rest h)
  by_next n level further place left us [] x rest (Operator o) w shallow seen h = let no = (next_operator level None o seen).known in cc
  by_next n level further place left us (l ∷ ls) x rest (Operator o) w shallow seen h =
      one_turn n level further place left us l ls x rest o w (was_room (nat_le (depth left) room) left (right room inner o >>= (λ b. climb room inner n level place (e.Binary place o left b))) (l ∷ ls) x rest refl h) seen
      (had_room room inner read (nat_le (depth left) room) (right room inner o >>= (λ b. climb room inner n level place (e.Binary place o left b))) (l ∷ ls) x rest h)

  climb_sound : (n level : ℕ) → Further n level
  unfolding Further climb
  climb_sound zero level place left us ls x rest w shallow h = let never = ap (λ o. o.0) h in cc
  climb_sound (suc n) level place left us ls x rest w shallow h = by_next n level (climb_sound n level) place left us ls x rest (next_at level (first ls)) w shallow refl h

  -- the first operand
  record First (level : ℕ) (place : Place) (ls : List Lexeme) (x : Expr) (rest : List Lexeme) : Type 0 where
    taken : List Lexeme
    parts : ls ≡ taken ++ rest
    left : Left level place taken x rest
    shallow : depth x ≤ suc room

  first_primary : (level : ℕ) (l : Lexeme) (ls : List Lexeme) (x : Expr) (rest : List Lexeme) → SoundPrimary (suc room) l ls x rest → First level l.place (l ∷ ls) x rest
  unfolding start
  first_primary level l ls x rest s = record {
    taken = l ∷ s.taken;
    parts = s.parts;
    left = record { own = level + 12; high = omega arith; some = omega arith; spelled = λ j low. s.spelled j; fits = λ o next. (let low = low_level o in omega arith); begins = λ vs. refl };
    shallow = s.shallow;
  }

  first_unary : (level : ℕ) (l : Lexeme) (ls : List Lexeme) (o : Unary) (x : Expr) (rest : List Lexeme) → level ≤ 12 → unary_of (mark_of l) ≡ Some o
      → negated room inner l.place o (l ∷ ls) ≡ (Ok x, rest) → First level l.place (l ∷ ls) x rest
  unfolding negated start
  first_unary level l ls o x rest low known h =
      let u = went (inner 13 ls).0 (inner 13 ls).1 (λ u. pure (e.Unary l.place o u)) x rest h in
      let s = part 13 ls u.answer u.was in
      let g = gave (e.Unary l.place o u.answer) (inner 13 ls).1 x rest u.onwards in
      let deep = ap depth g.same ∙ depth-Unary l.place o u.answer in
      let inside = s.shallow in
      record {
        taken = l ∷ s.taken;
        parts = ap (λ z. l ∷ z) (s.parts ∙ ap (λ z. s.taken ++ z) g.left);
        left = record {
          own = 12;
          high = low;
          some = omega arith;
          spelled = λ j fits. spelling.unary l o s.taken u.answer fits known s.spelled refl g.same;
          fits = λ p next. (let few = low_level p in omega arith);
          begins = λ vs. refl;
        };
        shallow = omega arith;
      }

  record Known (level : ℕ) (l : Lexeme) (o : Unary) : Type 0 where
    low : level ≤ 12
    known : unary_of (mark_of l) ≡ Some o

  knows : (level : ℕ) (l : Lexeme) (o : Unary) (b : Bool) → nat_le level 12 ≡ b → (if b then unary_of (mark_of l) else None) ≡ Some o → Known level l o
  knows level l o true fits h = record { low = leb-true level 12 fits; known = h }
  knows level l o false fits h = cc

  by_unary : (level : ℕ) (l : Lexeme) (ls : List Lexeme) (x : Expr) (rest : List Lexeme) (op : Option Unary) → unary_at level (Some l) ≡ op
      → operand_by room inner l.place op (l ∷ ls) ≡ (Ok x, rest) → First level l.place (l ∷ ls) x rest
  unfolding operand_by unary_at mark_if
  by_unary level l ls x rest None seen h = first_primary level l ls x rest (primary_sound room inner read l ls x rest h)
  by_unary level l ls x rest (Some o) seen h =
      let k = knows level l o (nat_le level 12) refl seen in
      first_unary level l ls o x rest k.low k.known (had_room room inner read (nat_le 1 room) (negated room inner l.place o) (l ∷ ls) x rest h)

  operand_sound : (level : ℕ) (l : Lexeme) (ls : List Lexeme) (x : Expr) (rest : List Lexeme) → operand room inner level l.place (l ∷ ls) ≡ (Ok x, rest) → First level l.place (l ∷ ls) x rest
  unfolding operand first
  operand_sound level l ls x rest h = by_unary level l ls x rest (unary_at level (Some l)) refl h

  no_operand_by : (level : ℕ) (place : Place) (op : Option Unary) (x : Expr) (rest : List Lexeme) → op ≡ None → operand_by room inner place op [] ≡ (Ok x, rest) → ⊥
  unfolding operand_by
  no_operand_by level place None x rest none h = no_primary room inner read place x rest h
  no_operand_by level place (Some o) x rest none h = cc

  -- the first operand takes at least as many lexemes as it is deep
  pub operand_taken : (level : ℕ) (ls : List Lexeme) (x : Expr) (rest : List Lexeme) → operand room inner level (place_if (first ls)) ls ≡ (Ok x, rest) → (1 ≤ depth x) × (depth x + length rest ≤ length ls)
  unfolding first place_if operand
  operand_taken level [] x rest h = absurd (no_operand_by level (place_if None) (unary_at level None) x rest (no_operator level) h)
  operand_taken level (l ∷ ls) x rest h =
      let s = operand_sound level l ls x rest h in
      let z = sized (s.left.spelled 1 s.left.some) in
      let most = z.most in
      (z.some, omega (arith, ap length s.parts, length-append s.taken rest))

  whole_sound : (level : ℕ) (ls : List Lexeme) (x : Expr) (rest : List Lexeme) → whole room inner level ls ≡ (Ok x, rest) → Sound (suc room) level ls x rest
  unfolding whole first place_if Further operand
  whole_sound level [] x rest h =
      let place = place_if None in
      let a = went (operand room inner level place []).0 (operand room inner level place []).1 (climb room inner (room + 2) level place) x rest h in
      absurd (no_operand_by level place (unary_at level None) a.answer (operand room inner level place []).1 (no_operator level) (ap (λ v. (v, (operand room inner level place []).1)) a.was))
  whole_sound level (l ∷ ls) x rest h =
      let a = went (operand room inner level l.place (l ∷ ls)).0 (operand room inner level l.place (l ∷ ls)).1 (climb room inner (room + 2) level l.place) x rest h in
      let mid = (operand room inner level l.place (l ∷ ls)).1 in
      let s = operand_sound level l ls a.answer mid (ap (λ v. (v, mid)) a.was) in
      let t = climb_sound (room + 2) level l.place a.answer s.taken mid x rest s.left s.shallow a.onwards in
      record { taken = t.taken; parts = s.parts ∙ t.parts; spelled = t.spelled; shallow = t.shallow }

  -- what follows
  chosen_stops : (level : ℕ) (left : Expr) (place : Place) (ls : List Lexeme) (x : Expr) (rest : List Lexeme) → choice room inner place left ls ≡ (Ok x, rest) → next_at 0 (first rest) ≡ End
  unfolding choice
  chosen_stops level left place ls x rest h =
      let k = drop 1 ls in
      let a = went (inner 0 k).0 (inner 0 k).1 (λ a. expect (codes ":") >> (inner 0 >>= (λ b. pure (e.Conditional place left a b)))) x rest h in
      let m = met (codes ":") (inner 0 k).1 (inner 0 >>= (λ b. pure (e.Conditional place left a.answer b))) x rest a.onwards in
      let b = went (inner 0 m.mid).0 (inner 0 m.mid).1 (λ b. pure (e.Conditional place left a.answer b)) x rest m.onwards in
      let g = gave (e.Conditional place left a.answer b.answer) (inner 0 m.mid).1 x rest b.onwards in
      ap (λ z. next_at 0 (first z)) (sym g.left) ∙ stops 0 m.mid b.answer (inner 0 m.mid).1 (ap (λ v. (v, (inner 0 m.mid).1)) b.was)

  Stops : ℕ → ℕ → Type 0
  Stops n level = (place : Place) (left : Expr) (ls : List Lexeme) (x : Expr) (rest : List Lexeme) → climb room inner n level place left ls ≡ (Ok x, rest) → next_at level (first rest) ≡ End

  stops_by : (n level : ℕ) → Stops n level → (place : Place) (left : Expr) (ls : List Lexeme) (x : Expr) (rest : List Lexeme) (next : Next) → next_at level (first ls) ≡ next
      → step_by room inner (climb room inner n level place) place left next ls ≡ (Ok x, rest) → next_at level (first rest) ≡ End
  unfolding step_by Stops
  stops_by n level further place left ls x rest End seen h = ap (λ z. next_at level (first z)) (sym (gave left ls x rest h).left) ∙ seen
  stops_by n level further place left ls x rest Question seen h =
      let q = next_question level (first ls) seen in
      ap (λ z. next_at z (first rest)) q.0 ∙ chosen_stops level left place ls x rest (had_room room inner read (nat_le (depth left) room) (choice room inner place left) ls x rest h)
  stops_by n level further place left ls x rest (Operator o) seen h =
      let a = went (right room inner o ls).0 (right room inner o ls).1 (λ b. climb room inner n level place (e.Binary place o left b)) x rest
      (had_room room inner read (nat_le (depth left) room) (right room inner o >>= (λ b. climb room inner n level place (e.Binary place o left b))) ls x rest h) in
      further place (e.Binary place o left a.answer) (right room inner o ls).1 x rest a.onwards

  climb_stops : (n level : ℕ) → Stops n level
  unfolding Stops climb
  climb_stops zero level place left ls x rest h = let never = ap (λ o. o.0) h in cc
  climb_stops (suc n) level place left ls x rest h = stops_by n level (climb_stops n level) place left ls x rest (next_at level (first ls)) refl h

  whole_stops : (level : ℕ) (ls : List Lexeme) (x : Expr) (rest : List Lexeme) → whole room inner level ls ≡ (Ok x, rest) → next_at level (first rest) ≡ End
  unfolding whole Stops
  whole_stops level ls x rest h =
      let place = place_if (first ls) in
      let a = went (operand room inner level place ls).0 (operand room inner level place ls).1 (climb room inner (room + 2) level place) x rest h in
      climb_stops (room + 2) level place a.answer (operand room inner level place ls).1 x rest a.onwards

mutual
  unfolding expr

  pub expr_sound : (d level : ℕ) (ls : List Lexeme) (x : Expr) (rest : List Lexeme) → expr d level ls ≡ (Ok x, rest) → Sound d level ls x rest
  expr_sound zero level ls x rest h = let never = ap (λ o. o.0) h in cc
  expr_sound (suc d) level ls x rest h = whole_sound d (expr d) (expr_sound d) (expr_stops d) level ls x rest h

  -- no operator that could go on with it follows
  pub expr_stops : (d level : ℕ) (ls : List Lexeme) (x : Expr) (rest : List Lexeme) → expr d level ls ≡ (Ok x, rest) → next_at level (first rest) ≡ End
  expr_stops zero level ls x rest h = let never = ap (λ o. o.0) h in cc
  expr_stops (suc d) level ls x rest h = whole_stops d (expr d) (expr_sound d) (expr_stops d) level ls x rest h

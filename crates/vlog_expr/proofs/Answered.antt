-- What the reader answers, said of the lexemes.
use Rattle.std.proofs.Common.{◌≡◌, ◌≢◌, ℕ, zero, suc, ◌+◌, ◌-◌, ◌<◌, ◌≤◌, max, Bool, true, false, ◌⊎◌, inl, inr, List, [], ◌∷◌, ◌++◌, length, take, drop, Option, Some, None, Result, Ok, Err, refl, sym, ap, ◌∙◌, subst, append_assoc, append-nil, length-append, arith}
use Rattle.std.specs.Prelude.{codes}
use Rattle.std.proofs.lemmas.List.{append_cancel_right}
use Rattle.rdc_outside.specs.declared.source.Place.{Place}
use Rattle.vlog_tree.specs.declared.expr.Expr.{Expr}
use Rattle.vlog_tree.specs.Lexemes.{Lexeme}
use Rattle.vlog_tree.specs.Operators.{binary_of}
use Rattle.vlog_tree.specs.Expressions.{Spells}
use Rattle.vlog_tree.specs.Depth.{depth}
use Rattle.vlog_expr.specs.declared.fault.ExprFault.{ExprFault}
use Rattle.vlog_expr.specs.declared.stuck.Stuck.{Stuck}
use Rattle.vlog_expr.specs.declared.stuck.Stuck.TheVariants.{Memory, Wrong, Deep}
use Rattle.vlog_expr.specs.declared.cursor.Next.{Next}
use Rattle.vlog_expr.specs.declared.cursor.Next.TheVariants.{Operator, Question, End}
use Rattle.vlog_expr.specs.Reading.{Outcome, Reader, first, sees, mark_if}
use Rattle.vlog_expr.specs.Exprs.{next_at, expr}
use Rattle.vlog_expr.specs.Begins.{NoneBegins, NoShallowBegins, IsAnswer, IsFault, last, refusal, named_place, fault_of}
use Rattle.vlog_expr.proofs.Readers.{Steps, Steady, wants_room}
use Rattle.vlog_expr.proofs.CalmLemmas.{expr_calm}
use Rattle.vlog_expr.proofs.NextLemmas.{next_operator, next_question}
use Rattle.vlog_expr.proofs.ClimbSound.{expr_sound}
use Rattle.vlog_expr.proofs.OpenLemmas.{ends_open}
use Rattle.vlog_expr.proofs.SpelledLemmas.{sized}
use Rattle.vlog_expr.proofs.Complete.{complete, part_read, higher_end}
use Rattle.vlog_expr.proofs.Whole.{at_end, whole_read}
use Rattle.vlog_expr.proofs.Graft.{some_name, questioned, selected, after_operator, after_question, after_open}

-- a reading takes such steps
pub stepped : (d : ℕ) (ls : List Lexeme) (v : Result Expr Stuck) (rest : List Lexeme) → expr d 0 ls ≡ (v, rest) → Steps (expr d 0) ls v rest
stepped d ls v rest h = subst (λ o. Steps (expr d 0) ls o.0 o.1) h ((expr_calm d d (omega arith) 0).local ls)

-- a reading that doesn't want room is the same with more
pub same_deeper : (d deeper : ℕ) → d ≤ deeper → (ls : List Lexeme) (v : Result Expr Stuck) (rest : List Lexeme) → expr d 0 ls ≡ (v, rest) → wants_room v ≡ false → expr deeper 0 ls ≡ (v, rest)
same_deeper d deeper le ls v rest h calm = (expr_calm d deeper le 0).stays ls (ap (λ o. wants_room o.0) h ∙ calm) ∙ h

-- what is read wrong begins no expression
pub wrong_begins : (d : ℕ) (pre rest : List Lexeme) → expr d 0 (pre ++ rest) ≡ (Err Wrong, rest) → NoneBegins pre rest
wrong_begins d pre rest h vs x spelled alike =
    let s = stepped d (pre ++ rest) (Err Wrong) rest h in
    let front : s.pre ≡ pre = append_cancel_right s.pre pre rest (sym s.parts) in
    let here : expr d 0 (pre ++ vs) ≡ (Err Wrong, vs) = ap (λ z. expr d 0 (z ++ vs)) (sym front) ∙ s.same vs alike in
    let most = max d (depth x) in
    let there = same_deeper d most (omega arith) (pre ++ vs) (Err Wrong) vs here refl in
    let whole = whole_read most (pre ++ vs) x spelled (omega arith) in
    let never = ap (λ o. o.0) (sym there ∙ whole) in
    cc

-- what is read too deep begins no shallow one
pub deep_begins : (pre rest : List Lexeme) → expr 255 0 (pre ++ rest) ≡ (Err Deep, rest) → NoShallowBegins pre rest
deep_begins pre rest h vs x spelled shallow alike =
    let s = stepped 255 (pre ++ rest) (Err Deep) rest h in
    let front : s.pre ≡ pre = append_cancel_right s.pre pre rest (sym s.parts) in
    let here : expr 255 0 (pre ++ vs) ≡ (Err Deep, vs) = ap (λ z. expr 255 0 (z ++ vs)) (sym front) ∙ s.same vs alike in
    let whole = whole_read 255 (pre ++ vs) x spelled (omega arith) in
    let never = ap (λ o. o.0) (sym here ∙ whole) in
    cc

no_first : (l : Lexeme) (rest : List Lexeme) → first [] ≡ first (l ∷ rest) → ⊥
unfolding first
no_first l rest e = cc

-- what is read goes on with nothing
pub read_ends : (d : ℕ) (pre rest : List Lexeme) (y : Expr) → expr d 0 (pre ++ rest) ≡ (Ok y, rest) → (rest ≡ []) ⊎ NoneBegins pre rest
read_ends d pre [] y h = inl refl
read_ends d pre (l ∷ rest) y h = inr (λ vs x spelled alike.
    let s = stepped d (pre ++ l ∷ rest) (Ok y) (l ∷ rest) h in
    let front : s.pre ≡ pre = append_cancel_right s.pre pre (l ∷ rest) (sym s.parts) in
    let here : expr d 0 (pre ++ vs) ≡ (Ok y, vs) = ap (λ z. expr d 0 (z ++ vs)) (sym front) ∙ s.same vs alike in
    let most = max d (depth x) in
    let there = same_deeper d most (omega arith) (pre ++ vs) (Ok y) vs here refl in
    let whole = whole_read most (pre ++ vs) x spelled (omega arith) in
    let none : vs ≡ [] = ap (λ o. o.1) (sym there ∙ whole) in
    no_first l rest (ap first (sym none) ∙ alike))

pub answered : (ls rest : List Lexeme) (x : Expr) → expr 255 0 ls ≡ (Ok x, rest) → IsAnswer ls x (length ls - length rest)
answered ls rest x h =
    let s = expr_sound 255 0 ls x rest h in
    let shallow = s.shallow in
    record {
      pre = s.taken;
      rest = rest;
      parts = s.parts;
      counted = omega (arith, ap length s.parts, length-append s.taken rest);
      spelled = s.spelled;
      shallow = omega arith;
      ended = read_ends 255 s.taken rest x (ap (expr 255 0) (sym s.parts) ∙ h);
    }

asks : (l : Lexeme) (rest : List Lexeme) → first (questioned l) ≡ first (l ∷ rest)
unfolding first questioned
asks l rest = refl

opened : (l : Lexeme) (rest : List Lexeme) → first (selected l) ≡ first (l ∷ rest)
unfolding first selected
opened l rest = refl

-- nothing that an expression goes on with follows
no_next : (pre : List Lexeme) (l : Lexeme) (rest : List Lexeme) (x : Expr) → Spells 0 pre x → NoneBegins pre (l ∷ rest) → next_at 0 (Some l) ≡ End
unfolding first sees mark_if
no_next pre l rest x spelled none = by (next_at 0 (Some l)) refl
  where
    by : (next : Next) → next_at 0 (Some l) ≡ next → next_at 0 (Some l) ≡ End
    by End seen = seen
    by Question seen = let g = after_question spelled l (next_question 0 (Some l) seen).1 in absurd (none (questioned l) g.expr g.spelled (asks l rest))
    by (Operator o) seen =
        let found = next_operator 0 (Some l) o seen in
        let g = after_operator spelled 0 l o found.known (omega arith) (omega arith) in
        absurd (none (l ∷ some_name l.place ∷ []) g.expr g.spelled refl)

pub no_open : (pre : List Lexeme) (l : Lexeme) (rest : List Lexeme) (x : Expr) → Spells 0 pre x → NoneBegins pre (l ∷ rest) → ends_open x ≡ true → sees (codes "[") (Some l) ≡ false
unfolding sees
no_open pre l rest x spelled none opens = by (sees (codes "[") (Some l)) refl
  where
    by : (there : Bool) → sees (codes "[") (Some l) ≡ there → sees (codes "[") (Some l) ≡ false
    by false seen = seen
    by true seen = let g = after_open spelled opens 0 l seen (omega arith) in absurd (none (selected l) g.expr g.spelled (opened l rest))

read_by : (pre rest : List Lexeme) (x : Expr) → Spells 0 pre x → depth x ≤ 255 → (rest ≡ []) ⊎ NoneBegins pre rest → expr 255 0 (pre ++ rest) ≡ (Ok x, rest)
unfolding first
read_by pre [] x spelled shallow ended = ap (expr 255 0) (append-nil pre) ∙ whole_read 255 pre x spelled shallow
read_by pre (l ∷ rest) x spelled shallow (inl none) = cc
read_by pre (l ∷ rest) x spelled shallow (inr none) =
    let done = no_next pre l rest x spelled none in
    part_read (complete spelled) (sized spelled).some 255 0 (l ∷ rest) (omega arith) shallow
    (record { loose = λ e. done; tight = higher_end 0 (0 + 1) (Some l) done (omega arith) (omega arith) })
    (no_open pre l rest x spelled none) done

-- what an answer says is read so
pub answer_read : (ls : List Lexeme) (x : Expr) (count : ℕ) (a : IsAnswer ls x count) → expr 255 0 ls ≡ (Ok x, a.rest)
answer_read ls x count a = let shallow = a.shallow in ap (expr 255 0) a.parts ∙ read_by a.pre a.rest x a.spelled (omega arith) a.ended

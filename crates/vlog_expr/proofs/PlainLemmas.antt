-- Expressions for readers of what stands round them: what is read is spelled and no deeper than the room, what is spelled
-- is read, and readers with a mask are steady.
--     Ended x next                    the lexeme next does not go on with the expression
--     any_sound, any_read             with z digits
--     plain_sound, plain_read         without
--     any_steady, plain_steady        steady, with more room too
use Rattle.std.proofs.Common.{◌≡◌, ℕ, zero, suc, ◌+◌, ◌-◌, ◌<◌, ◌≤◌, Bool, true, false, ◌⊎◌, inl, inr, List, [], ◌∷◌, ◌++◌, length, map, take, drop, Option, Some, None, Result, Ok, Err, refl, sym, ap, ◌∙◌, subst, length-append, arith}
use Rattle.std.specs.Prelude.{codes}
use Rattle.std.specs.Option.{option_map}
use Rattle.std.specs.Str.{bytes_eq}
use Rattle.std.proofs.lemmas.List.{take-map, drop-map, map-append, take-append-drop}
use Rattle.std.proofs.Math.Seq.{take-append_seam, drop-append_seam}
use Rattle.vlog_tree.specs.declared.expr.Expr.{Expr}
use Rattle.vlog_tree.specs.Lexemes.{Lexeme, is_mark}
use Rattle.vlog_tree.specs.Operators.{binary_of}
use Rattle.vlog_tree.specs.Expressions.{Spells, SpellsPlain}
use Rattle.vlog_tree.specs.Depth.{depth}
use Rattle.vlog_expr.specs.declared.stuck.Stuck.{Stuck}
use Rattle.vlog_expr.specs.declared.cursor.Next.TheVariants.{End}
use Rattle.vlog_expr.specs.Reading.{Outcome, Reader, first, sees, mark_if}
use Rattle.vlog_expr.specs.Exprs.{next_at, operator_from, expr}
use Rattle.vlog_expr.specs.Plain.{mask, plain}
use Rattle.vlog_expr.specs.Begins.{NoneBegins}
use Rattle.vlog_expr.proofs.Readers.{Steps, Steady, wants_room}
use Rattle.vlog_expr.proofs.CalmLemmas.{expr_calm}
use Rattle.vlog_expr.proofs.ShallowLemmas.{expr_steady}
use Rattle.vlog_expr.proofs.SpelledLemmas.{sized}
use Rattle.vlog_expr.proofs.OpenLemmas.{ends_open}
use Rattle.vlog_expr.proofs.ClimbSound.{expr_sound, expr_stops}
use Rattle.vlog_expr.proofs.Complete.{complete, part_read, higher_end}
use Rattle.vlog_expr.proofs.Answered.{read_ends, no_open}
use Rattle.vlog_expr.proofs.MarkLemmas.{Quiet}
use Rattle.vlog_expr.proofs.MaskLemmas.{mask-mark, length-mask}
use Rattle.vlog_expr.proofs.StringLemmas.{sober, unmasked, without, without_any, mask-without}

-- the next lexeme, if there is one, does not go on with the expression
pub record Ended (x : Expr) (next : Option Lexeme) : Type 0 where
  pub ends : next_at 0 next ≡ End
  pub closed : ends_open x ≡ true → sees (codes "[") next ≡ false

-- what a quiet mark ends
pub quiet_ended : (x : Expr) (r : Lexeme) → Quiet r → Ended x (Some r)
quiet_ended x r q = record { ends = q.ends 0; closed = λ open_end. q.opens }

-- what is read is spelled, no deeper than the room, and ended
pub record SoundAny (room : ℕ) (ls : List Lexeme) (x : Expr) (rest : List Lexeme) : Type 0 where
  pub taken : List Lexeme
  pub parts : ls ≡ taken ++ rest
  pub spelled : Spells 0 taken x
  pub shallow : depth x ≤ room
  pub ended : Ended x (first rest)

-- the same without z digits
pub record SoundPlain (room : ℕ) (ls : List Lexeme) (x : Expr) (rest : List Lexeme) : Type 0 where
  pub taken : List Lexeme
  pub parts : ls ≡ taken ++ rest
  pub spelled : SpellsPlain taken x
  pub shallow : depth x ≤ room
  pub ended : Ended x (first rest)

closed_by : (pre rest : List Lexeme) (x : Expr) → Spells 0 pre x → (d : ℕ) → expr d 0 (pre ++ rest) ≡ (Ok x, rest) → ends_open x ≡ true → sees (codes "[") (first rest) ≡ false
unfolding first sees
closed_by pre [] x spelled d h opens = refl
closed_by pre (l ∷ rest) x spelled d h opens = by (read_ends d pre (l ∷ rest) x h)
  where
    by : ((l ∷ rest) ≡ []) ⊎ NoneBegins pre (l ∷ rest) → sees (codes "[") (Some l) ≡ false
    by (inl none) = cc
    by (inr none) = no_open pre l rest x spelled none opens

pub any_sound : (d : ℕ) (ls : List Lexeme) (x : Expr) (rest : List Lexeme) → expr d 0 ls ≡ (Ok x, rest) → SoundAny d ls x rest
any_sound d ls x rest h =
    let s = expr_sound d 0 ls x rest h in
    record {
      taken = s.taken;
      parts = s.parts;
      spelled = s.spelled;
      shallow = s.shallow;
      ended = record { ends = expr_stops d 0 ls x rest h; closed = closed_by s.taken rest x s.spelled d (ap (expr d 0) (sym s.parts) ∙ h) };
    }

pub any_read : (d : ℕ) (us rest : List Lexeme) (x : Expr) → Spells 0 us x → depth x ≤ d → Ended x (first rest) → expr d 0 (us ++ rest) ≡ (Ok x, rest)
any_read d us rest x spelled shallow ended =
    part_read (complete spelled) (sized spelled).some d 0 rest (omega arith) shallow
    (record { loose = λ e. ended.ends; tight = higher_end 0 (0 + 1) (first rest) ended.ends (omega arith) (omega arith) })
    ended.closed ended.ends

-- marks are seen through a mask
sees-mask : (m : List ℕ) (ls : List Lexeme) → sees m (first (map mask ls)) ≡ sees m (first ls)
unfolding first sees is_mark
sees-mask m [] = refl
sees-mask m (l ∷ ls) = ap (λ b. bytes_eq b m) (mask-mark l)

next-mask : (level : ℕ) (ls : List Lexeme) → next_at level (first (map mask ls)) ≡ next_at level (first ls)
unfolding first next_at sees is_mark mark_if
next-mask level [] = refl
next-mask level (l ∷ ls) = rw (mask-mark l) refl

first-mask : (ls : List Lexeme) → first (map mask ls) ≡ option_map mask (first ls)
unfolding first
first-mask [] = refl
first-mask (l ∷ ls) = refl

ended_seen : (x : Expr) (rest : List Lexeme) → Ended x (first (map mask rest)) → Ended x (first rest)
ended_seen x rest e = record { ends = sym (next-mask 0 rest) ∙ e.ends; closed = λ o. sym (sees-mask (codes "[") rest) ∙ e.closed o }

ended_masked : (x : Expr) (rest : List Lexeme) → Ended x (first rest) → Ended x (first (map mask rest))
ended_masked x rest e = record { ends = next-mask 0 rest ∙ e.ends; closed = λ o. sees-mask (codes "[") rest ∙ e.closed o }

-- what a list is made of, where its masked lexemes are
record Split (ls taken left : List Lexeme) (n : ℕ) : Type 0 where
  pub front : map mask (take n ls) ≡ taken
  pub back : map mask (drop n ls) ≡ left

split : (ls taken left : List Lexeme) → map mask ls ≡ taken ++ left → Split ls taken left (length ls - length left)
split ls taken left e =
    let long : length ls - length left ≡ length taken = omega (arith, ap length e, length-append taken left, length-mask ls) in
    let n = length ls - length left in
    record {
      front = sym (take-map mask n ls) ∙ (ap (take n) e ∙ (ap (λ k. take k (taken ++ left)) long ∙ take-append_seam taken left));
      back = sym (drop-map mask n ls) ∙ (ap (drop n) e ∙ (ap (λ k. drop k (taken ++ left)) long ∙ drop-append_seam taken left));
    }

pub plain_sound : (d : ℕ) (ls : List Lexeme) (x : Expr) (rest : List Lexeme) → plain (expr d 0) ls ≡ (Ok x, rest) → SoundPlain d ls x rest
unfolding plain
plain_sound d ls x rest h =
    let left = (expr d 0 (map mask ls)).1 in
    let n = length ls - length left in
    let behind : drop n ls ≡ rest = ap (λ o. o.1) h in
    let s = any_sound d (map mask ls) x left (ap (λ v. (v, left)) (ap (λ o. o.0) h)) in
    let cut = split ls s.taken left s.parts in
    let spelled : Spells 0 (map mask (take n ls)) x = subst (λ z. Spells 0 z x) (sym cut.front) s.spelled in
    let clear = unmasked (take n ls) (sober spelled) in
    record {
      taken = take n ls;
      parts = sym (take-append-drop n ls) ∙ ap (λ z. take n ls ++ z) behind;
      spelled = record { spells = subst (λ z. Spells 0 z x) clear.0 spelled; plain = without (take n ls) clear.1 };
      shallow = s.shallow;
      ended = ended_seen x rest (subst (λ z. Ended x (first z)) (sym cut.back ∙ ap (map mask) behind) s.ended);
    }

pub plain_read : (d : ℕ) (us rest : List Lexeme) (x : Expr) → SpellsPlain us x → depth x ≤ d → Ended x (first rest) → plain (expr d 0) (us ++ rest) ≡ (Ok x, rest)
unfolding plain
plain_read d us rest x spelled shallow ended =
    let clear = mask-without us (without_any us spelled.plain) in
    let parts : map mask (us ++ rest) ≡ us ++ map mask rest = map-append mask us rest ∙ ap (λ z. z ++ map mask rest) clear in
    let read : expr d 0 (map mask (us ++ rest)) ≡ (Ok x, map mask rest) = ap (expr d 0) parts ∙ any_read d us (map mask rest) x spelled.spells shallow (ended_masked x rest ended) in
    let long : length (us ++ rest) - length (map mask rest) ≡ length us = omega (arith, length-append us rest, length-mask rest) in
    ap (λ o. (o.0, drop (length (us ++ rest) - length o.1) (us ++ rest))) read ∙ (ap (λ k. (Ok x, drop k (us ++ rest))) long ∙ ap (λ z. (Ok x, z)) (drop-append_seam us rest))

-- through a mask a steady reader is steady
steps_plain : {A : Type 0} (p : Reader A) (ls : List Lexeme) → Steps p (map mask ls) (p (map mask ls)).0 (p (map mask ls)).1 → Steps (plain p) ls (plain p ls).0 (plain p ls).1
unfolding plain
steps_plain p ls s =
    let v = (p (map mask ls)).0 in
    let left = (p (map mask ls)).1 in
    let n = length ls - length left in
    let cut = split ls s.pre left s.parts in
    record {
      is = refl;
      pre = take n ls;
      parts = sym (take-append-drop n ls);
      same = λ rest e.
          let seen : map mask (take n ls ++ rest) ≡ s.pre ++ map mask rest = map-append mask (take n ls) rest ∙ ap (λ z. z ++ map mask rest) cut.front in
          let here : p (map mask (take n ls ++ rest)) ≡ (v, map mask rest) =
          ap p seen ∙ s.same (map mask rest) (first-mask rest ∙ (ap (option_map mask) e ∙ (sym (first-mask (drop n ls)) ∙ ap first cut.back))) in
          let long : length (take n ls ++ rest) - length (map mask rest) ≡ length (take n ls) = omega (arith, length-append (take n ls) rest, length-mask rest) in
          ap (λ o. (o.0, drop (length (take n ls ++ rest) - length o.1) (take n ls ++ rest))) here
          ∙ (ap (λ k. (v, drop k (take n ls ++ rest))) long ∙ ap (λ z. (v, z)) (drop-append_seam (take n ls) rest));
    }

pub steady_plain : {k : ℕ} {A : Type 0} {p q : Reader A} → Steady k p q → Steady k (plain p) (plain q)
unfolding plain
steady_plain {p = p} s = record {
  local = λ ls. steps_plain p ls (s.local (map mask ls));
  stays = λ ls calm. ap (λ o. (o.0, drop (length ls - length o.1) ls)) (s.stays (map mask ls) calm);
  shallow = λ ls few. s.shallow (map mask ls) (let same = length-mask ls in omega arith);
}

-- with more room too
pub any_steady : (d more : ℕ) → d ≤ more → Steady d (expr d 0) (expr more 0)
any_steady d more le = record { local = (expr_steady d 0).local; stays = (expr_calm d more le 0).stays; shallow = (expr_steady d 0).shallow }

pub plain_steady : (d more : ℕ) → d ≤ more → Steady d (plain (expr d 0)) (plain (expr more 0))
plain_steady d more le = steady_plain (any_steady d more le)

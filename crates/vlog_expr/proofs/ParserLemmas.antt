-- From what the reader gives to what is answered.
use Rattle.std.proofs.Common.{map, ◌≢◌, ◌≡◌, ℕ, zero, suc, ◌+◌, ◌-◌, ◌<◌, ◌≤◌, true, false, ◌⊎◌, inl, inr, List, [], ◌∷◌, ◌++◌, length, take, drop, Option, Some, None, Result, Ok, Err, refl, sym, ap, ◌∙◌, subst, append_assoc, length-append, arith}
use Rattle.std.specs.Prelude.{nat_le, Bool}
use Rattle.std.proofs.lemmas.Bool.{leb-true, leb-false}
use Rattle.std.proofs.lemmas.List.{append_cancel_right, take-map, drop-map}
use Rattle.vlog_lex.specs.declared.tokens.Token.{Token}
use Rattle.std.proofs.Math.Seq.{take-append_seam, drop-append_seam}
use Rattle.rdc_outside.specs.declared.source.Place.{Place}
use Rattle.vlog_tree.specs.declared.expr.Expr.{Expr}
use Rattle.vlog_tree.specs.Lexemes.{Lexeme, lexeme, lexemes}
use Rattle.vlog_tree.specs.Depth.{depth}
use Rattle.vlog_expr.specs.declared.fault.ExprFault.{ExprFault}
use Rattle.vlog_expr.specs.declared.fault.ExprFault.TheVariants as fault
use Rattle.vlog_expr.specs.declared.stuck.Stuck.{Stuck}
use Rattle.vlog_expr.specs.declared.stuck.Stuck.TheVariants.{Memory, Wrong, Deep}
use Rattle.vlog_expr.specs.Reading.{Outcome, first}
use Rattle.vlog_expr.specs.Exprs.{expr}
use Rattle.vlog_expr.specs.Begins.{NoneBegins, IsAnswer, IsFault, last, refusal, named_place, fault_of}
use Rattle.vlog_expr.proofs.Readers.{Steps, wants_room}
use Rattle.vlog_expr.proofs.Inversion.{gave}
use Rattle.vlog_expr.proofs.ShallowLemmas.{expr_steady}
use Rattle.vlog_expr.proofs.Answered.{stepped, wrong_begins, deep_begins, answered, answer_read}

-- an answer is the one that is read
pub one_answer : (ls : List Lexeme) (y x : Expr) (rest : List Lexeme) (count : ℕ) → expr 255 0 ls ≡ (Ok y, rest) → IsAnswer ls x count → (y ≡ x) × (length ls - length rest ≡ count)
one_answer ls y x rest count h a =
    let g = gave x a.rest y rest (sym (answer_read ls x count a) ∙ h) in
    let counted = a.counted in
    (g.same, omega (arith, ap length g.left, ap length a.parts, length-append a.pre a.rest))

-- where a reading stops there is no answer
pub no_answer : (ls : List Lexeme) (why : Stuck) (x : Expr) (rest : List Lexeme) (count : ℕ) → expr 255 0 ls ≡ (Err why, rest) → IsAnswer ls x count → ⊥
no_answer ls why x rest count h a = let never = ap (λ o. o.0) (sym h ∙ answer_read ls x count a) in cc

-- the lexemes before and behind the place where a reading stops
pub record Cut (ls rest : List Lexeme) (at : ℕ) : Type 0 where
  pub parts : ls ≡ take at ls ++ rest
  pub behind : drop at ls ≡ rest
  pub long : length (take at ls) ≡ at

cut_at : (pre rest : List Lexeme) (at : ℕ) → at ≡ length pre → Cut (pre ++ rest) rest at
cut_at pre rest at e =
    let front : take at (pre ++ rest) ≡ pre = ap (λ n. take n (pre ++ rest)) e ∙ take-append_seam pre rest in
    record {
      parts = ap (λ z. z ++ rest) (sym front);
      behind = ap (λ n. drop n (pre ++ rest)) e ∙ drop-append_seam pre rest;
      long = ap length front ∙ sym e;
    }

pub cut : (ls rest : List Lexeme) (why : Stuck) (at : ℕ) → expr 255 0 ls ≡ (Err why, rest) → at ≡ length ls - length rest → Cut ls rest at
cut ls rest why at h e =
    let s = stepped 255 ls (Err why) rest h in
    subst (λ z. Cut z rest at) (sym s.parts) (cut_at s.pre rest at (omega (arith, ap length s.parts, length-append s.pre rest)))

by_word : (end : Place) (ls pre rest : List Lexeme) (word : Option (List ℕ)) → ls ≡ pre ++ rest → refusal (last pre) (first rest) ≡ word → NoneBegins pre rest → IsFault end ls (fault_of (named_place end (first rest)) word)
unfolding fault_of
by_word end ls pre rest None parts is none = record { pre = pre; rest = rest; names = record { parts = parts; place_is = refl; word_is = is }; none = none }
by_word end ls pre rest (Some word) parts is none = record { pre = pre; rest = rest; names = record { parts = parts; place_is = refl; word_is = is }; none = none }

-- a wrong lexeme
pub wrong_fault : (end : Place) (ls rest : List Lexeme) (at : ℕ) (f : ExprFault) → expr 255 0 ls ≡ (Err Wrong, rest) → at ≡ length ls - length rest
    → (f ≡ fault.Memory) ⊎ (f ≡ fault_of (named_place end (first (drop at ls))) (refusal (last (take at ls)) (first (drop at ls)))) → IsFault end ls f
wrong_fault end ls rest at f h e (inl memory) = subst (IsFault end ls) (sym memory) tt
wrong_fault end ls rest at f h e (inr is) =
    let c = cut ls rest Wrong at h e in
    subst (IsFault end ls) (sym (is ∙ ap (λ z. fault_of (named_place end (first z)) (refusal (last (take at ls)) (first z))) c.behind))
    (by_word end ls (take at ls) rest (refusal (last (take at ls)) (first rest)) c.parts refl (wrong_begins 255 (take at ls) rest (ap (expr 255 0) (sym c.parts) ∙ h)))

-- one lexeme of what is left is enough to stop
front_of : List Lexeme → List Lexeme
front_of [] = []
front_of (l ∷ ls) = l ∷ []

same_front : (rest : List Lexeme) → first (front_of rest) ≡ first rest
unfolding front_of first
same_front [] = refl
same_front (l ∷ rest) = refl

short_front : (rest : List Lexeme) → length (front_of rest) ≤ 1
unfolding front_of
short_front [] = omega arith
short_front (l ∷ rest) = omega arith

deep_short : (us left : List Lexeme) → expr 255 0 us ≡ (Err Deep, left) → 255 ≤ length us
deep_short us left h = by (nat_le 255 (length us)) refl
  where
    by : (b : Bool) → nat_le 255 (length us) ≡ b → 255 ≤ length us
    by true enough = leb-true 255 (length us) enough
    by false few =
        let calm = (expr_steady 255 0).shallow us (leb-false 255 (length us) few) in
        let never = ap (λ o. wants_room o.0) h in cc

-- many lexemes stand before a lexeme that is too deep
long_by : (pre rest : List Lexeme) → expr 255 0 (pre ++ rest) ≡ (Err Deep, rest) → 254 ≤ length pre
long_by pre rest h =
    let s = stepped 255 (pre ++ rest) (Err Deep) rest h in
    let front : s.pre ≡ pre = append_cancel_right s.pre pre rest (sym s.parts) in
    let here : expr 255 0 (pre ++ front_of rest) ≡ (Err Deep, front_of rest) = ap (λ z. expr 255 0 (z ++ front_of rest)) (sym front) ∙ s.same (front_of rest) (same_front rest) in
    let enough = deep_short (pre ++ front_of rest) (front_of rest) here in
    let one = short_front rest in
    omega (arith, length-append pre (front_of rest))

-- a lexeme that is too deep
pub deep_fault : (end : Place) (ls rest : List Lexeme) (at : ℕ) (place : Place) → expr 255 0 ls ≡ (Err Deep, rest) → at ≡ length ls - length rest → place ≡ named_place end (first (drop at ls)) → IsFault end ls (fault.TooDeep place)
deep_fault end ls rest at place h e is =
    let c = cut ls rest Deep at h e in
    let here = ap (expr 255 0) (sym c.parts) ∙ h in
    record {
      pre = take at ls;
      rest = rest;
      parts = c.parts;
      place_is = is ∙ ap (λ z. named_place end (first z)) c.behind;
      none = deep_begins (take at ls) rest here;
      many = long_by (take at ls) rest here;
    }

-- a reading that stops for want of no memory
pub stop_read : (ls cursor rest : List Lexeme) (why w : Stuck) → cursor ≡ ls → (why ≢ Memory → expr 255 0 cursor ≡ (Err why, rest)) → why ≡ w → w ≢ Memory → expr 255 0 ls ≡ (Err w, rest)
stop_read ls cursor rest why w same reads is fresh =
    ap (expr 255 0) (sym same) ∙ (reads (λ e. fresh (sym is ∙ e)) ∙ ap (λ v. (Err v, rest)) is)

pub fresh_wrong : Wrong ≢ Memory
fresh_wrong e = cc

pub fresh_deep : Deep ≢ Memory
fresh_deep e = cc

-- said of the tokens, and said of their lexemes
pub place_cut : (f : Token → Lexeme) (end : Place) (ahead rest : List Token) (at : ℕ) (place : Place) → rest ≡ drop at ahead → place ≡ named_place end (first (map f rest)) → place ≡ named_place end (first (drop at (map f ahead)))
place_cut f end ahead rest at place back is = is ∙ (ap (λ z. named_place end (first (map f z))) back ∙ ap (λ z. named_place end (first z)) (sym (drop-map f at ahead)))

pub wrong_cut : (f : Token → Lexeme) (end : Place) (ahead pre rest : List Token) (at : ℕ) (x : ExprFault) → pre ≡ take at ahead → rest ≡ drop at ahead
    → (x ≡ fault.Memory) ⊎ (x ≡ fault_of (named_place end (first (map f rest))) (refusal (last (map f pre)) (first (map f rest))))
    → (x ≡ fault.Memory) ⊎ (x ≡ fault_of (named_place end (first (drop at (map f ahead)))) (refusal (last (take at (map f ahead))) (first (drop at (map f ahead)))))
wrong_cut f end ahead pre rest at x before back (inl memory) = inl memory
wrong_cut f end ahead pre rest at x before back (inr is) =
    let b : map f rest ≡ drop at (map f ahead) = ap (map f) back ∙ sym (drop-map f at ahead) in
    let a : map f pre ≡ take at (map f ahead) = ap (map f) before ∙ sym (take-map f at ahead) in
    inr (is ∙ (ap (λ z. fault_of (named_place end (first z)) (refusal (last (map f pre)) (first z))) b ∙ ap (λ z. fault_of (named_place end (first (drop at (map f ahead)))) (refusal (last z) (first (drop at (map f ahead))))) a))

-- the lexemes of the tokens from a number on
pub same_lexemes : (bytes lent : List ℕ) (places stood : List Place) (tokens ahead : List Token) (from : ℕ) → lent ≡ bytes → stood ≡ places → ahead ≡ drop from tokens → lexemes lent stood ahead ≡ drop from (lexemes bytes places tokens)
same_lexemes bytes lent places stood tokens ahead from b p e =
    ap (λ z. lexemes z stood ahead) b ∙ (ap (λ z. lexemes bytes z ahead) p ∙ (ap (λ z. lexemes bytes places z) e ∙ sym (drop-map (lexeme bytes places) from tokens)))

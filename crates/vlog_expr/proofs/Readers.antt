-- What readers keep to, and that what is put together from such readers keeps to it.
--     Steps p ls v left       p answers v on ls with so much left, and would on all that begins so, up to the lexeme behind
--     Steady k p q            p takes such steps; q, which has more room, answers the same unless p wants room; p wants none
--                             on fewer than k lexemes
--     SteadyPast, SteadyFront      the same, where the first lexeme doesn't count, and where there is one
use Rattle.std.proofs.Common.{◌≡◌, ◌≢◌, ℕ, zero, suc, ◌+◌, ◌-◌, ◌<◌, ◌≤◌, Bool, true, false, cond, List, [], ◌∷◌, ◌++◌, length, drop, Option, Some, None, Result, Ok, Err, refl, sym, ap, ◌∙◌, subst, append_assoc, length-append, arith}
use Rattle.std.specs.Prelude.{nat_le, if◌then◌else◌}
use Rattle.std.proofs.lemmas.Bool.{leb-true, le-leb, leb-false}
use Rattle.vlog_tree.specs.Lexemes.{Lexeme}
use Rattle.vlog_expr.specs.declared.stuck.Stuck.{Stuck}
use Rattle.vlog_expr.specs.declared.stuck.Stuck.TheVariants.{Memory, Wrong, Deep}
use Rattle.vlog_expr.specs.Reading.{Outcome, Reader, first, onward, peek, advance, pure, stop, sees, expect}
use Rattle.vlog_expr.specs.Exprs.{within}

pub record Steps {A : Type 0} (p : Reader A) (ls : List Lexeme) (v : Result A Stuck) (left : List Lexeme) : Type 0 where
  pub is : p ls ≡ (v, left)
  pub pre : List Lexeme
  pub parts : ls ≡ pre ++ left
  pub same : (rest : List Lexeme) → first rest ≡ first left → p (pre ++ rest) ≡ (v, rest)

abbrev pub Local : {A : Type 0} → Reader A → Type 0
Local p = (ls : List Lexeme) → Steps p ls (p ls).0 (p ls).1

-- what stands in front depends on what stands there
front : (pre a b : List Lexeme) → first a ≡ first b → first (pre ++ a) ≡ first (pre ++ b)
unfolding first
front [] a b e = e
front (l ∷ pre) a b e = refl

-- what is left is no longer
pub shorter : {A : Type 0} {p : Reader A} {ls : List Lexeme} {v : Result A Stuck} {left : List Lexeme} → Steps p ls v left → length left ≤ length ls
shorter {ls = ls} {left = left} s = omega (arith, ap length s.parts, length-append s.pre left)

steps_onward : {A B : Type 0} (p : Reader A) (f : A → Reader B) (ls : List Lexeme) (v : Result A Stuck) (mid : List Lexeme)
    → Steps p ls v mid → ((a : A) → Local (f a))
    → Steps (λ xs. onward (p xs).0 (p xs).1 f) ls (onward v mid f).0 (onward v mid f).1
steps_onward p f ls (Ok a) mid s local =
    let t = local a mid in
    let middle = front t.pre in
    record {
      is = ap (λ o. onward o.0 o.1 f) s.is ∙ t.is;
      pre = s.pre ++ t.pre;
      parts = s.parts ∙ (ap (λ xs. s.pre ++ xs) t.parts ∙ sym (append_assoc s.pre t.pre (f a mid).1));
      same = λ rest e.
          ap (λ xs. onward (p xs).0 (p xs).1 f) (append_assoc s.pre t.pre rest)
          ∙ (ap (λ o. onward o.0 o.1 f) (s.same (t.pre ++ rest) (front t.pre rest (f a mid).1 e ∙ ap first (sym t.parts)))
          ∙ t.same rest e);
    }
steps_onward p f ls (Err why) mid s local = record {
  is = ap (λ o. onward o.0 o.1 f) s.is;
  pre = s.pre;
  parts = s.parts;
  same = λ rest e. ap (λ o. onward o.0 o.1 f) (s.same rest e);
}

abbrev pub is_deep : Stuck → Bool
is_deep Memory = false
is_deep Wrong = false
is_deep Deep = true

-- the answer wants more room
abbrev pub wants_room : {A : Type 0} → Result A Stuck → Bool
wants_room (Ok a) = false
wants_room (Err why) = is_deep why

pub record Steady (k : ℕ) {A : Type 0} (p q : Reader A) : Type 0 where
  pub local : Local p
  pub stays : (ls : List Lexeme) → wants_room (p ls).0 ≡ false → q ls ≡ p ls
  pub shallow : (ls : List Lexeme) → length ls < k → wants_room (p ls).0 ≡ false

stays_onward : {A B : Type 0} (q : Reader A) (f g : A → Reader B) (ls : List Lexeme) (v : Result A Stuck) (mid : List Lexeme)
    → (wants_room v ≡ false → q ls ≡ (v, mid)) → ((a : A) → wants_room (f a mid).0 ≡ false → g a mid ≡ f a mid)
    → wants_room (onward v mid f).0 ≡ false → onward (q ls).0 (q ls).1 g ≡ onward v mid f
stays_onward q f g ls (Ok a) mid same rest calm = ap (λ o. onward o.0 o.1 g) (same refl) ∙ rest a calm
stays_onward q f g ls (Err why) mid same rest calm = ap (λ o. onward o.0 o.1 g) (same calm)

shallow_onward : {A B : Type 0} (f : A → Reader B) (v : Result A Stuck) (mid : List Lexeme)
    → wants_room v ≡ false → ((a : A) → wants_room (f a mid).0 ≡ false) → wants_room (onward v mid f).0 ≡ false
shallow_onward f (Ok a) mid calm rest = rest a
shallow_onward f (Err why) mid calm rest = calm

in_a_row : {k : ℕ} {A B : Type 0} (p q : Reader A) (f g : A → Reader B) → Steady k p q → ((a : A) → Steady k (f a) (g a))
    → Steady k (λ ls. onward (p ls).0 (p ls).1 f) (λ ls. onward (q ls).0 (q ls).1 g)
in_a_row p q f g s t = record {
  local = λ ls. steps_onward p f ls (p ls).0 (p ls).1 (s.local ls) (λ a. (t a).local);
  stays = λ ls calm. stays_onward q f g ls (p ls).0 (p ls).1 (s.stays ls) (λ a. (t a).stays (p ls).1) calm;
  shallow = λ ls few. shallow_onward f (p ls).0 (p ls).1 (s.shallow ls few) (λ a. (t a).shallow (p ls).1 (let less = shorter (s.local ls) in omega arith));
}

-- in a row
infixl 10 ◌>>=◌
pub ◌>>=◌ : {k : ℕ} {A B : Type 0} {p q : Reader A} {f g : A → Reader B} → Steady k p q → ((a : A) → Steady k (f a) (g a))
    → Steady k (λ ls. onward (p ls).0 (p ls).1 f) (λ ls. onward (q ls).0 (q ls).1 g)
s >>= t = in_a_row _ _ _ _ s t

infixl 10 ◌>>◌
pub ◌>>◌ : {k : ℕ} {A B : Type 0} {p q : Reader A} {f g : Reader B} → Steady k p q → Steady k f g
    → Steady k (λ ls. onward (p ls).0 (p ls).1 (λ _. f)) (λ ls. onward (q ls).0 (q ls).1 (λ _. g))
s >> t = s >>= (λ _. t)

pub steady_pure : {k : ℕ} {A : Type 0} (a : A) → Steady k (pure a) (pure a)
steady_pure a = record {
  local = λ ls. record { is = refl; pre = []; parts = refl; same = λ rest e. refl };
  stays = λ ls calm. refl;
  shallow = λ ls few. refl;
}

pub steady_wrong : {k : ℕ} {A : Type 0} → Steady k {A = A} (stop Wrong) (stop Wrong)
steady_wrong = record {
  local = λ ls. record { is = refl; pre = []; parts = refl; same = λ rest e. refl };
  stays = λ ls calm. refl;
  shallow = λ ls few. refl;
}

pub steady_peek : {k : ℕ} {A : Type 0} (g : Option Lexeme → A) → Steady k (peek g) (peek g)
steady_peek g = record {
  local = λ ls. record { is = refl; pre = []; parts = refl; same = λ rest e. ap (λ o. (Ok (g o), rest)) e };
  stays = λ ls calm. refl;
  shallow = λ ls few. refl;
}

no_more : (rest : List Lexeme) → first rest ≡ first [] → advance ([] ++ rest) ≡ (Ok tt, rest)
unfolding first
no_more [] e = refl
no_more (l ∷ rest) e = cc

local_advance : Local advance
unfolding first
local_advance [] = record { is = refl; pre = []; parts = refl; same = no_more }
local_advance (l ∷ ls) = record { is = refl; pre = l ∷ []; parts = refl; same = λ rest e. refl }

pub steady_advance : {k : ℕ} → Steady k advance advance
steady_advance = record { local = local_advance; stays = λ ls calm. refl; shallow = λ ls few. refl }

-- by a test
pub steady_if : {k : ℕ} {A : Type 0} {p p' q q' : Reader A} (b : Bool) → Steady k p p' → Steady k q q' → Steady k (if b then p else q) (if b then p' else q')
steady_if true s t = s
steady_if false s t = t

pub steady_expect : {k : ℕ} (mark : List ℕ) → Steady k (expect mark) (expect mark)
unfolding expect
steady_expect mark = let built = steady_peek (sees mark) >>= (λ there. steady_if there steady_advance steady_wrong) in built

local_at : {X A : Type 0} (g : Option Lexeme → X) (f : X → Reader A) → ((x : X) → Local (f x)) → Local (λ ls. f (g (first ls)) ls)
local_at g f local = λ ls. steps_onward (peek g) f ls (Ok (g (first ls))) ls ((steady_peek {k = 0} g).local ls) local

shallow_at : {k : ℕ} {X A : Type 0} (g : Option Lexeme → X) (f : X → Reader A)
    → ((ls : List Lexeme) → length ls < k → wants_room (f (g None) ls).0 ≡ false)
    → ((x : X) (l : Lexeme) (ls : List Lexeme) → length (l ∷ ls) < k → wants_room (f x (l ∷ ls)).0 ≡ false)
    → (ls : List Lexeme) → length ls < k → wants_room (f (g (first ls)) ls).0 ≡ false
unfolding first
shallow_at g f none some [] few = none [] few
shallow_at g f none some (l ∷ ls) few = some (g (Some l)) l ls few

-- what is read past the lexeme in front
pub record SteadyPast (k : ℕ) {A : Type 0} (p q : Reader A) : Type 0 where
  pub local : Local p
  pub stays : (ls : List Lexeme) → wants_room (p ls).0 ≡ false → q ls ≡ p ls
  pub shallow : (l : Lexeme) (ls : List Lexeme) → length ls < k → wants_room (p (l ∷ ls)).0 ≡ false

-- what is read where a lexeme is in front
pub record SteadyFront (k : ℕ) {A : Type 0} (p q : Reader A) : Type 0 where
  pub local : Local p
  pub stays : (ls : List Lexeme) → wants_room (p ls).0 ≡ false → q ls ≡ p ls
  pub shallow : (l : Lexeme) (ls : List Lexeme) → length (l ∷ ls) < k → wants_room (p (l ∷ ls)).0 ≡ false

pub steady_past : {k : ℕ} {A : Type 0} {p q : Reader A} → Steady k p q → SteadyPast k (λ ls. p (drop 1 ls)) (λ ls. q (drop 1 ls))
steady_past {k = k} {A = A} {p = p} {q = q} s =
    let built = in_a_row {k = k} advance advance (λ _. p) (λ _. q) steady_advance (λ _. s) in
    record { local = built.local; stays = built.stays; shallow = λ l ls few. s.shallow ls few }

steady_when : {k : ℕ} {A : Type 0} {p q : Reader A} (b c : Bool) → (b ≡ true → c ≡ true) → (b ≡ false → k ≡ 0) → SteadyPast k p q
    → SteadyFront (suc k) (if b then p else stop Deep) (if c then q else stop Deep)
steady_when false c more none s = record {
  local = λ ls. record { is = refl; pre = []; parts = refl; same = λ rest e. refl };
  stays = λ ls calm. cc;
  shallow = λ l ls few. (let zero_room = none refl in absurd (omega arith));
}
steady_when true true more none s = record {
  local = s.local;
  stays = s.stays;
  shallow = λ l ls few. s.shallow l ls (omega arith);
}
steady_when true false more none s = let e = more refl in cc

more_room : (room more : ℕ) → room ≤ more → nat_le 1 room ≡ true → nat_le 1 more ≡ true
more_room room more le some = let at_least = leb-true 1 room some in le-leb 1 more (omega arith)

no_room : (k room : ℕ) → k ≤ room → nat_le 1 room ≡ false → k ≡ 0
no_room k room le none = let less = leb-false 1 room none in omega arith

pub steady_within : {k : ℕ} {A : Type 0} {p q : Reader A} (room more : ℕ) → k ≤ room → room ≤ more → SteadyPast k p q
    → SteadyFront (suc k) (if nat_le 1 room then p else stop Deep) (if nat_le 1 more then q else stop Deep)
steady_within {k = k} room more few le s = steady_when (nat_le 1 room) (nat_le 1 more) (more_room room more le) (no_room k room few) s

pub steady_front : {k : ℕ} {A : Type 0} {p q : Reader A} → Steady k p q → SteadyFront k p q
steady_front s = record { local = s.local; stays = s.stays; shallow = λ l ls few. s.shallow (l ∷ ls) few }

pub steady_front_if : {k : ℕ} {A : Type 0} {p p' q q' : Reader A} (b : Bool) → SteadyFront k p p' → SteadyFront k q q' → SteadyFront k (if b then p else q) (if b then p' else q')
steady_front_if true s t = s
steady_front_if false s t = t

-- by what is known of the lexeme in front
pub steady_at : {k : ℕ} {X A : Type 0} (g : Option Lexeme → X) (f h : X → Reader A)
    → Steady k (f (g None)) (h (g None)) → ((x : X) → SteadyFront k (f x) (h x)) → Steady k (λ ls. f (g (first ls)) ls) (λ ls. h (g (first ls)) ls)
steady_at g f h none some = record {
  local = local_at g f (λ x. (some x).local);
  stays = λ ls calm. (some (g (first ls))).stays ls calm;
  shallow = shallow_at g f none.shallow (λ x. (some x).shallow);
}

-- wanting room at once, beside anything
pub steady_deep : {A : Type 0} {q : Reader A} → Steady 0 (stop Deep) q
steady_deep = record {
  local = λ ls. record { is = refl; pre = []; parts = refl; same = λ rest e. refl };
  stays = λ ls calm. cc;
  shallow = λ ls few. absurd (omega arith);
}

-- of fewer lexemes
pub steady_fewer : {k n : ℕ} {A : Type 0} {p q : Reader A} → n ≤ k → Steady k p q → Steady n p q
steady_fewer le s = record { local = s.local; stays = s.stays; shallow = λ ls few. s.shallow ls (omega arith) }

pub steady_unpast : {A : Type 0} {p q : Reader A} → SteadyPast 0 p q → Steady 0 p q
steady_unpast s = record { local = s.local; stays = s.stays; shallow = λ ls few. absurd (omega arith) }

steady_fits : {A : Type 0} {p q : Reader A} (b c : Bool) → (b ≡ true → c ≡ true) → Steady 0 p q → Steady 0 (if b then p else stop Deep) (if c then q else stop Deep)
steady_fits false c more s = steady_deep
steady_fits true true more s = s
steady_fits true false more s = let e = more refl in cc

fits_more : (d room more : ℕ) → room ≤ more → nat_le d room ≡ true → nat_le d more ≡ true
fits_more d room more le fits = let at_most = leb-true d room fits in le-leb d more (omega arith)

-- where an operand is shallow enough
pub steady_room : {A : Type 0} {p q : Reader A} (d room more : ℕ) → room ≤ more → Steady 0 p q → Steady 0 (if nat_le d room then p else stop Deep) (if nat_le d more then q else stop Deep)
steady_room d room more le s = steady_fits (nat_le d room) (nat_le d more) (fits_more d room more le) s

-- Where lexemes are cut at the words `module`, and that no module lies across a cut.
use Rattle.std.proofs.Common.{◌≡◌, ℕ, ◌+◌, ◌<◌, ◌≤◌, Bool, true, false, List, [], ◌∷◌, ◌++◌, length, take, drop, refl, sym, ap, ◌∙◌, length-append, arith}
use Rattle.std.specs.Prelude.{◌||◌, not, nat_lt, if◌then◌else◌, codes}
use Rattle.std.specs.List.{list_any}
use Rattle.std.proofs.lemmas.List.Folds.{list_any-append}
use Rattle.std.proofs.Math.Seq.{take-append_seam}
use Rattle.vlog_tree.specs.declared.module.Module.{Module}
use Rattle.vlog_tree.specs.Lexemes.{Lexeme, is_word, IsWord}
use Rattle.vlog_tree.specs.Modules.{SpellsModule}
use Rattle.vlog_expr.specs.Reading.{first, sees_word}
use Rattle.vlog_parse.specs.Cuts.{is_inside, from_module, next_module}
use Rattle.vlog_parse.proofs.FreeLemmas.{Free, nothing, behind, moved}
use Rattle.vlog_parse.proofs.FreeModules.{one_word}

by_bool : (b : Bool) (l : Lexeme) (ls : List Lexeme) → not b ≡ true → from_module ls ≡ (if b then l ∷ ls else from_module ls)
by_bool true l ls e = cc
by_bool false l ls e = refl

-- a lexeme that isn't the word `module` is passed
pub passed : (ls : List Lexeme) → is_inside (first ls) ≡ true → (from_module (drop 1 ls) ≡ from_module ls) × (length (drop 1 ls) < length ls)
unfolding is_inside first from_module
passed [] e = cc
passed (l ∷ ls) e = (by_bool (is_word (codes "module") l) l ls e, omega arith)

by_other : (b : Bool) (l : Lexeme) (ls : List Lexeme) → not b ≡ false → (if b then l ∷ ls else from_module ls) ≡ l ∷ ls
by_other true l ls e = refl
by_other false l ls e = cc

pub stays : (ls : List Lexeme) → is_inside (first ls) ≡ false → from_module ls ≡ ls
unfolding is_inside first from_module
stays [] e = refl
stays (l ∷ ls) e = by_other (is_word (codes "module") l) l ls e

pub inside_by : (ls : List Lexeme) (n : ℕ) (b : Bool) → n ≡ length ls → 0 < n → b ≡ sees_word (codes "module") (first ls) → not b ≡ is_inside (first ls)
unfolding is_inside first sees_word
inside_by [] n b counted some e = absurd (omega arith)
inside_by (l ∷ ls) n b counted some e = ap not e

pub none_inside : (ls : List Lexeme) (n : ℕ) → n ≡ length ls → n ≤ 0 → nat_lt 0 n ≡ is_inside (first ls)
unfolding is_inside first
none_inside [] n counted none = ap (nat_lt 0) counted
none_inside (l ∷ ls) n counted none = absurd (omega arith)

-- nothing, or the word `module` in front
pub data AtModule (ls : List Lexeme) : Type 0 where
  ends : ls ≡ [] → AtModule ls
  goes : (l : Lexeme) (others : List Lexeme) → ls ≡ l ∷ others → IsWord (codes "module") l → AtModule ls

record Split (ls rest : List Lexeme) : Type 0 where
  pub pre : List Lexeme
  pub parts : ls ≡ pre ++ rest
  pub free : Free pre
  pub at : AtModule rest

split : (ls : List Lexeme) → Split ls (from_module ls)
unfolding from_module
split [] = record { pre = []; parts = refl; free = nothing; at = ends refl }
split (l ∷ ls) = by (is_word (codes "module") l) refl (split ls)
  where
    by : (b : Bool) → is_word (codes "module") l ≡ b → Split ls (from_module ls) → Split (l ∷ ls) (if b then l ∷ ls else from_module ls)
    by true is s = record { pre = []; parts = refl; free = nothing; at = goes l ls refl is }
    by false is s = record { pre = l ∷ s.pre; parts = ap (λ z. l ∷ z) s.parts; free = behind l is s.free; at = s.at }

-- a first lexeme, and others up to the next word `module`
pub record Cut (ls chunk rest : List Lexeme) : Type 0 where
  pub head : Lexeme
  pub inside : List Lexeme
  pub parts : ls ≡ chunk ++ rest
  pub is : chunk ≡ head ∷ inside
  pub free : Free inside
  pub at : AtModule rest

cut_by : (l : Lexeme) (ls : List Lexeme) (n : ℕ) → n + length (from_module ls) ≡ length (l ∷ ls) → Cut (l ∷ ls) (take n (l ∷ ls)) (from_module ls)
cut_by l ls n counted =
    let s = split ls in
    let whole : l ∷ ls ≡ (l ∷ s.pre) ++ from_module ls = ap (λ z. l ∷ z) s.parts in
    let long : n ≡ length (l ∷ s.pre) = omega (arith, ap length s.parts, length-append s.pre (from_module ls)) in
    let chunk : take n (l ∷ ls) ≡ l ∷ s.pre = ap (λ k. take k (l ∷ ls)) long ∙ (ap (λ z. take (length (l ∷ s.pre)) z) whole ∙ take-append_seam (l ∷ s.pre) (from_module ls)) in
    record { head = l; inside = s.pre; parts = whole ∙ ap (λ z. z ++ from_module ls) (sym chunk); is = chunk; free = s.free; at = s.at }

pub cut : (ls : List Lexeme) (n : ℕ) → 1 ≤ length ls → n + length (next_module ls) ≡ length ls → Cut ls (take n ls) (next_module ls)
unfolding next_module
cut [] n some counted = absurd (omega arith)
cut (l ∷ ls) n some counted = cut_by l ls n counted

pub next_shorter : (ls : List Lexeme) → length (next_module ls) ≤ length ls
unfolding next_module from_module
next_shorter [] = omega arith
next_shorter (l ∷ ls) = let s = split ls in omega (arith, ap length s.parts, length-append s.pre (from_module ls))

-- two ways to part one list
pub data Seam (xs ys pre vs : List Lexeme) : Type 0 where
  short : (zs : List Lexeme) → pre ≡ xs ++ zs → ys ≡ zs ++ vs → Seam xs ys pre vs
  long : (z : Lexeme) (zs : List Lexeme) → xs ≡ pre ++ z ∷ zs → vs ≡ z ∷ (zs ++ ys) → Seam xs ys pre vs

under : (x p : Lexeme) (xs ys pre vs : List Lexeme) → x ≡ p → Seam xs ys pre vs → Seam (x ∷ xs) ys (p ∷ pre) vs
under x p xs ys pre vs same (short zs a b) = short zs (ap (λ l. l ∷ pre) (sym same) ∙ ap (λ q. x ∷ q) a) b
under x p xs ys pre vs same (long z zs a b) = long z zs (ap (λ l. l ∷ xs) same ∙ ap (λ q. p ∷ q) a) b

pub seam : (xs ys pre vs : List Lexeme) → xs ++ ys ≡ pre ++ vs → Seam xs ys pre vs
seam [] ys pre vs e = short pre refl e
seam (x ∷ xs) ys [] vs e = long x xs refl (sym e)
seam (x ∷ xs) ys (p ∷ pre) vs e =
    let same : x ≡ p = cc in
    let others : xs ++ ys ≡ pre ++ vs = cc in
    under x p xs ys pre vs same (seam xs ys pre vs others)

by_none : (a c : Bool) → (a || (true || c)) ≡ false → ⊥
by_none true c e = cc
by_none false c e = cc

not_free : (us vs : List Lexeme) (z : Lexeme) → Free (us ++ z ∷ vs) → IsWord (codes "module") z → ⊥
not_free us vs z f is =
    let h = sym (list_any-append (is_word (codes "module")) us (z ∷ vs)) ∙ f.none in
    let never = rw is at h in
    by_none (list_any (is_word (codes "module")) us) (list_any (is_word (codes "module")) vs) never

-- no module reaches past a lexeme and others to a further word `module`
pub no_cross : (xs pre zs inside : List Lexeme) (head z : Lexeme) (m : Module) → SpellsModule xs m → pre ≡ head ∷ inside → xs ≡ pre ++ z ∷ zs → IsWord (codes "module") z → ⊥
no_cross xs pre zs inside head z m s p a is =
    let o = one_word s in
    let e : o.head ∷ o.inside ≡ head ∷ (inside ++ z ∷ zs) = sym o.is ∙ (a ∙ ap (λ q. q ++ z ∷ zs) p) in
    let same : o.inside ≡ inside ++ z ∷ zs = cc in
    not_free inside zs z (moved (sym same) o.free) is

by_front : (a c : Bool) → (a || c) ≡ false → a ≡ false
by_front true c e = cc
by_front false c e = refl

pub front_free : (us vs : List Lexeme) → Free (us ++ vs) → list_any (is_word (codes "module")) us ≡ false
front_free us vs f = by_front (list_any (is_word (codes "module")) us) (list_any (is_word (codes "module")) vs) (sym (list_any-append (is_word (codes "module")) us vs) ∙ f.none)

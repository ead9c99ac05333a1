-- Flags of a list that are entered one by one.
use Rattle.std.proofs.Common.{◌≡◌, ℕ, suc, ◌+◌, ◌<◌, ◌≤◌, Bool, true, false, if◌then◌else◌, List, ◌∷◌, length, drop, get_or, Option, Some, None, refl, sym, ap, subst, ◌∙◌, add-one}
use Rattle.std.proofs.Math.Seq.{drop-cons}
use Rattle.std.proofs.lemmas.List.{drop_all}
use Rattle.std.proofs.lemmas.Slice.Eq.{bytes_eq-Decides}
use Rattle.std.specs.Option.{option_or}
use Rattle.std.specs.Str.{bytes_eq}
use mathlib.Core.Path.{fun_ext}
use Rattle.elab_binds.specs.Flags.{Flags, no_flags, with_first, first_of}

-- flags, and behind them others
abbrev pub behind : Flags → Flags → Flags
behind fs gs = λ other. option_or (fs other) (gs other)

-- one more name, which is the one asked for or isn't, and has a flag or hasn't
entered_at : (fs : Flags) (name other : List ℕ) (b : Bool) (g : Option Bool) (same : Bool) (before : Option Bool) → bytes_eq name other ≡ same → fs name ≡ before
    → option_or (with_first fs name b other) g ≡ option_or (fs other) (if same then Some b else g)
unfolding with_first
entered_at fs name other b g true (Some v) same is = let has : fs other ≡ Some v = subst (λ (n : List ℕ). fs n ≡ Some v) ((bytes_eq-Decides name other).0 same) is in rw (is, has) refl
entered_at fs name other b g true None same is = let has : fs other ≡ None = subst (λ (n : List ℕ). fs n ≡ None) ((bytes_eq-Decides name other).0 same) is in rw (is, same, has) refl
entered_at fs name other b g false (Some v) same is = rw is refl
entered_at fs name other b g false None same is = rw (is, same) refl

front : {X : Type 0} (xs : List X) (k : ℕ) (x : X) → k < length xs → x ≡ get_or xs k x → drop k xs ≡ x ∷ drop (k + 1) xs
front xs k x lt is = rw add-one (drop-cons xs k x lt ∙ ap (λ y. y ∷ drop (suc k) xs) (sym is))

-- once the flag at k is entered, the others are left
pub one_flag : {X : Type 0} (name : X → List ℕ) (flag : X → Bool) (fs new : Flags) (xs : List X) (k : ℕ) (x : X) (n : List ℕ) (b : Bool) → k < length xs → x ≡ get_or xs k x → n ≡ name x → b ≡ flag x
    → behind fs (first_of name flag (drop k xs)) ≡ first_of name flag xs → new ≡ with_first fs n b
    → behind new (first_of name flag (drop (k + 1) xs)) ≡ first_of name flag xs
unfolding first_of
one_flag name flag fs new xs k x n b lt is named flagged before done =
    ap (λ (w : Flags). behind w (first_of name flag (drop (k + 1) xs))) (done ∙ (ap (λ (m : List ℕ). with_first fs m b) named ∙ ap (with_first fs (name x)) flagged))
    ∙ (fun_ext (λ other. entered_at fs (name x) other (flag x) (first_of name flag (drop (k + 1) xs) other) (bytes_eq (name x) other) (fs (name x)) refl refl)
    ∙ (ap (λ zs. behind fs (first_of name flag zs)) (sym (front xs k x lt is)) ∙ before))

-- before the first one nothing is entered
pub no_flag : {X : Type 0} (name : X → List ℕ) (flag : X → Bool) (fs : Flags) (xs : List X) → fs ≡ no_flags → behind fs (first_of name flag (drop 0 xs)) ≡ first_of name flag xs
no_flag name flag fs xs is = ap (λ (w : Flags). behind w (first_of name flag xs)) is

or_none : (o : Option Bool) → option_or o None ≡ o
or_none None = refl
or_none (Some b) = refl

-- behind the last one nothing is left
pub all_flags : {X : Type 0} (name : X → List ℕ) (flag : X → Bool) (fs : Flags) (xs : List X) (k : ℕ) → length xs ≤ k
    → behind fs (first_of name flag (drop k xs)) ≡ first_of name flag xs → fs ≡ first_of name flag xs
unfolding first_of
all_flags name flag fs xs k past before = sym (fun_ext (λ other. or_none (fs other))) ∙ (ap (λ zs. behind fs (first_of name flag zs)) (sym (drop_all k xs past)) ∙ before)

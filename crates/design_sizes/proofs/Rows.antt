-- Lists behind lists: what is left decides what all give.
use Rattle.std.proofs.Common.{◌≡◌, ℕ, suc, ◌+◌, ◌<◌, ◌≤◌, List, [], ◌++◌, length, drop, get_or, sym, ap, ◌∙◌, add-one, append_assoc, append-nil}
use Rattle.std.proofs.Math.Seq.{drop-cons}
use Rattle.std.proofs.lemmas.List.{drop_all}
use Rattle.std.specs.List.{flat_map}

-- nothing more
pub none_more : {A : Type 0} (o a : List A) → [] ≡ a → o ≡ o ++ a
none_more {A} o a is = sym (append-nil o) ∙ ap (λ (l : List A). o ++ l) is

-- one after another
pub two : {A : Type 0} (o p a b c : List A) → p ≡ o ++ a → a ++ b ≡ c → p ++ b ≡ o ++ c
two {A} o p a b c first is = ap (λ (l : List A). l ++ b) first ∙ append_assoc o a b ∙ ap (λ (l : List A). o ++ l) is

pub three : {A : Type 0} (o p q a b c d : List A) → p ≡ o ++ a → q ≡ p ++ b → a ++ (b ++ c) ≡ d → q ++ c ≡ o ++ d
three {A} o p q a b c d first second is = ap (λ (l : List A). l ++ c) second ∙ append_assoc p b c ∙ two o p a (b ++ c) d first is

-- the one at i is next
pub next : {X A : Type 0} (f : X → List A) (xs : List X) (i : ℕ) (x : X) → i < length xs → x ≡ get_or xs i x → flat_map f (drop i xs) ≡ f x ++ flat_map f (drop (i + 1) xs)
next f xs i x lt is = rw add-one (ap (flat_map f) (drop-cons xs i x lt) ∙ ap (λ y. f y ++ flat_map f (drop (suc i) xs)) (sym is))

pub one_more : {X A : Type 0} (f : X → List A) (o p q : List A) (xs : List X) (i : ℕ) (x : X)
    → i < length xs → x ≡ get_or xs i x → p ++ flat_map f (drop i xs) ≡ o ++ flat_map f xs → q ≡ p ++ f x → q ++ flat_map f (drop (i + 1) xs) ≡ o ++ flat_map f xs
one_more {X} {A} f o p q xs i x lt is before more =
    ap (λ (l : List A). l ++ flat_map f (drop (i + 1) xs)) more ∙ append_assoc p (f x) (flat_map f (drop (i + 1) xs)) ∙ ap (λ (l : List A). p ++ l) (sym (next f xs i x lt is)) ∙ before

pub all_done : {X A : Type 0} (f : X → List A) (o p : List A) (xs : List X) (i : ℕ) → length xs ≤ i → p ++ flat_map f (drop i xs) ≡ o ++ flat_map f xs → p ≡ o ++ flat_map f xs
all_done {X} {A} f o p xs i past before = sym (append-nil p) ∙ ap (λ (l : List X). p ++ flat_map f l) (sym (drop_all i xs past)) ∙ before

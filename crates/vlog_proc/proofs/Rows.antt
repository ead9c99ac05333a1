-- Rows of lists, and of what is left of them.
use Rattle.std.proofs.Common.{◌≡◌, ◌==◌, ◌||◌, Bool, arith, ℕ, ◌+◌, ◌<◌, ◌≤◌, List, [], ◌∷◌, ◌++◌, length, map, drop, get_or, refl, sym, ap, ◌∙◌}
use Rattle.std.specs.List.{flat_map, list_any}
use Rattle.std.specs.Ordering.{nat_cmp, is_eq}
use Rattle.std.specs.BTreeSet.{insert_key}
use Rattle.std.proofs.lemmas.List.{append-nil, append_assoc, drop_more, drop_all}
use Rattle.vlog_tree.specs.declared.stmt.Arm.{Arm}
use Rattle.rdc_outside.specs.declared.source.Place.{Place}
use Rattle.elab_bits.specs.declared.touch.Touch.{Touch}
use Rattle.elab_bits.specs.Touches.{entered, is_among, touched}
use Rattle.vlog_proc.proofs.Chains.{with_body}

-- what each gives
pub all_of : {X A : Type 0} (f : X → List A) (xs : List X) → flat_map (λ (ys : List A). ys) (map f xs) ≡ flat_map f xs
all_of f [] = refl
all_of {X} {A} f (x ∷ xs) = ap (λ (r : List A). f x ++ r) (all_of f xs)

pub bodies_of : {S T A : Type 0} (f : S → T) (g : Arm T → List A) (xs : List (Arm S)) → flat_map g (map (with_body f) xs) ≡ flat_map (λ a. g (with_body f a)) xs
bodies_of f g [] = refl
bodies_of {S} {T} {A} f g (x ∷ xs) = ap (λ (r : List A). g (with_body f x) ++ r) (bodies_of f g xs)

-- ---- steps of loops: what is left decides all

pub row_more : {X A : Type 0} (f : X → List A) (xs : List X) (i : ℕ) (x : X) (before after whole : List A) → i < length xs → x ≡ get_or xs i x → after ≡ before ++ f x
    → before ++ flat_map f (drop i xs) ≡ whole → after ++ flat_map f (drop (i + 1) xs) ≡ whole
row_more {X} {A} f xs i x before after whole below is put h =
    let rest = flat_map f (drop (i + 1) xs) in
    ap (λ (r : List A). r ++ rest) put ∙ append_assoc before (f x) rest
    ∙ ap (λ (y : X). before ++ (f y ++ rest)) is
    ∙ ap (λ (ys : List X). before ++ flat_map f ys) (sym (drop_more xs i x below))
    ∙ h

pub row_end : {X A : Type 0} (f : X → List A) (xs : List X) (i : ℕ) (before whole : List A) → length xs ≤ i → before ++ flat_map f (drop i xs) ≡ whole → before ≡ whole
row_end {X} {A} f xs i before whole past h =
    sym (append-nil before) ∙ ap (λ (ys : List X). before ++ flat_map f ys) (sym (drop_all i xs past)) ∙ h

-- ---- numbers put in order

pub entered_more : (ks ms ns whole : List ℕ) (i n : ℕ) → i < length ns → n ≡ get_or ns i n → ms ≡ insert_key nat_cmp ks n → entered ks (drop i ns) ≡ whole → entered ms (drop (i + 1) ns) ≡ whole
unfolding entered
entered_more ks ms ns whole i n below is put h =
    ap (λ (xs : List ℕ). entered xs (drop (i + 1) ns)) put
    ∙ ap (λ (k : ℕ). entered (insert_key nat_cmp ks k) (drop (i + 1) ns)) is
    ∙ ap (entered ks) (sym (drop_more ns i n below))
    ∙ h

pub entered_end : (ks ns whole : List ℕ) (i : ℕ) → length ns ≤ i → entered ks (drop i ns) ≡ whole → ks ≡ whole
unfolding entered
entered_end ks ns whole i past h = ap (entered ks) (sym (drop_all i ns past)) ∙ h

equal_by_order : (n m : ℕ) → is_eq (nat_cmp n m) ≡ (n == m)
equal_by_order n m = grind arith

pub among : (ns : List ℕ) (n : ℕ) → list_any (λ m. is_eq (nat_cmp n m)) ns ≡ is_among ns n
unfolding is_among
among [] n = refl
among (m ∷ ns) n = ap (λ (b : Bool). b || list_any (λ m. is_eq (nat_cmp n m)) ns) (equal_by_order n m) ∙ ap (λ (b : Bool). (n == m) || b) (among ns n)

-- the bits of touches at one place
pub bits_touched : (place : Place) (ns : List ℕ) → map (λ (t : Touch). t.bit) (touched place ns) ≡ ns
bits_touched place [] = refl
bits_touched place (n ∷ ns) = ap (λ (ms : List ℕ). n ∷ ms) (bits_touched place ns)

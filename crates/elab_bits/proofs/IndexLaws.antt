-- A stretch of a signal's bits by places, and the same by indices.
use Rattle.std.proofs.Common.{◌≡◌, ◌==◌, ◌≤◌, ◌<◌, ℕ, zero, suc, ◌+◌, ◌-◌, Bool, true, false, ◌&&◌, ◌||◌, nat_le, nat_lt, if◌then◌else◌, List, [], ◌∷◌, length, take, drop, refl, sym, ap, ◌∙◌, ⊎_elim, arith}
use Rattle.std.specs.List.{list_any}
use Rattle.std.specs.declared.cmp.Ordering.{Ordering}
use Rattle.std.specs.declared.cmp.Ordering.TheVariants.{Less, Equal, Greater}
use Rattle.std.specs.Ordering.{nat_cmp, is_eq, match_ordering}
use Rattle.std.specs.BTreeSet.{insert_key}
use Rattle.std.proofs.lemmas.Bool.{cases_Bool}
use Rattle.std.proofs.lemmas.List.{length-map}
use Rattle.design_form.specs.declared.signal.Bounds.{Bounds}
use Rattle.design_form.specs.Signals.{bit_names, bounds_of, index_at, is_down, width_of}
use Rattle.design_form.specs.Numbers.{bits_of, number_in, numbers_of}
use Rattle.design_form.proofs.NameLemmas.{length-bit_names}
use Rattle.elab_bits.specs.Touches.{entered, is_among}
use Rattle.elab_bits.specs.Selects.{between, stretch}
use Rattle.elab_bits.proofs.Rows.{equal_by_order}
use Rattle.elab_bits.specs.Laws.{picked, GoByIndex, KeepsMembers}

-- ---- by places

-- of numbers that are counted from k, those with places from a up to that before b
abbrev kept : ℕ → ℕ → ℕ → List ℕ → List ℕ
kept a b k [] = []
kept a b k (n ∷ ns) = if nat_le a k && nat_lt k b then n ∷ kept a b (k + 1) ns else kept a b (k + 1) ns

take_none : (n : ℕ) → take {A = ℕ} n [] ≡ []
take_none zero = refl
take_none (suc n) = refl

drop_none : (n : ℕ) → drop {A = ℕ} n [] ≡ []
drop_none zero = refl
drop_none (suc n) = refl

-- c of them behind the first d
abbrev cut : ℕ → ℕ → List ℕ → List ℕ
cut c d ns = take c (drop d ns)

same_cut : (c d c' d' : ℕ) (ns : List ℕ) → c ≡ c' → d ≡ d' → cut c d ns ≡ cut c' d' ns
same_cut c d c' d' ns e f = ap (λ (x : ℕ). cut x d ns) e ∙ ap (λ (x : ℕ). cut c' x ns) f

stretched : (a b k : ℕ) (ns : List ℕ) → cut ((b - k) - (a - k)) (a - k) ns ≡ kept a b k ns
stretched a b k [] = ap (take ((b - k) - (a - k))) (drop_none (a - k)) ∙ take_none ((b - k) - (a - k))
stretched a b k (n ∷ ns) =
    let rest = stretched a b (k + 1) ns in
    ⊎_elim
    (λ from. ⊎_elim
    (λ to.
    let low : a ≤ k = grind (arith, from) in
    let high : k < b = grind (arith, to) in
    same_cut _ _ (suc (b - (k + 1))) 0 (n ∷ ns) (omega (arith, low, high)) (omega (arith, low))
    ∙ ap (λ (r : List ℕ). n ∷ r) (same_cut (b - (k + 1)) 0 _ _ ns (omega (arith, low)) (omega (arith, low)) ∙ rest)
    ∙ sym (ap (λ (c : Bool). if c && nat_lt k b then n ∷ kept a b (k + 1) ns else kept a b (k + 1) ns) from ∙ ap (λ (c : Bool). if c then n ∷ kept a b (k + 1) ns else kept a b (k + 1) ns) to))
    (λ to.
    let low : a ≤ k = grind (arith, from) in
    let high : b ≤ k = grind (arith, to) in
    same_cut _ _ 0 0 (n ∷ ns) (omega (arith, low, high)) (omega (arith, low))
    ∙ same_cut 0 0 _ _ ns (omega (arith, low, high)) (omega (arith, low)) ∙ rest
    ∙ sym (ap (λ (c : Bool). if c && nat_lt k b then n ∷ kept a b (k + 1) ns else kept a b (k + 1) ns) from ∙ ap (λ (c : Bool). if c then n ∷ kept a b (k + 1) ns else kept a b (k + 1) ns) to))
    (cases_Bool (nat_lt k b)))
    (λ from.
    let high : k < a = grind (arith, from) in
    same_cut _ _ ((b - (k + 1)) - (a - (k + 1))) (suc (a - (k + 1))) (n ∷ ns) (omega (arith, high)) (omega (arith, high))
    ∙ rest
    ∙ sym (ap (λ (c : Bool). if c && nat_lt k b then n ∷ kept a b (k + 1) ns else kept a b (k + 1) ns) from))
    (cases_Bool (nat_le a k))

-- ---- by indices

down_test : (first end lsb o : ℕ) → (nat_le (first - lsb) o && nat_lt o (end - lsb)) ≡ (nat_le first (lsb + o) && nat_lt (lsb + o) end)
down_test first end lsb o = grind arith

up_test : (first end lsb o : ℕ) → o ≤ lsb → (nat_le ((lsb + 1) - end) o && nat_lt o ((lsb + 1) - first)) ≡ (nat_le first (lsb - o) && nat_lt (lsb - o) end)
up_test first end lsb o below = grind arith

same_choice : (c d : Bool) (n : ℕ) (xs ys : List ℕ) → c ≡ d → xs ≡ ys → (if c then n ∷ xs else xs) ≡ (if d then n ∷ ys else ys)
same_choice c d n xs ys e f = ap (λ (b : Bool). if b then n ∷ xs else xs) e ∙ ap (λ (zs : List ℕ). if d then n ∷ zs else zs) f

downwards : (r : Bounds) (first end o : ℕ) (ns : List ℕ) → is_down r ≡ true → kept (first - r.lsb) (end - r.lsb) o ns ≡ picked r first end o ns
unfolding picked index_at
downwards r first end o [] down = refl
downwards r first end o (n ∷ ns) down =
    let at : index_at r o ≡ r.lsb + o = ap (λ (b : Bool). if b then r.lsb + o else r.lsb - o) down in
    same_choice _ _ n _ _ (down_test first end r.lsb o ∙ ap (λ (i : ℕ). nat_le first i && nat_lt i end) (sym at)) (downwards r first end (o + 1) ns down)

upwards : (r : Bounds) (first end o : ℕ) (ns : List ℕ) → is_down r ≡ false → o + length ns ≤ r.lsb + 1 → kept ((r.lsb + 1) - end) ((r.lsb + 1) - first) o ns ≡ picked r first end o ns
unfolding picked index_at
upwards r first end o [] up short = refl
upwards r first end o (n ∷ ns) up short =
    let at : index_at r o ≡ r.lsb - o = ap (λ (b : Bool). if b then r.lsb + o else r.lsb - o) up in
    same_choice _ _ n _ _ (up_test first end r.lsb o (omega (arith, short)) ∙ ap (λ (i : ℕ). nat_le first i && nat_lt i end) (sym at)) (upwards r first end (o + 1) ns up (omega (arith, short)))

from_start : (a b : ℕ) (ns : List ℕ) → stretch ns a b ≡ kept a b 0 ns
unfolding stretch
from_start a b ns = same_cut (b - a) a _ _ ns (omega arith) (omega arith) ∙ stretched a b 0 ns

by_index : (r : Bounds) (ns : List ℕ) (first end : ℕ) → length ns ≡ width_of r → between r ns first end ≡ picked r first end 0 ns
unfolding between
by_index r ns first end long =
    ⊎_elim
    (λ down. ap (λ (b : Bool). if b then stretch ns (first - r.lsb) (end - r.lsb) else stretch ns ((r.lsb + 1) - end) ((r.lsb + 1) - first)) down
    ∙ from_start (first - r.lsb) (end - r.lsb) ns ∙ downwards r first end 0 ns down)
    (λ up.
    let below : r.msb < r.lsb = grind (arith, up) in
    ap (λ (b : Bool). if b then stretch ns (first - r.lsb) (end - r.lsb) else stretch ns ((r.lsb + 1) - end) ((r.lsb + 1) - first)) up
    ∙ from_start ((r.lsb + 1) - end) ((r.lsb + 1) - first) ns ∙ upwards r first end 0 ns up (omega (arith, long, below)))
    (cases_Bool (is_down r))

pub go_by_index : GoByIndex
go_by_index ss s first end = by_index (bounds_of s) (numbers_of ss s) first end (length-map (bit_names s) (number_in (bits_of ss)) ∙ length-bit_names s)

-- ---- in order, each once

or_twice : (a b : Bool) → (a || (a || b)) ≡ (a || b)
or_twice true b = refl
or_twice false b = refl

or_swapped : (a b c : Bool) → (a || (b || c)) ≡ (b || (a || c))
or_swapped true true c = refl
or_swapped true false c = refl
or_swapped false b c = refl

or_assoc : (a b c : Bool) → (a || (b || c)) ≡ ((a || b) || c)
or_assoc true b c = refl
or_assoc false b c = refl

or_none : (a : Bool) → (a || false) ≡ a
or_none true = refl
or_none false = refl

same_number : (k x : ℕ) → nat_cmp k x ≡ Equal → k ≡ x
same_number k x is =
    let same : (k == x) ≡ true = sym (equal_by_order k x) ∙ ap is_eq is in
    grind (arith, same)

put_by : (o : Ordering) (k x n : ℕ) (ks : List ℕ) → nat_cmp k x ≡ o → list_any (λ m. n == m) (insert_key nat_cmp ks k) ≡ (n == k || list_any (λ m. n == m) ks)
    → list_any (λ m. n == m) (match_ordering o (k ∷ x ∷ ks) (x ∷ ks) (x ∷ insert_key nat_cmp ks k)) ≡ (n == k || (n == x || list_any (λ m. n == m) ks))
put_by Less k x n ks is rest = refl
put_by Equal k x n ks is rest =
    sym (ap (λ (y : ℕ). n == y || (n == x || list_any (λ m. n == m) ks)) (same_number k x is) ∙ or_twice (n == x) (list_any (λ m. n == m) ks))
put_by Greater k x n ks is rest = ap (λ (b : Bool). n == x || b) rest ∙ or_swapped (n == x) (n == k) (list_any (λ m. n == m) ks)

put_in : (ks : List ℕ) (k n : ℕ) → list_any (λ m. n == m) (insert_key nat_cmp ks k) ≡ (n == k || list_any (λ m. n == m) ks)
put_in [] k n = refl
put_in (x ∷ ks) k n = put_by (nat_cmp k x) k x n ks refl (put_in ks k n)

members : (ks ns : List ℕ) (n : ℕ) → list_any (λ m. n == m) (entered ks ns) ≡ (list_any (λ m. n == m) ns || list_any (λ m. n == m) ks)
unfolding entered
members ks [] n = refl
members ks (k ∷ ns) n =
    members (insert_key nat_cmp ks k) ns n
    ∙ ap (λ (b : Bool). list_any (λ m. n == m) ns || b) (put_in ks k n)
    ∙ or_swapped (list_any (λ m. n == m) ns) (n == k) (list_any (λ m. n == m) ks)
    ∙ or_assoc (n == k) (list_any (λ m. n == m) ns) (list_any (λ m. n == m) ks)

pub keeps_members : KeepsMembers
unfolding is_among
keeps_members ns n = members [] ns n ∙ or_none (list_any (λ m. n == m) ns)

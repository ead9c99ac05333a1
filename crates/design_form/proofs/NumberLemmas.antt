-- The numbers of bits.
use Rattle.std.proofs.Common.{◌≡◌, ℕ, ◌+◌, ◌<◌, true, false, if◌then◌else◌, List, [], ◌∷◌, length, Some, arith}
use Rattle.std.specs.Option.{unwrap_or}
use Rattle.std.specs.Str.{bytes_eq}
use Rattle.std.specs.declared.cmp.Ordering.TheVariants.{Less, Equal, Greater}
use Rattle.std.specs.Ordering.{nat_cmp, match_ordering}
use Rattle.std.specs.Cmp.Lexicographic.{slice_cmp}
use Rattle.std.specs.BTreeSet.{insert_key}
use Rattle.design_form.specs.declared.signal.Signal.{Signal}
use Rattle.design_form.specs.Numbers.{printed, entered, bits_of, index_from, number_in, signal_of}
use Rattle.design_form.proofs.NameLemmas.{signals-printed}

index-below : (k : ℕ) (ns : List (List ℕ)) (name : List ℕ) → 0 < k + length ns → unwrap_or (index_from k ns name) 0 < k + length ns
unfolding index_from
index-below k [] name h = h
index-below k (n ∷ ns) name h =
    elim (bytes_eq name n) as (λ t. unwrap_or (if t then Some k else index_from (k + 1) ns name) 0 < k + length (n ∷ ns)) [
      | true ↦ omega arith
      | false ↦ let rest = index-below (k + 1) ns name (omega arith) in omega (arith, rest)
    ]

-- a name that stands nowhere has the number 0, which is a bit's too
pub number-below : (ns : List (List ℕ)) (name : List ℕ) → 0 < length ns → number_in ns name < length ns
number-below ns name h = let e = index-below 0 ns name (omega arith) in omega (arith, e)

insert-positive : (ks : List (List ℕ)) (k : List ℕ) → 0 < length (insert_key (slice_cmp nat_cmp) ks k)
insert-positive [] k = omega arith
insert-positive (x ∷ ks) k =
    elim (slice_cmp nat_cmp k x) as (λ o. 0 < length (match_ordering o (k ∷ x ∷ ks) (x ∷ ks) (x ∷ insert_key (slice_cmp nat_cmp) ks k))) [
      | Less ↦ omega arith
      | Equal ↦ omega arith
      | Greater ↦ omega arith
    ]

entered-positive : (so_far ns : List (List ℕ)) → 0 < length so_far + length ns → 0 < length (entered so_far ns)
unfolding entered
entered-positive so_far [] h = omega arith
entered-positive so_far (n ∷ ns) h = let some = insert-positive so_far n in entered-positive (insert_key (slice_cmp nat_cmp) so_far n) ns (omega arith)

-- where a signal is declared, there is a bit
pub bits-positive : (ss : List Signal) (name : List ℕ) (s : Signal) → signal_of ss name ≡ Some s → 0 < length (bits_of ss)
unfolding signal_of
bits-positive [] name s e = absurd cc
bits-positive (x ∷ ss) name s e = let some = signals-printed (x ∷ ss) in entered-positive [] (printed (x ∷ ss)) (omega arith)

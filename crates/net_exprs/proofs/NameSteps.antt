-- Serves src/wired.rt: the nodes of a name are there.
use Rattle.std.proofs.Common.{◌≡◌, ℕ, ◌<◌, List, [], ◌∷◌, All, length, map, Some, sym, ap, subst, ◌∙◌}
use Rattle.std.specs.Option.{option_map}
use Rattle.std.proofs.lemmas.List.Elements.{All-nil, All-cons, All-head, All-tail}
use Rattle.design_form.specs.declared.signal.Signal.{Signal}
use Rattle.design_form.specs.Signals.{bit_names}
use Rattle.design_form.specs.Numbers.{bits_of, number_in, numbers_of, signal_of}
use Rattle.design_form.proofs.NumberLemmas.{number-below, bits-positive}
use Rattle.net_exprs.specs.Names.{node_at}

all_below : (names ns : List (List ℕ)) → 0 < length names → All (λ k. k < length names) (map (number_in names) ns)
all_below names [] some = All-nil (λ k. k < length names)
all_below names (n ∷ ns) some = All-cons (λ k. k < length names) (number_in names n) (map (number_in names) ns) (number-below names n some) (all_below names ns some)

pub numbers_below : (ss : List Signal) (name : List ℕ) (s : Signal) → signal_of ss name ≡ Some s → All (λ k. k < length (bits_of ss)) (numbers_of ss s)
numbers_below ss name s is = all_below (bits_of ss) (bit_names s) (bits-positive ss name s is)

pub nodes_there : (nodes ks : List ℕ) (limit : ℕ) → All (λ n. n < limit) nodes → All (λ k. k < length nodes) ks → All (λ n. n < limit) (map (node_at nodes) ks)
nodes_there nodes [] limit there below = All-nil (λ n. n < limit)
nodes_there nodes (k ∷ ks) limit there below =
    All-cons (λ n. n < limit) (node_at nodes k) (map (node_at nodes) ks) (there k 0 (All-head (λ i. i < length nodes) k ks below)) (nodes_there nodes ks limit there (All-tail (λ i. i < length nodes) k ks below))

some_numbers : (a b : List ℕ) → Some a ≡ Some b → a ≡ b
some_numbers a b e = cc

pub design_numbers : (ss : List Signal) (name : List ℕ) (s : Signal) (ns nodes : List ℕ) → signal_of ss name ≡ Some s → Some ns ≡ option_map (numbers_of ss) (signal_of ss name) → length nodes ≡ length (bits_of ss)
    → All (λ k. k < length nodes) ns
design_numbers ss name s ns nodes at numbers has =
    let same : ns ≡ numbers_of ss s = some_numbers ns (numbers_of ss s) (numbers ∙ ap (option_map (numbers_of ss)) at) in
    subst (λ (x : List ℕ). All (λ k. k < length nodes) x) (sym same) (subst (λ (n : ℕ). All (λ k. k < n) (numbers_of ss s)) (sym has) (numbers_below ss name s at))

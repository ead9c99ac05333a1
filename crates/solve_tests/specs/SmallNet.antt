-- Nets for tests: the sources stand first, in their order, and each other gate reads nodes before it.
use Rattle.std.specs.Prelude.{ℕ, ◌+◌, Bool, ◌&&◌, ◌==◌, nat_lt, nat_le, List, [], ◌∷◌, length, ℤ}
use Rattle.std.specs.List.{list_all}
use Rattle.net_view.specs.View.{Numbered}
use Rattle.net_view.specs.declared.gate.Gate.TheVariants.{Const, Source, Not, And, Or, Xor, Pick, Lift}
use Rattle.sat_chain.specs.Clause.{variable, ascends_above}

-- node k is source k where there are more sources than k, and else a gate over lower nodes
abbrev pub is_placed : ℕ → ℕ → Numbered → Bool
is_placed sources k (Source s) = s == k && nat_lt k sources
is_placed sources k (Const b) = nat_le sources k
is_placed sources k (Not a) = nat_le sources k && nat_lt a k
is_placed sources k (And a b) = nat_le sources k && (nat_lt a k && nat_lt b k)
is_placed sources k (Or a b) = nat_le sources k && (nat_lt a k && nat_lt b k)
is_placed sources k (Xor a b) = nat_le sources k && (nat_lt a k && nat_lt b k)
is_placed sources k (Pick c a b) = nat_le sources k && (nat_lt c k && (nat_lt a k && nat_lt b k))
is_placed sources k (Lift c a r) = nat_le sources k && (nat_lt c k && nat_lt a k)

-- so it is from node k on, and no source is missing
abbrev pub is_laid_out : ℕ → ℕ → List Numbered → Bool
is_laid_out sources k [] = nat_le sources k
is_laid_out sources k (g ∷ gs) = is_placed sources k g && is_laid_out sources (k + 1) gs

-- the nodes are sources
abbrev pub are_sources : ℕ → List ℕ → Bool
are_sources sources ks = list_all (λ k. nat_lt k sources) ks

-- a clause of a literal at least, over so many variables
abbrev pub can_be_added : ℕ → List ℤ → Bool
can_be_added vars c = nat_lt 0 (length c) && (ascends_above 0 c && list_all (λ l. nat_le (variable l) vars) c)

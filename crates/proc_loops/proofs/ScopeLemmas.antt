-- Serves specs/Scopes.antt: one more variable.
use Rattle.std.proofs.Common.{◌≡◌, ℕ, ◌≤◌, List, [], ◌∷◌, ◌++◌, take, drop, length, refl}
use Rattle.std.proofs.lemmas.List.{take_all, drop_all}
use Rattle.vlog_const.specs.Names.{Values, no_values, with_value}
use Rattle.proc_loops.specs.declared.scope.Known.{Known}
use Rattle.proc_loops.specs.Scopes.{set_all}

pub set_all-end : (values : Values) (known : List Known) (k : Known) → set_all values (known ++ k ∷ []) ≡ with_value (set_all values known) k.name k.value
unfolding set_all
set_all-end values [] k = refl
set_all-end values (other ∷ known) k = set_all-end (with_value values other.name other.value) known k

pub set_all-more : (values : Values) (known : List Known) (k : Known) → set_all values (k ∷ known) ≡ set_all (with_value values k.name k.value) known
unfolding set_all
set_all-more values known k = refl

pub set_all-none : (values : Values) → set_all values [] ≡ values
unfolding set_all
set_all-none values = refl

pub ruleset sets = (set_all-end, set_all-more, set_all-none)

-- all variables
pub copied : (values : Values) (known kept : List Known) (i : ℕ) → set_all values (drop i known) ≡ set_all no_values known → kept ≡ take i known → length known ≤ i → values ≡ set_all no_values kept
copied values known kept i gives is most =
    let whole = take_all i known most in
    let none = drop_all i known most in
    let nothing = set_all-none values in
    cc

-- and then one more
pub entered : (before after : Values) (known all : List Known) (k : Known) → before ≡ set_all no_values known → after ≡ with_value before k.name k.value → all ≡ known ++ k ∷ [] → after ≡ set_all no_values all
entered before after known all k is then grown = let end = set_all-end no_values known k in cc

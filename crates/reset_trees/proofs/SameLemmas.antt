-- Serves specs/Same.antt: what data reads, source by source.
use Rattle.std.proofs.Common.{◌≡◌, inl, inr, ℕ, ◌+◌, ◌<◌, Bool, List, [], ◌∷◌, length, get_or, take, Option, Some, Contains, sym, subst, ◌∙◌}
use Rattle.std.specs.Prelude.{slice_get, slice_index}
use Rattle.std.proofs.lemmas.Option.{slice_get-get_or}
use Rattle.std.proofs.lemmas.List.Elements.{Contains-get_or}
use Rattle.net_view.specs.declared.flop_net.FlopOf.{FlopOf}
use Rattle.net_view.specs.declared.flop_net.SrcKind.TheVariants.{Port}
use Rattle.net_view.specs.FlopNet.{Kind}
use Rattle.net_view.proofs.Members.{contains_none}
use Rattle.reset_trees.specs.Marking.{level_at, ReadsSame}
use Rattle.reset_trees.specs.Same.{IsSameSource}
use Rattle.reset_trees.proofs.StepLemmas.{taken_more}

take_none : (read : List ℕ) (s : ℕ) → Contains (take 0 read) s → ⊥
take_none [] s h = contains_none s h
take_none (x ∷ read) s h = contains_none s h

pub reads_none : (kinds : List Kind) (levels : List (Option Bool)) (f : FlopOf ℕ) (read : List ℕ) → ReadsSame kinds levels f (Contains (take 0 read))
reads_none kinds levels f read = λ s h. absurd (take_none read s h)

pub kind_here : (kinds : List Kind) (s : ℕ) (kind : Kind) → slice_get kinds s ≡ Some kind → s < length kinds → get_or kinds s Port ≡ kind
kind_here kinds s kind at lt = let e = sym (slice_get-get_or kinds s Port lt) ∙ at in cc

-- one more source, which may be read
pub reads_more : (kinds : List Kind) (levels : List (Option Bool)) (f : FlopOf ℕ) (read : List ℕ) (k s : ℕ) → k < length read → s ≡ slice_index read k → s < length kinds
    → IsSameSource f (get_or kinds s Port) (level_at levels s) → ReadsSame kinds levels f (Contains (take k read)) → ReadsSame kinds levels f (Contains (take (k + 1) read))
reads_more kinds levels f read k s lt is low may before = λ t h kind at. elim (taken_more read k s t lt is h) [
  | inl old ↦ before t old kind at
  | inr same ↦
      let there : slice_get kinds s ≡ Some kind = subst (λ (z : ℕ). slice_get kinds z ≡ Some kind) same at in
      subst (λ (z : ℕ). IsSameSource f kind (level_at levels z)) (sym same)
      (subst (λ (x : Kind). IsSameSource f x (level_at levels s)) (kind_here kinds s kind there low) may)
]

-- one that may not
pub reads_fails : (kinds : List Kind) (levels : List (Option Bool)) (f : FlopOf ℕ) (read : List ℕ) (k s : ℕ) → k < length read → s ≡ slice_index read k → s < length kinds
    → (IsSameSource f (get_or kinds s Port) (level_at levels s) → ⊥) → ReadsSame kinds levels f (Contains read) → ⊥
reads_fails kinds levels f read k s lt is low fails all =
    fails (all s (subst (λ (z : ℕ). Contains read z) (sym is) (Contains-get_or read k 0 lt)) (get_or kinds s Port) (slice_get-get_or kinds s Port low))

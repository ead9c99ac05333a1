-- Serves specs/Net.antt: what stands for a gate that may be added is there, or may be added.
use Rattle.std.proofs.Common.{◌≡◌, ℕ, ◌<◌, Bool, true, false, List, [], ◌∷◌, length, refl, ap, Option, Some, None, arith, slice_get, if◌then◌else◌, ◌==◌}
use Rattle.std.proofs.lemmas.List.{length-append}
use Rattle.std.proofs.lemmas.Option.{slice_get_within}
use Rattle.net_view.specs.declared.gate.Gate.TheVariants.{Const, Source, Not, And, Or, Xor, Pick, Lift}
use Rattle.net_view.specs.View.{Numbered, Reads, IsGateAt, IsNet}
use Rattle.net_view.specs.FlopNet.{IsPlain}
use Rattle.net_core.specs.declared.folds.Made.{Made}
use Rattle.net_core.specs.declared.folds.Made.TheVariants.{There, New}
use Rattle.net_core.specs.Folds.{constant_at, negated_of, not_made, and_made, or_made, xor_made, not_at, folded, added, node_of}
use Rattle.net_core.specs.Net.{MayAdd, IsFit}

pub may_plain : (n : ℕ) (g : Numbered) → MayAdd n g → IsPlain g
may_plain n (Const b) h = tt
may_plain n (Source s) h = tt
may_plain n (Not a) h = tt
may_plain n (And a b) h = tt
may_plain n (Or a b) h = tt
may_plain n (Xor a b) h = tt
may_plain n (Pick c a b) h = absurd h
may_plain n (Lift c a r) h = absurd h

pub may_reads : (n m : ℕ) (g : Numbered) → MayAdd n g → Reads (λ j. j < n) (λ s. s < m) g
may_reads n m (Const b) h = tt
may_reads n m (Source s) h = absurd h
may_reads n m (Not a) h = h
may_reads n m (And a b) h = h
may_reads n m (Or a b) h = h
may_reads n m (Xor a b) h = h
may_reads n m (Pick c a b) h = absurd h
may_reads n m (Lift c a r) h = absurd h

some_nat : (a b : ℕ) → Some a ≡ Some b → a ≡ b
some_nat a b e = cc

negates : (k : Option Numbered) (x : ℕ) → negated_of k ≡ Some x → k ≡ Some (Not x)
negates (Some (Not y)) x e = ap (λ z. Some (Not z)) (some_nat y x e)
negates (Some (Const c)) x e = absurd (cc)
negates (Some (Source s)) x e = absurd (cc)
negates (Some (And y z)) x e = absurd (cc)
negates (Some (Or y z)) x e = absurd (cc)
negates (Some (Xor y z)) x e = absurd (cc)
negates (Some (Pick c y z)) x e = absurd (cc)
negates (Some (Lift c y r)) x e = absurd (cc)
negates None x e = absurd (cc)

negated_below : (gates : List Numbered) (sources : ℕ) → IsNet gates sources → (a x : ℕ) → negated_of (slice_get gates a) ≡ Some x → x < length gates
negated_below gates sources net a x e =
    let is : IsGateAt gates a (Not x) = negates (slice_get gates a) x e in
    let below : x < a = net.lower a (Not x) is in
    omega (arith, below, slice_get_within gates a (Not x) is)

not_fits : (n : ℕ) (k : Option Bool) (m : Option ℕ) (a : ℕ) → a < n → ((x : ℕ) → m ≡ Some x → x < n) → IsFit n (not_made k m a)
not_fits n (Some b) m a below negated = tt
not_fits n None (Some x) a below negated = negated x refl
not_fits n None None a below negated = below

and_fits : (n : ℕ) (k l : Option Bool) (a b : ℕ) → a < n → b < n → IsFit n (and_made k l a b)
and_fits n (Some true) l a b left right = right
and_fits n (Some false) l a b left right = left
and_fits n None (Some true) a b left right = left
and_fits n None (Some false) a b left right = right
and_fits n None None a b left right = by (a == b)
  where
    by : (t : Bool) → IsFit n (if t then There a else New (And a b))
    by true = left
    by false = (left, right)

or_fits : (n : ℕ) (k l : Option Bool) (a b : ℕ) → a < n → b < n → IsFit n (or_made k l a b)
or_fits n (Some true) l a b left right = left
or_fits n (Some false) l a b left right = right
or_fits n None (Some true) a b left right = right
or_fits n None (Some false) a b left right = left
or_fits n None None a b left right = by (a == b)
  where
    by : (t : Bool) → IsFit n (if t then There a else New (Or a b))
    by true = left
    by false = (left, right)

xor_fits : (n : ℕ) (k l : Option Bool) (not_a not_b : Made) (a b : ℕ) → a < n → b < n → IsFit n not_a → IsFit n not_b → IsFit n (xor_made k l not_a not_b a b)
xor_fits n (Some true) l not_a not_b a b left right fits_a fits_b = fits_b
xor_fits n (Some false) l not_a not_b a b left right fits_a fits_b = right
xor_fits n None (Some true) not_a not_b a b left right fits_a fits_b = fits_a
xor_fits n None (Some false) not_a not_b a b left right fits_a fits_b = left
xor_fits n None None not_a not_b a b left right fits_a fits_b = (left, right)

negation_fits : (gates : List Numbered) (sources : ℕ) → IsNet gates sources → (a : ℕ) → a < length gates → IsFit (length gates) (not_at gates a)
negation_fits gates sources net a below = not_fits (length gates) (constant_at gates a) (negated_of (slice_get gates a)) a below (negated_below gates sources net a)

-- what stands for a gate that may be added is there, or may be added
pub folded_fits : (gates : List Numbered) (sources : ℕ) (g : Numbered) → IsNet gates sources → MayAdd (length gates) g → IsFit (length gates) (folded gates g)
folded_fits gates sources (Const b) net h = tt
folded_fits gates sources (Source s) net h = absurd h
folded_fits gates sources (Not a) net h = negation_fits gates sources net a h
folded_fits gates sources (And a b) net h = and_fits (length gates) (constant_at gates a) (constant_at gates b) a b h.0 h.1
folded_fits gates sources (Or a b) net h = or_fits (length gates) (constant_at gates a) (constant_at gates b) a b h.0 h.1
folded_fits gates sources (Xor a b) net h =
    xor_fits (length gates) (constant_at gates a) (constant_at gates b) (not_at gates a) (not_at gates b) a b h.0 h.1 (negation_fits gates sources net a h.0) (negation_fits gates sources net b h.1)
folded_fits gates sources (Pick c a b) net h = absurd h
folded_fits gates sources (Lift c a r) net h = absurd h

-- the node of an added gate is there
pub node_inside : (gates : List Numbered) (made : Made) → IsFit (length gates) made → node_of gates made < length (added gates made)
node_inside gates (There m) h = h
node_inside gates (New g) h = omega (arith, length-append gates (g ∷ []))

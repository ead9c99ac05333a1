-- Serves specs/Problems.antt: the calms of the pins that were looked at.
use Rattle.std.proofs.Common.{◌≡◌, ◌⊎◌, inl, inr, ℕ, zero, suc, ◌+◌, ◌<◌, ◌≤◌, List, [], ◌∷◌, length, get_or, map, take, Option, Some, IsSome, Contains, sym, subst, ap, refl, ◌∙◌, arith}
use Rattle.std.proofs.lemmas.List.{get_or-map, get_or_default, get_or-take, length-map, length-take-le}
use Rattle.std.proofs.lemmas.List.Elements.{Contains-get_or}
use Rattle.net_view.specs.Cone.{Lists}
use Rattle.net_view.proofs.Members.{rising_lt, rising_le, contains_at}
use Rattle.cons_bind.specs.Names.{Net}
use Rattle.cons_bind.specs.declared.bound.BoundForm.{BoundForm}
use Rattle.reset_trees.specs.declared.answers.Marked.{Marked}
use Rattle.reset_trees.specs.declared.trees.PinCone.{PinCone}
use Rattle.reset_trees.specs.Marking.{AreCalmsOf}
use Rattle.reset_trees.specs.Problems.{AreCalms}
use Rattle.reset_trees.specs.Reads.{HasPin, PinReads}
use Rattle.reset_trees.specs.Same.{IsCalm}
use Rattle.reset_trees.specs.Trees.{ArePinCones}
use Rattle.reset_trees.proofs.CalmLemmas.{IsListed, calms_same, taken_low}
use Rattle.reset_trees.proofs.StepLemmas.{taken_more, taken_before, taken_last}

abbrev flops_of : List PinCone → List ℕ
flops_of pins = map (λ (p : PinCone). p.flop) pins

map_take : (pins : List PinCone) (k : ℕ) → flops_of (take k pins) ≡ take k (flops_of pins)
map_take pins zero = none_taken pins
  where
    none_taken : (pins : List PinCone) → flops_of (take 0 pins) ≡ take 0 (flops_of pins)
    none_taken [] = refl
    none_taken (p ∷ pins) = refl
map_take [] (suc k) = refl
map_take (p ∷ pins) (suc k) = ap (λ (ns : List ℕ). p.flop ∷ ns) (map_take pins k)

some_pin : (o : Option ℕ) (p : ℕ) → o ≡ Some p → IsSome o
some_pin o p e = rw e refl

calm_pin : (net : Net) (lines : List BoundForm) (f s : ℕ) → IsCalm net lines f s → HasPin net f
calm_pin net lines f s h = (h.reads.flop, h.reads.is_flop, some_pin h.reads.flop.pin h.reads.pin h.reads.has_pin)

flop_at : (pins : List PinCone) (k : ℕ) (pin : PinCone) → k < length pins → pin ≡ get_or pins k pin → get_or (flops_of pins) k 0 ≡ pin.flop
flop_at pins k pin lt is = get_or-map (λ (p : PinCone). p.flop) pins k pin 0 lt ∙ ap (λ (p : PinCone). p.flop) (sym is)

-- each pin is as it should be
pub pin_lawful : (net : Net) (pins : List PinCone) (k : ℕ) (pin : PinCone) → ArePinCones net pins → k < length pins → pin ≡ get_or pins k pin → HasPin net pin.flop × Lists (PinReads net pin.flop) pin.sources
pin_lawful net pins k pin are lt is = (
  (are.flops.whole pin.flop).0 (subst (λ (n : ℕ). Contains (flops_of pins) n) (flop_at pins k pin lt is) (Contains-get_or (flops_of pins) k 0 (omega (arith, lt, length-map pins (λ (p : PinCone). p.flop))))),
  subst (λ (p : PinCone). Lists (PinReads net p.flop) p.sources) (sym is) (are.cones k pin lt),
)

low_or : (i k : ℕ) → (i < k) ⊎ (k ≤ i)
low_or i k = grind arith

up_or : (f n : ℕ) → f < n + 1 → (f < n) ⊎ (f ≡ n)
up_or f n lt = grind arith

module _ (xs : List ℕ) (k m : ℕ) (rising : (i j : ℕ) → i < j → j < length xs → get_or xs i 0 < get_or xs j 0) (rises : (i j : ℕ) → i ≤ j → j < length xs → get_or xs i 0 ≤ get_or xs j 0) (lt : k < length xs) (is : m ≡ get_or xs k 0) where
  -- a lower member stands before
  listed_low : (f : ℕ) → Contains xs f → f < m → Contains (take k xs) f
  listed_low f h low =
      let at = contains_at xs f h in
      elim (low_or at.0 k) [
        | inl before ↦ (at.0, omega (arith, before, length-take-le k xs (omega (arith, lt))), get_or-take k xs at.0 f before ∙ get_or_default xs at.0 f 0 at.1 ∙ at.2)
        | inr past ↦ let up = rises k at.0 past at.1 in absurd (omega (arith, up, low, is, at.2))
      ]

  listed_before : (f : ℕ) → Contains (take k xs) f → f < m
  listed_before f h = taken_low xs k m f rising lt is h

  listed_up : (f : ℕ) → Contains xs f → f < m + 1 → Contains (take (k + 1) xs) f
  listed_up f h low = elim (up_or f m low) [
    | inl lower ↦ taken_before xs k f lt (listed_low f h lower)
    | inr same ↦ taken_last xs k m f lt is same
  ]

  listed_more : (f : ℕ) → Contains (take (k + 1) xs) f → f < m + 1
  listed_more f h = elim (taken_more xs k m f lt is h) [ inl old ↦ let low = listed_before f old in omega (arith, low) | inr same ↦ omega (arith, same) ]

module _ (net : Net) (lines : List BoundForm) (pins : List PinCone) (k : ℕ) (pin : PinCone) (are : ArePinCones net pins) (lt : k < length pins) (is : pin ≡ get_or pins k pin) where
  within : k < length (flops_of pins)
  within = omega (arith, lt, length-map pins (λ (p : PinCone). p.flop))

  here : pin.flop ≡ get_or (flops_of pins) k 0
  here = sym (flop_at pins k pin lt is)

  rising : (i j : ℕ) → i < j → j < length (flops_of pins) → get_or (flops_of pins) i 0 < get_or (flops_of pins) j 0
  rising = rising_lt (flops_of pins) are.flops.ascending

  rises : (i j : ℕ) → i ≤ j → j < length (flops_of pins) → get_or (flops_of pins) i 0 ≤ get_or (flops_of pins) j 0
  rises = rising_le (flops_of pins) are.flops.ascending

  member : (f s : ℕ) → IsCalm net lines f s → Contains (flops_of pins) f
  member f s asked = (are.flops.whole f).1 (calm_pin net lines f s asked)

  pub pins_before : (calms : List Marked) → AreCalmsOf net lines (IsListed (take k pins)) calms → AreCalmsOf net lines (λ f s. f < pin.flop) calms
  pins_before calms before =
      calms_same net lines (IsListed (take k pins)) (λ f s. f < pin.flop) calms
      (λ f s asked h. listed_before (flops_of pins) k pin.flop rising rises within here f (subst (λ (ns : List ℕ). Contains ns f) (map_take pins k) h))
      (λ f s asked low. subst (λ (ns : List ℕ). Contains ns f) (sym (map_take pins k)) (listed_low (flops_of pins) k pin.flop rising rises within here f (member f s asked) low))
      before

  pub pins_after : (calms : List Marked) → AreCalmsOf net lines (λ f s. f < pin.flop + 1) calms → AreCalmsOf net lines (IsListed (take (k + 1) pins)) calms
  pins_after calms before =
      calms_same net lines (λ f s. f < pin.flop + 1) (IsListed (take (k + 1) pins)) calms
      (λ f s asked low. subst (λ (ns : List ℕ). Contains ns f) (sym (map_take pins (k + 1))) (listed_up (flops_of pins) k pin.flop rising rises within here f (member f s asked) low))
      (λ f s asked h. listed_more (flops_of pins) k pin.flop rising rises within here f (subst (λ (ns : List ℕ). Contains ns f) (map_take pins (k + 1)) h))
      before

-- all pins were looked at
pub calms_whole : (net : Net) (lines : List BoundForm) (pins : List PinCone) (calms : List Marked) → ArePinCones net pins → AreCalmsOf net lines (IsListed pins) calms → AreCalms net lines calms
calms_whole net lines pins calms are before = record {
  ordered = before.ordered;
  each = λ k d lt. let is = before.each k d lt in (is.0, is.1);
  whole = λ f s asked. before.whole f s asked ((are.flops.whole f).1 (calm_pin net lines f s asked));
}

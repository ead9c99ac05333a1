-- The declared resets, each with its domain.
--     reset_in, resets_in            the declared resets, in the order of their lines
--     AreInside                      these are sources of the net
--     AreDomainsOf                   each with the flops of its domain
use Rattle.std.specs.Prelude.{◌≡◌, ℕ, ◌<◌, List, map, Option, Some, None, IfSome, All}
use Rattle.std.specs.List.{filter_map}
use Rattle.net_view.specs.Cone.{Lists}
use Rattle.cons_bind.specs.Names.{Net}
use Rattle.cons_bind.specs.declared.bound.BoundForm.{BoundForm}
use Rattle.cons_bind.specs.declared.bound.BoundForm.TheVariants.{Clock, Reset, Tie, Steady, Track, Order, Isolate, Quiet, Waive}
use Rattle.reset_trees.specs.declared.answers.DomainOf.{DomainOf}
use Rattle.reset_trees.specs.Domain.{InDomain}

-- the source that a line declares a reset
abbrev pub reset_in : BoundForm → Option ℕ
reset_in (Clock p) = None
reset_in (Reset s high) = Some s
reset_in (Tie p one) = None
reset_in (Steady p) = None
reset_in (Track flops) = None
reset_in (Order a b) = None
reset_in (Isolate reset node one) = None
reset_in (Quiet reset c) = None
reset_in (Waive s reason) = None

-- the declared resets, in the order of their lines
abbrev pub resets_in : List BoundForm → List ℕ
resets_in lines = filter_map reset_in lines

-- the declared resets are below the count
abbrev pub AreInside : ℕ → List BoundForm → Type 0
AreInside count lines = All (λ form. IfSome (reset_in form) (λ s. s < count)) lines

-- each declared reset, in the order of the lines, with the flops of its domain
pub record AreDomainsOf (net : Net) (lines : List BoundForm) (resets : List DomainOf) : Type 0 where
  pub listed : map (λ (d : DomainOf). d.reset) resets ≡ resets_in lines
  pub flops : All (λ (d : DomainOf). Lists (InDomain net d.reset) d.flops) resets

-- What the program keeps of selects by an index.
--   may_be s below n       whether an index of shape s can be so far above 0, or so far below -1
--   AreMaybe gates w       each node of these, where there is one, is one of the list
use Rattle.std.specs.Prelude.{ℕ, ◌<◌, ◌-◌, Bool, ◌&&◌, if◌then◌else◌, List, All, length, Option, IfSome}
use Rattle.vlog_const.specs.declared.shape.Shape.{Shape}
use Rattle.net_view.specs.View.{Numbered}
use Rattle.design_form.specs.Bits.{fits}

abbrev pub may_be : Shape → Bool → ℕ → Bool
may_be s below n = if below then s.signed && fits n (s.width - 1) else fits n (if s.signed then s.width - 1 else s.width)

abbrev pub AreMaybe : List Numbered → List (Option ℕ) → Type 0
AreMaybe gates w = All (λ h. IfSome h (λ n. n < length gates)) w

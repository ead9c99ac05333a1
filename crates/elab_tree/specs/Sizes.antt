-- How large a design is so far: its instances and its declared bits, which count 1 each.
--     limit                        a design of this size is too large
--     counted place n size         n more, or `Heavy` at the place where they reach the limit
--     weighed place boxes signals q size       what a module's own part adds
use Rattle.std.specs.Prelude.{ℕ, ◌+◌, ◌-◌, nat_le, if◌then◌else◌, length, drop, Ok, Err}
use Rattle.rdc_outside.specs.declared.source.Place.{Place}
use Rattle.design_form.specs.Signals.{bounds_of, width_of}
use Rattle.elab_names.specs.declared.fault.ElabFault.TheVariants.{Heavy}
use Rattle.elab_names.specs.Answers.{Or_fault, ◌>>=◌}
use Rattle.elab_scopes.specs.declared.placed.Placed.{Placed}
use Rattle.elab_scopes.specs.Threads.{threaded}
use Rattle.elab_items.specs.Plans.{Plan}

unfoldable pub limit : ℕ
limit = 1048576

unfoldable pub counted : Place → ℕ → ℕ → Or_fault ℕ
counted place n size = if nat_le limit (size + n) then Err (Heavy place) else Ok (size + n)

-- the bits of one more signal
abbrev pub signal_counted : Place → ℕ → Placed → Or_fault ℕ
signal_counted place size s = counted place (width_of (bounds_of s.signal)) size

-- the instances, the boxes and the bits that a module's own part adds, where there were so many boxes and signals
unfoldable pub weighed : Place → ℕ → ℕ → Plan → ℕ → Or_fault ℕ
weighed place boxes signals q size = do
  a ← counted place (length q.pending) size
  b ← counted place (length q.boxes - boxes) a
  threaded (signal_counted place) b (drop signals q.draft.drawn.signals)

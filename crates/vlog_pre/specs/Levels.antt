-- The files that are open and the conditionals that are open in them, the innermost first.
use Rattle.std.specs.Prelude.{Bool, true, false, not, ◌&&◌, ◌||◌, List, [], ◌∷◌, Option, Some, None}
use Rattle.rdc_outside.specs.declared.source.Place.{Place}
use Rattle.vlog_pre.specs.declared.levels.Level.{Level}
use Rattle.vlog_pre.specs.declared.levels.Level.TheVariants.{File, Conditional}

-- the innermost
abbrev pub innermost : List Level → Option Level
innermost [] = None
innermost (level ∷ levels) = Some level

-- all but the innermost
abbrev pub outer : List Level → List Level
outer [] = []
outer (level ∷ levels) = levels

-- what stands here is taken
abbrev pub is_taken : List Level → Bool
is_taken [] = true
is_taken (File ∷ levels) = true
is_taken (Conditional opening ∷ levels) = opening.taken

-- a conditional is open in this file
abbrev pub is_open : List Level → Bool
is_open [] = false
is_open (File ∷ levels) = false
is_open (Conditional opening ∷ levels) = true

-- a conditional is open in this file, and a further part may follow
abbrev pub may_go_on : List Level → Bool
may_go_on [] = false
may_go_on (File ∷ levels) = false
may_go_on (Conditional opening ∷ levels) = not opening.last

-- one conditional more, whose first part is taken where its condition is met; where its surroundings aren't taken, no part is
abbrev pub with_opening : List Level → Place → Bool → List Level
with_opening levels place met =
    Conditional (record { place = place; taken = is_taken levels && met; spent = not (is_taken levels) || met; last = false }) ∷ levels

-- the next part, which is taken where its condition is met and no part before was taken; `last` says that no further part may follow
abbrev pub with_part : List Level → Bool → Bool → List Level
with_part [] met last = []
with_part (File ∷ levels) met last = File ∷ levels
with_part (Conditional opening ∷ levels) met last =
    Conditional (record { place = opening.place; taken = not opening.spent && met; spent = opening.spent || met; last = last }) ∷ levels

-- Which item of a `case` is run.
--     Step                       what a statement does
--     standing full arms         the number of the item that stands for the default: the one without labels, or else the last one,
--                                where the case is full. Its match is not used
--     chain reads bits hit at i arms other       the items from number i on, as a chain of choices; in the end `other`
--     case_run reads bits hit full arms          all of them
use Rattle.std.specs.Prelude.{ℕ, ◌+◌, ◌-◌, Bool, true, false, ◌==◌, if◌then◌else◌, List, [], ◌∷◌, length, slice_get, Option, Some, None}
use Rattle.vlog_tree.specs.declared.expr.Expr.{Expr}
use Rattle.vlog_tree.specs.declared.stmt.Arm.{Arm}
use Rattle.rdc_tern.specs.declared.value.Tern.{Tern}
use Rattle.proc_values.specs.Runs.{Run, chosen}

abbrev pub Step : Type 0
Step = Run → Run

-- the number of the first item without labels, from number i on
unfoldable pub default_from : {S : Type 0} → ℕ → List (Arm S) → Option ℕ
default_from i [] = None
default_from i (arm ∷ arms) = if length arm.labels == 0 then Some i else default_from (i + 1) arms

unfoldable pub standing_or : {S : Type 0} → Bool → List (Arm S) → Option ℕ → Option ℕ
standing_or full arms (Some i) = Some i
standing_or true arms None = Some (length arms - 1)
standing_or false arms None = None

-- the number of the item that stands for the default
abbrev pub standing : {S : Type 0} → Bool → List (Arm S) → Option ℕ
standing full arms = standing_or full arms (default_from 0 arms)

unfoldable pub is_at : Option ℕ → ℕ → Bool
is_at None i = false
is_at (Some k) i = k == i

-- the items from number i on, as a chain of choices that all start from one state
unfoldable pub chain : List ℕ → List ℕ → (List Expr → Tern) → Option ℕ → ℕ → List (Arm Step) → Step → Step
chain reads bits hit at i [] other r = other r
chain reads bits hit at i (arm ∷ arms) other r =
    if is_at at i then chain reads bits hit at (i + 1) arms other r
    else chosen reads bits (hit arm.labels) (arm.body r) (chain reads bits hit at (i + 1) arms other r)

unfoldable pub body_in : Option (Arm Step) → Step
body_in None r = r
body_in (Some arm) r = arm.body r

-- the item of a number, or nothing
unfoldable pub body_at : Option ℕ → List (Arm Step) → Step
body_at None arms r = r
body_at (Some i) arms r = body_in (slice_get arms i) r

abbrev pub case_run : List ℕ → List ℕ → (List Expr → Tern) → Option ℕ → List (Arm Step) → Step
case_run reads bits hit at arms = chain reads bits hit at 0 arms (body_at at arms)

-- an item in which a part is what another one gives
abbrev pub with_body : {S T : Type 0} → (S → T) → Arm S → Arm T
with_body f a = record { place = a.place; labels = a.labels; body = f a.body }

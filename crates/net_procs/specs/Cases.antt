-- The items of a `case`, as gates. Which one stands for the default is as in the values of bodies.
--   chain reads bits hit at i arms other      the items from number i on, as a chain of choices; in the end `other`
--   case_run reads bits hit at arms           all of them
-- All items start from the same nodes. What stands in the end is drawn first, then the last item, and so on upward: of each
-- item its match, its body, and the choice between the body and what comes behind.
use Rattle.std.specs.Prelude.{ℕ, ◌+◌, if◌then◌else◌, List, [], ◌∷◌, slice_get, Option, Some, None}
use Rattle.vlog_tree.specs.declared.expr.Expr.{Expr}
use Rattle.vlog_tree.specs.declared.stmt.Arm.{Arm}
use Rattle.net_words.specs.Builds.{Build, ◌>>=◌, return}
use Rattle.proc_values.specs.Cases.{is_at}
use Rattle.net_procs.specs.Runs.{Run, Step, chosen}

-- an item before what comes behind it
unfoldable pub item : List ℕ → List ℕ → Build ℕ → Step → Run → Run → Build Run
item reads bits hit body r rest = do
  h ← hit
  one ← body r
  chosen reads bits h one rest

-- an item before what comes behind it; the one that stands for the default has no place of its own
abbrev pub item_if : List ℕ → List ℕ → (List Expr → Build ℕ) → Option ℕ → ℕ → Arm Step → Run → Run → Build Run
item_if reads bits hit at i arm r rest = if is_at at i then return rest else item reads bits (hit arm.labels) arm.body r rest

-- the items from number i on
unfoldable pub chain : List ℕ → List ℕ → (List Expr → Build ℕ) → Option ℕ → ℕ → List (Arm Step) → Step → Step
chain reads bits hit at i [] other r = other r
chain reads bits hit at i (arm ∷ arms) other r = do
  rest ← chain reads bits hit at (i + 1) arms other r
  item_if reads bits hit at i arm r rest

unfoldable pub body_in : Option (Arm Step) → Step
body_in None r = return r
body_in (Some arm) r = arm.body r

-- the item of a number, or nothing
unfoldable pub body_at : Option ℕ → List (Arm Step) → Step
body_at None arms r = return r
body_at (Some i) arms r = body_in (slice_get arms i) r

abbrev pub case_run : List ℕ → List ℕ → (List Expr → Build ℕ) → Option ℕ → List (Arm Step) → Step
case_run reads bits hit at arms = chain reads bits hit at 0 arms (body_at at arms)

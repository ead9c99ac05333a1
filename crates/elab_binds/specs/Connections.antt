-- Connections, in the order of the text, each of which takes a step for what it is made to: its name, its flag, and the
-- expression that stands there, if one does.
--     Step S                                   such a step
--     ordered step place s xs es               in order: the first expression goes to the first of the list
--     named step known s cs                    by name
--     connected name flag step place xs c s    the one or the other
use Rattle.std.specs.Prelude.{ℕ, Bool, nat_lt, if◌then◌else◌, List, [], ◌∷◌, length, Option, Ok, Err}
use Rattle.rdc_outside.specs.declared.source.Place.{Place}
use Rattle.vlog_tree.specs.declared.expr.Expr.{Expr}
use Rattle.vlog_tree.specs.declared.item.NamedConnection.{NamedConnection}
use Rattle.vlog_tree.specs.declared.item.Connections.{Connections}
use Rattle.vlog_tree.specs.declared.item.Connections.TheVariants as connections
use Rattle.elab_names.specs.declared.fault.ElabFault.TheVariants.{PortCount}
use Rattle.elab_names.specs.Answers.{Or_fault, ◌>>=◌, and_then}
use Rattle.elab_scopes.specs.Threads.{threaded}
use Rattle.elab_binds.specs.Flags.{Flags, no_flags, with_flag, first_of, taking}

-- what is so after a connection to what has that name and that flag
abbrev pub Step : Type 0 → Type 0
Step S = S → List ℕ → Bool → Option Expr → Or_fault S

-- ---- in order

-- what is so after a step for each pair
unfoldable pub paired : {S X Y : Type 0} → (S → X → Y → Or_fault S) → S → List X → List Y → Or_fault S
paired step s [] ys = Ok s
paired step s (x ∷ xs) [] = Ok s
paired step s (x ∷ xs) (y ∷ ys) = and_then (step s x y) (λ t. paired step t xs ys)

-- there may be fewer expressions, and not more
unfoldable pub ordered : {S X Y : Type 0} → (S → X → Y → Or_fault S) → Place → S → List X → List Y → Or_fault S
ordered step place s xs ys = if nat_lt (length xs) (length ys) then Err (PortCount place) else paired step s xs ys

-- ---- by name

-- the names that have connections, and what is so
pub record Taking (S : Type 0) : Type 0 where
  pub taken : Flags
  pub state : S

abbrev pub so_far : {S : Type 0} → Flags → S → Taking S
so_far taken s = record { taken = taken; state = s }

-- after one more
unfoldable pub named_one : {S : Type 0} → Step S → Flags → Taking S → NamedConnection → Or_fault (Taking S)
named_one step known s c = do
  flag ← taking known s.taken c.name
  t ← step s.state c.name.name flag c.value
  Ok (so_far (with_flag s.taken c.name.name flag) t)

-- after all
unfoldable pub named : {S : Type 0} → Step S → Flags → S → List NamedConnection → Or_fault S
named step known s cs = do
  t ← threaded (named_one step known) (so_far no_flags s) cs
  Ok t.state

-- ---- the one or the other

unfoldable pub connected : {S X : Type 0} → (X → List ℕ) → (X → Bool) → Step S → Place → List X → Connections → S → Or_fault S
connected name flag step place xs (connections.Ordered es) s = ordered (λ t x e. step t (name x) (flag x) e) place s xs es
connected name flag step place xs (connections.Named cs) s = named step (first_of name flag xs) s cs

-- What the gates of a body are worth.
--   AreWorthBodies        in every net that begins with the gates, in every ternary state, the nodes are worth what the bits become
use Rattle.std.specs.Prelude.{◌≡◌, ℕ, ◌<◌, List, All, length, map}
use Rattle.vlog_tree.specs.declared.stmt.Stmt.{Stmt}
use Rattle.design_form.specs.declared.parts.Parts.{Parts}
use Rattle.net_words.specs.Builds.{IsWorth}
use Rattle.net_exprs.specs.Names.{HasNodes}
use Rattle.proc_values.specs.Bodies.{worth}
use Rattle.net_procs.specs.Bodies.{drawn}

-- each of these bits has a node
abbrev pub AreBits : List ℕ → List ℕ → Type 0
AreBits bits nodes = All (λ b. b < length nodes) bits

abbrev pub AreWorthBodies : Type 0
AreWorthBodies = (d : Parts) (reads bits : List ℕ) (s : Stmt) (nodes : List ℕ) → HasNodes d nodes → AreBits reads nodes → AreBits bits nodes
    → IsWorth (drawn d reads bits s nodes) (λ v made. map v made ≡ worth d reads bits s (map v nodes))

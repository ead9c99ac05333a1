-- What private functions keep of nodes and strokes.
--   run_of w                       the nodes that the code keeps, as a run
--   AreStrokes gates ks            the nodes of strokes are there
--   IsChoice gates c               the nodes of a selector are there, as many as its size says
--   IsFit d reads bits gates r     a node for each bit that is read or assigned, and these nodes are there
--   Fits f gates r, step_of f s    the same, and what a statement draws, in a frame
--   behind_one f c one other       what is left of a choice behind its first side
use Rattle.std.specs.Prelude.{◌≡◌, ℕ, ◌<◌, List, All, length, IfSome}
use Rattle.vlog_tree.specs.declared.stmt.Stmt.{Stmt}
use Rattle.design_form.specs.declared.parts.Parts.{Parts}
use Rattle.net_view.specs.View.{Numbered}
use Rattle.net_words.specs.Builds.{AreThere, ◌>>=◌}
use Rattle.net_exprs.specs.Names.{HasNodes}
use Rattle.net_procs.specs.declared.frame.Frame.{Frame}
use Rattle.net_procs.specs.declared.labels.Choice.{Choice}
use Rattle.net_procs.specs.declared.stroke.Stroke.{Stroke}
use Rattle.net_procs.specs.declared.wires.Wires.{Wires}
use Rattle.net_procs.specs.Bodies.{run}
use Rattle.net_procs.specs.Laws.{AreBits}
use Rattle.net_procs.specs.Runs.{Run, Step, chosen}

abbrev pub run_of : Wires → Run
run_of w = record { now = w.seen.items; next = w.becomes.items }

pub record IsStroke (count : ℕ) (k : Stroke) : Type 0 where
  pub value : k.value < count
  pub hit : IfSome k.hit (λ h. h < count)

abbrev pub AreStrokes : List Numbered → List Stroke → Type 0
AreStrokes gates ks = All (IsStroke (length gates)) ks

pub record IsChoice (gates : List Numbered) (c : Choice) : Type 0 where
  pub wide : length c.word.items ≡ c.context.width
  pub there : AreThere gates c.word.items

-- reads have nodes, and what is assigned, too
pub record IsFit (d : Parts) (reads bits : List ℕ) (gates : List Numbered) (r : Run) : Type 0 where
  pub has : HasNodes d r.now
  pub seen : AreBits reads r.now
  pub becomes : AreBits bits r.next
  pub now : AreThere gates r.now
  pub next : AreThere gates r.next

abbrev pub Fits : Frame → List Numbered → Run → Type 0
Fits f gates r = IsFit f.design.now f.reads.now f.bits.now gates r

abbrev pub step_of : Frame → Stmt → Step
step_of f s = run f.design.now f.reads.now f.bits.now s

-- what is left of a choice behind its first side
abbrev pub behind_one : Frame → ℕ → Run → Step → Step
behind_one f c one other r = other r >>= (λ two. chosen f.reads.now f.bits.now c one two)

-- What a process body makes of the nodes of a design's bits, step by step.
--   Run                           the nodes that reads see, and those that the bits become, by the numbers of the bits
--   Step                          what a statement draws
--   nodes_of nodes bits           the nodes of bits
--   changed bits k nodes          a stroke on a bit of these; a bit of none of them keeps its node, and no gate is drawn
--   struck bits ks nodes          strokes, one after the other
--   scattered bits word nodes     nodes put back at bits, the last one last
--   mixed bits c ys ns            each of these bits becomes mux(c, y, n); others are as in ns
--   chosen reads bits c one other the same of both: of what reads see at `reads`, of what bits become at `bits`
use Rattle.std.specs.Prelude.{ℕ, if◌then◌else◌, List, [], ◌∷◌, map, slice_set, Option, Some, None}
use Rattle.net_words.specs.Builds.{Build, ◌>>=◌, return}
use Rattle.net_words.specs.Bits.{mux}
use Rattle.net_words.specs.Words.{select}
use Rattle.net_exprs.specs.Names.{node_at}
use Rattle.proc_values.specs.Runs.{is_among}
use Rattle.net_procs.specs.declared.stroke.Stroke.{Stroke}

-- the nodes that reads see, and those that the bits become
pub record Run : Type 0 where
  pub now : List ℕ
  pub next : List ℕ

-- what a statement draws
abbrev pub Step : Type 0
Step = Run → Build Run

-- the nodes of bits
abbrev pub nodes_of : List ℕ → List ℕ → List ℕ
nodes_of nodes bits = map (node_at nodes) bits

-- ---- strokes

-- a bit gets a node where the stroke is hit; without a condition it always is
unfoldable pub changed_if : Option ℕ → ℕ → ℕ → List ℕ → Build (List ℕ)
changed_if None bit value nodes = return (slice_set nodes bit value)
changed_if (Some h) bit value nodes = do
  n ← mux h value (node_at nodes bit)
  return (slice_set nodes bit n)

unfoldable pub changed : List ℕ → Stroke → List ℕ → Build (List ℕ)
changed bits k nodes = if is_among bits k.bit then changed_if k.hit k.bit k.value nodes else return nodes

-- strokes, one after the other
unfoldable pub struck : List ℕ → List Stroke → List ℕ → Build (List ℕ)
struck bits [] nodes = return nodes
struck bits (k ∷ ks) nodes = do
  next ← changed bits k nodes
  struck bits ks next

-- ---- choices

-- nodes put back at bits
unfoldable pub scattered : List ℕ → List ℕ → List ℕ → List ℕ
scattered [] word nodes = nodes
scattered (b ∷ bits) [] nodes = nodes
scattered (b ∷ bits) (n ∷ word) nodes = scattered bits word (slice_set nodes b n)

-- each of these bits becomes mux(c, y, n)
unfoldable pub mixed : List ℕ → ℕ → List ℕ → List ℕ → Build (List ℕ)
mixed bits c ys ns = do
  word ← select c (nodes_of ys bits) (nodes_of ns bits)
  return (scattered bits word ns)

unfoldable pub chosen : List ℕ → List ℕ → ℕ → Run → Run → Build Run
chosen reads bits c one other = do
  now ← mixed reads c one.now other.now
  next ← mixed bits c one.next other.next
  return (record { now = now; next = next })

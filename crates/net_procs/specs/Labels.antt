-- Whether a `case` label matches, as gates (IEEE 1364-2005, 9.5).
--   same_at free x y                         whether two words are the same, bit by bit, where positions count
--   label_hit d nodes how c selector e       whether a label matches the selector's word, in the shape c of both
--   any_hit d nodes how c selector es        the OR over some labels
-- A position of a z digit in a `casez` label has no gate.
use Rattle.std.specs.Prelude.{ℕ, Bool, true, false, List, [], ◌∷◌}
use Rattle.vlog_tree.specs.declared.expr.Expr.{Expr}
use Rattle.vlog_tree.specs.declared.stmt.Matching.{Matching}
use Rattle.vlog_const.specs.declared.shape.Shape.{Shape}
use Rattle.design_form.specs.declared.parts.Parts.{Parts}
use Rattle.net_words.specs.Builds.{Build, ◌>>=◌, return}
use Rattle.net_words.specs.declared.bits.Bitwise.TheVariants as op
use Rattle.net_words.specs.Bits.{bit}
use Rattle.net_words.specs.Words.{any, all}
use Rattle.net_exprs.specs.Names.{wired_in}
use Rattle.net_exprs.specs.Lowered.{built_in}
use Rattle.proc_values.specs.Labels.{free_in}

-- whether a bit of a word, where it counts, and the bits above are the same
unfoldable pub same_at : List Bool → List ℕ → List ℕ → Build (List ℕ)
same_at free [] y = return []
same_at free (a ∷ x) [] = return []
same_at [] (a ∷ x) (b ∷ y) = do
  n ← bit op.Xnor a b
  rest ← same_at [] x y
  return (n ∷ rest)
same_at (true ∷ free) (a ∷ x) (b ∷ y) = same_at free x y
same_at (false ∷ free) (a ∷ x) (b ∷ y) = do
  n ← bit op.Xnor a b
  rest ← same_at free x y
  return (n ∷ rest)

-- the AND over the positions that count; of none 1
unfoldable pub same : List Bool → List ℕ → List ℕ → Build ℕ
same free x y = do
  bits ← same_at free x y
  all bits

-- whether a label matches the selector's word
unfoldable pub label_hit : Parts → List ℕ → Matching → Shape → List ℕ → Expr → Build ℕ
label_hit d nodes how c selector e = do
  word ← built_in (wired_in d nodes) c e
  same (free_in d how e) selector word

-- whether each of some labels matches
unfoldable pub label_hits : Parts → List ℕ → Matching → Shape → List ℕ → List Expr → Build (List ℕ)
label_hits d nodes how c selector [] = return []
label_hits d nodes how c selector (e ∷ es) = do
  h ← label_hit d nodes how c selector e
  rest ← label_hits d nodes how c selector es
  return (h ∷ rest)

-- the OR over some labels
unfoldable pub any_hit : Parts → List ℕ → Matching → Shape → List ℕ → List Expr → Build ℕ
any_hit d nodes how c selector es = do
  hits ← label_hits d nodes how c selector es
  any hits

-- When a `case` label matches (IEEE 1364-2005, 9.5).
--     free_of d e                which positions of a label have z digits: those of a number, and those of the parts of brackets,
--                                concatenations and replications; past its end there are none
--     same_at free x y           whether two words are the same, bit by bit, where positions count
--     label_hit d now how c selector e      whether a label matches the selector's word, in the shape c of both
--     any_hit d now how c selector es       the OR over some labels
use Rattle.std.specs.Prelude.{ℕ, zero, suc, ◌-◌, ◌/◌, ◌%◌, Bool, true, false, ◌==◌, List, [], ◌∷◌, ◌++◌, length, map, take, replicate}
use Rattle.vlog_tree.specs.declared.expr.Expr.{Expr, para-Expr}
use Rattle.vlog_tree.specs.declared.expr.Expr.TheOpen.{Expr-F}
use Rattle.vlog_tree.specs.declared.stmt.Matching.{Matching}
use Rattle.vlog_tree.specs.declared.stmt.Matching.TheVariants.{Exact, Wildcard}
use Rattle.rdc_tern.specs.declared.value.Tern.{Tern}
use Rattle.rdc_tern.specs.Kleene.{not_of, xor_of}
use Rattle.rdc_tern.specs.Words.{any_of, all_of}
use Rattle.vlog_const.specs.declared.shape.Shape.{Shape}
use Rattle.design_form.specs.declared.parts.Parts.{Parts}
use Rattle.design_form.specs.Values.{count_alone, word_in}
use Rattle.design_form.specs.State.{seen_in}
use Rattle.design_sizes.specs.Sizes.{shape_of}

-- ---- positions of z digits

-- the low w bits of a number
unfoldable pub flags : ℕ → ℕ → List Bool
flags zero n = []
flags (suc w) n = (n % 2 == 1) ∷ flags w (n / 2)

-- as wide as w
unfoldable pub fitted : ℕ → List Bool → List Bool
fitted w free = take w free ++ replicate (w - length free) false

-- members side by side, the first one at the top
unfoldable pub joined_free : Parts → List (Expr × List Bool) → List Bool
joined_free d [] = []
joined_free d (m ∷ ms) = joined_free d ms ++ fitted (shape_of d m.0).width m.1

unfoldable pub repeated : ℕ → List Bool → List Bool
repeated zero free = []
repeated (suc n) free = free ++ repeated n free

unfoldable pub free_by_parts : Parts → Expr-F (Expr × List Bool) → List Bool
free_by_parts d (Expr-F.Number place n) = flags n.width n.z
free_by_parts d (Expr-F.Brackets place a) = a.1
free_by_parts d (Expr-F.Concat place members) = joined_free d members
free_by_parts d (Expr-F.Repeat place n members) = repeated (count_alone n.0) (joined_free d members)
free_by_parts d _ = []

unfoldable pub free_of : Parts → Expr → List Bool
free_of d = para-Expr (List Bool) (free_by_parts d)

-- positions that don't count
unfoldable pub free_in : Parts → Matching → Expr → List Bool
free_in d Exact e = []
free_in d Wildcard e = free_of d e

-- ---- matches

-- whether two words are the same, bit by bit, where positions count
unfoldable pub same_at : List Bool → List Tern → List Tern → List Tern
same_at free [] y = []
same_at free (a ∷ x) [] = []
same_at [] (a ∷ x) (b ∷ y) = not_of (xor_of a b) ∷ same_at [] x y
same_at (true ∷ free) (a ∷ x) (b ∷ y) = same_at free x y
same_at (false ∷ free) (a ∷ x) (b ∷ y) = not_of (xor_of a b) ∷ same_at free x y

-- whether a label matches the selector's word; one without a position that counts always does
unfoldable pub label_hit : Parts → List Tern → Matching → Shape → List Tern → Expr → Tern
label_hit d now how c selector e = all_of (same_at (free_in d how e) selector (word_in (seen_in d now) c e))

-- the OR over some labels
abbrev pub any_hit : Parts → List Tern → Matching → Shape → List Tern → List Expr → Tern
any_hit d now how c selector es = any_of (map (label_hit d now how c selector) es)

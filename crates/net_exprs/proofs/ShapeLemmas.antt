-- Serves src/sizes.rt and specs/Laws.antt: an expression has the shape that it has in the design.
use Rattle.std.proofs.Common.{◌≡◌, ℕ, ◌+◌, Bool, List, [], ◌∷◌, length, map, Option, Some, None, refl, sym, ap, subst, ◌∙◌}
use Rattle.std.proofs.lemmas.List.{length-map}
use Rattle.vlog_tree.specs.declared.expr.Expr.{Expr, ind-Expr, map-Expr, roll-Expr}
use Rattle.vlog_tree.specs.declared.expr.Expr.TheOpen.{Expr-F}
use Rattle.vlog_tree.specs.declared.expr.Expr.TheVariants.{rolls-Number, rolls-Name, rolls-Index, rolls-Select, rolls-Brackets, rolls-Concat, rolls-Repeat, rolls-Unary, rolls-Binary, rolls-Conditional}
use Rattle.vlog_tree.specs.declared.expr.Part.{Part}
use Rattle.vlog_tree.specs.declared.expr.Part.TheVariants.{Fixed, Up, Down}
use Rattle.rdc_tern.specs.declared.value.Tern.{Tern}
use Rattle.vlog_const.specs.declared.shape.Shape.{Shape}
use Rattle.vlog_const.specs.Widths.{unsigned, unary_shape, binary_shape, choice_shape, repeated_shape}
use Rattle.design_form.specs.declared.signal.Bounds.{Bounds}
use Rattle.design_form.specs.declared.signal.Signal.{Signal}
use Rattle.design_form.specs.declared.parts.Parts.{Parts}
use Rattle.design_form.specs.Numbers.{numbers_of, signal_of}
use Rattle.design_form.specs.State.{value_at, seen_as, seen_in}
use Rattle.design_form.specs.Selects.{Seen, part_width}
use Rattle.design_form.specs.Values as value
use Rattle.design_form.specs.Values.{Valued, valued, number_alone, count_alone}
use Rattle.design_form.proofs.ValueLemmas.{valued-Number, valued-Name, valued-Index, valued-Select, valued-Brackets, valued-Concat, valued-Repeat, valued-Unary, valued-Binary, valued-Conditional}
use Rattle.net_exprs.specs.Wired.{Wired, seen_of}
use Rattle.net_exprs.specs.Names.{node_at, wired_as, wired_in}
use Rattle.net_exprs.specs.Lowered.{Formed, Lowered, lowered, by_value, select_width, joined_width}
use Rattle.net_exprs.specs.Laws.{KeepShapes, seen_names}
use Rattle.net_exprs.proofs.LoweredForms.{lowered-Number, lowered-Name, lowered-Index, lowered-Select, lowered-Brackets, lowered-Concat, lowered-Repeat, lowered-Unary, lowered-Binary, lowered-Conditional}

-- the same range, sign and width
pub record LooksAs (w : Wired) (v : Seen) : Type 0 where
  pub range : w.range ≡ v.range
  pub signed : w.signed ≡ v.signed
  pub width : length w.nodes ≡ length v.word

abbrev shaped : ℕ → Bool → Shape
shaped w s = record { width = w; signed = s }

width_alike : (w : Wired) (v : Seen) (how : Part) (i j : Expr) → LooksAs w v → select_width w.range how i j ≡ value.select_width v how i j
unfolding select_width value.select_width
width_alike w v Fixed i j h = ap (λ (r : Bounds). part_width r (number_alone i) (number_alone j)) h.range
width_alike w v Up i j h = refl
width_alike w v Down i j h = refl

module _ (names : List ℕ → Wired) (seen : List ℕ → Seen) (looks : (name : List ℕ) → LooksAs (names name) (seen name)) where
  abbrev IsSo : Expr → Type 0
  IsSo e = (lowered names e).shape ≡ (valued seen e).shape

  by_form : (e e' : Expr) (a : Formed) (v : Valued) → e ≡ e' → lowered names e' ≡ by_value e' a → valued seen e' ≡ v → a.shape ≡ v.shape → IsSo e
  by_form e e' a v is left right same = subst IsSo (sym is) (ap (λ (x : Lowered). x.shape) left ∙ same ∙ sym (ap (λ (x : Valued). x.shape) right))

  members_width : (es : List ((e : Expr) × IsSo e)) → joined_width (map (lowered names) (map (λ p. p.0) es)) ≡ value.joined_width (map (valued seen) (map (λ p. p.0) es))
  unfolding joined_width value.joined_width
  members_width [] = refl
  members_width (e ∷ es) = ap (λ (n : ℕ). n + (lowered names e.0).shape.width) (members_width es) ∙ ap (λ (s : Shape). value.joined_width (map (valued seen) (map (λ p. p.0) es)) + s.width) e.1

  by_parts : (y : Expr-F ((e : Expr) × IsSo e)) → IsSo (roll-Expr (map-Expr ((e : Expr) × IsSo e) Expr (λ p. p.0) y))
  by_parts (Expr-F.Number place x) = by_form _ _ _ _ (rolls-Number place x) (lowered-Number names place x) (valued-Number seen place x) refl
  by_parts (Expr-F.Name place name) =
      by_form _ _ _ _ (rolls-Name place name) (lowered-Name names place name) (valued-Name seen place name)
      (ap (λ (n : ℕ). shaped n (names name).signed) (looks name).width ∙ ap (shaped (length (seen name).word)) (looks name).signed)
  by_parts (Expr-F.Index place name i) = by_form _ _ _ _ (rolls-Index place name i.0) (lowered-Index names place name i.0) (valued-Index seen place name i.0) refl
  by_parts (Expr-F.Select how place name i j) =
      by_form _ _ _ _ (rolls-Select how place name i.0 j.0) (lowered-Select names place name how i.0 j.0) (valued-Select seen place name how i.0 j.0)
      (ap unsigned (width_alike (names name) (seen name) how i.0 j.0 (looks name)))
  by_parts (Expr-F.Brackets place a) = by_form _ _ _ _ (rolls-Brackets place a.0) (lowered-Brackets names place a.0) (valued-Brackets seen place a.0) a.1
  by_parts (Expr-F.Concat place es) =
      by_form _ _ _ _ (rolls-Concat place (map (λ p. p.0) es)) (lowered-Concat names place (map (λ p. p.0) es)) (valued-Concat seen place (map (λ p. p.0) es)) (ap unsigned (members_width es))
  by_parts (Expr-F.Repeat place k es) =
      by_form _ _ _ _ (rolls-Repeat place k.0 (map (λ p. p.0) es)) (lowered-Repeat names place k.0 (map (λ p. p.0) es)) (valued-Repeat seen place k.0 (map (λ p. p.0) es))
      (ap (λ (n : ℕ). repeated_shape (count_alone k.0) (unsigned n)) (members_width es))
  by_parts (Expr-F.Unary place op a) = by_form _ _ _ _ (rolls-Unary place op a.0) (lowered-Unary names place op a.0) (valued-Unary seen place op a.0) (ap (unary_shape op) a.1)
  by_parts (Expr-F.Binary place op x y) =
      by_form _ _ _ _ (rolls-Binary place op x.0 y.0) (lowered-Binary names place op x.0 y.0) (valued-Binary seen place op x.0 y.0)
      (ap (λ (s : Shape). binary_shape op s (lowered names y.0).shape) x.1 ∙ ap (binary_shape op (valued seen x.0).shape) y.1)
  by_parts (Expr-F.Conditional place t x y) =
      by_form _ _ _ _ (rolls-Conditional place t.0 x.0 y.0) (lowered-Conditional names place t.0 x.0 y.0) (valued-Conditional seen place t.0 x.0 y.0)
      (ap (λ (s : Shape). choice_shape s (lowered names y.0).shape) x.1 ∙ ap (choice_shape (valued seen x.0).shape) y.1)

  pub shapes_alike : (e : Expr) → (lowered names e).shape ≡ (valued seen e).shape
  shapes_alike e = ind-Expr IsSo (λ x y is. subst (λ z. IsSo (roll-Expr z)) is (by_parts y)) e

looks_seen : (v : ℕ → Tern) (w : Wired) → LooksAs w (seen_of v w)
looks_seen v w = record { range = refl; signed = refl; width = sym (length-map w.nodes v) }

pub shapes_kept : KeepShapes
shapes_kept v names e = shapes_alike names (seen_names v names) (λ name. looks_seen v (names name)) e

-- ---- in a design, whatever nodes its bits have

looks_as : (ss : List Signal) (nodes : List ℕ) (state : List Tern) (s : Option Signal) → LooksAs (wired_as ss nodes s) (seen_as ss state s)
unfolding wired_as seen_as
looks_as ss nodes state None = record { range = refl; signed = refl; width = refl }
looks_as ss nodes state (Some s) = record {
  range = refl;
  signed = refl;
  width = length-map (numbers_of ss s) (node_at nodes) ∙ sym (length-map (numbers_of ss s) (value_at state));
}

looks_in : (d : Parts) (nodes : List ℕ) (state : List Tern) (name : List ℕ) → LooksAs (wired_in d nodes name) (seen_in d state name)
unfolding wired_in seen_in
looks_in d nodes state name = looks_as d.signals nodes state (signal_of d.signals name)

pub shape_in_design : (d : Parts) (nodes : List ℕ) (e : Expr) → (valued (seen_in d []) e).shape ≡ (lowered (wired_in d nodes) e).shape
shape_in_design d nodes e = sym (shapes_alike (wired_in d nodes) (seen_in d []) (looks_in d nodes []) e)

-- Shapes of expressions, which no state changes.
use Rattle.std.proofs.Common.{◌≡◌, ℕ, List, [], ◌∷◌, length, map, Option, Some, None, refl, ap, ◌∙◌}
use Rattle.std.specs.List.{AllZip}
use Rattle.vlog_tree.specs.declared.expr.Expr.{Expr}
use Rattle.rdc_tern.specs.declared.value.Tern.{Tern}
use Rattle.rdc_tern.proofs.KeptLemmas.{IsKept}
use Rattle.vlog_const.specs.declared.shape.Shape.{Shape}
use Rattle.design_form.specs.declared.parts.Parts.{Parts}
use Rattle.design_form.specs.declared.signal.Signal.{Signal}
use Rattle.design_form.specs.Numbers.{numbers_of, signal_of}
use Rattle.design_form.specs.State.{value_at, seen_as, seen_in}
use Rattle.design_form.specs.Values.{valued, word_of}
use Rattle.design_form.proofs.KeptValues.{SeenKept, values_kept}
use Rattle.design_form.proofs.WidthLemmas.{length-word_in}
use Rattle.design_sizes.specs.Sizes.{shape_of}

abbrev Any : Tern → Tern → Type 0
Any a b = Unit {0}

kept : IsKept Any
kept = record {
  low = tt;
  high = tt;
  inverter = λ a a' h. tt;
  conjunction = λ a a' b b' h i. tt;
  disjunction = λ a a' b b' h i. tt;
  difference = λ a a' b b' h i. tt;
}

any_values : (a b : List Tern) (ns : List ℕ) → AllZip Any (map (value_at a) ns) (map (value_at b) ns)
any_values a b [] = tt
any_values a b (n ∷ ns) = (tt, any_values a b ns)

any_seen : (ss : List Signal) (a b : List Tern) (s : Option Signal) → SeenKept Any kept (seen_as ss a s) (seen_as ss b s)
unfolding seen_as
any_seen ss a b None = record { range = refl; signed = refl; word = tt }
any_seen ss a b (Some s) = record { range = refl; signed = refl; word = any_values a b (numbers_of ss s) }

any_names : (d : Parts) (a b : List Tern) (name : List ℕ) → SeenKept Any kept (seen_in d a name) (seen_in d b name)
unfolding seen_in
any_names d a b name = any_seen d.signals a b (signal_of d.signals name)

pub same_shape : (d : Parts) (a : List Tern) (e : Expr) → (valued (seen_in d a) e).shape ≡ shape_of d e
same_shape d a e = (values_kept Any kept (seen_in d a) (seen_in d []) (any_names d a []) e).shape

-- the word of an expression that stands alone has its width
pub alone_width : (d : Parts) (a : List Tern) (e : Expr) → length (word_of (seen_in d a) e) ≡ (shape_of d e).width
alone_width d a e = length-word_in (seen_in d a) e (valued (seen_in d a) e).shape ∙ ap (λ (s : Shape). s.width) (same_shape d a e)

-- What the gates of an expression are worth.
--   seen_names v names        what names stand for, with values in the place of their nodes
--   KeepShapes                an expression is as wide as in the design, and has its sign
--   AreWorthWords             in every net that begins with the gates, in every ternary state, the nodes are worth the word
use Rattle.std.specs.Prelude.{◌≡◌, ℕ, List, map}
use Rattle.rdc_tern.specs.declared.value.Tern.{Tern}
use Rattle.vlog_tree.specs.declared.expr.Expr.{Expr}
use Rattle.vlog_const.specs.declared.shape.Shape.{Shape}
use Rattle.design_form.specs.Selects.{Seen}
use Rattle.design_form.specs.Values.{valued, word_of, word_in, word_within}
use Rattle.net_words.specs.Builds.{IsWorth}
use Rattle.net_exprs.specs.Wired.{Wired, seen_of}
use Rattle.net_exprs.specs.Lowered.{lowered, built_of, built_in, built_within}

-- what names stand for, with values in the place of their nodes
abbrev pub seen_names : (ℕ → Tern) → (List ℕ → Wired) → List ℕ → Seen
seen_names v names name = seen_of v (names name)

-- the shape is the one that the design's expression has, whatever the nodes are worth
abbrev pub KeepShapes : Type 0
KeepShapes = (v : ℕ → Tern) (names : List ℕ → Wired) (e : Expr) → (lowered names e).shape ≡ (valued (seen_names v names) e).shape

-- the nodes are worth the word: alone, in each context, and as on the right of an assignment
pub record AreWorthWords : Type 0 where
  pub alone : (names : List ℕ → Wired) (e : Expr) → IsWorth (built_of names e) (λ v made. map v made ≡ word_of (seen_names v names) e)
  pub inside : (names : List ℕ → Wired) (c : Shape) (e : Expr) → IsWorth (built_in names c e) (λ v made. map v made ≡ word_in (seen_names v names) c e)
  pub assigned : (names : List ℕ → Wired) (w : ℕ) (e : Expr) → IsWorth (built_within names w e) (λ v made. map v made ≡ word_within (seen_names v names) w e)

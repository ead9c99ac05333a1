-- What holds of every value.
--     HaveWidths            a word in a context has its width
--     RaisesValues          a state that tells less gives values that tell no more
--     SettlesValues         a state without X gives values without X
use Rattle.std.specs.Prelude.{◌≡◌, ℕ, List, length}
use Rattle.vlog_tree.specs.declared.expr.Expr.{Expr}
use Rattle.rdc_tern.specs.declared.value.Tern.{Tern}
use Rattle.rdc_tern.specs.Numbers.{AreSettled, AreBelow}
use Rattle.vlog_const.specs.declared.shape.Shape.{Shape}
use Rattle.design_form.specs.declared.parts.Parts.{Parts}
use Rattle.design_form.specs.Numbers.{bits_of}
use Rattle.design_form.specs.Selects.{Seen}
use Rattle.design_form.specs.Values.{word_in}
use Rattle.design_form.specs.State.{seen_in, val}

-- a word in a context has its width
abbrev pub HaveWidths : Type 0
HaveWidths = (names : List ℕ → Seen) (e : Expr) (c : Shape) → length (word_in names c e) ≡ c.width

-- a state that tells less gives values that tell no more, alone and in each context
pub record RaisesValues : Type 0 where
  pub alone : (d : Parts) (e : Expr) (a b : List Tern) → AreBelow a b → AreBelow (val d a e) (val d b e)
  pub inside : (d : Parts) (e : Expr) (c : Shape) (a b : List Tern) → AreBelow a b → AreBelow (word_in (seen_in d a) c e) (word_in (seen_in d b) c e)

-- a state of all bits without X gives values without X, alone and in each context
pub record SettlesValues : Type 0 where
  pub alone : (d : Parts) (e : Expr) (a : List Tern) → length a ≡ length (bits_of d.signals) → AreSettled a → AreSettled (val d a e)
  pub inside : (d : Parts) (e : Expr) (c : Shape) (a : List Tern) → length a ≡ length (bits_of d.signals) → AreSettled a → AreSettled (word_in (seen_in d a) c e)

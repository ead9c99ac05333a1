-- What holds of each flat design that modules give.
--     IsOneFlat      modules give at most one below a top
--     AreSmall       what one says in the first form has fewer than 2^20 names and steps together
use Rattle.std.specs.Prelude.{◌≡◌, ℕ, ◌<◌, ◌^◌, List, Some, Ok}
use Rattle.design_form.specs.declared.parts.Parts.{Parts}
use Rattle.elab_items.specs.Instances.{Lib}
use Rattle.vlog_elab.specs.Flat.{Gives}
use Rattle.thin_tree.specs.Tree.{Module}
use Rattle.thin_tree.specs.Form.{form_of}
use Rattle.thin_tree.specs.Grammar.{size}

-- modules give at most one flat design below a top
abbrev pub IsOneFlat : Type 0
IsOneFlat = (lib : Lib) (name : List ℕ) (a b : Parts) → Gives lib name (Ok a) → Gives lib name (Ok b) → a ≡ b

-- what a flat design says in the first form is small: each declared bit and each part of an expression weighs at least one
abbrev pub AreSmall : Type 0
AreSmall = (lib : Lib) (name : List ℕ) (d : Parts) (t : Module) → Gives lib name (Ok d) → form_of d ≡ Some t → size t < 2 ^ 20

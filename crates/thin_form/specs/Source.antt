-- When a flat design is of the first form, and what netlist's design it says; it says at most one.
use Rattle.std.specs.Prelude.{◌≡◌, ◌<◌, ◌^◌, Some}
use Rattle.design_form.specs.declared.parts.Parts.{Parts}
use Rattle.thin_tree.specs.Tree.{Module}
use Rattle.thin_tree.specs.Form.{form_of}
use Rattle.thin_tree.specs.Grammar.{size}
use Rattle.thin_form.specs.Rules.{IsOfForm}
use Rattle.thin_form.specs.Design.{Design}
use Rattle.thin_form.specs.Meaning.{IsDesignOf}

-- the flat design is of the form, and says this design
pub record Says (flat : Parts) (d : Design) : Type 0 where
  pub tree : Module
  pub said : form_of flat ≡ Some tree
  pub is_of_form : IsOfForm tree
  pub design : IsDesignOf tree d

-- fewer than 2^32 names are declared and steps taken
abbrev pub IsSmall : Parts → Type 0
IsSmall flat = (tree : Module) → form_of flat ≡ Some tree → size tree < 2 ^ 32

-- a flat design says at most one design
abbrev pub IsOneDesign : Type 0
IsOneDesign = (flat : Parts) (a b : Design) → Says flat a → Says flat b → a ≡ b

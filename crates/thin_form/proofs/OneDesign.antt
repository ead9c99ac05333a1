-- A source says at most one design: it says one module of the form, and a module means one.
use Rattle.std.proofs.Common.{◌≡◌, Some, sym, subst, ◌∙◌}
use Rattle.thin_tree.specs.Tree.{Module}
use Rattle.thin_form.specs.Meaning.{IsDesignOf}
use Rattle.thin_form.specs.Source.{IsOneDesign}
use Rattle.thin_form.proofs.Unique.{one_meaning}

pub same_tree : (a b : Module) → Some a ≡ Some b → a ≡ b
same_tree a b same = cc

pub one_design_is : IsOneDesign
one_design_is flat a b x y =
    let same = same_tree x.tree y.tree (sym x.said ∙ y.said) in
    one_meaning y.tree a b (subst (λ (m : Module). IsDesignOf m a) same x.design) y.design

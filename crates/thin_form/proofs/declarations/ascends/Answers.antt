use Rattle.std.proofs.Common.{rules, sym, subst}
use Rattle.std.specs.Prelude.{IsTrue, ◌↔◌}
use Rattle.std.specs.Ordering.{nat_cmp, is_lt}
use Rattle.std.specs.Cmp.Lexicographic.{slice_cmp}
use Rattle.std.proofs.lemmas.List.Sorted.{answers_always}
use Rattle.std.proofs.lemmas.Simd.{map-map}
use Rattle.thin_tree.specs.Tree as tree
use Rattle.thin_tree.specs.declared.tree.Declared.{Declared}
use Rattle.thin_tree.specs.Written.{a_declared}
use Rattle.thin_form.specs.Design.{IsAscending}
use Rattle.thin_form.proofs.Orders.{ascending_if}
use Rattle.thin_form.proofs.declarations.ascends.Goals as goal

pub returns : goal.returns
returns c =
    subst (λ ns. IsTrue c.is_sorted_by.result ↔ IsAscending ns) (sym (map-map (λ (d : tree.Declared). d.name) a_declared c.args.declared.now))
    (ascending_if (λ (d : Declared). d.name.now) c.args.declared.now c.is_sorted_by.result (c.is_sorted_by.ensures.cases (λ x y. is_lt (slice_cmp nat_cmp x.name.now y.name.now)) (answers_always _ _ _ (λ f a r g called. search rules))))

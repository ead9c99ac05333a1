use Rattle.std.proofs.Common.{◌≡◌, IfOk, refl, sym, ap, subst, ◌∙◌, ⊎_elim, arith}
use Rattle.vlog_const.specs.declared.shape.Shape.{Shape}
use Rattle.vlog_const.specs.declared.shape.Family.{Family}
use Rattle.vlog_const.specs.declared.shape.Family.TheVariants.{Compared, Alone}
use Rattle.vlog_const.specs.Widths.{shape_in}
use Rattle.design_form.specs.Extents.{shape_of}
use Rattle.design_form.specs.Values.{valued}
use Rattle.design_form.specs.State.{seen_in}
use Rattle.design_form.proofs.FormLemmas.{select-shape, unary-form-shape, binary-shape, wider, wide}
use Rattle.design_form.proofs.extents.+extents.Goals as goal

pub extent-returns-in-Select : goal.extent-returns-in-Select
extent-returns-in-Select t c =
    subst (λ (z : Shape). IfOk c.extent_of_select.result (λ x. shape_of x ≡ z))
    (select-shape (seen_in c.args.design.now c.args.state.now) _ _ _ _ _ _ _ _ _ c.in-Select.is c.get-first.ensures c.get-second.ensures c.as_slice-name.ensures)
    c.extent_of_select.ensures

pub extent-returns-in-Unary : goal.extent-returns-in-Unary
extent-returns-in-Unary t c =
    subst (λ (z : Shape). IfOk c.extent_before.result (λ x. shape_of x ≡ z))
    (unary-form-shape (seen_in c.args.design.now c.args.state.now) _ _ _ _ _ c.in-Unary.is c.get-in-Unary.ensures)
    c.extent_before.ensures

pub extent-returns-in_ok-b-in-Contextual : goal.extent-returns-in_ok-b-in-Contextual
extent-returns-in_ok-b-in-Contextual t c =
    binary-shape (seen_in c.args.design.now c.args.state.now) _ _ _ _ _ _ _ _ _ _ _ c.in-Binary.is c.get-in-Contextual.ensures c.get-in-Contextual-2.ensures (sym c.in-Contextual.is ∙ c.family.ensures)
    c.in_ok-a-in-Contextual.ensures c.in_ok-b-in-Contextual.ensures c.common.ensures

pub extent-returns-in-Compared : goal.extent-returns-in-Compared
extent-returns-in-Compared t c =
    let names = seen_in c.args.design.now c.args.state.now in
    let here : (f : Family) → c.family.result ≡ f → shape_of c.unsigned-in-Compared.result ≡ shape_in f (valued names c.in-Binary.left).shape (valued names c.in-Binary.right).shape → shape_of c.unsigned-in-Compared.result ≡ (valued names c.args.e.now).shape =
    λ f is result. binary-shape names _ _ _ _ _ _ _ f _ _ _ c.in-Binary.is refl refl (sym is ∙ c.family.ensures) refl refl result in
    ⊎_elim (λ is. here Compared is c.unsigned-in-Compared.ensures) (λ is. here Alone is c.unsigned-in-Compared.ensures) c.in-Compared.is

pub extent-returns-in-Leading : goal.extent-returns-in-Leading
extent-returns-in-Leading t c =
    subst (λ (z : Shape). IfOk c.extent-in-Leading.result (λ x. shape_of x ≡ z))
    (binary-shape (seen_in c.args.design.now c.args.state.now) _ _ _ _ c.in-Binary.right _ _ _ _ _ _ c.in-Binary.is c.get-in-Leading.ensures refl (sym c.in-Leading.is ∙ c.family.ensures) refl refl refl)
    c.extent-in-Leading.ensures

pub joined_width-loop-member-preserved : goal.joined_width-loop-member-preserved
joined_width-loop-member-preserved t c =
    wider (valued (seen_in c.args.design.now c.args.state.now)) c.args.members.now c.loop-member.member-index c.member-item.result c.loop-member.width _ _ _
    (omega arith) c.member-item.is (ap (λ (s : Shape). s.width) c.in-Ok.ensures) c.in-Ok-possible.ensures.value c.loop-member.invariant

pub joined_width-returns : goal.joined_width-returns
joined_width-returns t c = record { value = wide (valued (seen_in c.args.design.now c.args.state.now)) c.args.members.now c.loop-member.member-index c.loop-member.width _ (omega arith) c.loop-member.invariant }

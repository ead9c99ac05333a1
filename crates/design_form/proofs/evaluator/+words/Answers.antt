use Rattle.std.proofs.Common.{◌≡◌, ◌-◌, List, IfOk, refl, sym, ap, subst, ◌∙◌, arith}
use Rattle.rdc_tern.specs.declared.value.Tern.{Tern}
use Rattle.vlog_tree.specs.declared.expr.Part.{Part}
use Rattle.vlog_tree.specs.declared.expr.Part.TheVariants.{Fixed}
use Rattle.design_form.specs.Bits.{extended}
use Rattle.design_form.specs.Extents.{shape_of, view_of}
use Rattle.design_form.specs.Selects.{Seen}
use Rattle.design_form.specs.State.{seen_in}
use Rattle.design_form.specs.Values.{Valued, valued, select_word}
use Rattle.design_form.proofs.WordForms.{index-form, select-form, concat-form, repeat-form, of-one, unary-form, computed-word, binary-word, choice-word, longer, none, alike-words, equal-words}
use Rattle.design_form.proofs.evaluator.+words.Goals as goal

pub joined-loop-left-init : goal.joined-loop-left-init
joined-loop-left-init t c = (none (valued (seen_in c.args.design.now c.args.state.now)) c.args.members.now c.new-all.result.items c.new-all.ensures.items, omega arith)

pub joined-loop-left-preserved : goal.joined-loop-left-preserved
joined-loop-left-preserved t c = (
  longer (valued (seen_in c.args.design.now c.args.state.now)) c.args.members.now (c.loop-left.left - 1) c.loop-left.left c.index-members-left.result c.loop-left.all.items c.in-Ok.bits.items c.append.new.self.items
      (omega arith) (omega arith) c.index-members-left.is c.in-Ok.ensures c.in-Ok-append.ensures.items c.loop-left.invariant.0,
  omega arith,
)

pub select-returns-in-Fixed : goal.select-returns-in-Fixed
select-returns-in-Fixed t c =
    let v = valued (seen_in c.args.design.now c.args.state.now) c.args.first.now in
    subst (λ (z : List Tern). IfOk c.extended.result (λ w. w.items ≡ extended (shape_of c.args.context) z))
    (c.in_ok-bits-in-Fixed.ensures v ∙ ap (λ (u : Seen). select_word u Fixed c.args.first.now v c.args.second.now) c.in_ok-view.ensures
    ∙ sym (ap (λ (how : Part). select_word (seen_in c.args.design.now c.args.state.now c.args.name.now) how c.args.first.now v c.args.second.now) c.in-Fixed.is))
    c.extended.ensures

pub word-returns-in-Index : goal.word-returns-in-Index
word-returns-in-Index t c =
    subst (λ (z : List Tern). IfOk c.index.result (λ w. w.items ≡ z))
    (index-form (seen_in c.args.design.now c.args.state.now) _ _ _ _ _ _ (shape_of c.args.context) c.in-Index.is c.get.ensures c.as_slice-in-Index.ensures)
    c.index.ensures

pub word-returns-in-Select : goal.word-returns-in-Select
word-returns-in-Select t c =
    subst (λ (z : List Tern). IfOk c.select.result (λ w. w.items ≡ z))
    (select-form (seen_in c.args.design.now c.args.state.now) _ _ _ _ _ _ _ _ _ (shape_of c.args.context) c.in-Select.is c.get-first.ensures c.get-second.ensures c.as_slice-name.ensures)
    c.select.ensures

pub word-returns-in-Concat : goal.word-returns-in-Concat
word-returns-in-Concat t c =
    subst (λ (z : List Tern). IfOk c.concat.result (λ w. w.items ≡ z))
    (concat-form (seen_in c.args.design.now c.args.state.now) _ _ _ _ (shape_of c.args.context) c.in-Concat.is c.as_slice-in-Concat.ensures)
    c.concat.ensures

pub word-returns-in-Repeat : goal.word-returns-in-Repeat
word-returns-in-Repeat t c =
    subst (λ (z : List Tern). IfOk c.repeat.result (λ w. w.items ≡ z))
    (repeat-form (seen_in c.args.design.now c.args.state.now) _ _ _ _ _ _ (shape_of c.args.context) c.in-Repeat.is c.get-in-Repeat.ensures c.as_slice-in-Repeat.ensures)
    c.repeat.ensures

pub word-returns-in-Unary : goal.word-returns-in-Unary
word-returns-in-Unary t c =
    subst (λ (z : List Tern). IfOk c.unary.result (λ w. w.items ≡ z))
    (unary-form (seen_in c.args.design.now c.args.state.now) _ _ _ _ _ (shape_of c.args.context) c.in-Unary.is c.get-in-Unary.ensures)
    c.unary.ensures

pub word-returns-then-is_computed : goal.word-returns-then-is_computed
word-returns-then-is_computed t c =
    subst (λ (z : List Tern). IfOk c.word-then-is_computed.result (λ w. w.items ≡ z))
    (computed-word (seen_in c.args.design.now c.args.state.now) _ _ _ _ _ (shape_of c.args.context) _ c.in-Binary.is (sym c.is_computed.ensures ∙ c.if-is_computed.true) refl)
    c.word-then-is_computed.ensures

pub word-between-requires : goal.word-between-requires
word-between-requires t c =
    alike-words (seen_in c.args.design.now c.args.state.now) _ _ _ _ _ _ _ _ _ _ c.in_ok-sides-in-Binary.ensures.left c.in_ok-sides-in-Binary.ensures.right c.in_ok-x-in-Binary.ensures c.in_ok-y-in-Binary.ensures

pub word-returns-in_ok-y-in-Binary : goal.word-returns-in_ok-y-in-Binary
word-returns-in_ok-y-in-Binary t c =
    subst (λ (z : List Tern). IfOk c.between.result (λ w. w.items ≡ z))
    (binary-word (seen_in c.args.design.now c.args.state.now) _ _ _ _ _ _ _ _ _ _ (shape_of c.args.context) _ _ _ c.in-Binary.is (sym c.is_computed.ensures ∙ c.if-is_computed.false) c.get-left.ensures c.get-right.ensures
    c.in_ok-sides-in-Binary.ensures.left c.in_ok-sides-in-Binary.ensures.right c.in_ok-sides-in-Binary.ensures.signed c.in_ok-x-in-Binary.ensures c.in_ok-y-in-Binary.ensures refl)
    c.between.ensures

pub word-chosen-requires : goal.word-chosen-requires
word-chosen-requires t c =
    equal-words (seen_in c.args.design.now c.args.state.now) _ _ (shape_of c.args.context) _ _ (c.deref-in-Conditional.ensures.value ∙ c.in_ok-x-in-Conditional.ensures) (c.deref-in-Conditional-2.ensures.value ∙ c.in_ok-y-in-Conditional.ensures)

pub word-returns-in_ok-y-in-Conditional : goal.word-returns-in_ok-y-in-Conditional
word-returns-in_ok-y-in-Conditional t c =
    subst (λ (z : List Tern). IfOk c.chosen.result (λ w. w.items ≡ z))
    (choice-word (seen_in c.args.design.now c.args.state.now) _ _ _ _ _ _ _ _ (shape_of c.args.context) _ _ _ _ _ c.in-Conditional.is c.get-in-Conditional.ensures c.get-in-Conditional-2.ensures c.get-in-Conditional-3.ensures
    (c.deref.ensures.value ∙ c.in_ok-test-in-Conditional.ensures) c.any.ensures (c.deref-in-Conditional.ensures.value ∙ c.in_ok-x-in-Conditional.ensures) (c.deref-in-Conditional-2.ensures.value ∙ c.in_ok-y-in-Conditional.ensures) refl)
    c.chosen.ensures

use Rattle.std.proofs.Common.{◌≡◌, ◌<◌, ◌+◌, ℕ, false, List, length, map, drop, reverse, le_trans, Option, IfOk, ap, subst, ◌∙◌, refl, sym, arith}
use Rattle.std.proofs.lemmas.List.Elements.{All-nil, All-append}
use Rattle.vlog_const.specs.declared.shape.Shape.{Shape}
use Rattle.vlog_const.specs.declared.answer.ConstValue.{ConstValue}
use Rattle.vlog_const.specs.Names.{no_values}
use Rattle.vlog_const.specs.Constants.{value_in}
use Rattle.vlog_const.specs.Widths.{unary_context}
use Rattle.vlog_tree.specs.declared.expr.Part.TheVariants.{Down, Fixed}
use Rattle.design_form.specs.Extents.{shape_of}
use Rattle.design_form.specs.Values.{count_alone}
use Rattle.net_words.specs.Builds.{AreThere, ◌>>=◌}
use Rattle.net_words.proofs.BuildLemmas.{IsLeft, all_left, next, fault, last, done}
use Rattle.net_words.proofs.WordSteps.{still_there}
use Rattle.net_exprs.specs.Constants.{IsValue}
use Rattle.net_exprs.specs.Extensions.{extended, copies}
use Rattle.net_exprs.specs.Operators.{before}
use Rattle.net_exprs.specs.Selects.{picked_of}
use Rattle.net_exprs.specs.Names.{wired_in}
use Rattle.net_exprs.specs.Views.{view_of}
use Rattle.net_exprs.specs.Lowered.{lowered, gates_word, choice_word, joined, picked_by}
use Rattle.net_exprs.proofs.LoweringSteps.{of_value, of_form, sides_alike, unary_fits, joined_first, joined_here, joined_whole, turned, number_form, name_form, index_form, select_form, brackets_form, concat_form, repeat_form, unary_form, computed_form, binary_form, choice_form}
use Rattle.net_exprs.proofs.ValueSteps.{value_tells}
use Rattle.net_exprs.proofs.Rows.{under}
use Rattle.net_exprs.proofs.BitSteps.{copies_there}
use Rattle.net_exprs.proofs.Transport.{same_build, in_shape, in_view, moving, repeat_first}
use Rattle.net_exprs.proofs.lowering.+gates.Goals as goal

pub binary-returns-in_err-x-clause-builds : goal.binary-returns-in_err-x-clause-builds
unfolding gates_word
binary-returns-in_err-x-clause-builds t c =
    let names = wired_in c.args.design.now c.args.nodes.now in
    let l = lowered names c.args.left.now in
    let r = lowered names c.args.right.now in
    fault _ _ (all_left (gates_word c.args.op l r (shape_of c.args.context)) c.args.net.now) (in_shape l _ _ (c.in_ok-sides.ensures.left c.args.nodes.now) c.in_err-x.ensures.builds) c.from_residual-in_err-x.ensures

pub binary-returns-in_err-y-clause-builds : goal.binary-returns-in_err-y-clause-builds
unfolding gates_word
binary-returns-in_err-y-clause-builds t c =
    let names = wired_in c.args.design.now c.args.nodes.now in
    let l = lowered names c.args.left.now in
    let r = lowered names c.args.right.now in
    fault _ _
    (next _ _ (all_left (gates_word c.args.op l r (shape_of c.args.context)) c.args.net.now) (in_shape l _ _ (c.in_ok-sides.ensures.left c.args.nodes.now) c.in_ok-x.ensures.builds))
    (in_shape r _ _ (c.in_ok-sides.ensures.right c.args.nodes.now) c.in_err-y.ensures.builds) c.from_residual-in_err-y.ensures

pub binary-between-requires-clause-alike : goal.binary-between-requires-clause-alike
binary-between-requires-clause-alike t c =
    let names = wired_in c.args.design.now c.args.nodes.now in
    sides_alike c.args.op (lowered names c.args.left.now).shape (lowered names c.args.right.now).shape (shape_of c.args.context) c.in_ok-x.x.items c.in_ok-y.y.items
    (c.in_ok-x.ensures.width ∙ ap (λ (s : Shape). s.width) (c.in_ok-sides.ensures.left c.args.nodes.now)) (c.in_ok-y.ensures.width ∙ ap (λ (s : Shape). s.width) (c.in_ok-sides.ensures.right c.args.nodes.now))

pub binary-returns-clause-builds : goal.binary-returns-clause-builds
unfolding gates_word
binary-returns-clause-builds t c =
    let names = wired_in c.args.design.now c.args.nodes.now in
    let l = lowered names c.args.left.now in
    let r = lowered names c.args.right.now in
    last
    (next _ _
    (next _ _ (all_left (gates_word c.args.op l r (shape_of c.args.context)) c.args.net.now) (in_shape l _ _ (c.in_ok-sides.ensures.left c.args.nodes.now) c.in_ok-x.ensures.builds))
    (in_shape r _ _ (c.in_ok-sides.ensures.right c.args.nodes.now) c.in_ok-y.ensures.builds))
    (same_build _ _ (c.in_ok-signed.ensures.signed c.args.nodes.now (shape_of c.args.context) c.in_ok-x.x.items c.in_ok-y.y.items) c.between.ensures.builds)

pub choice-returns-in_err-test-clause-builds : goal.choice-returns-in_err-test-clause-builds
unfolding choice_word
choice-returns-in_err-test-clause-builds t c =
    let names = wired_in c.args.design.now c.args.nodes.now in
    fault _ _ (all_left (choice_word (lowered names c.args.test.now) (lowered names c.args.left.now) (lowered names c.args.right.now) (shape_of c.args.context)) c.args.net.now) c.in_err-test.ensures.builds c.from_residual.ensures

pub choice-returns-in_err-selection-clause-builds : goal.choice-returns-in_err-selection-clause-builds
unfolding choice_word
choice-returns-in_err-selection-clause-builds t c =
    let names = wired_in c.args.design.now c.args.nodes.now in
    fault _ _
    (next _ _ (all_left (choice_word (lowered names c.args.test.now) (lowered names c.args.left.now) (lowered names c.args.right.now) (shape_of c.args.context)) c.args.net.now) c.in_ok-test.ensures.builds)
    (rw c.as_slice.ensures.value at c.in_err-selection.ensures.builds) c.from_residual-in_err-selection.ensures

pub choice-returns-in_err-x-clause-builds : goal.choice-returns-in_err-x-clause-builds
unfolding choice_word
choice-returns-in_err-x-clause-builds t c =
    let names = wired_in c.args.design.now c.args.nodes.now in
    fault _ _
    (next _ _
    (next _ _ (all_left (choice_word (lowered names c.args.test.now) (lowered names c.args.left.now) (lowered names c.args.right.now) (shape_of c.args.context)) c.args.net.now) c.in_ok-test.ensures.builds)
    (rw c.as_slice.ensures.value at c.in_ok-selection.ensures.builds))
    c.in_err-x.ensures.builds c.from_residual-in_err-x.ensures

pub choice-returns-in_err-y-clause-builds : goal.choice-returns-in_err-y-clause-builds
unfolding choice_word
choice-returns-in_err-y-clause-builds t c =
    let names = wired_in c.args.design.now c.args.nodes.now in
    fault _ _
    (next _ _
    (next _ _
    (next _ _ (all_left (choice_word (lowered names c.args.test.now) (lowered names c.args.left.now) (lowered names c.args.right.now) (shape_of c.args.context)) c.args.net.now) c.in_ok-test.ensures.builds)
    (rw c.as_slice.ensures.value at c.in_ok-selection.ensures.builds))
    c.in_ok-x.ensures.builds)
    c.in_err-y.ensures.builds c.from_residual-in_err-y.ensures

pub choice-returns-clause-builds : goal.choice-returns-clause-builds
unfolding choice_word
choice-returns-clause-builds t c =
    let names = wired_in c.args.design.now c.args.nodes.now in
    last
    (next _ _
    (next _ _
    (next _ _
    (next _ _ (all_left (choice_word (lowered names c.args.test.now) (lowered names c.args.left.now) (lowered names c.args.right.now) (shape_of c.args.context)) c.args.net.now) c.in_ok-test.ensures.builds)
    (rw c.as_slice.ensures.value at c.in_ok-selection.ensures.builds))
    c.in_ok-x.ensures.builds)
    c.in_ok-y.ensures.builds)
    (rw (c.as_slice-2.ensures.value, c.as_slice-3.ensures.value) at c.select.ensures.builds)

pub concat-returns-in_err-word-clause-builds : goal.concat-returns-in_err-word-clause-builds
concat-returns-in_err-word-clause-builds t c =
    fault _ _ (all_left (joined (map (lowered (wired_in c.args.design.now c.args.nodes.now)) c.args.members.now) >>= extended (shape_of c.args.context)) c.args.net.now) c.in_err-word.ensures.builds c.from_residual.ensures

pub concat-returns-clause-builds : goal.concat-returns-clause-builds
concat-returns-clause-builds t c =
    last (next _ _ (all_left (joined (map (lowered (wired_in c.args.design.now c.args.nodes.now)) c.args.members.now) >>= extended (shape_of c.args.context)) c.args.net.now) c.in_ok-word.ensures.builds) c.extended.ensures.builds

pub unary-returns-in_err-operand-clause-builds : goal.unary-returns-in_err-operand-clause-builds
unary-returns-in_err-operand-clause-builds t c =
    let a = lowered (wired_in c.args.design.now c.args.nodes.now) c.args.inner.now in
    fault _ _ (all_left (a.word (unary_context c.args.op a.shape (shape_of c.args.context)) >>= before c.args.op (shape_of c.args.context)) c.args.net.now)
    (in_shape a _ _ (c.in_ok-within.ensures.shape c.args.nodes.now) c.in_err-operand.ensures.builds) c.from_residual-in_err-operand.ensures

pub unary-prefixed-requires-clause-fits : goal.unary-prefixed-requires-clause-fits
unary-prefixed-requires-clause-fits t c =
    unary_fits c.args.op (lowered (wired_in c.args.design.now c.args.nodes.now) c.args.inner.now).shape (shape_of c.args.context) c.in_ok-operand.operand.items
    (c.in_ok-operand.ensures.width ∙ ap (λ (s : Shape). s.width) (c.in_ok-within.ensures.shape c.args.nodes.now))

pub unary-returns-clause-builds : goal.unary-returns-clause-builds
unary-returns-clause-builds t c =
    let a = lowered (wired_in c.args.design.now c.args.nodes.now) c.args.inner.now in
    last
    (next _ _ (all_left (a.word (unary_context c.args.op a.shape (shape_of c.args.context)) >>= before c.args.op (shape_of c.args.context)) c.args.net.now)
    (in_shape a _ _ (c.in_ok-within.ensures.shape c.args.nodes.now) c.in_ok-operand.ensures.builds)) c.prefixed.ensures.builds

pub index-returns-in_err-bit-clause-builds : goal.index-returns-in_err-bit-clause-builds
index-returns-in_err-bit-clause-builds t c =
    let names = wired_in c.args.design.now c.args.nodes.now in
    let a = lowered names c.args.at.now in
    fault _ _ (all_left (picked_by Down (names c.args.name.now) 1 a >>= extended (shape_of c.args.context)) c.args.net.now)
    (same_build _ (picked_by Down (names c.args.name.now) 1 a) (ap (λ v. picked_by Down v 1 a) c.in_ok-view.ensures.view) c.in_err-bit.ensures.builds) c.from_residual-in_err-bit.ensures

pub index-returns-clause-builds : goal.index-returns-clause-builds
index-returns-clause-builds t c =
    let names = wired_in c.args.design.now c.args.nodes.now in
    let a = lowered names c.args.at.now in
    last
    (next _ _ (all_left (picked_by Down (names c.args.name.now) 1 a >>= extended (shape_of c.args.context)) c.args.net.now)
    (same_build _ (picked_by Down (names c.args.name.now) 1 a) (ap (λ v. picked_by Down v 1 a) c.in_ok-view.ensures.view) c.in_ok-bit.ensures.builds)) c.extended.ensures.builds

pub picked_by-returns-in_err-at-clause-builds : goal.picked_by-returns-in_err-at-clause-builds
unfolding picked_by
picked_by-returns-in_err-at-clause-builds t c =
    let a = lowered (wired_in c.args.design.now c.args.nodes.now) c.args.at.now in
    fault _ _ (all_left (picked_by c.args.part (view_of c.args.view.now) c.args.width a) c.args.net.now) (in_shape a _ _ (c.in_ok-a.ensures.shape c.args.nodes.now) c.in_err-at.ensures.builds) c.from_residual-in_err-at.ensures

pub picked_by-returns-clause-builds : goal.picked_by-returns-clause-builds
unfolding picked_by
picked_by-returns-clause-builds t c =
    let a = lowered (wired_in c.args.design.now c.args.nodes.now) c.args.at.now in
    let v = view_of c.args.view.now in
    last (next _ _ (all_left (picked_by c.args.part v c.args.width a) c.args.net.now) (in_shape a _ _ (c.in_ok-a.ensures.shape c.args.nodes.now) c.in_ok-at.ensures.builds))
    (same_build _ _ (ap (λ (s : Shape). picked_of c.args.part v.range v.nodes c.args.width s c.in_ok-at.at.items) (c.in_ok-a.ensures.shape c.args.nodes.now))
    (rw (c.as_slice.ensures.value, c.as_slice-2.ensures.value) at c.picked.ensures.builds))

pub lower-returns-in-Some-clause-builds : goal.lower-returns-in-Some-clause-builds
lower-returns-in-Some-clause-builds t c =
    let names = wired_in c.args.design.now c.args.nodes.now in
    same_build _ _ (sym (of_value names c.args.e.now (shape_of c.args.context) c.in-Some.value (subst (λ (o : Option ConstValue). IsValue o (value_in no_values (shape_of c.args.context) c.args.e.now)) c.in-Some.is c.in_ok-value.ensures.value))) c.constant.ensures.builds

pub lower-returns-in-Some-clause-width : goal.lower-returns-in-Some-clause-width
lower-returns-in-Some-clause-width t c =
    subst (λ (n : ℕ). IfOk c.constant.result (λ w. length w.items ≡ n))
    (value_tells (shape_of c.args.context) c.args.e.now c.in-Some.value (subst (λ (o : Option ConstValue). IsValue o (value_in no_values (shape_of c.args.context) c.args.e.now)) c.in-Some.is c.in_ok-value.ensures.value)).0
    c.constant.ensures.width

pub lower-returns-in-None-clause-builds : goal.lower-returns-in-None-clause-builds
lower-returns-in-None-clause-builds t c =
    let names = wired_in c.args.design.now c.args.nodes.now in
    same_build _ _ (sym (of_form names c.args.e.now (shape_of c.args.context) (subst (λ (o : Option ConstValue). IsValue o (value_in no_values (shape_of c.args.context) c.args.e.now)) c.in-None.is c.in_ok-value.ensures.value))) c.formed.ensures.builds

pub lower_alone-returns-clause-builds : goal.lower_alone-returns-clause-builds
lower_alone-returns-clause-builds t c = in_shape (lowered (wired_in c.args.design.now c.args.nodes.now) c.args.e.now) _ _ (c.in_ok-context.ensures.shape c.args.nodes.now) c.lower.ensures.builds

pub part_from-returns-in_err-bits-clause-builds : goal.part_from-returns-in_err-bits-clause-builds
part_from-returns-in_err-bits-clause-builds t c =
    let names = wired_in c.args.design.now c.args.nodes.now in
    let v = names c.args.name.now in
    let a = lowered names c.args.first.now in
    same_build _ _ (ap (λ b. b >>= extended (shape_of c.args.context)) (moving v c.args.part c.args.first.now c.args.second.now a c.requires.moving))
    (fault _ _ (all_left (picked_by c.args.part v (count_alone c.args.second.now) a >>= extended (shape_of c.args.context)) c.args.net.now)
    (in_view c.args.part _ v _ (count_alone c.args.second.now) a c.in_ok-view.ensures.view (c.in_ok-width.ensures.value ∙ c.in_ok-count.ensures.value) c.in_err-bits.ensures.builds) c.from_residual-in_err-bits.ensures)

pub part_from-returns-clause-builds : goal.part_from-returns-clause-builds
part_from-returns-clause-builds t c =
    let names = wired_in c.args.design.now c.args.nodes.now in
    let v = names c.args.name.now in
    let a = lowered names c.args.first.now in
    same_build _ _ (ap (λ b. b >>= extended (shape_of c.args.context)) (moving v c.args.part c.args.first.now c.args.second.now a c.requires.moving))
    (last
    (next _ _ (all_left (picked_by c.args.part v (count_alone c.args.second.now) a >>= extended (shape_of c.args.context)) c.args.net.now)
    (in_view c.args.part _ v _ (count_alone c.args.second.now) a c.in_ok-view.ensures.view (c.in_ok-width.ensures.value ∙ c.in_ok-count.ensures.value) c.in_ok-bits.ensures.builds)) c.extended.ensures.builds)

pub joined-loop-member-init : goal.joined-loop-member-init
joined-loop-member-init t c = record {
  left = joined_first (lowered (wired_in c.args.design.now c.args.nodes.now)) c.args.members.now c.args.net.now c.new-all.result.items c.new-all.ensures.items;
  there = subst (λ (w : List ℕ). AreThere c.args.net.now (reverse w)) (sym c.new-all.ensures.items) (All-nil (λ n. n < length c.args.net.now));
  longer = omega arith;
}

pub formed-returns-in-Number-clause-builds : goal.formed-returns-in-Number-clause-builds
formed-returns-in-Number-clause-builds t c =
    let names = wired_in c.args.design.now c.args.nodes.now in
    same_build _ _ (number_form names c.args.e.now _ _ c.get-n.result.now false (shape_of c.args.context) c.in-Number.is c.get-n.ensures) c.number_word.ensures.builds

pub formed-returns-in-Name-clause-builds : goal.formed-returns-in-Name-clause-builds
formed-returns-in-Name-clause-builds t c =
    let names = wired_in c.args.design.now c.args.nodes.now in
    same_build _ _ (name_form names c.args.e.now _ _ _ (shape_of c.args.context) c.in-Name.is c.as_slice.ensures) c.named.ensures.builds

pub formed-returns-in-Index-clause-builds : goal.formed-returns-in-Index-clause-builds
formed-returns-in-Index-clause-builds t c =
    let names = wired_in c.args.design.now c.args.nodes.now in
    same_build _ _ (index_form names c.args.e.now _ _ _ _ _ (shape_of c.args.context) c.in-Index.is c.get-at.ensures c.as_slice-in-Index.ensures) c.index.ensures.builds

pub formed-returns-in-Fixed-clause-builds : goal.formed-returns-in-Fixed-clause-builds
formed-returns-in-Fixed-clause-builds t c =
    let names = wired_in c.args.design.now c.args.nodes.now in
    same_build _ _ (select_form names c.args.e.now _ _ _ _ _ _ _ _ Fixed (shape_of c.args.context) c.in-Select.is c.get-first.ensures c.get-second.ensures c.as_slice-name.ensures (sym c.in-Fixed.is)) c.fixed_part.ensures.builds

pub formed-returns-in-Up-clause-builds : goal.formed-returns-in-Up-clause-builds
formed-returns-in-Up-clause-builds t c =
    let names = wired_in c.args.design.now c.args.nodes.now in
    same_build _ _ (select_form names c.args.e.now _ _ _ _ _ _ _ _ _ (shape_of c.args.context) c.in-Select.is c.get-first.ensures c.get-second.ensures c.as_slice-name.ensures refl) c.part_from.ensures.builds

pub formed-returns-in-Brackets-clause-builds : goal.formed-returns-in-Brackets-clause-builds
formed-returns-in-Brackets-clause-builds t c =
    let names = wired_in c.args.design.now c.args.nodes.now in
    same_build _ _ (brackets_form names c.args.e.now _ _ _ (shape_of c.args.context) c.in-Brackets.is c.get.ensures) c.lower.ensures.builds

pub formed-returns-in-Concat-clause-builds : goal.formed-returns-in-Concat-clause-builds
formed-returns-in-Concat-clause-builds t c =
    let names = wired_in c.args.design.now c.args.nodes.now in
    same_build _ _ (concat_form names c.args.e.now _ _ _ (shape_of c.args.context) c.in-Concat.is c.as_slice-members.ensures) c.concat.ensures.builds

pub formed-returns-in-Repeat-clause-builds : goal.formed-returns-in-Repeat-clause-builds
formed-returns-in-Repeat-clause-builds t c =
    let names = wired_in c.args.design.now c.args.nodes.now in
    same_build _ _ (repeat_form names c.args.e.now _ _ _ _ _ (shape_of c.args.context) c.in-Repeat.is c.get-n-in-Repeat.ensures c.as_slice-members-in-Repeat.ensures) c.repeat.ensures.builds

pub formed-returns-in-Unary-clause-builds : goal.formed-returns-in-Unary-clause-builds
formed-returns-in-Unary-clause-builds t c =
    let names = wired_in c.args.design.now c.args.nodes.now in
    same_build _ _ (unary_form names c.args.e.now _ _ _ _ (shape_of c.args.context) c.in-Unary.is c.get-in-Unary.ensures) c.unary.ensures.builds

pub formed-returns-then-is_computed-clause-builds : goal.formed-returns-then-is_computed-clause-builds
formed-returns-then-is_computed-clause-builds t c =
    let names = wired_in c.args.design.now c.args.nodes.now in
    same_build _ _ (computed_form names c.args.e.now _ _ _ _ (shape_of c.args.context) c.in-Binary.is (sym c.is_computed.ensures ∙ c.if-is_computed.true)) c.computed.ensures.builds

pub formed-returns-else-is_computed-clause-builds : goal.formed-returns-else-is_computed-clause-builds
formed-returns-else-is_computed-clause-builds t c =
    let names = wired_in c.args.design.now c.args.nodes.now in
    same_build _ _ (binary_form names c.args.e.now _ _ _ _ _ _ (shape_of c.args.context) c.in-Binary.is (sym c.is_computed.ensures ∙ c.if-is_computed.false) c.get-left.ensures c.get-right.ensures) c.binary.ensures.builds

pub formed-returns-in-Conditional-clause-builds : goal.formed-returns-in-Conditional-clause-builds
formed-returns-in-Conditional-clause-builds t c =
    let names = wired_in c.args.design.now c.args.nodes.now in
    same_build _ _ (choice_form names c.args.e.now _ _ _ _ _ _ _ (shape_of c.args.context) c.in-Conditional.is c.get-test.ensures c.get-left-in-Conditional.ensures c.get-right-in-Conditional.ensures) c.choice.ensures.builds

pub joined-returns-in-Err-clause-builds : goal.joined-returns-in-Err-clause-builds
joined-returns-in-Err-clause-builds t c =
    fault _ _
    (joined_here (lowered (wired_in c.args.design.now c.args.nodes.now)) c.args.members.now c.loop-member.member-index c.member-item.result (reverse c.loop-member.all.items) (omega arith) c.member-item.is c.loop-member.invariant.left)
    c.in-Err.ensures.builds (refl, refl)

pub joined-loop-member-preserved : goal.joined-loop-member-preserved
joined-loop-member-preserved t c =
    let f = lowered (wired_in c.args.design.now c.args.nodes.now) in
    let i = c.loop-member.member-index in
    let same = sym (turned c.loop-member.all.items c.in-Ok.bits.items c.reverse.new.self.items c.append.new.self.items c.reverse.ensures.items c.in-Ok-append.ensures.items) in
    record {
      left =
          subst (λ (w : List ℕ). IsLeft (joined (map f c.args.members.now)) c.args.net.now c.lower_alone.new.net (under w (joined (map f (drop (i + 1) c.args.members.now))))) same
          (next _ _ (joined_here f c.args.members.now i c.member-item.result (reverse c.loop-member.all.items) (omega arith) c.member-item.is c.loop-member.invariant.left) c.in-Ok.ensures.builds);
      there =
          subst (λ (w : List ℕ). AreThere c.lower_alone.new.net w) same
          (All-append (λ n. n < length c.lower_alone.new.net) c.in-Ok.bits.items (reverse c.loop-member.all.items) c.in-Ok.ensures.inside
          (still_there c.loop-member.net c.lower_alone.new.net (reverse c.loop-member.all.items) c.loop-member.invariant.there c.in-Ok.ensures.longer));
      longer = le_trans c.loop-member.invariant.longer c.in-Ok.ensures.longer;
    }

pub joined-returns-clause-builds : goal.joined-returns-clause-builds
joined-returns-clause-builds t c =
    done (λ w. w.items) _
    (rw c.reverse-2.ensures.items (joined_whole (lowered (wired_in c.args.design.now c.args.nodes.now)) c.args.members.now c.loop-member.member-index (reverse c.loop-member.all.items) (omega arith) c.loop-member.invariant.left))

pub repeat-returns-in_err-word-clause-builds : goal.repeat-returns-in_err-word-clause-builds
repeat-returns-in_err-word-clause-builds t c =
    let ms = map (lowered (wired_in c.args.design.now c.args.nodes.now)) c.args.members.now in
    fault _ _ (repeat_first (count_alone c.args.number.now) ms (shape_of c.args.context) c.args.net.now) c.in_err-word.ensures.builds c.from_residual-in_err-word.ensures

pub repeat-extended-requires : goal.repeat-extended-requires
repeat-extended-requires t c =
    subst (λ (w : List ℕ). AreThere c.joined.new.net w) (sym (rw c.as_slice.ensures.value at c.in_ok-all.ensures.items))
    (copies_there c.in_ok-number.number c.in_ok-word.word.items (length c.joined.new.net) c.in_ok-word.ensures.inside)

pub repeat-returns-clause-builds : goal.repeat-returns-clause-builds
repeat-returns-clause-builds t c =
    let ms = map (lowered (wired_in c.args.design.now c.args.nodes.now)) c.args.members.now in
    let copied = (rw c.as_slice.ensures.value at c.in_ok-all.ensures.items) ∙ ap (λ (n : ℕ). copies n c.in_ok-word.word.items) c.in_ok-number.ensures.value in
    last (next _ _ (repeat_first (count_alone c.args.number.now) ms (shape_of c.args.context) c.args.net.now) c.in_ok-word.ensures.builds)
    (same_build _ _ (ap (extended (shape_of c.args.context)) copied) c.extended.ensures.builds)

pub binary-lower-requires : goal.binary-lower-requires
binary-lower-requires t c = (omega (arith, c.decreases), (c.requires.has, c.requires.nodes))

pub binary-lower-requires-2 : goal.binary-lower-requires-2
binary-lower-requires-2 t c = (omega (arith, c.decreases), (c.requires.has, still_there c.args.net.now c.lower.new.net c.args.nodes.now c.requires.nodes c.in_ok-x.ensures.longer))

pub choice-lower_alone-requires : goal.choice-lower_alone-requires
choice-lower_alone-requires t c = (omega (arith, c.decreases), (c.requires.has, c.requires.nodes))

pub choice-lower-requires : goal.choice-lower-requires
choice-lower-requires t c = (
  omega (arith, c.decreases),
  (
    c.requires.has,
    still_there c.lower_alone.new.net c.any.new.net c.args.nodes.now (still_there c.args.net.now c.lower_alone.new.net c.args.nodes.now c.requires.nodes c.in_ok-test.ensures.longer) c.in_ok-selection.ensures.longer,
  ),
)

pub choice-lower-requires-2 : goal.choice-lower-requires-2
choice-lower-requires-2 t c = (
  omega (arith, c.decreases),
  (
    c.requires.has,
    still_there c.any.new.net c.lower.new.net c.args.nodes.now
        (still_there c.lower_alone.new.net c.any.new.net c.args.nodes.now (still_there c.args.net.now c.lower_alone.new.net c.args.nodes.now c.requires.nodes c.in_ok-test.ensures.longer) c.in_ok-selection.ensures.longer)
        c.in_ok-x.ensures.longer,
  ),
)

pub repeat-joined-requires : goal.repeat-joined-requires
repeat-joined-requires t c = (omega (arith, c.decreases), (c.requires.has, c.requires.nodes))

use Rattle.std.proofs.Common.{◌∙◌}
use Rattle.vlog_const.specs.Names.{values_of}
use Rattle.proc_loops.proofs.WrittenChoices.{renamed, name-some, name-none, index-some, index-none, select-some, select-none, repeat-form, binary-form, choice-form}
use Rattle.proc_loops.proofs.writing.+writing.Goals as goal

pub written-returns-in-Some : goal.written-returns-in-Some
written-returns-in-Some t c =
    renamed c.as_number.result _ _ (name-some (values_of c.args.env.now) _ _ _ _ _ c.in-Name.is c.in_ok-v-in-Name.ensures c.in-Some.is) c.as_number.ensures

pub written-returns-in_ok-from_slice-in-None : goal.written-returns-in_ok-from_slice-in-None
written-returns-in_ok-from_slice-in-None t c =
    name-none (values_of c.args.env.now) _ _ _ _ _ c.in-Name.is c.in_ok-v-in-Name.ensures c.in-None.is (c.in_ok-from_slice-in-None.ensures ∙ c.as_slice.ensures)

pub written-returns-in-Some-2 : goal.written-returns-in-Some-2
written-returns-in-Some-2 t c =
    renamed c.as_number-in-Some-2.result _ _ (index-some (values_of c.args.env.now) _ _ _ _ _ _ c.in-Index.is c.in_ok-v-in-Index.ensures c.in-Some-2.is) c.as_number-in-Some-2.ensures

pub written-returns-in-None-2 : goal.written-returns-in-None-2
written-returns-in-None-2 t c =
    renamed c.index.result _ _ (index-none (values_of c.args.env.now) _ _ _ _ _ _ _ c.in-Index.is c.in_ok-v-in-Index.ensures c.in-None-2.is c.as_slice-in-None-2.ensures c.get-in-None-2.ensures) (c.index.ensures _ c.boxed.ensures)

pub written-returns-in-Some-3 : goal.written-returns-in-Some-3
written-returns-in-Some-3 t c =
    renamed c.as_number-in-Some-3.result _ _ (select-some (values_of c.args.env.now) _ _ _ _ _ _ _ _ c.in-Select.is c.in_ok-v-in-Select.ensures c.in-Some-3.is) c.as_number-in-Some-3.ensures

pub written-returns-in-None-3 : goal.written-returns-in-None-3
written-returns-in-None-3 t c =
    renamed c.select.result _ _ (select-none (values_of c.args.env.now) _ _ _ _ _ _ _ _ _ _ c.in-Select.is c.in_ok-v-in-Select.ensures c.in-None-3.is c.as_slice-in-None-3.ensures c.get-in-None-3.ensures c.get-in-None-3-2.ensures)
    (c.select.ensures _ _ c.boxed-first.ensures c.boxed-second.ensures)

pub written-returns-in-Repeat : goal.written-returns-in-Repeat
written-returns-in-Repeat t c =
    renamed c.repeat.result _ _ (repeat-form (values_of c.args.env.now) _ _ _ _ _ _ c.in-Repeat.is c.get-in-Repeat.ensures c.as_slice-in-Repeat.ensures) (c.repeat.ensures _ _ c.boxed-n.ensures c.all-members.ensures)

pub written-returns-in-Binary : goal.written-returns-in-Binary
written-returns-in-Binary t c =
    renamed c.binary.result _ _ (binary-form (values_of c.args.env.now) _ _ _ _ _ _ _ c.in-Binary.is c.get-in-Binary.ensures c.get-in-Binary-2.ensures) (c.binary.ensures _ _ c.boxed-left.ensures c.boxed-right.ensures)

pub written-returns-in-Conditional : goal.written-returns-in-Conditional
written-returns-in-Conditional t c =
    renamed c.conditional.result _ _ (choice-form (values_of c.args.env.now) _ _ _ _ _ _ _ _ c.in-Conditional.is c.get-in-Conditional.ensures c.get-in-Conditional-2.ensures c.get-in-Conditional-3.ensures)
    (c.conditional.ensures _ _ _ c.boxed-test.ensures c.boxed-left-in-Conditional.ensures c.boxed-right-in-Conditional.ensures)

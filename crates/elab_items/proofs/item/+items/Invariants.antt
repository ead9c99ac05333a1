-- What is left decides what all give.
use Rattle.std.proofs.Common.{◌≡◌, ◌≤◌, ◌+◌, ◌*◌, drop}
use Rattle.elab_items.specs.Items.{bodied, items_act, turns_from}
use Rattle.elab_items.specs.Tables.{lib_of, plan_of}
use Rattle.elab_items.proofs.item.+items.Given as goal

abbrev pub invariant-all-loop-one : goal.invariant-all-loop-one
invariant-all-loop-one l = items_act (lib_of l.at.library.now) l.at.prefix.now (plan_of l.p) (drop l.one-index l.items) ≡ items_act (lib_of l.at.library.now) l.at.prefix.now (plan_of l.fn.p) l.items

abbrev pub invariant-turns-loop-left : goal.invariant-turns-loop-left
invariant-turns-loop-left l =
    (turns_from l.left l.head.place l.at.prefix.now l.head.header.now l.head.label.now (bodied (lib_of l.at.library.now) l.body) l.value (plan_of l.p)
    ≡ turns_from 65536 l.head.place l.at.prefix.now l.head.header.now l.head.label.now (bodied (lib_of l.at.library.now) l.body) l.fn.first (plan_of l.fn.p))
    × (l.value.width ≤ 128)

abbrev pub decreases-turns-loop-left : goal.decreases-turns-loop-left
decreases-turns-loop-left l = l.left

-- ---- each goes down the items, or to a function that is lower here

abbrev pub decreases-item : goal.decreases-item
decreases-item l = 8 * goal.size-item l

abbrev pub decreases-all : goal.decreases-all
decreases-all l = 8 * goal.size-all l + 1

abbrev pub decreases-scoped : goal.decreases-scoped
decreases-scoped l = 8 * goal.size-scoped l + 2

abbrev pub decreases-turn : goal.decreases-turn
decreases-turn l = 8 * goal.size-turn l + 3

abbrev pub decreases-block : goal.decreases-block
decreases-block l = 8 * goal.size-block l + 3

abbrev pub decreases-once : goal.decreases-once
decreases-once l = 8 * goal.size-once l + 4

abbrev pub decreases-arm : goal.decreases-arm
decreases-arm l = 8 * goal.size-arm l + 4

abbrev pub decreases-turns : goal.decreases-turns
decreases-turns l = 8 * goal.size-turns l + 5

abbrev pub decreases-for_loop : goal.decreases-for_loop
decreases-for_loop l = 8 * goal.size-for_loop l + 6

-- Items beside what they add.
use Rattle.std.proofs.Common.{◌≡◌, ℕ, ◌<◌, length, get_or, slice_get, Result, subst, List, [], ◌∷◌, map, Option, Some, refl, sym, ap, ◌∙◌}
use Rattle.std.specs.Option.{option_map}
use Rattle.std.proofs.lemmas.Option.{slice_get-map, slice_get-get_or}
use mathlib.Core.Path.{fun_ext}
use Rattle.vlog_tree.specs.declared.stmt.Arm.{Arm}
use Rattle.vlog_tree.specs.declared.item.Block.{Block}
use Rattle.vlog_tree.specs.declared.item.Item.{Item}
use Rattle.elab_names.specs.declared.fault.ElabFault.{ElabFault}
use Rattle.elab_names.specs.Answers.{Or_fault, and_then}
use Rattle.elab_scopes.specs.Tables.{Changes}
use Rattle.elab_scopes.specs.Threads.{threaded, chained}
use Rattle.elab_items.specs.Plans.{Plan}
use Rattle.elab_items.specs.Instances.{Lib}
use Rattle.elab_items.specs.Items.{Body, acts_of, arm_at, arm_chosen, arm_of, blocked, items_of, bodied, item_act, items_act}

-- the items are those that stand there
pub items_kept : (lib : Lib) (is : List Item) → items_of (bodied lib is) ≡ is
items_kept lib [] = refl
items_kept lib (i ∷ is) = ap (λ js. i ∷ js) (items_kept lib is)

-- and what they add goes one after another
pub acted : (lib : Lib) (prefix : List ℕ) (is : List Item) (p : Plan) → chained (acts_of prefix (bodied lib is)) p ≡ items_act lib prefix p is
unfolding chained threaded
acted lib prefix [] p = refl
acted lib prefix (i ∷ is) p = ap (and_then (item_act lib i prefix p)) (fun_ext (acted lib prefix is))

-- ---- the arms of a `case`

-- the labels are those that stand there
pub labels_kept : (lib : Lib) (arms : List (Arm (Block (List Item)))) → map (λ (a : Arm (Block Body)). a.labels) (map (arm_of lib) arms) ≡ map (λ (a : Arm (Block (List Item))). a.labels) arms
labels_kept lib [] = refl
labels_kept lib (a ∷ arms) = ap (λ ls. a.labels ∷ ls) (labels_kept lib arms)

-- what a block adds is what the arm does that is chosen
pub arm-taken : (lib : Lib) (arms : List (Arm (Block (List Item)))) (k : ℕ) (arm : Arm (Block (List Item))) (chosen : Option ℕ) (body : List Item) (prefix : List ℕ) (p q : Plan) (result : Result (Unit {0}) ElabFault)
    → k < length arms → arm ≡ get_or arms k arm → chosen ≡ Some k → body ≡ (get_or arms k arm).body.items
    → Changes result q (blocked (record { name = (get_or arms k arm).body.name; items = bodied lib body }) prefix p) → Changes result q (arm_chosen chosen (map (arm_of lib) arms) prefix p)
unfolding arm_chosen arm_at
arm-taken lib arms k arm chosen body prefix p q result within is some same answer =
    let one : Arm (Block (List Item)) = get_or arms k arm in
    let there : slice_get (map (arm_of lib) arms) k ≡ Some (arm_of lib one) = slice_get-map (arm_of lib) arms k ∙ ap (option_map (arm_of lib)) (slice_get-get_or arms k arm within) in
    subst (λ (r : Or_fault Plan). Changes result q r)
    (ap (λ (is : List Item). blocked (record { name = one.body.name; items = bodied lib is }) prefix p) same
    ∙ (ap (λ (o : Option (Arm (Block Body))). arm_at o prefix p) (sym there) ∙ ap (λ (o : Option ℕ). arm_chosen o (map (arm_of lib) arms) prefix p) (sym some)))
    answer

pub ruleset bodies = (items_kept, acted)

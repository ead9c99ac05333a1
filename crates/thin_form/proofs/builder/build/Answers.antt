use Rattle.std.proofs.Common.{◌≡◌, List, map, refl, sym, subst, arith, rules}
use Rattle.std.specs.List.Sorted.{IsPermutation}
use Rattle.std.proofs.lemmas.List.{length-map}
use Rattle.thin_tree.specs.Written.{a_declared, a_module, an_assignment, a_process, all_declared}
use Rattle.thin_tree.specs.declared.tree.Declared.{Declared}
use Rattle.thin_tree.specs.declared.tree.Assign.{Assign}
use Rattle.thin_tree.specs.declared.tree.Process.{Process}
use Rattle.thin_form.specs.declared.assigned.Assigned.{Assigned}
use Rattle.thin_form.specs.declared.assigned.Clocked.{Clocked}
use Rattle.thin_form.specs.Meaning.{IsDesignOf}
use Rattle.thin_form.specs.Netlist.{Netlist, design_of}
use Rattle.thin_form.specs.Order.{IsOrderOf, all_assigns, all_processes}
use Rattle.thin_form.specs.Rules.{declared, assignments, processes, IsOfForm}
use Rattle.thin_form.proofs.Designed.{is_design}
use Rattle.thin_form.proofs.Moving.{form_is, form_keeps, size_is, plain_are}
use Rattle.thin_form.proofs.Resolving.{ok_both}
use Rattle.thin_form.proofs.builder.build.Goals as goal

pub number-requires-clause-few : goal.number-requires-clause-few
number-requires-clause-few c =
    let m = a_module c.args.parsed.now in
    let ds = all_declared c.deref-3.result.now in
    let ps = all_processes c.deref-5.result.now in
    let assigns = all_assigns c.deref-4.result.now in
    let order = subst (λ (xs : List Declared). IsOrderOf (declared m) (all_declared xs)) (sym c.deref-3.ensures.value) c.in-Ok.ensures.order in
    let same_assigns = subst (λ (xs : List Assigned). IsPermutation (assignments m) (all_assigns xs)) (sym c.deref-4.ensures.value) (subst (λ (xs : List Assign). IsPermutation (map an_assignment xs) (all_assigns c.in_ok-assigns.assigns.items)) c.deref.ensures.value c.in_ok-assigns.ensures.same) in
    let same_ps = subst (λ (xs : List Clocked). IsPermutation (processes m) (all_processes xs)) (sym c.deref-5.ensures.value) (subst (λ (xs : List Process). IsPermutation (map a_process xs) (all_processes c.in_ok-processes.processes.items)) c.deref-2.ensures.value c.in_ok-processes.ensures.same) in
    omega (arith, c.requires.size, size_is m ds ps assigns order.same same_ps same_assigns, length-map c.deref-3.result.now a_declared)

pub number-requires-clause-plain : goal.number-requires-clause-plain
number-requires-clause-plain c =
    let m = a_module c.args.parsed.now in
    let ds = all_declared c.deref-3.result.now in
    let ps = all_processes c.deref-5.result.now in
    let assigns = all_assigns c.deref-4.result.now in
    let order = subst (λ (xs : List Declared). IsOrderOf (declared m) (all_declared xs)) (sym c.deref-3.ensures.value) c.in-Ok.ensures.order in
    let same_assigns = subst (λ (xs : List Assigned). IsPermutation (assignments m) (all_assigns xs)) (sym c.deref-4.ensures.value) (subst (λ (xs : List Assign). IsPermutation (map an_assignment xs) (all_assigns c.in_ok-assigns.assigns.items)) c.deref.ensures.value c.in_ok-assigns.ensures.same) in
    let same_ps = subst (λ (xs : List Clocked). IsPermutation (processes m) (all_processes xs)) (sym c.deref-5.ensures.value) (subst (λ (xs : List Process). IsPermutation (map a_process xs) (all_processes c.in_ok-processes.processes.items)) c.deref-2.ensures.value c.in_ok-processes.ensures.same) in
    plain_are m ds c.requires.tree order.same

pub returns-clause-rules : goal.returns-clause-rules
returns-clause-rules c =
    let m = a_module c.args.parsed.now in
    let ds = all_declared c.deref-3.result.now in
    let ps = all_processes c.deref-5.result.now in
    let assigns = all_assigns c.deref-4.result.now in
    let order = subst (λ (xs : List Declared). IsOrderOf (declared m) (all_declared xs)) (sym c.deref-3.ensures.value) c.in-Ok.ensures.order in
    let same_assigns = subst (λ (xs : List Assigned). IsPermutation (assignments m) (all_assigns xs)) (sym c.deref-4.ensures.value) (subst (λ (xs : List Assign). IsPermutation (map an_assignment xs) (all_assigns c.in_ok-assigns.assigns.items)) c.deref.ensures.value c.in_ok-assigns.ensures.same) in
    let same_ps = subst (λ (xs : List Clocked). IsPermutation (processes m) (all_processes xs)) (sym c.deref-5.ensures.value) (subst (λ (xs : List Process). IsPermutation (map a_process xs) (all_processes c.in_ok-processes.processes.items)) c.deref-2.ensures.value c.in_ok-processes.ensures.same) in
    ok_both _ _ (λ (d : Netlist). IsOfForm m) c.number.result (λ d rules net. form_is m ds ps assigns order same_ps same_assigns rules) c.number.ensures.rules c.number.ensures.net

pub returns-clause-design : goal.returns-clause-design
returns-clause-design c =
    let m = a_module c.args.parsed.now in
    let ds = all_declared c.deref-3.result.now in
    let ps = all_processes c.deref-5.result.now in
    let assigns = all_assigns c.deref-4.result.now in
    let order = subst (λ (xs : List Declared). IsOrderOf (declared m) (all_declared xs)) (sym c.deref-3.ensures.value) c.in-Ok.ensures.order in
    let same_assigns = subst (λ (xs : List Assigned). IsPermutation (assignments m) (all_assigns xs)) (sym c.deref-4.ensures.value) (subst (λ (xs : List Assign). IsPermutation (map an_assignment xs) (all_assigns c.in_ok-assigns.assigns.items)) c.deref.ensures.value c.in_ok-assigns.ensures.same) in
    let same_ps = subst (λ (xs : List Clocked). IsPermutation (processes m) (all_processes xs)) (sym c.deref-5.ensures.value) (subst (λ (xs : List Process). IsPermutation (map a_process xs) (all_processes c.in_ok-processes.processes.items)) c.deref-2.ensures.value c.in_ok-processes.ensures.same) in
    ok_both _ _ (λ (d : Netlist). IsDesignOf m (design_of d)) c.number.result (λ d rules net. is_design ds (declared m) ps (processes m) assigns (assignments m) d net order.ascending order.same same_ps same_assigns m refl refl refl) c.number.ensures.rules c.number.ensures.net

pub returns-clause-not_of_form : goal.returns-clause-not_of_form
returns-clause-not_of_form c = λ fault form.
    let m = a_module c.args.parsed.now in
    let ds = all_declared c.deref-3.result.now in
    let ps = all_processes c.deref-5.result.now in
    let assigns = all_assigns c.deref-4.result.now in
    let order = subst (λ (xs : List Declared). IsOrderOf (declared m) (all_declared xs)) (sym c.deref-3.ensures.value) c.in-Ok.ensures.order in
    let same_assigns = subst (λ (xs : List Assigned). IsPermutation (assignments m) (all_assigns xs)) (sym c.deref-4.ensures.value) (subst (λ (xs : List Assign). IsPermutation (map an_assignment xs) (all_assigns c.in_ok-assigns.assigns.items)) c.deref.ensures.value c.in_ok-assigns.ensures.same) in
    let same_ps = subst (λ (xs : List Clocked). IsPermutation (processes m) (all_processes xs)) (sym c.deref-5.ensures.value) (subst (λ (xs : List Process). IsPermutation (map a_process xs) (all_processes c.in_ok-processes.processes.items)) c.deref-2.ensures.value c.in_ok-processes.ensures.same) in
    c.number.ensures.not_of_form fault (form_keeps m ds ps assigns order same_ps same_assigns form)

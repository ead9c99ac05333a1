use Rattle.std.proofs.Common.{◌≡◌, ℕ, Bool, true, not, List, length, sym, ap, subst, ◌∙◌, arith}
use Rattle.std.specs.Borrow.{Bor}
use Rattle.std.specs.List.{AllByRecursion}
use Rattle.std.proofs.lemmas.List.{length-map}
use Rattle.thin_tree.specs.declared.tree.Class.TheVariants.{Input, Net}
use Rattle.thin_tree.specs.Written.{a_declared, all_declared, texts}
use Rattle.thin_form.specs.Design.{IsAscending}
use Rattle.thin_form.specs.Order.{no_wires, all_assigns, all_processes}
use Rattle.thin_form.specs.Rules.{class_eq, is_among, KeepsRules}
use Rattle.thin_form.specs.Numbers.{Lists, AreLists, IsControlled, AreInputs, AreMarked}
use Rattle.thin_form.specs.Resolved.{AreNumbers, IsRefused, IsResolved}
use Rattle.thin_form.specs.Values.{rules_at}
use Rattle.thin_form.specs.declared.resolver.Resolved.{Resolved}
use Rattle.thin_form.proofs.Classes.{ascending_filter, fewer_names}
use Rattle.thin_form.proofs.Faults.{passed_on}
use Rattle.thin_form.proofs.Keeping.{keeps_rules, inputs_all}
use Rattle.thin_form.proofs.Resolving.{lists_are, are_lists, inputs_within, wires_same, registers_same, never_refused, ok_both}
use Rattle.thin_form.proofs.resolver.resolve.Goals as goal

pub returns-then-not-branch-clause-not_of_form : goal.returns-then-not-branch-clause-not_of_form
returns-then-not-branch-clause-not_of_form c = λ fault rules.
    let ds = all_declared c.args.declared.now in
    let ps = all_processes c.args.processes.now in
    let assigns = all_assigns c.args.assigns.now in
    let agree = c.in_ok-wires_agree.ensures.1 (wires_same ds ps c.args.assigns.now c.requires.ascending c.requires.assigns_sorted rules) in
    absurd cc

pub returns-then-not-branch-2-clause-not_of_form : goal.returns-then-not-branch-2-clause-not_of_form
returns-then-not-branch-2-clause-not_of_form c = λ fault rules.
    let ds = all_declared c.args.declared.now in
    let ps = all_processes c.args.processes.now in
    let assigns = all_assigns c.args.assigns.now in
    let agree = c.in_ok-registers_agree.ensures.1 (registers_same ds c.args.processes.now assigns c.requires.ascending c.requires.processes_sorted rules) in
    absurd cc

pub clocks-requires-clause-few_inputs : goal.clocks-requires-clause-few_inputs
clocks-requires-clause-few_inputs c =
    let ds = all_declared c.args.declared.now in
    let named = ap texts c.deref.ensures.value ∙ c.in_ok-inputs.ensures in
    omega (arith, ap length named, length-map c.deref.result.now (λ (t : Bor (List ℕ)). t.now), fewer_names (λ d. class_eq Input d.class) ds, c.requires.few, length-map c.args.declared.now a_declared)

pub clocks-requires-clause-few_sources : goal.clocks-requires-clause-few_sources
clocks-requires-clause-few_sources c =
    let ds = all_declared c.args.declared.now in
    let named = ap texts c.deref-2.ensures.value ∙ c.in_ok-sources.ensures in
    omega (arith, ap length named, length-map c.deref-2.result.now (λ (t : Bor (List ℕ)). t.now), fewer_names (λ d. not (class_eq Net d.class)) ds, c.requires.few, length-map c.args.declared.now a_declared)

pub clocks-requires-clause-inputs_ascend : goal.clocks-requires-clause-inputs_ascend
clocks-requires-clause-inputs_ascend c =
    let ds = all_declared c.args.declared.now in
    subst IsAscending (sym (ap texts c.deref.ensures.value ∙ c.in_ok-inputs.ensures)) (ascending_filter (λ d. class_eq Input d.class) ds c.requires.ascending)

pub clocks-requires-clause-sources_ascend : goal.clocks-requires-clause-sources_ascend
clocks-requires-clause-sources_ascend c =
    let ds = all_declared c.args.declared.now in
    subst IsAscending (sym (ap texts c.deref-2.ensures.value ∙ c.in_ok-sources.ensures)) (ascending_filter (λ d. not (class_eq Net d.class)) ds c.requires.ascending)

pub returns-in-Err-clause-not_of_form : goal.returns-in-Err-clause-not_of_form
returns-in-Err-clause-not_of_form c = λ fault rules.
    let ds = all_declared c.args.declared.now in
    let ps = all_processes c.args.processes.now in
    let assigns = all_assigns c.args.assigns.now in
    let sources = ap texts c.deref-2.ensures.value ∙ c.in_ok-sources.ensures in
    let inputs = ap texts c.deref.ensures.value ∙ c.in_ok-inputs.ensures in
    c.in-Err.ensures.not_of_form (passed_on _ _ fault) (subst (λ (ns : List (List ℕ)). AreInputs ns ps) (sym inputs) (inputs_all ds ps rules.each_process))
    (λ t h. subst (λ (ns : List (List ℕ)). is_among t ns ≡ true) (sym sources) (inputs_within ds t (subst (λ (ns : List (List ℕ)). is_among t ns ≡ true) inputs h)))

pub numbered-requires-clause-lists : goal.numbered-requires-clause-lists
numbered-requires-clause-lists c =
    let ds = all_declared c.args.declared.now in
    let ps = all_processes c.args.processes.now in
    let assigns = all_assigns c.args.assigns.now in
    let inputs = ap texts c.deref-3.ensures.value ∙ c.in_ok-inputs.ensures in
    let sources = ap texts c.deref-4.ensures.value ∙ c.in_ok-sources.ensures in
    let wires = ap texts c.deref-5.ensures.value ∙ c.in_ok-wires.ensures in
    let marks = c.deref-6.result.now in
    let same = lists_are ds (texts c.deref-3.result.now) (texts c.deref-4.result.now) (texts c.deref-5.result.now) marks inputs sources wires in
    let found = c.deref-6.ensures.value in
    let sources_first = ap texts c.deref-2.ensures.value ∙ c.in_ok-sources.ensures in
    let inputs_first = ap texts c.deref.ensures.value ∙ c.in_ok-inputs.ensures in
    let ins = subst (λ (ns : List (List ℕ)). AreInputs ns ps) inputs_first c.in-Ok.ensures.inputs in
    let marked = subst (λ (ns : List (List ℕ)). AreMarked ns ps marks) sources_first (subst (λ (ms : List Bool). AreMarked (texts c.deref-2.result.now) ps ms) (sym found) c.in-Ok.ensures.marked) in
    let nets = c.in_ok-wires_agree.ensures.0 c.if-not-branch.false in
    let registers = c.in_ok-registers_agree.ensures.0 c.if-not-branch-2.false in
    let count : length marks ≡ length (no_wires ds) = omega (arith, ap length found, c.in-Ok.ensures.len, ap length sources_first, length-map c.deref-2.result.now (λ (t : Bor (List ℕ)). t.now)) in
    subst AreLists (sym same) (are_lists ds marks (omega (arith, c.requires.few, length-map c.args.declared.now a_declared)) c.requires.ascending count)

pub returns-clause-rules : goal.returns-clause-rules
returns-clause-rules c =
    let ds = all_declared c.args.declared.now in
    let ps = all_processes c.args.processes.now in
    let assigns = all_assigns c.args.assigns.now in
    let inputs = ap texts c.deref-3.ensures.value ∙ c.in_ok-inputs.ensures in
    let sources = ap texts c.deref-4.ensures.value ∙ c.in_ok-sources.ensures in
    let wires = ap texts c.deref-5.ensures.value ∙ c.in_ok-wires.ensures in
    let marks = c.deref-6.result.now in
    let same = lists_are ds (texts c.deref-3.result.now) (texts c.deref-4.result.now) (texts c.deref-5.result.now) marks inputs sources wires in
    let found = c.deref-6.ensures.value in
    let sources_first = ap texts c.deref-2.ensures.value ∙ c.in_ok-sources.ensures in
    let inputs_first = ap texts c.deref.ensures.value ∙ c.in_ok-inputs.ensures in
    let ins = subst (λ (ns : List (List ℕ)). AreInputs ns ps) inputs_first c.in-Ok.ensures.inputs in
    let marked = subst (λ (ns : List (List ℕ)). AreMarked ns ps marks) sources_first (subst (λ (ms : List Bool). AreMarked (texts c.deref-2.result.now) ps ms) (sym found) c.in-Ok.ensures.marked) in
    let nets = c.in_ok-wires_agree.ensures.0 c.if-not-branch.false in
    let registers = c.in_ok-registers_agree.ensures.0 c.if-not-branch-2.false in
    ok_both _ _ (λ (r : Resolved). KeepsRules ds ps assigns) c.numbered.result (λ r numbers controlled.
    let n = subst (λ (l : Lists). AreNumbers l ps assigns r) same numbers in
    let k = subst (λ (l : Lists). AllByRecursion (IsControlled l) ps) same controlled in
    keeps_rules ds ps assigns marks c.requires.ascending ins marked (rules_at r.wires.items) (rules_at r.data.items) r.order.items nets registers k n.wires n.data n.order) c.numbered.ensures.numbers c.numbered.ensures.controlled

pub returns-clause-resolved : goal.returns-clause-resolved
returns-clause-resolved c =
    let ds = all_declared c.args.declared.now in
    let ps = all_processes c.args.processes.now in
    let assigns = all_assigns c.args.assigns.now in
    let inputs = ap texts c.deref-3.ensures.value ∙ c.in_ok-inputs.ensures in
    let sources = ap texts c.deref-4.ensures.value ∙ c.in_ok-sources.ensures in
    let wires = ap texts c.deref-5.ensures.value ∙ c.in_ok-wires.ensures in
    let marks = c.deref-6.result.now in
    let same = lists_are ds (texts c.deref-3.result.now) (texts c.deref-4.result.now) (texts c.deref-5.result.now) marks inputs sources wires in
    let found = c.deref-6.ensures.value in
    let sources_first = ap texts c.deref-2.ensures.value ∙ c.in_ok-sources.ensures in
    let inputs_first = ap texts c.deref.ensures.value ∙ c.in_ok-inputs.ensures in
    let ins = subst (λ (ns : List (List ℕ)). AreInputs ns ps) inputs_first c.in-Ok.ensures.inputs in
    let marked = subst (λ (ns : List (List ℕ)). AreMarked ns ps marks) sources_first (subst (λ (ms : List Bool). AreMarked (texts c.deref-2.result.now) ps ms) (sym found) c.in-Ok.ensures.marked) in
    let nets = c.in_ok-wires_agree.ensures.0 c.if-not-branch.false in
    let registers = c.in_ok-registers_agree.ensures.0 c.if-not-branch-2.false in
    ok_both _ _ (λ (r : Resolved). IsResolved ds ps assigns r) c.numbered.result (λ r numbers controlled. record { marks = marks; nets = nets; registers = registers; controlled = subst (λ (l : Lists). AllByRecursion (IsControlled l) ps) same controlled; numbers = subst (λ (l : Lists). AreNumbers l ps assigns r) same numbers }) c.numbered.ensures.numbers c.numbered.ensures.controlled

pub returns-clause-not_of_form : goal.returns-clause-not_of_form
returns-clause-not_of_form c = λ fault rules.
    let ds = all_declared c.args.declared.now in
    let ps = all_processes c.args.processes.now in
    let assigns = all_assigns c.args.assigns.now in
    let inputs = ap texts c.deref-3.ensures.value ∙ c.in_ok-inputs.ensures in
    let sources = ap texts c.deref-4.ensures.value ∙ c.in_ok-sources.ensures in
    let wires = ap texts c.deref-5.ensures.value ∙ c.in_ok-wires.ensures in
    let marks = c.deref-6.result.now in
    let same = lists_are ds (texts c.deref-3.result.now) (texts c.deref-4.result.now) (texts c.deref-5.result.now) marks inputs sources wires in
    let found = c.deref-6.ensures.value in
    let sources_first = ap texts c.deref-2.ensures.value ∙ c.in_ok-sources.ensures in
    let inputs_first = ap texts c.deref.ensures.value ∙ c.in_ok-inputs.ensures in
    let ins = subst (λ (ns : List (List ℕ)). AreInputs ns ps) inputs_first c.in-Ok.ensures.inputs in
    let marked = subst (λ (ns : List (List ℕ)). AreMarked ns ps marks) sources_first (subst (λ (ms : List Bool). AreMarked (texts c.deref-2.result.now) ps ms) (sym found) c.in-Ok.ensures.marked) in
    let nets = c.in_ok-wires_agree.ensures.0 c.if-not-branch.false in
    let registers = c.in_ok-registers_agree.ensures.0 c.if-not-branch-2.false in
    never_refused ds ps assigns marks c.requires.ascending ins marked nets rules (subst (λ (l : Lists). IsRefused l ps assigns) same (c.numbered.ensures.not_of_form fault))

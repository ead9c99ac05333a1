use Rattle.std.proofs.Common.{◌≡◌, ◌-◌, ℕ, List, map, length, ap, subst, ◌∙◌, arith}
use Rattle.std.proofs.lemmas.List.{length-map}
use Rattle.thin_tree.specs.Written.{a_declared, all_declared}
use Rattle.thin_form.specs.Order.{no_wires, all_assigns, all_processes}
use Rattle.thin_form.specs.Resolved.{lists_of}
use Rattle.thin_form.specs.Values.{rules_at}
use Rattle.thin_form.specs.Numbers.{flop_of}
use Rattle.thin_form.specs.Kept.{kept}
use Rattle.thin_form.specs.Netlist.{AreNodes}
use Rattle.thin_form.specs.Assembled.{bits_of, entries_of}
use Rattle.thin_form.proofs.Classes.{all_names}
use Rattle.thin_form.proofs.Parts.{wires_are, registers_are}
use Rattle.thin_form.proofs.Ruled.{are_terms}
use Rattle.thin_form.proofs.Lawful.{lawful}
use Rattle.thin_form.proofs.Netting.{rules_are, terms_fewer, sizes_are, net_of}
use Rattle.thin_form.proofs.builder.number.Goals as goal

pub overflow_sub-count : goal.overflow_sub-count
overflow_sub-count c =
    let ds = all_declared c.args.declared.now in
    let ps = all_processes c.args.processes.now in
    let assigns = all_assigns c.args.assigns.now in
    let is = c.in-Ok.ensures.resolved in
    let l = lists_of ds is.marks in
    let found = c.in-Ok.found in
    let rules = are_terms l (map (λ a. a.value) assigns) (rules_at found.wires.items) is.numbers.wires in
    let datas = are_terms l (map (λ p. p.data) ps) (rules_at found.data.items) is.numbers.data in
    let sizes = sizes_are ds ps assigns is.marks (rules_at found.wires.items) (rules_at found.data.items) is.nets is.registers rules datas in
    let wires_len = length-map found.wires.items (λ r. r.items) in
    let data_len = length-map found.data.items (λ r. r.items) in
    let declared_len = length-map c.args.declared.now a_declared in
    let total = all_names ds in
    omega (arith, c.len.ensures, sizes.0, wires_len, declared_len, total)

pub nodes-requires-clause-wires : goal.nodes-requires-clause-wires
nodes-requires-clause-wires c =
    let ds = all_declared c.args.declared.now in
    let ps = all_processes c.args.processes.now in
    let assigns = all_assigns c.args.assigns.now in
    let is = c.in-Ok.ensures.resolved in
    let l = lists_of ds is.marks in
    let found = c.in-Ok.found in
    let rules = are_terms l (map (λ a. a.value) assigns) (rules_at found.wires.items) is.numbers.wires in
    let datas = are_terms l (map (λ p. p.data) ps) (rules_at found.data.items) is.numbers.data in
    let sizes = sizes_are ds ps assigns is.marks (rules_at found.wires.items) (rules_at found.data.items) is.nets is.registers rules datas in
    let wires_len = length-map found.wires.items (λ r. r.items) in
    let data_len = length-map found.data.items (λ r. r.items) in
    let declared_len = length-map c.args.declared.now a_declared in
    let total = all_names ds in
    rules_are l (map (λ a. a.value) assigns) (rules_at found.wires.items) _ _ (omega (arith, c.len.ensures, sizes.0, wires_len, declared_len, total)) (omega (arith, sizes.0, wires_len)) rules

pub nodes-requires-clause-values : goal.nodes-requires-clause-values
nodes-requires-clause-values c =
    let ds = all_declared c.args.declared.now in
    let ps = all_processes c.args.processes.now in
    let assigns = all_assigns c.args.assigns.now in
    let is = c.in-Ok.ensures.resolved in
    let l = lists_of ds is.marks in
    let found = c.in-Ok.found in
    let rules = are_terms l (map (λ a. a.value) assigns) (rules_at found.wires.items) is.numbers.wires in
    let datas = are_terms l (map (λ p. p.data) ps) (rules_at found.data.items) is.numbers.data in
    let sizes = sizes_are ds ps assigns is.marks (rules_at found.wires.items) (rules_at found.data.items) is.nets is.registers rules datas in
    let wires_len = length-map found.wires.items (λ r. r.items) in
    let data_len = length-map found.data.items (λ r. r.items) in
    let declared_len = length-map c.args.declared.now a_declared in
    let total = all_names ds in
    rules_are l (map (λ p. p.data) ps) (rules_at found.data.items) _ _ (omega (arith, c.len.ensures, sizes.0, wires_len, declared_len, total)) (omega (arith, sizes.0, wires_len)) datas

pub nodes-requires-clause-few : goal.nodes-requires-clause-few
nodes-requires-clause-few c =
    let ds = all_declared c.args.declared.now in
    let ps = all_processes c.args.processes.now in
    let assigns = all_assigns c.args.assigns.now in
    let is = c.in-Ok.ensures.resolved in
    let l = lists_of ds is.marks in
    let found = c.in-Ok.found in
    let rules = are_terms l (map (λ a. a.value) assigns) (rules_at found.wires.items) is.numbers.wires in
    let datas = are_terms l (map (λ p. p.data) ps) (rules_at found.data.items) is.numbers.data in
    let sizes = sizes_are ds ps assigns is.marks (rules_at found.wires.items) (rules_at found.data.items) is.nets is.registers rules datas in
    let wires_len = length-map found.wires.items (λ r. r.items) in
    let data_len = length-map found.data.items (λ r. r.items) in
    let declared_len = length-map c.args.declared.now a_declared in
    let total = all_names ds in
    let first = terms_fewer l (λ a. a.value) assigns (rules_at found.wires.items) rules in
    let second = terms_fewer l (λ p. p.data) ps (rules_at found.data.items) datas in
    omega (arith, c.requires.few, first, second)

pub bits-requires-clause-wires : goal.bits-requires-clause-wires
bits-requires-clause-wires c =
    let ds = all_declared c.args.declared.now in
    let ps = all_processes c.args.processes.now in
    let assigns = all_assigns c.args.assigns.now in
    let is = c.in-Ok.ensures.resolved in
    let l = lists_of ds is.marks in
    let found = c.in-Ok.found in
    let rules = are_terms l (map (λ a. a.value) assigns) (rules_at found.wires.items) is.numbers.wires in
    let datas = are_terms l (map (λ p. p.data) ps) (rules_at found.data.items) is.numbers.data in
    let sizes = sizes_are ds ps assigns is.marks (rules_at found.wires.items) (rules_at found.data.items) is.nets is.registers rules datas in
    let wires_len = length-map found.wires.items (λ r. r.items) in
    let data_len = length-map found.data.items (λ r. r.items) in
    let declared_len = length-map c.args.declared.now a_declared in
    let total = all_names ds in
    omega (arith, wires_are ds, sizes.0, ap length c.deref.ensures.value, c.in-Ok-nodes.ensures.wires.count)

pub sources-requires-clause-registers : goal.sources-requires-clause-registers
sources-requires-clause-registers c =
    let ds = all_declared c.args.declared.now in
    let ps = all_processes c.args.processes.now in
    let assigns = all_assigns c.args.assigns.now in
    let is = c.in-Ok.ensures.resolved in
    let l = lists_of ds is.marks in
    let found = c.in-Ok.found in
    let rules = are_terms l (map (λ a. a.value) assigns) (rules_at found.wires.items) is.numbers.wires in
    let datas = are_terms l (map (λ p. p.data) ps) (rules_at found.data.items) is.numbers.data in
    let sizes = sizes_are ds ps assigns is.marks (rules_at found.wires.items) (rules_at found.data.items) is.nets is.registers rules datas in
    let wires_len = length-map found.wires.items (λ r. r.items) in
    let data_len = length-map found.data.items (λ r. r.items) in
    let declared_len = length-map c.args.declared.now a_declared in
    let total = all_names ds in
    omega (arith, registers_are ds, sizes.1, ap length is.numbers.flops, length-map ps (flop_of l))

pub sources-requires-clause-values : goal.sources-requires-clause-values
sources-requires-clause-values c =
    let ds = all_declared c.args.declared.now in
    let ps = all_processes c.args.processes.now in
    let assigns = all_assigns c.args.assigns.now in
    let is = c.in-Ok.ensures.resolved in
    let l = lists_of ds is.marks in
    let found = c.in-Ok.found in
    let rules = are_terms l (map (λ a. a.value) assigns) (rules_at found.wires.items) is.numbers.wires in
    let datas = are_terms l (map (λ p. p.data) ps) (rules_at found.data.items) is.numbers.data in
    let sizes = sizes_are ds ps assigns is.marks (rules_at found.wires.items) (rules_at found.data.items) is.nets is.registers rules datas in
    let wires_len = length-map found.wires.items (λ r. r.items) in
    let data_len = length-map found.data.items (λ r. r.items) in
    let declared_len = length-map c.args.declared.now a_declared in
    let total = all_names ds in
    omega (arith, ap length c.deref-3.ensures.value, ap length c.deref-2.ensures.value, c.in-Ok-nodes.ensures.values.count, sizes.2, ap length is.numbers.flops, length-map ps (flop_of l))

pub invariant_of-result : goal.invariant_of-result
invariant_of-result c =
    let ds = all_declared c.args.declared.now in
    let ps = all_processes c.args.processes.now in
    let assigns = all_assigns c.args.assigns.now in
    let is = c.in-Ok.ensures.resolved in
    let l = lists_of ds is.marks in
    let found = c.in-Ok.found in
    let rules = are_terms l (map (λ a. a.value) assigns) (rules_at found.wires.items) is.numbers.wires in
    let datas = are_terms l (map (λ p. p.data) ps) (rules_at found.data.items) is.numbers.data in
    let sizes = sizes_are ds ps assigns is.marks (rules_at found.wires.items) (rules_at found.data.items) is.nets is.registers rules datas in
    let wires_len = length-map found.wires.items (λ r. r.items) in
    let data_len = length-map found.data.items (λ r. r.items) in
    let declared_len = length-map c.args.declared.now a_declared in
    let total = all_names ds in
    let net = kept c.in_ok-sources.sources.items c.in_ok-bits.bits.items c.in-Ok-nodes.made.nodes.items in
    let net_is = net_of ds ps assigns found net c.in-Ok-nodes.made.wires.items c.in-Ok-nodes.made.values.items is c.in-Ok-nodes.ensures.wires c.in-Ok-nodes.ensures.values
    (c.in_ok-sources.ensures ∙ ap (λ fs. entries_of fs c.deref-3.result.now ds) c.deref-2.ensures.value ∙ ap (λ (ks : List ℕ). entries_of found.flops.items ks ds) c.deref-3.ensures.value)
    (c.in_ok-bits.ensures ∙ ap (λ (ws : List ℕ). bits_of ws ds) c.deref.ensures.value) in
    let count : length c.args.declared.now - c.len.result ≡ length (no_wires ds) = omega (arith, c.len.ensures, sizes.0, wires_len, declared_len, total) in
    lawful ds ps assigns net net_is c.requires.ascending (subst (λ (n : ℕ). AreNodes n c.in-Ok-nodes.made.nodes.items) count c.in-Ok-nodes.ensures.nodes) c.in-Ok-nodes.ensures.few (omega (arith, c.requires.few, declared_len)) c.requires.plain

pub returns-clause-net : goal.returns-clause-net
returns-clause-net c =
    let ds = all_declared c.args.declared.now in
    let ps = all_processes c.args.processes.now in
    let assigns = all_assigns c.args.assigns.now in
    let is = c.in-Ok.ensures.resolved in
    let l = lists_of ds is.marks in
    let found = c.in-Ok.found in
    let rules = are_terms l (map (λ a. a.value) assigns) (rules_at found.wires.items) is.numbers.wires in
    let datas = are_terms l (map (λ p. p.data) ps) (rules_at found.data.items) is.numbers.data in
    let sizes = sizes_are ds ps assigns is.marks (rules_at found.wires.items) (rules_at found.data.items) is.nets is.registers rules datas in
    let wires_len = length-map found.wires.items (λ r. r.items) in
    let data_len = length-map found.data.items (λ r. r.items) in
    let declared_len = length-map c.args.declared.now a_declared in
    let total = all_names ds in
    let net = kept c.in_ok-sources.sources.items c.in_ok-bits.bits.items c.in-Ok-nodes.made.nodes.items in
    let net_is = net_of ds ps assigns found net c.in-Ok-nodes.made.wires.items c.in-Ok-nodes.made.values.items is c.in-Ok-nodes.ensures.wires c.in-Ok-nodes.ensures.values
    (c.in_ok-sources.ensures ∙ ap (λ fs. entries_of fs c.deref-3.result.now ds) c.deref-2.ensures.value ∙ ap (λ (ks : List ℕ). entries_of found.flops.items ks ds) c.deref-3.ensures.value)
    (c.in_ok-bits.ensures ∙ ap (λ (ws : List ℕ). bits_of ws ds) c.deref.ensures.value) in
    net_is

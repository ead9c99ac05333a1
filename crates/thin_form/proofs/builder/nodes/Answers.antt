use Rattle.std.proofs.Common.{◌≡◌, ◌<◌, ℕ, List, length, sum_by, sym, ap, subst, arith}
use Rattle.std.specs.List.{AllByRecursion}
use Rattle.thin_form.specs.Values.{rules_at, IsRule, IsWhole, ReadsSources, ReadsWires, AreMade}
use Rattle.thin_form.specs.declared.term.Term.{Term}
use Rattle.thin_form.proofs.Formulas.{length-sources, grown_further}
use Rattle.std.proofs.lemmas.List.{length-map}
use Rattle.thin_form.proofs.Netting.{sources_read, all_whole, wires_read_within, sources_read_grown, wires_low, made_still, nodes_are}
use Rattle.thin_form.proofs.builder.nodes.Goals as goal

pub wires-requires-clause-sources : goal.wires-requires-clause-sources
wires-requires-clause-sources c =
    subst (λ rules. AllByRecursion (ReadsSources c.in_ok-nodes.nodes.items) (rules_at rules)) (sym c.deref.ensures.value)
    (sources_read c.args.count (length c.args.found.now.wires.items) (rules_at c.args.found.now.wires.items) c.in_ok-nodes.nodes.items c.in_ok-nodes.ensures c.requires.wires)

pub wires-requires-clause-whole : goal.wires-requires-clause-whole
wires-requires-clause-whole c = subst (λ rules. AllByRecursion IsWhole (rules_at rules)) (sym c.deref.ensures.value) (all_whole c.args.count (length c.args.found.now.wires.items) (rules_at c.args.found.now.wires.items) c.requires.wires)

pub wires-requires-clause-few : goal.wires-requires-clause-few
wires-requires-clause-few c =
    omega (arith, c.requires.few, ap length c.in_ok-nodes.ensures, length-sources 0 c.args.count, ap (λ rules. sum_by (λ (ts : List Term). length ts) (rules_at rules)) c.deref.ensures.value)

pub values-requires-clause-wires : goal.values-requires-clause-wires
values-requires-clause-wires c =
    let made = subst (λ rules. AreMade c.wires.new.nodes.items c.in-Ok.made.items (rules_at rules) c.in-Ok.made.items) c.deref.ensures.value c.in-Ok.ensures.made in
    subst (AllByRecursion (λ k. k < length c.wires.new.nodes.items)) (sym c.deref-4.ensures.value) (wires_low c.wires.new.nodes.items c.in-Ok.made.items (rules_at c.args.found.now.wires.items) made)

pub values-requires-clause-reads : goal.values-requires-clause-reads
values-requires-clause-reads c =
    let made = subst (λ rules. AreMade c.wires.new.nodes.items c.in-Ok.made.items (rules_at rules) c.in-Ok.made.items) c.deref.ensures.value c.in-Ok.ensures.made in
    let count : length c.args.found.now.wires.items ≡ length c.in-Ok.made.items = omega (arith, made.count, length-map c.args.found.now.wires.items (λ r. r.items)) in
    let rules = subst (λ (n : ℕ). AllByRecursion (IsRule c.args.count n) (rules_at c.args.found.now.data.items)) count c.requires.values in
    let reads = wires_read_within c.args.count (rules_at c.args.found.now.data.items) c.in-Ok.made.items rules in
    subst (λ (ws : List ℕ). AllByRecursion (ReadsWires ws) (rules_at c.deref-3.result.now)) (sym c.deref-4.ensures.value) (subst (λ rules. AllByRecursion (ReadsWires c.in-Ok.made.items) (rules_at rules)) (sym c.deref-3.ensures.value) reads)

pub values-requires-clause-sources : goal.values-requires-clause-sources
values-requires-clause-sources c =
    subst (λ rules. AllByRecursion (ReadsSources c.wires.new.nodes.items) (rules_at rules)) (sym c.deref-3.ensures.value)
    (sources_read_grown c.in_ok-nodes.nodes.items c.wires.new.nodes.items (rules_at c.args.found.now.data.items) c.in-Ok.ensures.grown
    (sources_read c.args.count (length c.args.found.now.wires.items) (rules_at c.args.found.now.data.items) c.in_ok-nodes.nodes.items c.in_ok-nodes.ensures c.requires.values))

pub values-requires-clause-whole : goal.values-requires-clause-whole
values-requires-clause-whole c = subst (λ rules. AllByRecursion IsWhole (rules_at rules)) (sym c.deref-3.ensures.value) (all_whole c.args.count (length c.args.found.now.wires.items) (rules_at c.args.found.now.data.items) c.requires.values)

pub values-requires-clause-few : goal.values-requires-clause-few
values-requires-clause-few c =
    omega (arith, c.requires.few, c.in-Ok.ensures.few, ap length c.in_ok-nodes.ensures, length-sources 0 c.args.count, ap (λ rules. sum_by (λ (ts : List Term). length ts) (rules_at rules)) c.deref.ensures.value, ap (λ rules. sum_by (λ (ts : List Term). length ts) (rules_at rules)) c.deref-3.ensures.value)

pub returns-clause-nodes : goal.returns-clause-nodes
returns-clause-nodes c =
    nodes_are c.args.count c.in_ok-nodes.nodes.items c.values.new.nodes.items c.in_ok-nodes.ensures (grown_further c.in_ok-nodes.nodes.items c.wires.new.nodes.items c.values.new.nodes.items c.in-Ok.ensures.grown c.in-Ok-values.ensures.grown)

pub returns-clause-wires : goal.returns-clause-wires
returns-clause-wires c =
    let made = subst (λ rules. AreMade c.wires.new.nodes.items c.in-Ok.made.items (rules_at rules) c.in-Ok.made.items) c.deref.ensures.value c.in-Ok.ensures.made in
    let count : length c.args.found.now.wires.items ≡ length c.in-Ok.made.items = omega (arith, made.count, length-map c.args.found.now.wires.items (λ r. r.items)) in
    let rules = subst (λ (n : ℕ). AllByRecursion (IsRule c.args.count n) (rules_at c.args.found.now.wires.items)) count c.requires.wires in
    made_still c.args.count c.wires.new.nodes.items c.values.new.nodes.items c.in-Ok.made.items (rules_at c.args.found.now.wires.items) c.in-Ok-values.ensures.grown rules made

use Rattle.std.proofs.Common.{ℕ, List, map, length, None, sym, ap, subst, ◌∙◌, arith}
use Rattle.std.specs.Option.{option_map}
use Rattle.std.proofs.lemmas.List.{length-map}
use Rattle.thin_tree.specs.Postfix.{expression_of}
use Rattle.thin_form.specs.Listed.{lists}
use Rattle.thin_form.specs.Order.{all_assigns}
use Rattle.thin_form.specs.Numbers.{rules_of}
use Rattle.thin_form.specs.Resolved.{by_circle}
use Rattle.thin_form.specs.Values.{wires_in, rules_at}
use Rattle.thin_form.specs.Walk.{ReadWithin, IsCircle, IsOrderOrCircle}
use Rattle.thin_form.proofs.Resolving.{reads_within}
use Rattle.thin_form.proofs.resolver.numbered.Goals as goal

pub order-requires-clause-few : goal.order-requires-clause-few
order-requires-clause-few c =
    let l = lists c.args.names.now in
    let rs = rules_at c.in-Ok-rules.found.items in
    let ruled = ap (rules_of l) (sym c.in_ok-values.ensures ∙ ap (map (λ e. expression_of e.of.now)) (sym c.deref.ensures.value)) ∙ c.in-Ok-rules.ensures.rules in
    let within = reads_within l (all_assigns c.args.assigns.now) rs c.requires.assigned ruled in
    let read = ap (map (λ r. r.items)) c.deref-4.ensures.value ∙ c.in_ok-reads.ensures ∙ ap (λ xs. map wires_in (rules_at xs)) c.deref-3.ensures.value in
    omega (arith, within.0, c.requires.lists.few_wires, ap length read, length-map rs wires_in, length-map c.deref-4.result.now (λ r. r.items))

pub order-requires-clause-within : goal.order-requires-clause-within
order-requires-clause-within c =
    let l = lists c.args.names.now in
    let rs = rules_at c.in-Ok-rules.found.items in
    let ruled = ap (rules_of l) (sym c.in_ok-values.ensures ∙ ap (map (λ e. expression_of e.of.now)) (sym c.deref.ensures.value)) ∙ c.in-Ok-rules.ensures.rules in
    let within = reads_within l (all_assigns c.args.assigns.now) rs c.requires.assigned ruled in
    let read = ap (map (λ r. r.items)) c.deref-4.ensures.value ∙ c.in_ok-reads.ensures ∙ ap (λ xs. map wires_in (rules_at xs)) c.deref-3.ensures.value in
    subst ReadWithin (sym read) within.1

pub returns-in-None-clause-not_of_form : goal.returns-in-None-clause-not_of_form
returns-in-None-clause-not_of_form c = λ fault.
    let l = lists c.args.names.now in
    let rs = rules_at c.in-Ok-rules.found.items in
    let ruled = ap (rules_of l) (sym c.in_ok-values.ensures ∙ ap (map (λ e. expression_of e.of.now)) (sym c.deref.ensures.value)) ∙ c.in-Ok-rules.ensures.rules in
    let read = ap (map (λ r. r.items)) c.deref-4.ensures.value ∙ c.in_ok-reads.ensures ∙ ap (λ xs. map wires_in (rules_at xs)) c.deref-3.ensures.value in
    let found : IsOrderOrCircle (map (λ r. r.items) c.deref-4.result.now) None = subst (λ o. IsOrderOrCircle (map (λ r. r.items) c.deref-4.result.now) (option_map (λ v. v.items) o)) c.in-None.is c.in_ok-found.ensures in
    by_circle rs found.0 ruled (subst (λ (reads : List (List ℕ)). IsCircle reads found.0) read found.1)

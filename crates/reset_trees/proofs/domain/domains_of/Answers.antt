use Rattle.std.proofs.Common.{◌+◌, ℕ, List, [], take, sym, subst, ap, ◌∙◌, Some}
use Rattle.std.proofs.lemmas.List.{take_all}
use Rattle.cons_bind.specs.Binding.{forms_of}
use Rattle.cons_bind.specs.declared.bound.BoundLine.{BoundLine}
use Rattle.reset_trees.specs.declared.answers.DomainOf.{DomainOf}
use Rattle.reset_trees.specs.Domains.{AreDomainsOf}
use Rattle.net_view.specs.Cone.{Lists}
use Rattle.reset_trees.specs.Domain.{InDomain}
use Rattle.reset_trees.proofs.DomainLemmas.{domains_none, domains_more, domains_skip, no_claim, line_inside}
use Rattle.reset_trees.proofs.domain.domains_of.Goals as goal
use Rattle.reset_trees.proofs.domain.domains_of.Goals.{in-Some+in_ok-domain+in_ok-push, in_default}

pub lines-init : goal.lines-init
lines-init c = λ net is. subst (λ (rs : List DomainOf). AreDomainsOf net [] rs) (sym c.new-resets.ensures) (domains_none net)

pub domain-requires : goal.domain-requires
domain-requires c = record {
  inside = line_inside _ c.args.lines.now c.lines.line-index c.line-item.result c.in-Some.reset c.requires.inside c.lines-test.true c.line-item.is (sym c.reset_of.ensures ∙ c.in-Some.is);
  closed = c.requires.closed;
}

pub lines-preserved : goal.lines-preserved
lines-preserved c = λ net is.
    let lines = c.args.lines.now in
    let k = c.lines.line-index in
    let line = c.line-item.result in
    let Done : List DomainOf → Type 0 = λ rs. AreDomainsOf net (forms_of (take (k + 1) lines)) rs in
    elim c.match-reset_of.branch [
      | in-Some+in_ok-domain+in_ok-push w ↦
          let new = w.in_ok-domain.field-0 in
          subst Done (sym (w.resets-is ∙ w.in_ok-push.ensures.ok))
          (domains_more net lines k line c.lines.resets new c.lines-test.true c.line-item.is (sym c.reset_of.ensures ∙ w.in-Some.is ∙ ap (λ (r : ℕ). Some r) (sym w.in_ok-domain.ensures.reset))
          (subst (λ (r : ℕ). Lists (InDomain net r) new.flops) (sym w.in_ok-domain.ensures.reset) (w.in_ok-domain.ensures.flops net is)) (c.lines.invariant net is))
      | in_default w ↦
          subst Done (sym w.resets-is) (domains_skip net lines k line c.lines.resets c.lines-test.true c.line-item.is (no_claim line.form c.reset_of.result c.reset_of.ensures w.in_default.not-Some) (c.lines.invariant net is))
    ]

pub returns : goal.returns
returns c = λ net is. subst (λ (ls : List BoundLine). AreDomainsOf net (forms_of ls) c.lines.resets) (take_all c.lines.line-index c.args.lines.now c.lines-test.false) (c.lines.invariant net is)

use Rattle.std.proofs.Common.{rules, sym, subst}
use Rattle.thin_form.specs.Netlist.{design_of}
use Rattle.rdcsign.specs.Draft.{Front, AddsSources}
use Rattle.rdcsign.proofs.DraftLemmas.{report_is, crosses_is_counted}
use Rattle.rdcsign.proofs.report.judge.Goals as goal

pub returns-clause-report : goal.returns-clause-report
returns-clause-report c =
    let front : Front = record { text = c.draft.inside.text.items; same = c.draft.inside.same; crossing = c.draft.inside.crossing } in
    let all = subst (λ (f : Front). AddsSources (design_of c.args.design.now) c.args.roles.now (design_of c.args.design.now).sources c.put_heading.new.text.items f) (sym c.draft.view_is)
    (subst (λ roles. AddsSources (design_of c.args.design.now) roles (design_of c.args.design.now).sources c.put_heading.new.text.items c.add_sources.new.draft) c.in_ok-traced.ensures.roles
    (subst (λ net. AddsSources (design_of net) c.in_ok-traced.traced.roles.now (design_of net).sources c.put_heading.new.text.items c.add_sources.new.draft) c.in_ok-traced.ensures.design c.in_ok-add_sources.ensures)) in
    report_is c.args.top.now (design_of c.args.design.now) c.args.roles.now c.put_heading.new.text.items c.put_counts.new.text.items c.put_verdict.new.text.items front
    (search rules) all c.in_ok-put_counts.ensures c.in_ok-put_verdict.ensures

pub returns-clause-crossing : goal.returns-clause-crossing
returns-clause-crossing c =
    let front : Front = record { text = c.draft.inside.text.items; same = c.draft.inside.same; crossing = c.draft.inside.crossing } in
    let all = subst (λ (f : Front). AddsSources (design_of c.args.design.now) c.args.roles.now (design_of c.args.design.now).sources c.put_heading.new.text.items f) (sym c.draft.view_is)
    (subst (λ roles. AddsSources (design_of c.args.design.now) roles (design_of c.args.design.now).sources c.put_heading.new.text.items c.add_sources.new.draft) c.in_ok-traced.ensures.roles
    (subst (λ net. AddsSources (design_of net) c.in_ok-traced.traced.roles.now (design_of net).sources c.put_heading.new.text.items c.add_sources.new.draft) c.in_ok-traced.ensures.design c.in_ok-add_sources.ensures)) in
    crosses_is_counted (design_of c.args.design.now) c.args.roles.now c.put_heading.new.text.items front all

use Rattle.std.proofs.Common.{◌≡◌, length, ◌<◌, ◌≤◌, rules, sym, subst, ◌∙◌, OnOk, IfOk}
use Rattle.net_view.specs.View.{Numbered}
use Rattle.net_core.specs.declared.folds.Made.{Made}
use Rattle.net_core.specs.Folds.{folded, added, node_of}
use Rattle.net_core.specs.Net.{Net, IsDraft, IsFit, MayAdd, most_nodes, with_gates}
use Rattle.net_core.proofs.FitLemmas.{folded_fits}
use Rattle.net_core.proofs.CallLemmas.{draft_added, after_result, answer_inside, answer_value, answer_grows}
use Rattle.net_core.proofs.builder.NetBuilder.add.Goals as goal

pub put-requires-clause-fits : goal.put-requires-clause-fits
put-requires-clause-fits c =
    let net = c.self.inside.parts in
    let g : Numbered = c.args.gate in
    let made : c.fold-made.result ≡ folded net.gates g = c.fold-made.ensures ∙ (λ j. folded (c.gates-gates.ensures j) (c.numbers.ensures j)) in
    let may : MayAdd (length net.gates) g = subst (λ (n : Net). MayAdd (length n.gates) g) (sym c.self.view_is) c.requires in
    subst (IsFit (length net.gates)) (sym made) (folded_fits net.gates (length net.names) g c.self.invariant.net_is may)

pub invariant_of-self : goal.invariant_of-self
invariant_of-self c =
    let net = c.self.inside.parts in
    let g : Numbered = c.args.gate in
    let made : c.fold-made.result ≡ folded net.gates g = c.fold-made.ensures ∙ (λ j. folded (c.gates-gates.ensures j) (c.numbers.ensures j)) in
    let may : MayAdd (length net.gates) g = subst (λ (n : Net). MayAdd (length n.gates) g) (sym c.self.view_is) c.requires in
    let less : length net.gates < most_nodes = search rules in
    let ok = subst (λ (m : Made). OnOk c.put.result (c.put.new.parts ≡ with_gates net (added net.gates m))) made c.put.ensures.ok in
    after_result IsDraft c.put.result c.put.new.parts (with_gates net (added net.gates (folded net.gates g))) net ok c.put.ensures.err (draft_added net g c.self.invariant may less) c.self.invariant

pub returns-clause-inside : goal.returns-clause-inside
returns-clause-inside c =
    let net = c.self.inside.parts in
    let g : Numbered = c.args.gate in
    let made : c.fold-made.result ≡ folded net.gates g = c.fold-made.ensures ∙ (λ j. folded (c.gates-gates.ensures j) (c.numbers.ensures j)) in
    let may : MayAdd (length net.gates) g = subst (λ (n : Net). MayAdd (length n.gates) g) (sym c.self.view_is) c.requires in
    let ok = subst (λ (m : Made). OnOk c.put.result (c.put.new.parts ≡ with_gates net (added net.gates m))) made c.put.ensures.ok in
    let node = subst (λ (m : Made). IfOk c.put.result (λ n. n ≡ node_of net.gates m)) made c.put.ensures.node in
    answer_inside net c.put.new.parts g c.put.result c.self.invariant may node ok

pub returns-clause-value : goal.returns-clause-value
returns-clause-value c =
    let net = c.self.inside.parts in
    let g : Numbered = c.args.gate in
    let made : c.fold-made.result ≡ folded net.gates g = c.fold-made.ensures ∙ (λ j. folded (c.gates-gates.ensures j) (c.numbers.ensures j)) in
    let ok = subst (λ (m : Made). OnOk c.put.result (c.put.new.parts ≡ with_gates net (added net.gates m))) made c.put.ensures.ok in
    let node = subst (λ (m : Made). IfOk c.put.result (λ n. n ≡ node_of net.gates m)) made c.put.ensures.node in
    answer_value net c.put.new.parts g c.put.result node ok

pub returns-clause-grows : goal.returns-clause-grows
returns-clause-grows c =
    subst (λ (n : Net). length n.gates ≤ length c.put.new.parts.gates) c.self.view_is
    (answer_grows c.self.inside.parts c.put.new.parts c.fold-made.result c.put.result c.put.ensures.ok c.put.ensures.err)

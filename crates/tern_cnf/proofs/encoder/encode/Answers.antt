-- The clauses are those of the view and the question, whose models are the states.
use Rattle.std.proofs.Common.{subst, sym, List, ℤ}
use Rattle.tern_cnf.specs.States.{ModelsAreStates}
use Rattle.tern_cnf.proofs.GrownLemmas.{all_written}
use Rattle.tern_cnf.proofs.StatesLemmas.{models_are_states}
use Rattle.tern_cnf.proofs.encoder.encode.Goals as goal

pub returns-clause-models : goal.returns-clause-models
returns-clause-models g c =
    let gates = g.V.View.gates c.args.view.now in
    let fixed = c.args.question.now.fixed in
    let side = c.args.question.now.side in
    let written = all_written _ c.new-out.result c.add_nodes.new.out c.add_all.new.out fixed c.as_slice.result.now gates side _ c.new-out.ensures c.as_slice.ensures c.as_slice-2.ensures c.in_ok-add_nodes.ensures c.in_ok-add_all.ensures in
    subst (λ (cs : List (List ℤ)). ModelsAreStates gates fixed side cs) (sym written)
    (models_are_states gates (g.V.View.source_count c.args.view.now) fixed side c.nodes.ensures.lawful c.requires.fixed)

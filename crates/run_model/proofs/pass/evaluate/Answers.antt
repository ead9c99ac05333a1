use Rattle.net_view.specs.Values.{at}
use Rattle.net_view.proofs.ValuesLemmas.{valuation_is}
use Rattle.run_model.proofs.pass.evaluate.Goals as goal

pub returns : goal.returns
returns g c =
    valuation_is (g.V.View.gates c.args.view.now) (g.V.View.source_count c.args.view.now) (at c.args.sources.now) c.eval_into.new.buf c.nodes-nodes.ensures.lawful c.eval_into.ensures.value

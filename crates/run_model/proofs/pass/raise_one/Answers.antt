use Rattle.std.proofs.Common.{◌<◌, length, ap, ◌∙◌, arith}
use Rattle.net_view.specs.Values.{at}
use Rattle.run_model.specs.State.{with_value}
use Rattle.run_model.specs.Up.{up_value}
use Rattle.run_model.specs.Netlist.{net_of, sources_of}
use Rattle.run_model.proofs.Places.{at-set}
use Rattle.run_model.proofs.Falls.{raise_falls}
use Rattle.run_model.proofs.pass.raise_one.Goals as goal

pub returns-clause-raised : goal.returns-clause-raised
returns-clause-raised g c = λ s valued.
    let net = net_of (g.V.View.gates c.args.view.now) (g.V.FlopNet.names c.args.view.now) (g.V.FlopNet.kinds c.args.view.now) (g.V.FlopNet.named_bits c.args.view.now) in
    let n = g.V.View.source_number c.args.source in
    let inside : c.src_index-k.result < length c.args.new.now = omega arith in
    at-set c.args.new.now c.src_index-k.result c.up_of-now.result inside
    ∙ ap (λ k. with_value (at c.args.new.now) k c.up_of-now.result) c.src_index-k.ensures
    ∙ ap (λ v. with_value (at c.args.new.now) n v) (c.up_of-now.ensures.value s valued ∙ ap (λ v. up_value (sources_of net n) s v) (c.value_at-before.ensures ∙ ap (λ k. at c.args.new.now k) c.src_index-k.ensures))

pub returns-clause-falls : goal.returns-clause-falls
returns-clause-falls g c =
    let inside : c.src_index-k.result < length c.args.new.now = omega arith in
    raise_falls c.args.new.now c.src_index-k.result c.value_at-before.result c.up_of-now.result c.is_unsettling.result c.value_at-before.ensures inside c.up_of-now.ensures.raised c.is_unsettling.ensures

-- One more bit is a flop.
use Rattle.std.proofs.Common.{◌<◌, take, get_or}
use Rattle.cons_bind.specs.Names.{net_of}
use Rattle.cons_bind.proofs.MeaningLemmas.{flops_push, all_push}
use Rattle.cons_bind.proofs.ClaimsLemmas.{take_next}
use Rattle.cons_bind.proofs.tracks.flops_of.Goals as goal

pub bits-preserved : goal.bits-preserved
bits-preserved g c =
    let net = net_of (g.V.View.gates c.args.view.now) (g.V.FlopNet.names c.args.view.now) (g.V.FlopNet.kinds c.args.view.now) (g.V.FlopNet.named_bits c.args.view.now) in
    record {
      flops = rw (c.in_ok-push.ensures.items, take_next c.args.bits.now c.bits.b-index c.bits-test.true) (flops_push net (take c.bits.b-index c.args.bits.now) c.bits.flops.items (get_or c.args.bits.now c.bits.b-index 0) c.in-Some.flop c.bits.invariant.flops c.in-Some.ensures.source);
      within = rw c.in_ok-push.ensures.items (all_push (λ s. s < g.V.View.source_count c.args.view.now) c.bits.flops.items c.in-Some.flop c.bits.invariant.within c.in-Some.ensures.within);
    }

-- The bits so far are these flops.
use Rattle.std.proofs.Common.{◌<◌, take, All}
use Rattle.cons_bind.specs.Names.{net_of}
use Rattle.cons_bind.specs.Meaning.{AreFlops}
use Rattle.cons_bind.proofs.tracks.flops_of.Given as goal

abbrev pub invariant-bits : goal.invariant-bits
invariant-bits g l = record {
  flops : AreFlops (net_of (g.V.View.gates l.view) (g.V.FlopNet.names l.view) (g.V.FlopNet.kinds l.view) (g.V.FlopNet.named_bits l.view)) (take l.b-index l.bits) l.flops.items;
  within : All (λ s. s < g.V.View.source_count l.view) l.flops.items;
}

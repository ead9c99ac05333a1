-- The lines so far are bound, and their claims are taken.
use Rattle.std.proofs.Common.{◌≡◌, ◌≤◌, [], map, take, length}
use Rattle.cons_file.specs.File.{stated}
use Rattle.cons_bind.specs.Names.{net_of}
use Rattle.cons_bind.specs.Claims.{tracks_in, all_of}
use Rattle.cons_bind.specs.Binding.{forms_of, AreBound}
use Rattle.cons_bind.specs.Taken.{IsTaken, AreSized}
use Rattle.cons_bind.proofs.binder.bind.Given as goal

abbrev pub invariant-lines : goal.invariant-lines
invariant-lines g l = record {
  bound : AreBound (net_of (g.V.View.gates l.view) (g.V.FlopNet.names l.view) (g.V.FlopNet.kinds l.view) (g.V.FlopNet.named_bits l.view)) (map stated l.lines) [] (map stated (take l.line-index l.lines)) l.bound.items;
  taken : IsTaken (forms_of l.bound.items) l.taken;
  sized : AreSized (g.V.View.source_count l.view) l.taken;
  tracked : l.tracked ≡ length (all_of tracks_in (forms_of l.bound.items));
  few : l.tracked ≤ 16;
}

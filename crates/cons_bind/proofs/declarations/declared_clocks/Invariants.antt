-- What the lines so far declare is marked.
use Rattle.std.proofs.Common.{◌≡◌, map, take, length}
use Rattle.cons_file.specs.File.{stated}
use Rattle.cons_bind.specs.Names.{net_of}
use Rattle.cons_bind.specs.Declarations.{IsDeclaredClock}
use Rattle.cons_bind.specs.Marks.{Marks}
use Rattle.cons_bind.proofs.declarations.declared_clocks.Given as goal

abbrev pub invariant-lines : goal.invariant-lines
invariant-lines g l =
    let net = net_of (g.V.View.gates l.view) (g.V.FlopNet.names l.view) (g.V.FlopNet.kinds l.view) (g.V.FlopNet.named_bits l.view) in
    record { marks : Marks (IsDeclaredClock net (map stated (take l.line-index l.lines))) l.marks.items; len : length l.marks.items ≡ g.V.View.source_count l.view }

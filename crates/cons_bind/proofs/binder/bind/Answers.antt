-- One more line is bound, or stops.
use Rattle.std.proofs.Common.{◌+◌, [], map, take, drop, get_or, refl, subst, arith}
use Rattle.std.proofs.lemmas.List.{map_more, take_all}
use Rattle.cons_file.specs.File.{stated}
use Rattle.cons_bind.specs.Names.{net_of}
use Rattle.cons_bind.specs.Claims.{IsReadSource}
use Rattle.cons_bind.specs.Marks.{Marks}
use Rattle.cons_bind.specs.DeclaredIn.{AreDeclared}
use Rattle.cons_bind.specs.Binding.{AreBound}
use Rattle.cons_bind.specs.Taken.{AreSized}
use Rattle.cons_bind.proofs.LinesLemmas.{no_line}
use Rattle.cons_bind.proofs.BindingLemmas.{bound_push, fault_binds, map_parts, forms_push}
use Rattle.cons_bind.proofs.binder.bind.Goals as goal

pub lines-init : goal.lines-init
lines-init g c = rw c.in_ok-bound.ensures.items (record {
  bound = tt;
  taken = c.in_ok-taken.ensures.taken;
  sized = subst (λ n. AreSized n c.in_ok-taken.taken) c.sources.ensures c.in_ok-taken.ensures.sized;
  tracked = refl;
  few = omega arith;
})

pub lines-preserved : goal.lines-preserved
lines-preserved g c =
    let net = net_of (g.V.View.gates c.args.view.now) (g.V.FlopNet.names c.args.view.now) (g.V.FlopNet.kinds c.args.view.now) (g.V.FlopNet.named_bits c.args.view.now) in
    let all = map stated c.args.lines.now in
    let line = stated (get_or c.args.lines.now c.lines.line-index no_line) in
    let declared : AreDeclared net all (record { resets = c.in_ok-resets.resets; clocks = c.in_ok-clocks.clocks }) = record { resets = c.in_ok-resets.ensures.marks; clocks = c.in_ok-clocks.ensures.marks } in
    let reads : Marks (IsReadSource net) c.deref.result.now = rw c.deref.ensures.value c.in_ok-reads.ensures.marks in
    let said = c.in-Ok.ensures.line all c.lines.bound.items declared reads c.lines.invariant.taken c.lines.invariant.tracked in
    rw (map_more stated c.args.lines.now c.lines.line-index no_line c.lines-test.true, c.in_ok-push-in-Ok.ensures.items, forms_push)
    (record {
      bound = bound_push net all [] (map stated (take c.lines.line-index c.args.lines.now)) c.lines.bound.items line _ c.lines.invariant.bound refl said.0;
      taken = said.1;
      sized = c.in-Ok.ensures.sized;
      tracked = said.2;
      few = c.in-Ok.ensures.few;
    })

pub returns-in-Err : goal.returns-in-Err
returns-in-Err g c =
    let net = net_of (g.V.View.gates c.args.view.now) (g.V.FlopNet.names c.args.view.now) (g.V.FlopNet.kinds c.args.view.now) (g.V.FlopNet.named_bits c.args.view.now) in
    let all = map stated c.args.lines.now in
    let front = map stated (take c.lines.line-index c.args.lines.now) in
    let back = map stated (drop (c.lines.line-index + 1) c.args.lines.now) in
    let line = stated (get_or c.args.lines.now c.lines.line-index no_line) in
    let declared : AreDeclared net all (record { resets = c.in_ok-resets.resets; clocks = c.in_ok-clocks.clocks }) = record { resets = c.in_ok-resets.ensures.marks; clocks = c.in_ok-clocks.ensures.marks } in
    let reads : Marks (IsReadSource net) c.deref.result.now = rw c.deref.ensures.value c.in_ok-reads.ensures.marks in
    let fails = c.in-Err.ensures.line all c.lines.bound.items declared reads c.lines.invariant.taken c.lines.invariant.tracked in
    rw c.at.ensures (fault_binds net all front back line c.lines.bound.items c.in-Err.cause (map_parts stated c.args.lines.now c.lines.line-index no_line c.lines-test.true) c.lines.invariant.bound fails)

pub returns : goal.returns
returns g c =
    let net = net_of (g.V.View.gates c.args.view.now) (g.V.FlopNet.names c.args.view.now) (g.V.FlopNet.kinds c.args.view.now) (g.V.FlopNet.named_bits c.args.view.now) in
    let all = map stated c.args.lines.now in
    let whole = take_all c.lines.line-index c.args.lines.now c.lines-test.false in
    rw c.from_vec.ensures (subst (λ ls. AreBound net all [] (map stated ls) c.lines.bound.items) whole c.lines.invariant.bound)

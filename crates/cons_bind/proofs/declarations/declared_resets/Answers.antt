-- One more line is looked at.
use Rattle.std.proofs.Common.{◌≡◌, ◌<◌, ◌∷◌, [], ◌++◌, true, map, take, get_or, length, Bool, Vec, Global, sym, subst, ◌∙◌, arith, length-set}
use Rattle.std.proofs.lemmas.List.{map_more}
use Rattle.cons_file.specs.File.{stated}
use Rattle.cons_bind.specs.Names.{net_of}
use Rattle.cons_bind.specs.Declarations.{DeclaresReset, IsDeclaredReset}
use Rattle.cons_bind.specs.Marks.{Marks}
use Rattle.cons_bind.proofs.LinesLemmas.{line_marks, line_skips, no_line}
use Rattle.cons_bind.proofs.NamesLemmas.{reset_once}
use Rattle.cons_bind.proofs.declarations.declared_resets.Goals as goal
use Rattle.cons_bind.proofs.declarations.declared_resets.Goals.{in-Some, in_default}

pub lines-preserved : goal.lines-preserved
lines-preserved g c =
    let net = net_of (g.V.View.gates c.args.view.now) (g.V.FlopNet.names c.args.view.now) (g.V.FlopNet.kinds c.args.view.now) (g.V.FlopNet.named_bits c.args.view.now) in
    let before = map stated (take c.lines.line-index c.args.lines.now) in
    let line = stated (get_or c.args.lines.now c.lines.line-index no_line) in
    let Done : Vec Bool Global → Type 0 = λ found. record { marks : Marks (IsDeclaredReset net (before ++ (line ∷ []))) found.items; len : length found.items ≡ g.V.View.source_count c.args.view.now } in
    rw (map_more stated c.args.lines.now c.lines.line-index no_line c.lines-test.true)
    (elim c.match-reset_of.branch [
      | in-Some w ↦
          let lt : w.in-Some.source < length c.lines.marks.items = omega (arith, c.lines.invariant.len, w.in-Some.ensures.within) in
          subst Done (sym w.marks-is) (record {
            marks = line_marks (DeclaresReset net) (reset_once net) before line c.lines.marks.items w.in-Some.source lt w.in-Some.ensures.source c.lines.invariant.marks;
            len = length-set c.lines.marks.items w.in-Some.source true ∙ c.lines.invariant.len;
          })
      | in_default w ↦
          subst Done (sym w.marks-is) (record {
            marks = line_skips (DeclaresReset net) before line c.lines.marks.items w.in_default.ensures.source c.lines.invariant.marks;
            len = c.lines.invariant.len;
          })
    ])

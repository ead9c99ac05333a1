use Rattle.std.proofs.Common.{arith}
use Rattle.thin_form.specs.Netlist.{design_of}
use Rattle.thin_form.proofs.DesignOf.{length-design_of}
use Rattle.rdcsign.proofs.DraftLemmas.{sources_more}
use Rattle.rdcsign.proofs.report.add_sources.Goals as goal

pub sources-preserved : goal.sources-preserved
sources-preserved c =
    sources_more (design_of c.args.traced.now.design.now) c.args.traced.now.roles.now c.sources.n c.args.draft.now.text c.sources.draft c.add_source.new.draft (omega (arith, c.sources-test.true, c.sources-n-end.ensures.value, length-design_of c.args.traced.now.design.now)) c.sources.invariant c.in_ok-add_source.ensures

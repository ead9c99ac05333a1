use Rattle.std.proofs.Common.{refl, inl, inr}
use Rattle.run_model.specs.declared.phase.Phase.TheVariants.{Inactive, Unsure}
use Rattle.run_model.specs.Netlist.{net_of, sources_of, renumbered_flop, flop_meaning, level_of}
use Rattle.run_model.proofs.Reading.{flop_settles, flop_stays}
use Rattle.run_model.proofs.calms.settled_value.Goals as goal

pub returns-in-Active : goal.returns-in-Active
returns-in-Active g c = λ s valued.
    let net = net_of (g.V.View.gates c.args.view.now) (g.V.FlopNet.names c.args.view.now) (g.V.FlopNet.kinds c.args.view.now) (g.V.FlopNet.named_bits c.args.view.now) in
    let n = c.args.number in
    flop_settles (sources_of net n) (flop_meaning net n (renumbered_flop g.V.View.node_number c.in-Some.flop)) c.in-Some.ensures.value
    (level_of c.args.resets.now n) s (s n) c.level_value.result c.phase.result (c.phase.ensures net n s refl valued) c.in-Active.is c.level_value.ensures

pub returns-in-Inactive : goal.returns-in-Inactive
returns-in-Inactive g c = λ s valued.
    let net = net_of (g.V.View.gates c.args.view.now) (g.V.FlopNet.names c.args.view.now) (g.V.FlopNet.kinds c.args.view.now) (g.V.FlopNet.named_bits c.args.view.now) in
    let n = c.args.number in
    let x = sources_of net n in
    let f = flop_meaning net n (renumbered_flop g.V.View.node_number c.in-Some.flop) in
    let phase_is = c.phase.ensures net n s refl valued in
    elim c.in-Inactive.is [
      | inl now ↦ flop_stays x f c.in-Some.ensures.value (level_of c.args.resets.now n) s c.phase.result Inactive phase_is now (λ e. cc)
      | inr now ↦ flop_stays x f c.in-Some.ensures.value (level_of c.args.resets.now n) s c.phase.result Unsure phase_is now (λ e. cc)
    ]

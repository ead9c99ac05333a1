use Rattle.std.proofs.Common.{◌≡◌, List, None, sym, ap, ◌∙◌, subst, map, arith}
use Rattle.rdc_tern.specs.declared.value.Tern.{Tern}
use Rattle.net_view.specs.Values.{at}
use Rattle.run_model.specs.Netlist.{net_of, machine_of}
use Rattle.run_model.specs.Passes.{FallsIf}
use Rattle.run_model.proofs.Rounds.{rounds_go_on, rounds_end}
use Rattle.run_model.proofs.pass.raise_all.Goals as goal

pub rounds-preserved : goal.rounds-preserved
rounds-preserved g c =
    let net = net_of (g.V.View.gates c.args.view.now) (g.V.FlopNet.names c.args.view.now) (g.V.FlopNet.kinds c.args.view.now) (g.V.FlopNet.named_bits c.args.view.now) in
    let m = machine_of net (λ n. None) (λ n. None) (map g.V.View.source_number c.args.order.now) in
    record {
      lawful = c.rounds.invariant.lawful;
      way = rounds_go_on m c.rounds.invariant.lawful (at c.args.new.now) (at c.rounds.new) (at c.raise_round.new.new) c.rounds.invariant.way
          (c.raise_round.ensures.raised (at c.rounds.new) c.rounds.invariant.valued);
      valued = c.evaluate.ensures;
      fits = omega arith;
    }

pub returns-clause-raised : goal.returns-clause-raised
returns-clause-raised g c =
    let net = net_of (g.V.View.gates c.args.view.now) (g.V.FlopNet.names c.args.view.now) (g.V.FlopNet.kinds c.args.view.now) (g.V.FlopNet.named_bits c.args.view.now) in
    let m = machine_of net (λ n. None) (λ n. None) (map g.V.View.source_number c.args.order.now) in
    let same : ◌≡◌ {A = List Tern} c.raise_round.new.new c.rounds.new = subst (λ b. FallsIf b c.rounds.new c.raise_round.new.new) c.rounds-test.false c.raise_round.ensures.falls in
    ap at same
    ∙ rounds_end m c.rounds.invariant.lawful (at c.args.new.now) (at c.rounds.new) c.rounds.invariant.way
    (sym (ap at same) ∙ c.raise_round.ensures.raised (at c.rounds.new) c.rounds.invariant.valued)

-- The numbers of a lawful netlist's flop are within it.
use Rattle.std.proofs.Common.{refl, sym, ◌∙◌, arith}
use Rattle.thin_form.specs.Netlist.{formulas}
use Rattle.thin_form.proofs.DesignOf.{mapped_len}
use Rattle.thin_cons.specs.Roles.{reads_clock}
use Rattle.thin_cons.proofs.NetLemmas.{met_input, met_register}
use Rattle.thin_cons.proofs.judge.is_met_at.Goals as goal

pub is_met-requires-clause-clock : goal.is_met-requires-clause-clock
is_met-requires-clause-clock c =
    let flop = c.requires.lawful.flops c.args.n c.in-Register.flop (sym c.kind.ensures ∙ c.in-Register.is) in
    omega (arith, flop.clock, c.requires.whole)

pub is_met-requires-clause-pin : goal.is_met-requires-clause-pin
is_met-requires-clause-pin c =
    let flop = c.requires.lawful.flops c.args.n c.in-Register.flop (sym c.kind.ensures ∙ c.in-Register.is) in
    omega (arith, flop.pin, c.requires.whole)

pub is_met-requires-clause-node : goal.is_met-requires-clause-node
is_met-requires-clause-node c =
    let flop = c.requires.lawful.flops c.args.n c.in-Register.flop (sym c.kind.ensures ∙ c.in-Register.is) in
    omega (arith, flop.«data», mapped_len (reads_clock c.args.roles.now) c.args.design.now.nodes c.args.marks.now c.requires.marked)

pub returns-in-Input : goal.returns-in-Input
returns-in-Input c = (λ _. met_input c.args.design.now c.args.roles.now c.args.n (sym c.kind.ensures ∙ c.in-Input.is), λ _. refl)

pub returns-in-Register : goal.returns-in-Register
returns-in-Register c =
    let met = c.is_met.ensures (formulas c.args.design.now.nodes) c.requires.marked in
    let at = met_register c.args.design.now c.args.roles.now c.args.n c.in-Register.flop (sym c.kind.ensures ∙ c.in-Register.is) in
    (λ yes. at.0 (met.0 yes), λ all. met.1 (at.1 all))

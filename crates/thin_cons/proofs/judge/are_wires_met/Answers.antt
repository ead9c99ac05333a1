-- Each wire is met in turn.
use Rattle.std.proofs.Common.{◌≡◌, ◌<◌, length, false, IsTrue, refl, sym, subst, ◌∙◌, inl, inr, arith}
use Rattle.std.proofs.lemmas.Bool.{cases_lt}
use Rattle.std.proofs.lemmas.Option.{slice_get_within}
use Rattle.thin_form.specs.Netlist.{NetBit, formulas, wire_of}
use Rattle.thin_form.specs.Kept.{a_bit}
use Rattle.thin_cons.specs.Roles.{reads_clock}
use Rattle.thin_form.proofs.DesignOf.{mapped_len, mapped_at}
use Rattle.thin_cons.proofs.NetLemmas.{bit_within, one_bit, all_wires, wire_there}
use Rattle.thin_cons.proofs.judge.are_wires_met.Goals as goal

pub is_wire_met-requires : goal.is_wire_met-requires
is_wire_met-requires c = omega (
  arith,
  bit_within c.args.design.now.bits (length c.args.design.now.nodes) c.loop-b.b (a_bit c.bit.result) c.requires.lawful.within c.bit.ensures,
  mapped_len (reads_clock c.args.roles.now) c.args.design.now.nodes c.args.marks.now c.requires.marked,
)

pub returns-then-not-is_wire_met : goal.returns-then-not-is_wire_met
returns-then-not-is_wire_met c =
    let fs = formulas c.args.design.now.nodes in
    let lt : c.bit.result.node < length c.args.marks.now = omega (
      arith,
      bit_within c.args.design.now.bits (length c.args.design.now.nodes) c.loop-b.b (a_bit c.bit.result) c.requires.lawful.within c.bit.ensures,
      mapped_len (reads_clock c.args.roles.now) c.args.design.now.nodes c.args.marks.now c.requires.marked,
    ) in
    (λ no. absurd cc, λ all. sym c.if-not-is_wire_met.true ∙ c.is_wire_met.ensures.1 (λ is. mapped_at (reads_clock c.args.roles.now) fs c.args.marks.now c.bit.result.node false c.requires.marked lt ∙ wire_there (λ w. reads_clock c.args.roles.now w.value ≡ false) fs c.args.design.now.bits c.loop-b.b (a_bit c.bit.result) all c.bit.ensures is))

pub loop-b-preserved : goal.loop-b-preserved
loop-b-preserved c = λ k bit lt at is.
    let fs = formulas c.args.design.now.nodes in
    elim (cases_lt k c.loop-b.b) [
      | inl before ↦ c.loop-b.invariant k bit before at is
      | inr past ↦
          let here : k ≡ c.loop-b.b = omega arith in
          let same : a_bit c.bit.result ≡ bit = one_bit c.args.design.now.bits k c.loop-b.b (a_bit c.bit.result) bit here c.bit.ensures at in
          let within : c.bit.result.node < length c.args.marks.now = omega (
            arith,
            bit_within c.args.design.now.bits (length c.args.design.now.nodes) c.loop-b.b (a_bit c.bit.result) c.requires.lawful.within c.bit.ensures,
            mapped_len (reads_clock c.args.roles.now) c.args.design.now.nodes c.args.marks.now c.requires.marked,
          ) in
          let wire = subst (λ (b : NetBit). IsTrue b.wire) (sym same) is in
          subst (λ (b : NetBit). reads_clock c.args.roles.now (wire_of fs b).value ≡ false) same
          (sym (mapped_at (reads_clock c.args.roles.now) fs c.args.marks.now c.bit.result.node false c.requires.marked within) ∙ c.is_wire_met.ensures.0 c.if-not-is_wire_met.false wire)
    ]

pub returns : goal.returns
returns c = (
  λ _. all_wires (λ w. reads_clock c.args.roles.now w.value ≡ false) (formulas c.args.design.now.nodes) c.args.design.now.bits
      (λ k b at is. c.loop-b.invariant k b (omega (arith, slice_get_within c.args.design.now.bits k b at, c.loop-b-test.false, c.bits-b-end.ensures)) at is),
  λ _. refl,
)

-- What a flat design weighs.
--     bits_weight d                    its declared bits, one each
--     driver_weight d x, gate_weight d g, body_weight d u      a driver, a gate, and the body of a process without loops
--     weight d n us                    all of a design of n instances, whose processes have these bodies
use Rattle.std.specs.Prelude.{ℕ, ◌+◌, List}
use Rattle.std.specs.List.{sum_by}
use Rattle.design_form.specs.declared.parts.Driver.{Driver}
use Rattle.design_form.specs.declared.parts.GateUse.{GateUse}
use Rattle.design_form.specs.declared.parts.Parts.{Parts}
use Rattle.design_form.specs.Signals.{bounds_of, width_of}
use Rattle.design_sizes.specs.Sizes.{sized_assignment, sized_statement}
use Rattle.proc_loops.specs.declared.turn.Unrolled.{Unrolled}
use Rattle.elab_weight.specs.PartWeights.{parts_weight}
use Rattle.elab_weight.specs.GateParts.{sized_gate}
use Rattle.elab_weight.specs.TargetBits.{assigned}
use Rattle.elab_weight.specs.Choices.{choice_weight}

abbrev pub bits_weight : Parts → ℕ
bits_weight d = sum_by (λ s. width_of (bounds_of s)) d.signals

abbrev pub driver_weight : Parts → Driver → ℕ
driver_weight d x = parts_weight d (sized_assignment d x.target x.value)

abbrev pub gate_weight : Parts → GateUse → ℕ
gate_weight d g = parts_weight d (sized_gate d g)

-- its expressions, the headers of its loops, and what selects among its bits
abbrev pub body_weight : Parts → Unrolled → ℕ
body_weight d u = parts_weight d (sized_statement d u.body) + u.headers + choice_weight d (assigned d u.body) u.body

-- instances, bits, drivers, gates and processes
abbrev pub weight : Parts → ℕ → List Unrolled → ℕ
weight d n us = n + bits_weight d + sum_by (driver_weight d) d.drivers + sum_by (gate_weight d) d.gates + sum_by (body_weight d) us

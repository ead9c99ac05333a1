-- What is left decides.
use Rattle.std.proofs.Common.{◌≡◌, drop}
use Rattle.elab_drivers.specs.Drafts.{draft_of}
use Rattle.elab_binds.specs.Connections.{paired}
use Rattle.elab_binds.specs.Bindings.{binding, pin_input, pin_name}
use Rattle.elab_binds.proofs.binding.connect_paired.Given as goal

abbrev pub invariant-loop-k : goal.invariant-loop-k
invariant-loop-k l = paired (λ t pin value. binding l.prefix t (pin_name pin) (pin_input pin) value) (draft_of l.d) (drop l.k l.pins) (drop l.k l.values) ≡ paired (λ t pin value. binding l.prefix t (pin_name pin) (pin_input pin) value) (draft_of l.fn.d) l.pins l.values

use Rattle.std.proofs.Common.{arith}
use Rattle.elab_drivers.specs.Drafts.{draft_of}
use Rattle.elab_binds.specs.Connections.{paired}
use Rattle.elab_binds.specs.Bindings.{binding, pin_input, pin_name}
use Rattle.elab_binds.proofs.PairLemmas.{one_pair, pair_stops, all_pairs}
use Rattle.elab_binds.proofs.binding.connect_paired.Goals as goal

pub loop-k-preserved : goal.loop-k-preserved
loop-k-preserved c =
    one_pair (λ t pin value. binding c.args.prefix.now t (pin_name pin) (pin_input pin) value) (draft_of c.loop-k.d) (draft_of c.connect_pin.new.d) (paired (λ t pin value. binding c.args.prefix.now t (pin_name pin) (pin_input pin) value) (draft_of c.args.d.now) c.args.pins.now c.args.values.now) c.args.pins.now c.args.values.now c.loop-k.k c.index-pins-k.result c.index-values-k.result (omega arith) (omega arith) c.index-pins-k.is c.index-values-k.is c.loop-k.invariant c.in-Ok.ensures

pub returns-in-Err : goal.returns-in-Err
returns-in-Err c =
    pair_stops (λ t pin value. binding c.args.prefix.now t (pin_name pin) (pin_input pin) value) (draft_of c.loop-k.d) (paired (λ t pin value. binding c.args.prefix.now t (pin_name pin) (pin_input pin) value) (draft_of c.args.d.now) c.args.pins.now c.args.values.now) c.in-Err.fault c.args.pins.now c.args.values.now c.loop-k.k c.index-pins-k.result c.index-values-k.result (omega arith) (omega arith) c.index-pins-k.is c.index-values-k.is c.loop-k.invariant c.in-Err.ensures

pub returns : goal.returns
returns c = all_pairs (λ t pin value. binding c.args.prefix.now t (pin_name pin) (pin_input pin) value) (draft_of c.loop-k.d) (paired (λ t pin value. binding c.args.prefix.now t (pin_name pin) (pin_input pin) value) (draft_of c.args.d.now) c.args.pins.now c.args.values.now) c.args.pins.now c.args.values.now c.loop-k.k (omega arith) c.loop-k.invariant

-- What is left decides what all leave done.
use Rattle.std.proofs.Common.{◌≡◌, None, drop}
use Rattle.std.specs.Option.{option_map}
use Rattle.vlog_proc.specs.Paths.{also, in_turn, item_walk, walk}
use Rattle.vlog_proc.proofs.paths.+walking.Given as goal

abbrev pub invariant-in_turn-loop-s : goal.invariant-in_turn-loop-s
invariant-in_turn-loop-s l = in_turn (walk l.design l.bits.keys) (drop l.s-index l.ss) l.done.keys ≡ in_turn (walk l.design l.bits.keys) l.ss l.fn.done.keys

abbrev pub invariant-together-loop-arm : goal.invariant-together-loop-arm
invariant-together-loop-arm l =
    also (item_walk l.design l.bits.keys (walk l.design l.bits.keys)) (drop l.arm-index l.arms) (option_map (λ set. set.keys) l.met) l.done.keys ≡ also (item_walk l.design l.bits.keys (walk l.design l.bits.keys)) l.arms None l.done.keys

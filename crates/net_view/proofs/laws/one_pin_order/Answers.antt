use Rattle.std.proofs.Common.{[]}
use Rattle.net_view.specs.PinOrder.{IsFlop, DependsOn, IsNamedBefore}
use Rattle.net_view.proofs.OrderLemmas.{order_once, no_loop, named_once}
use Rattle.net_view.proofs.laws.one_pin_order.Goals as goal

pub returns-clause-at_most_one : goal.returns-clause-at_most_one
returns-clause-at_most_one c = λ gates names kinds a b h k. order_once (IsFlop kinds) (DependsOn gates kinds) (IsNamedBefore names) (named_once names) [] a b h k

pub returns-clause-no_cycle : goal.returns-clause-no_cycle
returns-clause-no_cycle c =
    λ gates names kinds order flops h k. no_loop (IsFlop kinds) (DependsOn gates kinds) (IsNamedBefore names) (λ f g d. (d.flop, d.is_flop)) order flops h k

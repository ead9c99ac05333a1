use Rattle.std.proofs.Common.{◌≡◌, rules, sym, subst}
use Rattle.net_core.specs.Net.{IsWhole}
use Rattle.core_tests.specs.BuiltNet.{built_net}
use Rattle.core_tests.proofs.BuiltNetLemmas.{built_whole}
use Rattle.core_tests.proofs.built.built.Goals as goal

pub finish-requires : goal.finish-requires
finish-requires c =
    let whole : c.kind.new.self ≡ built_net = search rules in
    subst IsWhole (sym whole) built_whole

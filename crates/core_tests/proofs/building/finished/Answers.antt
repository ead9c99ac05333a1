use Rattle.std.proofs.Common.{sym}
use Rattle.core_tests.proofs.BuiltNetLemmas.{ports_whole}
use Rattle.core_tests.proofs.building.finished.Goals as goal

pub finish-requires : goal.finish-requires
finish-requires c = ports_whole c.args.net (sym c.requires.kinds) (sym c.requires.bits)

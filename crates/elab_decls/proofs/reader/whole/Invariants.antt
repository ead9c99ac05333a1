-- What is left decides.
use Rattle.std.proofs.Common.{◌≡◌, None, drop}
use Rattle.std.specs.Option.{option_copied}
use Rattle.elab_decls.specs.Mentions.{spread}
use Rattle.elab_decls.specs.Tables.{table_of, whole}
use Rattle.elab_decls.proofs.reader.whole.Given as goal

abbrev pub invariant-loop-port : goal.invariant-loop-port
invariant-loop-port l = whole (table_of l.table) (spread (option_copied l.last) (drop l.port-index l.ports)) ≡ whole (table_of l.table) (spread None l.ports)

-- What is left of the items decides.
use Rattle.std.proofs.Common.{◌≡◌, drop}
use Rattle.std.specs.List.{flat_map}
use Rattle.elab_decls.specs.Mentions.{said_of_item}
use Rattle.elab_decls.specs.Tables.{entries, table_of}
use Rattle.elab_decls.proofs.reader.+items.Given as goal

abbrev pub invariant-enter_items-loop-item : goal.invariant-enter_items-loop-item
invariant-enter_items-loop-item l = entries (table_of l.table) (flat_map said_of_item (drop l.item-index l.items)) ≡ entries (table_of l.fn.table) (flat_map said_of_item l.items)

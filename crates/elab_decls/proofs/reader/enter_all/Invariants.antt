-- What is left decides.
use Rattle.std.proofs.Common.{◌≡◌, drop}
use Rattle.elab_decls.specs.Mentions.{all_said}
use Rattle.elab_decls.specs.Tables.{entries, table_of}
use Rattle.elab_decls.proofs.reader.enter_all.Given as goal

abbrev pub invariant-loop-one : goal.invariant-loop-one
invariant-loop-one g l =
    entries (table_of l.table) (all_said g.N.Naming.ident l.sort l.signed (drop l.one-index l.all)) ≡ entries (table_of l.fn.table) (all_said g.N.Naming.ident l.sort l.signed l.all)

use Rattle.std.proofs.Common.{arith}
use Rattle.elab_decls.specs.Mentions.{said_if}
use Rattle.elab_decls.specs.Tables.{table_of}
use Rattle.elab_decls.proofs.ListLemmas.{one_more, one_refused, all_entered}
use Rattle.elab_decls.proofs.reader.enter_all.Goals as goal

pub loop-one-preserved : goal.loop-one-preserved
loop-one-preserved g c =
    one_more (λ x. said_if c.args.sort c.args.signed (g.N.Naming.ident x)) (table_of c.loop-one.table) (table_of c.enter_one.new.table) (table_of c.args.table.now) c.args.all.now c.loop-one.one-index c.one-item.result (omega arith) c.one-item.is c.loop-one.invariant c.in-Ok.ensures

pub returns-in-Err : goal.returns-in-Err
returns-in-Err g c =
    one_refused (λ x. said_if c.args.sort c.args.signed (g.N.Naming.ident x)) (table_of c.loop-one.table) (table_of c.args.table.now) c.in-Err.fault c.args.all.now c.loop-one.one-index c.one-item.result (omega arith) c.one-item.is c.loop-one.invariant c.in-Err.ensures

pub returns : goal.returns
returns g c = all_entered (λ x. said_if c.args.sort c.args.signed (g.N.Naming.ident x)) (table_of c.loop-one.table) (table_of c.args.table.now) c.args.all.now c.loop-one.one-index (omega arith) c.loop-one.invariant

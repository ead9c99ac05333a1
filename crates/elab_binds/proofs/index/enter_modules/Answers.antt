use Rattle.std.proofs.Common.{arith}
use Rattle.elab_binds.specs.Books.{book_of, modules_from}
use Rattle.elab_binds.proofs.BookLemmas.{one_module, all_modules}
use Rattle.elab_binds.proofs.index.enter_modules.Goals as goal

pub loop-k-preserved : goal.loop-k-preserved
loop-k-preserved c =
    one_module (book_of c.loop-k.index) (book_of c.enter_module.new.self) (modules_from (book_of c.args.index.now) 0 c.args.modules.now) c.args.modules.now c.loop-k.k c.index-modules-k.result c.as_slice.result.now (omega arith) c.index-modules-k.is c.as_slice.ensures c.loop-k.invariant c.in_ok-enter_module.ensures

pub returns : goal.returns
returns c = all_modules (book_of c.loop-k.index) (modules_from (book_of c.args.index.now) 0 c.args.modules.now) c.args.modules.now c.loop-k.k (omega arith) c.loop-k.invariant

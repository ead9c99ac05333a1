use Rattle.std.proofs.Common.{arith}
use Rattle.elab_binds.specs.Books.{book_of, boxes_from}
use Rattle.elab_binds.proofs.BookLemmas.{one_box, all_boxes}
use Rattle.elab_binds.proofs.index.enter_boxes.Goals as goal

pub loop-k-preserved : goal.loop-k-preserved
loop-k-preserved c =
    one_box (book_of c.loop-k.index) (book_of c.enter_box.new.self) (boxes_from (book_of c.args.index.now) 0 c.args.boxes.now) c.args.boxes.now c.loop-k.k c.index-boxes-k.result c.as_slice.result.now (omega arith) c.index-boxes-k.is c.as_slice.ensures c.loop-k.invariant c.in_ok-enter_box.ensures

pub returns : goal.returns
returns c = all_boxes (book_of c.loop-k.index) (boxes_from (book_of c.args.index.now) 0 c.args.boxes.now) c.args.boxes.now c.loop-k.k (omega arith) c.loop-k.invariant

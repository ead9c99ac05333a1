-- What is left decides.
use Rattle.std.proofs.Common.{◌≡◌, drop}
use Rattle.elab_binds.specs.Books.{book_of, boxes_from}
use Rattle.elab_binds.proofs.index.enter_boxes.Given as goal

abbrev pub invariant-loop-k : goal.invariant-loop-k
invariant-loop-k l = boxes_from (book_of l.index) l.k (drop l.k l.boxes) ≡ boxes_from (book_of l.fn.index) 0 l.boxes

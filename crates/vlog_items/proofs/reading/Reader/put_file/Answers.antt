-- A file adds its bytes and its end.
use Rattle.std.proofs.Common.{arith, length-append}
use Rattle.vlog_items.specs.Items.{items_of_file}
use Rattle.vlog_items.proofs.StackLemmas.{file_length}
use Rattle.vlog_items.proofs.reading.Reader.put_file.Goals as goal

pub returns-clause-length : goal.returns-clause-length
returns-clause-length c =
    rw (c.in_ok-put_frame.ensures, length-append (items_of_file c.args.self.now.names _ c.args.bytes.items) c.args.self.now.items, file_length c.args.self.now.names _ c.args.bytes.items) (omega arith)

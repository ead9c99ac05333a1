-- The saved file is the last.
use Rattle.std.proofs.Common.{map}
use Rattle.rdc_outside.specs.MemoryShelf.{given_file}
use Rattle.rdc_outside.proofs.FileLemmas.{SaveAnswers-put}
use Rattle.rdc_outside.proofs.memory_shelf.MemShelfShelf.save.Goals as goal

pub returns-clause-value : goal.returns-clause-value
returns-clause-value c =
    rw (← c.self.view_is)
    (SaveAnswers-put (map given_file c.self.inside.given.items) c.self.inside.saved.entries c.put.new.self.entries _ c.args.name.now c.args.bytes.now _ c.put.ensures.entries c.as_bytes-2.ensures.value)

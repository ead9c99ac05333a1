-- The saved files are later than the given ones.
use Rattle.std.proofs.Common.{◌∙◌, ap, map}
use Rattle.rdc_outside.specs.MemoryShelf.{file_in, file_of, given_file}
use Rattle.rdc_outside.proofs.FileLemmas.{file_in-found}
use Rattle.rdc_outside.proofs.memory_shelf.MemShelf.file.Goals as goal

pub returns : goal.returns
returns c =
    rw (← c.self.view_is)
    (file_in-found (map given_file c.self.inside.given.items) (map file_of c.self.inside.saved.entries) c.args.name.now _ _ _
    (c.last.ensures ∙ ap (λ name. file_in (map file_of c.self.inside.saved.entries) name) c.as_bytes.ensures.value)
    (c.last_given.ensures ∙ ap (λ files. file_in (map given_file files) c.args.name.now) c.deref.ensures.value)
    c.or.ensures)

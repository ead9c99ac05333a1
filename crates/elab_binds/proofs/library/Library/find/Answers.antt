-- The library is what its lists say.
use Rattle.std.proofs.Common.{Some, sym, ap, ◌∙◌}
use Rattle.elab_binds.specs.Books.{Book}
use Rattle.elab_binds.proofs.BookLemmas.{library_within}
use Rattle.elab_binds.proofs.library.Library.find.Goals as goal

pub returns-in-Some-Once-clause-within : goal.returns-in-Some-Once-clause-within
returns-in-Some-Once-clause-within c =
    library_within c.args.self.now.modules.now c.args.self.now.boxes.now c.args.name.now c.in-Some-Once.found
    (sym (ap (λ (t : Book). t c.args.name.now) c.args.self.now.lawful) ∙ (sym c.in-Some-Once.ensures ∙ ap Some c.in-Some-Once.field-0-is))

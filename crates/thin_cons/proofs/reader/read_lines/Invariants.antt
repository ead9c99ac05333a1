-- What is read and what is left are the rows of the file.
use Rattle.std.proofs.Common.{◌≡◌, ◌∷◌, ◌++◌, map, length}
use Rattle.thin_cons.specs.Lines.{rows_of}
use Rattle.thin_cons.specs.Forms.{heading, words_of, declaration_of}
use Rattle.thin_cons.proofs.reader.read_lines.Given as goal

abbrev pub invariant-loop-text : goal.invariant-loop-text
invariant-loop-text l = rows_of l.bytes ≡ heading ∷ (map words_of (map declaration_of l.lines.items) ++ rows_of l.rest)

abbrev pub decreases-loop-text : goal.decreases-loop-text
decreases-loop-text l = length l.rest

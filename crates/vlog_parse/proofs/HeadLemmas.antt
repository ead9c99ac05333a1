-- A name is a word.
use Rattle.std.proofs.Common.{◌≡◌, Option, Some, None, refl}
use Rattle.vlog_tree.specs.Lexemes.{Lexeme}
use Rattle.vlog_tree.specs.Names.{name_of, name_in}
use Rattle.vlog_expr.specs.Reading.{name_if, word_if}

pub name_of_word : (o : Option Lexeme) → name_in (word_if o) ≡ name_if o
unfolding name_if word_if name_of name_in
name_of_word None = refl
name_of_word (Some l) = refl

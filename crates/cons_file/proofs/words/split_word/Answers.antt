-- The first word is taken, and the others are left.
use Rattle.cons_file.proofs.LinesLemmas.{takes_word}
use Rattle.cons_file.proofs.words.split_word.Goals as goal

pub returns-clause-words : goal.returns-clause-words
returns-clause-words c =
    let both = takes_word c.args.text.now c.skipped-text.result.now c.split.result.0.now c.split.result.1.now c.place_of_blank.result c.skipped-text.ensures.value c.place_of_blank.ensures c.split.ensures.front c.split.ensures.rest in
    both.0

pub returns-clause-none : goal.returns-clause-none
returns-clause-none c =
    let both = takes_word c.args.text.now c.skipped-text.result.now c.split.result.0.now c.split.result.1.now c.place_of_blank.result c.skipped-text.ensures.value c.place_of_blank.ensures c.split.ensures.front c.split.ensures.rest in
    both.1

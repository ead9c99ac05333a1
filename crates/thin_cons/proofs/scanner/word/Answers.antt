-- The first word is taken, and the others are left.
use Rattle.thin_cons.proofs.LinesLemmas.{takes_word}
use Rattle.thin_cons.proofs.scanner.word.Goals as goal

pub returns-clause-words : goal.returns-clause-words
returns-clause-words c =
    let both = takes_word c.args.text.now c.split.result.1.now c.split-2.result.0.now c.split-2.result.1.now c.place_of_word.result c.place_of_blank.result c.place_of_word.ensures c.split.ensures.rest c.place_of_blank.ensures c.split-2.ensures.front c.split-2.ensures.rest in
    both.0

pub returns-clause-none : goal.returns-clause-none
returns-clause-none c =
    let both = takes_word c.args.text.now c.split.result.1.now c.split-2.result.0.now c.split-2.result.1.now c.place_of_word.result c.place_of_blank.result c.place_of_word.ensures c.split.ensures.rest c.place_of_blank.ensures c.split-2.ensures.front c.split-2.ensures.rest in
    both.1

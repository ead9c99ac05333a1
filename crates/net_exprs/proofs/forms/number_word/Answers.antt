use Rattle.design_form.specs.Bits.{bits}
use Rattle.design_form.specs.Extents.{shape_of}
use Rattle.net_words.specs.Builds.{◌>>=◌}
use Rattle.net_words.proofs.BuildLemmas.{all_left, next, fault, last}
use Rattle.net_exprs.specs.Constants.{constants}
use Rattle.net_exprs.specs.Extensions.{extended}
use Rattle.net_exprs.proofs.forms.number_word.Goals as goal

pub returns-in_err-word-clause-builds : goal.returns-in_err-word-clause-builds
returns-in_err-word-clause-builds c = fault _ _ (all_left (constants (bits c.args.width c.args.number) >>= extended (shape_of c.args.context)) c.args.net.now) c.in_err-word.ensures.builds c.from_residual.ensures

pub returns-clause-builds : goal.returns-clause-builds
returns-clause-builds c = last (next _ _ (all_left (constants (bits c.args.width c.args.number) >>= extended (shape_of c.args.context)) c.args.net.now) c.in_ok-word.ensures.builds) c.extended.ensures.builds

use Rattle.design_form.specs.Extents.{shape_of}
use Rattle.design_form.specs.Values.{number_alone}
use Rattle.net_words.specs.Builds.{◌>>=◌}
use Rattle.net_words.proofs.BuildLemmas.{all_left, next, fault, last}
use Rattle.net_exprs.specs.Extensions.{extended}
use Rattle.net_exprs.specs.Names.{wired_in}
use Rattle.net_exprs.specs.Views.{view_of}
use Rattle.net_exprs.specs.Selects.{part}
use Rattle.net_exprs.specs.Lowered.{select_word}
use Rattle.net_exprs.proofs.Transport.{same_build, part_same}
use Rattle.net_exprs.proofs.forms.fixed_part.Goals as goal

pub returns-in_err-bits-clause-builds : goal.returns-in_err-bits-clause-builds
unfolding select_word
returns-in_err-bits-clause-builds c =
    let v = wired_in c.args.design.now c.args.nodes.now c.args.name.now in
    fault _ _ (all_left (part v (number_alone c.args.first.now) (number_alone c.args.second.now) >>= extended (shape_of c.args.context)) c.args.net.now)
    (same_build _ _ (part_same (view_of c.in_ok-view.view) v _ _ c.in_ok-from.from c.in_ok-to.to c.in_ok-width.width c.in_ok-view.ensures.view c.in_ok-from.ensures.value c.in_ok-to.ensures.value c.in_ok-width.ensures.value)
    (rw c.as_slice.ensures.value at c.in_err-bits.ensures.builds)) c.from_residual-in_err-bits.ensures

pub returns-clause-builds : goal.returns-clause-builds
unfolding select_word
returns-clause-builds c =
    let v = wired_in c.args.design.now c.args.nodes.now c.args.name.now in
    last
    (next _ _ (all_left (part v (number_alone c.args.first.now) (number_alone c.args.second.now) >>= extended (shape_of c.args.context)) c.args.net.now)
    (same_build _ _ (part_same (view_of c.in_ok-view.view) v _ _ c.in_ok-from.from c.in_ok-to.to c.in_ok-width.width c.in_ok-view.ensures.view c.in_ok-from.ensures.value c.in_ok-to.ensures.value c.in_ok-width.ensures.value)
    (rw c.as_slice.ensures.value at c.in_ok-bits.ensures.builds))) c.extended.ensures.builds

use Rattle.std.proofs.Common.{◌≡◌, length, arith}
use Rattle.std.specs.Vec.{vec_len}
use Rattle.design_form.specs.Extents.{shape_of}
use Rattle.net_words.proofs.BuildLemmas.{done, next, fault}
use Rattle.net_exprs.proofs.BitSteps.{extended_cut, extended_more}
use Rattle.net_exprs.proofs.extensions.extended.Goals as goal

pub returns-then-context-len-clause-builds : goal.returns-then-context-len-clause-builds
returns-then-context-len-clause-builds c =
    done (λ w. w.items) c.truncate.new.self
    (rw c.truncate.ensures.items (extended_cut c.args.net.now (shape_of c.args.context) c.args.word.items (omega (arith, c.if-context-len.true, c.len.ensures))))

pub returns-in_err-fill-clause-builds : goal.returns-in_err-fill-clause-builds
returns-in_err-fill-clause-builds c =
    fault _ _ (extended_more c.args.net.now (shape_of c.args.context) c.args.word.items (omega (arith, c.if-context-len.false, c.len.ensures)))
    (rw c.as_slice.ensures.value at c.in_err-fill.ensures.builds) c.from_residual.ensures

pub returns-clause-builds : goal.returns-clause-builds
returns-clause-builds c =
    let wide : vec_len c.args.word ≡ length c.args.word.items = omega arith in
    done (λ w. w.items) c.resize.new.self
    (rw (c.in_ok-resize.ensures.items, wide) (next _ _ (extended_more c.args.net.now (shape_of c.args.context) c.args.word.items (omega (arith, c.if-context-len.false, c.len.ensures)))
    (rw c.as_slice.ensures.value at c.in_ok-fill.ensures.builds)))

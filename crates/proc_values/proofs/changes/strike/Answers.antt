use Rattle.std.proofs.Common.{◌≡◌, sym, ap, ◌∙◌, set}
use Rattle.rdc_tern.specs.Kleene.{mux_of}
use Rattle.proc_values.proofs.ChangeLemmas.{marked_among, not_marked, put_among}
use Rattle.proc_values.proofs.changes.strike.Goals as goal

pub returns-then-is_marked-clause-value : goal.returns-then-is_marked-clause-value
returns-then-is_marked-clause-value c =
    let k = c.args.stroke in
    c.set_value.ensures ∙ ap (set c.args.state.now k.bit) (c.mux.ensures ∙ ap (mux_of k.hit k.value) c.value-so_far.ensures)
    ∙ sym (put_among c.args.bits.now c.args.state.now k.bit _ (marked_among c.args.bits.now c.args.marks.now k.bit c.requires.marks (sym c.is_marked.ensures ∙ c.if-is_marked.true)))

pub returns-else-is_marked-clause-value : goal.returns-else-is_marked-clause-value
returns-else-is_marked-clause-value c =
    let k = c.args.stroke in
    sym (not_marked c.args.bits.now c.args.marks.now c.args.state.now k.bit _ c.requires.marks c.requires.long (sym c.is_marked.ensures ∙ c.if-is_marked.false))

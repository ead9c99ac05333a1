-- The line is bound, or has the first of its faults.
use Rattle.std.proofs.lemmas.Result.{err_from_is_err_and}
use Rattle.cons_file.specs.File.{form_said}
use Rattle.cons_bind.specs.Names.{net_of}
use Rattle.cons_bind.specs.Meaning.{HasCause}
use Rattle.cons_bind.specs.Binding.{forms_of, LineFails}
use Rattle.cons_bind.proofs.MeaningLemmas.{on_cause}
use Rattle.cons_bind.proofs.BindingLemmas.{name_fails}
use Rattle.cons_bind.proofs.binder.bind_line.Goals as goal

pub returns-in_err-it-clause-line : goal.returns-in_err-it-clause-line
returns-in_err-it-clause-line g c = λ lines before declared reads taken tracked.
    let net = net_of (g.V.View.gates c.args.view.now) (g.V.FlopNet.names c.args.view.now) (g.V.FlopNet.kinds c.args.view.now) (g.V.FlopNet.named_bits c.args.view.now) in
    let p = err_from_is_err_and c.from_residual.result c.from_residual.ensures.1 in
    rw (p.1, p.2) (on_cause (HasCause net lines (form_said c.args.form)) (LineFails net lines before (form_said c.args.form)) (name_fails net lines before (form_said c.args.form)) c.in_err-it.field-0.0 (c.in_err-it.ensures.means lines declared))

pub returns-then-reads_clock-clause-line : goal.returns-then-reads_clock-clause-line
returns-then-reads_clock-clause-line g c = λ lines before declared reads taken tracked.
    let net = net_of (g.V.View.gates c.args.view.now) (g.V.FlopNet.names c.args.view.now) (g.V.FlopNet.kinds c.args.view.now) (g.V.FlopNet.named_bits c.args.view.now) in
    (c.in_ok-it.it, c.in_ok-it.ensures.means lines declared, c.if-reads_clock.ensures net reads)

pub returns-then-is_twice-clause-line : goal.returns-then-is_twice-clause-line
returns-then-is_twice-clause-line g c = λ lines before declared reads taken tracked.
    let net = net_of (g.V.View.gates c.args.view.now) (g.V.FlopNet.names c.args.view.now) (g.V.FlopNet.kinds c.args.view.now) (g.V.FlopNet.named_bits c.args.view.now) in
    (c.in_ok-it.it, c.in_ok-it.ensures.means lines declared, c.if-reads_clock.ensures net reads, c.if-is_twice.ensures.value (forms_of before) taken)

pub returns-then-is_past_limit-clause-line : goal.returns-then-is_past_limit-clause-line
returns-then-is_past_limit-clause-line g c = λ lines before declared reads taken tracked.
    let net = net_of (g.V.View.gates c.args.view.now) (g.V.FlopNet.names c.args.view.now) (g.V.FlopNet.kinds c.args.view.now) (g.V.FlopNet.named_bits c.args.view.now) in
    (c.in_ok-it.it, c.in_ok-it.ensures.means lines declared, c.if-reads_clock.ensures net reads, (c.if-is_twice.ensures.value (forms_of before) taken).0, c.if-is_past_limit.ensures.value (forms_of before) tracked)

pub returns-clause-line : goal.returns-clause-line
returns-clause-line g c = λ lines before declared reads taken tracked.
    let net = net_of (g.V.View.gates c.args.view.now) (g.V.FlopNet.names c.args.view.now) (g.V.FlopNet.kinds c.args.view.now) (g.V.FlopNet.named_bits c.args.view.now) in
    let twice = c.if-is_twice.ensures.value (forms_of before) taken in
    let limit = c.if-is_past_limit.ensures.value (forms_of before) tracked in
    (record { bound = c.in_ok-it.ensures.means lines declared; unread = c.if-reads_clock.ensures net reads; once = twice.0; few = limit.0 }, twice.1, limit.1)

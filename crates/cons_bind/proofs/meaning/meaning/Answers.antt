-- The second name fails, or is what is wanted too.
use Rattle.std.proofs.Common.{inr, refl}
use Rattle.std.proofs.lemmas.Result.{err_from_is_err_and}
use Rattle.cons_file.specs.Forms.{Order, Isolate, Quiet}
use Rattle.cons_bind.specs.Names.{net_of}
use Rattle.cons_bind.specs.Meaning.{HasCause}
use Rattle.cons_bind.proofs.MeaningLemmas.{some_cause}
use Rattle.cons_bind.proofs.meaning.meaning.Goals as goal

pub returns-in_err-second-in-Order-clause-means : goal.returns-in_err-second-in-Order-clause-means
returns-in_err-second-in-Order-clause-means g c = λ lines declared.
    let net = net_of (g.V.View.gates c.args.view.now) (g.V.FlopNet.names c.args.view.now) (g.V.FlopNet.kinds c.args.view.now) (g.V.FlopNet.named_bits c.args.view.now) in
    let p = err_from_is_err_and c.from_residual-in_err-second-in-Order.result c.from_residual-in_err-second-in-Order.ensures.1 in
    rw (p.1, p.2, c.in-Order.is)
    (some_cause (HasCause net lines (Order c.in-Order.first.now c.in-Order.second.now)) c.in_err-second-in-Order.field-0.0 (inr ((c.in_ok-first-in-Order.first, c.in_ok-first-in-Order.ensures.means lines declared), c.in_err-second-in-Order.ensures.means lines declared)))

pub returns-in_err-node-in-Isolate-clause-means : goal.returns-in_err-node-in-Isolate-clause-means
returns-in_err-node-in-Isolate-clause-means g c = λ lines declared.
    let net = net_of (g.V.View.gates c.args.view.now) (g.V.FlopNet.names c.args.view.now) (g.V.FlopNet.kinds c.args.view.now) (g.V.FlopNet.named_bits c.args.view.now) in
    let p = err_from_is_err_and c.from_residual-in_err-node-in-Isolate.result c.from_residual-in_err-node-in-Isolate.ensures.1 in
    rw (p.1, p.2, c.in-Isolate.is)
    (some_cause (HasCause net lines (Isolate c.in-Isolate.reset.now c.in-Isolate.bit.now c.in-Isolate.one)) c.in_err-node-in-Isolate.field-0.0 (inr ((c.in_ok-reset-in-Isolate.reset, c.in_ok-reset-in-Isolate.ensures.means lines declared), c.in_err-node-in-Isolate.ensures)))

pub returns-in_err-clock-in-Quiet-clause-means : goal.returns-in_err-clock-in-Quiet-clause-means
returns-in_err-clock-in-Quiet-clause-means g c = λ lines declared.
    let net = net_of (g.V.View.gates c.args.view.now) (g.V.FlopNet.names c.args.view.now) (g.V.FlopNet.kinds c.args.view.now) (g.V.FlopNet.named_bits c.args.view.now) in
    let p = err_from_is_err_and c.from_residual-in_err-clock-in-Quiet.result c.from_residual-in_err-clock-in-Quiet.ensures.1 in
    rw (p.1, p.2, c.in-Quiet.is)
    (some_cause (HasCause net lines (Quiet c.in-Quiet.reset.now c.in-Quiet.clock.now)) c.in_err-clock-in-Quiet.field-0.0 (inr ((c.in_ok-reset-in-Quiet.reset, c.in_ok-reset-in-Quiet.ensures.means lines declared), c.in_err-clock-in-Quiet.ensures.means lines declared)))

pub returns-in_ok-second-in-Order-clause-means : goal.returns-in_ok-second-in-Order-clause-means
returns-in_ok-second-in-Order-clause-means g c = λ lines declared.
    let first = c.in_ok-first-in-Order.ensures.means lines declared in
    let second = c.in_ok-second-in-Order.ensures.means lines declared in
    rw c.in-Order.is (c.in_ok-first-in-Order.first, c.in_ok-second-in-Order.second, first, second, refl)

pub returns-in_ok-clock-in-Quiet-clause-means : goal.returns-in_ok-clock-in-Quiet-clause-means
returns-in_ok-clock-in-Quiet-clause-means g c = λ lines declared.
    let reset = c.in_ok-reset-in-Quiet.ensures.means lines declared in
    let clock = c.in_ok-clock-in-Quiet.ensures.means lines declared in
    rw c.in-Quiet.is (c.in_ok-reset-in-Quiet.reset, c.in_ok-clock-in-Quiet.clock, reset, clock, refl)

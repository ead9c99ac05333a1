-- What is left decides.
use Rattle.std.proofs.Common.{◌≡◌, drop}
use Rattle.elab_scopes.specs.Threads.{threaded}
use Rattle.elab_items.specs.Instances.{instanced}
use Rattle.elab_items.specs.Tables.{lib_of, plan_of}
use Rattle.elab_items.proofs.instance.instances.Given as goal

abbrev pub invariant-loop-one : goal.invariant-loop-one
invariant-loop-one l =
    threaded (instanced (lib_of l.library) l.said.prefix.now l.said.called.now l.said.passed.now) (plan_of l.p) (drop l.one-index l.all)
    ≡ threaded (instanced (lib_of l.library) l.said.prefix.now l.said.called.now l.said.passed.now) (plan_of l.fn.p) l.all

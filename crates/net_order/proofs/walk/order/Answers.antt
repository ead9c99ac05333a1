use Rattle.std.proofs.Common.{◌≡◌, inl, refl, ap, sym, subst, map, reverse, set, replicate, length, arith, ◌<◌, All, List, [], ◌++◌, ◌∷◌}
use Rattle.std.proofs.lemmas.List.{nil_from_length}
use Rattle.net_view.specs.View.{Numbered}
use Rattle.net_gates.specs.Gates.{IsGateList}
use Rattle.net_order.specs.declared.step.Step.{Step}
use Rattle.net_order.specs.declared.step.Step.TheVariants.{Visit, Leave}
use Rattle.net_order.specs.declared.step.Mark.TheVariants.{New, Open, Done}
use Rattle.net_order.specs.Order.{reads, roots_in, AreInside, IsInOrder}
use Rattle.net_order.specs.Order as orders
use Rattle.net_order.specs.Loops.{IsNeededLoop, HasNoLoop}
use Rattle.net_order.proofs.Stepping.{IsWalk, begun, taken, walk_same, mark_read, leave_step, skip_step, enter_step, less_leave, less_enter, ended_free, ended_in_order, ended_inside}
use Rattle.net_order.proofs.Reading.{roots_inside, reads_inside, reads_few}
use Rattle.net_order.proofs.walk.order.Goals as goal

pub steps-init : goal.steps-init
steps-init c =
    let gates = c.gates-gates.result.now in
    let roots = c.args.roots.now in
    let inside = subst (λ (gs : List Numbered). AreInside (length gs) roots) (sym c.gates-gates.ensures.gates) c.requires in
    record {
      walk = walk_same (reads gates roots) (length gates) (roots_in roots) (orders.order gates roots) (replicate (length gates) New) c.in_ok-walk.walk.marks.items (map Visit (roots_in roots)) (reverse c.in_ok-walk.walk.steps.items) [] c.in_ok-walk.walk.done.items
          c.in_ok-walk.ensures.marks c.in_ok-walk.ensures.steps c.in_ok-walk.ensures.done
          (begun (reads gates roots) (length gates) (roots_in roots) (roots_inside (length gates) roots inside));
    }

pub steps-smaller-in-Continue-branch-2 : goal.steps-smaller-in-Continue-branch-2
steps-smaller-in-Continue-branch-2 c =
    let gates = c.gates-gates.result.now in
    let roots = c.args.roots.now in
    let ms = c.steps.walk.marks.items in
    let k = c.in-Leave.k in
    let now = taken c.steps.walk.steps.items c.pop.new.self.items c.in-Some.step (Leave k) c.in-Some.ensures.items c.in-Leave.is in
    let w = subst (λ (s : List Step). IsWalk (reads gates roots) (length gates) (roots_in roots) (orders.order gates roots) ms s c.steps.walk.done.items) now c.steps.invariant.walk in
    less_leave ms c.leave.new.self.marks.items k c.steps.walk.steps.items c.pop.new.self.items c.leave.new.self.steps.items c.in-Some.step c.in_ok-leave-in-Leave.ensures.marks (omega (arith, w.inside.0, w.count)) (w.open_is k (inl refl))
    c.in-Some.ensures.items c.in_ok-leave-in-Leave.ensures.steps

pub steps-preserved-in-Continue-branch-2 : goal.steps-preserved-in-Continue-branch-2
steps-preserved-in-Continue-branch-2 c =
    let gates = c.gates-gates.result.now in
    let roots = c.args.roots.now in
    let ms = c.steps.walk.marks.items in
    let k = c.in-Leave.k in
    let rest : List Step = c.pop.new.self.items in
    let done = c.steps.walk.done.items in
    let now = taken c.steps.walk.steps.items rest c.in-Some.step (Leave k) c.in-Some.ensures.items c.in-Leave.is in
    let w = subst (λ (s : List Step). IsWalk (reads gates roots) (length gates) (roots_in roots) (orders.order gates roots) ms s done) now c.steps.invariant.walk in
    record {
      walk = walk_same (reads gates roots) (length gates) (roots_in roots) (orders.order gates roots) (set ms k Done) c.leave.new.self.marks.items (reverse rest) (reverse c.leave.new.self.steps.items) (done ++ k ∷ []) c.leave.new.self.done.items
          c.in_ok-leave-in-Leave.ensures.marks (ap reverse c.in_ok-leave-in-Leave.ensures.steps) c.in_ok-leave-in-Leave.ensures.done
          (leave_step (reads gates roots) (length gates) (roots_in roots) (orders.order gates roots) ms k (reverse rest) done w);
    }

pub steps-preserved-in-Done : goal.steps-preserved-in-Done
steps-preserved-in-Done c =
    let gates = c.gates-gates.result.now in
    let roots = c.args.roots.now in
    let ms = c.steps.walk.marks.items in
    let k = c.in-Visit.k in
    let rest : List Step = c.pop.new.self.items in
    let done = c.steps.walk.done.items in
    let now = taken c.steps.walk.steps.items rest c.in-Some.step (Visit k) c.in-Some.ensures.items c.in-Visit.is in
    let w = subst (λ (s : List Step). IsWalk (reads gates roots) (length gates) (roots_in roots) (orders.order gates roots) ms s done) now c.steps.invariant.walk in
    let is = mark_read ms k c.index.result.now Done (omega (arith, w.inside.0, w.count)) c.index.ensures c.in-Done.is in
    record { walk = skip_step (reads gates roots) (length gates) (roots_in roots) (orders.order gates roots) ms k (reverse rest) done is w }

pub steps-smaller : goal.steps-smaller
steps-smaller c =
    let gates = c.gates-gates.result.now in
    let roots = c.args.roots.now in
    let ms = c.steps.walk.marks.items in
    let k = c.in-Visit.k in
    let rest : List Step = c.pop.new.self.items in
    let now = taken c.steps.walk.steps.items rest c.in-Some.step (Visit k) c.in-Some.ensures.items c.in-Visit.is in
    let w = subst (λ (s : List Step). IsWalk (reads gates roots) (length gates) (roots_in roots) (orders.order gates roots) ms s c.steps.walk.done.items) now c.steps.invariant.walk in
    let lt : k < length ms = omega (arith, w.inside.0, w.count) in
    let is = mark_read ms k c.index.result.now New lt c.index.ensures c.in-New.is in
    less_enter ms c.enter.new.self.marks.items k (reads gates roots k) c.steps.walk.steps.items rest c.enter.new.self.steps.items c.in-Some.step c.in_ok-enter-in-New.ensures.marks lt is (reads_few gates roots k)
    c.in-Some.ensures.items c.in_ok-enter-in-New.ensures.steps

pub steps-preserved : goal.steps-preserved
steps-preserved c =
    let gates = c.gates-gates.result.now in
    let roots = c.args.roots.now in
    let ms = c.steps.walk.marks.items in
    let k = c.in-Visit.k in
    let rest : List Step = c.pop.new.self.items in
    let done = c.steps.walk.done.items in
    let lawful = subst IsGateList (sym c.gates-gates.ensures.gates) c.gates-gates.ensures.lawful in
    let inside = subst (λ (gs : List Numbered). AreInside (length gs) roots) (sym c.gates-gates.ensures.gates) c.requires in
    let now = taken c.steps.walk.steps.items rest c.in-Some.step (Visit k) c.in-Some.ensures.items c.in-Visit.is in
    let w = subst (λ (s : List Step). IsWalk (reads gates roots) (length gates) (roots_in roots) (orders.order gates roots) ms s done) now c.steps.invariant.walk in
    let is = mark_read ms k c.index.result.now New (omega (arith, w.inside.0, w.count)) c.index.ensures c.in-New.is in
    record {
      walk = walk_same (reads gates roots) (length gates) (roots_in roots) (orders.order gates roots) (set ms k Open) c.enter.new.self.marks.items (map Visit (reads gates roots k) ++ (Leave k ∷ reverse rest)) (reverse c.enter.new.self.steps.items) done c.enter.new.self.done.items
          c.in_ok-enter-in-New.ensures.marks c.in_ok-enter-in-New.ensures.steps c.in_ok-enter-in-New.ensures.done
          (enter_step (reads gates roots) (length gates) (roots_in roots) (orders.order gates roots) ms k (reverse rest) done is (reads_inside gates roots lawful inside k) w);
    }

pub loop_at-requires : goal.loop_at-requires
loop_at-requires c =
    let gates = c.gates-gates.result.now in
    let roots = c.args.roots.now in
    let ms = c.steps.walk.marks.items in
    let k = c.in-Visit.k in
    let rest : List Step = c.pop.new.self.items in
    let now = taken c.steps.walk.steps.items rest c.in-Some.step (Visit k) c.in-Some.ensures.items c.in-Visit.is in
    let w = subst (λ (s : List Step). IsWalk (reads gates roots) (length gates) (roots_in roots) (orders.order gates roots) ms s c.steps.walk.done.items) now c.steps.invariant.walk in
    w.open_has k (mark_read ms k c.index.result.now Open (omega (arith, w.inside.0, w.count)) c.index.ensures c.in-Open.is)

pub returns-in-Open-clause-fault : goal.returns-in-Open-clause-fault
returns-in-Open-clause-fault c =
    let gates = c.gates-gates.result.now in
    let roots = c.args.roots.now in
    let k = c.in-Visit.k in
    let rest : List Step = c.pop.new.self.items in
    let now = taken c.steps.walk.steps.items rest c.in-Some.step (Visit k) c.in-Some.ensures.items c.in-Visit.is in
    let w = subst (λ (s : List Step). IsWalk (reads gates roots) (length gates) (roots_in roots) (orders.order gates roots) c.steps.walk.marks.items s c.steps.walk.done.items) now c.steps.invariant.walk in
    subst (λ (gs : List Numbered). IsNeededLoop gs roots c.in_ok-found-in-Open.found.items) c.gates-gates.ensures.gates (record {
      loop = c.in_ok-found-in-Open.ensures.loops (reads gates roots) (roots_in roots) w.chain.0 w.chain.1;
      needed = c.in_ok-found-in-Open.ensures.needed (reads gates roots) (roots_in roots) w.chain.1;
    })

pub returns-clause-free : goal.returns-clause-free
returns-clause-free c =
    let gates = c.gates-gates.result.now in
    let roots = c.args.roots.now in
    let ends : c.steps.walk.steps.items ≡ [] = nil_from_length c.steps.walk.steps.items (omega (arith, c.in_default.ensures.cases.0)) in
    let w = subst (λ (s : List Step). IsWalk (reads gates roots) (length gates) (roots_in roots) (orders.order gates roots) c.steps.walk.marks.items (reverse s) c.steps.walk.done.items) ends c.steps.invariant.walk in
    subst (λ (gs : List Numbered). HasNoLoop gs roots) c.gates-gates.ensures.gates
    (λ ks h. ended_free (reads gates roots) (length gates) (roots_in roots) (orders.order gates roots) c.steps.walk.marks.items c.steps.walk.done.items w ks h.loop h.needed)

pub returns-clause-inside : goal.returns-clause-inside
returns-clause-inside c =
    let gates = c.gates-gates.result.now in
    let roots = c.args.roots.now in
    let ends : c.steps.walk.steps.items ≡ [] = nil_from_length c.steps.walk.steps.items (omega (arith, c.in_default.ensures.cases.0)) in
    let w = subst (λ (s : List Step). IsWalk (reads gates roots) (length gates) (roots_in roots) (orders.order gates roots) c.steps.walk.marks.items (reverse s) c.steps.walk.done.items) ends c.steps.invariant.walk in
    subst (λ (gs : List Numbered). All (λ k. k < length gs) c.steps.walk.done.items) c.gates-gates.ensures.gates
    (ended_inside (reads gates roots) (length gates) (roots_in roots) (orders.order gates roots) c.steps.walk.marks.items c.steps.walk.done.items w)

pub returns-clause-ready : goal.returns-clause-ready
returns-clause-ready c =
    let gates = c.gates-gates.result.now in
    let roots = c.args.roots.now in
    let ends : c.steps.walk.steps.items ≡ [] = nil_from_length c.steps.walk.steps.items (omega (arith, c.in_default.ensures.cases.0)) in
    let w = subst (λ (s : List Step). IsWalk (reads gates roots) (length gates) (roots_in roots) (orders.order gates roots) c.steps.walk.marks.items (reverse s) c.steps.walk.done.items) ends c.steps.invariant.walk in
    subst (λ (gs : List Numbered). IsInOrder (reads gs roots) [] c.steps.walk.done.items) c.gates-gates.ensures.gates
    (ended_in_order (reads gates roots) (length gates) (roots_in roots) (orders.order gates roots) c.steps.walk.marks.items c.steps.walk.done.items w)

pub returns-clause-roots : goal.returns-clause-roots
returns-clause-roots c =
    let gates = c.gates-gates.result.now in
    let roots = c.args.roots.now in
    let ends : c.steps.walk.steps.items ≡ [] = nil_from_length c.steps.walk.steps.items (omega (arith, c.in_default.ensures.cases.0)) in
    let w = subst (λ (s : List Step). IsWalk (reads gates roots) (length gates) (roots_in roots) (orders.order gates roots) c.steps.walk.marks.items (reverse s) c.steps.walk.done.items) ends c.steps.invariant.walk in
    w.leads

use Rattle.std.proofs.Common.{Vec, Global, ◌^◌, set, ◌≡◌, ◌≢◌, ◌<◌, ◌≤◌, ◌+◌, refl, ◌++◌, ◌∷◌, [], ℕ, List, length, get_or, map, reverse, inl, sym, ap, subst, ◌∙◌, arith}
use Rattle.std.proofs.lemmas.Grind.{get_or_default_zero}
use Rattle.std.proofs.lemmas.List.{length-map}
use Rattle.thin_form.specs.Walk.{reads_of, steps_at, next_of}
use Rattle.thin_form.proofs.Walks.{IsWalk, circle, at_last, fewer, raised}
use Rattle.thin_form.proofs.Ways.{taken, top_within, seen_still, seen_more, left_now, followed_now, entered_now, next_within, begun}
use Rattle.thin_form.proofs.ordering.order.Goals as goal
use Rattle.thin_form.proofs.ordering.order.Goals.{then-index-eq0+in_ok-push, else-index-eq0}

pub loop-u-init : goal.loop-u-init
loop-u-init c =
    let rs = map (λ r. r.items) c.args.reads.now in
    let old = c.loop-start.marks.items in
    let start = c.loop-start.start in
    let was = c.loop-start.invariant in
    let there : start < length rs = omega (arith, length-map c.args.reads.now (λ r. r.items)) in
    let within : start < length old = omega (arith, was.walk.count) in
    let read = c.index.ensures ∙ get_or_default_zero old start c.index.result.now within in
    elim c.if-index-eq0.branch [
      | then-index-eq0+in_ok-push w ↦
          let fresh : get_or old start 0 ≡ 0 = sym read ∙ w.if-index-eq0.true in
          let marks : c.if-index-eq0.marks.items ≡ set old start 1 = ap (λ (v : Vec ℕ Global). v.items) w.marks-is in
          let way : c.if-index-eq0.way'.items ≡ c.loop-start.way.items ++ start ∷ [] = ap (λ (v : Vec ℕ Global). v.items) w.way'-is ∙ w.in_ok-push.ensures.items in
          let now = begun rs old c.loop-start.way.items c.if-index-eq0.way'.items c.loop-start.order.items start there fresh was.free way was.walk in
          let seen = seen_more (set old start 1) start (omega (arith, (raised old start 1 within).here)) (seen_still old start 1 start (omega arith) within was.seen) in
          record {
            walk = subst (λ (ms : List ℕ). IsWalk rs ms (reverse c.if-index-eq0.way'.items) c.loop-start.order.items) (sym marks) now;
            seen = subst (λ (ms : List ℕ). (v : ℕ) → v < start + 1 → 0 < get_or ms v 0) (sym marks) seen;
          }
      | else-index-eq0 w ↦
          let marks : c.if-index-eq0.marks.items ≡ old = ap (λ (v : Vec ℕ Global). v.items) w.marks-is in
          let way : c.if-index-eq0.way'.items ≡ c.loop-start.way.items = ap (λ (v : Vec ℕ Global). v.items) w.way'-is in
          let here : 0 < get_or old start 0 = omega (arith, read, w.if-index-eq0.false) in
          record {
            walk = subst (λ (ms : List ℕ). IsWalk rs ms (reverse c.if-index-eq0.way'.items) c.loop-start.order.items) (sym marks) (subst (λ (xs : List ℕ). IsWalk rs old (reverse xs) c.loop-start.order.items) (sym way) was.walk);
            seen = subst (λ (ms : List ℕ). (v : ℕ) → v < start + 1 → 0 < get_or ms v 0) (sym marks) (seen_more old start here was.seen);
          }
    ]

pub next-requires-clause-wire : goal.next-requires-clause-wire
next-requires-clause-wire c =
    let rs = map (λ r. r.items) c.args.reads.now in
    let walk = taken rs c.loop-u.marks.items c.loop-u.way.items c.pop.new.self.items c.loop-u.order.items c.in-Some.u c.in-Some.ensures.items c.loop-u.invariant.walk in
    omega (arith, (walk.entered c.in-Some.u (inl refl)).within, length-map c.args.reads.now (λ r. r.items))

pub overflow_add-index_mut : goal.overflow_add-index_mut
overflow_add-index_mut c =
    let rs = map (λ r. r.items) c.args.reads.now in
    let marks = c.loop-u.marks.items in
    let u = c.in-Some.u in
    let walk = taken rs marks c.loop-u.way.items c.pop.new.self.items c.loop-u.order.items u c.in-Some.ensures.items c.loop-u.invariant.walk in
    let within = top_within rs marks c.pop.new.self.items c.loop-u.order.items u walk in
    let one = c.index_mut-in-Done.ensures.value ∙ get_or_default_zero marks u c.index_mut-in-Done.result.now within in
    let room = subst (λ (ms : List ℕ). get_or ms u 0 + 1 < 2 ^ 64) c.deref.ensures.value c.in-Done.ensures.room in
    omega (arith, one, room)

pub loop-u-smaller-in-Continue-branch-3 : goal.loop-u-smaller-in-Continue-branch-3
loop-u-smaller-in-Continue-branch-3 c =
    let rs = map (λ r. r.items) c.args.reads.now in
    let marks = c.loop-u.marks.items in
    let rest = c.pop.new.self.items in
    let order = c.loop-u.order.items in
    let u = c.in-Some.u in
    let walk = taken rs marks c.loop-u.way.items rest order u c.in-Some.ensures.items c.loop-u.invariant.walk in
    let within = top_within rs marks rest order u walk in
    let one = ap (λ (x : ℕ). x + 1) (c.index_mut-in-Done.ensures.value ∙ get_or_default_zero marks u c.index_mut-in-Done.result.now within) in
    let all = subst (λ (ms : List ℕ). length (reads_of rs u) < get_or ms u 0) c.deref.ensures.value c.in-Done.ensures.next in
    let now = left_now rs marks rest order u walk (c.index_mut-in-Done.result.now + 1) c.push-in-Done.new.self.items all one c.in_ok-push-in-Done.ensures.items in
    fewer rs marks (reverse rest) c.push-in-Done.new.self.items u (c.index_mut-in-Done.result.now + 1) within one now

pub loop-u-preserved-in-Continue-branch-3 : goal.loop-u-preserved-in-Continue-branch-3
loop-u-preserved-in-Continue-branch-3 c =
    let rs = map (λ r. r.items) c.args.reads.now in
    let marks = c.loop-u.marks.items in
    let rest = c.pop.new.self.items in
    let order = c.loop-u.order.items in
    let u = c.in-Some.u in
    let walk = taken rs marks c.loop-u.way.items rest order u c.in-Some.ensures.items c.loop-u.invariant.walk in
    let within = top_within rs marks rest order u walk in
    let one = ap (λ (x : ℕ). x + 1) (c.index_mut-in-Done.ensures.value ∙ get_or_default_zero marks u c.index_mut-in-Done.result.now within) in
    let all = subst (λ (ms : List ℕ). length (reads_of rs u) < get_or ms u 0) c.deref.ensures.value c.in-Done.ensures.next in
    let now = left_now rs marks rest order u walk (c.index_mut-in-Done.result.now + 1) c.push-in-Done.new.self.items all one c.in_ok-push-in-Done.ensures.items in
    record { walk = now; seen = seen_still marks u (c.index_mut-in-Done.result.now + 1) (c.loop-start.start + 1) (omega arith) within c.loop-u.invariant.seen }

pub overflow_add-index_mut-in-Known : goal.overflow_add-index_mut-in-Known
overflow_add-index_mut-in-Known c =
    let rs = map (λ r. r.items) c.args.reads.now in
    let marks = c.loop-u.marks.items in
    let u = c.in-Some.u in
    let walk = taken rs marks c.loop-u.way.items c.pop.new.self.items c.loop-u.order.items u c.in-Some.ensures.items c.loop-u.invariant.walk in
    let within = top_within rs marks c.pop.new.self.items c.loop-u.order.items u walk in
    let one = c.index_mut-in-Known.ensures.value ∙ get_or_default_zero marks u c.index_mut-in-Known.result.now within in
    let room = subst (λ (ms : List ℕ). get_or ms u 0 + 1 < 2 ^ 64) c.deref.ensures.value c.in-Known.ensures.room in
    omega (arith, one, room)

pub loop-u-smaller-in-Continue-branch-4 : goal.loop-u-smaller-in-Continue-branch-4
loop-u-smaller-in-Continue-branch-4 c =
    let rs = map (λ r. r.items) c.args.reads.now in
    let marks = c.loop-u.marks.items in
    let rest = c.pop.new.self.items in
    let order = c.loop-u.order.items in
    let u = c.in-Some.u in
    let walk = taken rs marks c.loop-u.way.items rest order u c.in-Some.ensures.items c.loop-u.invariant.walk in
    let within = top_within rs marks rest order u walk in
    let one = ap (λ (x : ℕ). x + 1) (c.index_mut-in-Known.ensures.value ∙ get_or_default_zero marks u c.index_mut-in-Known.result.now within) in
    let more = subst (λ (ms : List ℕ). get_or ms u 0 ≤ length (reads_of rs u)) c.deref.ensures.value c.in-Known.ensures.next.0 in
    let known = subst (λ (ms : List ℕ). get_or ms (next_of rs ms u) 0 ≡ steps_at rs (next_of rs ms u)) c.deref.ensures.value c.in-Known.ensures.next.1 in
    let now = followed_now rs marks rest order u walk (c.index_mut-in-Known.result.now + 1) c.push-in-Known.new.self.items c.requires.within more known one c.in_ok-push-in-Known.ensures.items in
    fewer rs marks (reverse c.push-in-Known.new.self.items) order u (c.index_mut-in-Known.result.now + 1) within one now

pub loop-u-preserved-in-Continue-branch-4 : goal.loop-u-preserved-in-Continue-branch-4
loop-u-preserved-in-Continue-branch-4 c =
    let rs = map (λ r. r.items) c.args.reads.now in
    let marks = c.loop-u.marks.items in
    let rest = c.pop.new.self.items in
    let order = c.loop-u.order.items in
    let u = c.in-Some.u in
    let walk = taken rs marks c.loop-u.way.items rest order u c.in-Some.ensures.items c.loop-u.invariant.walk in
    let within = top_within rs marks rest order u walk in
    let one = ap (λ (x : ℕ). x + 1) (c.index_mut-in-Known.ensures.value ∙ get_or_default_zero marks u c.index_mut-in-Known.result.now within) in
    let more = subst (λ (ms : List ℕ). get_or ms u 0 ≤ length (reads_of rs u)) c.deref.ensures.value c.in-Known.ensures.next.0 in
    let known = subst (λ (ms : List ℕ). get_or ms (next_of rs ms u) 0 ≡ steps_at rs (next_of rs ms u)) c.deref.ensures.value c.in-Known.ensures.next.1 in
    let now = followed_now rs marks rest order u walk (c.index_mut-in-Known.result.now + 1) c.push-in-Known.new.self.items c.requires.within more known one c.in_ok-push-in-Known.ensures.items in
    record { walk = now; seen = seen_still marks u (c.index_mut-in-Known.result.now + 1) (c.loop-start.start + 1) (omega arith) within c.loop-u.invariant.seen }

pub index_mut-requires-in-New : goal.index_mut-requires-in-New
index_mut-requires-in-New c =
    let rs = map (λ r. r.items) c.args.reads.now in
    let marks = c.loop-u.marks.items in
    let rest = c.pop.new.self.items in
    let order = c.loop-u.order.items in
    let u = c.in-Some.u in
    let walk = taken rs marks c.loop-u.way.items rest order u c.in-Some.ensures.items c.loop-u.invariant.walk in
    let more = subst (λ (ms : List ℕ). get_or ms u 0 ≤ length (reads_of rs u)) c.deref.ensures.value c.in-New.ensures.next.0 in
    let next = subst (λ (ms : List ℕ). c.in-New.v ≡ next_of rs ms u) c.deref.ensures.value c.in-New.ensures.next.1 in
    let within = subst (λ (v : ℕ). v < length rs) (sym next) (next_within rs marks rest order u walk c.requires.within more) in
    omega (arith, within, walk.count)

pub loop-u-smaller : goal.loop-u-smaller
loop-u-smaller c =
    let rs = map (λ r. r.items) c.args.reads.now in
    let marks = c.loop-u.marks.items in
    let rest = c.pop.new.self.items in
    let order = c.loop-u.order.items in
    let u = c.in-Some.u in
    let walk = taken rs marks c.loop-u.way.items rest order u c.in-Some.ensures.items c.loop-u.invariant.walk in
    let more = subst (λ (ms : List ℕ). get_or ms u 0 ≤ length (reads_of rs u)) c.deref.ensures.value c.in-New.ensures.next.0 in
    let next = subst (λ (ms : List ℕ). c.in-New.v ≡ next_of rs ms u) c.deref.ensures.value c.in-New.ensures.next.1 in
    let fresh = subst (λ (ms : List ℕ). get_or ms c.in-New.v 0 ≡ 0) c.deref.ensures.value c.in-New.ensures.next.2 in
    let within = subst (λ (v : ℕ). v < length rs) (sym next) (next_within rs marks rest order u walk c.requires.within more) in
    let now = entered_now rs marks rest order u walk c.in-New.v c.push-in-New.new.self.items c.push-in-New-2.new.self.items within more next fresh c.in_ok-push-in-New.ensures.items c.in_ok-push-in-New-2.ensures.items in
    fewer rs marks (reverse c.push-in-New-2.new.self.items) order c.in-New.v 1 (omega (arith, walk.count)) (omega (arith, fresh)) now

pub loop-u-preserved : goal.loop-u-preserved
loop-u-preserved c =
    let rs = map (λ r. r.items) c.args.reads.now in
    let marks = c.loop-u.marks.items in
    let rest = c.pop.new.self.items in
    let order = c.loop-u.order.items in
    let u = c.in-Some.u in
    let walk = taken rs marks c.loop-u.way.items rest order u c.in-Some.ensures.items c.loop-u.invariant.walk in
    let more = subst (λ (ms : List ℕ). get_or ms u 0 ≤ length (reads_of rs u)) c.deref.ensures.value c.in-New.ensures.next.0 in
    let next = subst (λ (ms : List ℕ). c.in-New.v ≡ next_of rs ms u) c.deref.ensures.value c.in-New.ensures.next.1 in
    let fresh = subst (λ (ms : List ℕ). get_or ms c.in-New.v 0 ≡ 0) c.deref.ensures.value c.in-New.ensures.next.2 in
    let within = subst (λ (v : ℕ). v < length rs) (sym next) (next_within rs marks rest order u walk c.requires.within more) in
    let now = entered_now rs marks rest order u walk c.in-New.v c.push-in-New.new.self.items c.push-in-New-2.new.self.items within more next fresh c.in_ok-push-in-New.ensures.items c.in_ok-push-in-New-2.ensures.items in
    record { walk = now; seen = seen_still marks c.in-New.v 1 (c.loop-start.start + 1) (omega arith) (omega (arith, walk.count)) c.loop-u.invariant.seen }

pub returns-in-OnTheWay : goal.returns-in-OnTheWay
returns-in-OnTheWay c =
    let rs = map (λ r. r.items) c.args.reads.now in
    let marks = c.loop-u.marks.items in
    let u = c.in-Some.u in
    let walk = taken rs marks c.loop-u.way.items c.pop.new.self.items c.loop-u.order.items u c.in-Some.ensures.items c.loop-u.invariant.walk in
    let more = subst (λ (ms : List ℕ). get_or ms u 0 ≤ length (reads_of rs u)) c.deref.ensures.value c.in-OnTheWay.ensures.next.0 in
    let entered = subst (λ (ms : List ℕ). 0 < get_or ms (next_of rs ms u) 0) c.deref.ensures.value c.in-OnTheWay.ensures.next.1 in
    let open_still = subst (λ (ms : List ℕ). get_or ms (next_of rs ms u) 0 ≢ steps_at rs (next_of rs ms u)) c.deref.ensures.value c.in-OnTheWay.ensures.next.2 in
    (u ∷ reverse c.pop.new.self.items, circle rs marks u (reverse c.pop.new.self.items) c.loop-u.order.items c.requires.within more entered open_still walk)

pub returns : goal.returns
returns c =
    let rs = map (λ r. r.items) c.args.reads.now in
    let walk : IsWalk rs c.loop-start.marks.items [] c.loop-start.order.items = subst (λ (w : List ℕ). IsWalk rs c.loop-start.marks.items w c.loop-start.order.items) (ap reverse c.loop-start.invariant.free) c.loop-start.invariant.walk in
    at_last rs c.loop-start.marks.items c.loop-start.order.items walk (λ w lt. c.loop-start.invariant.seen w (omega (arith, lt, length-map c.args.reads.now (λ r. r.items))))

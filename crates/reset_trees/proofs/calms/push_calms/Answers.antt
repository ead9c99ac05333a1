-- Each source of the pin is looked at.
use Rattle.std.proofs.Common.{◌≡◌, ◌+◌, ◌<◌, ℕ, List, Option, length, get_or, take, sym, subst, ap, ◌∙◌, arith, Some}
use Rattle.std.specs.Prelude.{slice_get, slice_index_or, MatchOption}
use Rattle.std.proofs.lemmas.List.{take_all}
use Rattle.std.proofs.lemmas.List.Elements.{Contains-get_or}
use Rattle.std.proofs.lemmas.Option.{slice_get-get_or}
use Rattle.net_view.specs.declared.flop_net.SrcKind.TheVariants.{Port}
use Rattle.net_view.specs.FlopNet.{Kind}
use Rattle.net_view.proofs.Members.{rising_lt}
use Rattle.cons_bind.specs.Names.{net_of}
use Rattle.reset_trees.specs.declared.answers.Marked.{Marked}
use Rattle.reset_trees.specs.Marking.{level_at, IsMarkedCalm, AreCalmsOf}
use Rattle.reset_trees.specs.Reads.{PinReads}
use Rattle.reset_trees.specs.Same.{CanCalm, CalmsTo}
use Rattle.reset_trees.proofs.CalmLemmas.{IsPast, IsAsked, calms_start, calms_end, calms_more, calms_skip, calm_none, calm_some, root_inside, pinned_inside, taken_low}
use Rattle.reset_trees.proofs.EdgeLemmas.{match_none}
use Rattle.reset_trees.proofs.calms.push_calms.Goals as goal
use Rattle.reset_trees.proofs.calms.push_calms.Goals.{in-Some+in_ok-push, in_default}

pub source_at-root-requires : goal.source_at-root-requires
source_at-root-requires g c =
    let net = net_of (g.V.View.gates c.args.view.now) (g.V.FlopNet.names c.args.view.now) (g.V.FlopNet.kinds c.args.view.now) (g.V.FlopNet.named_bits c.args.view.now) in
    root_inside net (g.V.View.source_count c.args.view.now) c.args.pin.now.flop c.args.flop.now c.bits-bits.ensures.lawful c.requires.flop c.requires.pin.0

pub sources-init : goal.sources-init
sources-init g c = λ lines are before.
    let net = net_of (g.V.View.gates c.args.view.now) (g.V.FlopNet.names c.args.view.now) (g.V.FlopNet.kinds c.args.view.now) (g.V.FlopNet.named_bits c.args.view.now) in
    calms_start net lines c.args.pin.now.flop c.args.calms.now.items before

pub bounds-kinds-s : goal.bounds-kinds-s
bounds-kinds-s g c =
    let net = net_of (g.V.View.gates c.args.view.now) (g.V.FlopNet.names c.args.view.now) (g.V.FlopNet.kinds c.args.view.now) (g.V.FlopNet.named_bits c.args.view.now) in
    let low = pinned_inside net (g.V.View.source_count c.args.view.now) c.args.pin.now.flop c.args.pin.now.sources c.sources.s-index c.nodes-nodes.ensures.lawful c.requires.pin.1 (omega (arith, c.sources-test.true, ap length c.as_slice-s-items.ensures)) in
    subst (λ (xs : List ℕ). slice_index_or xs c.sources.s-index 0 < length c.args.kinds.now) (sym c.as_slice-s-items.ensures) (omega (arith, low, ap length c.requires.kinds, c.bits-bits.ensures.lawful.each_kind))

pub bounds-levels-s : goal.bounds-levels-s
bounds-levels-s g c =
    let net = net_of (g.V.View.gates c.args.view.now) (g.V.FlopNet.names c.args.view.now) (g.V.FlopNet.kinds c.args.view.now) (g.V.FlopNet.named_bits c.args.view.now) in
    let low = pinned_inside net (g.V.View.source_count c.args.view.now) c.args.pin.now.flop c.args.pin.now.sources c.sources.s-index c.nodes-nodes.ensures.lawful c.requires.pin.1 (omega (arith, c.sources-test.true, ap length c.as_slice-s-items.ensures)) in
    subst (λ (xs : List ℕ). slice_index_or xs c.sources.s-index 0 < length c.args.levels.now) (sym c.as_slice-s-items.ensures) (omega (arith, low, c.requires.levels, ap length c.requires.kinds, c.bits-bits.ensures.lawful.each_kind))

pub sources-preserved : goal.sources-preserved
sources-preserved g c = λ lines are before.
    let net = net_of (g.V.View.gates c.args.view.now) (g.V.FlopNet.names c.args.view.now) (g.V.FlopNet.kinds c.args.view.now) (g.V.FlopNet.named_bits c.args.view.now) in
    let n = c.args.pin.now.flop in
    let f = c.args.flop.now in
    let sources = c.args.pin.now.sources in
    let k = c.sources.s-index in
    let s = slice_index_or c.as_slice-s-items.result.now k 0 in
    let is : s ≡ slice_index_or sources k 0 = ap (λ (xs : List ℕ). slice_index_or xs k 0) c.as_slice-s-items.ensures in
    let lt : k < length sources = omega (arith, c.sources-test.true, ap length c.as_slice-s-items.ensures) in
    let low = pinned_inside net (g.V.View.source_count c.args.view.now) n sources k c.nodes-nodes.ensures.lawful c.requires.pin.1 lt in
    let s-in : s < length c.args.kinds.now = omega (arith, low, is, ap length c.requires.kinds, c.bits-bits.ensures.lawful.each_kind) in
    let kind = get_or c.args.kinds.now s Port in
    let at = subst (λ (ks : List Kind). slice_get ks s ≡ Some kind) c.requires.kinds (slice_get-get_or c.args.kinds.now s Port s-in) in
    let reads : PinReads net n s = subst (λ (z : ℕ). PinReads net n z) (sym is) ((c.requires.pin.1.whole (slice_index_or sources k 0)).0 (Contains-get_or sources k 0 lt)) in
    let root = c.source_at-root.result in
    let levels = c.args.levels.now in
    let asked : IsAsked net lines levels n s f root kind = record { are = are; is_flop = c.requires.flop; asked = c.requires.asked; is_root = c.source_at-root.ensures; reads = reads; is_kind = at } in
    let old = c.sources.invariant lines are before in
    let Found : Option Marked → Type 0 = λ o. MatchOption o (CanCalm kind (level_at levels s) → ⊥) (λ (calm : Marked). CanCalm kind (level_at levels s) × IsMarkedCalm n s ((root ≡ Some s) × CalmsTo kind (level_at levels s) f.high) calm) in
    let Done : List Marked → Type 0 = λ cs. AreCalmsOf net lines (IsPast n (take (k + 1) sources)) cs in
    elim c.match-calm_of.branch [
      | in-Some+in_ok-push w ↦
          let calm = w.in-Some.calm in
          let found = subst Found w.in-Some.is c.calm_of.ensures in
          subst Done (sym (ap (λ v. v.items) w.calms-is ∙ w.in_ok-push.ensures.items))
          (calms_more net lines n sources k s c.sources.calms.items calm lt is (λ t h. taken_low sources k s t (rising_lt sources c.requires.pin.1.ascending) lt is h) found.1.flop (calm_some net lines levels n s f root kind calm asked found.0 found.1) old)
      | in_default w ↦
          subst Done (sym (ap (λ v. v.items) w.calms-is))
          (calms_skip net lines n sources k s c.sources.calms.items lt is (calm_none net lines levels n s f root kind asked (match_none c.calm_of.result (CanCalm kind (level_at levels s) → ⊥) (λ (calm : Marked). CanCalm kind (level_at levels s) × IsMarkedCalm n s ((root ≡ Some s) × CalmsTo kind (level_at levels s) f.high) calm) w.in_default.not-Some c.calm_of.ensures)) old)
    ]

pub returns : goal.returns
returns g c = λ lines are before.
    let net = net_of (g.V.View.gates c.args.view.now) (g.V.FlopNet.names c.args.view.now) (g.V.FlopNet.kinds c.args.view.now) (g.V.FlopNet.named_bits c.args.view.now) in
    let n = c.args.pin.now.flop in
    let sources = c.args.pin.now.sources in
    calms_end net lines n sources c.sources.calms.items c.requires.pin.1
    (subst (λ (xs : List ℕ). AreCalmsOf net lines (IsPast n xs) c.sources.calms.items) (take_all c.sources.s-index sources (omega (arith, c.sources-test.false, ap length c.as_slice-s-items.ensures))) (c.sources.invariant lines are before))

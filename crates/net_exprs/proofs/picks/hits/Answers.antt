use Rattle.std.proofs.Common.{◌≡◌, ◌<◌, ◌∷◌, [], ℕ, length, IfSome, subst, arith, le_trans}
use Rattle.std.proofs.lemmas.List.{length-append}
use Rattle.std.proofs.lemmas.List.Elements.{All-nil}
use Rattle.design_form.specs.Extents.{shape_of}
use Rattle.design_form.specs.Signals.{width_of}
use Rattle.design_form.specs.Selects.{starts}
use Rattle.net_words.proofs.BuildLemmas.{IsLeft, next, fault, done}
use Rattle.net_words.proofs.WordSteps.{still_there}
use Rattle.net_exprs.specs.Selects.{hits_from}
use Rattle.net_exprs.proofs.Rows.{ahead, no_items}
use Rattle.net_exprs.proofs.PickSteps.{hits_here, hits_whole, one_maybe}
use Rattle.net_exprs.proofs.picks.hits.Goals as goal

pub loop-number-init : goal.loop-number-init
loop-number-init c =
    let s = c.args.select in
    let m = starts s.range s.width in
    let all = hits_from s.part s.range s.width (shape_of c.args.extent) c.args.index.now 0 m in
    rw c.new-hits.ensures.items (record {
      left = subst (λ (k : ℕ). IsLeft all c.args.net.now c.args.net.now (ahead [] (hits_from s.part s.range s.width (shape_of c.args.extent) c.args.index.now 0 k))) (omega arith) (no_items all c.args.net.now);
      there = All-nil (λ h. IfSome h (λ n. n < length c.args.net.now));
      longer = omega arith;
      count = omega arith;
      bound = omega arith;
    })

pub hit-requires-clause-index : goal.hit-requires-clause-index
hit-requires-clause-index c = still_there c.args.net.now c.loop-number.net c.args.index.now c.requires.index c.loop-number.invariant.longer

pub returns-in_err-found-clause-builds : goal.returns-in_err-found-clause-builds
returns-in_err-found-clause-builds c =
    let s = c.args.select in
    let wide : c.width.result ≡ width_of s.range = c.width.ensures in
    fault _ _ (hits_here s.part s.range s.width (shape_of c.args.extent) c.args.index.now c.loop-number.number (starts s.range s.width) c.loop-number.hits.items (omega (arith, wide, c.loop-number-test.true)) c.loop-number.invariant.left)
    c.in_err-found.ensures.builds c.from_residual.ensures

pub loop-number-preserved : goal.loop-number-preserved
loop-number-preserved c =
    let s = c.args.select in
    let wide : c.width.result ≡ width_of s.range = c.width.ensures in
    rw c.in_ok-push.ensures.items (record {
      left =
          next _ _ (hits_here s.part s.range s.width (shape_of c.args.extent) c.args.index.now c.loop-number.number (starts s.range s.width) c.loop-number.hits.items (omega (arith, wide, c.loop-number-test.true)) c.loop-number.invariant.left)
          c.in_ok-found.ensures.builds;
      there = one_maybe c.loop-number.net c.hit.new.net c.loop-number.hits.items c.in_ok-found.found c.loop-number.invariant.there c.in_ok-found.ensures.longer c.in_ok-found.ensures.inside;
      longer = le_trans c.loop-number.invariant.longer c.in_ok-found.ensures.longer;
      count = omega (arith, length-append c.loop-number.hits.items (c.in_ok-found.found ∷ []), c.loop-number.invariant.count);
      bound = omega (arith, wide, c.loop-number-test.true);
    })

pub returns-clause-builds : goal.returns-clause-builds
returns-clause-builds c =
    let s = c.args.select in
    let wide : c.width.result ≡ width_of s.range = c.width.ensures in
    done (λ w. w.items) c.loop-number.hits
    (hits_whole s.part s.range s.width (shape_of c.args.extent) c.args.index.now c.loop-number.number (starts s.range s.width) c.loop-number.hits.items (omega (arith, wide, c.loop-number-test.false)) c.loop-number.invariant.left)

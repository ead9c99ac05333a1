use Rattle.std.proofs.Common.{◌<◌, ℕ, length, IfSome, Option, subst, sym, arith, le_trans}
use Rattle.std.proofs.lemmas.List.Elements.{All-nil}
use Rattle.net_words.proofs.BuildLemmas.{next, fault, done}
use Rattle.net_words.proofs.WordSteps.{still_there}
use Rattle.net_exprs.specs.Selects.{terms}
use Rattle.net_exprs.proofs.Rows.{no_items}
use Rattle.net_exprs.proofs.PickSteps.{terms_here, terms_whole, hit_there, reached_there}
use Rattle.net_exprs.proofs.picks.terms.Goals as goal

pub loop-number-init : goal.loop-number-init
loop-number-init c =
    let s = c.args.select in
    rw c.new-found.ensures.items (record {
      left = no_items (terms c.args.hits.now s.range c.args.word.now s.width 0 c.args.place) c.args.net.now;
      there = All-nil (λ n. n < length c.args.net.now);
      longer = omega arith;
    })

pub put_term-requires-clause-hit : goal.put_term-requires-clause-hit
put_term-requires-clause-hit c = hit_there c.args.net.now c.loop-number.net c.args.hits.now c.loop-number.number c.index-hits-number.result c.requires.hits c.loop-number.invariant.longer c.loop-number-test.true c.index-hits-number.is

pub put_term-requires-clause-bit : goal.put_term-requires-clause-bit
put_term-requires-clause-bit c =
    let s = c.args.select in
    subst (λ (b : Option ℕ). IfSome b (λ n. n < length c.loop-number.net)) (sym c.reached-bit.ensures)
    (reached_there s.range c.args.word.now s.width c.loop-number.number c.args.place (length c.loop-number.net) (still_there c.args.net.now c.loop-number.net c.args.word.now c.requires.word c.loop-number.invariant.longer))

pub put_term-requires-clause-found : goal.put_term-requires-clause-found
put_term-requires-clause-found c = c.loop-number.invariant.there

pub returns-in_err-put_term-clause-builds : goal.returns-in_err-put_term-clause-builds
returns-in_err-put_term-clause-builds c =
    let s = c.args.select in
    fault _ _ (terms_here c.args.hits.now s.range c.args.word.now s.width c.loop-number.number c.args.place c.index-hits-number.result c.loop-number.found.items c.loop-number-test.true c.index-hits-number.is c.loop-number.invariant.left)
    (rw c.reached-bit.ensures at c.in_err-put_term.ensures.builds) c.from_residual.ensures

pub loop-number-preserved : goal.loop-number-preserved
loop-number-preserved c =
    let s = c.args.select in
    record {
      left =
          next _ _ (terms_here c.args.hits.now s.range c.args.word.now s.width c.loop-number.number c.args.place c.index-hits-number.result c.loop-number.found.items c.loop-number-test.true c.index-hits-number.is c.loop-number.invariant.left)
          (rw c.reached-bit.ensures at c.in_ok-put_term.ensures.builds);
      there = c.in_ok-put_term.ensures.inside;
      longer = le_trans c.loop-number.invariant.longer c.in_ok-put_term.ensures.longer;
    }

pub returns-clause-builds : goal.returns-clause-builds
returns-clause-builds c =
    let s = c.args.select in
    done (λ w. w.items) c.loop-number.found (terms_whole c.args.hits.now s.range c.args.word.now s.width c.loop-number.number c.args.place c.loop-number.found.items c.loop-number-test.false c.loop-number.invariant.left)

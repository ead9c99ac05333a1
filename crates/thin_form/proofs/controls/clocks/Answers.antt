use Rattle.std.proofs.Common.{◌≡◌, ◌<◌, ℕ, false, true, ◌||◌, List, length, get_or, sym, ap, subst, ◌∙◌, arith}
use Rattle.std.specs.Borrow.{Bor}
use Rattle.std.proofs.lemmas.List.{length-map, length-set}
use Rattle.thin_tree.specs.Written.{texts}
use Rattle.thin_form.specs.declared.assigned.Clocked.{Clocked}
use Rattle.thin_form.specs.Meaning.{place}
use Rattle.thin_form.specs.Rules.{is_among, clocks}
use Rattle.thin_form.specs.Numbers.{AreInputs}
use Rattle.thin_form.specs.Order.{all_processes}
use Rattle.thin_form.proofs.Places.{drop_item}
use Rattle.thin_form.proofs.Naming.{place_lt}
use Rattle.thin_form.proofs.Terms.{marked_step}
use Rattle.thin_form.proofs.controls.clocks.Goals as goal

pub index_mut-requires : goal.index_mut-requires
index_mut-requires c =
    let ns = texts c.args.sources.now in
    let lt = place_lt ns c.p-item.result.of.now.clock.now c.in-Some-place_in.ensures.0 in
    let within : c.in-Some-place_in.n < length c.loop-p.marks.items = omega (arith, lt, c.in-Some-place_in.ensures.1, c.loop-p.invariant.len, length-map c.args.sources.now (λ (t : Bor (List ℕ)). t.now)) in
    omega arith

pub loop-p-preserved : goal.loop-p-preserved
loop-p-preserved c =
    let ns = texts c.args.sources.now in
    let p = c.p-item.result in
    let split = drop_item c.args.processes.now c.loop-p.p-index p c.loop-p-test.true c.p-item.is in
    let marks = c.loop-p.marks.items in
    let len : length marks ≡ length ns = omega (arith, c.loop-p.invariant.len, length-map c.args.sources.now (λ (t : Bor (List ℕ)). t.now)) in
    record {
      len = length-set marks c.in-Some-place_in.n true ∙ c.loop-p.invariant.len;
      marked = λ t among.
          marked_step ns marks c.in-Some-place_in.n p.of.now.clock.now t _ _ len c.in-Some-place_in.ensures.0 c.in-Some-place_in.ensures.1 among
          (ap (λ (ps : List (Clocked)). get_or marks (place ns t) false || is_among t (clocks (all_processes ps))) (sym split) ∙ c.loop-p.invariant.marked t among);
      sound = λ rest. c.loop-p.invariant.sound (subst (λ (ps : List (Clocked)). AreInputs (texts c.args.inputs.now) (all_processes ps)) (sym split) (c.in-Some.ensures.0, rest));
      complete = λ whole. (subst (λ (ps : List (Clocked)). AreInputs (texts c.args.inputs.now) (all_processes ps)) split (c.loop-p.invariant.complete whole)).1;
    }

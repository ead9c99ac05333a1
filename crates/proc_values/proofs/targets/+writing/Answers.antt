use Rattle.std.proofs.Common.{arith, ◌-◌}
use Rattle.proc_values.proofs.MemberLemmas.{member_more, wider, no_members, no_width}
use Rattle.proc_values.proofs.targets.+writing.Goals as goal

pub put_members-loop-left-init : goal.put_members-loop-left-init
put_members-loop-left-init t c = record {
  written = no_members c.args.design.now c.args.now.now c.args.members.now c.args.word.now c.args.out.now.items;
  below = no_width c.args.design.now c.args.now.now c.args.members.now;
  bound = omega arith;
  inside = omega arith;
}

pub put_members-loop-left-preserved : goal.put_members-loop-left-preserved
put_members-loop-left-preserved t c =
    let d = c.args.design.now in
    let es = c.args.members.now in
    record {
      written = member_more d c.args.now.now es c.args.word.now c.behind-rest.result.now (c.loop-left.left - 1) c.loop-left.left c.loop-left.below c.index-members-left.result c.args.out.now.items c.loop-left.out.items c.put_strokes.new.out.items
          (omega arith) c.loop-left.invariant.inside c.index-members-left.is c.loop-left.invariant.written c.loop-left.invariant.below c.behind-rest.ensures c.in-Ok.ensures;
      below = wider d c.args.now.now es (c.loop-left.left - 1) c.loop-left.left c.loop-left.below c.in-Ok-width_of.width c.index-members-left-in-loop-left.result
          (omega arith) c.loop-left.invariant.inside c.index-members-left-in-loop-left.is c.loop-left.invariant.below c.in-Ok-width_of.ensures.value;
      bound = omega (arith, c.loop-left.invariant.bound, c.in-Ok-width_of.ensures.bound, c.loop-left.invariant.inside, c.loop-left-test.true);
      inside = omega (arith, c.loop-left.invariant.inside);
    }

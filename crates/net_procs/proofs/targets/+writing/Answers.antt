use Rattle.std.proofs.Common.{◌≡◌, ◌-◌, [], length, arith, le_trans, refl, Ok, inl, inr}
use Rattle.std.proofs.lemmas.List.Elements.{All-nil, All-append}
use Rattle.elab_bits.specs.Selects.{all_bits}
use Rattle.net_words.specs.Builds.{return}
use Rattle.net_words.proofs.BuildLemmas.{next, fault, done}
use Rattle.net_exprs.proofs.Transport.{same_build}
use Rattle.net_procs.specs.Ready.{IsStroke}
use Rattle.net_procs.specs.Targets.{onto_all, strokes}
use Rattle.net_procs.proofs.Steps.{nothing_drawn}
use Rattle.net_procs.proofs.StrokeSteps.{all_there, later}
use Rattle.net_procs.proofs.TargetSteps.{strokes_inside}
use Rattle.net_procs.proofs.TargetForms.{form-Name, form-Index, form-Select, form-Concat, none-Number, none-Brackets, none-Repeat, none-Unary, none-Binary, none-Conditional}
use Rattle.net_procs.proofs.MemberSteps.{members_first, members_here, members_whole, wider, no_width}
use Rattle.net_procs.proofs.targets.+writing.Goals as goal

pub onto_members-loop-left-init : goal.onto_members-loop-left-init
onto_members-loop-left-init t c = rw c.new-all.ensures.items (record {
  rest = members_first c.args.net.now c.args.design.now c.args.nodes.now c.args.members.now c.args.word.now;
  there = All-nil (IsStroke (length c.args.net.now));
  longer = omega arith;
  below = no_width c.args.design.now c.args.nodes.now c.args.members.now;
  bound = omega arith;
  inside = omega arith;
})

pub onto_members-returns-in-Err-clause-builds : goal.onto_members-returns-in-Err-clause-builds
onto_members-returns-in-Err-clause-builds t c =
    fault _ _
    (members_here c.args.design.now c.args.nodes.now c.args.members.now c.args.word.now c.behind-rest.result.now (c.loop-left.left - 1) c.loop-left.left c.loop-left.below c.index-members-left.result c.loop-left.all.items
    (omega arith) c.loop-left.invariant.inside c.index-members-left.is c.loop-left.invariant.below c.behind-rest.ensures c.loop-left.invariant.rest) c.in-Err.ensures.builds (refl, refl)

pub onto_members-loop-left-preserved : goal.onto_members-loop-left-preserved
onto_members-loop-left-preserved t c = rw c.in-Ok-append.ensures.items (record {
  rest =
      next _ _
      (members_here c.args.design.now c.args.nodes.now c.args.members.now c.args.word.now c.behind-rest.result.now (c.loop-left.left - 1) c.loop-left.left c.loop-left.below c.index-members-left.result c.loop-left.all.items
      (omega arith) c.loop-left.invariant.inside c.index-members-left.is c.loop-left.invariant.below c.behind-rest.ensures c.loop-left.invariant.rest) c.in-Ok.ensures.builds;
  there =
      All-append (IsStroke (length c.strokes.new.net)) c.loop-left.all.items c.in-Ok.top.items (later (length c.loop-left.net) (length c.strokes.new.net) c.loop-left.all.items c.in-Ok.ensures.longer c.loop-left.invariant.there) c.in-Ok.ensures.inside;
  longer = le_trans c.loop-left.invariant.longer c.in-Ok.ensures.longer;
  below =
      wider c.args.design.now c.args.nodes.now c.args.members.now (c.loop-left.left - 1) c.loop-left.left c.loop-left.below c.in-Ok-width_of.width c.index-members-left-in-loop-left.result (omega arith) c.loop-left.invariant.inside
      c.index-members-left-in-loop-left.is c.loop-left.invariant.below c.in-Ok-width_of.ensures.value;
  bound = omega (arith, c.loop-left.invariant.bound, c.in-Ok-width_of.ensures.bound, c.loop-left.invariant.inside, c.loop-left-test.true);
  inside = omega (arith, c.loop-left.invariant.inside);
})

pub onto_members-returns-clause-builds : goal.onto_members-returns-clause-builds
onto_members-returns-clause-builds t c =
    done (λ ks. ks.items) c.loop-left.all
    (members_whole c.args.design.now c.args.nodes.now c.args.members.now c.args.word.now c.loop-left.left c.loop-left.all.items c.loop-left-test.false c.loop-left.invariant.rest)

pub strokes-returns-in-Name-clause-builds : goal.strokes-returns-in-Name-clause-builds
strokes-returns-in-Name-clause-builds t c =
    same_build _ _ (form-Name c.args.design.now c.args.nodes.now c.args.word.now c.args.target.now _ c.in-Name.name c.as_slice.result.now c.in-Name.is c.as_slice.ensures)
    (nothing_drawn (λ ks. ks.items) (onto_all (all_bits c.args.design.now.signals c.as_slice.result.now) c.args.word.now) c.args.net.now c.onto_all.result (rw c.all_bits.ensures at c.onto_all.ensures.items) c.onto_all.ensures.fault)

pub strokes-returns-in-Name-clause-inside : goal.strokes-returns-in-Name-clause-inside
strokes-returns-in-Name-clause-inside t c =
    strokes_inside (λ ks. ks.items) (length c.args.net.now) (onto_all c.all_bits.result.now c.args.word.now) c.onto_all.result c.onto_all.ensures.items (all_there (length c.args.net.now) c.all_bits.result.now c.args.word.now c.requires.word)

pub strokes-returns-in-Index-clause-builds : goal.strokes-returns-in-Index-clause-builds
strokes-returns-in-Index-clause-builds t c =
    same_build _ _ (form-Index c.args.design.now c.args.nodes.now c.args.word.now c.args.target.now _ c.in-Index.name c.as_slice-name.result.now c.in-Index.at c.get-at.result.now c.in-Index.is c.as_slice-name.ensures c.get-at.ensures) c.onto_select.ensures.builds

pub strokes-returns-in-Select-clause-builds : goal.strokes-returns-in-Select-clause-builds
strokes-returns-in-Select-clause-builds t c =
    same_build _ _
    (form-Select c.args.design.now c.args.nodes.now c.args.word.now c.args.target.now _ c.in-Select.name c.as_slice-name-in-Select.result.now c.in-Select.part _ c.in-Select.first c.in-Select.second c.get-first.result.now c.get-second.result.now
    c.in-Select.is c.as_slice-name-in-Select.ensures refl c.get-first.ensures c.get-second.ensures) c.onto_written.ensures.builds

pub strokes-returns-in-Concat-clause-builds : goal.strokes-returns-in-Concat-clause-builds
strokes-returns-in-Concat-clause-builds t c =
    same_build _ _ (form-Concat c.args.design.now c.args.nodes.now c.args.word.now c.args.target.now _ c.in-Concat.members c.as_slice-in-Concat.result.now c.in-Concat.is c.as_slice-in-Concat.ensures) c.onto_members.ensures.builds

pub strokes-returns-in-Number-clause-builds : goal.strokes-returns-in-Number-clause-builds
strokes-returns-in-Number-clause-builds t c =
    let d = c.args.design.now in
    let nodes = c.args.nodes.now in
    let w = c.args.word.now in
    let e = c.args.target.now in
    let none : return [] ≡ strokes d nodes e w = elim c.in-Number.is [
      | inl x ↦ none-Number d nodes w e x.0 x.1 x.2
      | inr y ↦ elim y [
        | inl x ↦ none-Brackets d nodes w e x.0 x.1 x.2
        | inr y ↦ elim y [
          | inl x ↦ none-Repeat d nodes w e x.0 x.1 x.2 x.3
          | inr y ↦ elim y [
            | inl x ↦ none-Unary d nodes w e x.0 x.1 x.2 x.3
            | inr y ↦ elim y [
              | inl x ↦ none-Binary d nodes w e x.0 x.1 x.2 x.3 x.4
              | inr x ↦ none-Conditional d nodes w e x.0 x.1 x.2 x.3 x.4
            ]
          ]
        ]
      ]
    ] in
    same_build _ _ none (nothing_drawn (λ ks. ks.items) [] c.args.net.now (Ok c.new.result) c.new.ensures.items tt)

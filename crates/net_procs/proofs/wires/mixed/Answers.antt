use Rattle.std.proofs.Common.{◌∙◌, ℕ, List, length, subst, sym}
use Rattle.net_words.specs.Builds.{AreThere}
use Rattle.net_words.proofs.BuildLemmas.{done, next, fault}
use Rattle.net_words.proofs.WordSteps.{still_there}
use Rattle.net_exprs.proofs.NameSteps.{nodes_there}
use Rattle.net_procs.proofs.NodeSteps.{mixed_left}
use Rattle.net_procs.proofs.wires.mixed.Goals as goal

pub select-requires-clause-a : goal.select-requires-clause-a
select-requires-clause-a c =
    subst (λ (w : List ℕ). AreThere c.args.net.now w) (sym (c.as_slice.ensures.value ∙ c.in_ok-ones.ensures.items)) (nodes_there c.args.first.now c.args.bits.now (length c.args.net.now) c.requires.first c.requires.first_bits)

pub select-requires-clause-b : goal.select-requires-clause-b
select-requires-clause-b c =
    subst (λ (w : List ℕ). AreThere c.args.net.now w) (sym (c.as_slice-2.ensures.value ∙ c.in_ok-others.ensures.items)) (nodes_there c.args.nodes.now c.args.bits.now (length c.args.net.now) c.requires.nodes c.requires.bits)

pub returns-in_err-word-clause-builds : goal.returns-in_err-word-clause-builds
returns-in_err-word-clause-builds c =
    fault _ _
    (mixed_left c.args.net.now c.args.bits.now c.args.choice c.args.first.now c.args.nodes.now c.as_slice.result.now c.as_slice-2.result.now (c.as_slice.ensures.value ∙ c.in_ok-ones.ensures.items) (c.as_slice-2.ensures.value ∙ c.in_ok-others.ensures.items))
    c.in_err-word.ensures.builds c.from_residual-in_err-word.ensures

pub returns-clause-builds : goal.returns-clause-builds
returns-clause-builds c =
    done _ (tt {0})
    (rw c.put_back.ensures.nodes (rw c.as_slice-3.ensures.value
    (next _ _
    (mixed_left c.args.net.now c.args.bits.now c.args.choice c.args.first.now c.args.nodes.now c.as_slice.result.now c.as_slice-2.result.now (c.as_slice.ensures.value ∙ c.in_ok-ones.ensures.items) (c.as_slice-2.ensures.value ∙ c.in_ok-others.ensures.items))
    c.in_ok-word.ensures.builds)))

pub returns-clause-inside : goal.returns-clause-inside
returns-clause-inside c =
    c.put_back.ensures.inside (length c.select.new.net) (subst (λ (w : List ℕ). AreThere c.select.new.net w) (sym c.as_slice-3.ensures.value) c.in_ok-word.ensures.inside) (still_there c.args.net.now c.select.new.net c.args.nodes.now c.requires.nodes c.in_ok-word.ensures.longer)

use Rattle.std.proofs.Common.{◌<◌, map, sym, subst, ap, ◌∙◌}
use Rattle.std.proofs.lemmas.List.{take_all}
use Rattle.reset_trees.proofs.PinLemmas.{numbers_more}
use Rattle.reset_trees.proofs.cone.numbers_of.Goals as goal

pub src_index-requires : goal.src_index-requires
src_index-requires g c =
    subst (λ (s : g.row.V-Src.Denot). g.V.View.source_number s < g.V.View.source_count c.args.view.now) (sym c.source-item.is) (c.requires c.sources.source-index c.source-item.result c.sources-test.true)

pub sources-preserved : goal.sources-preserved
sources-preserved g c =
    c.in_ok-push.ensures.ok ∙ numbers_more g.V.View.source_number c.args.sources.now c.source-item.result c.sources.source-index c.src_index.result c.sources.numbers c.sources-test.true c.source-item.is c.src_index.ensures c.sources.invariant

pub returns : goal.returns
returns g c = c.sources.invariant ∙ ap (map g.V.View.source_number) (take_all c.sources.source-index c.args.sources.now c.sources-test.false)

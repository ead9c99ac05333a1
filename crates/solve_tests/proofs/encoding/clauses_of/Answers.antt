-- Numbers below that of the sources are those of sources.
use Rattle.std.proofs.Common.{◌≡◌, ◌∙◌, subst, sym}
use Rattle.tern_cnf.specs.Asked.{AreSources}
use Rattle.solve_tests.proofs.SmallNetLemmas.{laid_sources}
use Rattle.solve_tests.proofs.encoding.clauses_of.Goals as goal

pub encode-requires-clause-fixed : goal.encode-requires-clause-fixed
encode-requires-clause-fixed c =
    let net = c.args.net.now in
    let items : c.new.result ≡ c.args.fixed.now = c.new.ensures ∙ c.in_ok-to_vec.ensures.items_if_clones_equal (λ x y e. e) in
    subst (AreSources net.gates.now) (sym items) (laid_sources net.sources net.gates.now c.args.fixed.now net.laid_out c.requires)

use Rattle.std.proofs.Common.{[], ◌∷◌, sym}
use Rattle.std.proofs.lemmas.Slice.Eq.{bytes_eq-Decides}
use Rattle.net_tests.proofs.TreeNetLemmas.{finds_h, finds_p, finds_r, finds_s}
use Rattle.net_tests.proofs.tree.TreeFlopNet.find.Goals as goal

pub returns-then-eq : goal.returns-then-eq
returns-then-eq c = finds_h c.args.name.now (sym ((bytes_eq-Decides c.args.name.now (104 ∷ [])).0 (sym c.if-eq.ensures)))

pub returns-then-eq-2 : goal.returns-then-eq-2
returns-then-eq-2 c = finds_p c.args.name.now (sym ((bytes_eq-Decides c.args.name.now (112 ∷ [])).0 (sym c.if-eq-2.ensures)))

pub returns-then-eq-3 : goal.returns-then-eq-3
returns-then-eq-3 c = finds_r c.args.name.now (sym ((bytes_eq-Decides c.args.name.now (114 ∷ [])).0 (sym c.if-eq-3.ensures)))

pub returns-then-eq-4 : goal.returns-then-eq-4
returns-then-eq-4 c = finds_s c.args.name.now (sym ((bytes_eq-Decides c.args.name.now (115 ∷ [])).0 (sym c.if-eq-4.ensures)))

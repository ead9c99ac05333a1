-- What the program keeps.
--     state_of g       the flat design so far, and its size
--     lent t           the top
use Rattle.elab_items.specs.Tables.{plan_of}
use Rattle.elab_tree.specs.Hierarchy.{State}
use Rattle.elab_tree.specs.declared.growth.Growth.{Growth}
use Rattle.elab_tree.specs.declared.top.Top as kept
use Rattle.elab_tree.specs.Tops.{Top}

abbrev pub state_of : Growth → State
state_of g = record { plan = plan_of g.plan; size = g.size }

abbrev pub lent : kept.Top → Top
lent t = record { position = t.position; body = t.body.now }

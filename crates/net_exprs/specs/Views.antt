-- What the program keeps of what names stand for.
--   view_of v            a view as what a name stands for
use Rattle.net_exprs.specs.declared.wired.View.{View}
use Rattle.net_exprs.specs.Wired.{Wired}

abbrev pub view_of : View → Wired
view_of v = record { range = v.range; signed = v.signed; nodes = v.nodes.items }

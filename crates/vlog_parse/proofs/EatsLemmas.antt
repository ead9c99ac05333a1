-- The readers of what holds statements or items leave no more lexemes than they find, and those of items fewer.
use Rattle.std.proofs.Common.{ℕ, arith}
use Rattle.vlog_parse.specs.Lists.{Keeps, Eats}
use Rattle.vlog_parse.specs.Parts.{assignment}
use Rattle.vlog_parse.specs.Items.{default_arm, labelled_arm, item}
use Rattle.vlog_parse.specs.Modules.{further, bare, port}
use Rattle.vlog_parse.proofs.KeepsLemmas.{kept}
use Rattle.vlog_parse.proofs.SteadyParts.{steady_assignment}
use Rattle.vlog_parse.proofs.SteadyItems.{takes, steady_item, steady_further, steady_bare, steady_port}
use Rattle.vlog_parse.proofs.ArmsExact as a
use Rattle.vlog_parse.proofs.ItemsExact.{exact_item}
use Rattle.vlog_parse.proofs.Given.{laws}

pub keeps_assignments : (room : ℕ) → Keeps (assignment room)
keeps_assignments room = kept (steady_assignment room room (omega arith) laws)

pub keeps_further : (room : ℕ) → Keeps (further room)
keeps_further room = kept (steady_further room room (omega arith))

pub keeps_bare : Keeps bare
keeps_bare = kept (steady_bare 0 0 (omega arith))

pub keeps_ports : (room : ℕ) → Keeps (port room)
keeps_ports room = kept (steady_port room room (omega arith))

pub eats_items : (room : ℕ) → Eats (item room)
eats_items room = record { leaves = takes laws room room (omega arith) (item room) (item room) (steady_item laws room room (omega arith)) (exact_item laws room) }

pub eats_default : (room : ℕ) → Eats (default_arm room (item room))
eats_default room = record { leaves = a.default_eats room (item room) (exact_item laws room) }

pub eats_labelled : (room : ℕ) → Eats (labelled_arm room (item room))
eats_labelled room = record { leaves = a.labelled_eats room (item room) (exact_item laws room) }

use Rattle.design_form.specs.Extents.{shape_of}
use Rattle.elab_sound.proofs.Contexts.{has_value, has_none}
use Rattle.elab_sound.proofs.checks.computed.Goals as goal

pub returns-in-Ok : goal.returns-in-Ok
returns-in-Ok c = has_value _ _ (shape_of c.args.size) c.args.e.now _ c.new.ensures c.context_of.ensures c.in-Ok.ensures.value

pub returns : goal.returns
returns c = has_none _ _ (shape_of c.args.size) c.args.e.now _ _ c.new.ensures c.context_of.ensures c.from.ensures c.in-Err.ensures.value

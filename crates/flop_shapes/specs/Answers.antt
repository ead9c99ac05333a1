-- What a call answers.
--     a_form s        a form, without where its parts lie in memory
--     a_bit r         a bit, without where its name lies
--     Answers r f     a form or a fault as the definition has it, or want of memory
use Rattle.std.specs.Prelude.{◌≡◌, ◌⊎◌, Result, Ok, Err}
use Rattle.flop_shapes.specs.declared.form.ProcessShape.{ProcessShape}
use Rattle.flop_shapes.specs.declared.form.ProcessShape.TheVariants as shape
use Rattle.flop_shapes.specs.declared.reference.Reference.{Reference}
use Rattle.flop_shapes.specs.declared.fault.ShapeFault.{ShapeFault}
use Rattle.flop_shapes.specs.declared.fault.ShapeFault.TheVariants.{Memory}
use Rattle.flop_shapes.specs.Tests.{Bit}
use Rattle.flop_shapes.specs.Shapes.{Form, Combinational, Clocked, Reset}

abbrev pub a_form : ProcessShape → Form
a_form shape.Combinational = Combinational
a_form (shape.Clocked clock body) = Clocked clock.now body.now
a_form (shape.Reset clock reset high reset_part clocked_part) = Reset clock.now reset.now high reset_part.now clocked_part.now

abbrev pub a_bit : Reference → Bit
a_bit r = record { name = r.name.now; index = r.index }

abbrev pub Answers : Result ProcessShape ShapeFault → Result Form ShapeFault → Type 0
Answers (Ok s) f = f ≡ Ok (a_form s)
Answers (Err fault) f = (fault ≡ Memory) ⊎ (f ≡ Err fault)

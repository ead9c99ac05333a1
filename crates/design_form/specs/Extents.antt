-- What the program keeps of shapes.
--     shape_of x              a width and a sign as a shape
--     view_of v               what a name stands for
--     AreAlike family a b     operands that go together are equally wide
use Rattle.std.specs.Prelude.{◌≡◌, List, length}
use Rattle.rdc_tern.specs.declared.value.Tern.{Tern}
use Rattle.vlog_const.specs.declared.shape.Family.{Family}
use Rattle.vlog_const.specs.declared.shape.Family.TheVariants.{Contextual, Compared, Alone, Leading}
use Rattle.vlog_const.specs.declared.shape.Shape.{Shape}
use Rattle.design_form.specs.declared.extent.Extent.{Extent}
use Rattle.design_form.specs.declared.seen.View.{View}
use Rattle.design_form.specs.Selects.{Seen}

abbrev pub shape_of : Extent → Shape
shape_of x = record { width = x.width; signed = x.signed }

-- operands that go together are equally wide
abbrev pub AreAlike : Family → List Tern → List Tern → Type 0
AreAlike Contextual a b = length a ≡ length b
AreAlike Compared a b = length a ≡ length b
AreAlike Alone a b = Unit {0}
AreAlike Leading a b = Unit {0}

-- what a name stands for
abbrev pub view_of : View → Seen
view_of v = record { range = v.range; signed = v.signed; word = v.word.items }

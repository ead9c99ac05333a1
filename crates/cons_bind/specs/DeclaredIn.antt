-- The declared sources of a file, as code marks them.
use Rattle.std.specs.Prelude.{List}
use Rattle.cons_file.specs.File.{Stated}
use Rattle.cons_bind.specs.Names.{Net}
use Rattle.cons_bind.specs.Declarations.{IsDeclaredReset, IsDeclaredClock}
use Rattle.cons_bind.specs.Marks.{Marks}
use Rattle.cons_bind.specs.declared.named.Declared.{Declared}

-- the declared resets and clocks of the lines are marked
pub record AreDeclared (net : Net) (lines : List Stated) (declared : Declared) : Type 0 where
  pub resets : Marks (IsDeclaredReset net lines) declared.resets.items
  pub clocks : Marks (IsDeclaredClock net lines) declared.clocks.items

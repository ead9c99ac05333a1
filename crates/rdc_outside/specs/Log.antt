-- The calls of a shelf in memory, and the room that is left for saves.
use Rattle.std.specs.Prelude.{ℕ, List, Option, Some, None}
use Rattle.rdc_outside.specs.Shelf.{Call, Load, Save, Calls}
use Rattle.rdc_outside.specs.Pile.{Entry}

-- the calls made, and what saves may still take
pub record LogState : Type 0 where
  pub calls : Calls
  pub room : ℕ

-- a load where there is a number, else a save
abbrev pub call_by : Option ℕ → List ℕ → List ℕ → Call
call_by (Some most) name bytes = Load name most
call_by None name bytes = Save name bytes

-- the call that an entry stands for
abbrev pub call_of : Entry → Call
call_of entry = call_by entry.most entry.name entry.bytes

-- Where a name's bytes lie. No public clause cites this module.
use Rattle.std.specs.Prelude.{ℕ, ◌≤◌, List, take}
use Rattle.vlog_tree.specs.declared.name.Bytes.{Bytes}
use Rattle.vlog_tree.specs.declared.name.Bytes.TheVariants.{Near, Far}

abbrev pub name_bytes : Bytes → List ℕ
name_bytes (Near len bytes) = take len bytes
name_bytes (Far bytes) = bytes

-- a name that stands in the value has no more bytes than there are places
abbrev pub IsWithin : Bytes → Type 0
IsWithin (Near len bytes) = len ≤ 22
IsWithin (Far bytes) = Unit {0}

-- What is read of a file and written to it, and what the shelf of the system's files counts.
use Rattle.std.specs.Prelude.{◌≡◌, ◌<◌, ℕ, List, length, Result, Ok, Err, Vec, ⊤}
use Rattle.std.specs.declared.alloc.Global.{Global}
use Rattle.rdc_outside.specs.Counts.{counted}
use Rattle.rdc_outside.specs.declared.disk.DiskShelf.{DiskShelf}
use Rattle.rdc_outside.specs.declared.faults.LoadFault.{LoadFault}
use Rattle.rdc_outside.specs.declared.faults.LoadFault.TheVariants.{Memory, Absent, TooBig, Failed}
use Rattle.rdc_outside.specs.declared.faults.SaveFault.{SaveFault}

-- reading a file of these bytes, of which there may be so many, answers all of them or says that they are more
abbrev pub IsReadAs : ℕ → Result (Vec ℕ Global) LoadFault → List ℕ → Type 0
IsReadAs most (Ok read) bytes = read.items ≡ bytes
IsReadAs most (Err TooBig) bytes = most < length bytes
IsReadAs most (Err fault) bytes = ⊤

-- the counts after a load
abbrev pub disk_after_load : {R : Type 0} → DiskShelf R → Result (Vec ℕ Global) LoadFault → DiskShelf R
disk_after_load shelf (Ok _) = shelf
disk_after_load shelf (Err Memory) = shelf
disk_after_load shelf (Err Absent) = record shelf { absences = counted shelf.absences }
disk_after_load shelf (Err TooBig) = record shelf { excesses = counted shelf.excesses }
disk_after_load shelf (Err Failed) = record shelf { faults = counted shelf.faults }

-- the counts after a save
abbrev pub disk_after_save : {R : Type 0} → DiskShelf R → Result ⊤ SaveFault → DiskShelf R
disk_after_save shelf (Ok _) = shelf
disk_after_save shelf (Err _) = record shelf { faults = counted shelf.faults }

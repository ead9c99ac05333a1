-- How a fault of the lines is one of the file.
use Rattle.thin_cons.specs.declared.fault.LinesFault.{LinesFault}
use Rattle.thin_cons.specs.declared.fault.LinesFault.TheVariants as lines
use Rattle.thin_cons.specs.declared.fault.ConsFault.{ConsFault}
use Rattle.thin_cons.specs.declared.fault.ConsFault.TheVariants as cons

-- want of memory stays so, and bytes that spell no lines declare nothing
abbrev pub cons_fault_of : LinesFault → ConsFault
cons_fault_of lines.Memory = cons.Memory
cons_fault_of lines.NotOfForm = cons.NotOfForm

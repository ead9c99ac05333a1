-- What the declarations of one name say together. A name is declared once. A port that the head only names gets its
-- direction by one item, and may have one declaration of its net, or of its register where it is an output.
--     form_of d             what a port is by its direction alone
--     begun m               what is known after the first declaration
--     directed d e m        the direction of a port that the head names
--     further form e m      a net or a register for it
--     entered before m      what is known after one more declaration, or why there may be none
use Rattle.std.specs.Prelude.{Bool, true, false, ◌||◌, ◌&&◌, if◌then◌else◌, Option, Some, None, Result, Ok, Err}
use Rattle.vlog_tree.specs.declared.port.Direction.{Direction}
use Rattle.vlog_tree.specs.declared.port.Direction.TheVariants as way
use Rattle.elab_decls.specs.declared.mention.Mention.{Mention}
use Rattle.elab_decls.specs.declared.mention.Sort.{Sort}
use Rattle.elab_decls.specs.declared.mention.Sort.TheVariants as sort
use Rattle.elab_decls.specs.declared.entry.Entry.{Entry}
use Rattle.elab_decls.specs.declared.entry.Form.{Form}
use Rattle.elab_decls.specs.declared.entry.Form.TheVariants as form
use Rattle.elab_decls.specs.declared.entry.Refusal.{Refusal}
use Rattle.elab_decls.specs.declared.entry.Refusal.TheVariants.{NoPort, Twice}

-- what a port is by its direction alone: `output reg` declares the register too
unfoldable pub form_of : Direction → Option Form
form_of way.Register = Some form.Register
form_of _ = None

-- a name with nothing but one declaration
abbrev pub sole : Mention → Bool → Option Direction → Option Form → Entry
sole m listed direction f = record { place = m.place; listed = listed; direction = direction; form = f; signed = m.signed }

-- what is known after the first declaration of a name
unfoldable pub begun : Mention → Sort → Result Entry Refusal
begun m sort.Listed = Ok (sole m true None None)
begun m (sort.Headed d) = Ok (sole m false (Some d) (form_of d))
begun m (sort.Directed d) = Err NoPort
begun m sort.Wire = Ok (sole m false None (Some form.Wire))
begun m sort.Register = Ok (sole m false None (Some form.Register))
begun m sort.Integer = Ok (sole m false None (Some form.Integer))
begun m sort.Genvar = Ok (sole m false None (Some form.Genvar))
begun m sort.Thing = Ok (sole m false None (Some form.Thing))

-- whether a port that is a net or a register already may have a direction
unfoldable pub may_be : Direction → Option Form → Bool
may_be d None = true
may_be way.Input (Some form.Wire) = true
may_be way.Output (Some form.Wire) = true
may_be way.Output (Some form.Register) = true
may_be _ _ = false

-- what both say together
unfoldable pub both : Option Form → Option Form → Option Form
both None f = f
both (Some f) g = Some f

-- its direction is d: of no name but one that stands alone in the list of ports, and once
abbrev pub with_direction : Direction → Entry → Mention → Entry
with_direction d e m = record { place = e.place; listed = e.listed; direction = Some d; form = both e.form (form_of d); signed = e.signed || m.signed }

unfoldable pub directed : Direction → Entry → Mention → Option Direction → Result Entry Refusal
directed d e m (Some _) = Err Twice
directed d e m None = if e.listed then (if may_be d e.form then Ok (with_direction d e m) else Err Twice) else Err NoPort

-- whether a port may be a register
unfoldable pub may_keep : Option Direction → Bool
may_keep (Some way.Input) = false
may_keep _ = true

-- a net or a register of a port that stands alone in the list, once
abbrev pub with_form : Form → Entry → Mention → Entry
with_form f e m = record { place = e.place; listed = e.listed; direction = e.direction; form = Some f; signed = e.signed || m.signed }

unfoldable pub further : Form → Bool → Entry → Mention → Option Form → Result Entry Refusal
further f fits e m (Some _) = Err Twice
further f fits e m None = if e.listed && fits then Ok (with_form f e m) else Err Twice

-- what is known after one more declaration of a name that is declared
unfoldable pub continued : Entry → Mention → Sort → Result Entry Refusal
continued e m (sort.Directed d) = directed d e m e.direction
continued e m sort.Wire = further form.Wire true e m e.form
continued e m sort.Register = further form.Register (may_keep e.direction) e m e.form
continued e m _ = Err Twice

-- what is known after one more declaration
unfoldable pub entered : Option Entry → Mention → Result Entry Refusal
entered None m = begun m m.sort
entered (Some e) m = continued e m m.sort

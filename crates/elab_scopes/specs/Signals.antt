-- The signals of a scope, in the order of the text, once its parameters have their values.
--     Placed                           a signal of the flat design, and where its name is declared
--     Drawn                            the names, and the signals so far
--     kind_of e, is_signed e           what the declarations of a name say together
--     known prefix e b name            a signal under its printed name
--     drawn ..                         after one more name
--     signals_of_item, signals_of_port, signals       after those of an item, of a port, of a scope
use Rattle.std.specs.Prelude.{ℕ, Bool, true, false, not, ◌||◌, if◌then◌else◌, List, [], ◌∷◌, ◌++◌, Option, Some, None, Ok}
use Rattle.std.specs.Option.{is_some}
use Rattle.rdc_outside.specs.declared.source.Place.{Place}
use Rattle.vlog_tree.specs.declared.ident.Ident.{Ident}
use Rattle.vlog_tree.specs.declared.port.Direction.{Direction}
use Rattle.vlog_tree.specs.declared.port.Direction.TheVariants as way
use Rattle.vlog_tree.specs.declared.port.Shape.{Shape}
use Rattle.vlog_tree.specs.declared.port.Port.{Port}
use Rattle.vlog_tree.specs.declared.port.Port.TheVariants as port
use Rattle.vlog_tree.specs.declared.item.Net.{Net}
use Rattle.vlog_tree.specs.declared.item.Item.{Item, fold-Item}
use Rattle.vlog_tree.specs.declared.item.Item.TheOpen.{Item-F}
use Rattle.design_form.specs.declared.signal.Bounds.{Bounds}
use Rattle.design_form.specs.declared.signal.SignalKind.{SignalKind}
use Rattle.design_form.specs.declared.signal.SignalKind.TheVariants as kind
use Rattle.elab_decls.specs.declared.entry.Entry.{Entry}
use Rattle.elab_decls.specs.declared.entry.Form.{Form}
use Rattle.elab_decls.specs.declared.entry.Form.TheVariants as form
use Rattle.elab_decls.specs.Mentions.{spread}
use Rattle.elab_names.specs.declared.meaning.Known.{Known}
use Rattle.elab_names.specs.declared.meaning.Meaning.TheVariants as meaning
use Rattle.elab_names.specs.Answers.{Or_fault, ◌>>=◌}
use Rattle.elab_names.specs.Meanings.{Frames, declared}
use Rattle.elab_scopes.specs.declared.placed.Placed.{Placed}
use Rattle.elab_scopes.specs.Threads.{threaded, chained}
use Rattle.elab_scopes.specs.Ranges.{vector}

-- what is known of each name, from all its declarations
abbrev pub Entries : Type 0
Entries = List ℕ → Option Entry

-- the names, and the signals so far
pub record Drawn : Type 0 where
  pub frames : Frames
  pub signals : List Placed

-- a port that is no register is a wire
unfoldable pub kind_in : Option Form → SignalKind
kind_in (Some form.Register) = kind.Register
kind_in (Some form.Integer) = kind.Integer
kind_in _ = kind.Wire

unfoldable pub is_input : Option Direction → Bool
is_input (Some way.Input) = true
is_input _ = false

-- a signal under its printed name
abbrev pub known : List ℕ → Entry → Bool → Option Bounds → List ℕ → Known
known prefix e signed range name = record { printed = prefix ++ name; kind = kind_in e.form; signed = signed; range = range; input = is_input e.direction }

abbrev pub placed : Known → Place → Placed
placed k place = record { signal = record { name = k.printed; kind = k.kind; signed = k.signed; range = k.range }; place = place }

-- after one more signal
abbrev pub with_signal : Drawn → Known → Ident → Drawn
with_signal d k i = record { frames = declared d.frames i.name (meaning.Signal k); signals = d.signals ++ placed k i.place ∷ [] }

-- after one more declaration: of a port the one that gives its direction tells its range, and any other name has one alone
unfoldable pub drawn_as : List ℕ → Bool → Option Bounds → Drawn → Ident → Option Entry → Drawn
drawn_as prefix gives range d i None = d
drawn_as prefix gives range d i (Some e) = if gives || not (is_some e.direction) then with_signal d (known prefix e e.signed range i.name) i else d

unfoldable pub drawn : List ℕ → Entries → Bool → Option Bounds → Drawn → Option Ident → Or_fault Drawn
drawn prefix entries gives range d None = Ok d
drawn prefix entries gives range d (Some i) = Ok (drawn_as prefix gives range d i (entries i.name))

-- names of one shape
unfoldable pub shaped : {X : Type 0} → (X → Option Ident) → List ℕ → Entries → Bool → Shape → List X → Drawn → Or_fault Drawn
shaped ident prefix entries gives s xs d = do
  range ← vector d.frames s.range
  threaded (λ e x. drawn prefix entries gives range e (ident x)) d xs

-- an integer is signed, with the range [31:0]
abbrev pub integer_range : Option Bounds
integer_range = Some (record { msb = 31; lsb = 0 })

unfoldable pub integer_as : List ℕ → Drawn → Ident → Option Entry → Drawn
integer_as prefix d i None = d
integer_as prefix d i (Some e) = with_signal d (known prefix e true integer_range i.name) i

unfoldable pub integer : List ℕ → Entries → Drawn → Ident → Or_fault Drawn
integer prefix entries d i = Ok (integer_as prefix d i (entries i.name))

unfoldable pub item_by_parts : List ℕ → Entries → Item-F (Drawn → Or_fault Drawn) → Drawn → Or_fault Drawn
item_by_parts prefix entries (Item-F.Ports place way s names) d = shaped Some prefix entries true s names d
item_by_parts prefix entries (Item-F.Wires place s nets) d = shaped (λ (n : Net). Some n.name) prefix entries false s nets d
item_by_parts prefix entries (Item-F.Registers place s names) d = shaped Some prefix entries false s names d
item_by_parts prefix entries (Item-F.Integers place names) d = threaded (integer prefix entries) d names
item_by_parts prefix entries (Item-F.Generate place items) d = chained items d
item_by_parts prefix entries _ d = Ok d

unfoldable pub signals_of_item : List ℕ → Entries → Drawn → Item → Or_fault Drawn
signals_of_item prefix entries d i = fold-Item (Drawn → Or_fault Drawn) (item_by_parts prefix entries) i d

unfoldable pub signals_of_port : List ℕ → Entries → Drawn → Port → Or_fault Drawn
signals_of_port prefix entries d (port.Declared way s i) = shaped Some prefix entries true s (i ∷ []) d
signals_of_port prefix entries d (port.Named i) = Ok d

-- after those of a scope; a generate block has no ports
unfoldable pub signals : List ℕ → Entries → Drawn → List Port → List Item → Or_fault Drawn
signals prefix entries d ports items = do
  after ← threaded (signals_of_port prefix entries) d (spread None ports)
  threaded (signals_of_item prefix entries) after items

-- The declarations of a scope, in the order of the text.
--     Said, said sort signed i      a declaration of the name i
--     said_of_item i                those of an item; `generate .. endgenerate` is no scope, other generate constructs are
--     spread last ports             each port of a list as it is declared, behind the last declared one
--     said_of_head ps ports         those of a module's head
--     said_of ps ports is           all of them
use Rattle.std.specs.Prelude.{ℕ, Bool, false, List, [], ◌∷◌, ◌++◌, Option, Some, None}
use Rattle.std.specs.List.{flat_map}
use Rattle.vlog_tree.specs.declared.ident.Ident.{Ident}
use Rattle.vlog_tree.specs.declared.port.Port.{Port}
use Rattle.vlog_tree.specs.declared.port.Port.TheVariants as port
use Rattle.vlog_tree.specs.declared.item.Item.{Item, fold-Item}
use Rattle.vlog_tree.specs.declared.item.Item.TheOpen.{Item-F}
use Rattle.vlog_tree.specs.declared.module.Parameter.{Parameter}
use Rattle.elab_decls.specs.declared.mention.Mention.{Mention}
use Rattle.elab_decls.specs.declared.mention.Sort.{Sort}
use Rattle.elab_decls.specs.declared.mention.Sort.TheVariants.{Listed, Headed, Directed, Wire, Register, Integer, Genvar, Thing}

-- a name, and what a declaration says of it
pub record Said : Type 0 where
  pub name : List ℕ
  pub mention : Mention

abbrev pub said : Sort → Bool → Ident → Said
said sort signed i = record { name = i.name; mention = record { place = i.place; sort = sort; signed = signed } }

-- a name that may be left out
unfoldable pub said_if : Sort → Bool → Option Ident → List Said
said_if sort signed None = []
said_if sort signed (Some i) = said sort signed i ∷ []

-- what names things, each declared in one way
abbrev pub all_said : {X : Type 0} → (X → Option Ident) → Sort → Bool → List X → List Said
all_said ident sort signed xs = flat_map (λ x. said_if sort signed (ident x)) xs

-- those of an item, by those of the items in it
unfoldable pub said_by_parts : Item-F (List Said) → List Said
said_by_parts (Item-F.Ports place d shape names) = all_said Some (Directed d) shape.signed names
said_by_parts (Item-F.Wires place shape nets) = all_said (λ n. Some n.name) Wire shape.signed nets
said_by_parts (Item-F.Registers place shape names) = all_said Some Register shape.signed names
said_by_parts (Item-F.Integers place names) = all_said Some Integer false names
said_by_parts (Item-F.Genvars place names) = all_said Some Genvar false names
said_by_parts (Item-F.Parameters place shape bindings) = all_said (λ b. Some b.name) Thing false bindings
said_by_parts (Item-F.Constants place shape bindings) = all_said (λ b. Some b.name) Thing false bindings
said_by_parts (Item-F.Gates place which gates) = all_said (λ g. g.name) Thing false gates
said_by_parts (Item-F.Instances place called passed instances) = all_said (λ i. Some i.name) Thing false instances
said_by_parts (Item-F.Generate place items) = flat_map (λ ss. ss) items
said_by_parts _ = []

unfoldable pub said_of_item : Item → List Said
said_of_item = fold-Item (List Said) said_by_parts

-- the last port that is declared, after one more
unfoldable pub last_after : Option Port → Port → Option Port
last_after last (port.Declared d shape i) = Some (port.Declared d shape i)
last_after last (port.Named i) = last

-- a port behind the last declared one: a name alone is as that one
unfoldable pub port_as : Option Port → Port → Port
port_as last (port.Declared d shape i) = port.Declared d shape i
port_as None (port.Named i) = port.Named i
port_as (Some (port.Declared d shape j)) (port.Named i) = port.Declared d shape i
port_as (Some (port.Named j)) (port.Named i) = port.Named i

-- each port of a list as it is declared: in `input [3:0] a, b` both are
unfoldable pub spread : Option Port → List Port → List Port
spread last [] = []
spread last (p ∷ ports) = port_as last p ∷ spread (last_after last p) ports

unfoldable pub said_of_port : Port → List Said
said_of_port (port.Declared d shape name) = said (Headed d) shape.signed name ∷ []
said_of_port (port.Named name) = said Listed false name ∷ []

-- those of a module's head
abbrev pub said_of_head : List Parameter → List Port → List Said
said_of_head parameters ports = all_said (λ p. Some p.binding.name) Thing false parameters ++ flat_map said_of_port (spread None ports)

-- all of a scope; a generate block has no head
abbrev pub said_of : List Parameter → List Port → List Item → List Said
said_of parameters ports items = said_of_head parameters ports ++ flat_map said_of_item items

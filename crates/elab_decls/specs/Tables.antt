-- What is known of each name of a scope.
--     Table, no_entries, with_entry t name e    the names, and what is known of each
--     stepped t s                               after one more declaration, or why it is refused
--     entries t ss                              after some, in their order
--     stands t p, whole t ports                 each name in the list of ports has a direction
--     declared_in ps ports is                   what a scope declares
--     table_of, Stops, Answers, Changes, Refuses              what code keeps, and what it answers
use Rattle.std.specs.Prelude.{◌≡◌, ◌⊎◌, ℕ, Bool, false, if◌then◌else◌, List, [], ◌∷◌, ◌++◌, Option, Some, None, Result, Ok, Err}
use Rattle.std.specs.Option.{is_some}
use Rattle.std.specs.Str.{bytes_eq}
use Rattle.std.specs.HashMap as hash
use Rattle.rdc_outside.specs.declared.source.Place.{Place}
use Rattle.vlog_tree.specs.declared.port.Port.{Port}
use Rattle.vlog_tree.specs.declared.port.Port.TheVariants as port
use Rattle.vlog_tree.specs.declared.item.Item.{Item}
use Rattle.vlog_tree.specs.declared.module.Parameter.{Parameter}
use Rattle.elab_decls.specs.declared.entry.Entry.{Entry}
use Rattle.elab_decls.specs.declared.entry.Refusal.{Refusal}
use Rattle.elab_decls.specs.declared.entry.Refusal.TheVariants as refusal
use Rattle.elab_decls.specs.declared.fault.DeclFault.{DeclFault}
use Rattle.elab_decls.specs.declared.fault.DeclFault.TheVariants.{Memory, NoPort, TwiceDeclared}
use Rattle.elab_decls.specs.declared.table.Entries.{Entries}
use Rattle.elab_decls.specs.declared.table.Kept.{Kept}
use Rattle.elab_decls.specs.Entries.{entered}
use Rattle.elab_decls.specs.Mentions.{Said, said_of, spread}

-- the declared names in the order in which they are first met, and what is known of each
pub record Table : Type 0 where
  pub names : List (List ℕ)
  pub at : List ℕ → Option Entry

abbrev pub nothing_at : List ℕ → Option Entry
nothing_at name = None

abbrev pub no_entries : Table
no_entries = record { names = []; at = nothing_at }

-- what is known of each name, but for one
abbrev pub changed : (List ℕ → Option Entry) → List ℕ → Entry → List ℕ → Option Entry
changed at name e = λ other. if bytes_eq name other then Some e else at other

-- one name has that entry; a new name is the last
unfoldable pub with_entry : Table → List ℕ → Entry → Table
with_entry t name e = record { names = if is_some (t.at name) then t.names else t.names ++ name ∷ []; at = changed t.at name e }

-- a refusal of this name at this place
unfoldable pub fault_of : Refusal → List ℕ → Place → DeclFault
fault_of refusal.NoPort name place = NoPort name place
fault_of refusal.Twice name place = TwiceDeclared name place

-- a refusal that is answered, or want of memory
abbrev pub Refuses : DeclFault → Refusal → List ℕ → Place → Type 0
Refuses fault why name place = (fault ≡ Memory) ⊎ (fault ≡ fault_of why name place)

-- what is known after one more declaration
unfoldable pub settled : Table → Said → Result Entry Refusal → Result Table DeclFault
settled t s (Ok e) = Ok (with_entry t s.name e)
settled t s (Err why) = Err (fault_of why s.name s.mention.place)

abbrev pub stepped : Table → Said → Result Table DeclFault
stepped t s = settled t s (entered (t.at s.name) s.mention)

-- the first one's fault, or what follows
unfoldable pub and_then : {A B : Type 0} → Result A DeclFault → (A → Result B DeclFault) → Result B DeclFault
and_then (Ok a) f = f a
and_then (Err fault) f = Err fault

-- after some declarations, in their order
unfoldable pub entries : Table → List Said → Result Table DeclFault
entries t [] = Ok t
entries t (s ∷ ss) = and_then (stepped t s) (λ u. entries u ss)

-- whether a name has a direction
unfoldable pub is_directed : Option Entry → Bool
is_directed None = false
is_directed (Some e) = is_some e.direction

-- a port that stands alone in the list has a direction
unfoldable pub stands : Table → Port → Result Table DeclFault
stands t (port.Declared d shape i) = Ok t
stands t (port.Named i) = if is_directed (t.at i.name) then Ok t else Err (NoPort i.name i.place)

-- each of them, or the first that hasn't
unfoldable pub whole : Table → List Port → Result Table DeclFault
whole t [] = Ok t
whole t (p ∷ ports) = and_then (stands t p) (λ u. whole u ports)

-- what a scope declares; a generate block has no head
abbrev pub declared_in : List Parameter → List Port → List Item → Result Table DeclFault
declared_in parameters ports items = and_then (entries no_entries (said_of parameters ports items)) (λ t. whole t (spread None ports))

-- what a hashed table holds
abbrev pub entries_at : Kept → List ℕ → Option Entry
entries_at kept = λ name. hash.get_by (λ key. bytes_eq name key.items) kept.table

-- what is kept of a scope
abbrev pub table_of : Entries → Table
table_of t = record { names = t.names; at = entries_at t.kept }

-- what is answered is a definition's fault, or want of memory
abbrev pub Stops : {B : Type 0} → DeclFault → Result B DeclFault → Type 0
Stops fault r = (fault ≡ Memory) ⊎ (r ≡ Err fault)

-- what is answered is what a definition says, or want of memory
abbrev pub Answers : {A B : Type 0} → (A → B) → Result A DeclFault → Result B DeclFault → Type 0
Answers view (Ok a) r = r ≡ Ok (view a)
Answers view (Err fault) r = Stops fault r

-- the same of a call that changes a table
abbrev pub Changes : Result (Unit {0}) DeclFault → Table → Result Table DeclFault → Type 0
Changes (Ok done) t r = r ≡ Ok t
Changes (Err fault) t r = Stops fault r

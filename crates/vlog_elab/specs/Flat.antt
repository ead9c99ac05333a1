-- The flat design of a list of modules.
--     laid ps ports p                  its parts: the signals in name order, the drivers, processes, gates and boxes in theirs
--     checked d places n               whether it is sound: names differ, each expression has its meaning, it isn't too heavy, and each
--                                      bit that is read is driven, and none twice
--     flat ps lib name                 the design, where `ps` are its signals in name order
--     IsInNameOrder ps lib name        that they are
--     Gives lib name answer            what is answered by these signals
--     Elaborates lib name result       what a call answers
use Rattle.std.specs.Prelude.{◌≡◌, ◌⊎◌, ℕ, ◌^◌, nat_lt, if◌then◌else◌, List, length, map, Result, Ok, Err}
use Rattle.rdc_outside.specs.declared.source.Place.{Place}
use Rattle.design_form.specs.declared.parts.Parts.{Parts}
use Rattle.design_form.specs.declared.parts.TopPort.{TopPort}
use Rattle.design_form.specs.Numbers.{bits_of, printed}
use Rattle.elab_names.specs.declared.fault.ElabFault.{ElabFault}
use Rattle.elab_names.specs.declared.fault.ElabFault.TheVariants.{Heavy, Memory}
use Rattle.elab_names.specs.Answers.{Or_fault, ◌>>=◌}
use Rattle.elab_scopes.specs.declared.placed.Placed.{Placed}
use Rattle.elab_items.specs.Plans.{Plan}
use Rattle.elab_items.specs.Instances.{Lib}
use Rattle.elab_tree.specs.Hierarchy.{State}
use Rattle.elab_tree.specs.Tops.{Top, grown_from, top_of, top_ports}
use Rattle.elab_sound.specs.Sound.{sound}
use Rattle.elab_bits.specs.Judgements.{judged}
use Rattle.vlog_elab.specs.Orders.{IsInOrder, repeated}
use Rattle.vlog_elab.specs.Bits.{once}
use Rattle.vlog_elab.specs.Tallies.{tallied}

-- its parts
abbrev pub laid : List Placed → List TopPort → Plan → Parts
laid ps ports p = record { signals = map (λ s. s.signal) ps; drivers = p.draft.drivers; processes = p.draft.processes; gates = p.draft.gates; boxes = p.boxes; ports = ports }

abbrev pub places_of : List Placed → List Place
places_of ps = map (λ s. s.place) ps

-- whether it is sound
unfoldable pub checked : Parts → List Place → ℕ → Or_fault (Unit {0})
checked d places n = do
  m ← once d.signals places
  u ← sound d
  t ← tallied d n
  judged (bits_of d.signals) t.drives t.reads

-- its bits can be numbered: one that has too many is too heavy long before
unfoldable pub numbered : Place → Parts → Or_fault Parts
numbered place d = if nat_lt (length (printed d.signals)) (2 ^ 32) then Ok d else Err (Heavy place)

-- the parts, once they are sound
unfoldable pub finished : Place → List Placed → List TopPort → State → Or_fault Parts
finished place ps ports s = do
  u ← repeated ps
  d ← numbered place (laid ps ports s.plan)
  c ← checked d (places_of ps) s.size
  Ok d

-- the design, where these are its signals in name order
unfoldable pub flat : List Placed → Lib → List ℕ → Or_fault Parts
flat ps lib name = do
  t ← top_of lib name
  ports ← top_ports t.body
  s ← grown_from lib t
  finished t.body.name.place ps ports s

-- that they are, where there are any
abbrev pub IsInNameOrder : List Placed → Lib → List ℕ → Type 0
IsInNameOrder ps lib name = (t : Top) (ports : List TopPort) (s : State) → top_of lib name ≡ Ok t → top_ports t.body ≡ Ok ports → grown_from lib t ≡ Ok s → IsInOrder s.plan.draft.drawn.signals ps

-- what is answered by the signals in name order
pub record Gives (lib : Lib) (name : List ℕ) (answer : Or_fault Parts) : Type 0 where
  pub signals : List Placed
  pub order : IsInNameOrder signals lib name
  pub is : flat signals lib name ≡ answer

-- what a call answers: the design or its fault, or want of memory
abbrev pub Elaborates : Lib → List ℕ → Result Parts ElabFault → Type 0
Elaborates lib name (Ok d) = Gives lib name (Ok d)
Elaborates lib name (Err fault) = (fault ≡ Memory) ⊎ Gives lib name (Err fault)

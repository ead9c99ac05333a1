-- How gates are drawn one behind the other: what is made, and the gates that are then there. Nothing folds.
--   Built, Build              what is made of the gates that are there, or nothing where the list is full
--   return, b >>= f, put      nothing is added, one step behind another, one gate
--   Begins, Gives, IsWorth    what is built stays in front, and is worth so much in every net and state
--   AreThere, Builds          what a call on a list of gates does that builds so
use Rattle.std.specs.Prelude.{◌≡◌, ℕ, ◌<◌, List, [], ◌∷◌, All, ◌++◌, length, Option, Some, None, Result, Ok, Err, if◌then◌else◌, ◌==◌}
use Rattle.rdc_tern.specs.declared.value.Tern.{Tern}
use Rattle.net_view.specs.View.{Numbered}
use Rattle.net_view.specs.Values.{State, at, IsValuation}
use Rattle.net_gates.specs.declared.fault.GateFault.{GateFault}
use Rattle.net_gates.specs.declared.fault.GateFault.TheVariants.{Memory, Full}
use Rattle.net_gates.specs.Gates.{most_nodes}

-- the gates, and what is made of them
pub record Built (X : Type 0) : Type 0 where
  pub gates : List Numbered
  pub made : X

abbrev pub Build : Type 0 → Type 0
Build X = List Numbered → Option (Built X)

-- goes on behind what is made
abbrev pub onward : {X Y : Type 0} → Option (Built X) → (X → Build Y) → Option (Built Y)
onward None f = None
onward (Some built) f = f built.made built.gates

infixl 10 ◌>>=◌
unfoldable pub ◌>>=◌ : {X Y : Type 0} → Build X → (X → Build Y) → Build Y
b >>= f = λ gates. onward (b gates) f

unfoldable pub return : {X : Type 0} → X → Build X
return x = λ gates. Some (record { gates = gates; made = x })

-- one gate, and its node, which is new; in a full list nothing
unfoldable pub put : Numbered → Build ℕ
put g = λ gates. if length gates == most_nodes then None else Some (record { gates = gates ++ g ∷ []; made = length gates })

-- the first is the front of the second
abbrev pub Begins : List Numbered → List Numbered → Type 0
Begins front all = (more : List Numbered) × (front ++ more ≡ all)

-- in a net that begins with the gates built: it begins with those that were there, and what is made is P
abbrev pub Gives : {X : Type 0} → List Numbered → Build X → (X → Type 0) → Type 0
Gives {X} whole build P = (gates : List Numbered) (built : Built X) → build gates ≡ Some built → Begins built.gates whole → Begins gates whole × P built.made

-- the same in every net, and in every ternary state, where P speaks of the values of the nodes
abbrev pub IsWorth : {X : Type 0} → Build X → (State → X → Type 0) → Type 0
IsWorth build P = (whole : List Numbered) (state : State) (found : List Tern) → IsValuation whole state found → Gives whole build (P (at found))

-- each node of a word is one of the list
abbrev pub AreThere : List Numbered → List ℕ → Type 0
AreThere gates word = All (λ n. n < length gates) word

-- what a call answers: what is built; Full only where nothing is. Memory may be wanting at any time
abbrev pub Answers : {A X : Type 0} → (A → X) → Build X → List Numbered → Result A GateFault → List Numbered → Type 0
Answers f build old (Ok a) new = build old ≡ Some (record { gates = new; made = f a })
Answers f build old (Err Full) new = build old ≡ None
Answers f build old (Err Memory) new = Unit {0}

-- what a call does: the gates that were there stay in front, it draws those of a definition, and at a fault some of them at most
pub record Builds {A X : Type 0} (f : A → X) (build : Build X) (old : List Numbered) (result : Result A GateFault) (new : List Numbered) : Type 0 where
  pub front : Begins old new
  pub answers : Answers f build old result new

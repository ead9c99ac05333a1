-- What terms compute from the formulas of wires, and nodes that compute it.
--     value_of ws ts              what terms compute; None where a gate lacks a value
--     wires_in ts                 the wires that they read
--     IsMade nodes wires ts k     node k computes it, where these are the nodes of the wires
use Rattle.std.specs.Prelude.{◌≡◌, ℕ, ◌<◌, List, [], ◌∷◌, ◌++◌, map, length, slice_index, slice_index_or, Option, Some, None}
use Rattle.std.specs.declared.vec.Vec.{Vec}
use Rattle.std.specs.declared.alloc.Global.{Global}
use Rattle.thin_form.specs.Formula as formula
use Rattle.thin_form.specs.Formula.{Formula}
use Rattle.thin_form.specs.Netlist.{formula_at, formulas, AreGatesFrom}
use Rattle.thin_form.specs.Walk.{IsIn}
use Rattle.thin_form.specs.declared.kind.Node.{Node}
use Rattle.thin_form.specs.declared.term.Term.{Term}
use Rattle.thin_form.specs.declared.term.Term.TheVariants.{Source, Wire, Not, And, Or}

-- the values after a term, the last first
abbrev pub after_term : List Formula → Term → List Formula → Option (List Formula)
after_term ws (Source n) fs = Some (formula.Source n ∷ fs)
after_term ws (Wire w) fs = Some (formula_at ws w ∷ fs)
after_term ws Not [] = None
after_term ws Not (f ∷ fs) = Some (formula.Not f ∷ fs)
after_term ws And [] = None
after_term ws And (g ∷ []) = None
after_term ws And (g ∷ f ∷ fs) = Some (formula.And f g ∷ fs)
after_term ws Or [] = None
after_term ws Or (g ∷ []) = None
after_term ws Or (g ∷ f ∷ fs) = Some (formula.Or f g ∷ fs)

-- the values after terms
unfoldable pub after_terms : List Formula → List Term → List Formula → Option (List Formula)
after_terms ws [] fs = Some fs
after_terms ws (t ∷ ts) fs = elim (after_term ws t fs) [ None ↦ None | Some more ↦ after_terms ws ts more ]

-- the last value, where there is one
abbrev pub last_of : Option (List Formula) → Option Formula
last_of None = None
last_of (Some []) = None
last_of (Some (f ∷ fs)) = Some f

-- what terms compute
abbrev pub value_of : List Formula → List Term → Option Formula
value_of ws ts = last_of (after_terms ws ts [])

-- no gate lacks a value, whatever the wires are
abbrev pub IsWhole : List Term → Type 0
IsWhole ts = (ws : List Formula) → value_of ws ts ≡ None → ⊥

-- the wires that terms read
abbrev pub wires_in : List Term → List ℕ
wires_in [] = []
wires_in (Source n ∷ ts) = wires_in ts
wires_in (Wire w ∷ ts) = w ∷ wires_in ts
wires_in (Not ∷ ts) = wires_in ts
wires_in (And ∷ ts) = wires_in ts
wires_in (Or ∷ ts) = wires_in ts

-- the sources that terms read
abbrev pub sources_in : List Term → List ℕ
sources_in [] = []
sources_in (Source n ∷ ts) = n ∷ sources_in ts
sources_in (Wire w ∷ ts) = sources_in ts
sources_in (Not ∷ ts) = sources_in ts
sources_in (And ∷ ts) = sources_in ts
sources_in (Or ∷ ts) = sources_in ts

-- what nodes compute
abbrev pub formulas_at : List Node → List ℕ → List Formula
formulas_at nodes ks = map (formula_at (formulas nodes)) ks

-- further nodes are gates over nodes before them
pub record IsGrown (old new : List Node) : Type 0 where
  pub gates : List Node
  pub parts : new ≡ old ++ gates
  pub lower : AreGatesFrom (length old) gates

-- what terms read is there: wires have nodes, and a source is the node of its number
pub record IsReadable (nodes : List Node) (wires : List ℕ) (ts : List Term) : Type 0 where
  pub reads_wires : (w : ℕ) → IsIn w (wires_in ts) → (w < length wires) × (slice_index wires w < length nodes)
  pub reads_sources : (n : ℕ) → IsIn n (sources_in ts) → (n < length nodes) × (formula_at (formulas nodes) n ≡ formula.Source n)

-- node k computes what terms compute
pub record IsMade (nodes : List Node) (wires : List ℕ) (ts : List Term) (k : ℕ) : Type 0 where
  pub within : k < length nodes
  pub value : value_of (formulas_at nodes wires) ts ≡ Some (formula_at (formulas nodes) k)

-- each rule has a node that computes it
pub record AreMade (nodes : List Node) (wires : List ℕ) (rules : List (List Term)) (ks : List ℕ) : Type 0 where
  pub count : length ks ≡ length rules
  pub each : (w : ℕ) → w < length rules → IsMade nodes wires (slice_index_or rules w []) (slice_index ks w)

-- the sources that terms read are nodes of their numbers
abbrev pub ReadsSources : List Node → List Term → Type 0
ReadsSources nodes ts = (n : ℕ) → IsIn n (sources_in ts) → (n < length nodes) × (formula_at (formulas nodes) n ≡ formula.Source n)

-- the wires that terms read are among so many
abbrev pub ReadsWires : List ℕ → List Term → Type 0
ReadsWires wires ts = (w : ℕ) → IsIn w (wires_in ts) → w < length wires

-- rules, without how they lie in memory
abbrev pub rules_at : List (Vec Term Global) → List (List Term)
rules_at rules = map (λ r. r.items) rules

-- terms over so many sources and wires, whose gates lack no value
pub record IsRule (sources wires : ℕ) (ts : List Term) : Type 0 where
  pub whole : IsWhole ts
  pub reads_sources : (n : ℕ) → IsIn n (sources_in ts) → n < sources
  pub reads_wires : (w : ℕ) → IsIn w (wires_in ts) → w < wires

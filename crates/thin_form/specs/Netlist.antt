-- A design as code keeps it: its formulas are nodes, each over nodes before it.
--     Entry, NetBit, Netlist      a source, a named bit, and all of it
--     formulas nodes              what each node computes
--     design_of net               the design that is kept so
--     IsLawful net                what is true of every netlist
--     IsNumberOf, FindsBit        sources and bits by name
use Rattle.std.specs.Prelude.{◌≡◌, ◌≢◌, ℕ, zero, suc, ◌+◌, ◌<◌, ◌^◌, Bool, false, List, [], ◌∷◌, ◌++◌, map, filter, length, slice_index_or, slice_get, Option, Some, None}
use Rattle.std.specs.List.{AllByRecursion}
use Rattle.thin_tree.specs.Grammar.{IsPlain}
use Rattle.thin_form.specs.Formula as formula
use Rattle.thin_form.specs.Design as designs
use Rattle.thin_form.specs.Design.{Design, IsAscending}
use Rattle.thin_form.specs.declared.kind.Kind.{Kind}
use Rattle.thin_form.specs.declared.kind.Kind.TheVariants.{Input, Register}
use Rattle.thin_form.specs.declared.kind.Flop.{Flop}
use Rattle.thin_form.specs.declared.kind.Node.{Node}
use Rattle.thin_form.specs.declared.kind.Node.TheVariants as node

-- a source: its name, what it is, and its number as a bit
pub record Entry : Type 0 where
  pub name : List ℕ
  pub kind : Kind
  pub bit : ℕ

-- a named bit: its node, and whether it is a wire
pub record NetBit : Type 0 where
  pub name : List ℕ
  pub node : ℕ
  pub wire : Bool

-- the sources and the named bits, both in name order, and the nodes
pub record Netlist : Type 0 where
  pub sources : List Entry
  pub bits : List NetBit
  pub nodes : List Node

-- the formula at a place of a list
abbrev pub formula_at : List formula.Formula → ℕ → formula.Formula
formula_at fs k = slice_index_or fs k (formula.Source 0)

-- what a node computes, of the formulas before it
abbrev pub formula_of : List formula.Formula → Node → formula.Formula
formula_of fs (node.Source n) = formula.Source n
formula_of fs (node.Not a) = formula.Not (formula_at fs a)
formula_of fs (node.And a b) = formula.And (formula_at fs a) (formula_at fs b)
formula_of fs (node.Or a b) = formula.Or (formula_at fs a) (formula_at fs b)

-- the formulas of further nodes, behind those that are known
abbrev pub formulas_after : List formula.Formula → List Node → List formula.Formula
formulas_after fs [] = fs
formulas_after fs (x ∷ xs) = formulas_after (fs ++ formula_of fs x ∷ []) xs

-- what each node computes
abbrev pub formulas : List Node → List formula.Formula
formulas nodes = formulas_after [] nodes

-- a flop, its data node replaced by what it computes
abbrev pub flop_of : List formula.Formula → Flop → designs.Flop
flop_of fs f = record { clock = f.clock; pin = f.pin; high = f.high; reset = f.reset; next = formula_at fs f.data }

-- what a source is, the data node of its flop replaced so
abbrev pub kind_of : List formula.Formula → Kind → designs.Kind
kind_of fs Input = designs.Input
kind_of fs (Register f) = designs.Register (flop_of fs f)

-- a source with its name and what it is
abbrev pub source_of : List formula.Formula → Entry → designs.Source
source_of fs s = record { name = s.name; kind = kind_of fs s.kind }

-- a wire with its name and what its node computes
abbrev pub wire_of : List formula.Formula → NetBit → designs.Wire
wire_of fs b = record { name = b.name; value = formula_at fs b.node }

-- the design that is kept so
abbrev pub design_of : Netlist → Design
design_of net = record {
  sources = map (source_of (formulas net.nodes)) net.sources;
  wires = map (wire_of (formulas net.nodes)) (filter (λ b. b.wire) net.bits);
}

-- the kind of source n
abbrev pub kind_at : Netlist → ℕ → Kind
kind_at net n = slice_index_or (map (λ s. s.kind) net.sources) n Input

-- the name of source n
abbrev pub name_at : Netlist → ℕ → List ℕ
name_at net n = slice_index_or (map (λ s. s.name) net.sources) n []

-- the number of source n as a bit
abbrev pub bit_of : Netlist → ℕ → ℕ
bit_of net n = slice_index_or (map (λ s. s.bit) net.sources) n 0

-- the nodes of so many sources, from source n on
abbrev pub source_nodes : ℕ → ℕ → List Node
source_nodes n zero = []
source_nodes n (suc count) = node.Source n ∷ source_nodes (n + 1) count

-- a gate over lower nodes
abbrev pub IsGateBelow : ℕ → Node → Type 0
IsGateBelow k (node.Source n) = ⊥
IsGateBelow k (node.Not a) = a < k
IsGateBelow k (node.And a b) = (a < k) × (b < k)
IsGateBelow k (node.Or a b) = (a < k) × (b < k)

-- gates from node k on, each over lower nodes
abbrev pub AreGatesFrom : ℕ → List Node → Type 0
AreGatesFrom k [] = Unit {0}
AreGatesFrom k (g ∷ gs) = IsGateBelow k g × AreGatesFrom (k + 1) gs

-- each source has the node of its number; gates follow
pub record AreNodes (count : ℕ) (nodes : List Node) : Type 0 where
  pub gates : List Node
  pub parts : nodes ≡ source_nodes 0 count ++ gates
  pub lower : AreGatesFrom count gates

-- the flop's clock and pin are inputs, and its data is a node
pub record IsFlopIn (net : Netlist) (f : Flop) : Type 0 where
  pub clock : f.clock < length net.sources
  pub pin : f.pin < length net.sources
  pub «data» : f.data < length net.nodes
  pub clock_is_input : kind_at net f.clock ≡ Input
  pub pin_is_input : kind_at net f.pin ≡ Input

-- source n is the bit of its number, of its name and node
abbrev pub IsBitOf : List NetBit → ℕ → Entry → Type 0
IsBitOf bits n s = slice_get bits s.bit ≡ Some (record { name = s.name; node = n; wire = false })

-- what is true of every netlist
pub record IsLawful (net : Netlist) : Type 0 where
  pub few : length net.nodes < 2 ^ 32
  pub few_sources : length net.sources < 2 ^ 32
  pub few_bits : length net.bits < 2 ^ 32
  pub nodes : AreNodes (length net.sources) net.nodes
  pub ascending : IsAscending (map (λ s. s.name) net.sources)
  pub bits_ascend : IsAscending (map (λ b. b.name) net.bits)
  pub plain : AllByRecursion (λ b. IsPlain b.name) net.bits
  pub within : AllByRecursion (λ b. b.node < length net.nodes) net.bits
  pub source_bits : (n : ℕ) (s : Entry) → slice_get net.sources n ≡ Some s → IsBitOf net.bits n s
  pub flops : (n : ℕ) (f : Flop) → kind_at net n ≡ Register f → IsFlopIn net f

-- the place of the source with a name, or that none has it
abbrev pub IsNumberIn : List Entry → List ℕ → Option ℕ → Type 0
IsNumberIn sources name (Some n) = (n < length sources) × (slice_index_or (map (λ s. s.name) sources) n [] ≡ name)
IsNumberIn sources name None = (n : ℕ) → n < length sources → slice_index_or (map (λ s. s.name) sources) n [] ≢ name

-- the number of the source with a name, or that none has it
abbrev pub IsNumberOf : Netlist → List ℕ → Option ℕ → Type 0
IsNumberOf net name answer = IsNumberIn net.sources name answer

-- the place of the bit with a name, or that none has it
abbrev pub IsBitIn : List NetBit → List ℕ → Option ℕ → Type 0
IsBitIn bits name (Some b) = (bit : NetBit) × (slice_get bits b ≡ Some bit) × (bit.name ≡ name)
IsBitIn bits name None = (b : ℕ) (bit : NetBit) → slice_get bits b ≡ Some bit → bit.name ≢ name

-- the bit with a name, or that none has it
abbrev pub FindsBit : Netlist → List ℕ → Option ℕ → Type 0
FindsBit net name answer = IsBitIn net.bits name answer

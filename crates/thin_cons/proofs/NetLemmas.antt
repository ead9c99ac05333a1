-- The roles of a netlist's sources, and the marks of its nodes.
use Rattle.std.proofs.Common.{◌≡◌, ℕ, zero, suc, ◌<◌, Bool, true, false, IsTrue, List, [], ◌∷◌, map, filter, length, slice_get, Some, refl, sym, ap, subst, ◌∙◌, arith}
use Rattle.std.specs.List.{AllByRecursion}
use Rattle.thin_form.specs.Formula.{Formula}
use Rattle.thin_form.specs.Design as designs
use Rattle.thin_form.specs.Design.{Wire}
use Rattle.thin_form.specs.Netlist.{NetBit, Netlist, IsLawful, formulas, flop_of, kind_of, wire_of, design_of, name_at, kind_at}
use Rattle.thin_form.specs.declared.kind.Kind.{Kind}
use Rattle.thin_form.specs.declared.kind.Kind.TheVariants.{Input, Register}
use Rattle.thin_form.specs.declared.kind.Flop.{Flop}
use Rattle.thin_form.proofs.DesignOf.{name_at-design_of, kind_at-design_of, length-design_of, names-design_of}
use Rattle.thin_cons.specs.Roles.{role_at, IsMet, IsMetAt}
use Rattle.thin_cons.specs.Step.{IsFreeInput}
use Rattle.thin_cons.specs.declared.role.Role.{Role}
use Rattle.thin_cons.specs.declared.role.Role.TheVariants as roles

-- ---- sources

kind_is_input : (fs : List Formula) (k : Kind) → kind_of fs k ≡ designs.Input → k ≡ Input
kind_is_input fs Input e = refl
kind_is_input fs (Register f) e = absurd cc

-- a source that is free in the netlist is so in the design
pub free_from : (net : Netlist) (list : List Role) (port : List ℕ) (n : ℕ) → n < length net.sources → name_at net n ≡ port → kind_at net n ≡ Input → role_at list n ≡ roles.Free → IsFreeInput (design_of net) list port n
free_from net list port n lt name kind free = record {
  within = omega (arith, lt, length-design_of net);
  name = name_at-design_of net n ∙ name;
  input = kind_at-design_of net n ∙ ap (kind_of (formulas net.nodes)) kind;
  free = free;
}

pub free_kind : (net : Netlist) (n : ℕ) → designs.kind_at (design_of net) n ≡ designs.Input → kind_at net n ≡ Input
free_kind net n e = kind_is_input (formulas net.nodes) (kind_at net n) (sym (kind_at-design_of net n) ∙ e)

-- the names of the design ascend
pub ascending_names : (net : Netlist) → IsLawful net → designs.IsAscending (designs.names (design_of net))
ascending_names net lawful = subst designs.IsAscending (sym (names-design_of net)) lawful.ascending

-- ---- wires

wires_put : (P : Wire → Type 0) (fs : List Formula) (b : NetBit) (bits : List NetBit) (w : Bool) → b.wire ≡ w → (IsTrue w → P (wire_of fs b)) → AllByRecursion P (map (wire_of fs) (filter (λ b. b.wire) bits))
    → AllByRecursion P (map (wire_of fs) (filter (λ b. b.wire) (b ∷ bits)))
wires_put P fs b bits true e here rest = rw e (here refl, rest)
wires_put P fs b bits false e here rest = rw e rest

-- what is true of each wire's bit is true of each wire
pub all_wires : (P : Wire → Type 0) (fs : List Formula) (bits : List NetBit) → ((k : ℕ) (b : NetBit) → slice_get bits k ≡ Some b → IsTrue b.wire → P (wire_of fs b)) → AllByRecursion P (map (wire_of fs) (filter (λ b. b.wire) bits))
all_wires P fs [] each = tt
all_wires P fs (b ∷ bits) each = wires_put P fs b bits b.wire refl (λ is. each zero b refl is) (all_wires P fs bits (λ k x at is. each (suc k) x at is))

wires_rest : (P : Wire → Type 0) (fs : List Formula) (b : NetBit) (bits : List NetBit) (w : Bool) → b.wire ≡ w → AllByRecursion P (map (wire_of fs) (filter (λ b. b.wire) (b ∷ bits)))
    → (IsTrue w → P (wire_of fs b)) × AllByRecursion P (map (wire_of fs) (filter (λ b. b.wire) bits))
wires_rest P fs b bits true e all = let both : P (wire_of fs b) × AllByRecursion P (map (wire_of fs) (filter (λ b. b.wire) bits)) = rw e at all in (λ is. both.0, both.1)
wires_rest P fs b bits false e all = (λ is. absurd cc, rw e at all)

-- what is true of each wire is true of each wire's bit
pub wire_there : (P : Wire → Type 0) (fs : List Formula) (bits : List NetBit) (k : ℕ) (b : NetBit) → AllByRecursion P (map (wire_of fs) (filter (λ b. b.wire) bits)) → slice_get bits k ≡ Some b → IsTrue b.wire → P (wire_of fs b)
wire_there P fs [] k b all at is = absurd cc
wire_there P fs (x ∷ bits) zero b all at is = let same : x ≡ b = cc in subst (λ y. P (wire_of fs y)) same ((wires_rest P fs x bits x.wire refl all).0 (subst (λ (y : NetBit). IsTrue y.wire) (sym same) is))
wire_there P fs (x ∷ bits) (suc k) b all at is = wire_there P fs bits k b (wires_rest P fs x bits x.wire refl all).1 at is

-- ---- flops

same_flop : (f g : designs.Flop) → designs.Register f ≡ designs.Register g → f ≡ g
same_flop f g e = cc

-- an input is met
pub met_input : (net : Netlist) (list : List Role) (n : ℕ) → kind_at net n ≡ Input → IsMetAt (design_of net) list n
met_input net list n kind f is = let bad : designs.Input ≡ designs.Register f = ap (kind_of (formulas net.nodes)) (sym kind) ∙ sym (kind_at-design_of net n) ∙ is in absurd cc

-- a register is met where its flop is
pub met_register : (net : Netlist) (list : List Role) (n : ℕ) (f : Flop) → kind_at net n ≡ Register f → (IsMet list (flop_of (formulas net.nodes) f) → IsMetAt (design_of net) list n) × (IsMetAt (design_of net) list n → IsMet list (flop_of (formulas net.nodes) f))
met_register net list n f kind =
    let there : designs.kind_at (design_of net) n ≡ designs.Register (flop_of (formulas net.nodes) f) = kind_at-design_of net n ∙ ap (kind_of (formulas net.nodes)) kind in
    (λ met g is. subst (IsMet list) (same_flop (flop_of (formulas net.nodes) f) g (sym there ∙ is)) met, λ all. all (flop_of (formulas net.nodes) f) there)

-- a bit's node is there
pub bit_within : (bits : List NetBit) (count b : ℕ) (bit : NetBit) → AllByRecursion (λ x. x.node < count) bits → slice_get bits b ≡ Some bit → bit.node < count
bit_within [] count b bit all at = absurd cc
bit_within (x ∷ bits) count zero bit all at = let same : x ≡ bit = cc in subst (λ (y : NetBit). y.node < count) same all.0
bit_within (x ∷ bits) count (suc b) bit all at = bit_within bits count b bit all.1 at

-- one place has one bit
pub one_bit : (bits : List NetBit) (k b : ℕ) (x y : NetBit) → k ≡ b → slice_get bits b ≡ Some x → slice_get bits k ≡ Some y → x ≡ y
one_bit bits k b x y same at there = let both : slice_get bits b ≡ Some y = ap (slice_get bits) (sym same) ∙ there in cc

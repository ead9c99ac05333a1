-- Serves specs/PlainNet.antt: a netlist's bits and kinds, and that its machine is the design's.
use Rattle.std.proofs.Common.{◌≡◌, nat_lt, ℕ, zero, suc, ◌+◌, ◌<◌, ◌≤◌, Bool, true, false, List, [], ◌∷◌, ◌++◌, length, get_or, Option, Some, None, refl, sym, ap, subst, ◌∙◌, inl, inr, arith, length-append}
use Rattle.std.specs.Prelude.{slice_get, map, not, ◌&&◌}
use Rattle.std.specs.Option.{option_map}
use Rattle.std.specs.List.{AllByRecursion, list_all, list_any}
use Rattle.std.specs.Str.{IsAscii, IsUtf8, bytes_eq}
use Rattle.std.specs.declared.cmp.Ordering.TheVariants.{Less}
use Rattle.std.specs.Ordering.{nat_cmp, is_gt}
use Rattle.std.specs.Cmp.Lexicographic.{slice_cmp, nat_list_cmp_total}
use Rattle.std.proofs.lemmas.Cmp.{tied_itself}
use Rattle.std.proofs.lemmas.Map.Keys.{Less-from_sorted}
use Rattle.std.proofs.lemmas.Bool.{cases_lt}
use Rattle.std.proofs.lemmas.Bool.Decides.{nat_tests}
use Rattle.std.proofs.lemmas.List.{get_or_past, get_or-map, length-map, map-append}
use Rattle.std.proofs.lemmas.Option.{slice_get_within, slice_get_past, slice_get-map}
use Rattle.std.proofs.lemmas.Str.{IsUtf8-from_ascii}
use Rattle.std.proofs.lemmas.Str.Ascii.{IsAscii-nil, IsAscii-cons}
use Rattle.rdc_tern.specs.Kleene.{not_of, and_of, or_of}
use Rattle.net_view.specs.declared.gate.Gate.TheVariants as gates
use Rattle.net_view.specs.declared.flop_net.SrcKind.TheVariants as connections
use Rattle.net_view.specs.declared.flop_net.FlopOf.{FlopOf}
use Rattle.net_view.specs.View.{Numbered, Reads, IsGateAt, IsNet}
use Rattle.net_view.specs.Values.{State, at, gate_value, values, values_after}
use Rattle.net_view.specs.FlopNet as nets
use Rattle.net_view.proofs.ValuesLemmas.{values_valued}
use Rattle.run_model.specs.Machine.{APort}
use Rattle.run_model.specs.Agrees.{Agrees, SameMeaning}
use Rattle.run_model.specs.Netlist as machines
use Rattle.thin_tree.specs.Grammar.{is_ascii, IsPlain}
use Rattle.thin_form.specs.Formula as formula
use Rattle.thin_form.specs.Design as designs
use Rattle.thin_form.specs.Netlist as form
use Rattle.thin_form.specs.Netlist.{Netlist, NetBit, IsLawful, AreNodes, AreGatesFrom, IsGateBelow, source_nodes, formula_at, formula_of, formulas_after, formulas, design_of, kind_at, bit_of}
use Rattle.thin_form.specs.NodeReads.{ReadsBelow}
use Rattle.thin_form.specs.declared.kind.Kind.{Kind}
use Rattle.thin_form.specs.declared.kind.Kind.TheVariants.{Input, Register}
use Rattle.thin_form.specs.declared.kind.Flop.{Flop}
use Rattle.thin_form.specs.declared.kind.Node.{Node}
use Rattle.thin_form.specs.declared.kind.Node.TheVariants as node
use Rattle.thin_form.proofs.DesignOf.{node_reads, length-formulas, kind_at-design_of, length-design_of}
use Rattle.thin_cons.specs.declared.role.Role.{Role}
use Rattle.thin_cons.proofs.NetLemmas.{bit_within}
use Rattle.rdcsign.specs.FormulaValue.{formula_value}
use Rattle.rdcsign.specs.DesignMachine.{meaning_of, machine_of}
use Rattle.rdcsign.specs.PlainNet.{gate_of, gates_of, bits_from, kind_in_net, kinds_of, names_of, net_machine, HasBitValues}
use Rattle.rdcsign.proofs.NodeLemmas.{mapped_get, unmapped_get, source_at, some_node, gates_len, gate_at, is_net, node_worth}

and_true_left : (a b : Bool) → (a && b) ≡ true → a ≡ true
and_true_left true b e = refl
and_true_left false b e = absurd cc

and_true_right : (a b : Bool) → (a && b) ≡ true → b ≡ true
and_true_right true b e = e
and_true_right false b e = absurd cc

abbrev pub some_kind : nets.Kind → Option nets.Kind
some_kind k = Some k

same_kind : (a b : nets.Kind) → some_kind a ≡ some_kind b → a ≡ b
same_kind a b e = cc

abbrev some_bit : nets.Bit → Option nets.Bit
some_bit b = Some b

same_bit : (a b : nets.Bit) → some_bit a ≡ some_bit b → a ≡ b
same_bit a b e = cc

-- ---- names

-- names are ASCII
pub plain_ascii : (t : List ℕ) → IsPlain t → IsAscii t
unfolding is_ascii
plain_ascii [] is = IsAscii-nil
plain_ascii (b ∷ bs) is = IsAscii-cons b bs (let low = and_true_left (nat_lt b 128) (list_all (λ c. nat_lt c 128) bs) is in grind (arith, nat_tests)) (plain_ascii bs (and_true_right (nat_lt b 128) (list_all (λ c. nat_lt c 128) bs) is))

-- ---- bits

pub bits_len : (b : ℕ) (xs : List NetBit) → length (bits_from b xs) ≡ length xs
bits_len b [] = refl
bits_len b (x ∷ xs) = ap suc (bits_len (b + 1) xs)

-- bit b of the net is the netlist's
bits_at : (from : ℕ) (xs : List NetBit) (b : ℕ) (x : NetBit) → slice_get xs b ≡ Some x → slice_get (bits_from from xs) b ≡ Some (record { name = x.name; node = x.node; root = from + b })
bits_at from [] b x at = absurd cc
bits_at from (y ∷ xs) zero x at = let same : y ≡ x = cc in ap (λ (z : NetBit). some_bit (record { name = z.name; node = z.node; root = from })) same ∙ ap (λ r. some_bit (record { name = x.name; node = x.node; root = r })) (let e : from ≡ from + 0 = omega arith in e)
bits_at from (y ∷ xs) (suc b) x at = bits_at (from + 1) xs b x at ∙ ap (λ r. some_bit (record { name = x.name; node = x.node; root = r })) (let e : (from + 1) + b ≡ from + suc b = omega arith in e)

abbrev pub net_bit : ℕ → NetBit → nets.Bit
net_bit b x = record { name = x.name; node = x.node; root = b }

pub bit_is : (xs : List NetBit) (b : ℕ) (x : NetBit) → slice_get xs b ≡ Some x → nets.IsBitAt (bits_from 0 xs) b (net_bit b x)
bit_is xs b x at = bits_at 0 xs b x at ∙ ap (λ r. some_bit (net_bit r x)) (let e : 0 + b ≡ b = omega arith in e)

bit_there : (xs : List NetBit) (b : ℕ) → b < length xs → (x : NetBit) × (slice_get xs b ≡ Some x)
bit_there [] b lt = absurd (omega arith)
bit_there (x ∷ xs) zero lt = (x, refl)
bit_there (x ∷ xs) (suc b) lt = bit_there xs b (omega arith)

-- each bit of the net is one of the netlist
pub bit_found : (xs : List NetBit) (b : ℕ) (bit : nets.Bit) → nets.IsBitAt (bits_from 0 xs) b bit → (x : NetBit) × (slice_get xs b ≡ Some x) × (bit ≡ net_bit b x)
bit_found xs b bit is =
    let lt = slice_get_within (bits_from 0 xs) b bit is in
    let x = bit_there xs b (omega (arith, lt, bits_len 0 xs)) in
    (x.0, x.1, same_bit bit (net_bit b x.0) (sym is ∙ bit_is xs b x.0 x.1))

-- one place has one bit
pub one_bit_there : (xs : List NetBit) (b : ℕ) (x y : NetBit) → slice_get xs b ≡ Some x → slice_get xs b ≡ Some y → x ≡ y
one_bit_there xs b x y here there = cc

-- what is true of each is true of one at a place
all_there : {X : Type 0} (P : X → Type 0) (xs : List X) (k : ℕ) (x : X) → AllByRecursion P xs → slice_get xs k ≡ Some x → P x
all_there P [] k x all at = absurd cc
all_there P (y ∷ xs) zero x all at = let same : y ≡ x = cc in subst P same all.0
all_there P (y ∷ xs) (suc k) x all at = all_there P xs k x all.1 at

-- a bit's name is text
pub bit_text : (net : Netlist) (b : ℕ) (x : NetBit) → IsLawful net → slice_get net.bits b ≡ Some x → IsUtf8 x.name
bit_text net b x lawful at = IsUtf8-from_ascii x.name (plain_ascii x.name (all_there (λ y. IsPlain y.name) net.bits b x lawful.plain at))

source_there : (net : Netlist) (n : ℕ) → n < length net.sources → (s : form.Entry) × (slice_get net.sources n ≡ Some s)
source_there net n lt = entry_there net.sources n lt where
  entry_there : (ss : List form.Entry) (n : ℕ) → n < length ss → (s : form.Entry) × (slice_get ss n ≡ Some s)
  entry_there [] n lt = absurd (omega arith)
  entry_there (s ∷ ss) zero lt = (s, refl)
  entry_there (s ∷ ss) (suc n) lt = entry_there ss n (omega arith)

-- a part of what stands at a place
part_there : {X Y : Type 0} (f : X → Y) (xs : List X) (n : ℕ) (x : X) (d : Y) → slice_get xs n ≡ Some x → get_or (map f xs) n d ≡ f x
part_there f [] n x d at = absurd cc
part_there f (y ∷ xs) zero x d at = let same : y ≡ x = cc in ap f same
part_there f (y ∷ xs) (suc n) x d at = part_there f xs n x d at

abbrev pub some_name : List ℕ → Option (List ℕ)
some_name n = Some n

-- a source's name is text
pub source_text : (net : Netlist) (n : ℕ) → IsLawful net → n < length net.sources → IsUtf8 (form.name_at net n)
source_text net n lawful lt =
    let s = source_there net n lt in
    subst IsUtf8 (sym (part_there (λ (x : form.Entry). x.name) net.sources n s.0 [] s.1)) (bit_text net s.0.bit (record { name = s.0.name; node = n; wire = false }) lawful (lawful.source_bits n s.0 s.1))

bit_name_at : (net : Netlist) (b : ℕ) (x : NetBit) → slice_get net.bits b ≡ Some x → get_or (map (λ (y : NetBit). y.name) net.bits) b [] ≡ x.name
bit_name_at net b x at = part_there (λ (y : NetBit). y.name) net.bits b x [] at

-- names that stand in order are not turned around
in_order : (net : Netlist) → IsLawful net → (j k : ℕ) (x y : NetBit) → j ≤ k → slice_get net.bits j ≡ Some x → slice_get net.bits k ≡ Some y → is_gt (slice_cmp nat_cmp x.name y.name) ≡ false
in_order net lawful j k x y le at-j at-k = elim (cases_lt j k) [
  | inl less ↦
      let within = slice_get_within net.bits k y at-k in
      let ordered = ap is_gt (Less-from_sorted (slice_cmp nat_cmp) (map (λ (z : NetBit). z.name) net.bits) j k [] lawful.bits_ascend less (omega (arith, within, length-map net.bits (λ (z : NetBit). z.name)))) in
      ap (λ a. is_gt (slice_cmp nat_cmp a y.name)) (sym (bit_name_at net j x at-j)) ∙ ap (λ b. is_gt (slice_cmp nat_cmp (get_or (map (λ (z : NetBit). z.name) net.bits) j []) b)) (sym (bit_name_at net k y at-k)) ∙ ordered
  | inr more ↦
      let same : j ≡ k = omega arith in
      let x-is : x.name ≡ y.name = sym (bit_name_at net j x at-j) ∙ ap (λ i. get_or (map (λ (z : NetBit). z.name) net.bits) i []) same ∙ bit_name_at net k y at-k in
      ap (λ a. is_gt (slice_cmp nat_cmp a y.name)) x-is ∙ ap is_gt (tied_itself nat_list_cmp_total y.name)
]

-- bits of one name are one
one_bit_named : (net : Netlist) → IsLawful net → (j k : ℕ) (x y : NetBit) → slice_get net.bits j ≡ Some x → slice_get net.bits k ≡ Some y → x.name ≡ y.name → j < k → ⊥
one_bit_named net lawful j k x y at-j at-k same less =
    let within = slice_get_within net.bits k y at-k in
    let ordered = Less-from_sorted (slice_cmp nat_cmp) (map (λ (z : NetBit). z.name) net.bits) j k [] lawful.bits_ascend less (omega (arith, within, length-map net.bits (λ (z : NetBit). z.name))) in
    let names : get_or (map (λ (z : NetBit). z.name) net.bits) j [] ≡ get_or (map (λ (z : NetBit). z.name) net.bits) k [] = bit_name_at net j x at-j ∙ same ∙ sym (bit_name_at net k y at-k) in
    let here : slice_cmp nat_cmp (get_or (map (λ (z : NetBit). z.name) net.bits) k []) (get_or (map (λ (z : NetBit). z.name) net.bits) k []) ≡ Less = subst (λ a. slice_cmp nat_cmp a (get_or (map (λ (z : NetBit). z.name) net.bits) k []) ≡ Less) names ordered in
    let tied = tied_itself nat_list_cmp_total (get_or (map (λ (z : NetBit). z.name) net.bits) k []) in
    absurd cc

-- the bit of a name is the least one, since there is one
pub finds_bit : (net : Netlist) (name : List ℕ) (found : Option ℕ) → IsLawful net → form.FindsBit net name found → nets.FindsBit (bits_from 0 net.bits) name found
finds_bit net name None lawful none = λ b bit is same. let x = bit_found net.bits b bit is in none b x.0 x.1 (ap (λ (y : nets.Bit). y.name) (sym x.2) ∙ same)
finds_bit net name (Some b) lawful found = (
  (net_bit b found.0, bit_is net.bits b found.0 found.1, found.2),
  λ k bit lt is same. let x = bit_found net.bits k bit is in
      one_bit_named net lawful k b x.0 found.0 x.1 found.1 (ap (λ (y : nets.Bit). y.name) (sym x.2) ∙ same ∙ sym found.2) lt,
)

-- ---- the net

kinds_len : (net : Netlist) → length (kinds_of net) ≡ length net.sources
kinds_len net = length-map net.sources (λ (s : form.Entry). kind_in_net net s.kind)

-- the kind of a source in the net
pub kind_is : (net : Netlist) (n : ℕ) → n < length net.sources → slice_get (kinds_of net) n ≡ Some (kind_in_net net (kind_at net n))
kind_is net n lt =
    let s = source_there net n lt in
    mapped_get (λ (x : form.Entry). kind_in_net net x.kind) net.sources n s.0 s.1 ∙ ap (λ k. some_kind (kind_in_net net k)) (sym (part_there (λ (x : form.Entry). x.kind) net.sources n s.0 Input s.1))

pub name_is : (net : Netlist) (n : ℕ) → n < length net.sources → slice_get (names_of net) n ≡ Some (form.name_at net n)
name_is net n lt =
    let s = source_there net n lt in
    mapped_get (λ (x : form.Entry). x.name) net.sources n s.0 s.1 ∙ ap some_name (sym (part_there (λ (x : form.Entry). x.name) net.sources n s.0 [] s.1))

abbrev connected_flop : Netlist → Flop → FlopOf ℕ
connected_flop net f = record { clock = Some f.clock; rising = true; next = Some f.«data»; calms = true; pin = Some f.pin; high = f.high; reset = f.reset; root = bit_of net f.pin }

abbrev flop_kind : FlopOf ℕ → nets.Kind
flop_kind f = connections.Flop f

same_connections : (f g : FlopOf ℕ) → flop_kind f ≡ flop_kind g → f ≡ g
same_connections f g e = cc

flop_of_kind : (net : Netlist) (k : Kind) (f : FlopOf ℕ) → connections.Flop f ≡ kind_in_net net k → (g : Flop) × (k ≡ Register g) × (f ≡ connected_flop net g)
flop_of_kind net Input f e = absurd cc
flop_of_kind net (Register g) f e = (g, refl, same_connections f (connected_flop net g) e)

-- the sources are nodes
sources_are_nodes : (net : Netlist) → IsLawful net → length net.sources ≤ length net.nodes
sources_are_nodes net lawful =
    let parts = ap length lawful.nodes.parts in
    omega (arith, parts, length-append (source_nodes 0 (length net.sources)) lawful.nodes.gates, len 0 (length net.sources)) where
      len : (from count : ℕ) → length (source_nodes from count) ≡ count
      len from zero = refl
      len from (suc count) = ap suc (len (from + 1) count)

-- the bit of a source
source_bit : (net : Netlist) (n : ℕ) → IsLawful net → n < length net.sources → (bit : nets.Bit) × nets.IsBitAt (bits_from 0 net.bits) (bit_of net n) bit × (bit.node ≡ n)
source_bit net n lawful lt =
    let s = source_there net n lt in
    let there = lawful.source_bits n s.0 s.1 in
    let at = part_there (λ (x : form.Entry). x.bit) net.sources n s.0 0 s.1 in
    let x : NetBit = record { name = s.0.name; node = n; wire = false } in
    (net_bit (bit_of net n) x, bit_is net.bits (bit_of net n) x (ap (slice_get net.bits) at ∙ there), refl)

is_connected : (net : Netlist) (n : ℕ) (g : Flop) → IsLawful net → kind_at net n ≡ Register g → nets.IsConnected (gates_of net) (kinds_of net) (bits_from 0 net.bits) (connected_flop net g)
is_connected net n g lawful is = let f = lawful.flops n g is in record {
  clock = kind_is net g.clock f.clock ∙ ap (λ (k : Kind). some_kind (kind_in_net net k)) f.clock_is_input;
  next = let lt = f.«data» in omega (arith, gates_len net);
  pin = let lt = f.pin in omega (arith, gates_len net, sources_are_nodes net lawful);
  root = source_bit net g.pin lawful f.pin;
}

kind_plain : (x : Node) → nets.IsPlain (gate_of x)
kind_plain (node.Source n) = tt
kind_plain (node.Not a) = tt
kind_plain (node.And a b) = tt
kind_plain (node.Or a b) = tt

pub is_flop_net : (net : Netlist) → IsLawful net → length net.nodes ≤ 16777216 → nets.IsFlopNet (gates_of net) (length net.sources) (names_of net) (kinds_of net) (bits_from 0 net.bits)
is_flop_net net lawful small = record {
  small = omega (arith, gates_len net);
  plain = λ k g is. let u = unmapped_get gate_of net.nodes k g is in subst nets.IsPlain (sym u.2) (kind_plain u.0);
  each_named = length-map net.sources (λ (s : form.Entry). s.name);
  each_kind = kinds_len net;
  flops = λ s f is.
      let lt = slice_get_within (kinds_of net) s (connections.Flop f) is in
      let inside : s < length net.sources = omega (arith, lt, kinds_len net) in
      let g = flop_of_kind net (kind_at net s) f (same_kind (connections.Flop f) (kind_in_net net (kind_at net s)) (sym is ∙ kind_is net s inside)) in
      subst (λ (h : FlopOf ℕ). nets.IsConnected (gates_of net) (kinds_of net) (bits_from 0 net.bits) h) (sym g.2) (is_connected net s g.0 lawful g.1);
  ordered = λ j k a b le is-a is-b.
      let x = bit_found net.bits j a is-a in
      let y = bit_found net.bits k b is-b in
      rw (x.2, y.2) (in_order net lawful j k x.0 y.0 le x.1 y.1);
  bit_nodes = λ b bit is. let x = bit_found net.bits b bit is in let lt = bit_within net.bits (length net.nodes) b x.0 lawful.within x.1 in let e = ap (λ (y : nets.Bit). y.node) x.2 in omega (arith, e, lt, gates_len net);
  bit_roots = λ b bit is. let x = bit_found net.bits b bit is in let lt = slice_get_within net.bits b x.0 x.1 in let e = ap (λ (y : nets.Bit). y.root) x.2 in omega (arith, e, lt, bits_len 0 net.bits);
}

-- ---- the machine

-- a source's node has its value
source_worth : (net : Netlist) (s : State) (n : ℕ) → IsLawful net → n < length net.sources → at (values (gates_of net) s) n ≡ s n
source_worth net s n lawful lt =
    (values_valued (gates_of net) (length net.sources) s (is_net net lawful)).each n (gates.Source n)
    (gate_at net n (node.Source n) (ap (λ xs. slice_get xs n) lawful.nodes.parts ∙ source_at 0 (length net.sources) n lawful.nodes.gates lt ∙ ap (λ m. some_node (node.Source m)) (let e : 0 + n ≡ n = omega arith in e)))

abbrev the_net : Netlist → machines.Netlist
the_net net = machines.net_of (gates_of net) (names_of net) (kinds_of net) (bits_from 0 net.bits)

same_meaning : (net : Netlist) (n : ℕ) → IsLawful net → (k : Kind) → kind_at net n ≡ k
    → SameMeaning (machines.source_meaning (the_net net) n (Some (kind_in_net net k))) (meaning_of (form.kind_of (formulas net.nodes) k))
same_meaning net n lawful Input is = tt
same_meaning net n lawful (Register g) is = let f = lawful.flops n g is in record {
  clock = refl;
  rising = refl;
  reads = λ s. node_worth net s g.«data» lawful f.«data»;
  pin = (λ s. source_worth net s g.pin lawful f.pin, refl);
  reset = refl;
}

same_source_meaning : (net : Netlist) (roles : List Role) (n : ℕ) → IsLawful net → SameMeaning ((net_machine net roles).source n) ((machine_of (design_of net) roles).source n)
same_source_meaning net roles n lawful =
    subst (λ k. SameMeaning ((net_machine net roles).source n) (meaning_of k)) (sym (kind_at-design_of net n)) (elim (cases_lt n (length net.sources)) [
      | inl inside ↦
          subst (λ (o : Option nets.Kind). SameMeaning (machines.source_meaning (the_net net) n o) (meaning_of (form.kind_of (formulas net.nodes) (kind_at net n))))
          (sym (kind_is net n inside)) (same_meaning net n lawful (kind_at net n) refl)
      | inr past ↦
          subst (λ (o : Option nets.Kind). SameMeaning (machines.source_meaning (the_net net) n o) (meaning_of (form.kind_of (formulas net.nodes) (kind_at net n))))
          (sym (slice_get_past (kinds_of net) n (omega (arith, kinds_len net))))
          (subst (λ (k : Kind). SameMeaning APort (meaning_of (form.kind_of (formulas net.nodes) k))) (sym (get_or_past (map (λ (s : form.Entry). s.kind) net.sources) n Input (omega (arith, length-map net.sources (λ (s : form.Entry). s.kind))))) tt)
    ])

-- the net's machine and the design's agree
pub machines_agree : (net : Netlist) (roles : List Role) → IsLawful net → Agrees (net_machine net roles) (machine_of (design_of net) roles)
machines_agree net roles lawful = record {
  count = kinds_len net ∙ sym (length-design_of net);
  source = λ n. same_source_meaning net roles n lawful;
  declared = λ n. refl;
  fixed = λ n. refl;
}

-- each named bit has the value of its formula
pub bit_values : (net : Netlist) → IsLawful net → HasBitValues net
bit_values net lawful state b bit at = node_worth net state bit.node lawful (bit_within net.bits (length net.nodes) b bit lawful.within at)

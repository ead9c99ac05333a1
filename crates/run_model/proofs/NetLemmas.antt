-- The machine of a net is lawful.
use Rattle.std.proofs.Common.{◌≡◌, ◌⊎◌, ℕ, zero, suc, ◌<◌, Bool, true, false, ◌||◌, IsTrue, if◌then◌else◌, List, length, Option, Some, None, IfSome, refl, sym, inl, inr, ap, ◌∙◌, subst, arith, eq-eqb, eqb-true}
use Rattle.std.specs.Prelude.{slice_get}
use Rattle.std.proofs.lemmas.Option.{slice_get_within, slice_get_cases}
use Rattle.rdc_tern.specs.Kleene.{IsBelow, IsSettled}
use Rattle.net_view.specs.declared.gate.Gate.TheVariants.{Const, Source, Not, And, Or, Xor, Pick, Lift}
use Rattle.net_view.specs.declared.flop_net.SrcKind.TheVariants.{Port, BoxOut, Flop}
use Rattle.net_view.specs.declared.flop_net.FlopOf.{FlopOf}
use Rattle.net_view.specs.View.{Numbered, Reads, IsGateAt, IsNet}
use Rattle.net_view.specs.Values.{values}
use Rattle.net_view.specs.FlopNet.{Kind, Bit, IsPlain, IsFlopAt, IsFlopNet}
use Rattle.net_view.proofs.ValuesLemmas.{gate_value_raised, gate_value_settled, values_valued}
use Rattle.run_model.specs.State.{State, at}
use Rattle.run_model.specs.Machine.{Pin, FlopMeaning, AFlop}
use Rattle.run_model.specs.Laws.{IsLogic, HasPin, IsOrdered, HasOwnPorts, HasNets, IsMachine}
use Rattle.run_model.specs.Netlist.{Netlist, has_name, gate_reads, reads_within, node_logic, data_logic, copied_source, copied_bit, pin_meaning, flop_meaning, source_meaning, machine_of}

or_left : (a b : Bool) → IsTrue a → IsTrue (a || b)
or_left a b h = rw h refl

or_right : (a b : Bool) → IsTrue b → IsTrue (a || b)
or_right true b h = refl
or_right false b h = h

-- what holds of the nodes that a gate reads, given what holds of the sources in their cones
reads_of : (P G S : ℕ → Type 0) (reads : ℕ → ℕ → Bool) (g : Numbered) → Reads P (λ s. Unit {0}) g
    → ((j : ℕ) → P j → ((k : ℕ) → IsTrue (reads j k) → S k) → G j)
    → ((k : ℕ) → IsTrue (gate_reads (Some g) (λ j. reads j k) k) → S k) → Reads G S g
reads_of P G S reads (Const b) below good h = tt
reads_of P G S reads (Source s) below good h = h s (eq-eqb s s refl)
reads_of P G S reads (Not a) below good h = good a below h
reads_of P G S reads (And a b) below good h = (
  good a below.0 (λ k r. h k (or_left (reads a k) (reads b k) r)),
  good b below.1 (λ k r. h k (or_right (reads a k) (reads b k) r)),
)
reads_of P G S reads (Or a b) below good h = (
  good a below.0 (λ k r. h k (or_left (reads a k) (reads b k) r)),
  good b below.1 (λ k r. h k (or_right (reads a k) (reads b k) r)),
)
reads_of P G S reads (Xor a b) below good h = (
  good a below.0 (λ k r. h k (or_left (reads a k) (reads b k) r)),
  good b below.1 (λ k r. h k (or_right (reads a k) (reads b k) r)),
)
reads_of P G S reads (Pick c a b) below good h = (
  good c below.0 (λ k r. h k (or_left (reads c k || reads a k) (reads b k) (or_left (reads c k) (reads a k) r))),
  good a below.1 (λ k r. h k (or_left (reads c k || reads a k) (reads b k) (or_right (reads c k) (reads a k) r))),
  good b below.2 (λ k r. h k (or_right (reads c k || reads a k) (reads b k) r)),
)
reads_of P G S reads (Lift c a b) below good h = (
  good c below.0 (λ k r. h k (or_left (reads c k) (reads a k) r)),
  good a below.1 (λ k r. h k (or_right (reads c k) (reads a k) r)),
)

lower_only : (P Q : ℕ → Type 0) (g : Numbered) → Reads P Q g → Reads P (λ s. Unit {0}) g
lower_only P Q (Const b) h = tt
lower_only P Q (Source s) h = tt
lower_only P Q (Not a) h = h
lower_only P Q (And a b) h = h
lower_only P Q (Or a b) h = h
lower_only P Q (Xor a b) h = h
lower_only P Q (Pick c a b) h = h
lower_only P Q (Lift c a b) h = h

or_either : (a b : Bool) → IsTrue (a || b) → IsTrue a ⊎ IsTrue b
or_either true b h = inl refl
or_either false b h = inr h

-- what a gate reads is a source that is there
gate_reads_within : (count : ℕ) (reads : ℕ → Bool) (k : ℕ) (P : ℕ → Type 0) (g : Numbered) → Reads P (λ s. s < count) g → ((j : ℕ) → IsTrue (reads j) → k < count)
    → IsTrue (gate_reads (Some g) reads k) → k < count
gate_reads_within count reads k P (Const b) there deeper h = absurd (cc)
gate_reads_within count reads k P (Source s) there deeper h = let same = eqb-true k s h in omega arith
gate_reads_within count reads k P (Not a) there deeper h = deeper a h
gate_reads_within count reads k P (And a b) there deeper h = elim (or_either (reads a) (reads b) h) [ inl r ↦ deeper a r | inr r ↦ deeper b r ]
gate_reads_within count reads k P (Or a b) there deeper h = elim (or_either (reads a) (reads b) h) [ inl r ↦ deeper a r | inr r ↦ deeper b r ]
gate_reads_within count reads k P (Xor a b) there deeper h = elim (or_either (reads a) (reads b) h) [ inl r ↦ deeper a r | inr r ↦ deeper b r ]
gate_reads_within count reads k P (Pick c a b) there deeper h = elim (or_either (reads c || reads a) (reads b) h) [
  | inl r ↦ elim (or_either (reads c) (reads a) r) [ inl q ↦ deeper c q | inr q ↦ deeper a q ]
  | inr r ↦ deeper b r
]
gate_reads_within count reads k P (Lift c a b) there deeper h = elim (or_either (reads c) (reads a) h) [ inl r ↦ deeper c r | inr r ↦ deeper a r ]

module _ (gates : List Numbered) (count : ℕ) (net : IsNet gates count) where
  -- what every gate carries over from what it reads, a node has where its cone has it
  along_cone : (G S : ℕ → Type 0) → ((k : ℕ) (g : Numbered) → IsGateAt gates k g → Reads G S g → G k)
      → (depth node : ℕ) → node < depth → node < length gates → ((k : ℕ) → IsTrue (reads_within gates depth node k) → S k) → G node
  unfolding reads_within
  along_cone G S step zero node below inside h = absurd (omega arith)
  along_cone G S step (suc depth) node below inside h = elim (slice_get_cases gates node).1 [
    | inl (g, lt, is, read) ↦ step node g is
        (reads_of (λ j. j < node) G S (reads_within gates depth) g (lower_only (λ j. j < node) (λ s. s < count) g (net.lower node g is))
        (λ j lower more. along_cone G S step depth j (omega arith) (omega arith) more)
        (λ k r. h k (subst (λ o. IsTrue (gate_reads o (λ j. reads_within gates depth j k) k)) (sym is) r)))
    | inr past ↦ absurd (omega (arith, past.0))
  ]

  cone_within : (depth node k : ℕ) → IsTrue (reads_within gates depth node k) → k < count
  unfolding reads_within
  cone_within zero node k h = absurd (cc)
  cone_within (suc depth) node k h = elim (slice_get_cases gates node).1 [
    | inl (g, lt, is, read) ↦
        gate_reads_within count (λ j. reads_within gates depth j k) k (λ j. j < node) g (net.lower node g is) (λ j r. cone_within depth j k r)
        (subst (λ o. IsTrue (gate_reads o (λ j. reads_within gates depth j k) k)) is h)
    | inr past ↦ absurd (let e = subst (λ o. IsTrue (gate_reads o (λ j. reads_within gates depth j k) k)) past.1 h in cc)
  ]

  pub node_lawful : ((k : ℕ) (g : Numbered) → IsGateAt gates k g → IsPlain g) → (node : ℕ) → node < length gates → IsLogic count (node_logic gates node)
  node_lawful plain node inside = record {
    within = cone_within (length gates) node;
    raised = λ s t lower.
        let low = values_valued gates count s net in
        let high = values_valued gates count t net in
        along_cone (λ j. IsBelow (at (values gates s) j) (at (values gates t) j)) (λ k. IsBelow (s k) (t k))
        (λ k g is reads. rw (low.each k g is, high.each k g is) (gate_value_raised s t (at (values gates s)) (at (values gates t)) g reads))
        (length gates) node inside inside lower;
    settles = λ s settled.
        let valued = values_valued gates count s net in
        along_cone (λ j. IsSettled (at (values gates s) j)) (λ k. IsSettled (s k))
        (λ k g is reads. subst IsSettled (sym (valued.each k g is)) (gate_value_settled s (at (values gates s)) g (plain k g is) reads))
        (length gates) node inside inside settled;
  }

-- the value of a source's node is the source's
source_node : (gates : List Numbered) (count : ℕ) → IsNet gates count → (node k : ℕ) → IsGateAt gates node (Source k) → (s : State) → at (values gates s) node ≡ s k
source_node gates count net node k is s = let valued = values_valued gates count s net in valued.each node (Source k) is

hold_lawful : (gates : List Numbered) (count n : ℕ) → n < count → IsLogic count (data_logic gates n None)
hold_lawful gates count n inside = record {
  within = λ k r. let same = eqb-true k n r in omega arith;
  raised = λ s t lower. lower n (eq-eqb n n refl);
  settles = λ s settled. settled n (eq-eqb n n refl);
}

abbrev made_pin : Netlist → FlopOf ℕ → ℕ → Pin
made_pin net g node = record { logic = node_logic net.gates node; high = g.high; root = g.root; copied = copied_bit net (slice_get net.bits g.root) }

-- the flop of the net that a flop of the machine is
flop_found : (net : Netlist) (n : ℕ) (o : Option Kind) (f : FlopMeaning) → source_meaning net n o ≡ AFlop f → (g : FlopOf ℕ) × (o ≡ Some (Flop g)) × (flop_meaning net n g ≡ f)
flop_found net n None f e = absurd (cc)
flop_found net n (Some Port) f e = absurd (cc)
flop_found net n (Some BoxOut) f e = absurd (cc)
flop_found net n (Some (Flop g)) f e = (g, refl, cc)

-- and the node that its pin is
pin_found : (net : Netlist) (g : FlopOf ℕ) (o : Option ℕ) (p : Pin) → pin_meaning net g o ≡ Some p → (node : ℕ) × (o ≡ Some node) × (made_pin net g node ≡ p)
pin_found net g None p e = absurd (cc)
pin_found net g (Some node) p e = (node, refl, cc)

-- a bit that copies a source is its node
copied_found : (net : Netlist) (bit : Bit) (o : Option Numbered) (k : ℕ) → copied_source net bit o ≡ Some k → o ≡ Some (Source k)
copied_found net bit None k e = absurd (cc)
copied_found net bit (Some (Const b)) k e = absurd (cc)
copied_found net bit (Some (Source s)) k e = ap (λ j. Some (Source j)) (by_name (has_name (slice_get net.names s) bit.name) s e)
  where
    by_name : (b : Bool) (s : ℕ) → (if b then Some s else None) ≡ Some k → s ≡ k
    by_name true s e = cc
    by_name false s e = absurd (cc)
copied_found net bit (Some (Not a)) k e = absurd (cc)
copied_found net bit (Some (And a b)) k e = absurd (cc)
copied_found net bit (Some (Or a b)) k e = absurd (cc)
copied_found net bit (Some (Xor a b)) k e = absurd (cc)
copied_found net bit (Some (Pick c a b)) k e = absurd (cc)
copied_found net bit (Some (Lift c a b)) k e = absurd (cc)

if_some : (P : ℕ → Type 0) (o : Option ℕ) (n : ℕ) → IfSome o P → o ≡ Some n → P n
if_some P o n h e = subst (λ q. IfSome q P) e h

-- the flop and the pin of the net behind a pin of the machine
record IsPinOf (net : Netlist) (n : ℕ) (p : Pin) : Type 0 where
  flop : FlopOf ℕ
  is_flop : IsFlopAt net.kinds n flop
  node : ℕ
  inside : node < length net.gates
  bit : Bit
  is_bit : slice_get net.bits flop.root ≡ Some bit
  bit_node : bit.node ≡ node
  pin : made_pin net flop node ≡ p

module _ (net : Netlist) (declared fixed : ℕ → Option Bool) (order : List ℕ) (lawful : IsNet net.gates (length net.kinds))
    (flops : IsFlopNet net.gates (length net.kinds) net.names net.kinds net.bits) where
  pin_of : (n : ℕ) (f : FlopMeaning) (p : Pin) → HasPin (machine_of net declared fixed order) n f p → IsPinOf net n p
  pin_of n f p pin =
      let (g, at_n, is_f) = flop_found net n (slice_get net.kinds n) f pin.flop in
      let (node, at_g, is_p) = pin_found net g g.pin p (ap (λ h. h.pin) is_f ∙ pin.pin) in
      let connected = flops.flops n g at_n in
      let root = if_some (λ q. (bit : Bit) × (slice_get net.bits g.root ≡ Some bit) × (bit.node ≡ q)) g.pin node connected.root at_g in
      record {
        flop = g;
        is_flop = at_n;
        node = node;
        inside = if_some (λ q. q < length net.gates) g.pin node connected.pin at_g;
        bit = root.0;
        is_bit = root.1;
        bit_node = root.2;
        pin = is_p;
      }

  data_lawful : (n : ℕ) (o : Option ℕ) → n < length net.kinds → IfSome o (λ j. j < length net.gates) → IsLogic (length net.kinds) (data_logic net.gates n o)
  data_lawful n None in_n connected = hold_lawful net.gates (length net.kinds) n in_n
  data_lawful n (Some node) in_n connected = node_lawful net.gates (length net.kinds) lawful flops.plain node connected

  reads_lawful : (n : ℕ) (f : FlopMeaning) → source_meaning net n (slice_get net.kinds n) ≡ AFlop f → IsLogic (length net.kinds) f.reads
  reads_lawful n f is =
      let (g, at_n, is_f) = flop_found net n (slice_get net.kinds n) f is in
      subst (λ h. IsLogic (length net.kinds) h.reads) is_f
      (data_lawful n g.next (slice_get_within net.kinds n (Flop g) at_n) (flops.flops n g at_n).next)

  one_node : (n k : ℕ) (p q : Pin) → (a : IsPinOf net n p) (b : IsPinOf net k q) → p.root ≡ q.root → a.node ≡ b.node
  one_node n k p q a b same =
      let root : a.flop.root ≡ b.flop.root = ap (λ r. r.root) a.pin ∙ same ∙ sym (ap (λ r. r.root) b.pin) in
      let bits : Some a.bit ≡ Some b.bit = sym a.is_bit ∙ ap (λ r. slice_get net.bits r) root ∙ b.is_bit in
      let bit : a.bit ≡ b.bit = cc in
      sym a.bit_node ∙ ap (λ x. x.node) bit ∙ b.bit_node

  copy_value : (n : ℕ) (p : Pin) (k : ℕ) → (a : IsPinOf net n p) → p.copied ≡ Some k → (s : State) → p.logic.value s ≡ s k
  copy_value n p k a copied s =
      let here : copied_bit net (slice_get net.bits a.flop.root) ≡ Some k = ap (λ r. r.copied) a.pin ∙ copied in
      let is : slice_get net.gates a.bit.node ≡ Some (Source k) = copied_found net a.bit (slice_get net.gates a.bit.node) k (sym (ap (λ o. copied_bit net o) a.is_bit) ∙ here) in
      ap (λ r. r.logic.value s) (sym a.pin)
      ∙ source_node net.gates (length net.kinds) lawful a.node k (ap (λ j. slice_get net.gates j) (sym a.bit_node) ∙ is) s

  pub nets_lawful : HasNets (machine_of net declared fixed order)
  nets_lawful = record {
    within = λ n f is. let (g, at_n, is_f) = flop_found net n (slice_get net.kinds n) f is in slice_get_within net.kinds n (Flop g) at_n;
    reads = reads_lawful;
    pins = λ n f p pin. let a = pin_of n f p pin in
        subst (λ r. IsLogic (length net.kinds) r.logic) a.pin (node_lawful net.gates (length net.kinds) lawful flops.plain a.node a.inside);
    one_root = λ n k f g p q at_n at_k same s. let a = pin_of n f p at_n in let b = pin_of k g q at_k in
        ap (λ r. r.logic.value s) (sym a.pin) ∙ ap (λ j. at (values net.gates s) j) (one_node n k p q a b same) ∙ ap (λ r. r.logic.value s) b.pin;
    copies = λ n f p k pin copied s. copy_value n p k (pin_of n f p pin) copied s;
  }

-- a net's machine is lawful where its lists are
pub net_machine : (net : Netlist) (sources : ℕ) (declared fixed : ℕ → Option Bool) (order : List ℕ) → IsNet net.gates sources
    → IsFlopNet net.gates sources net.names net.kinds net.bits → IsOrdered (machine_of net declared fixed order) → HasOwnPorts (machine_of net declared fixed order)
    → IsMachine (machine_of net declared fixed order)
net_machine net sources declared fixed order lawful flops ordered ports = record {
  nets = nets_lawful net declared fixed order
      (subst (λ n. IsNet net.gates n) (sym flops.each_kind) lawful)
      (subst (λ n. IsFlopNet net.gates n net.names net.kinds net.bits) (sym flops.each_kind) flops);
  order = ordered;
  ports = ports;
}

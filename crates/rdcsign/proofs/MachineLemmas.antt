-- Serves specs/DesignMachine.antt: a design's machine is closed, and clean where no edge crosses.
use Rattle.std.proofs.Common.{◌≡◌, ◌≢◌, get_or, ℕ, zero, suc, ◌+◌, ◌<◌, ◌≤◌, Bool, true, false, List, [], ◌∷◌, length, Option, Some, refl, sym, ap, subst, ◌∙◌, inl, inr, ◌⊎◌, arith, IsTrue}
use Rattle.std.specs.Prelude.{Contains, map, bytes_eq, ◌||◌, ◌&&◌, ◌==◌}
use Rattle.std.specs.List.{AllByRecursion, list_any, list_all}
use Rattle.std.proofs.lemmas.Bool.{cases_lt, not-false}
use Rattle.std.proofs.lemmas.Slice.Eq.{bytes_eq-Decides}
use Rattle.std.proofs.lemmas.Bool.Decides.{nat_tests}
use Rattle.std.proofs.lemmas.List.{get_or_past, length-map}
use Rattle.rdc_tern.specs.declared.value.Tern.{Tern}
use Rattle.thin_form.specs.Formula.{Formula, sources_in}
use Rattle.thin_form.specs.Design.{Flop, Kind, Input, Register, Source, Design, IsAscending, names, kinds, kind_at, name_at}
use Rattle.thin_form.specs.Netlist as nets
use Rattle.thin_form.specs.Netlist.{Netlist, IsLawful, design_of, formulas, formula_at, flop_of, kind_of}
use Rattle.thin_form.specs.declared.kind.Kind as code
use Rattle.thin_form.specs.declared.kind.Kind.TheVariants as code_kind
use Rattle.thin_form.specs.declared.kind.Flop as code_flop
use Rattle.thin_form.proofs.DesignOf.{names-design_of, kind_at-design_of, length-design_of, node_within, Within}
use Rattle.thin_cons.specs.Roles.{role_at, role_in, IsInput, Declares}
use Rattle.thin_cons.specs.Forms.{Declaration}
use Rattle.thin_cons.specs.Roles.{port_of}
use Rattle.thin_cons.proofs.RolesLemmas.{one_place}
use Rattle.run_model.proofs.Places.{contains_split, contains_here, contains_later, contains_none}
use Rattle.thin_cons.specs.declared.role.Role.{Role}
use Rattle.thin_cons.specs.declared.role.Role.TheVariants.{Free, Clock, Reset}
use Rattle.run_model.specs.State.{settled}
use Rattle.run_model.specs.Event.{calm_value}
use Rattle.run_model.proofs.SafeLemmas.{clean_safe}
use Rattle.run_model.specs.Machine.{Pin, FlopMeaning, Meaning, APort, AFlop, Machine}
use Rattle.run_model.specs.Laws.{IsLogic, HasPin, ReadsNone, IsPinOrder, IsOrdered, HasOwnPorts, HasNets, IsMachine}
use Rattle.run_model.specs.Safe.{IsSafe}
use Rattle.run_model.specs.Same.{IsSame, IsSameSource, HasOnePin, IsDirect}
use Rattle.rdcsign.specs.Closed as closed_flop
use Rattle.rdcsign.specs.Closed.{IsClosed}
use Rattle.rdcsign.proofs.FormulaLemmas.{formula_is_logic, among}
use Rattle.rdcsign.specs.Verdict.{is_same, is_crossing, crosses, reads_same, has_pin_of}
use Rattle.rdcsign.specs.DesignMachine.{copy_of, pin_of, flop_meaning, meaning_of, level_of, clock_value, put_flop, flops_from, machine_of}

abbrev flop : FlopMeaning → Meaning
flop f = AFlop f

abbrev some : {A : Type 0} → A → Option A
some x = Some x

abbrev reset : Bool → Role
reset high = Reset high

same_bool : (a b : Bool) → some a ≡ some b → a ≡ b
same_bool a b e = cc

abbrev some_number : ℕ → Option ℕ
some_number n = Some n

abbrev register : Flop → Kind
register f = Register f

same_register : (f g : Flop) → register f ≡ register g → f ≡ g
same_register f g e = cc

same_root : (f g : Flop) → has_pin_of f g ≡ true → f.pin ≡ g.pin
same_root f g e = grind (arith, nat_tests)

same_level : (f g : Flop) → has_pin_of f g ≡ true → f.high ≡ g.high
same_level f g e = grind (arith, nat_tests)

and_true_left : (a b : Bool) → (a && b) ≡ true → a ≡ true
and_true_left true b e = refl
and_true_left false b e = absurd cc

and_true_right : (a b : Bool) → (a && b) ≡ true → b ≡ true
and_true_right true b e = e
and_true_right false b e = absurd cc

or_false_left : (a b : Bool) → (a || b) ≡ false → a ≡ false
or_false_left true b e = absurd cc
or_false_left false b e = refl

or_false_right : (a b : Bool) → (a || b) ≡ false → b ≡ false
or_false_right true b e = absurd cc
or_false_right false b e = e

same_number : (a b : ℕ) → some a ≡ some b → a ≡ b
same_number a b e = cc

-- source k is read by the net that is source n only where it is n
read_is : (n k : ℕ) → IsTrue ((copy_of n).cone k) → k ≡ n
read_is n k reads = grind (arith, nat_tests)

reads_itself : (n : ℕ) → IsTrue ((copy_of n).cone n)
reads_itself n = grind (arith, nat_tests)

-- a source is its own net
copy_is_logic : (count n : ℕ) → n < count → IsLogic count (copy_of n)
copy_is_logic count n inside = record {
  within = λ k reads. subst (λ (j : ℕ). j < count) (sym (read_is n k reads)) inside;
  raised = λ s t up. up n (reads_itself n);
  settles = λ s all. all n (reads_itself n);
}

same_flop : (f g : FlopMeaning) → flop f ≡ flop g → f ≡ g
same_flop f g e = cc

same_pin : (p q : Pin) → some p ≡ some q → p ≡ q
same_pin p q e = cc

-- a flop of the machine is a register of the design
flop_is : (k : Kind) (f : FlopMeaning) → meaning_of k ≡ AFlop f → (g : Flop) × (k ≡ Register g) × (f ≡ flop_meaning g)
flop_is Input f e = absurd cc
flop_is (Register g) f e = (g, refl, sym (same_flop (flop_meaning g) f e))

-- the pin of a flop of the machine
pin_is : (f : FlopMeaning) (g : Flop) (p : Pin) → f ≡ flop_meaning g → f.pin ≡ Some p → p ≡ pin_of g.pin g.high
pin_is f g p f-is e = same_pin p (pin_of g.pin g.high) (sym e ∙ ap (λ (h : FlopMeaning). h.pin) f-is)

-- the kinds past the end are inputs
kind_past : (d : Design) (n : ℕ) → length d.sources ≤ n → kind_at d n ≡ Input
kind_past d n past = let len : length (kinds d) ≡ length d.sources = simp length-map in get_or_past (kinds d) n Input (omega arith)

flop_within : (d : Design) (n : ℕ) (g : Flop) → kind_at d n ≡ Register g → n < length d.sources
flop_within d n g is = elim (cases_lt n (length d.sources)) [
  | inl inside ↦ inside
  | inr past ↦ let bad : Input ≡ Register g = sym (kind_past d n past) ∙ is in absurd cc
]

-- the machine's flops are closed nets
has_nets : (d : Design) (roles : List Role) → IsClosed d → HasNets (machine_of d roles)
has_nets d roles closed = record {
  within = λ n f is. let g = flop_is (kind_at d n) f is in flop_within d n g.0 g.1;
  reads = λ n f is. let g = flop_is (kind_at d n) f is in
      subst (λ (h : FlopMeaning). IsLogic (length d.sources) h.reads) (sym g.2) (formula_is_logic (length d.sources) g.0.next (closed.flops n g.0 g.1).next);
  pins = λ n f p has. let g = flop_is (kind_at d n) f has.flop in
      subst (λ (q : Pin). IsLogic (length d.sources) q.logic) (sym (pin_is f g.0 p g.2 has.pin)) (copy_is_logic (length d.sources) g.0.pin (closed.flops n g.0 g.1).pin);
  one_root = λ n k f g p q has has' root s.
      let a = flop_is (kind_at d n) f has.flop in
      let b = flop_is (kind_at d k) g has'.flop in
      let p-is = pin_is f a.0 p a.2 has.pin in
      let q-is = pin_is g b.0 q b.2 has'.pin in
      let roots : a.0.pin ≡ b.0.pin = ap (λ (x : Pin). x.root) (sym p-is) ∙ root ∙ ap (λ (x : Pin). x.root) q-is in
      ap (λ (x : Pin). x.logic.value s) p-is ∙ ap s roots ∙ ap (λ (x : Pin). x.logic.value s) (sym q-is);
  copies = λ n f p k has copied s.
      let a = flop_is (kind_at d n) f has.flop in
      let p-is = pin_is f a.0 p a.2 has.pin in
      let k-is : a.0.pin ≡ k = same_number a.0.pin k (ap (λ (x : Pin). x.copied) (sym p-is) ∙ copied) in
      ap (λ (x : Pin). x.logic.value s) p-is ∙ ap s k-is;
}

-- ---- the order of the flops

-- a flop that is listed first, or later
split_put : (kind : Kind) (n : ℕ) (rest : List ℕ) (k : ℕ) → Contains (put_flop kind n rest) k → ((k ≡ n) × (f : Flop) × (kind ≡ Register f)) ⊎ Contains rest k
split_put Input n rest k c = inr c
split_put (Register f) n rest k c = elim (contains_split rest n k c) [ inl e ↦ inl (e, f, refl) | inr later ↦ inr later ]

-- what a source of a list is
abbrev kind_in : List Source → ℕ → Kind
kind_in ss n = get_or (map (λ s. s.kind) ss) n Input

-- what is listed is a flop, at its place
listed_is_flop : (ss : List Source) (n k : ℕ) → Contains (flops_from n ss) k → (i : ℕ) × (k ≡ n + i) × (f : Flop) × (kind_in ss i ≡ Register f)
listed_is_flop [] n k c = absurd (contains_none k c)
listed_is_flop (s ∷ ss) n k c =
    elim (split_put s.kind n (flops_from (n + 1) ss) k c) [
      | inl here ↦ (0, omega (arith, here.0), here.1, here.2)
      | inr later ↦ let r = listed_is_flop ss (n + 1) k later in (suc r.0, omega (arith, r.1), r.2, r.3)
    ]

put_keeps : (kind : Kind) (n : ℕ) (rest : List ℕ) (k : ℕ) → Contains rest k → Contains (put_flop kind n rest) k
put_keeps Input n rest k c = c
put_keeps (Register f) n rest k c = contains_later rest n k c

put_has : (kind : Kind) (n : ℕ) (rest : List ℕ) (f : Flop) → kind ≡ Register f → Contains (put_flop kind n rest) n
put_has Input n rest f e = absurd cc
put_has (Register g) n rest f e = contains_here rest n

-- a flop is listed
flop_is_listed : (ss : List Source) (n i : ℕ) (f : Flop) → kind_in ss i ≡ Register f → Contains (flops_from n ss) (n + i)
flop_is_listed [] n i f e = let bad : Input ≡ Register f = e in absurd cc
flop_is_listed (s ∷ ss) n zero f e = let at : n ≡ n + 0 = omega arith in subst (Contains (put_flop s.kind n (flops_from (n + 1) ss))) at (put_has s.kind n (flops_from (n + 1) ss) f e)
flop_is_listed (s ∷ ss) n (suc i) f e =
    let at : (n + 1) + i ≡ n + suc i = omega arith in
    put_keeps s.kind n (flops_from (n + 1) ss) (n + suc i) (subst (Contains (flops_from (n + 1) ss)) at (flop_is_listed ss (n + 1) i f e))

-- no pin reads a flop, since each is an input
reads_no_flop : (d : Design) (roles : List Role) (n : ℕ) (ks : List ℕ) → IsClosed d → ((k : ℕ) → Contains ks k → (f : Flop) × (kind_at d k ≡ Register f)) → ReadsNone (machine_of d roles) n ks
reads_no_flop d roles n ks closed flops f p k has c reads =
    let g = flop_is (kind_at d n) f has.flop in
    let p-is = pin_is f g.0 p g.2 has.pin in
    let k-is : k ≡ g.0.pin = read_is g.0.pin k (subst (λ (q : Pin). IsTrue (q.logic.cone k)) p-is reads) in
    let input : kind_at d g.0.pin ≡ Input = (closed.flops n g.0 g.1).pin_is_input in
    let listed = flops k c in
    let bad : Input ≡ Register listed.0 = sym input ∙ ap (kind_at d) (sym k-is) ∙ listed.1 in
    absurd cc

order_put : (m : Machine) (kind : Kind) (n : ℕ) (rest : List ℕ) → ReadsNone m n (put_flop kind n rest) → (Contains rest n → ⊥) → IsPinOrder m rest → IsPinOrder m (put_flop kind n rest)
order_put m Input n rest reads apart order = order
order_put m (Register f) n rest reads apart order = (reads, apart, order)

-- name order is a pin order
flops_in_order : (d : Design) (roles : List Role) → IsClosed d → (ss : List Source) (n : ℕ) → ((i : ℕ) → kind_in ss i ≡ kind_at d (n + i)) → IsPinOrder (machine_of d roles) (flops_from n ss)
flops_in_order d roles closed [] n tail = tt
flops_in_order d roles closed (s ∷ ss) n tail =
    let rest = flops_from (n + 1) ss in
    let later : (i : ℕ) → kind_in ss i ≡ kind_at d ((n + 1) + i) = λ i. tail (suc i) ∙ ap (kind_at d) (let e : n + suc i ≡ (n + 1) + i = omega arith in e) in
    let flops : (k : ℕ) → Contains (flops_from n (s ∷ ss)) k → (f : Flop) × (kind_at d k ≡ Register f) = λ k c.
    let r = listed_is_flop (s ∷ ss) n k c in (r.2, ap (kind_at d) r.1 ∙ sym (tail r.0) ∙ r.3) in
    order_put (machine_of d roles) s.kind n rest (reads_no_flop d roles n (flops_from n (s ∷ ss)) closed flops)
    (λ c. let r = listed_is_flop ss (n + 1) n c in omega (arith, r.1)) (flops_in_order d roles closed ss (n + 1) later)

is_ordered : (d : Design) (roles : List Role) → IsClosed d → IsOrdered (machine_of d roles)
is_ordered d roles closed = record {
  pins = flops_in_order d roles closed d.sources 0 (λ i. ap (kind_at d) (let e : i ≡ 0 + i = omega arith in e));
  listed = λ n f is. let g = flop_is (kind_at d n) f is in subst (Contains (flops_from 0 d.sources)) (let e : 0 + n ≡ n = omega arith in e) (flop_is_listed d.sources 0 n g.0 g.1);
}

-- ---- the declared ports

role_of_name : (f : List ℕ → Role) (ss : List Source) (n : ℕ) → n < length ss → role_at (map (λ s. f s.name) ss) n ≡ f (get_or (map (λ s. s.name) ss) n [])
role_of_name f [] n lt = absurd (omega arith)
role_of_name f (s ∷ ss) zero lt = refl
role_of_name f (s ∷ ss) (suc n) lt = role_of_name f ss n (omega arith)

-- a name that has a role is an input port's
role_is_input : (d : Design) (ds : List Declaration) (name : List ℕ) → AllByRecursion (λ x. IsInput d (port_of x)) ds → role_in ds name ≢ Free → IsInput d name
role_is_input d [] name inputs has = absurd (has refl)
role_is_input d (x ∷ ds) name inputs has = named (role_is_input d ds name inputs.1) (bytes_eq (port_of x) name) refl where
  named : (role_in ds name ≢ Free → IsInput d name) → (b : Bool) → bytes_eq (port_of x) name ≡ b → IsInput d name
  named rest true e = subst (IsInput d) ((bytes_eq-Decides (port_of x) name).0 e) inputs.0
  named rest false e = rest (λ free. has (rw e free))

-- a source with a role is an input port
declared_is_input : (d : Design) (bytes : List ℕ) (roles : List Role) (n : ℕ) → IsClosed d → Declares d bytes roles → role_at roles n ≢ Free → kind_at d n ≡ Input
declared_is_input d bytes roles n closed declares has = elim (cases_lt n (length d.sources)) [
  | inl inside ↦
      let role-is : role_at roles n ≡ role_in declares.declarations (name_at d n) = ap (λ (r : List Role). role_at r n) declares.roles.roles ∙ role_of_name (role_in declares.declarations) d.sources n inside in
      let input = role_is_input d declares.declarations (name_at d n) declares.roles.inputs (λ free. has (role-is ∙ free)) in
      let one = one_place d input.0 n closed.ascending input.1 inside input.2 in
      ap (kind_at d) (sym one) ∙ input.3
  | inr past ↦ kind_past d n past
]

level_is : (r : Role) (high : Bool) → level_of r ≡ Some high → r ≡ Reset high
level_is Free high e = absurd cc
level_is Clock high e = absurd cc
level_is (Reset h) high e = ap reset (same_bool h high e)

clock_is : (r : Role) (value : Bool) → clock_value r ≡ Some value → r ≡ Clock
clock_is Free value e = absurd cc
clock_is Clock value e = refl
clock_is (Reset h) value e = absurd cc

port_of_input : (k : Kind) → k ≡ Input → meaning_of k ≡ APort
port_of_input k e = ap meaning_of e

has_own_ports : (d : Design) (bytes : List ℕ) (roles : List Role) → IsClosed d → Declares d bytes roles → HasOwnPorts (machine_of d roles)
has_own_ports d bytes roles closed declares = record {
  declared = λ n high e. let is = level_is (role_at roles n) high e in
      port_of_input (kind_at d n) (declared_is_input d bytes roles n closed declares (λ free. let bad : Free ≡ Reset high = sym free ∙ is in cc));
  free = λ n high e. ap clock_value (level_is (role_at roles n) high e);
  fixed = λ n value e. let is = clock_is (role_at roles n) value e in
      port_of_input (kind_at d n) (declared_is_input d bytes roles n closed declares (λ free. let bad : Free ≡ Clock = sym free ∙ is in cc));
}

-- the machine of a design is closed
pub is_machine : (d : Design) (bytes : List ℕ) (roles : List Role) → IsClosed d → Declares d bytes roles → IsMachine (machine_of d roles)
is_machine d bytes roles closed declares = record { nets = has_nets d roles closed; order = is_ordered d roles closed; ports = has_own_ports d bytes roles closed declares }

-- ---- no crossing

-- flops with one pin, by their numbers
one_pin : (f g : Flop) → has_pin_of f g ≡ true → HasOnePin (flop_meaning f) (flop_meaning g)
one_pin f g e = record {
  mine = pin_of f.pin f.high;
  other = pin_of g.pin g.high;
  is_mine = refl;
  is_other = refl;
  root = same_root f g e;
  level = same_level f g e;
}

-- what a flop reads without a crossing
same_source : (f : Flop) (role : Role) (kind : Kind) → reads_same f role kind ≡ true → IsSameSource (flop_meaning f) (meaning_of kind) (level_of role)
same_source f Free Input e = refl
same_source f Clock Input e = refl
same_source f (Reset high) Input e = absurd cc
same_source f role (Register g) e = inr (one_pin f g e)

-- where no source crosses, each flop's edge is the same
edge_is_same : (d : Design) (roles : List Role) (ss : List Source) (i : ℕ) (f : Flop) → list_any (λ s. is_crossing d roles s.kind) ss ≡ false → kind_in ss i ≡ Register f → is_same d roles f ≡ true
edge_is_same d roles [] i f none is = let bad : Input ≡ Register f = is in absurd cc
edge_is_same d roles (s ∷ ss) zero f none is = not-false (is_same d roles f) (subst (λ (k : Kind). is_crossing d roles k ≡ false) is (or_false_left (is_crossing d roles s.kind) _ none))
edge_is_same d roles (s ∷ ss) (suc i) f none is = edge_is_same d roles ss i f (or_false_right (is_crossing d roles s.kind) _ none) is

-- each source that a flop reads is one that it may read
each_same : (P : ℕ → Bool) (ns : List ℕ) (n : ℕ) → list_all P ns ≡ true → IsTrue (list_any (λ k. k == n) ns) → P n ≡ true
each_same P [] n all is = absurd cc
each_same P (k ∷ ns) n all is = here (k == n) refl (each_same P ns n (and_true_right (P k) (list_all P ns) all)) where
  here : (b : Bool) → (k == n) ≡ b → (IsTrue (list_any (λ j. j == n) ns) → P n ≡ true) → P n ≡ true
  here true e rest = let same : k ≡ n = grind (arith, nat_tests, e) in subst (λ m. P m ≡ true) same (and_true_left (P k) (list_all P ns) all)
  here false e rest = rest (rw e at is)

is_same_at : (d : Design) (roles : List Role) → crosses d roles ≡ false → (n : ℕ) → IsSame (machine_of d roles) n
is_same_at d roles clean n f is k reads =
    let g = flop_is (kind_at d n) f is in
    let same = edge_is_same d roles d.sources n g.0 clean g.1 in
    let read = subst (λ (h : FlopMeaning). IsTrue (h.reads.cone k)) g.2 reads in
    subst (λ (h : FlopMeaning). IsSameSource h (meaning_of (kind_at d k)) (level_of (role_at roles k))) (sym g.2)
    (same_source g.0 (role_at roles k) (kind_at d k) (each_same (λ m. reads_same g.0 (role_at roles m) (kind_at d m)) (sources_in g.0.next) k same read))

calms_to : (kind : Kind) (role : Role) (high : Bool) (v : Tern) → kind ≡ Input → role ≡ Reset high → calm_value (meaning_of kind) (level_of role) v ≡ settled high
calms_to kind role high v kind-is role-is = rw (kind-is, role-is) refl

-- each pin is a declared reset of its level, so its calm is direct
is_direct_at : (d : Design) (bytes : List ℕ) (roles : List Role) → IsClosed d → Declares d bytes roles → (n : ℕ) (f : FlopMeaning) (p : Pin) → HasPin (machine_of d roles) n f p
    → (k : ℕ) → IsTrue (p.logic.cone k) → IsDirect (machine_of d roles) n k
is_direct_at d bytes roles closed declares n f p has k reads f' p' has' =
    let g = flop_is (kind_at d n) f has.flop in
    let g' = flop_is (kind_at d n) f' has'.flop in
    let p-is = pin_is f g.0 p g.2 has.pin in
    let p'-is = pin_is f' g'.0 p' g'.2 has'.pin in
    let one : g.0 ≡ g'.0 = same_register g.0 g'.0 (sym g.1 ∙ g'.1) in
    let k-is : k ≡ g.0.pin = read_is g.0.pin k (subst (λ (q : Pin). IsTrue (q.logic.cone k)) p-is reads) in
    let met = declares.met.flops n (flop_within d n g.0 g.1) g.0 g.1 in
    let high-is : p'.high ≡ g.0.high = ap (λ (q : Pin). q.high) p'-is ∙ ap (λ (h : Flop). h.high) (sym one) in (
      ap (λ (q : Pin). q.copied) p'-is ∙ ap (λ (h : Flop). some h.pin) (sym one) ∙ ap some_number (sym k-is),
      λ v. calms_to (kind_at d k) (role_at roles k) g.0.high v (ap (kind_at d) k-is ∙ (closed.flops n g.0 g.1).pin_is_input) (ap (role_at roles) k-is ∙ met.pin) ∙ ap settled (sym high-is),
    )

-- a design in which no edge crosses is safe
pub design_is_safe : (d : Design) (bytes : List ℕ) (roles : List Role) → IsClosed d → Declares d bytes roles → crosses d roles ≡ false → IsSafe (machine_of d roles)
design_is_safe d bytes roles closed declares clean =
    clean_safe (machine_of d roles) (is_machine d bytes roles closed declares)
    (record { same = is_same_at d roles clean; direct = λ n f p has k reads can. is_direct_at d bytes roles closed declares n f p has k reads })

-- ---- closed designs

-- a register of the design is one of the netlist
register_of : (fs : List Formula) (k : code.Kind) (f : Flop) → kind_of fs k ≡ Register f → (g : code_flop.Flop) × (k ≡ code_kind.Register g) × (f ≡ flop_of fs g)
register_of fs code_kind.Input f e = absurd cc
register_of fs (code_kind.Register g) f e = (g, refl, sym (same_register (flop_of fs g) f e))

input_of : (net : Netlist) (n : ℕ) → nets.kind_at net n ≡ code_kind.Input → kind_at (design_of net) n ≡ Input
input_of net n e = kind_at-design_of net n ∙ ap (kind_of (formulas net.nodes)) e

-- the design that a netlist keeps is closed
pub is_closed : (net : Netlist) → IsLawful net → IsClosed (design_of net)
is_closed net closed = record {
  ascending = subst IsAscending (sym (names-design_of net)) closed.ascending;
  flops = λ n f is.
      let g = register_of (formulas net.nodes) (nets.kind_at net n) f (sym (kind_at-design_of net n) ∙ is) in
      let there = closed.flops n g.0 g.1 in
      let len = length-design_of net in
      subst (closed_flop.IsFlopOf (design_of net)) (sym g.2) (record {
        clock_is_input = input_of net g.0.clock there.clock_is_input;
        pin = omega (arith, len, there.pin);
        pin_is_input = input_of net g.0.pin there.pin_is_input;
        next = subst (λ count. Within count (formula_at (formulas net.nodes) g.0.«data»)) (sym len) (node_within (length net.sources) net.nodes g.0.«data» closed.nodes there.«data»);
      });
}

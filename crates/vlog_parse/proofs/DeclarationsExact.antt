-- What the readers of declarations take.
use Rattle.std.proofs.Common.{◌≡◌, ℕ, ◌≤◌, false, List, [], ◌∷◌, ◌++◌, Option, Some, refl, sym, ap, ◌∙◌, subst, append_assoc, append-nil, arith}
use Rattle.std.specs.Prelude.{codes}
use Rattle.rdc_outside.specs.declared.source.Place.{Place}
use Rattle.vlog_tree.specs.declared.ident.Ident.{Ident}
use Rattle.vlog_tree.specs.declared.port.Shape.{Shape}
use Rattle.vlog_tree.specs.declared.item.Net.{Net}
use Rattle.vlog_tree.specs.declared.item.Binding.{Binding}
use Rattle.vlog_tree.specs.declared.item.GateKind.{GateKind}
use Rattle.vlog_tree.specs.declared.item.GateKind.TheVariants as kind
use Rattle.vlog_tree.specs.declared.item.Instance.{Instance}
use Rattle.vlog_tree.specs.declared.item.Item.{Item}
use Rattle.vlog_tree.specs.declared.item.Item.TheVariants as i
use Rattle.vlog_tree.specs.Lexemes.{Lexeme, IsMark, IsWord, start}
use Rattle.vlog_tree.specs.Names.{IsIdent}
use Rattle.vlog_tree.specs.Lists.{SpellsCommas, SpellsOptional, SpellsIdent}
use Rattle.vlog_tree.specs.Lists as l
use Rattle.vlog_tree.specs.Declarations as g
use Rattle.vlog_tree.specs.Declarations.{SpellsRange, SpellsSigned, SpellsShape, SpellsDirection, SpellsNet, SpellsBinding, SpellsAssignment, SpellsGate, SpellsInstance, SpellsPassed, SpellsDeclaration, IsGate}
use Rattle.vlog_tree.specs.Depth.{deepest, deepest_of, depth_of_shape, depth_of_net, depth_of_binding, depth_of_assignment, depth_of_gate, depth_of_instance, depth_of_connections, depth_of_item}
use Rattle.vlog_expr.specs.Reading.{Reader, place_if, sees}
use Rattle.vlog_parse.specs.Lists.{ident, commas}
use Rattle.vlog_parse.specs.Parts.{net, binding, assignment, gate, instance}
use Rattle.vlog_parse.specs.Items.{shaped, declared, ports, wires, registers, integers, genvars, parameters, constants, assign, word_of_gate, gates, instances}
use Rattle.vlog_parse.proofs.Exact.{Spelling, front, Exact, exact_as, Row, ◌>>=◌, Done, exact_pure, Lead, exact_mark, exact_word, Named, exact_ident, exact_peek, lead, row, final, of_parts, exact_said}
use Rattle.vlog_parse.proofs.Commas.{Fits, Before, exact_list, exact_before, exact_ident_fits, fit, before}
use Rattle.vlog_parse.proofs.Looks.{Ends, at_comma, NameAhead, Finishes, finishes_end, finishes_no_comma, placed, placed_at}
use Rattle.vlog_parse.proofs.Given.{Laws}
use Rattle.vlog_parse.proofs.PartsExact.{NotDriven, exact_shape, exact_direction, exact_net, exact_binding, exact_assignment}
use Rattle.vlog_parse.proofs.GatesExact.{exact_gate, exact_passed, exact_instance}
use Rattle.vlog_parse.proofs.ItemDepths.{depth-Ports, depth-Wires, depth-Registers, depth-Integers, depth-Genvars, depth-Parameters, depth-Constants, depth-Assign, depth-Gates, depth-Instances}

-- a word, what it declares, and ";"
pub record Declares {A : Type 0} (w : List ℕ) (S : Spelling A) (made : Place → A → Item) (us : List Lexeme) (x : Item) (next : Option Lexeme) : Type 0 where
  pub word : Lexeme
  pub semi : Lexeme
  pub body : List Lexeme
  pub answer : A
  pub worded : IsWord w word
  pub here : S body answer (Some semi)
  pub ends : IsMark (codes ";") semi
  pub parts : us ≡ word ∷ (body ++ semi ∷ [])
  pub is : x ≡ made (start us) answer

pub exact_declared : {A : Type 0} {p : Reader A} {S C : Spelling A} (w : List ℕ) (made : Place → A → Item) → Exact p S C → Exact (declared w p made) (Declares w S made) (Declares w C made)
unfolding declared
exact_declared {S = S} {C = C} w made e =
    exact_said (exact_peek place_if (λ place. exact_word w (e >>= (λ x. exact_mark (codes ";") (exact_pure (made place x))))))
    (λ us x next h.
    let a = h.behind in let b = a.behind in let d = b.behind in
    let tail : a.two ≡ b.lexeme ∷ [] = cc in
    record {
      word = h.lexeme;
      semi = b.lexeme;
      body = a.one;
      answer = a.answer;
      worded = h.holds;
      here = subst (λ z. S a.one a.answer (front z next)) tail a.here;
      ends = b.holds;
      parts = cc;
      is = d.is ∙ ap (λ z. made z a.answer) (placed us h.lexeme h.others next h.is);
    })
    (λ us x next f.
    of_parts f.parts (lead f.worded (row f.body _ f.answer f.here (lead f.ends
    (record { none = refl; is = f.is ∙ ap (λ z. made z f.answer) (sym (placed us f.word (f.body ++ f.semi ∷ []) next f.parts) ∙ ap (λ z. place_if (front z next)) f.parts) })))))

-- [ "signed" ] [ range ] and what stands behind
pub record Shapes {A : Type 0} (S : Spelling Shape) (T : Spelling A) (us : List Lexeme) (x : Shape × A) (next : Option Lexeme) : Type 0 where
  pub one : List Lexeme
  pub two : List Lexeme
  pub is : us ≡ one ++ two
  pub here : S one x.0 (front two next)
  pub behind : T two x.1 next

pub exact_shaped : {A : Type 0} {p : Reader A} {T D : Spelling A} (room : ℕ) → Exact p T D → Exact (shaped room p) (Shapes (Fits SpellsShape depth_of_shape room) T) (Shapes (Before NameAhead (Fits SpellsShape depth_of_shape room)) D)
unfolding shaped
exact_shaped {T = T} {D = D} room e =
    exact_said (exact_shape room >>= (λ s. e >>= (λ x. exact_pure (s, x))))
    (λ us x next h.
    let a = h.behind in let d = a.behind in
    let tail : a.one ≡ h.two = cc (append-nil a.one) in
    let fst : h.answer ≡ x.0 = ap (λ z. z.0) (sym d.is) in let snd : a.answer ≡ x.1 = ap (λ z. z.1) (sym d.is) in
    record {
      one = h.one;
      two = h.two;
      is = h.is;
      here = subst (λ z. Fits SpellsShape depth_of_shape room h.one z (front h.two next)) fst h.here;
      behind = subst (λ z. T z x.1 next) tail (subst (λ z. T a.one z next) snd (subst (λ z. T a.one a.answer (front z next)) d.none a.here));
    })
    (λ us x next f. of_parts f.is (row f.one f.two x.0 f.here (final x.1 f.behind)))

-- a name stands first
pub record Starting (us : List Lexeme) : Type 0 where
  pub lexeme : Lexeme
  pub others : List Lexeme
  pub ident : Ident
  pub is : us ≡ lexeme ∷ others
  pub named : IsIdent lexeme ident

pub commas_starting : {X : Type 0} (P : List Lexeme → X → Type 0) → ((us : List Lexeme) (x : X) → P us x → Starting us) → {us : List Lexeme} {xs : List X} → SpellsCommas P us xs → Starting us
commas_starting P f {us = us} (l.one x p all) = f us x p
commas_starting P f (l.more comma is js x ys p marks o parts all) =
    let s = f is x p in record { lexeme = s.lexeme; others = s.others ++ comma ∷ js; ident = s.ident; is = parts ∙ ap (λ z. z ++ comma ∷ js) s.is; named = s.named }

pub name_ahead : {us : List Lexeme} (next : Option Lexeme) → Starting us → NameAhead (front us next)
name_ahead next s = record { lexeme = s.lexeme; ident = s.ident; is = ap (λ z. front z next) s.is; named = s.named }

pub ident_starting : (us : List Lexeme) (x : Ident) → SpellsIdent us x → Starting us
ident_starting us x (l.ident m is parts) = record { lexeme = m; others = []; ident = x; is = parts; named = is }

pub net_starting : (us : List Lexeme) (x : Net) → SpellsNet us x → Starting us
net_starting us x (g.net m vs is o parts) = record { lexeme = m; others = vs; ident = x.name; is = parts; named = is }

pub binding_starting : (us : List Lexeme) (x : Binding) → SpellsBinding us x → Starting us
binding_starting us x (g.binding m vs is o parts) = record { lexeme = m; others = vs; ident = x.name; is = parts; named = is }

pub instance_starting : (us : List Lexeme) (x : Instance) → SpellsInstance us x → Starting us
instance_starting us x (g.instance m left right is called opens o closes parts) = record { lexeme = m; others = left ∷ (is ++ right ∷ []); ident = x.name; is = parts; named = called }

placed_lexeme : (l : Lexeme) (ls : List Lexeme) → l.place ≡ start (l ∷ ls)
unfolding start
placed_lexeme l ls = refl

-- names in a list
nowhere_deep : {X : Type 0} (xs : List X) → deepest_of (λ _. 0) xs ≤ 0
unfolding deepest
nowhere_deep [] = omega arith
nowhere_deep (x ∷ xs) = let rest = nowhere_deep xs in omega arith

pub exact_names : (M : Option Lexeme → Type 0) → ((o : Option Lexeme) → M o → sees (codes ",") o ≡ false)
    → Exact (commas ident) (λ us xs next. SpellsCommas SpellsIdent us xs) (Before M (λ us xs next. SpellsCommas SpellsIdent us xs))
exact_names M no_comma =
    exact_as (exact_list SpellsIdent (λ _. 0) 0 (λ o. Unit {0}) M (λ l is. tt) (λ o m. tt) no_comma (exact_before (exact_ident_fits 0 0 (omega arith))))
    (λ us xs next f. f.spelled) (λ us xs next b. before (fit b.said (nowhere_deep xs)) b.ahead)

abbrev pub Names : Spelling (List Ident)
Names us xs next = SpellsCommas SpellsIdent us xs

abbrev pub Listed : {X : Type 0} → (List Lexeme → X → Type 0) → (X → ℕ) → ℕ → Spelling (List X)
Listed P d room = Fits (SpellsCommas P) (deepest_of d) room

module _ (room : ℕ) (some : 1 ≤ room) where
  exact_nets : Exact (commas (net room)) (Listed SpellsNet depth_of_net room) (Before Finishes (Listed SpellsNet depth_of_net room))
  exact_nets = exact_list SpellsNet depth_of_net room Ends Finishes (λ l is. at_comma l refl is) finishes_end finishes_no_comma (exact_net room some)

  exact_bindings : Exact (commas (binding room)) (Listed SpellsBinding depth_of_binding room) (Before Finishes (Listed SpellsBinding depth_of_binding room))
  exact_bindings = exact_list SpellsBinding depth_of_binding room Ends Finishes (λ l is. at_comma l refl is) finishes_end finishes_no_comma (exact_binding room some)

  exact_assignments : Laws → Exact (commas (assignment room)) (Listed SpellsAssignment depth_of_assignment room) (Before Finishes (Listed SpellsAssignment depth_of_assignment room))
  exact_assignments laws = exact_list SpellsAssignment depth_of_assignment room Ends Finishes (λ l is. at_comma l refl is) finishes_end finishes_no_comma (exact_assignment room some laws)

  exact_gate_list : Exact (commas (gate room)) (Listed SpellsGate depth_of_gate room) (Before Finishes (Listed SpellsGate depth_of_gate room))
  exact_gate_list = exact_list SpellsGate depth_of_gate room (λ o. Unit {0}) Finishes (λ l is. tt) (λ o m. tt) finishes_no_comma (exact_before (exact_gate room some))

  exact_instance_list : Exact (commas (instance room)) (Listed SpellsInstance depth_of_instance room) (Before Finishes (Listed SpellsInstance depth_of_instance room))
  exact_instance_list = exact_list SpellsInstance depth_of_instance room (λ o. Unit {0}) Finishes (λ l is. tt) (λ o m. tt) finishes_no_comma (exact_before (exact_instance room some))

  abbrev pub Decl : Spelling Item
  Decl = Fits SpellsDeclaration depth_of_item room

  abbrev pub Shapely : Spelling Shape
  Shapely = Before NameAhead (Fits SpellsShape depth_of_shape room)

  abbrev pub WiresC : Spelling Item
  WiresC = Declares (codes "wire") (Shapes Shapely (Before Finishes (Listed SpellsNet depth_of_net room))) (λ place x. i.Wires place x.0 x.1)

  pub exact_wires : Exact (wires room) Decl WiresC
  unfolding wires
  exact_wires = exact_as (exact_declared (codes "wire") (λ place x. i.Wires place x.0 x.1) (exact_shaped room exact_nets))
      (λ us x next d.
      let h = d.here in let s = h.here.shallow in let n = h.behind.shallow in let deep = ap depth_of_item d.is ∙ depth-Wires (start us) d.answer.0 d.answer.1 in
      fit (g.wires d.word d.semi h.one h.two d.answer.0 d.answer.1 d.worded h.here.spelled h.behind.spelled d.ends (cc (append_assoc h.one h.two (d.semi ∷ []))) d.is) (omega arith))
      (λ us x next d. d)

  abbrev pub RegistersC : Spelling Item
  RegistersC = Declares (codes "reg") (Shapes Shapely (Before Finishes Names)) (λ place x. i.Registers place x.0 x.1)

  pub exact_registers : Exact (registers room) Decl RegistersC
  unfolding registers
  exact_registers = exact_as (exact_declared (codes "reg") (λ place x. i.Registers place x.0 x.1) (exact_shaped room (exact_names Finishes finishes_no_comma)))
      (λ us x next d.
      let h = d.here in let s = h.here.shallow in let deep = ap depth_of_item d.is ∙ depth-Registers (start us) d.answer.0 d.answer.1 in
      fit (g.registers d.word d.semi h.one h.two d.answer.0 d.answer.1 d.worded h.here.spelled h.behind d.ends (cc (append_assoc h.one h.two (d.semi ∷ []))) d.is) (omega arith))
      (λ us x next d. d)

  abbrev pub IntegersC : Spelling Item
  IntegersC = Declares (codes "integer") (Before Finishes Names) (λ place x. i.Integers place x)

  pub exact_integers : Exact integers Decl IntegersC
  unfolding integers
  exact_integers = exact_as (exact_declared (codes "integer") (λ place x. i.Integers place x) (exact_names Finishes finishes_no_comma))
      (λ us x next d. let deep = ap depth_of_item d.is ∙ depth-Integers (start us) d.answer in fit (g.integers d.word d.semi d.body d.answer d.worded d.here d.ends d.parts d.is) (omega arith))
      (λ us x next d. d)

  abbrev pub GenvarsC : Spelling Item
  GenvarsC = Declares (codes "genvar") (Before Finishes Names) (λ place x. i.Genvars place x)

  pub exact_genvars : Exact genvars Decl GenvarsC
  unfolding genvars
  exact_genvars = exact_as (exact_declared (codes "genvar") (λ place x. i.Genvars place x) (exact_names Finishes finishes_no_comma))
      (λ us x next d. let deep = ap depth_of_item d.is ∙ depth-Genvars (start us) d.answer in fit (g.genvars d.word d.semi d.body d.answer d.worded d.here d.ends d.parts d.is) (omega arith))
      (λ us x next d. d)

  abbrev pub ParametersC : Spelling Item
  ParametersC = Declares (codes "parameter") (Shapes Shapely (Before Finishes (Listed SpellsBinding depth_of_binding room))) (λ place x. i.Parameters place x.0 x.1)

  pub exact_parameters : Exact (parameters room) Decl ParametersC
  unfolding parameters
  exact_parameters = exact_as (exact_declared (codes "parameter") (λ place x. i.Parameters place x.0 x.1) (exact_shaped room exact_bindings))
      (λ us x next d.
      let h = d.here in let s = h.here.shallow in let n = h.behind.shallow in let deep = ap depth_of_item d.is ∙ depth-Parameters (start us) d.answer.0 d.answer.1 in
      fit (g.parameters d.word d.semi h.one h.two d.answer.0 d.answer.1 d.worded h.here.spelled h.behind.spelled d.ends (cc (append_assoc h.one h.two (d.semi ∷ []))) d.is) (omega arith))
      (λ us x next d. d)

  abbrev pub ConstantsC : Spelling Item
  ConstantsC = Declares (codes "localparam") (Shapes Shapely (Before Finishes (Listed SpellsBinding depth_of_binding room))) (λ place x. i.Constants place x.0 x.1)

  pub exact_constants : Exact (constants room) Decl ConstantsC
  unfolding constants
  exact_constants = exact_as (exact_declared (codes "localparam") (λ place x. i.Constants place x.0 x.1) (exact_shaped room exact_bindings))
      (λ us x next d.
      let h = d.here in let s = h.here.shallow in let n = h.behind.shallow in let deep = ap depth_of_item d.is ∙ depth-Constants (start us) d.answer.0 d.answer.1 in
      fit (g.constants d.word d.semi h.one h.two d.answer.0 d.answer.1 d.worded h.here.spelled h.behind.spelled d.ends (cc (append_assoc h.one h.two (d.semi ∷ []))) d.is) (omega arith))
      (λ us x next d. d)

  abbrev pub AssignC : Spelling Item
  AssignC = Declares (codes "assign") (Before Finishes (Listed SpellsAssignment depth_of_assignment room)) (λ place x. i.Assign place x)

  pub exact_assign : Laws → Exact (assign room) Decl AssignC
  unfolding assign
  exact_assign laws = exact_as (exact_declared (codes "assign") (λ place x. i.Assign place x) (exact_assignments laws))
      (λ us x next d. let low = d.here.shallow in let deep = ap depth_of_item d.is ∙ depth-Assign (start us) d.answer in fit (g.assign d.word d.semi d.body d.answer d.worded d.here.spelled d.ends d.parts d.is) (omega arith))
      (λ us x next d. d)

  gate_word : (which : GateKind) (m : Lexeme) → IsWord (word_of_gate which) m → IsGate m which
  unfolding word_of_gate
  gate_word kind.And m is = g.and is refl
  gate_word kind.Nand m is = g.nand is refl
  gate_word kind.Or m is = g.or is refl
  gate_word kind.Nor m is = g.nor is refl
  gate_word kind.Xor m is = g.xor is refl
  gate_word kind.Xnor m is = g.xnor is refl
  gate_word kind.Not m is = g.not is refl
  gate_word kind.Buf m is = g.buf is refl

  abbrev pub GatesC : GateKind → Spelling Item
  GatesC which = Declares (word_of_gate which) (Before Finishes (Listed SpellsGate depth_of_gate room)) (λ place x. i.Gates place which x)

  pub exact_gates : (which : GateKind) → Exact (gates room which) Decl (GatesC which)
  unfolding gates
  exact_gates which = exact_as (exact_declared (word_of_gate which) (λ place x. i.Gates place which x) exact_gate_list)
      (λ us x next d. let low = d.here.shallow in let deep = ap depth_of_item d.is ∙ depth-Gates (start us) which d.answer in fit (g.gates d.word d.semi d.body which d.answer (gate_word which d.word d.worded) d.here.spelled d.ends d.parts d.is) (omega arith))
      (λ us x next d. d)

  abbrev pub PortsC : Spelling Item
  PortsC us x next = Row (Before NotDriven (λ us d next. SpellsDirection us d)) (λ d. Row (Shapes Shapely (Before Finishes Names)) (λ y. Lead (IsMark (codes ";")) (Done (i.Ports (place_if (front us next)) d y.0 y.1)))) us x next

  pub exact_ports : Exact (ports room) Decl PortsC
  unfolding ports
  exact_ports = exact_as (exact_peek place_if (λ place. exact_direction >>= (λ d. exact_shaped room (exact_names Finishes finishes_no_comma) >>= (λ y. exact_mark (codes ";") (exact_pure (i.Ports place d y.0 y.1))))))
      (λ us x next h.
      let a = h.behind in let b = a.behind in let e = b.behind in let s = a.here in let low = s.here.shallow in
      let all : us ≡ h.one ++ (s.one ++ (s.two ++ b.lexeme ∷ [])) = cc (append_assoc s.one s.two (b.lexeme ∷ [])) in
      let at : us ≡ (h.one ++ (s.one ++ s.two)) ++ b.lexeme ∷ [] = cc (append_assoc h.one (s.one ++ s.two) (b.lexeme ∷ [])) in
      let is : x ≡ i.Ports (start us) h.answer a.answer.0 a.answer.1 = e.is ∙ ap (λ z. i.Ports z h.answer a.answer.0 a.answer.1) (placed_at us (h.one ++ (s.one ++ s.two)) b.lexeme [] next at) in
      let deep = ap depth_of_item is ∙ depth-Ports (start us) h.answer a.answer.0 a.answer.1 in
      fit (g.ports b.lexeme h.one s.one s.two h.answer a.answer.0 a.answer.1 h.here s.here.spelled s.behind b.holds all is) (omega arith))
      (λ us x next d. d)

  abbrev pub InstancesC : Spelling Item
  InstancesC = Named (λ called. Row (Before NameAhead (Fits SpellsPassed depth_of_connections room)) (λ given. Row (Before Finishes (Listed SpellsInstance depth_of_instance room)) (λ found. Lead (IsMark (codes ";")) (Done (i.Instances called.place called given found)))))

  pub exact_instances : Exact (instances room) Decl InstancesC
  unfolding instances
  exact_instances = exact_as (exact_ident (λ called. exact_passed room some >>= (λ given. exact_instance_list >>= (λ found. exact_mark (codes ";") (exact_pure (i.Instances called.place called given found))))))
      (λ us x next h.
      let a = h.behind in let b = a.behind in let d = b.behind in let e = d.behind in let one = a.here.shallow in let two = b.here.shallow in
      let is : x ≡ i.Instances (start us) h.answer a.answer b.answer = e.is ∙ ap (λ z. i.Instances z h.answer a.answer b.answer) (h.holds.place ∙ (placed_lexeme h.lexeme h.others ∙ sym (ap start h.is))) in
      let deep = ap depth_of_item is ∙ depth-Instances (start us) h.answer a.answer b.answer in
      fit (g.instances h.lexeme d.lexeme a.one b.one h.answer a.answer b.answer h.holds a.here.spelled b.here.spelled d.holds (cc) is) (omega arith))
      (λ us x next d. d)

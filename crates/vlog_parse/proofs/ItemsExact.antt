-- What the reader of items takes: items no deeper than the number, and all of them.
use Rattle.std.proofs.Common.{◌≡◌, ℕ, zero, suc, ◌≤◌, Bool, true, false, List, [], ◌∷◌, ◌++◌, Option, Some, None, Ok, refl, sym, ap, ◌∙◌, subst, append_assoc, append-nil, arith}
use Rattle.std.specs.Prelude.{codes, nat_le, if◌then◌else◌}
use Rattle.std.proofs.lemmas.Bool.{le-leb}
use Rattle.vlog_tree.specs.declared.port.Shape.{Shape}
use Rattle.vlog_tree.specs.declared.item.Net.{Net}
use Rattle.vlog_tree.specs.declared.item.Binding.{Binding}
use Rattle.vlog_tree.specs.declared.item.Assignment.{Assignment}
use Rattle.vlog_tree.specs.declared.item.Gate.{Gate}
use Rattle.vlog_tree.specs.declared.item.Instance.{Instance}
use Rattle.vlog_tree.specs.declared.item.Item.{Item}
use Rattle.vlog_tree.specs.declared.item.Item.TheVariants as i
use Rattle.vlog_tree.specs.Lexemes.{Lexeme, IsMark, IsWord, start}
use Rattle.vlog_tree.specs.Names.{name_in}
use Rattle.vlog_tree.specs.Reserved.{is_reserved, reserved_with}
use Rattle.vlog_tree.specs.Lists.{SpellsCommas, SpellsIdent}
use Rattle.vlog_tree.specs.Lists as l
use Rattle.vlog_tree.specs.Declarations as g
use Rattle.vlog_tree.specs.Declarations.{SpellsShape, SpellsDeclaration, SpellsNet, SpellsBinding, SpellsAssignment, SpellsGate, SpellsInstance, SpellsValue, IsGate}
use Rattle.vlog_tree.specs.Items as t
use Rattle.vlog_tree.specs.Items.{SpellsItem}
use Rattle.vlog_tree.specs.declared.stmt.Loop.{Loop}
use Rattle.vlog_tree.specs.Depth.{deepest, deepest_of, depth_of_loop, depth_of_shape, depth_of_net, depth_of_binding, depth_of_assignment, depth_of_gate, depth_of_instance, depth_of_item}
use Rattle.vlog_expr.specs.declared.stuck.Stuck.TheVariants.{Wrong, Deep}
use Rattle.vlog_expr.specs.Reading.{Reader, first, stop, place_if, sees_word}
use Rattle.vlog_expr.proofs.SpelledLemmas.{sized, sized_list}
use Rattle.vlog_parse.specs.declared.heads.Head.{Head}
use Rattle.vlog_parse.specs.declared.heads.Head.TheVariants as head
use Rattle.vlog_parse.specs.Parts.{is_name}
use Rattle.vlog_parse.specs.Items.{head_in, declaration_in, construct_in, gate_in, word_of_gate, head_of, is_nothing, item_by, deep_by, item}
use Rattle.vlog_parse.proofs.Exact.{Spelling, front, Exact, exact_as, exact_wrong, exact_peek, lead, row, with, without}
use Rattle.vlog_parse.proofs.Commas.{Fits, Before, fit, before, deepest_one}
use Rattle.vlog_parse.proofs.Looks.{MarkAhead, NameAhead, at_round, placed, name_word, mark_word, other_word}
use Rattle.vlog_parse.proofs.PartsExact.{NotDriven}
use Rattle.vlog_parse.proofs.Given.{Laws}
use Rattle.vlog_parse.proofs.ItemDepths.{block_depth_if, depth-Ports, depth-Wires, depth-Registers, depth-Integers, depth-Genvars, depth-Parameters, depth-Constants, depth-Assign, depth-Always, depth-Gates, depth-Instances, depth-Generate, depth-For, depth-If, depth-Case}
use Rattle.vlog_parse.proofs.ItemBegins.{directed, word_head, ident_head, gate_head, gate_worded}
use Rattle.vlog_parse.proofs.DeclarationsExact.{Shapes, Starting, commas_starting, name_ahead, ident_starting, net_starting, binding_starting, instance_starting, PortsC, WiresC, RegistersC, IntegersC, GenvarsC, ParametersC, ConstantsC, AssignC, GatesC, InstancesC, exact_ports, exact_wires, exact_registers, exact_integers, exact_genvars, exact_parameters, exact_constants, exact_assign, exact_gates, exact_instances}
use Rattle.vlog_parse.proofs.BlocksExact.{Inner, GenerateC, LoopC, exact_generate, exact_for}
use Rattle.vlog_parse.proofs.ChoicesExact.{AlwaysC, ChoiceC, exact_always, exact_choice, block_high}
use Rattle.vlog_parse.proofs.ArmsExact.{CasesC, case_from, cases_deep, exact_cases}

-- what wants room for more, where there is some
exact_where : {A : Type 0} {p : Reader A} {S C : Spelling A} (b : Bool) → ((us : List Lexeme) (a : A) (next : Option Lexeme) → C us a next → b ≡ true) → Exact p S C → Exact (if b then p else stop Deep) S C
exact_where true some e = e
exact_where false some e = record {
  sound = λ ls a rest h. let never = ap (λ o. o.0) h in cc;
  complete = λ us a rest c. let never = some us a (first rest) c in cc;
}

exact_within : {A : Type 0} {p : Reader A} {S C : Spelling A} (room : ℕ) → ((us : List Lexeme) (a : A) (next : Option Lexeme) → C us a next → 1 ≤ room) → Exact p S C → Exact (if nat_le 1 room then p else stop Deep) S C
exact_within room some e = exact_where (nat_le 1 room) (λ us a next c. le-leb 1 room (some us a next c)) e

loop_deep : (h : Loop) → 1 ≤ depth_of_loop h
unfolding depth_of_loop deepest
loop_deep h = omega arith

-- an item is some depth
commas_deep : {X : Type 0} (P : List Lexeme → X → Type 0) (d : X → ℕ) → ((us : List Lexeme) (x : X) → P us x → 1 ≤ d x) → {us : List Lexeme} {xs : List X} → SpellsCommas P us xs → 1 ≤ deepest_of d xs
commas_deep P d f {us = us} (l.one x p all) = let one = f us x p in let deep = ap (deepest_of d) all ∙ deepest_one d x [] in omega arith
commas_deep P d f (l.more comma is js x ys p marks o parts all) = let one = f is x p in let deep = ap (deepest_of d) all ∙ deepest_one d x ys in omega arith

net_deep : (us : List Lexeme) (x : Net) → SpellsNet us x → 1 ≤ depth_of_net x
unfolding depth_of_net
net_deep us x p = omega arith

binding_deep : (us : List Lexeme) (x : Binding) → SpellsBinding us x → 1 ≤ depth_of_binding x
unfolding depth_of_binding
binding_deep us x p = omega arith

assignment_deep : (us : List Lexeme) (x : Assignment) → SpellsAssignment us x → 1 ≤ depth_of_assignment x
unfolding depth_of_assignment
assignment_deep us x (g.assignment ts vs a (g.value equals es is v parts) all) = let s = sized v.spells in let one = s.some in omega arith

gate_deep : (us : List Lexeme) (x : Gate) → SpellsGate us x → 1 ≤ depth_of_gate x
unfolding depth_of_gate
gate_deep us x (g.gate left right ns is n opens ts closes parts at) = let s = sized_list ts.spells in let one = s.some in omega arith

instance_deep : (us : List Lexeme) (x : Instance) → SpellsInstance us x → 1 ≤ depth_of_instance x
unfolding depth_of_instance
instance_deep us x p = omega arith

declaration_deep : (us : List Lexeme) (x : Item) → SpellsDeclaration us x → 1 ≤ depth_of_item x
declaration_deep us x (g.ports semi ds ss ns d shape names p q r ends parts is) = let deep = ap depth_of_item is ∙ depth-Ports (start us) d shape names in omega arith
declaration_deep us x (g.wires word semi ss ns shape nets w p q ends parts is) = let deep = ap depth_of_item is ∙ depth-Wires (start us) shape nets in let some = commas_deep SpellsNet depth_of_net net_deep q in omega arith
declaration_deep us x (g.registers word semi ss ns shape names w p q ends parts is) = let deep = ap depth_of_item is ∙ depth-Registers (start us) shape names in omega arith
declaration_deep us x (g.integers word semi ns names w p ends parts is) = let deep = ap depth_of_item is ∙ depth-Integers (start us) names in omega arith
declaration_deep us x (g.genvars word semi ns names w p ends parts is) = let deep = ap depth_of_item is ∙ depth-Genvars (start us) names in omega arith
declaration_deep us x (g.parameters word semi ss ns shape bs w p q ends parts is) = let deep = ap depth_of_item is ∙ depth-Parameters (start us) shape bs in let some = commas_deep SpellsBinding depth_of_binding binding_deep q in omega arith
declaration_deep us x (g.constants word semi ss ns shape bs w p q ends parts is) = let deep = ap depth_of_item is ∙ depth-Constants (start us) shape bs in let some = commas_deep SpellsBinding depth_of_binding binding_deep q in omega arith
declaration_deep us x (g.assign word semi ns xs w p ends parts is) = let deep = ap depth_of_item is ∙ depth-Assign (start us) xs in let some = commas_deep SpellsAssignment depth_of_assignment assignment_deep p in omega arith
declaration_deep us x (g.gates word semi ns which gs w p ends parts is) = let deep = ap depth_of_item is ∙ depth-Gates (start us) which gs in let some = commas_deep SpellsGate depth_of_gate gate_deep p in omega arith
declaration_deep us x (g.instances word semi ps is called passed found w p q ends parts x-is) = let deep = ap depth_of_item x-is ∙ depth-Instances (start us) called passed found in let some = commas_deep SpellsInstance depth_of_instance instance_deep q in omega arith

pub item_deep : Laws → (open_if : Bool) (us : List Lexeme) (x : Item) → SpellsItem open_if us x → 1 ≤ depth_of_item x
item_deep laws open_if us x (t.declaration d o) = declaration_deep us x d
item_deep laws open_if us x (t.always word at cs ss c s w p q r parts is) = let deep = ap depth_of_item is ∙ depth-Always (start us) c s in let some = laws.stmt_deep open_if ss s r in omega arith
item_deep laws open_if us x (t.generate word end is items w p q o parts x-is) = let deep = ap depth_of_item x-is ∙ depth-Generate (start us) items in omega arith
item_deep laws open_if us x (t.loop word begin end hs ns is header label items w p q r s u o parts x-is) = let deep = ap depth_of_item x-is ∙ depth-For (start us) header label items in omega arith
item_deep laws open_if us x (t.if_alone word left right cs is inner test chosen w p q r s o parts x-is) = let deep = ap depth_of_item x-is ∙ depth-If (start us) test chosen None in omega arith
item_deep laws open_if us x (t.if_else word left right otherwise cs is js test chosen rest w p q r s u v parts x-is) = let deep = ap depth_of_item x-is ∙ depth-If (start us) test chosen (Some rest) in omega arith
item_deep laws open_if us x (t.cases word left right end cs is has selector arms w p q r s u o parts x-is) = let deep = ap depth_of_item x-is ∙ depth-Case (start us) selector arms in omega arith

place_of_lexeme : (l : Lexeme) (ls : List Lexeme) (next : Option Lexeme) → place_if (front (l ∷ ls) next) ≡ l.place
unfolding place_if
place_of_lexeme l ls next = refl

by_declaration : {p : Reader Item} {C : Spelling Item} (room : ℕ) → Exact p (Fits SpellsDeclaration depth_of_item room) C → Exact p (Inner room) C
by_declaration room e = exact_as e (λ us x next d. record { open_if = false; spelled = t.declaration d.spelled refl; shallow = d.shallow; closed = λ o. cc }) (λ us x next d. d)

module _ (laws : Laws) (room : ℕ) (inner : Reader Item) (e : Exact inner (Inner room) (Inner room)) where
  some : 1 ≤ suc room
  some = omega arith

  -- an item that begins so, as it is to be read
  Headed : Head → Spelling Item
  Headed head.Ports = PortsC (suc room) some
  Headed head.Wires = WiresC (suc room) some
  Headed head.Registers = RegistersC (suc room) some
  Headed head.Integers = IntegersC (suc room) some
  Headed head.Genvars = GenvarsC (suc room) some
  Headed head.Parameters = ParametersC (suc room) some
  Headed head.Constants = ConstantsC (suc room) some
  Headed head.Assign = AssignC (suc room) some
  Headed (head.Gates which) = GatesC (suc room) some which
  Headed head.Instances = InstancesC (suc room) some
  Headed head.Always = AlwaysC (suc room)
  Headed head.Generate = GenerateC room inner e
  Headed head.For = LoopC room inner e
  Headed head.If = ChoiceC room inner e
  Headed head.Case = CasesC room inner e
  Headed head.Nothing = λ us x next. ⊥

  -- what stands between the brackets is some depth
  for_deep : (us : List Lexeme) (x : Item) (next : Option Lexeme) → LoopC room inner e us x next → 1 ≤ room
  for_deep us x next c = let r = c.behind in let low = r.here.shallow in let some = loop_deep r.answer in omega arith

  choice_deep : (us : List Lexeme) (x : Item) (next : Option Lexeme) → ChoiceC room inner e us x next → 1 ≤ room
  choice_deep us x next c = let a = c.behind in let r = a.behind in let f = r.here.said in let low = f.shallow in let s = sized f.spelled.spells in let one = s.some in omega arith

  exact_headed : (h : Head) → Exact (item_by room inner (suc room) h) (Inner (suc room)) (Headed h)
  unfolding item_by Headed
  exact_headed head.Ports = by_declaration (suc room) (exact_ports (suc room) some)
  exact_headed head.Wires = by_declaration (suc room) (exact_wires (suc room) some)
  exact_headed head.Registers = by_declaration (suc room) (exact_registers (suc room) some)
  exact_headed head.Integers = by_declaration (suc room) (exact_integers (suc room) some)
  exact_headed head.Genvars = by_declaration (suc room) (exact_genvars (suc room) some)
  exact_headed head.Parameters = by_declaration (suc room) (exact_parameters (suc room) some)
  exact_headed head.Constants = by_declaration (suc room) (exact_constants (suc room) some)
  exact_headed head.Assign = by_declaration (suc room) (exact_assign (suc room) some laws)
  exact_headed (head.Gates which) = by_declaration (suc room) (exact_gates (suc room) some which)
  exact_headed head.Instances = by_declaration (suc room) (exact_instances (suc room) some)
  exact_headed head.Always = exact_always laws (suc room)
  exact_headed head.Generate = exact_generate room inner e
  exact_headed head.For = exact_within room for_deep (exact_for room inner e laws)
  exact_headed head.If = exact_within room choice_deep (exact_choice room inner e)
  exact_headed head.Case = exact_within room (cases_deep room inner e) (exact_cases room inner e)
  exact_headed head.Nothing = exact_as exact_wrong (λ us x next never. absurd never) (λ us x next never. never)

  known_head : (h : Head) (us : List Lexeme) (x : Item) (next : Option Lexeme) → head_of (front us next) ≡ h → Headed h us x next → Headed (head_of (front us next)) us x next
  known_head h us x next is s = subst (λ z. Headed z us x next) (sym is) s

  head_at : (w : List ℕ) (us : List Lexeme) (l : Lexeme) (ls : List Lexeme) (next : Option Lexeme) → us ≡ l ∷ ls → IsWord w l → head_of (front us next) ≡ head_in w
  head_at w us l ls next parts is = ap (λ z. head_of (front z next)) parts ∙ word_head w l is

  finish : (semi : Lexeme) → IsMark (codes ";") semi → MarkAhead (codes ";") (Some semi)
  finish semi is = record { lexeme = semi; is = refl; marks = is }

  shaping : {A : Type 0} {D : Spelling A} (ss ns : List Lexeme) (shape : Shape) (x : A) (next : Option Lexeme) → SpellsShape ss shape → depth_of_shape shape ≤ suc room → Starting ns → D ns x next
      → Shapes (Before NameAhead (Fits SpellsShape depth_of_shape (suc room))) D (ss ++ ns) (shape, x) next
  shaping ss ns shape x next s low starts d = record { one = ss; two = ns; is = refl; here = before (fit s low) (name_ahead next starts); behind = d }

  whole : (us ss ns : List Lexeme) (word semi : Lexeme) → us ≡ word ∷ (ss ++ (ns ++ semi ∷ [])) → us ≡ word ∷ ((ss ++ ns) ++ semi ∷ [])
  whole us ss ns word semi parts = parts ∙ ap (λ z. word ∷ z) (sym (append_assoc ss ns (semi ∷ [])))

  more_behind : {us : List Lexeme} (vs : List Lexeme) → Starting us → Starting (us ++ vs)
  more_behind vs s = record { lexeme = s.lexeme; others = s.others ++ vs; ident = s.ident; is = ap (λ z. z ++ vs) s.is; named = s.named }

  name_not_driven : (o : Option Lexeme) → NameAhead o → NotDriven o
  unfolding is_reserved reserved_with
  name_not_driven o n = (ap (sees_word (codes "wire")) n.is ∙ name_word n.lexeme n.ident 119 (codes "ire") n.named refl refl, ap (sees_word (codes "reg")) n.is ∙ name_word n.lexeme n.ident 114 (codes "eg") n.named refl refl)

  not_driven : (ss vs : List Lexeme) (shape : Shape) (next : Option Lexeme) → SpellsShape ss shape → NameAhead (front vs next) → NotDriven (front (ss ++ vs) next)
  not_driven ss vs shape next (g.shape is js (g.signed s word parts b) o all) n =
      let here : ss ++ vs ≡ s ∷ (js ++ vs) = ap (λ z. z ++ vs) (all ∙ ap (λ z. z ++ js) parts) in
      (ap (λ z. sees_word (codes "wire") (front z next)) here ∙ other_word (codes "signed") (codes "wire") s word refl, ap (λ z. sees_word (codes "reg") (front z next)) here ∙ other_word (codes "signed") (codes "reg") s word refl)
  not_driven ss vs shape next (g.shape is js (g.unsigned nil b) (l.present r (g.range left colon right xs ys opens one colons two closes parts) o-is) all) n =
      let here : ss ++ vs ≡ left ∷ ((xs ++ colon ∷ (ys ++ right ∷ [])) ++ vs) = ap (λ z. z ++ vs) (all ∙ (ap (λ z. z ++ js) nil ∙ parts)) in
      (ap (λ z. sees_word (codes "wire") (front z next)) here ∙ mark_word 91 [] 119 (codes "ire") left opens, ap (λ z. sees_word (codes "reg") (front z next)) here ∙ mark_word 91 [] 114 (codes "eg") left opens)
  not_driven ss vs shape next (g.shape is js (g.unsigned nil b) (l.absent none o-is) all) n =
      let here : ss ++ vs ≡ vs = ap (λ z. z ++ vs) (all ∙ (ap (λ z. z ++ js) nil ∙ none)) in
      subst (λ z. NotDriven (front z next)) (sym here) (name_not_driven (front vs next) n)

  declaration_from : (us : List Lexeme) (x : Item) (next : Option Lexeme) → SpellsDeclaration us x → depth_of_item x ≤ suc room → Headed (head_of (front us next)) us x next
  unfolding Headed head_in declaration_in construct_in gate_in is_name name_in is_reserved reserved_with
  declaration_from us x next (g.ports semi ds ss ns d shape names p q r ends parts is) low =
      let deep = ap depth_of_item is ∙ depth-Ports (start us) d shape names in
      let s = directed ds d p in let starts = commas_starting SpellsIdent ident_starting r in
      let here : us ≡ s.lexeme ∷ (s.others ++ (ss ++ (ns ++ semi ∷ []))) = parts ∙ ap (λ z. z ++ (ss ++ (ns ++ semi ∷ []))) s.is in
      known_head head.Ports us x next (ap (λ z. head_of (front z next)) here ∙ s.head)
      (record {
        one = ds;
        two = ss ++ (ns ++ semi ∷ []);
        answer = d;
        is = parts;
        here = before p (not_driven ss (ns ++ semi ∷ []) shape next q (name_ahead next (more_behind (semi ∷ []) starts)));
        behind = record {
          one = ss ++ ns;
          two = semi ∷ [];
          answer = (shape, names);
          is = sym (append_assoc ss ns (semi ∷ []));
          here = shaping ss ns shape names (Some semi) q (omega arith) starts (before r (finish semi ends));
          behind = lead ends (record { none = refl; is = is ∙ ap (λ z. i.Ports z d shape names) (sym (placed us s.lexeme (s.others ++ (ss ++ (ns ++ semi ∷ []))) next here)) });
        };
      })
  declaration_from us x next (g.wires word semi ss ns shape nets w p q ends parts is) low =
      let deep = ap depth_of_item is ∙ depth-Wires (start us) shape nets in
      known_head head.Wires us x next (head_at (codes "wire") us word (ss ++ (ns ++ semi ∷ [])) next parts w)
      (record { word = word; semi = semi; body = ss ++ ns; answer = (shape, nets); worded = w; here = shaping ss ns shape nets (Some semi) p (omega arith) (commas_starting SpellsNet net_starting q) (before (fit q (omega arith)) (finish semi ends)); ends = ends; parts = whole us ss ns word semi parts; is = is })
  declaration_from us x next (g.registers word semi ss ns shape names w p q ends parts is) low =
      let deep = ap depth_of_item is ∙ depth-Registers (start us) shape names in
      known_head head.Registers us x next (head_at (codes "reg") us word (ss ++ (ns ++ semi ∷ [])) next parts w)
      (record { word = word; semi = semi; body = ss ++ ns; answer = (shape, names); worded = w; here = shaping ss ns shape names (Some semi) p (omega arith) (commas_starting SpellsIdent ident_starting q) (before q (finish semi ends)); ends = ends; parts = whole us ss ns word semi parts; is = is })
  declaration_from us x next (g.integers word semi ns names w p ends parts is) low =
      known_head head.Integers us x next (head_at (codes "integer") us word (ns ++ semi ∷ []) next parts w)
      (record { word = word; semi = semi; body = ns; answer = names; worded = w; here = before p (finish semi ends); ends = ends; parts = parts; is = is })
  declaration_from us x next (g.genvars word semi ns names w p ends parts is) low =
      known_head head.Genvars us x next (head_at (codes "genvar") us word (ns ++ semi ∷ []) next parts w)
      (record { word = word; semi = semi; body = ns; answer = names; worded = w; here = before p (finish semi ends); ends = ends; parts = parts; is = is })
  declaration_from us x next (g.parameters word semi ss ns shape bs w p q ends parts is) low =
      let deep = ap depth_of_item is ∙ depth-Parameters (start us) shape bs in
      known_head head.Parameters us x next (head_at (codes "parameter") us word (ss ++ (ns ++ semi ∷ [])) next parts w)
      (record { word = word; semi = semi; body = ss ++ ns; answer = (shape, bs); worded = w; here = shaping ss ns shape bs (Some semi) p (omega arith) (commas_starting SpellsBinding binding_starting q) (before (fit q (omega arith)) (finish semi ends)); ends = ends; parts = whole us ss ns word semi parts; is = is })
  declaration_from us x next (g.constants word semi ss ns shape bs w p q ends parts is) low =
      let deep = ap depth_of_item is ∙ depth-Constants (start us) shape bs in
      known_head head.Constants us x next (head_at (codes "localparam") us word (ss ++ (ns ++ semi ∷ [])) next parts w)
      (record { word = word; semi = semi; body = ss ++ ns; answer = (shape, bs); worded = w; here = shaping ss ns shape bs (Some semi) p (omega arith) (commas_starting SpellsBinding binding_starting q) (before (fit q (omega arith)) (finish semi ends)); ends = ends; parts = whole us ss ns word semi parts; is = is })
  declaration_from us x next (g.assign word semi ns xs w p ends parts is) low =
      let deep = ap depth_of_item is ∙ depth-Assign (start us) xs in
      known_head head.Assign us x next (head_at (codes "assign") us word (ns ++ semi ∷ []) next parts w)
      (record { word = word; semi = semi; body = ns; answer = xs; worded = w; here = before (fit p (omega arith)) (finish semi ends); ends = ends; parts = parts; is = is })
  declaration_from us x next (g.gates word semi ns which gs w p ends parts is) low =
      let deep = ap depth_of_item is ∙ depth-Gates (start us) which gs in
      known_head (head.Gates which) us x next (head_at (word_of_gate which) us word (ns ++ semi ∷ []) next parts (gate_worded word which w) ∙ gate_head which)
      (record { word = word; semi = semi; body = ns; answer = gs; worded = gate_worded word which w; here = before (fit p (omega arith)) (finish semi ends); ends = ends; parts = parts; is = is })
  declaration_from us x next (g.instances word semi ps is called passed found w p q ends parts x-is) low =
      let deep = ap depth_of_item x-is ∙ depth-Instances (start us) called passed found in
      let starts = commas_starting SpellsInstance instance_starting q in
      let at : start us ≡ called.place = sym (placed us word (ps ++ (is ++ semi ∷ [])) next parts) ∙ (ap (λ z. place_if (front z next)) parts ∙ (place_of_lexeme word (ps ++ (is ++ semi ∷ [])) next ∙ sym w.place)) in
      known_head head.Instances us x next (ap (λ z. head_of (front z next)) parts ∙ ident_head word called w)
      (record {
        lexeme = word;
        others = ps ++ (is ++ semi ∷ []);
        answer = called;
        is = parts;
        holds = w;
        behind = row ps (is ++ semi ∷ []) passed (before (fit p (omega arith)) (name_ahead next (more_behind (semi ∷ []) starts)))
            (row is (semi ∷ []) found (before (fit q (omega arith)) (finish semi ends)) (lead ends (record { none = refl; is = x-is ∙ ap (λ z. i.Instances z called passed found) at })));
      })

  item_from : (us : List Lexeme) (x : Item) (next : Option Lexeme) (open_if : Bool) → SpellsItem open_if us x → depth_of_item x ≤ suc room → (open_if ≡ true → sees_word (codes "else") next ≡ false) → Headed (head_of (front us next)) us x next
  unfolding Headed head_in declaration_in construct_in gate_in is_name name_in is_reserved reserved_with sees_word block_depth_if
  item_from us x next open_if (t.declaration d o) low closed = declaration_from us x next d low
  item_from us x next open_if (t.always word at cs ss c s w p q r parts is) low closed =
      let deep = ap depth_of_item is ∙ depth-Always (start us) c s in
      known_head head.Always us x next (head_at (codes "always") us word (at ∷ (cs ++ ss)) next parts w)
      (record {
        lexeme = word;
        others = at ∷ (cs ++ ss);
        is = parts;
        holds = w;
        behind = lead p (row cs ss c (fit q (omega arith))
            (record {
              one = ss;
              two = [];
              answer = s;
              is = sym (append-nil ss);
              here = record { open_if = open_if; spelled = r; shallow = omega arith; closed = closed };
              behind = record { none = refl; is = is ∙ ap (λ z. i.Always z c s) (sym (placed us word (at ∷ (cs ++ ss)) next parts)) };
            }));
      })
  item_from us x next open_if (t.generate word end is items w p q o parts x-is) low closed =
      let deep = ap depth_of_item x-is ∙ depth-Generate (start us) items in
      known_head head.Generate us x next (head_at (codes "generate") us word (is ++ end ∷ []) next parts w)
      (record {
        lexeme = word;
        others = is ++ end ∷ [];
        is = parts;
        holds = w;
        behind = record {
          one = is ++ end ∷ [];
          two = [];
          answer = items;
          is = sym (append-nil (is ++ end ∷ []));
          here = record { inside = is; end = end; parts = refl; spelled = p; ends = q; shallow = omega arith };
          behind = record { none = refl; is = x-is ∙ ap (λ z. i.Generate z items) (sym (placed us word (is ++ end ∷ []) next parts)) };
        };
      })
  item_from us x next open_if (t.loop word begin end hs ns is header label items w p q r s u o parts x-is) low closed =
      let deep = ap depth_of_item x-is ∙ depth-For (start us) header label items in
      let tail = hs ++ begin ∷ (ns ++ (is ++ end ∷ [])) in
      known_head head.For us x next (head_at (codes "for") us word tail next parts w)
      (record {
        lexeme = word;
        others = tail;
        is = parts;
        holds = w;
        behind = row hs (begin ∷ (ns ++ (is ++ end ∷ []))) header (fit p (omega arith)) (lead q (row ns (is ++ end ∷ []) label (fit r (omega arith))
            (record {
              one = is ++ end ∷ [];
              two = [];
              answer = items;
              is = sym (append-nil (is ++ end ∷ []));
              here = record { inside = is; end = end; parts = refl; spelled = s; ends = u; shallow = omega arith };
              behind = record { none = refl; is = x-is ∙ ap (λ z. i.For z header label items) (sym (placed us word tail next parts)) };
            })));
      })
  item_from us x next open_if (t.if_alone word left right cs is inside test chosen w p q r s o parts x-is) low closed =
      let deep = ap depth_of_item x-is ∙ depth-If (start us) test chosen None in
      let tail = left ∷ (cs ++ right ∷ is) in
      let high = block_high chosen room (omega arith) in
      known_head head.If us x next (head_at (codes "if") us word tail next parts w)
      (record {
        lexeme = word;
        others = tail;
        is = parts;
        holds = w;
        behind = lead p (row cs (right ∷ is) test (before (fit q (omega arith)) (at_round right refl r)) (lead r
            (record {
              one = is;
              two = [];
              answer = chosen;
              is = sym (append-nil is);
              here = record { open_if = inside; spelled = s; shallow = high; closed = λ h. closed o };
              behind = record { one = []; two = []; answer = None; is = refl; here = without refl refl (closed o); behind = record { none = refl; is = x-is ∙ ap (λ z. i.If z test chosen None) (sym (placed us word tail next parts)) } };
            })));
      })
  item_from us x next open_if (t.if_else word left right otherwise cs is js test chosen rest w p q r s u v parts x-is) low closed =
      let deep = ap depth_of_item x-is ∙ depth-If (start us) test chosen (Some rest) in
      let tail = left ∷ (cs ++ right ∷ (is ++ otherwise ∷ js)) in
      let high = block_high chosen room (omega arith) in let deeper = block_high rest room (omega arith) in
      known_head head.If us x next (head_at (codes "if") us word tail next parts w)
      (record {
        lexeme = word;
        others = tail;
        is = parts;
        holds = w;
        behind = lead p (row cs (right ∷ (is ++ otherwise ∷ js)) test (before (fit q (omega arith)) (at_round right refl r)) (lead r
            (row is (otherwise ∷ js) chosen (record { open_if = false; spelled = s; shallow = high; closed = λ h. cc })
            (record {
              one = otherwise ∷ js;
              two = [];
              answer = Some rest;
              is = sym (append-nil (otherwise ∷ js));
              here = with rest u (record { lexeme = otherwise; others = js; is = refl; holds = u; behind = record { open_if = open_if; spelled = v; shallow = deeper; closed = closed } }) refl;
              behind = record { none = refl; is = x-is ∙ ap (λ z. i.If z test chosen (Some rest)) (sym (placed us word tail next parts)) };
            }))));
      })
  item_from us x next open_if (t.cases word left right end cs is has selector arms w p q r s u o parts x-is) low closed =
      known_head head.Case us x next (head_at (codes "case") us word (left ∷ (cs ++ right ∷ (is ++ end ∷ []))) next parts w)
      (case_from room inner e us x next word left right end cs is has selector arms w p q r s u parts x-is low)

  exact_whole : Exact (λ ls. item_by room inner (suc room) (head_of (first ls)) ls) (Inner (suc room)) (Inner (suc room))
  exact_whole = exact_as (exact_peek head_of exact_headed) (λ us x next s. s) (λ us x next s. item_from us x next s.open_if s.spelled s.shallow s.closed)

no_answer : (b : Bool) (ls : List Lexeme) (x : Item) (rest : List Lexeme) → (if b then stop Wrong else stop Deep) ls ≡ (Ok x, rest) → ⊥
no_answer true ls x rest h = let never = ap (λ o. o.0) h in cc
no_answer false ls x rest h = let never = ap (λ o. o.0) h in cc

exact_deep : Exact (item zero) (λ us x next. ⊥) (λ us x next. ⊥)
unfolding item deep_by
exact_deep = record {
  sound = λ ls x rest h. absurd (no_answer (is_nothing (head_of (first ls))) ls x rest h);
  complete = λ us x rest never. absurd never;
}

-- items no deeper than the number
pub exact_item : Laws → (room : ℕ) → Exact (item room) (Inner room) (Inner room)
unfolding item
exact_item laws zero = exact_as exact_deep (λ us x next never. absurd never) (λ us x next s. let some = item_deep laws s.open_if us x s.spelled in let low = s.shallow in omega arith)
exact_item laws (suc room) = let built = exact_whole laws room (item room) (exact_item laws room) in built

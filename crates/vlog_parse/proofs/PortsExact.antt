-- What the readers of a head's ports and of a module take.
use Rattle.std.proofs.Common.{◌≡◌, ℕ, ◌≤◌, max, true, false, inl, inr, List, [], ◌∷◌, ◌++◌, Option, Some, refl, sym, ap, ◌∙◌, subst, append-nil, arith}
use Rattle.std.specs.Prelude.{codes}
use Rattle.rdc_outside.specs.declared.source.Place.{Place}
use Rattle.vlog_tree.specs.declared.ident.Ident.{Ident}
use Rattle.vlog_tree.specs.declared.port.Direction.{Direction}
use Rattle.vlog_tree.specs.declared.port.Shape.{Shape}
use Rattle.vlog_tree.specs.declared.port.Port.{Port}
use Rattle.vlog_tree.specs.declared.port.Port.TheVariants as port_as
use Rattle.vlog_tree.specs.declared.module.Module.{Module}
use Rattle.vlog_tree.specs.Lexemes.{Lexeme, IsMark}
use Rattle.vlog_tree.specs.Names.{IsIdent, name_in}
use Rattle.vlog_tree.specs.Reserved.{is_reserved, reserved_with}
use Rattle.vlog_tree.specs.Lists.{SpellsCommas, SpellsIdent}
use Rattle.vlog_tree.specs.Lists as l
use Rattle.vlog_tree.specs.Declarations as g
use Rattle.vlog_tree.specs.Declarations.{SpellsShape, SpellsDirection}
use Rattle.vlog_tree.specs.Items.{SpellsItems}
use Rattle.vlog_tree.specs.Modules as t
use Rattle.vlog_tree.specs.Modules.{SpellsName, SpellsAnsi, SpellsPort, ArePorts, SpellsPorts, SpellsParameters, SpellsModule}
use Rattle.vlog_tree.specs.Depth.{deepest, deepest_of, depth_of_shape, depth_of_parameter, depth_of_port, depth_of_item, depth_of_module}
use Rattle.vlog_expr.specs.Reading.{place_if, sees, sees_word}
use Rattle.vlog_parse.specs.Lists.{others}
use Rattle.vlog_parse.specs.Parts.{shape, names, is_name}
use Rattle.vlog_parse.specs.Items.{item, head_in, declaration_in, construct_in, gate_in}
use Rattle.vlog_parse.specs.Modules.{bare, ansi, port, ansi_list, port_list, some_ports, ports_there, ports, module_of}
use Rattle.vlog_parse.proofs.Exact.{Spelling, front, Exact, exact_as, Row, ◌>>=◌, Done, exact_pure, Lead, exact_mark, exact_word, exact_ident, exact_peek, Either, exact_if, lead, call, row, done, of_parts, exact_said}
use Rattle.vlog_parse.proofs.Commas.{Fits, Before, fit, before, exact_list, exact_before, Tail, no_tail, tail, exact_tail, deepest_one, deepest_none}
use Rattle.vlog_parse.proofs.Looks.{NameAhead, Closes, closes_no_comma, placed, name_word, name_mark, other_word, other_mark, word_mark, word_name, ident_name}
use Rattle.vlog_parse.proofs.PartsExact.{NotDriven, exact_shape, exact_direction}
use Rattle.vlog_parse.proofs.Given.{Laws}
use Rattle.vlog_parse.proofs.BlocksExact.{exact_items, Apart}
use Rattle.vlog_parse.proofs.ItemsExact.{exact_item}
use Rattle.vlog_parse.proofs.ModulesExact.{shape_front, exact_parameters}

-- a direction is no name, and no bracket
record Word (us : List Lexeme) : Type 0 where
  lexeme : Lexeme
  others : List Lexeme
  is : us ≡ lexeme ∷ others
  no_name : names (Some lexeme) ≡ false
  no_close : sees (codes ")") (Some lexeme) ≡ false

direction_word : (us : List Lexeme) (d : Direction) → SpellsDirection us d → Word us
unfolding is_name name_in is_reserved reserved_with
direction_word us d (g.input m is parts same) = record { lexeme = m; others = []; is = parts; no_name = word_name 105 (codes "nput") m is refl; no_close = word_mark 105 (codes "nput") 41 [] m is }
direction_word us d (g.input_wire m n is wired parts same) = record { lexeme = m; others = n ∷ []; is = parts; no_name = word_name 105 (codes "nput") m is refl; no_close = word_mark 105 (codes "nput") 41 [] m is }
direction_word us d (g.output m is parts same) = record { lexeme = m; others = []; is = parts; no_name = word_name 111 (codes "utput") m is refl; no_close = word_mark 111 (codes "utput") 41 [] m is }
direction_word us d (g.output_wire m n is wired parts same) = record { lexeme = m; others = n ∷ []; is = parts; no_name = word_name 111 (codes "utput") m is refl; no_close = word_mark 111 (codes "utput") 41 [] m is }
direction_word us d (g.output_reg m n is held parts same) = record { lexeme = m; others = n ∷ []; is = parts; no_name = word_name 111 (codes "utput") m is refl; no_close = word_mark 111 (codes "utput") 41 [] m is }

ansi_word : (us : List Lexeme) (p : Port) → SpellsAnsi us p → Word us
ansi_word us p (t.ansi m ds ss d shape i dir s is parts same) =
    let w = direction_word ds d dir in record { lexeme = w.lexeme; others = w.others ++ (ss ++ m ∷ []); is = parts ∙ ap (λ z. z ++ (ss ++ m ∷ [])) w.is; no_name = w.no_name; no_close = w.no_close }

name_not_driven : (o : Option Lexeme) → NameAhead o → NotDriven o
unfolding is_reserved reserved_with
name_not_driven o n = (ap (sees_word (codes "wire")) n.is ∙ name_word n.lexeme n.ident 119 (codes "ire") n.named refl refl, ap (sees_word (codes "reg")) n.is ∙ name_word n.lexeme n.ident 114 (codes "eg") n.named refl refl)

not_driven_by : (ss vs : List Lexeme) (s : Shape) (next : Option Lexeme) → SpellsShape ss s → NameAhead (front vs next) → NotDriven (front (ss ++ vs) next)
not_driven_by ss vs s next shaped n =
    let d = name_not_driven (front vs next) n in
    (shape_front 119 (codes "ire") ss vs s next shaped d.0 (λ m is. other_word (codes "signed") (codes "wire") m is refl), shape_front 114 (codes "eg") ss vs s next shaped d.1 (λ m is. other_word (codes "signed") (codes "reg") m is refl))

module _ (room : ℕ) (some : 1 ≤ room) where
  named_depth : (i : Ident) → depth_of_port (port_as.Named i) ≡ 1
  unfolding depth_of_port
  named_depth i = refl

  declared_depth : (d : Direction) (s : Shape) (i : Ident) → depth_of_port (port_as.Declared d s i) ≡ max (depth_of_shape s) 1
  unfolding depth_of_port
  declared_depth d s i = refl

  exact_bare : Exact bare (Fits SpellsName depth_of_port room) (Fits SpellsName depth_of_port room)
  unfolding bare
  exact_bare = exact_said (exact_ident (λ i. exact_pure (port_as.Named i)))
      (λ us p next h. let d = h.behind in let deep = ap depth_of_port d.is ∙ named_depth h.answer in fit (t.name h.answer (l.ident h.lexeme h.holds (cc)) d.is) (omega arith))
      (λ us p next f. elim f.spelled [ t.name i s is ↦ elim s [ l.ident m named parts ↦ of_parts parts (call i named (record { none = refl; is = is })) ] ])

  exact_ansi : Exact (ansi room) (Fits SpellsAnsi depth_of_port room) (Fits SpellsAnsi depth_of_port room)
  unfolding ansi
  exact_ansi = exact_said (exact_direction >>= (λ d. exact_shape room >>= (λ s. exact_ident (λ i. exact_pure (port_as.Declared d s i)))))
      (λ us p next h.
      let a = h.behind in let b = a.behind in let d = b.behind in let low = a.here.shallow in
      let deep = ap depth_of_port d.is ∙ declared_depth h.answer a.answer b.answer in
      fit (t.ansi b.lexeme h.one a.one h.answer a.answer b.answer h.here a.here.spelled b.holds (cc) d.is) (omega arith))
      (λ us p next f. let low = f.shallow in elim f.spelled [
        | t.ansi m ds ss d s i dir shaped named parts is ↦
            let deep = ap depth_of_port is ∙ declared_depth d s i in
            let ahead : NameAhead (Some m) = record { lexeme = m; ident = i; is = refl; named = named } in
            of_parts parts (row ds (ss ++ m ∷ []) d (before dir (not_driven_by ss (m ∷ []) s next shaped ahead)) (row ss (m ∷ []) s (before (fit shaped (omega arith)) ahead) (call i named (record { none = refl; is = is }))))
      ])

  port_to : (us : List Lexeme) (p : Port) (next : Option Lexeme) → Either (names (front us next)) (Fits SpellsName depth_of_port room) (Fits SpellsAnsi depth_of_port room) us p next → Fits SpellsPort depth_of_port room us p next
  port_to us p next (inl (seen, s)) = fit (t.name s.spelled) s.shallow
  port_to us p next (inr (unseen, s)) = fit (t.ansi s.spelled) s.shallow

  name_front : (us : List Lexeme) (p : Port) (next : Option Lexeme) → SpellsName us p → names (front us next) ≡ true
  name_front us p next (t.name i (l.ident m named parts) is) = ap (λ z. names (front z next)) parts ∙ ident_name m i named

  port_from : (us : List Lexeme) (p : Port) (next : Option Lexeme) → SpellsPort us p → depth_of_port p ≤ room → Either (names (front us next)) (Fits SpellsName depth_of_port room) (Fits SpellsAnsi depth_of_port room) us p next
  port_from us p next (t.name s) low = inl (name_front us p next s, fit s low)
  port_from us p next (t.ansi s) low = let w = ansi_word us p s in inr (ap (λ z. names (front z next)) w.is ∙ w.no_name, fit s low)

  exact_port : Exact (port room) (Fits SpellsPort depth_of_port room) (Fits SpellsPort depth_of_port room)
  unfolding port
  exact_port = exact_as (exact_peek names (λ called. exact_if called exact_bare exact_ansi)) port_to (λ us p next f. port_from us p next f.spelled f.shallow)

  Rest : Spelling (List Port)
  Rest = Tail SpellsPort depth_of_port room

  exact_rest : Exact (others (port room)) Rest (Before Closes Rest)
  unfolding Rest
  exact_rest = exact_tail SpellsPort depth_of_port room (λ o. Unit {0}) Closes (λ l is. tt) (λ o m. tt) closes_no_comma (exact_before exact_port)

  abbrev Names : Spelling (List Port)
  Names = Fits (SpellsCommas SpellsName) (deepest_of depth_of_port) room

  abbrev Ports : Spelling (List Port)
  Ports = Fits ArePorts (deepest_of depth_of_port) room

  ports_by : (us vs ys : List Lexeme) (ps qs : List Port) (p : Port) (next : Option Lexeme) → SpellsAnsi vs p → depth_of_port p ≤ room → Rest ys qs next → us ≡ vs ++ ys → ps ≡ p ∷ qs → Ports us ps next
  unfolding Rest
  ports_by us vs ys ps qs p next s low (no_tail nil none) parts all =
      let deep = ap (deepest_of depth_of_port) (all ∙ ap (λ z. p ∷ z) none) ∙ deepest_one depth_of_port p [] in let zero-deep = deepest_none depth_of_port in
      fit (t.one p (subst (λ z. SpellsAnsi z p) (sym (parts ∙ (ap (λ z. vs ++ z) nil ∙ append-nil vs))) s) (all ∙ ap (λ z. p ∷ z) none)) (omega arith)
  ports_by us vs ys ps qs p next s low (tail comma js at marks o rest) parts all =
      let deep = ap (deepest_of depth_of_port) all ∙ deepest_one depth_of_port p qs in
      fit (t.more comma vs js p qs s marks o (parts ∙ ap (λ z. vs ++ z) at) all) (omega arith)

  list_to : (us : List Lexeme) (ps : List Port) (next : Option Lexeme)
      → Either (names (front us next)) Names (Row (Fits SpellsAnsi depth_of_port room) (λ p. Row Rest (λ qs. Done (p ∷ qs)))) us ps next → Ports us ps next
  list_to us ps next (inl (seen, s)) = fit (t.names s.spelled) s.shallow
  list_to us ps next (inr (unseen, h)) =
      let b = h.behind in let d = b.behind in
      let same : b.one ≡ h.two = cc (append-nil b.one) in
      ports_by us h.one h.two ps b.answer h.answer next h.here.spelled h.here.shallow (subst (λ z. Rest z b.answer next) same (subst (λ z. Rest b.one b.answer (front z next)) d.none b.here)) h.is d.is

  names_front : (us : List Lexeme) (ps : List Port) (next : Option Lexeme) → SpellsCommas SpellsName us ps → names (front us next) ≡ true
  names_front us ps next (l.one p s all) = name_front us p next s
  names_front us ps next (l.more comma is js p qs s marks o parts all) = by s
    where
      by : SpellsName is p → names (front us next) ≡ true
      by (t.name i (l.ident m named at) same) = ap (λ z. names (front z next)) (parts ∙ ap (λ z. z ++ comma ∷ js) at) ∙ ident_name m i named

  list_from : (us : List Lexeme) (ps : List Port) (next : Option Lexeme) → ArePorts us ps → deepest_of depth_of_port ps ≤ room → Closes next
      → Either (names (front us next)) (Before Closes Names) (Row (Fits SpellsAnsi depth_of_port room) (λ p. Row (Before Closes Rest) (λ qs. Done (p ∷ qs)))) us ps next
  unfolding Rest
  list_from us ps next (t.names s) low closes = inl (names_front us ps next s, before (fit s low) closes)
  list_from us ps next (t.one p s all) low closes =
      let deep = ap (deepest_of depth_of_port) all ∙ deepest_one depth_of_port p [] in let w = ansi_word us p s in
      inr (
        ap (λ z. names (front z next)) w.is ∙ w.no_name,
        record {
          one = us;
          two = [];
          answer = p;
          is = sym (append-nil us);
          here = fit s (omega arith);
          behind = record { one = []; two = []; answer = []; is = refl; here = before (no_tail refl refl) closes; behind = record { none = refl; is = all } };
        },
      )
  list_from us ps next (t.more comma xs ys p qs s marks o parts all) low closes =
      let deep = ap (deepest_of depth_of_port) all ∙ deepest_one depth_of_port p qs in let w = ansi_word xs p s in
      inr (
        ap (λ z. names (front z next)) (parts ∙ ap (λ z. z ++ comma ∷ ys) w.is) ∙ w.no_name,
        record {
          one = xs;
          two = comma ∷ ys;
          answer = p;
          is = parts;
          here = fit s (omega arith);
          behind = record { one = comma ∷ ys; two = []; answer = qs; is = sym (append-nil (comma ∷ ys)); here = before (tail comma ys refl marks o (omega arith)) closes; behind = record { none = refl; is = all } };
        },
      )

  exact_port_list : Exact (port_list room) Ports (Before Closes Ports)
  unfolding port_list ansi_list
  exact_port_list = exact_as (exact_peek names (λ called. exact_if called
      (exact_list SpellsName depth_of_port room (λ o. Unit {0}) Closes (λ l is. tt) (λ o m. tt) closes_no_comma (exact_before exact_bare))
      (exact_ansi >>= (λ p. exact_rest >>= (λ qs. exact_pure (p ∷ qs))))))
      list_to (λ us ps next b. list_from us ps next b.said.spelled b.said.shallow b.ahead)

  -- ports that stand there begin with no bracket
  no_close : (us : List Lexeme) (ps : List Port) (next : Option Lexeme) → ArePorts us ps → sees (codes ")") (front us next) ≡ false
  no_close us ps next (t.one p s all) = let w = ansi_word us p s in ap (λ z. sees (codes ")") (front z next)) w.is ∙ w.no_close
  no_close us ps next (t.more comma xs ys p qs s marks o parts all) = let w = ansi_word xs p s in ap (λ z. sees (codes ")") (front z next)) (parts ∙ ap (λ z. z ++ comma ∷ ys) w.is) ∙ w.no_close
  no_close us ps next (t.names (l.one p (t.name i (l.ident m named at) same) all)) = ap (λ z. sees (codes ")") (front z next)) at ∙ name_mark m i 41 [] named
  no_close us ps next (t.names (l.more comma is js p qs (t.name i (l.ident m named at) same) marks o parts all)) = ap (λ z. sees (codes ")") (front z next)) (parts ∙ ap (λ z. z ++ comma ∷ js) at) ∙ name_mark m i 41 [] named

  -- no list of ports stands there
  abbrev pub NoBracket : Option Lexeme → Type 0
  NoBracket o = sees (codes "(") o ≡ false

  abbrev pub PortsOf : Spelling (List Port)
  PortsOf = Fits SpellsPorts (deepest_of depth_of_port) room

  Inside : Spelling (List Port) → Spelling (List Port)
  Inside S us ps next = Either (sees (codes ")") (front us next)) (Done []) S us ps next

  ports_to : (us : List Lexeme) (ps : List Port) (next : Option Lexeme) → Either (sees (codes "(") (front us next)) (Lead (IsMark (codes "(")) (Row (Inside Ports) (λ ps. Lead (IsMark (codes ")")) (Done ps)))) (Done []) us ps next → PortsOf us ps next
  unfolding Inside
  ports_to us ps next (inr (unseen, d)) = let deep = ap (deepest_of depth_of_port) d.is ∙ deepest_none depth_of_port in fit (t.none d.none d.is) (omega arith)
  ports_to us ps next (inl (seen, h)) =
      let r = h.behind in let b = r.behind in let d = b.behind in
      elim r.here [
        | inl e ↦ (
            let z = e.1 in let all : ps ≡ [] = d.is ∙ z.is in let deep = ap (deepest_of depth_of_port) all ∙ deepest_none depth_of_port in
            let none : r.one ≡ [] = z.none in
            let two : h.others ≡ b.lexeme ∷ [] = r.is ∙ (ap (λ z. z ++ r.two) none ∙ (b.is ∙ ap (λ z. b.lexeme ∷ z) d.none)) in
            fit (t.empty h.lexeme b.lexeme h.holds b.holds (h.is ∙ ap (λ z. h.lexeme ∷ z) two) all) (omega arith))
        | inr e ↦ (
            let s = e.1 in let low = s.shallow in let deep = ap (deepest_of depth_of_port) d.is in
            fit (t.some h.lexeme b.lexeme r.one h.holds (subst (λ z. ArePorts r.one z) (sym d.is) s.spelled) b.holds (cc)) (omega arith))
      ]

  ports_from : (us : List Lexeme) (ps : List Port) (next : Option Lexeme) → SpellsPorts us ps → deepest_of depth_of_port ps ≤ room → NoBracket next
      → Either (sees (codes "(") (front us next)) (Lead (IsMark (codes "(")) (Row (Inside (Before Closes Ports)) (λ ps. Lead (IsMark (codes ")")) (Done ps)))) (Done []) us ps next
  unfolding Inside sees
  ports_from us ps next (t.none nil all) low n = inr (ap (λ z. sees (codes "(") (front z next)) nil ∙ n, record { none = nil; is = all })
  ports_from us ps next (t.empty left right opens closes parts all) low n =
      inl (
        ap (λ z. sees (codes "(") (front z next)) parts ∙ opens,
        record {
          lexeme = left;
          others = right ∷ [];
          is = parts;
          holds = opens;
          behind = record { one = []; two = right ∷ []; answer = ps; is = refl; here = inl (closes, record { none = refl; is = all }); behind = lead closes done };
        },
      )
  ports_from us ps next (t.some left right xs opens s closes parts) low n =
      inl (
        ap (λ z. sees (codes "(") (front z next)) parts ∙ opens,
        record {
          lexeme = left;
          others = xs ++ right ∷ [];
          is = parts;
          holds = opens;
          behind = record { one = xs; two = right ∷ []; answer = ps; is = refl; here = inr (no_close xs ps (Some right) s, before (fit s low) (record { lexeme = right; is = refl; marks = closes })); behind = lead closes done };
        },
      )

  pub exact_ports : Exact (ports room) PortsOf (Before NoBracket PortsOf)
  unfolding ports ports_there some_ports Inside
  exact_ports = exact_as (exact_peek (sees (codes "(")) (λ there. exact_if there
      (exact_mark (codes "(") (exact_peek (sees (codes ")")) (λ none. exact_if none (exact_pure []) exact_port_list) >>= (λ ps. exact_mark (codes ")") (exact_pure ps)))) (exact_pure [])))
      ports_to (λ us ps next b. ports_from us ps next b.said.spelled b.said.shallow b.ahead)

  no_hash : (us vs : List Lexeme) (ps : List Port) (semi : Lexeme) (next : Option Lexeme) → SpellsPorts us ps → IsMark (codes ";") semi → sees (codes "#") (front (us ++ semi ∷ vs) next) ≡ false
  no_hash us vs ps semi next (t.none nil all) is = ap (λ z. sees (codes "#") (front (z ++ semi ∷ vs) next)) nil ∙ other_mark (codes ";") (codes "#") semi is refl
  no_hash us vs ps semi next (t.empty left right opens closes parts all) is = ap (λ z. sees (codes "#") (front (z ++ semi ∷ vs) next)) parts ∙ other_mark (codes "(") (codes "#") left opens refl
  no_hash us vs ps semi next (t.some left right xs opens s closes parts) is = ap (λ z. sees (codes "#") (front (z ++ semi ∷ vs) next)) parts ∙ other_mark (codes "(") (codes "#") left opens refl

  at_endmodule : Apart (codes "endmodule")
  unfolding head_in declaration_in construct_in gate_in is_name name_in is_reserved reserved_with
  at_endmodule = record { apart = refl; no_else = refl }

  four : (a b c : ℕ) → deepest (1 ∷ a ∷ b ∷ c ∷ []) ≡ max 1 (max a (max b c))
  unfolding deepest
  four a b c = omega arith

  abbrev pub ModuleOf : Spelling Module
  ModuleOf = Fits SpellsModule depth_of_module room

  same_module : (m : Module) (place : Place) → m.place ≡ place → ◌≡◌ {A = Module} m (record { place = place; name = m.name; parameters = m.parameters; ports = m.ports; items = m.items })
  same_module m place is = ap (λ z. record { place = z; name = m.name; parameters = m.parameters; ports = m.ports; items = m.items }) is

  -- "module" id [ parameters ] [ "(" [ ports ] ")" ] ";" { item } "endmodule"
  pub exact_module : Laws → Exact (module_of room) ModuleOf ModuleOf
  unfolding module_of depth_of_module
  exact_module laws = exact_said (exact_peek place_if (λ place. exact_word (codes "module") (exact_ident (λ name. exact_parameters room some >>= (λ qs. exact_ports >>= (λ ps. exact_mark (codes ";")
      (exact_items room (item room) (exact_item laws room) (codes "endmodule") at_endmodule >>= (λ items. exact_pure (record { place = place; name = name; parameters = qs; ports = ps; items = items })))))))))
      (λ us m next h.
      let a = h.behind in let b = a.behind in let c = b.behind in let d = c.behind in let f = d.behind in let e = f.behind in let s = f.here in
      let one = b.here.shallow in let two = c.here.shallow in let three = s.shallow in
      let qs = ap (λ z. deepest_of depth_of_parameter z.parameters) e.is in let ps = ap (λ z. deepest_of depth_of_port z.ports) e.is in let is = ap (λ z. deepest_of depth_of_item z.items) e.is in
      let deep = four (deepest_of depth_of_parameter m.parameters) (deepest_of depth_of_port m.ports) (deepest_of depth_of_item m.items) in
      fit (t.«module» h.lexeme a.lexeme d.lexeme s.end b.one c.one s.inside h.holds (subst (IsIdent a.lexeme) (ap (λ z. z.name) (sym e.is)) a.holds)
      (subst (SpellsParameters b.one) (ap (λ z. z.parameters) (sym e.is)) b.here.spelled) (subst (SpellsPorts c.one) (ap (λ z. z.ports) (sym e.is)) c.here.spelled) d.holds
      (subst (SpellsItems s.inside) (ap (λ z. z.items) (sym e.is)) s.spelled) s.ends (cc (append-nil f.one)) (ap (λ z. z.place) e.is ∙ placed us h.lexeme h.others next h.is)) (omega arith))
      (λ us m next f. let low = f.shallow in let deep = four (deepest_of depth_of_parameter m.parameters) (deepest_of depth_of_port m.ports) (deepest_of depth_of_item m.items) in
      elim f.spelled [
        | t.«module» word x semi end qs ps is w named pars prts ends items last parts at ↦
            of_parts parts (lead w (call m.name named (row qs _ m.parameters (before (fit pars (omega arith)) (no_hash ps (is ++ end ∷ []) m.ports semi next prts ends))
            (row ps _ m.ports (before (fit prts (omega arith)) (other_mark (codes ";") (codes "(") semi ends refl)) (lead ends
            (record {
              one = is ++ end ∷ [];
              two = [];
              answer = m.items;
              is = sym (append-nil (is ++ end ∷ []));
              here = record { inside = is; end = end; parts = refl; spelled = items; ends = last; shallow = omega arith };
              behind = record { none = refl; is = same_module m _ (at ∙ (sym (placed us word (x ∷ (qs ++ (ps ++ semi ∷ (is ++ end ∷ [])))) next parts) ∙ ap (λ z. place_if (front z next)) parts)) };
            }))))))
      ])

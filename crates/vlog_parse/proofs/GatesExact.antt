-- What the readers of gates and instances take.
use Rattle.std.proofs.Common.{◌≡◌, ◌≢◌, ℕ, ◌≤◌, max, Bool, true, false, inl, inr, List, [], ◌∷◌, ◌++◌, map, Option, Some, None, refl, sym, ap, ◌∙◌, subst, append-nil, arith}
use Rattle.std.specs.Prelude.{not, ◌||◌, codes}
use Rattle.std.specs.Str.{bytes_eq}
use Rattle.rdc_outside.specs.declared.source.Place.{Place}
use Rattle.vlog_tree.specs.declared.ident.Ident.{Ident}
use Rattle.vlog_tree.specs.declared.expr.Expr.{Expr}
use Rattle.vlog_tree.specs.declared.item.Gate.{Gate}
use Rattle.vlog_tree.specs.declared.item.NamedConnection.{NamedConnection}
use Rattle.vlog_tree.specs.declared.item.Connections.{Connections}
use Rattle.vlog_tree.specs.declared.item.Connections.TheVariants as c
use Rattle.vlog_tree.specs.Lexemes.{Lexeme, IsMark}
use Rattle.vlog_tree.specs.Names.{IsIdent}
use Rattle.vlog_tree.specs.Lists.{SpellsCommas, SpellsOptional, SpellsIdent}
use Rattle.vlog_tree.specs.Lists as l
use Rattle.vlog_tree.specs.Expressions.{SpellsPlain, SpellsPlainList}
use Rattle.vlog_tree.specs.Operators.{unary_of, unary_of_one}
use Rattle.vlog_tree.specs.Declarations as g
use Rattle.vlog_tree.specs.Declarations.{SpellsGate, SpellsNamed, SpellsConnections, SpellsPassed, SpellsInstance}
use Rattle.vlog_tree.specs.Depth.{depth, deepest, deepest_of, depth_if, depth_of_label, depth_of_gate, depth_of_named, depth_of_connections, depth_of_instance}
use Rattle.vlog_expr.specs.Reading.{place_if, sees}
use Rattle.vlog_parse.specs.Lists.{plain_expr, ident, optional, commas}
use Rattle.vlog_parse.specs.Parts.{names, goes_on, gate, named, named_or, ordered, connections, listed, parameters_passed, passed, instance}
use Rattle.vlog_parse.proofs.Exact.{Spelling, front, Exact, exact_as, Row, ◌>>=◌, Done, exact_pure, Lead, exact_mark, exact_ident, exact_peek, Either, exact_if, Maybe, without, with, exact_optional, lead, call, row, done, of_parts, exact_said}
use Rattle.vlog_parse.proofs.Commas.{Fits, Before, Commas, only, several, commas_map, list_to, list_from, exact_commas, exact_list, option_to, option_from, exact_option, exact_before, exact_ident_fits, fit, before}
use Rattle.vlog_parse.proofs.Looks.{Ends, at_comma, MarkAhead, NameAhead, Closes, closes_end, closes_no_comma, closes_sees, closes_stop, comma_stop, other_mark, name_mark, mark_name, ident_name, placed_at}
use Rattle.vlog_parse.proofs.Starts.{starts, list_starts, fine_mark, plain_goes_on, exact_exprs}
use Rattle.vlog_parse.proofs.Given.{exact_expr}

name_opens : (us : List Lexeme) (i : Ident) (next : Option Lexeme) → SpellsIdent us i → names (front us next) ≡ true
name_opens us i next (l.ident x is parts) = ap (λ z. names (front z next)) parts ∙ ident_name x i is

-- [ id ]
pub exact_maybe_name : (room : ℕ) → 1 ≤ room → Exact (optional names ident) (Fits (SpellsOptional SpellsIdent) depth_of_label room) (Before (MarkAhead (codes "(")) (Fits (SpellsOptional SpellsIdent) depth_of_label room))
unfolding depth_of_label
exact_maybe_name room some = exact_option SpellsIdent (λ _. 1) depth_of_label room names (λ o. Unit {0}) (MarkAhead (codes "(")) refl (λ i. refl) name_opens (λ o m. tt)
    (λ o m. ap names m.is ∙ mark_name 40 [] m.lexeme m.marks) (exact_before (exact_ident_fits 1 room some))

same_place : (g : Gate) (place : Place) → g.place ≡ place → ◌≡◌ {A = Gate} g (record { place = place; name = g.name; terminals = g.terminals })
same_place g place is = ap (λ z. record { place = z; name = g.name; terminals = g.terminals }) is

-- [ id ] "(" L(expr) ")"
pub exact_gate : (room : ℕ) → 1 ≤ room → Exact (gate room) (Fits SpellsGate depth_of_gate room) (Fits SpellsGate depth_of_gate room)
unfolding gate depth_of_gate
exact_gate room some =
    exact_said (exact_peek place_if (λ place. exact_maybe_name room some >>= (λ n. exact_mark (codes "(") (exact_exprs room Closes closes_end closes_no_comma >>= (λ ts. exact_mark (codes ")") (exact_pure (record { place = place; name = n; terminals = ts })))))))
    (λ us x next h.
    let a = h.behind in let b = a.behind in let d = b.behind in let e = d.behind in
    let named = h.here.shallow in let low = b.here.shallow in
    let deep = ap (λ z. deepest_of depth z.terminals) e.is in let label = ap (λ z. depth_of_label z.name) e.is in
    let parts : us ≡ h.one ++ a.lexeme ∷ (b.one ++ d.lexeme ∷ []) = cc in
    fit (g.gate a.lexeme d.lexeme h.one b.one (subst (SpellsOptional SpellsIdent h.one) (ap (λ z. z.name) (sym e.is)) h.here.spelled) a.holds
    (subst (SpellsPlainList b.one) (ap (λ z. z.terminals) (sym e.is)) b.here.spelled) d.holds parts (ap (λ z. z.place) e.is ∙ placed_at us h.one a.lexeme (b.one ++ d.lexeme ∷ []) next parts)) (omega arith))
    (λ us x next f. let low = f.shallow in elim f.spelled [
      | g.gate left right ns is n opens ts closes parts at ↦
          of_parts parts (row ns _ x.name (before (fit n (omega arith)) (record { lexeme = left; is = refl; marks = opens })) (lead opens
          (row is _ x.terminals (before (fit ts (omega arith)) (record { lexeme = right; is = refl; marks = closes })) (lead closes
          (record { none = refl; is = same_place x _ (at ∙ (sym (placed_at us ns left (is ++ right ∷ []) next parts) ∙ ap (λ z. place_if (front z next)) parts)) })))))
    ])

-- [ expr ]
pub exact_maybe_expr : (room : ℕ) (M : Option Lexeme → Type 0) → ((o : Option Lexeme) → M o → Ends o) → ((o : Option Lexeme) → M o → goes_on o ≡ false)
    → Exact (optional goes_on (plain_expr room)) (Fits (SpellsOptional SpellsPlain) depth_if room) (Before M (Fits (SpellsOptional SpellsPlain) depth_if room))
unfolding depth_if
exact_maybe_expr room M ends stops = exact_option SpellsPlain depth depth_if room goes_on Ends M refl (λ e. refl) plain_goes_on ends stops (exact_expr room)

-- "." id "(" [ expr ] ")"
pub exact_named : (room : ℕ) → 1 ≤ room → Exact (named room) (Fits SpellsNamed depth_of_named room) (Fits SpellsNamed depth_of_named room)
unfolding named depth_of_named
exact_named room some =
    exact_said (exact_mark (codes ".") (exact_ident (λ i. exact_mark (codes "(") (exact_maybe_expr room Closes closes_end closes_stop >>= (λ v. exact_mark (codes ")") (exact_pure (record { name = i; value = v })))))))
    (λ us x next h.
    let a = h.behind in let b = a.behind in let d = b.behind in let e = d.behind in let f = e.behind in
    let low = d.here.shallow in let deep = ap (λ z. depth_if z.value) f.is in
    fit (g.named h.lexeme a.lexeme b.lexeme e.lexeme d.one h.holds (subst (IsIdent a.lexeme) (ap (λ z. z.name) (sym f.is)) a.holds) b.holds
    (subst (SpellsOptional SpellsPlain d.one) (ap (λ z. z.value) (sym f.is)) d.here.spelled) e.holds (cc)) (omega arith))
    (λ us x next f. let low = f.shallow in elim f.spelled [
      | g.named dot i left right is dots called opens v closes parts ↦
          of_parts parts (lead dots (call x.name called (lead opens (row is _ x.value (before (fit v (omega arith)) (record { lexeme = right; is = refl; marks = closes })) (lead closes done)))))
    ])

pub exact_all_named : (room : ℕ) → 1 ≤ room → Exact (commas (named room)) (Fits (SpellsCommas SpellsNamed) (deepest_of depth_of_named) room) (Before Closes (Fits (SpellsCommas SpellsNamed) (deepest_of depth_of_named) room))
exact_all_named room some = exact_list SpellsNamed depth_of_named room (λ o. Unit {0}) Closes (λ l is. tt) (λ o m. tt) closes_no_comma (exact_before (exact_named room some))

dotted : (us : List Lexeme) (x : NamedConnection) → SpellsNamed us x → Lead (IsMark (codes ".")) (λ us a next. Unit {0}) us x None
dotted us x (g.named dot i left right is dots called opens v closes parts) = record { lexeme = dot; others = i ∷ left ∷ (is ++ right ∷ []); is = parts; holds = dots; behind = tt }

all_dotted : (us : List Lexeme) (xs : List NamedConnection) → SpellsCommas SpellsNamed us xs → Lead (IsMark (codes ".")) (λ us a next. Unit {0}) us xs None
all_dotted us xs (l.one x s all) = let d = dotted us x s in record { lexeme = d.lexeme; others = d.others; is = d.is; holds = d.holds; behind = tt }
all_dotted us xs (l.more comma is js x ys s marks o parts all) =
    let d = dotted is x s in record { lexeme = d.lexeme; others = d.others ++ comma ∷ js; is = parts ∙ ap (λ z. z ++ comma ∷ js) d.is; holds = d.holds; behind = tt }

-- what an ordered connection begins with
not_nil : {us : List Lexeme} {l : Lexeme} {ls : List Lexeme} → us ≡ [] → us ≡ l ∷ ls → ⊥
not_nil e f = let never = sym e ∙ f in cc

not_nil_behind : (us is js : List Lexeme) (l : Lexeme) → us ≡ [] → us ≡ is ++ l ∷ js → ⊥
not_nil_behind us [] js l e f = not_nil e f
not_nil_behind us (i ∷ is) js l e f = not_nil e f

ordered_front : (m : ℕ) (ms : List ℕ) → unary_of (m ∷ ms) ≡ None → bytes_eq (codes "(") (m ∷ ms) ≡ false → bytes_eq (codes "{") (m ∷ ms) ≡ false → bytes_eq (codes ",") (m ∷ ms) ≡ false
    → (us : List Lexeme) (es : List (Option Expr)) (next : Option Lexeme) → SpellsCommas (SpellsOptional SpellsPlain) us es → us ≢ [] → sees (m ∷ ms) (front us next) ≡ false
ordered_front m ms a b c d us es next (l.one x (l.absent nil is) all) some = absurd (some nil)
ordered_front m ms a b c d us es next (l.one x (l.present e p is) all) some = let s = starts p.spells in ap (λ z. sees (m ∷ ms) (front z next)) s.is ∙ fine_mark m ms s.lexeme s.fine a b c
ordered_front m ms a b c d us es next (l.more comma is js x ys (l.absent nil x-is) marks o parts all) some =
    ap (λ z. sees (m ∷ ms) (front z next)) (parts ∙ ap (λ z. z ++ comma ∷ js) nil) ∙ other_mark (codes ",") (m ∷ ms) comma marks d
ordered_front m ms a b c d us es next (l.more comma is js x ys (l.present e p x-is) marks o parts all) some =
    let s = starts p.spells in
    ap (λ z. sees (m ∷ ms) (front z next)) (parts ∙ ap (λ z. z ++ comma ∷ js) s.is) ∙ fine_mark m ms s.lexeme s.fine a b c

-- [ expr ] as it is read
abbrev Piece : ℕ → Spelling (Option Expr)
Piece room = Maybe goes_on (Fits SpellsPlain depth room)

piece_fits : (room : ℕ) (us : List Lexeme) (o : Option Expr) (next : Option Lexeme) → Piece room us o next → Fits (SpellsOptional SpellsPlain) depth_if room us o next
unfolding depth_if
piece_fits room = option_to SpellsPlain depth depth_if room goes_on Ends Closes refl (λ e. refl) plain_goes_on closes_end closes_stop

-- nothing is read only where a bracket closes
nothing_by : (comma round : Bool) → not (comma || round) ≡ false → comma ≡ false → round ≡ true
nothing_by true round h e = cc
nothing_by false true h e = refl
nothing_by false false h e = cc

nothing_closes : (room : ℕ) (us : List Lexeme) (es : List (Option Expr)) (next : Option Lexeme) → Commas (Piece room) us es next → us ≡ [] → sees (codes ")") next ≡ true
unfolding goes_on
nothing_closes room us es next (only x (without nil is unseen) last all) none = nothing_by (sees (codes ",") next) (sees (codes ")") next) unseen last
nothing_closes room us es next (only x (with e seen f is) last all) none = let s = starts f.spelled.spells in absurd (not_nil none s.is)
nothing_closes room us es next (several comma is js x ys marks s o parts all) none = absurd (not_nil_behind us is js comma none parts)

-- no connection, ordered ones and named ones, as they are read
abbrev NamedOnes : ℕ → Spelling Connections
NamedOnes room = Row (Fits (SpellsCommas SpellsNamed) (deepest_of depth_of_named) room) (λ ns. Done (c.Named ns))

connections_to : (room : ℕ) (us : List Lexeme) (x : Connections) (next : Option Lexeme)
    → Either (sees (codes ")") (front us next)) (Done (c.Ordered [])) (λ us x next. Either (sees (codes ".") (front us next)) (NamedOnes room) (Row (Commas (Piece room)) (λ es. Done (c.Ordered es))) us x next) us x next
    → Fits SpellsConnections depth_of_connections room us x next
unfolding depth_of_connections deepest
connections_to room us x next (inl (seen, d)) = let deep = ap depth_of_connections d.is in fit (g.none d.none d.is) (omega arith)
connections_to room us x next (inr (unseen, inl (dot, r))) =
    let d = r.behind in let low = r.here.shallow in let deep = ap depth_of_connections d.is in
    let same : r.one ≡ us = cc (append-nil r.one) in
    fit (g.named r.answer (subst (λ z. SpellsCommas SpellsNamed z r.answer) same r.here.spelled) d.is) (omega arith)
connections_to room us x next (inr (unseen, inr (undot, r))) =
    let d = r.behind in
    let same : r.one ≡ us = cc (append-nil r.one) in
    let here : Commas (Piece room) us r.answer next = subst (λ z. Commas (Piece room) z r.answer next) same (subst (λ z. Commas (Piece room) r.one r.answer (front z next)) d.none r.here) in
    let f = list_to (SpellsOptional SpellsPlain) depth_if room (commas_map (Piece room) (Fits (SpellsOptional SpellsPlain) depth_if room) (piece_fits room) here) in
    let low = f.shallow in let deep = ap depth_of_connections d.is in
    fit (g.ordered r.answer (λ none. let seen = nothing_closes room us r.answer next here none in let never = ap (λ z. sees (codes ")") (front z next)) (sym none) ∙ unseen in cc) f.spelled d.is) (omega arith)

exact_pieces : (room : ℕ) → Exact (commas (optional goes_on (plain_expr room))) (Commas (Piece room)) (Commas (Maybe goes_on (Before Ends (Fits SpellsPlain depth room))))
exact_pieces room = exact_commas (exact_optional goes_on (exact_expr room))

-- the pieces as they are to be read
pieces_from : (room : ℕ) {us : List Lexeme} {es : List (Option Expr)} (next : Option Lexeme) → SpellsCommas (SpellsOptional SpellsPlain) us es → deepest_of depth_if es ≤ room → Closes next
    → Commas (Maybe goes_on (Before Ends (Fits SpellsPlain depth room))) us es next
unfolding depth_if
pieces_from room next s low closes =
    commas_map (Before Stops (Fits (SpellsOptional SpellsPlain) depth_if room)) (Maybe goes_on (Before Ends (Fits SpellsPlain depth room)))
    (λ us o n b. option_from SpellsPlain depth depth_if room goes_on Ends Stops refl (λ e. refl) plain_goes_on (λ o s. s.0) (λ o s. s.1) us o n b.said.spelled b.said.shallow b.ahead)
    (list_from (SpellsOptional SpellsPlain) depth_if room Stops Closes (λ l is. (at_comma l refl is, comma_stop l is)) (λ o c. (closes_end o c, closes_stop o c)) closes_no_comma next s low closes)
  where
    Stops : Option Lexeme → Type 0
    Stops o = Ends o × (goes_on o ≡ false)

connections_from : (room : ℕ) (us : List Lexeme) (x : Connections) (next : Option Lexeme) → SpellsConnections us x → depth_of_connections x ≤ room → Closes next
    → Either (sees (codes ")") (front us next)) (Done (c.Ordered []))
    (λ us x next. Either (sees (codes ".") (front us next)) (Row (Before Closes (Fits (SpellsCommas SpellsNamed) (deepest_of depth_of_named) room)) (λ ns. Done (c.Named ns)))
    (Row (Commas (Maybe goes_on (Before Ends (Fits SpellsPlain depth room)))) (λ es. Done (c.Ordered es))) us x next) us x next
unfolding depth_of_connections unary_of unary_of_one sees
connections_from room us x next (g.none nil is) low closes = inl (ap (λ z. sees (codes ")") (front z next)) nil ∙ closes_sees next closes, record { none = nil; is = is })
connections_from room us x next (g.ordered es some s is) low closes =
    let deep = ap depth_of_connections is in
    inr (
      ordered_front 41 [] refl refl refl refl us es next s some,
      inr (
        ordered_front 46 [] refl refl refl refl us es next s some,
        record { one = us; two = []; answer = es; is = sym (append-nil us); here = pieces_from room next s (omega arith) closes; behind = record { none = refl; is = is } },
      ),
    )
connections_from room us x next (g.named ns s is) low closes =
    let deep = ap depth_of_connections is in let d = all_dotted us ns s in
    inr (
      ap (λ z. sees (codes ")") (front z next)) d.is ∙ other_mark (codes ".") (codes ")") d.lexeme d.holds refl,
      inl (
        ap (λ z. sees (codes ".") (front z next)) d.is ∙ d.holds,
        record { one = us; two = []; answer = ns; is = sym (append-nil us); here = before (fit s (omega arith)) closes; behind = record { none = refl; is = is } },
      ),
    )

-- [ conns ]
pub exact_connections : (room : ℕ) → 1 ≤ room → Exact (connections room) (Fits SpellsConnections depth_of_connections room) (Before Closes (Fits SpellsConnections depth_of_connections room))
unfolding connections named_or ordered
exact_connections room some =
    exact_as (exact_peek (sees (codes ")")) (λ none. exact_if none (exact_pure (c.Ordered []))
    (exact_peek (sees (codes ".")) (λ dot. exact_if dot (exact_all_named room some >>= (λ ns. exact_pure (c.Named ns))) (exact_pieces room >>= (λ es. exact_pure (c.Ordered es)))))))
    (connections_to room) (λ us x next b. connections_from room us x next b.said.spelled b.said.shallow b.ahead)

-- id "(" [ conns ] ")"
pub exact_instance : (room : ℕ) → 1 ≤ room → Exact (instance room) (Fits SpellsInstance depth_of_instance room) (Fits SpellsInstance depth_of_instance room)
unfolding instance depth_of_instance
exact_instance room some =
    exact_said (exact_ident (λ i. exact_mark (codes "(") (exact_connections room some >>= (λ x. exact_mark (codes ")") (exact_pure (record { name = i; connections = x }))))))
    (λ us x next h.
    let a = h.behind in let b = a.behind in let d = b.behind in let e = d.behind in
    let low = b.here.shallow in let deep = ap (λ z. depth_of_connections z.connections) e.is in
    fit (g.instance h.lexeme a.lexeme d.lexeme b.one (subst (IsIdent h.lexeme) (ap (λ z. z.name) (sym e.is)) h.holds) a.holds
    (subst (SpellsConnections b.one) (ap (λ z. z.connections) (sym e.is)) b.here.spelled) d.holds (cc)) (omega arith))
    (λ us x next f. let low = f.shallow in elim f.spelled [
      | g.instance i left right is called opens v closes parts ↦
          of_parts parts (call x.name called (lead opens (row is _ x.connections (before (fit v (omega arith)) (record { lexeme = right; is = refl; marks = closes })) (lead closes done))))
    ])

-- the depths of ordered parameters
deepest_some : (es : List Expr) → deepest_of depth_if (map Some es) ≡ deepest_of depth es
unfolding deepest depth_if
deepest_some [] = refl
deepest_some (e ∷ es) = ap (λ n. max (depth e) n) (deepest_some es)

passed_to : (room : ℕ) (us : List Lexeme) (x : Connections) (next : Option Lexeme)
    → Either (sees (codes "#") (front us next)) (Lead (IsMark (codes "#")) (Lead (IsMark (codes "(")) (Row
    (λ us x next. Either (sees (codes ".") (front us next)) (NamedOnes room) (Row (Fits SpellsPlainList (deepest_of depth) room) (λ es. Done (c.Ordered (map Some es)))) us x next)
    (λ p. Lead (IsMark (codes ")")) (Done p))))) (Done (c.Ordered [])) us x next
    → Fits SpellsPassed depth_of_connections room us x next
unfolding depth_of_connections deepest
passed_to room us x next (inr (unseen, d)) = let deep = ap depth_of_connections d.is in fit (g.none d.none d.is) (omega arith)
passed_to room us x next (inl (seen, h)) = by h.behind.behind.here
  where
    by : Either (sees (codes ".") (front h.behind.behind.one (front h.behind.behind.two next))) (NamedOnes room) (Row (Fits SpellsPlainList (deepest_of depth) room) (λ es. Done (c.Ordered (map Some es))))
        h.behind.behind.one h.behind.behind.answer (front h.behind.behind.two next) → Fits SpellsPassed depth_of_connections room us x next
    by (inl (dot, q)) =
        let a = h.behind in let r = a.behind in let e = r.behind in let f = e.behind in let d = q.behind in
        let low = q.here.shallow in let is : x ≡ c.Named q.answer = f.is ∙ d.is in let deep = ap depth_of_connections is in
        fit (g.named h.lexeme a.lexeme e.lexeme q.one q.answer h.holds a.holds q.here.spelled e.holds (cc (append-nil q.one)) is) (omega arith)
    by (inr (undot, q)) =
        let a = h.behind in let r = a.behind in let e = r.behind in let f = e.behind in let d = q.behind in
        let low = q.here.shallow in let is : x ≡ c.Ordered (map Some q.answer) = f.is ∙ d.is in let deep = ap depth_of_connections is ∙ deepest_some q.answer in
        fit (g.ordered h.lexeme a.lexeme e.lexeme q.one q.answer h.holds a.holds q.here.spelled e.holds (cc (append-nil q.one)) is) (omega arith)

passed_from : (room : ℕ) (us : List Lexeme) (x : Connections) (next : Option Lexeme) → SpellsPassed us x → depth_of_connections x ≤ room → NameAhead next
    → Either (sees (codes "#") (front us next)) (Lead (IsMark (codes "#")) (Lead (IsMark (codes "(")) (Row
    (λ us x next. Either (sees (codes ".") (front us next)) (Row (Before Closes (Fits (SpellsCommas SpellsNamed) (deepest_of depth_of_named) room)) (λ ns. Done (c.Named ns)))
    (Row (Before Closes (Fits SpellsPlainList (deepest_of depth) room)) (λ es. Done (c.Ordered (map Some es)))) us x next)
    (λ p. Lead (IsMark (codes ")")) (Done p))))) (Done (c.Ordered [])) us x next
unfolding depth_of_connections unary_of unary_of_one sees
passed_from room us x next (g.none nil is) low n = inr (ap (λ z. sees (codes "#") (front z next)) nil ∙ (ap (sees (codes "#")) n.is ∙ name_mark n.lexeme n.ident 35 [] n.named), record { none = nil; is = is })
passed_from room us x next (g.ordered hash left right is es hashes opens s closes parts same) low n =
    let deep = ap depth_of_connections same ∙ deepest_some es in let t = list_starts s.spells in
    inl (
      ap (λ z. sees (codes "#") (front z next)) parts ∙ hashes,
      record {
        lexeme = hash;
        others = left ∷ (is ++ right ∷ []);
        is = parts;
        holds = hashes;
        behind = lead opens (row is (right ∷ []) x
            (inr (
              ap (λ z. sees (codes ".") (front z (Some right))) t.is ∙ fine_mark 46 [] t.lexeme t.fine refl refl refl,
              record { one = is; two = []; answer = es; is = sym (append-nil is); here = before (fit s (omega arith)) (record { lexeme = right; is = refl; marks = closes }); behind = record { none = refl; is = same } },
            ))
            (lead closes done));
      },
    )
passed_from room us x next (g.named hash left right is ns hashes opens s closes parts same) low n =
    let deep = ap depth_of_connections same in let d = all_dotted is ns s in
    inl (
      ap (λ z. sees (codes "#") (front z next)) parts ∙ hashes,
      record {
        lexeme = hash;
        others = left ∷ (is ++ right ∷ []);
        is = parts;
        holds = hashes;
        behind = lead opens (row is (right ∷ []) x
            (inl (
              ap (λ z. sees (codes ".") (front z (Some right))) d.is ∙ d.holds,
              record { one = is; two = []; answer = ns; is = sym (append-nil is); here = before (fit s (omega arith)) (record { lexeme = right; is = refl; marks = closes }); behind = record { none = refl; is = same } },
            ))
            (lead closes done));
      },
    )

-- [ "#" "(" ( L(expr) | L(named) ) ")" ]
pub exact_passed : (room : ℕ) → 1 ≤ room → Exact (passed room) (Fits SpellsPassed depth_of_connections room) (Before NameAhead (Fits SpellsPassed depth_of_connections room))
unfolding passed parameters_passed named_or listed
exact_passed room some =
    exact_as (exact_peek (sees (codes "#")) (λ hash. exact_if hash
    (exact_mark (codes "#") (exact_mark (codes "(") (exact_peek (sees (codes ".")) (λ dot. exact_if dot (exact_all_named room some >>= (λ ns. exact_pure (c.Named ns)))
    (exact_exprs room Closes closes_end closes_no_comma >>= (λ es. exact_pure (c.Ordered (map Some es))))) >>= (λ p. exact_mark (codes ")") (exact_pure p)))))
    (exact_pure (c.Ordered []))))
    (passed_to room) (λ us x next b. passed_from room us x next b.said.spelled b.said.shallow b.ahead)

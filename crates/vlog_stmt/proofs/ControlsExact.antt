-- The reader of what stands behind `@` is exact.
--     Waits room us c next          us spells what a process waits for, no deeper than the room
use Rattle.std.proofs.Common.{◌≡◌, ℕ, zero, suc, ◌+◌, ◌≤◌, Bool, true, false, List, [], ◌∷◌, ◌++◌, Option, Some, None, refl, sym, ap, ◌∙◌, subst, append_assoc, append-nil, arith}
use Rattle.std.specs.Prelude.{if◌then◌else◌, ◌||◌, codes}
use Rattle.vlog_tree.specs.declared.ident.Ident.{Ident}
use Rattle.vlog_tree.specs.declared.expr.Expr.{Expr}
use Rattle.vlog_tree.specs.declared.stmt.Edge.{Edge}
use Rattle.vlog_tree.specs.declared.stmt.Edge.TheVariants as edges
use Rattle.vlog_tree.specs.declared.stmt.Event.{Event}
use Rattle.vlog_tree.specs.declared.stmt.Control.{Control}
use Rattle.vlog_tree.specs.declared.stmt.Control.TheVariants as controls
use Rattle.vlog_tree.specs.Lexemes.{Lexeme, IsMark}
use Rattle.vlog_tree.specs.Names.{IsIdent}
use Rattle.vlog_tree.specs.Reserved.{is_reserved, reserved_with}
use Rattle.vlog_tree.specs.Lists.{SpellsOptional, absent, present}
use Rattle.vlog_tree.specs.Statements as g
use Rattle.vlog_tree.specs.Statements.{SpellsEdge, SpellsIndex, SpellsEvent, SpellsEvents, IsBetweenEvents, SpellsControl}
use Rattle.vlog_tree.specs.Depth.{depth, depth_if, deepest, deepest_of, depth_of_event, depth_of_control}
use Rattle.vlog_expr.specs.declared.stuck.Stuck.TheVariants.{Deep}
use Rattle.vlog_expr.specs.Reading.{sees, sees_word}
use Rattle.vlog_expr.proofs.MarkLemmas.{quiet_square}
use Rattle.vlog_expr.proofs.PlainLemmas.{quiet_ended}
use Rattle.vlog_expr.proofs.SpelledLemmas.{sized}
use Rattle.vlog_stmt.specs.Controls.{edge_if, edge, index, event, is_between, further_event, events, in_brackets, control}
use Rattle.vlog_stmt.proofs.ControlsSteady.{further_event_eats}
use Rattle.vlog_stmt.proofs.WordLemmas.{other_mark, other_word, word_mark, mark_word, name_mark, name_word}
use Rattle.vlog_stmt.proofs.Exact.{Spelling, front, Exact, Nothing, Known, there, absent as unknown, Behind, Either, with, without, Roomy, Row, Choose, exact_as, exact_pure, exact_stop, exact_at, exact_known, exact_behind, exact_mark, exact_took, exact_if, exact_within, ◌>>=◌}
use Rattle.vlog_stmt.proofs.ManyExact.{Many, stopped, more, exact_many}
use Rattle.vlog_stmt.proofs.PiecesExact.{Value, Name, exact_value, exact_ident}

-- an event, and no index of it follows
pub record Happens (room : ℕ) (us : List Lexeme) (x : Event) (next : Option Lexeme) : Type 0 where
  pub spelled : SpellsEvent us x
  pub shallow : depth_of_event x ≤ room
  pub closed : x.index ≡ None → sees (codes "[") next ≡ false

-- the depth of an event by its index
depth-none : (x : Event) → x.index ≡ None → depth_of_event x ≡ 1
unfolding depth_of_event depth_if
depth-none x none = rw none refl

depth-some : (x : Event) (i : Expr) → x.index ≡ Some i → depth_of_event x ≡ 1 + depth i
unfolding depth_of_event depth_if
depth-some x i some = rw some refl

abbrev EdgeC : Spelling Edge
EdgeC = Known edge_if (λ e. Nothing e) (Nothing edges.Any)

exact_edge : Exact edge EdgeC
unfolding edge edge_if sees_word
exact_edge = let built = exact_known edge_if refl (λ e. exact_pure e) (exact_pure edges.Any) in built

edge_by : (us : List Lexeme) (e : Edge) (l : Lexeme) (a : Edge) (b c : Bool) → sees_word (codes "posedge") (Some l) ≡ b → sees_word (codes "negedge") (Some l) ≡ c
    → (if b then Some edges.Rising else (if c then Some edges.Falling else None)) ≡ Some a → us ≡ l ∷ [] → e ≡ a → SpellsEdge us e
unfolding sees_word
edge_by us e l a true c seen other is parts same = g.rising l seen parts (same ∙ cc)
edge_by us e l a false true seen other is parts same = g.falling l other parts (same ∙ cc)
edge_by us e l a false false seen other is parts same = cc

edge_to : (us : List Lexeme) (e : Edge) (next : Option Lexeme) → EdgeC us e next → SpellsEdge us e
unfolding edge_if
edge_to us e next (there a l vs seen parts n) = edge_by us e l a (sees_word (codes "posedge") (Some l)) (sees_word (codes "negedge") (Some l)) refl refl seen (parts ∙ ap (λ z. l ∷ z) n.none) n.same
edge_to us e next (unknown seen n) = g.any n.none n.same

-- a name is no edge
edge_from : (us : List Lexeme) (e : Edge) (l : Lexeme) (i : Ident) → IsIdent l i → SpellsEdge us e → EdgeC us e (Some l)
unfolding edge_if sees_word is_reserved reserved_with
edge_from us e l i named (g.any none same) =
    let rising : sees_word (codes "posedge") (Some l) ≡ false = name_word l i.name 112 (codes "osedge") named.name refl refl in
    let falling : sees_word (codes "negedge") (Some l) ≡ false = name_word l i.name 110 (codes "egedge") named.name refl refl in
    unknown (ap (λ z. edge_if (front z (Some l))) none ∙ rw (rising, falling) refl) (record { none = none; same = same })
edge_from us e l i named (g.rising m worded parts same) = there edges.Rising m [] (rw worded refl) parts (record { none = refl; same = same })
edge_from us e l i named (g.falling m worded parts same) =
    let other : sees_word (codes "posedge") (Some m) ≡ false = other_word (codes "negedge") (codes "posedge") m worded refl in
    there edges.Falling m [] (rw (other, worded) refl) parts (record { none = refl; same = same })

module _ (room : ℕ) where
  abbrev IndexC : Spelling (Option Expr)
  IndexC us o next = Choose (sees (codes "[") (front us next)) (Roomy room (Behind (IsMark (codes "[")) (Row (Value room) (λ i. Behind (IsMark (codes "]")) (Nothing (Some i)))))) (Nothing None) us o next

  exact_index : Exact (index room) IndexC
  unfolding index
  exact_index =
      let built = exact_at (sees (codes "[")) (λ there. exact_if there (exact_within room (exact_mark (codes "[") (exact_value room >>= (λ i. exact_mark (codes "]") (exact_pure (Some i)))))) (exact_pure None)) in built

  record Index (us : List Lexeme) (o : Option Expr) (next : Option Lexeme) : Type 0 where
    spelled : SpellsOptional SpellsIndex us o
    shallow : (i : Expr) → o ≡ Some i → depth i ≤ room
    closed : o ≡ None → sees (codes "[") next ≡ false

  index_to : (us : List Lexeme) (o : Option Expr) (next : Option Lexeme) (b : Bool) → sees (codes "[") (front us next) ≡ b
      → Choose b (Roomy room (Behind (IsMark (codes "[")) (Row (Value room) (λ i. Behind (IsMark (codes "]")) (Nothing (Some i)))))) (Nothing None) us o next → Index us o next
  index_to us o next true seen r =
      let s = r.spelled in let row = s.spelled in let v = row.one in let close = row.two in let n = close.spelled in
      record {
        spelled = present row.mid (g.index s.lexeme close.lexeme row.left s.is v.spelled close.is (rw (s.parts, row.parts, close.parts, n.none) refl)) n.same;
        shallow = λ i some. (let same : Some row.mid ≡ Some i = sym n.same ∙ some in let low = v.shallow in subst (λ z. depth z ≤ room) (cc) low);
        closed = λ none. (let no = sym none ∙ n.same in cc);
      }
  index_to us o next false seen n = record {
    spelled = absent n.none n.same;
    shallow = λ i some. (let no = sym some ∙ n.same in cc);
    closed = λ none. ap (λ z. sees (codes "[") (front z next)) (sym n.none) ∙ seen;
  }

  index_from : (us : List Lexeme) (o : Option Expr) (next : Option Lexeme) → SpellsOptional SpellsIndex us o → ((i : Expr) → o ≡ Some i → depth i ≤ room) → (o ≡ None → sees (codes "[") next ≡ false) → IndexC us o next
  unfolding sees
  index_from us o next (absent none same) low closed =
      let unseen : sees (codes "[") (front us next) ≡ false = ap (λ z. sees (codes "[") (front z next)) none ∙ closed same in
      subst (λ b. Choose b (Roomy room (Behind (IsMark (codes "[")) (Row (Value room) (λ i. Behind (IsMark (codes "]")) (Nothing (Some i)))))) (Nothing None) us o next) (sym unseen) (record { none = none; same = same })
  index_from us o next (present i (g.index left right is opens inside closes parts) same) low closed =
      let seen : sees (codes "[") (front us next) ≡ true = ap (λ z. sees (codes "[") (front z next)) parts ∙ opens in
      let some = (sized inside.spells).some in let le = low i same in
      subst (λ b. Choose b (Roomy room (Behind (IsMark (codes "[")) (Row (Value room) (λ i. Behind (IsMark (codes "]")) (Nothing (Some i)))))) (Nothing None) us o next) (sym seen) (record {
        some = omega arith;
        spelled = record {
          lexeme = left;
          others = is ++ right ∷ [];
          is = opens;
          parts = parts;
          spelled = record {
            left = is;
            right = right ∷ [];
            mid = i;
            parts = refl;
            one = record { spelled = inside; shallow = le; ended = quiet_ended i right (quiet_square right closes) };
            two = record { lexeme = right; others = []; is = closes; parts = refl; spelled = record { none = refl; same = same } };
          };
        };
      })

  abbrev EventC : Spelling Event
  EventC = Row EdgeC (λ change. Row Name (λ name. Row IndexC (λ i. Nothing (record { edge = change; name = name; index = i }))))

  event_low : (x : Event) (o : Option Expr) → x.index ≡ o → ((i : Expr) → o ≡ Some i → depth i ≤ room) → depth_of_event x ≤ suc room
  event_low x None is low = let d = depth-none x is in omega arith
  event_low x (Some i) is low = let d = depth-some x i is in let le = low i refl in omega arith

  event_to : (us : List Lexeme) (x : Event) (next : Option Lexeme) → EventC us x next → Happens (suc room) us x next
  event_to us x next r =
      let s = r.two in let o = s.two in let n = o.two in let name = s.one in
      let i = index_to o.left o.mid (front o.right next) (sees (codes "[") (front o.left (front o.right next))) refl o.one in
      subst (λ z. Happens (suc room) us z next) (sym n.same) (record {
        spelled = g.event name.lexeme r.left o.left (edge_to r.left r.mid (front r.right next) r.one) name.is i.spelled (rw (r.parts, s.parts, name.parts, o.parts, n.none, append-nil o.left) refl);
        shallow = event_low (record { edge = r.mid; name = s.mid; index = o.mid }) o.mid refl i.shallow;
        closed = λ none. ap (λ z. sees (codes "[") (front z next)) (sym n.none) ∙ i.closed none;
      })

  event_from : (us : List Lexeme) (x : Event) (next : Option Lexeme) → SpellsEvent us x → depth_of_event x ≤ suc room → (x.index ≡ None → sees (codes "[") next ≡ false) → EventC us x next
  event_from us x next (g.event l es is change named index parts) low closed = record {
    left = es;
    right = l ∷ is;
    mid = x.edge;
    parts = parts;
    one = edge_from es x.edge l x.name named change;
    two = record {
      left = l ∷ [];
      right = is;
      mid = x.name;
      parts = refl;
      one = record { lexeme = l; is = named; parts = refl };
      two = record {
        left = is;
        right = [];
        mid = x.index;
        parts = sym (append-nil is);
        one = index_from is x.index next index (λ i some. (let d = depth-some x i some in omega arith)) closed;
        two = record { none = refl; same = refl };
      };
    };
  }

never_event : (us : List Lexeme) (x : Event) (next : Option Lexeme) → Happens zero us x next → ⊥
unfolding depth_of_event
never_event us x next e = let low = e.shallow in absurd (omega arith)

exact_event : (room : ℕ) → Exact (event room) (Happens room)
unfolding event
exact_event zero = exact_as (Happens zero) (exact_stop Deep) (λ us x next n. absurd n.never) (λ us x next e. absurd (never_event us x next e))
exact_event (suc room) =
    let built = exact_edge >>= (λ change. exact_ident >>= (λ name. exact_index room >>= (λ i. exact_pure (record { edge = change; name = name; index = i })))) in
    exact_as (Happens (suc room)) built (event_to room) (λ us x next e. event_from room us x next e.spelled e.shallow e.closed)

-- what stands between events
between_by : (l : Lexeme) (b c : Bool) → sees_word (codes "or") (Some l) ≡ b → sees (codes ",") (Some l) ≡ c → (b || c) ≡ true → IsBetweenEvents l
unfolding sees sees_word
between_by l true c seen other is = g.word seen
between_by l false true seen other is = g.comma other
between_by l false false seen other is = cc

between_to : (l : Lexeme) → is_between (Some l) ≡ true → IsBetweenEvents l
unfolding is_between
between_to l is = between_by l (sees_word (codes "or") (Some l)) (sees (codes ",") (Some l)) refl refl is

between_from : (l : Lexeme) → IsBetweenEvents l → is_between (Some l) ≡ true
unfolding is_between sees sees_word
between_from l (g.word is) = rw is refl
between_from l (g.comma is) = let other : sees_word (codes "or") (Some l) ≡ false = mark_word 44 [] 111 (codes "r") l is in rw (other, is) refl

between_closed : (l : Lexeme) → IsBetweenEvents l → sees (codes "[") (Some l) ≡ false
between_closed l (g.word is) = word_mark 111 (codes "r") 91 [] l is
between_closed l (g.comma is) = other_mark (codes ",") (codes "[") l is refl

round_stops : (r : Lexeme) → IsMark (codes ")") r → is_between (Some r) ≡ false
unfolding is_between
round_stops r closes =
    let word : sees_word (codes "or") (Some r) ≡ false = mark_word 41 [] 111 (codes "r") r closes in
    let comma : sees (codes ",") (Some r) ≡ false = other_mark (codes ")") (codes ",") r closes refl in
    rw (word, comma) refl

-- an event begins with no star
event_star : (us vs : List Lexeme) (x : Event) (next : Option Lexeme) → SpellsEvent us x → sees (codes "*") (front (us ++ vs) next) ≡ false
event_star us vs x next (g.event l es is (g.any none same) named index parts) =
    ap (λ z. sees (codes "*") (front (z ++ vs) next)) (parts ∙ ap (λ z. z ++ l ∷ is) none) ∙ name_mark l x.name.name 42 [] named.name
event_star us vs x next (g.event l es is (g.rising m worded at same) named index parts) =
    ap (λ z. sees (codes "*") (front (z ++ vs) next)) (parts ∙ ap (λ z. z ++ l ∷ is) at) ∙ word_mark 112 (codes "osedge") 42 [] m worded
event_star us vs x next (g.event l es is (g.falling m worded at same) named index parts) =
    ap (λ z. sees (codes "*") (front (z ++ vs) next)) (parts ∙ ap (λ z. z ++ l ∷ is) at) ∙ word_mark 110 (codes "egedge") 42 [] m worded

events_star : (us vs : List Lexeme) (xs : List Event) (next : Option Lexeme) → SpellsEvents us xs → sees (codes "*") (front (us ++ vs) next) ≡ false
events_star us vs xs next (g.one x s all) = event_star us vs x next s
events_star us vs xs next (g.more between is js x others s b o parts all) =
    ap (λ z. sees (codes "*") (front z next)) (ap (λ z. z ++ vs) parts ∙ append_assoc is (between ∷ js) vs) ∙ event_star is ((between ∷ js) ++ vs) x next s

module _ (room : ℕ) where
  abbrev FurtherC : Spelling Event
  FurtherC = Behind (λ l. is_between (Some l) ≡ true) (Happens room)

  exact_further : Exact (further_event room) FurtherC
  unfolding further_event is_between sees sees_word
  exact_further = let built = exact_behind is_between refl (exact_event room) in built

  abbrev EventsC : Spelling (List Event)
  EventsC = Row (Happens room) (λ x. Row (Many FurtherC is_between) (λ xs. Nothing (x ∷ xs)))

  exact_events : Exact (events room) EventsC
  unfolding events
  exact_events = let built = exact_event room >>= (λ x. exact_many FurtherC is_between (further_event room) exact_further (further_event_eats room) >>= (λ xs. exact_pure (x ∷ xs))) in built

  abbrev BracketsC : Spelling Control
  BracketsC = Either (sees (codes "*")) (Behind (IsMark (codes ")")) (Nothing controls.Reads)) (Row EventsC (λ es. Behind (IsMark (codes ")")) (Nothing (controls.Events es))))

  exact_brackets : Exact (in_brackets room) BracketsC
  unfolding in_brackets
  exact_brackets = let built = exact_took (codes "*") (exact_mark (codes ")") (exact_pure controls.Reads)) (exact_events >>= (λ es. exact_mark (codes ")") (exact_pure (controls.Events es)))) in built

  abbrev ControlC : Spelling Control
  ControlC = Either (sees (codes "*")) (Nothing controls.Reads) (Behind (IsMark (codes "(")) BracketsC)

  exact_pieces : Exact (control room) ControlC
  unfolding control
  exact_pieces = let built = exact_took (codes "*") (exact_pure controls.Reads) (exact_mark (codes "(") exact_brackets) in built

  record Listed (us : List Lexeme) (xs : List Event) : Type 0 where
    spelled : SpellsEvents us xs
    shallow : deepest_of depth_of_event xs ≤ room

  listed : (is vs : List Lexeme) (x : Event) (xs : List Event) (next : Option Lexeme) → SpellsEvent is x → depth_of_event x ≤ room → Many FurtherC is_between vs xs next → Listed (is ++ vs) (x ∷ xs)
  unfolding deepest
  listed is vs x xs next s low (stopped off none is_none) =
      record { spelled = g.one x (subst (λ z. SpellsEvent z x) (sym (ap (λ z. is ++ z) none ∙ append-nil is)) s) (ap (λ z. x ∷ z) is_none); shallow = subst (λ z. deepest_of depth_of_event (x ∷ z) ≤ room) (sym is_none) (omega arith) }
  listed is vs x xs next s low (more js ks y ys on b m parts same) =
      let a = listed b.others ks y ys next b.spelled.spelled b.spelled.shallow m in let rest = a.shallow in
      record { spelled = g.more b.lexeme is (b.others ++ ks) x (y ∷ ys) s (between_to b.lexeme b.is) a.spelled (rw (parts, b.parts) refl) (ap (λ z. x ∷ z) same); shallow = subst (λ z. deepest_of depth_of_event (x ∷ z) ≤ room) (sym same) (omega arith) }

  -- the first event and what is behind it
  record Parted (us : List Lexeme) (xs : List Event) (right : Lexeme) : Type 0 where
    is : List Lexeme
    vs : List Lexeme
    x : Event
    ys : List Event
    parts : us ≡ is ++ vs
    one : Happens room is x (front vs (Some right))
    others : Many FurtherC is_between vs ys (Some right)
    all : xs ≡ x ∷ ys

  parted : (us : List Lexeme) (xs : List Event) (right : Lexeme) → IsMark (codes ")") right → SpellsEvents us xs → deepest_of depth_of_event xs ≤ room → Parted us xs right
  unfolding deepest
  parted us xs right closes (g.one x s all) low =
      let deep : deepest_of depth_of_event (x ∷ []) ≤ room = subst (λ z. deepest_of depth_of_event z ≤ room) all low in
      record {
        is = us;
        vs = [];
        x = x;
        ys = [];
        parts = sym (append-nil us);
        one = record { spelled = s; shallow = omega arith; closed = λ none. other_mark (codes ")") (codes "[") right closes refl };
        others = stopped (round_stops right closes) refl refl;
        all = all;
      }
  parted us xs right closes (g.more between is js x ys s b o parts all) low =
      let deep : deepest_of depth_of_event (x ∷ ys) ≤ room = subst (λ z. deepest_of depth_of_event z ≤ room) all low in
      let p = parted js ys right closes o (omega arith) in
      record {
        is = is;
        vs = between ∷ js;
        x = x;
        ys = ys;
        parts = parts;
        one = record { spelled = s; shallow = omega arith; closed = λ none. between_closed between b };
        others = more (between ∷ p.is) p.vs p.x p.ys (between_from between b) (record { lexeme = between; others = p.is; is = between_from between b; parts = refl; spelled = p.one }) p.others (ap (λ z. between ∷ z) p.parts) p.all;
        all = all;
      }

  pub record Waits (us : List Lexeme) (c : Control) (next : Option Lexeme) : Type 0 where
    pub spelled : SpellsControl us c
    pub shallow : depth_of_control c ≤ room

  brackets_to : (us : List Lexeme) (c : Control) (next : Option Lexeme) (left : Lexeme) (vs : List Lexeme) → IsMark (codes "(") left → us ≡ left ∷ vs → BracketsC vs c next → Waits us c next
  unfolding depth_of_control sees
  brackets_to us c next left vs opens at (with l ws star parts close) =
      let n = close.spelled in
      record { spelled = g.star_in_brackets left l close.lexeme opens star close.is (rw (at, parts, close.parts, n.none) refl) n.same; shallow = subst (λ z. depth_of_control z ≤ room) (sym n.same) (omega arith) }
  brackets_to us c next left vs opens at (without unseen row) =
      let r = row.one in let d = r.two in let m = d.two in let fst = r.one in let close = row.two in let n = close.spelled in
      let a = listed r.left d.left r.mid d.mid (front d.right (front row.right next)) fst.spelled fst.shallow d.one in
      let same : row.left ≡ r.left ++ d.left = rw (r.parts, d.parts, m.none, append-nil d.left) refl in
      record {
        spelled = g.events left close.lexeme row.left row.mid opens (subst (λ z. SpellsEvents z row.mid) (sym same) (subst (λ z. SpellsEvents (r.left ++ d.left) z) (sym m.same) a.spelled)) close.is (rw (at, row.parts, close.parts, n.none) refl) n.same;
        shallow = subst (λ z. depth_of_control z ≤ room) (sym n.same) (subst (λ z. deepest_of depth_of_event z ≤ room) (sym m.same) a.shallow);
      }

  control_to : (us : List Lexeme) (c : Control) (next : Option Lexeme) → ControlC us c next → Waits us c next
  unfolding depth_of_control sees
  control_to us c next (with l vs star parts n) = record { spelled = g.star l star (parts ∙ ap (λ z. l ∷ z) n.none) n.same; shallow = subst (λ z. depth_of_control z ≤ room) (sym n.same) (omega arith) }
  control_to us c next (without unseen s) = brackets_to us c next s.lexeme s.others s.is s.parts s.spelled

  no_star : (left : Lexeme) → IsMark (codes "(") left → sees (codes "*") (Some left) ≡ false
  no_star left opens = other_mark (codes "(") (codes "*") left opens refl

  control_from : (us : List Lexeme) (c : Control) (next : Option Lexeme) → SpellsControl us c → depth_of_control c ≤ room → ControlC us c next
  unfolding depth_of_control sees
  control_from us c next (g.star l star parts same) low = with l [] star parts (record { none = refl; same = same })
  control_from us c next (g.star_in_brackets left l right opens star closes parts same) low =
      without (ap (λ z. sees (codes "*") (front z next)) parts ∙ no_star left opens)
      (record { lexeme = left; others = l ∷ right ∷ []; is = opens; parts = parts; spelled = with l (right ∷ []) star refl (record { lexeme = right; others = []; is = closes; parts = refl; spelled = record { none = refl; same = same } }) })
  control_from us c next (g.events left right is es opens inside closes parts same) low =
      let deep : deepest_of depth_of_event es ≤ room = subst (λ z. depth_of_control z ≤ room) same low in
      let p = parted is es right closes inside deep in
      without (ap (λ z. sees (codes "*") (front z next)) parts ∙ no_star left opens)
      (record {
        lexeme = left;
        others = is ++ right ∷ [];
        is = opens;
        parts = parts;
        spelled = without (events_star is (right ∷ []) es next inside) (record {
          left = is;
          right = right ∷ [];
          mid = es;
          parts = refl;
          one = record { left = p.is; right = p.vs; mid = p.x; parts = p.parts; one = p.one; two = record { left = p.vs; right = []; mid = p.ys; parts = sym (append-nil p.vs); one = p.others; two = record { none = refl; same = p.all } } };
          two = record { lexeme = right; others = []; is = closes; parts = refl; spelled = record { none = refl; same = same } };
        });
      })

  pub exact_control : Exact (control room) Waits
  exact_control = exact_as Waits exact_pieces control_to (λ us c next s. control_from us c next s.spelled s.shallow)

-- What the readers of the parts of declarations take.
use Rattle.std.proofs.Common.{◌≡◌, ℕ, ◌≤◌, max, Bool, true, false, inl, inr, List, [], ◌∷◌, Option, refl, sym, ap, ◌∙◌, subst, append-nil, arith}
use Rattle.std.specs.Prelude.{codes}
use Rattle.vlog_tree.specs.declared.expr.Expr.{Expr}
use Rattle.vlog_tree.specs.declared.port.Range.{Range}
use Rattle.vlog_tree.specs.declared.port.Direction.{Direction}
use Rattle.vlog_tree.specs.declared.port.Direction.TheVariants.{Input, Output, Register}
use Rattle.vlog_tree.specs.Lexemes.{Lexeme, IsWord, is_word}
use Rattle.vlog_tree.specs.Names.{IsIdent}
use Rattle.vlog_tree.specs.Reserved.{is_reserved, reserved_with}
use Rattle.vlog_tree.specs.Lists.{SpellsCommas, SpellsOptional, SpellsIdent}
use Rattle.vlog_tree.specs.Lists as l
use Rattle.vlog_tree.specs.Expressions.{SpellsPlain, SpellsTarget}
use Rattle.vlog_tree.specs.Declarations as g
use Rattle.vlog_tree.specs.Declarations.{SpellsRange, SpellsSigned, SpellsShape, SpellsDirection, SpellsValue, SpellsNet, SpellsBinding, SpellsAssignment}
use Rattle.vlog_tree.specs.Depth.{depth, depth_if, depth_of_range, depth_of_shape, depth_of_net, depth_of_binding, depth_of_assignment}
use Rattle.vlog_expr.specs.Reading.{sees, sees_word}
use Rattle.vlog_parse.specs.Lists.{flag, optional}
use Rattle.vlog_parse.specs.Parts.{range, shape, input, driven, output, direction, value, net, binding, assignment}
use Rattle.vlog_parse.proofs.Exact.{Spelling, front, Exact, exact_as, Row, ◌>>=◌, Done, exact_pure, Lead, exact_mark, exact_word, exact_ident, exact_peek, Either, exact_if, Flag, absent, there, exact_flag, lead, call, row, final, done, of_parts, exact_said}
use Rattle.vlog_parse.proofs.Commas.{Fits, Before, exact_option, exact_before, fit, before}
use Rattle.vlog_parse.proofs.Looks.{Ends, at_square, at_colon, ends_unlike, MarkAhead, NameAhead, other_word, mark_word, name_mark, name_word}
use Rattle.vlog_parse.proofs.Given.{Laws, exact_expr}

abbrev pub Bounds : ℕ → Spelling Range
Bounds room = Fits SpellsRange (λ r. max (depth r.msb) (depth r.lsb)) room

pub exact_range : (room : ℕ) → Exact (range room) (Bounds room) (Bounds room)
unfolding range
exact_range room =
    exact_said (exact_mark (codes "[") (exact_expr room >>= (λ m. exact_mark (codes ":") (exact_expr room >>= (λ l. exact_mark (codes "]") (exact_pure (record { msb = m; lsb = l })))))))
    (λ us r next h.
    let a = h.behind in let b = a.behind in let c = b.behind in let d = c.behind in let e = d.behind in
    let one = a.here.shallow in let two = c.here.shallow in
    let m = ap (λ z. depth z.msb) e.is in let l = ap (λ z. depth z.lsb) e.is in
    fit (g.range h.lexeme b.lexeme d.lexeme a.one c.one h.holds (subst (SpellsPlain a.one) (ap (λ z. z.msb) (sym e.is)) a.here.spelled) b.holds
    (subst (SpellsPlain c.one) (ap (λ z. z.lsb) (sym e.is)) c.here.spelled) d.holds cc) (omega arith))
    (λ us r next f. let low = f.shallow in elim f.spelled [
      | g.range left colon right is js opens one colons two closes parts ↦
          of_parts parts (lead opens (row is _ r.msb (before (fit one (omega arith)) (at_colon colon refl colons)) (lead colons
          (row js _ r.lsb (before (fit two (omega arith)) (at_square right refl closes)) (lead closes done)))))
    ])

range_opens : (us : List Lexeme) (r : Range) (next : Option Lexeme) → SpellsRange us r → sees (codes "[") (front us next) ≡ true
unfolding sees
range_opens us r next (g.range left colon right is js opens one colons two closes parts) = ap (λ z. sees (codes "[") (front z next)) parts ∙ opens

-- [ range ]
exact_across : (room : ℕ) → Exact (optional (sees (codes "[")) (range room)) (Fits (SpellsOptional SpellsRange) depth_of_range room) (Before (λ o. sees (codes "[") o ≡ false) (Fits (SpellsOptional SpellsRange) depth_of_range room))
unfolding depth_of_range
exact_across room = exact_option SpellsRange (λ r. max (depth r.msb) (depth r.lsb)) depth_of_range room (sees (codes "[")) (λ o. Unit {0}) (λ o. sees (codes "[") o ≡ false)
    refl (λ r. refl) range_opens (λ o m. tt) (λ o m. m) (exact_before (exact_range room))

exact_signed : Exact (flag (codes "signed")) (λ us b next. SpellsSigned us b) (Before (λ o. sees_word (codes "signed") o ≡ false) (λ us b next. SpellsSigned us b))
exact_signed = exact_as (exact_flag (codes "signed"))
    (λ us b next f. elim f [ absent nil is unseen ↦ g.unsigned nil is | there l parts is found ↦ g.signed l is parts found ])
    (λ us b next f. elim f.said [ g.unsigned nil is ↦ absent nil is f.ahead | g.signed l is parts found ↦ there l parts is found ])

second_unsigned : (us : List Lexeme) (o : Option Range) (next : Option Lexeme) → SpellsOptional SpellsRange us o → NameAhead next → sees_word (codes "signed") (front us next) ≡ false
unfolding is_reserved reserved_with
second_unsigned us o next (l.absent nil is) n = ap (λ z. sees_word (codes "signed") (front z next)) nil ∙ (ap (sees_word (codes "signed")) n.is ∙ name_word n.lexeme n.ident 115 (codes "igned") n.named refl refl)
second_unsigned us o next (l.present r (g.range left colon right is js opens one colons two closes parts) o-is) n =
    ap (λ z. sees_word (codes "signed") (front z next)) parts ∙ mark_word 91 [] 115 (codes "igned") left opens

name_opens_no_range : (o : Option Lexeme) → NameAhead o → sees (codes "[") o ≡ false
name_opens_no_range o n = ap (sees (codes "[")) n.is ∙ name_mark n.lexeme n.ident 91 [] n.named

-- [ "signed" ] [ range ]
pub exact_shape : (room : ℕ) → Exact (shape room) (Fits SpellsShape depth_of_shape room) (Before NameAhead (Fits SpellsShape depth_of_shape room))
unfolding shape depth_of_shape
exact_shape room =
    exact_said (exact_signed >>= (λ s. exact_across room >>= (λ a. exact_pure (record { signed = s; range = a }))))
    (λ us s next h.
    let a = h.behind in let d = a.behind in let low = a.here.shallow in
    let deep = ap (λ z. depth_of_range z.range) d.is in
    fit (g.shape h.one a.one (subst (SpellsSigned h.one) (ap (λ z. z.signed) (sym d.is)) h.here) (subst (SpellsOptional SpellsRange a.one) (ap (λ z. z.range) (sym d.is)) a.here.spelled)
    (cc (append-nil a.one))) (omega arith))
    (λ us s next f. let low = f.said.shallow in elim f.said.spelled [
      | g.shape is js one two parts ↦
          of_parts parts (row is js s.signed (before one (second_unsigned js s.range next two f.ahead)) (final s.range (before (fit two low) (name_opens_no_range next f.ahead))))
    ])

abbrev pub NotDriven : Option Lexeme → Type 0
NotDriven o = (sees_word (codes "wire") o ≡ false) × (sees_word (codes "reg") o ≡ false)

abbrev Turns : Spelling Direction
Turns us d next = SpellsDirection us d

input_to : (us : List Lexeme) (d : Direction) (next : Option Lexeme) → Lead (IsWord (codes "input")) (Row (Flag (codes "wire")) (λ b. Done Input)) us d next → SpellsDirection us d
input_to us d next h = by h.behind.here
  where
    by : Flag (codes "wire") h.behind.one h.behind.answer (front h.behind.two next) → SpellsDirection us d
    by (absent nil is unseen) = let r = h.behind in let e = r.behind in g.input h.lexeme h.holds (cc) e.is
    by (there l parts is found) = let r = h.behind in let e = r.behind in g.input_wire h.lexeme l h.holds is (cc) e.is

driven_to : (word : Lexeme) (ds us : List Lexeme) (d : Direction) (next : Option Lexeme) → IsWord (codes "output") word → us ≡ word ∷ ds
    → Row (Flag (codes "reg")) (λ held. Either held (Done Register) (Row (Flag (codes "wire")) (λ b. Done Output))) ds d next → SpellsDirection us d
driven_to word ds us d next is parts r = by r.here r.behind
  where
    wired : (held : Bool) → r.one ≡ [] → (q : Row (Flag (codes "wire")) (λ b. Done Output) r.two d next) → Flag (codes "wire") q.one q.answer (front q.two next) → SpellsDirection us d
    wired held none q (absent nil was unseen) = let e = q.behind in g.output word is (cc) e.is
    wired held none q (there l all found was) = let e = q.behind in g.output_wire word l is found (cc) e.is

    by : Flag (codes "reg") r.one r.answer (front r.two next) → Either r.answer (Done Register) (Row (Flag (codes "wire")) (λ b. Done Output)) r.two d next → SpellsDirection us d
    by (absent nil was unseen) (inl (held, e)) = cc
    by (absent nil was unseen) (inr (held, q)) = wired r.answer nil q q.here
    by (there l all found was) (inl (held, e)) = g.output_reg word l is found (cc) e.is
    by (there l all found was) (inr (held, q)) = cc

direction_to : (us : List Lexeme) (d : Direction) (next : Option Lexeme)
    → Either (sees_word (codes "input") (front us next)) (Lead (IsWord (codes "input")) (Row (Flag (codes "wire")) (λ b. Done Input)))
    (Lead (IsWord (codes "output")) (Row (Flag (codes "reg")) (λ held. Either held (Done Register) (Row (Flag (codes "wire")) (λ b. Done Output))))) us d next → SpellsDirection us d
direction_to us d next (inl (seen, h)) = input_to us d next h
direction_to us d next (inr (seen, h)) = driven_to h.lexeme h.others us d next h.holds h.is h.behind

-- what a direction is spelled as, and how it is read
abbrev In : Spelling Direction
In = Lead (IsWord (codes "input")) (Row (Flag (codes "wire")) (λ b. Done Input))

abbrev Out : Spelling Direction
Out = Lead (IsWord (codes "output")) (Row (Flag (codes "reg")) (λ held. Either held (Done Register) (Row (Flag (codes "wire")) (λ b. Done Output))))

direction_from : (us : List Lexeme) (d : Direction) (next : Option Lexeme) → SpellsDirection us d → NotDriven next → Either (sees_word (codes "input") (front us next)) In Out us d next
unfolding sees_word is_word
direction_from us d next (g.input l is parts same) n = inl (
  ap (λ z. sees_word (codes "input") (front z next)) parts ∙ is,
  record { lexeme = l; others = []; is = parts; holds = is; behind = record { one = []; two = []; answer = false; is = refl; here = absent refl refl n.0; behind = record { none = refl; is = same } } },
)
direction_from us d next (g.input_wire l m is wired parts same) n = inl (
  ap (λ z. sees_word (codes "input") (front z next)) parts ∙ is,
  record { lexeme = l; others = m ∷ []; is = parts; holds = is; behind = record { one = m ∷ []; two = []; answer = true; is = refl; here = there m refl wired refl; behind = record { none = refl; is = same } } },
)
direction_from us d next (g.output l is parts same) n = inr (
  ap (λ z. sees_word (codes "input") (front z next)) parts ∙ other_word (codes "output") (codes "input") l is refl,
  record {
    lexeme = l;
    others = [];
    is = parts;
    holds = is;
    behind = record {
      one = [];
      two = [];
      answer = false;
      is = refl;
      here = absent refl refl n.1;
      behind = inr (refl, record { one = []; two = []; answer = false; is = refl; here = absent refl refl n.0; behind = record { none = refl; is = same } });
    };
  },
)
direction_from us d next (g.output_wire l m is wired parts same) n = inr (
  ap (λ z. sees_word (codes "input") (front z next)) parts ∙ other_word (codes "output") (codes "input") l is refl,
  record {
    lexeme = l;
    others = m ∷ [];
    is = parts;
    holds = is;
    behind = record {
      one = [];
      two = m ∷ [];
      answer = false;
      is = refl;
      here = absent refl refl (other_word (codes "wire") (codes "reg") m wired refl);
      behind = inr (refl, record { one = m ∷ []; two = []; answer = true; is = refl; here = there m refl wired refl; behind = record { none = refl; is = same } });
    };
  },
)
direction_from us d next (g.output_reg l m is held parts same) n = inr (
  ap (λ z. sees_word (codes "input") (front z next)) parts ∙ other_word (codes "output") (codes "input") l is refl,
  record {
    lexeme = l;
    others = m ∷ [];
    is = parts;
    holds = is;
    behind = record {
      one = m ∷ [];
      two = [];
      answer = true;
      is = refl;
      here = there m refl held refl;
      behind = inl (refl, record { none = refl; is = same });
    };
  },
)

pub exact_direction : Exact direction (λ us d next. SpellsDirection us d) (Before NotDriven (λ us d next. SpellsDirection us d))
unfolding direction input output driven
exact_direction =
    exact_as (exact_peek (sees_word (codes "input")) (λ inward. exact_if inward
    (exact_word (codes "input") (exact_flag (codes "wire") >>= (λ b. exact_pure Input)))
    (exact_word (codes "output") (exact_flag (codes "reg") >>= (λ held. exact_if held (exact_pure Register) (exact_flag (codes "wire") >>= (λ b. exact_pure Output)))))))
    direction_to (λ us d next b. direction_from us d next b.said b.ahead)

-- "=" expr
pub exact_value : (room : ℕ) → Exact (value room) (Fits SpellsValue depth room) (Before Ends (Fits SpellsValue depth room))
unfolding value
exact_value room =
    exact_said (exact_mark (codes "=") (exact_expr room))
    (λ us e next h. fit (g.value h.lexeme h.others h.holds h.behind.spelled h.is) h.behind.shallow)
    (λ us e next f. let low = f.said.shallow in elim f.said.spelled [ g.value equals es is e parts ↦ of_parts parts (lead is (before (fit e low) f.ahead)) ])

value_opens : (us : List Lexeme) (e : Expr) (next : Option Lexeme) → SpellsValue us e → sees (codes "=") (front us next) ≡ true
unfolding sees
value_opens us e next (g.value equals es is x parts) = ap (λ z. sees (codes "=") (front z next)) parts ∙ is

value_ahead : (us : List Lexeme) (e : Expr) (next : Option Lexeme) → SpellsValue us e → MarkAhead (codes "=") (front us next)
value_ahead us e next (g.value equals es is x parts) = record { lexeme = equals; is = ap (λ z. front z next) parts; marks = is }

ends_no_value : (o : Option Lexeme) → Ends o → sees (codes "=") o ≡ false
ends_no_value o e = ends_unlike (codes "=") e refl refl refl refl refl

exact_driver : (room : ℕ) → Exact (optional (sees (codes "=")) (value room)) (Fits (SpellsOptional SpellsValue) depth_if room) (Before Ends (Fits (SpellsOptional SpellsValue) depth_if room))
unfolding depth_if
exact_driver room = exact_option SpellsValue depth depth_if room (sees (codes "=")) Ends Ends refl (λ e. refl) value_opens (λ o e. e) ends_no_value (exact_value room)

module _ (room : ℕ) (some : 1 ≤ room) where
  -- id [ "=" expr ]
  pub exact_net : Exact (net room) (Fits SpellsNet depth_of_net room) (Before Ends (Fits SpellsNet depth_of_net room))
  unfolding net depth_of_net
  exact_net =
      exact_said (exact_ident (λ i. exact_driver room >>= (λ d. exact_pure (record { name = i; driver = d }))))
      (λ us n next h.
      let a = h.behind in let d = a.behind in let low = a.here.shallow in let deep = ap (λ z. depth_if z.driver) d.is in
      fit (g.net h.lexeme a.one (subst (IsIdent h.lexeme) (ap (λ z. z.name) (sym d.is)) h.holds) (subst (SpellsOptional SpellsValue a.one) (ap (λ z. z.driver) (sym d.is)) a.here.spelled) (cc (append-nil a.one))) (omega arith))
      (λ us n next f. let low = f.said.shallow in elim f.said.spelled [
        | g.net l vs is o parts ↦
            of_parts parts (call n.name is (final n.driver (before (fit o (omega arith)) f.ahead)))
      ])

  -- id "=" expr
  pub exact_binding : Exact (binding room) (Fits SpellsBinding depth_of_binding room) (Before Ends (Fits SpellsBinding depth_of_binding room))
  unfolding binding depth_of_binding
  exact_binding =
      exact_said (exact_ident (λ i. exact_value room >>= (λ v. exact_pure (record { name = i; value = v }))))
      (λ us b next h.
      let a = h.behind in let d = a.behind in let low = a.here.shallow in let deep = ap (λ z. depth z.value) d.is in
      fit (g.binding h.lexeme a.one (subst (IsIdent h.lexeme) (ap (λ z. z.name) (sym d.is)) h.holds) (subst (SpellsValue a.one) (ap (λ z. z.value) (sym d.is)) a.here.spelled) (cc (append-nil a.one))) (omega arith))
      (λ us b next f. let low = f.said.shallow in elim f.said.spelled [
        | g.binding l vs is v parts ↦
            of_parts parts (call b.name is (final b.value (before (fit v (omega arith)) f.ahead)))
      ])

  -- lval "=" expr
  pub exact_assignment : Laws → Exact (assignment room) (Fits SpellsAssignment depth_of_assignment room) (Before Ends (Fits SpellsAssignment depth_of_assignment room))
  unfolding assignment depth_of_assignment
  exact_assignment laws =
      exact_said (laws.exact_target room >>= (λ t. exact_value room >>= (λ v. exact_pure (record { target = t; value = v }))))
      (λ us b next h.
      let a = h.behind in let d = a.behind in let high = h.here.shallow in let low = a.here.shallow in
      let deep = ap (λ z. depth z.value) d.is in let wide = ap (λ z. depth z.target) d.is in
      fit (g.assignment h.one a.one (subst (SpellsTarget h.one) (ap (λ z. z.target) (sym d.is)) h.here.spelled) (subst (SpellsValue a.one) (ap (λ z. z.value) (sym d.is)) a.here.spelled) (cc (append-nil a.one))) (omega arith))
      (λ us b next f. let low = f.said.shallow in elim f.said.spelled [
        | g.assignment ts vs t v parts ↦
            of_parts parts (row ts vs b.target (before (fit t (omega arith)) (value_ahead vs b.value next v)) (final b.value (before (fit v (omega arith)) f.ahead)))
      ])

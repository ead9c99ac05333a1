-- What the readers of a module and its head take.
use Rattle.std.proofs.Common.{◌≡◌, ℕ, ◌≤◌, true, false, inl, inr, List, [], ◌∷◌, ◌++◌, Option, Some, refl, sym, ap, ◌∙◌, subst, append-nil, arith}
use Rattle.std.specs.Prelude.{codes}
use Rattle.vlog_tree.specs.declared.port.Shape.{Shape}
use Rattle.vlog_tree.specs.declared.module.Parameter.{Parameter}
use Rattle.vlog_tree.specs.Lexemes.{Lexeme, IsMark, IsWord}
use Rattle.vlog_tree.specs.Reserved.{is_reserved, reserved_with}
use Rattle.vlog_tree.specs.Lists.{SpellsCommas, SpellsIdent}
use Rattle.vlog_tree.specs.Lists as l
use Rattle.vlog_tree.specs.Declarations as g
use Rattle.vlog_tree.specs.Declarations.{SpellsShape, SpellsDirection, SpellsBinding}
use Rattle.vlog_tree.specs.Modules as t
use Rattle.vlog_tree.specs.Modules.{SpellsParameter, SpellsFurther, AreParameters, SpellsParameters, SpellsName, SpellsAnsi, SpellsPort, ArePorts, SpellsPorts, SpellsModule}
use Rattle.vlog_tree.specs.Depth.{deepest_of, depth_of_shape, depth_of_binding, depth_of_parameter}
use Rattle.vlog_expr.specs.Reading.{sees, sees_word}
use Rattle.vlog_parse.specs.Lists.{others}
use Rattle.vlog_parse.specs.Modules.{parameter, further, parameter_list, parameters_there, parameters}
use Rattle.vlog_parse.proofs.Exact.{Spelling, front, Exact, exact_as, Row, ◌>>=◌, Done, exact_pure, Lead, exact_mark, exact_word, exact_peek, Either, exact_if, Flag, absent, there, exact_flag, lead, row, final, done, of_parts, exact_said}
use Rattle.vlog_parse.proofs.Commas.{Fits, Before, fit, before, Tail, no_tail, tail, exact_tail, deepest_one, deepest_none}
use Rattle.vlog_parse.proofs.Looks.{Ends, at_comma, Closes, closes_end, closes_no_comma, mark_word, name_word, other_word}
use Rattle.vlog_parse.proofs.PartsExact.{exact_shape, exact_binding}
use Rattle.vlog_parse.proofs.DeclarationsExact.{name_ahead, binding_starting}

-- what a shape and a name begin with: neither that word nor that mark
pub shape_front : (w : ℕ) (ws : List ℕ) (ss vs : List Lexeme) (s : Shape) (next : Option Lexeme) → SpellsShape ss s → sees_word (w ∷ ws) (front vs next) ≡ false
    → ((m : Lexeme) → IsWord (codes "signed") m → sees_word (w ∷ ws) (Some m) ≡ false) → sees_word (w ∷ ws) (front (ss ++ vs) next) ≡ false
shape_front w ws ss vs s next (g.shape is js (g.signed m word parts b) o all) behind other =
    ap (λ z. sees_word (w ∷ ws) (front z next)) (ap (λ z. z ++ vs) (all ∙ ap (λ z. z ++ js) parts)) ∙ other m word
shape_front w ws ss vs s next (g.shape is js (g.unsigned nil b) (l.present r (g.range left colon right xs ys opens one colons two closes parts) o-is) all) behind other =
    ap (λ z. sees_word (w ∷ ws) (front z next)) (ap (λ z. z ++ vs) (all ∙ (ap (λ z. z ++ js) nil ∙ parts))) ∙ mark_word 91 [] w ws left opens
shape_front w ws ss vs s next (g.shape is js (g.unsigned nil b) (l.absent none o-is) all) behind other =
    ap (λ z. sees_word (w ∷ ws) (front z next)) (ap (λ z. z ++ vs) (all ∙ (ap (λ z. z ++ js) nil ∙ none))) ∙ behind

module _ (room : ℕ) (some : 1 ≤ room) where
  abbrev Pars : Spelling Parameter
  Pars = Fits SpellsParameter depth_of_parameter room

  exact_parameter : Exact (parameter room) Pars (Before Ends Pars)
  unfolding parameter depth_of_parameter
  exact_parameter = exact_said (exact_shape room >>= (λ s. exact_binding room some >>= (λ b. exact_pure (record { shape = s; binding = b }))))
      (λ us p next h.
      let a = h.behind in let d = a.behind in let one = h.here.shallow in let two = a.here.shallow in
      let s = ap (λ z. depth_of_shape z.shape) d.is in let b = ap (λ z. depth_of_binding z.binding) d.is in
      fit (t.parameter h.one a.one (subst (SpellsShape h.one) (ap (λ z. z.shape) (sym d.is)) h.here.spelled) (subst (SpellsBinding a.one) (ap (λ z. z.binding) (sym d.is)) a.here.spelled) (cc (append-nil a.one))) (omega arith))
      (λ us p next f. let low = f.said.shallow in elim f.said.spelled [
        | t.parameter ss bs s b parts ↦
            of_parts parts (row ss bs p.shape (before (fit s (omega arith)) (name_ahead next (binding_starting bs p.binding b))) (final p.binding (before (fit b (omega arith)) f.ahead)))
      ])

  parameter_front : (us : List Lexeme) (p : Parameter) (next : Option Lexeme) → SpellsParameter us p → sees_word (codes "parameter") (front us next) ≡ false
  unfolding is_reserved reserved_with
  parameter_front us p next (t.parameter ss bs s b parts) =
      let n = name_ahead next (binding_starting bs p.binding b) in
      ap (λ z. sees_word (codes "parameter") (front z next)) parts
      ∙ shape_front 112 (codes "arameter") ss bs p.shape next s (ap (sees_word (codes "parameter")) n.is ∙ name_word n.lexeme n.ident 112 (codes "arameter") n.named refl refl) (λ m is. other_word (codes "signed") (codes "parameter") m is refl)

  further_to : (us : List Lexeme) (p : Parameter) (next : Option Lexeme) (r : Row (Flag (codes "parameter")) (λ said. Pars) us p next) → Flag (codes "parameter") r.one r.answer (front r.two next) → SpellsFurther us p
  further_to us p next r (absent nil is unseen) = t.without (subst (λ z. SpellsParameter z p) (sym (r.is ∙ ap (λ z. z ++ r.two) nil)) r.behind.spelled)
  further_to us p next r (there m parts is found) = t.with m r.two is r.behind.spelled (r.is ∙ ap (λ z. z ++ r.two) parts)

  further_from : (us : List Lexeme) (p : Parameter) (next : Option Lexeme) → SpellsFurther us p → depth_of_parameter p ≤ room → Ends next → Row (Flag (codes "parameter")) (λ said. Before Ends Pars) us p next
  further_from us p next (t.without s) low ends = record { one = []; two = us; answer = false; is = refl; here = absent refl refl (parameter_front us p next s); behind = before (fit s low) ends }
  further_from us p next (t.with word ps is s parts) low ends = record { one = word ∷ []; two = ps; answer = true; is = parts; here = there word refl is refl; behind = before (fit s low) ends }

  exact_further : Exact (further room) (Fits SpellsFurther depth_of_parameter room) (Before Ends (Fits SpellsFurther depth_of_parameter room))
  unfolding further
  exact_further = exact_as (exact_flag (codes "parameter") >>= (λ said. exact_parameter))
      (λ us p next r. fit (further_to us p next r r.here) r.behind.shallow)
      (λ us p next b. further_from us p next b.said.spelled b.said.shallow b.ahead)

  Furthers : Spelling (List Parameter)
  Furthers = Tail SpellsFurther depth_of_parameter room

  exact_furthers : Exact (others (further room)) Furthers (Before Closes Furthers)
  unfolding Furthers
  exact_furthers = exact_tail SpellsFurther depth_of_parameter room Ends Closes (λ l is. at_comma l refl is) closes_end closes_no_comma exact_further

  abbrev All : Spelling (List Parameter)
  All = Fits AreParameters (deepest_of depth_of_parameter) room

  list_by : (us vs ys : List Lexeme) (ps qs : List Parameter) (p : Parameter) (word : Lexeme) (next : Option Lexeme) → IsWord (codes "parameter") word → SpellsParameter vs p → depth_of_parameter p ≤ room → Furthers ys qs next
      → us ≡ word ∷ (vs ++ ys) → ps ≡ p ∷ qs → All us ps next
  unfolding Furthers
  list_by us vs ys ps qs p word next is s low (no_tail nil none) parts all =
      let deep = ap (deepest_of depth_of_parameter) (all ∙ ap (λ z. p ∷ z) none) ∙ deepest_one depth_of_parameter p [] in let zero-deep = deepest_none depth_of_parameter in
      fit (t.one word vs p is s (parts ∙ ap (λ z. word ∷ z) (ap (λ z. vs ++ z) nil ∙ append-nil vs)) (all ∙ ap (λ z. p ∷ z) none)) (omega arith)
  list_by us vs ys ps qs p word next is s low (tail comma js at marks o rest) parts all =
      let deep = ap (deepest_of depth_of_parameter) all ∙ deepest_one depth_of_parameter p qs in
      fit (t.more word comma vs js p qs is s marks o (parts ∙ ap (λ z. word ∷ (vs ++ z)) at) all) (omega arith)

  list_from : (us : List Lexeme) (ps : List Parameter) (next : Option Lexeme) → AreParameters us ps → deepest_of depth_of_parameter ps ≤ room → Closes next
      → Lead (IsWord (codes "parameter")) (Row (Before Ends Pars) (λ p. Row (Before Closes Furthers) (λ qs. Done (p ∷ qs)))) us ps next
  unfolding Furthers
  list_from us ps next (t.one word xs p is s parts all) low closes =
      let deep = ap (deepest_of depth_of_parameter) all ∙ deepest_one depth_of_parameter p [] in
      record {
        lexeme = word;
        others = xs;
        is = parts;
        holds = is;
        behind = record {
          one = xs;
          two = [];
          answer = p;
          is = sym (append-nil xs);
          here = before (fit s (omega arith)) (closes_end next closes);
          behind = record { one = []; two = []; answer = []; is = refl; here = before (no_tail refl refl) closes; behind = record { none = refl; is = all } };
        };
      }
  list_from us ps next (t.more word comma xs ys p qs is s marks o parts all) low closes =
      let deep = ap (deepest_of depth_of_parameter) all ∙ deepest_one depth_of_parameter p qs in
      record {
        lexeme = word;
        others = xs ++ comma ∷ ys;
        is = parts;
        holds = is;
        behind = record {
          one = xs;
          two = comma ∷ ys;
          answer = p;
          is = refl;
          here = before (fit s (omega arith)) (at_comma comma refl marks);
          behind = record { one = comma ∷ ys; two = []; answer = qs; is = sym (append-nil (comma ∷ ys)); here = before (tail comma ys refl marks o (omega arith)) closes; behind = record { none = refl; is = all } };
        };
      }

  exact_parameter_list : Exact (parameter_list room) All (Before Closes All)
  unfolding parameter_list
  exact_parameter_list = exact_as (exact_word (codes "parameter") (exact_parameter >>= (λ p. exact_furthers >>= (λ qs. exact_pure (p ∷ qs)))))
      (λ us ps next h.
      let a = h.behind in let b = a.behind in let d = b.behind in
      let same : b.one ≡ a.two = cc (append-nil b.one) in
      list_by us a.one a.two ps b.answer a.answer h.lexeme next h.holds a.here.spelled a.here.shallow
      (subst (λ z. Furthers z b.answer next) same (subst (λ z. Furthers b.one b.answer (front z next)) d.none b.here)) (h.is ∙ ap (λ z. h.lexeme ∷ z) a.is) d.is)
      (λ us ps next b. list_from us ps next b.said.spelled b.said.shallow b.ahead)

  -- no parameters stand there
  abbrev pub NoHash : Option Lexeme → Type 0
  NoHash o = sees (codes "#") o ≡ false

  abbrev pub Parameters : Spelling (List Parameter)
  Parameters = Fits SpellsParameters (deepest_of depth_of_parameter) room

  parameters_from : (us : List Lexeme) (ps : List Parameter) (next : Option Lexeme) → SpellsParameters us ps → deepest_of depth_of_parameter ps ≤ room → NoHash next
      → Either (sees (codes "#") (front us next)) (Lead (IsMark (codes "#")) (Lead (IsMark (codes "(")) (Row (Before Closes All) (λ ps. Lead (IsMark (codes ")")) (Done ps))))) (Done []) us ps next
  unfolding sees
  parameters_from us ps next (t.none nil all) low n = inr (ap (λ z. sees (codes "#") (front z next)) nil ∙ n, record { none = nil; is = all })
  parameters_from us ps next (t.some hash left right xs hashes opens s closes parts) low n =
      inl (
        ap (λ z. sees (codes "#") (front z next)) parts ∙ hashes,
        record {
          lexeme = hash;
          others = left ∷ (xs ++ right ∷ []);
          is = parts;
          holds = hashes;
          behind = lead opens (row xs (right ∷ []) ps (before (fit s low) (record { lexeme = right; is = refl; marks = closes })) (lead closes done));
        },
      )

  parameters_to : (us : List Lexeme) (ps : List Parameter) (next : Option Lexeme)
      → Either (sees (codes "#") (front us next)) (Lead (IsMark (codes "#")) (Lead (IsMark (codes "(")) (Row All (λ ps. Lead (IsMark (codes ")")) (Done ps))))) (Done []) us ps next → Parameters us ps next
  parameters_to us ps next (inr (unseen, d)) = let deep = ap (deepest_of depth_of_parameter) d.is ∙ deepest_none depth_of_parameter in fit (t.none d.none d.is) (omega arith)
  parameters_to us ps next (inl (seen, h)) =
      let a = h.behind in let r = a.behind in let b = r.behind in let d = b.behind in let low = r.here.shallow in let deep = ap (deepest_of depth_of_parameter) d.is in
      fit (t.some h.lexeme a.lexeme b.lexeme r.one h.holds a.holds (subst (λ z. AreParameters r.one z) (sym d.is) r.here.spelled) b.holds (cc)) (omega arith)

  pub exact_parameters : Exact (parameters room) Parameters (Before NoHash Parameters)
  unfolding parameters parameters_there
  exact_parameters = exact_as (exact_peek (sees (codes "#")) (λ hash. exact_if hash (exact_mark (codes "#") (exact_mark (codes "(") (exact_parameter_list >>= (λ ps. exact_mark (codes ")") (exact_pure ps))))) (exact_pure [])))
      parameters_to (λ us ps next b. parameters_from us ps next b.said.spelled b.said.shallow b.ahead)

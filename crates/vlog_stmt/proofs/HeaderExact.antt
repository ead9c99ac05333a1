-- The reader of what stands behind `for` is exact.
use Rattle.std.proofs.Common.{ℕ, ◌≤◌, List, [], ◌∷◌, ◌++◌, Option, Some, refl, sym, subst, arith}
use Rattle.std.specs.Prelude.{codes}
use Rattle.vlog_tree.specs.declared.expr.Expr.{Expr}
use Rattle.vlog_tree.specs.declared.stmt.Loop.{Loop}
use Rattle.vlog_tree.specs.Lexemes.{Lexeme, IsMark}
use Rattle.vlog_tree.specs.Operators.{binary_of, binary_of_one}
use Rattle.vlog_tree.specs.Expressions.{SpellsPlain}
use Rattle.vlog_tree.specs.Statements.{SpellsLoop, loop}
use Rattle.vlog_tree.specs.Depth.{depth, deepest, depth_of_loop}
use Rattle.vlog_expr.proofs.MarkLemmas.{Quiet, quiet, quiet_round}
use Rattle.vlog_expr.proofs.SpelledLemmas.{sized}
use Rattle.vlog_expr.proofs.PlainLemmas.{quiet_ended}
use Rattle.vlog_stmt.specs.Statements.{header}
use Rattle.vlog_stmt.proofs.Exact.{Exact, Nothing, Behind, Row, exact_as, exact_pure, exact_mark, ◌>>=◌}
use Rattle.vlog_stmt.proofs.PiecesExact.{Value, Name, exact_value, exact_ident}

pub quiet_semi : (r : Lexeme) → IsMark (codes ";") r → Quiet r
unfolding binary_of binary_of_one
quiet_semi r marks = quiet (codes ";") r marks refl refl refl

pub record Header (room : ℕ) (us : List Lexeme) (h : Loop) (next : Option Lexeme) : Type 0 where
  pub spelled : SpellsLoop us h
  pub shallow : depth_of_loop h ≤ room

valued : (room : ℕ) (us : List Lexeme) (x : Expr) (r : Lexeme) → SpellsPlain us x → depth x ≤ room → Quiet r → Value room us x (Some r)
valued room us x r spelled shallow q = record { spelled = spelled; shallow = shallow; ended = quiet_ended x r q }

shallow_to : (room : ℕ) (h : Loop) → 1 ≤ depth h.start → depth h.start ≤ room → depth h.test ≤ room → depth h.step ≤ room → depth_of_loop h ≤ room
unfolding depth_of_loop deepest
shallow_to room h some start test step = omega arith

shallow_back : (room : ℕ) (h : Loop) → depth_of_loop h ≤ room → (depth h.start ≤ room) × (depth h.test ≤ room) × (depth h.step ≤ room)
unfolding depth_of_loop deepest
shallow_back room h le = (omega arith, omega arith, omega arith)

-- what is spelled, read from left to right
header_back : (room : ℕ) (us : List Lexeme) (h : Loop) (next : Option Lexeme) → SpellsLoop us h → depth_of_loop h ≤ room
    → Behind (IsMark (codes "(")) (Row Name (λ variable. Behind (IsMark (codes "=")) (Row (Value room) (λ start. Behind (IsMark (codes ";")) (Row (Value room) (λ test. Behind (IsMark (codes ";"))
    (Row Name (λ stepped. Behind (IsMark (codes "=")) (Row (Value room) (λ step. Behind (IsMark (codes ")"))
    (Nothing (record { variable = variable; start = start; test = test; stepped = stepped; step = step })))))))))))) us h next
header_back room us h next (loop left fst equals semi semi' snd equals' right xs ys zs opens a b start c test d f g step closes parts) deep =
    let s = shallow_back room h deep in
    record {
      lexeme = left;
      others = fst ∷ equals ∷ (xs ++ semi ∷ (ys ++ semi' ∷ snd ∷ equals' ∷ (zs ++ right ∷ [])));
      is = opens;
      parts = parts;
      spelled =
          record {
            left = fst ∷ [];
            right = equals ∷ (xs ++ semi ∷ (ys ++ semi' ∷ snd ∷ equals' ∷ (zs ++ right ∷ [])));
            mid = h.variable;
            parts = refl;
            one = record { lexeme = fst; is = a; parts = refl };
            two =
                record {
                  lexeme = equals;
                  others = xs ++ semi ∷ (ys ++ semi' ∷ snd ∷ equals' ∷ (zs ++ right ∷ []));
                  is = b;
                  parts = refl;
                  spelled =
                      record {
                        left = xs;
                        right = semi ∷ (ys ++ semi' ∷ snd ∷ equals' ∷ (zs ++ right ∷ []));
                        mid = h.start;
                        parts = refl;
                        one = valued room xs h.start semi start s.0 (quiet_semi semi c);
                        two =
                            record {
                              lexeme = semi;
                              others = ys ++ semi' ∷ snd ∷ equals' ∷ (zs ++ right ∷ []);
                              is = c;
                              parts = refl;
                              spelled =
                                  record {
                                    left = ys;
                                    right = semi' ∷ snd ∷ equals' ∷ (zs ++ right ∷ []);
                                    mid = h.test;
                                    parts = refl;
                                    one = valued room ys h.test semi' test s.1 (quiet_semi semi' d);
                                    two =
                                        record {
                                          lexeme = semi';
                                          others = snd ∷ equals' ∷ (zs ++ right ∷ []);
                                          is = d;
                                          parts = refl;
                                          spelled =
                                              record {
                                                left = snd ∷ [];
                                                right = equals' ∷ (zs ++ right ∷ []);
                                                mid = h.stepped;
                                                parts = refl;
                                                one = record { lexeme = snd; is = f; parts = refl };
                                                two =
                                                    record {
                                                      lexeme = equals';
                                                      others = zs ++ right ∷ [];
                                                      is = g;
                                                      parts = refl;
                                                      spelled =
                                                          record {
                                                            left = zs;
                                                            right = right ∷ [];
                                                            mid = h.step;
                                                            parts = refl;
                                                            one = valued room zs h.step right step s.2 (quiet_round right closes);
                                                            two =
                                                                record { lexeme = right; others = []; is = closes; parts = refl; spelled = record { none = refl; same = refl } };
                                                          };
                                                    };
                                              };
                                        };
                                  };
                            };
                      };
                };
          };
    }

pub exact_header : (room : ℕ) → Exact (header room) (Header room)
unfolding header
exact_header room =
    let built =
    exact_mark (codes "(") (exact_ident >>= (λ variable. exact_mark (codes "=") (exact_value room >>= (λ start. exact_mark (codes ";") (exact_value room >>= (λ test. exact_mark (codes ";")
    (exact_ident >>= (λ stepped. exact_mark (codes "=") (exact_value room >>= (λ step. exact_mark (codes ")")
    (exact_pure (record { variable = variable; start = start; test = test; stepped = stepped; step = step })))))))))))) in
    exact_as (Header room) built
    (λ us h next r.
    let v = r.spelled in
    let e = v.two in
    let start = e.spelled in
    let s = start.two in
    let test = s.spelled in
    let t = test.two in
    let w = t.spelled in
    let f = w.two in
    let step = f.spelled in
    let close = step.two in
    let n = close.spelled in
    let some = (sized start.one.spelled.spells).some in
    subst (λ z. Header room us z next) (sym n.same) (record {
      spelled = loop r.lexeme v.one.lexeme e.lexeme s.lexeme t.lexeme w.one.lexeme f.lexeme close.lexeme start.left test.left step.left
          r.is v.one.is e.is start.one.spelled s.is test.one.spelled t.is w.one.is f.is step.one.spelled close.is
          (rw (r.parts, v.parts, v.one.parts, e.parts, start.parts, s.parts, test.parts, t.parts, w.parts, w.one.parts, f.parts, step.parts, close.parts, n.none) refl);
      shallow = shallow_to room (record { variable = v.mid; start = start.mid; test = test.mid; stepped = w.mid; step = step.mid }) some start.one.shallow test.one.shallow step.one.shallow;
    }))
    (λ us h next s. header_back room us h next s.spelled s.shallow)

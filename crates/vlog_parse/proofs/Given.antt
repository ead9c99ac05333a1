-- The laws of what the crates below read, as they are needed here.
--     laws                            those of statements, targets, controls and loop headers
use Rattle.std.proofs.Common.{◌≡◌, ℕ, ◌-◌, ◌≤◌, Bool, true, false, List, Option, refl, sym, subst}
use Rattle.std.specs.Prelude.{codes}
use Rattle.vlog_tree.specs.declared.expr.Expr.{Expr}
use Rattle.vlog_tree.specs.declared.stmt.Stmt.{Stmt}
use Rattle.vlog_tree.specs.Lexemes.{Lexeme, IsMark}
use Rattle.vlog_tree.specs.Operators.{binary_of, binary_of_one}
use Rattle.vlog_tree.specs.Expressions.{SpellsPlain, SpellsTarget}
use Rattle.vlog_tree.specs.Statements.{SpellsStmt, SpellsControl, SpellsLoop}
use Rattle.vlog_tree.specs.Depth.{depth, depth_of_stmt, depth_of_control, depth_of_loop}
use Rattle.vlog_expr.specs.Reading.{Reader, first, sees, sees_word}
use Rattle.vlog_expr.proofs.MarkLemmas.{Quiet, quiet, quiet_comma, quiet_round, quiet_square, quiet_colon}
use Rattle.vlog_expr.proofs.PlainLemmas.{Ended, quiet_ended, plain_sound, plain_read}
use Rattle.vlog_expr.proofs.Readers.{Steady}
use Rattle.vlog_stmt.specs.Targets.{target}
use Rattle.vlog_stmt.specs.Statements.{stmt, header}
use Rattle.vlog_stmt.specs.Controls.{control}
use Rattle.vlog_parse.specs.Lists.{plain_expr}
use Rattle.vlog_stmt.proofs.Exact as one
use Rattle.vlog_stmt.proofs.HeaderExact.{exact_header}
use Rattle.vlog_stmt.proofs.TargetsExact.{exact_target}
use Rattle.vlog_stmt.proofs.ControlsExact.{exact_control}
use Rattle.vlog_stmt.proofs.StmtsSteady.{header_steady, stmt_steady}
use Rattle.vlog_stmt.proofs.TargetsSteady.{target_steady}
use Rattle.vlog_stmt.proofs.ControlsSteady.{control_steady}
use Rattle.vlog_stmt.proofs.StmtForms.{stmt_some}
use Rattle.vlog_stmt.proofs.StmtsExact.{exact_stmt}
use Rattle.vlog_parse.proofs.Exact.{Spelling, Exact}
use Rattle.vlog_parse.proofs.Commas.{Fits, Before, fit}
use Rattle.vlog_parse.proofs.Looks.{Ends, at_comma, at_semi, at_round, at_square, at_colon, MarkAhead, unlike}

-- what is spelled, and an `else` behind it belongs to no `if` in it
pub record Opens {A : Type 0} (G : Bool → List Lexeme → A → Type 0) (d : A → ℕ) (room : ℕ) (us : List Lexeme) (a : A) (next : Option Lexeme) : Type 0 where
  pub open_if : Bool
  pub spelled : G open_if us a
  pub shallow : d a ≤ room
  pub closed : open_if ≡ true → sees_word (codes "else") next ≡ false

quiet_semi : (r : Lexeme) → IsMark (codes ";") r → Quiet r
unfolding binary_of binary_of_one
quiet_semi r marks = quiet (codes ";") r marks refl refl refl

ended : (x : Expr) {o : Option Lexeme} → Ends o → Ended x o
ended x (at_comma l is marks) = subst (Ended x) (sym is) (quiet_ended x l (quiet_comma l marks))
ended x (at_semi l is marks) = subst (Ended x) (sym is) (quiet_ended x l (quiet_semi l marks))
ended x (at_round l is marks) = subst (Ended x) (sym is) (quiet_ended x l (quiet_round l marks))
ended x (at_square l is marks) = subst (Ended x) (sym is) (quiet_ended x l (quiet_square l marks))
ended x (at_colon l is marks) = subst (Ended x) (sym is) (quiet_ended x l (quiet_colon l marks))

pub exact_expr : (room : ℕ) → Exact (plain_expr room) (Fits SpellsPlain depth room) (Before Ends (Fits SpellsPlain depth room))
unfolding plain_expr
exact_expr room = record {
  sound = λ ls x rest h. let s = plain_sound room ls x rest h in record { taken = s.taken; parts = s.parts; spelled = fit s.spelled s.shallow };
  complete = λ us x rest b. plain_read room us rest x b.said.spelled b.said.shallow (ended x b.ahead);
}

-- what the crate of statements proves of its readers
pub record Laws : Type 0 where
  pub exact_target : (room : ℕ) → Exact (target room) (Fits SpellsTarget depth room) (Before (MarkAhead (codes "=")) (Fits SpellsTarget depth room))
  pub exact_stmt : (room : ℕ) → Exact (stmt room) (Opens SpellsStmt depth_of_stmt room) (Opens SpellsStmt depth_of_stmt room)
  pub exact_control : (room : ℕ) → Exact (control room) (Fits SpellsControl depth_of_control room) (Fits SpellsControl depth_of_control room)
  pub exact_loop : (room : ℕ) → Exact (header room) (Fits SpellsLoop depth_of_loop room) (Fits SpellsLoop depth_of_loop room)
  pub stmt_deep : (open_if : Bool) (us : List Lexeme) (s : Stmt) → SpellsStmt open_if us s → 1 ≤ depth_of_stmt s
  pub steady_target : (room more : ℕ) → room ≤ more → Steady (room - 1) (target room) (target more)
  pub steady_stmt : (room more : ℕ) → room ≤ more → Steady (room - 2) (stmt room) (stmt more)
  pub steady_control : (room more : ℕ) → room ≤ more → Steady (room - 1) (control room) (control more)
  pub steady_loop : (room more : ℕ) → room ≤ more → Steady room (header room) (header more)

-- one relation as two that it lies between
of_one : {A : Type 0} {p : Reader A} {T S C : Spelling A} → one.Exact p T → ((us : List Lexeme) (a : A) (next : Option Lexeme) → T us a next → S us a next) → ((us : List Lexeme) (a : A) (next : Option Lexeme) → C us a next → T us a next) → Exact p S C
of_one e to from = record {
  sound = λ ls a rest h. let t = e.sound ls a rest h in record { taken = t.us; parts = t.parts; spelled = to t.us a (first rest) t.spelled };
  complete = λ us a rest c. e.complete us rest a (from us a (first rest) c);
}

equals_closed : (o : Option Lexeme) → MarkAhead (codes "=") o → sees (codes "[") o ≡ false
equals_closed o m = unlike (codes "=") (codes "[") o m.lexeme m.is m.marks refl

pub laws : Laws
laws = record {
  exact_target = λ room. of_one (exact_target room) (λ us x next a. record { spelled = a.spelled; shallow = a.shallow }) (λ us x next b. record { spelled = b.said.spelled; shallow = b.said.shallow; closed = λ o. equals_closed next b.ahead });
  exact_stmt = λ room. of_one (exact_stmt room)
      (λ us x next o. record { open_if = o.open_if; spelled = o.spelled; shallow = o.shallow; closed = o.closed })
      (λ us x next o. record { open_if = o.open_if; spelled = o.spelled; shallow = o.shallow; closed = o.closed });
  exact_control = λ room. of_one (exact_control room) (λ us c next w. record { spelled = w.spelled; shallow = w.shallow }) (λ us c next f. record { spelled = f.spelled; shallow = f.shallow });
  exact_loop = λ room. of_one (exact_header room) (λ us h next w. record { spelled = w.spelled; shallow = w.shallow }) (λ us h next f. record { spelled = f.spelled; shallow = f.shallow });
  stmt_deep = λ open_if us s spelled. stmt_some spelled;
  steady_target = target_steady;
  steady_stmt = stmt_steady;
  steady_control = control_steady;
  steady_loop = header_steady;
}

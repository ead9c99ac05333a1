-- Readers of controls are steady, with more room too.
use Rattle.std.proofs.Common.{◌≡◌, ℕ, zero, suc, ◌-◌, ◌<◌, ◌≤◌, Bool, true, false, List, [], ◌∷◌, length, Some, None, Ok, refl, ap, arith}
use Rattle.std.specs.Prelude.{if◌then◌else◌, codes}
use Rattle.vlog_tree.specs.declared.stmt.Edge.TheVariants as edges
use Rattle.vlog_tree.specs.declared.stmt.Event.{Event}
use Rattle.vlog_tree.specs.declared.stmt.Control.TheVariants as controls
use Rattle.vlog_tree.specs.Lexemes.{Lexeme}
use Rattle.vlog_expr.specs.declared.stuck.Stuck.TheVariants.{Wrong}
use Rattle.vlog_expr.specs.Reading.{first, onward, stop, advance, sees, sees_word}
use Rattle.vlog_expr.proofs.Readers.{Steady, ◌>>=◌, ◌>>◌, steady_pure, steady_wrong, steady_peek, steady_advance, steady_if, steady_expect, steady_deep, steady_fewer}
use Rattle.vlog_expr.proofs.PlainLemmas.{plain_steady}
use Rattle.vlog_stmt.specs.Lists.{Eats}
use Rattle.vlog_stmt.specs.Controls.{edge_if, edge, index, event, is_between, further_event, events, in_brackets, control}
use Rattle.vlog_stmt.proofs.ListsSteady.{steady_known, steady_ident, steady_took, steady_roomy, steady_many, steady_keeps}

index_steady : (room more : ℕ) → room ≤ more → Steady room (index room) (index more)
unfolding index
index_steady room more le =
    let built = steady_peek (sees (codes "[")) >>= (λ there. steady_if there (steady_roomy room more le (steady_expect (codes "[") >> (plain_steady room more le >>= (λ i. steady_expect (codes "]") >> steady_pure (Some i))))) (steady_pure None)) in built

pub event_steady : (d more : ℕ) → d ≤ more → Steady (d - 1) (event d) (event more)
unfolding event edge
event_steady zero more le = steady_deep
event_steady (suc d) zero le = absurd (omega arith)
event_steady (suc d) (suc more) le =
    let built = steady_known edge_if (λ e. steady_pure e) (steady_pure edges.Any) >>= (λ change. steady_ident >>= (λ name. index_steady d more (omega arith) >>= (λ i. steady_pure (record { edge = change; name = name; index = i })))) in
    steady_fewer (omega arith) built

further_steady : (d more : ℕ) → d ≤ more → Steady (d - 1) (further_event d) (further_event more)
unfolding further_event
further_steady d more le = let built = (steady_peek is_between >>= (λ there. steady_if there steady_advance steady_wrong)) >> event_steady d more le in built

-- an answer of an event behind `or` or a comma leaves fewer lexemes
eats_by : (d : ℕ) (there : Bool) (ls : List Lexeme) (x : Event) (rest : List Lexeme) → is_between (first ls) ≡ there
    → onward ((if there then advance else stop Wrong) ls).0 ((if there then advance else stop Wrong) ls).1 (λ _. event d) ≡ (Ok x, rest) → length rest < length ls
unfolding is_between first sees sees_word
eats_by d false ls x rest seen h = let no = ap (λ o. o.0) h in cc
eats_by d true [] x rest seen h = cc
eats_by d true (l ∷ ls) x rest seen h = let less = (steady_keeps (event_steady d d (omega arith))).leaves ls x rest h in omega arith

pub further_event_eats : (d : ℕ) → Eats (further_event d)
unfolding further_event
further_event_eats d = record { leaves = λ ls x rest h. eats_by d (is_between (first ls)) ls x rest refl h }

pub control_steady : (d more : ℕ) → d ≤ more → Steady (d - 1) (control d) (control more)
unfolding control in_brackets events
control_steady d more le =
    let listed = event_steady d more le >>= (λ x. steady_many (d - 1) is_between (further_event d) (further_event more) (further_event_eats d) (further_steady d more le) >>= (λ xs. steady_pure (x ∷ xs))) in
    let within = steady_took (codes "*") >>= (λ star. steady_if star (steady_expect (codes ")") >> steady_pure controls.Reads) (listed >>= (λ es. steady_expect (codes ")") >> steady_pure (controls.Events es)))) in
    let built = steady_took (codes "*") >>= (λ star. steady_if star (steady_pure controls.Reads) (steady_expect (codes "(") >> within)) in
    built

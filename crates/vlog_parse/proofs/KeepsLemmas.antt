-- The readers of pieces leave no more lexemes than they find.
use Rattle.std.proofs.Common.{ℕ, length, ap, arith}
use Rattle.std.specs.Prelude.{Some}
use Rattle.vlog_expr.specs.Reading.{Reader}
use Rattle.vlog_expr.proofs.Readers.{Steady, shorter, ◌>>=◌, steady_pure}
use Rattle.vlog_parse.specs.Lists.{Keeps, plain_expr, ident, some, optional}
use Rattle.vlog_parse.specs.Parts.{net, binding, gate, named, instance, goes_on}
use Rattle.vlog_parse.proofs.SteadyLists.{steady_ident}
use Rattle.vlog_parse.proofs.SteadyParts.{steady_expr, steady_net, steady_binding, steady_gate, steady_maybe_value, steady_named, steady_instance}

pub kept : {k : ℕ} {A : Type 0} {p q : Reader A} → Steady k p q → Keeps p
kept {p = p} s = record { leaves = λ ls a rest h. let less = shorter (s.local ls) in omega (arith, ap (λ o. length o.1) h) }

pub keeps_ident : Keeps ident
keeps_ident = kept {k = 0} steady_ident

pub keeps_values : (room : ℕ) → Keeps (plain_expr room)
keeps_values room = kept (steady_expr room room (omega arith))

pub keeps_given : (room : ℕ) → Keeps (some (plain_expr room))
keeps_given room = let built = steady_expr room room (omega arith) >>= (λ x. steady_pure (Some x)) in kept built

pub keeps_nets : (room : ℕ) → Keeps (net room)
keeps_nets room = kept (steady_net room room (omega arith))

pub keeps_bindings : (room : ℕ) → Keeps (binding room)
keeps_bindings room = kept (steady_binding room room (omega arith))

pub keeps_gates : (room : ℕ) → Keeps (gate room)
keeps_gates room = kept (steady_gate room room (omega arith))

pub keeps_named : (room : ℕ) → Keeps (named room)
keeps_named room = kept (steady_named room room (omega arith))

pub keeps_ordered : (room : ℕ) → Keeps (optional goes_on (plain_expr room))
keeps_ordered room = kept (steady_maybe_value room room (omega arith))

pub keeps_instances : (room : ℕ) → Keeps (instance room)
keeps_instances room = kept (steady_instance room room (omega arith))

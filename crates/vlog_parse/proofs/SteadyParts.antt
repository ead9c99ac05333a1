-- The readers of declarations are steady, with more room too.
use Rattle.std.proofs.Common.{ℕ, ◌-◌, ◌≤◌, List, [], map, Some, arith}
use Rattle.std.specs.Prelude.{codes}
use Rattle.rdc_outside.specs.declared.source.Place.{Place}
use Rattle.vlog_tree.specs.declared.port.Direction.TheVariants.{Input, Output, Register}
use Rattle.vlog_tree.specs.declared.item.Connections.{Connections}
use Rattle.vlog_tree.specs.declared.item.Connections.TheVariants.{Ordered, Named}
use Rattle.vlog_tree.specs.declared.item.Item.{Item}
use Rattle.vlog_tree.specs.declared.item.Item.TheVariants as i
use Rattle.vlog_tree.specs.declared.item.GateKind.{GateKind}
use Rattle.vlog_expr.specs.Reading.{Reader, place_if, sees, sees_word}
use Rattle.vlog_expr.proofs.Readers.{Steady, ◌>>=◌, ◌>>◌, steady_pure, steady_peek, steady_if, steady_expect, steady_fewer}
use Rattle.vlog_expr.proofs.PlainLemmas.{plain_steady}
use Rattle.vlog_parse.specs.Lists.{plain_expr, optional}
use Rattle.vlog_parse.specs.Parts.{range, shape, input, driven, output, direction, value, net, binding, assignment, names, gate, goes_on, named, named_or, ordered, connections, listed, parameters_passed, passed, instance}
use Rattle.vlog_parse.specs.Items.{shaped, declared, ports, wires, registers, integers, genvars, parameters, constants, assign, word_of_gate, gates, instances}
use Rattle.vlog_parse.proofs.SteadyLists.{steady_word, steady_flag, steady_ident, steady_optional, steady_commas, steady_past_word}
use Rattle.vlog_parse.proofs.Given.{Laws}

pub steady_direction : {k : ℕ} → Steady k direction direction
unfolding direction input output driven
steady_direction =
    let built = steady_peek (sees_word (codes "input")) >>= (λ inward. steady_if inward
    (steady_word (codes "input") >> (steady_flag (codes "wire") >>= (λ wired. steady_pure Input)))
    (steady_word (codes "output") >> (steady_flag (codes "reg") >>= (λ held. steady_if held (steady_pure Register) (steady_flag (codes "wire") >>= (λ wired. steady_pure Output)))))) in built

module _ (room more : ℕ) (le : room ≤ more) where
  pub steady_expr : Steady room (plain_expr room) (plain_expr more)
  unfolding plain_expr
  steady_expr = plain_steady room more le

  steady_range : Steady room (range room) (range more)
  unfolding range
  steady_range = let built = steady_expect (codes "[") >> (steady_expr >>= (λ m. steady_expect (codes ":") >> (steady_expr >>= (λ l. steady_expect (codes "]") >> steady_pure (record { msb = m; lsb = l }))))) in built

  pub steady_shape : Steady room (shape room) (shape more)
  unfolding shape
  steady_shape = let built = steady_flag (codes "signed") >>= (λ s. steady_optional (sees (codes "[")) steady_range >>= (λ a. steady_pure (record { signed = s; range = a }))) in built

  steady_value : Steady room (value room) (value more)
  unfolding value
  steady_value = let built = steady_expect (codes "=") >> steady_expr in built

  pub steady_net : Steady room (net room) (net more)
  unfolding net
  steady_net = let built = steady_ident >>= (λ n. steady_optional (sees (codes "=")) steady_value >>= (λ d. steady_pure (record { name = n; driver = d }))) in built

  pub steady_binding : Steady room (binding room) (binding more)
  unfolding binding
  steady_binding = let built = steady_ident >>= (λ n. steady_value >>= (λ v. steady_pure (record { name = n; value = v }))) in built

  pub steady_assignment : Laws → Steady (room - 1) (assignment room) (assignment more)
  unfolding assignment
  steady_assignment laws = let built = laws.steady_target room more le >>= (λ t. steady_fewer {n = room - 1} (omega arith) steady_value >>= (λ v. steady_pure (record { target = t; value = v }))) in built

  pub steady_gate : Steady room (gate room) (gate more)
  unfolding gate
  steady_gate =
      let built = steady_peek place_if >>= (λ place. steady_optional names steady_ident >>= (λ n. steady_expect (codes "(") >> (steady_commas steady_expr >>= (λ ts. steady_expect (codes ")") >> steady_pure (record { place = place; name = n; terminals = ts }))))) in built

  pub steady_maybe_value : Steady room (optional goes_on (plain_expr room)) (optional goes_on (plain_expr more))
  steady_maybe_value = steady_optional goes_on steady_expr

  pub steady_named : Steady room (named room) (named more)
  unfolding named
  steady_named =
      let built = steady_expect (codes ".") >> (steady_ident >>= (λ n. steady_expect (codes "(") >> (steady_maybe_value >>= (λ v. steady_expect (codes ")") >> steady_pure (record { name = n; value = v }))))) in built

  steady_named_or : {p q : Reader Connections} → Steady room p q → Steady room (named_or room p) (named_or more q)
  unfolding named_or
  steady_named_or s = let built = steady_peek (sees (codes ".")) >>= (λ there. steady_if there (steady_commas steady_named >>= (λ ns. steady_pure (Named ns))) s) in built

  steady_ordered : Steady room (ordered room) (ordered more)
  unfolding ordered
  steady_ordered = let built = steady_commas steady_maybe_value >>= (λ es. steady_pure (Ordered es)) in built

  steady_connections : Steady room (connections room) (connections more)
  unfolding connections
  steady_connections = let built = steady_peek (sees (codes ")")) >>= (λ none. steady_if none (steady_pure (Ordered [])) (steady_named_or steady_ordered)) in built

  steady_listed : Steady room (listed room) (listed more)
  unfolding listed
  steady_listed = let built = steady_commas steady_expr >>= (λ es. steady_pure (Ordered (map Some es))) in built

  pub steady_passed : Steady room (passed room) (passed more)
  unfolding passed parameters_passed
  steady_passed =
      let built = steady_peek (sees (codes "#")) >>= (λ there. steady_if there
      (steady_expect (codes "#") >> (steady_expect (codes "(") >> (steady_named_or steady_listed >>= (λ p. steady_expect (codes ")") >> steady_pure p)))) (steady_pure (Ordered []))) in built

  pub steady_instance : Steady room (instance room) (instance more)
  unfolding instance
  steady_instance = let built = steady_ident >>= (λ n. steady_expect (codes "(") >> (steady_connections >>= (λ c. steady_expect (codes ")") >> steady_pure (record { name = n; connections = c })))) in built

  steady_shaped : {A : Type 0} {p q : Reader A} → Steady room p q → Steady room (shaped room p) (shaped more q)
  unfolding shaped
  steady_shaped s = let built = steady_shape >>= (λ a. s >>= (λ x. steady_pure (a, x))) in built

  steady_declared : {A : Type 0} {p q : Reader A} (w : List ℕ) (made : Place → A → Item) → Steady room p q → Steady room (declared w p made) (declared w q made)
  unfolding declared
  steady_declared w made s = let built = steady_peek place_if >>= (λ place. steady_word w >> (s >>= (λ x. steady_expect (codes ";") >> steady_pure (made place x)))) in built

  pub steady_ports : Steady room (ports room) (ports more)
  unfolding ports
  steady_ports = let built = steady_peek place_if >>= (λ place. steady_direction >>= (λ d. steady_shaped (steady_commas steady_ident) >>= (λ x. steady_expect (codes ";") >> steady_pure (i.Ports place d x.0 x.1)))) in built

  pub steady_wires : Steady room (wires room) (wires more)
  unfolding wires
  steady_wires = steady_declared (codes "wire") (λ place x. i.Wires place x.0 x.1) (steady_shaped (steady_commas steady_net))

  pub steady_registers : Steady room (registers room) (registers more)
  unfolding registers
  steady_registers = steady_declared (codes "reg") (λ place x. i.Registers place x.0 x.1) (steady_shaped (steady_commas steady_ident))

  pub steady_integers : Steady room integers integers
  unfolding integers
  steady_integers = steady_declared (codes "integer") (λ place x. i.Integers place x) (steady_commas steady_ident)

  pub steady_genvars : Steady room genvars genvars
  unfolding genvars
  steady_genvars = steady_declared (codes "genvar") (λ place x. i.Genvars place x) (steady_commas steady_ident)

  pub steady_parameters : Steady room (parameters room) (parameters more)
  unfolding parameters
  steady_parameters = steady_declared (codes "parameter") (λ place x. i.Parameters place x.0 x.1) (steady_shaped (steady_commas steady_binding))

  pub steady_constants : Steady room (constants room) (constants more)
  unfolding constants
  steady_constants = steady_declared (codes "localparam") (λ place x. i.Constants place x.0 x.1) (steady_shaped (steady_commas steady_binding))

  pub steady_assign : Laws → Steady room (assign room) (assign more)
  unfolding assign declared
  steady_assign laws =
      let built = steady_peek place_if >>= (λ place. steady_past_word (codes "assign") (steady_commas (steady_assignment laws) >>= (λ xs. steady_expect (codes ";") >> steady_pure (i.Assign place xs)))) in
      steady_fewer (omega arith) built

  pub steady_gates : (which : GateKind) → Steady room (gates room which) (gates more which)
  unfolding gates
  steady_gates which = steady_declared (word_of_gate which) (λ place x. i.Gates place which x) (steady_commas steady_gate)

  pub steady_instances : Steady room (instances room) (instances more)
  unfolding instances
  steady_instances = let built = steady_ident >>= (λ c. steady_passed >>= (λ g. steady_commas steady_instance >>= (λ f. steady_expect (codes ";") >> steady_pure (i.Instances c.place c g f)))) in built

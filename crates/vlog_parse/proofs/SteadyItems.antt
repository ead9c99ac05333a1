-- The readers of items and modules are steady, with more room too: they want no more room on fewer lexemes than they may be deep.
use Rattle.std.proofs.Common.{◌≡◌, ℕ, zero, suc, ◌-◌, ◌<◌, ◌≤◌, Bool, true, false, List, [], ◌∷◌, length, None, Result, Ok, Err, refl, sym, ap, subst, arith, length-append}
use Rattle.std.specs.Prelude.{codes, nat_le, if◌then◌else◌}
use Rattle.vlog_tree.specs.declared.stmt.Arm.{Arm}
use Rattle.vlog_tree.specs.declared.port.Port.TheVariants as port_as
use Rattle.vlog_tree.specs.declared.item.Block.{Block}
use Rattle.vlog_tree.specs.declared.item.Item.{Item}
use Rattle.vlog_tree.specs.declared.item.Item.TheVariants as i
use Rattle.vlog_tree.specs.Lexemes.{Lexeme}
use Rattle.vlog_tree.specs.Names.{name_in}
use Rattle.vlog_tree.specs.Reserved.{is_reserved, reserved_with}
use Rattle.vlog_expr.specs.declared.stuck.Stuck.{Stuck}
use Rattle.vlog_expr.specs.declared.stuck.Stuck.TheVariants.{Wrong, Deep}
use Rattle.vlog_expr.specs.Reading.{Reader, first, onward, pure, stop, place_if, word_if, sees, sees_word}
use Rattle.vlog_expr.proofs.Readers.{Steady, SteadyFront, ◌>>=◌, ◌>>◌, steady_pure, steady_wrong, steady_peek, steady_if, steady_expect, steady_deep, steady_fewer, steady_front, steady_within, steady_at, wants_room}
use Rattle.vlog_stmt.proofs.ListsSteady.{steady_mark as past_mark}
use Rattle.vlog_parse.specs.declared.heads.Head.{Head}
use Rattle.vlog_parse.specs.declared.heads.Head.TheVariants as head
use Rattle.vlog_parse.specs.Lists.{until}
use Rattle.vlog_parse.specs.Parts.{is_name, names}
use Rattle.vlog_parse.specs.Items.{always, label, generate, turned, repeated, group, nothing, short, block, otherwise, choice, default_body, default_arm, labelled_arm, arm_then, arms_by, arms_from, arms, cases, is_nothing, head_in, declaration_in, construct_in, gate_in, item_by, deep_by, item, head_of}
use Rattle.vlog_parse.specs.Modules as m
use Rattle.vlog_parse.specs.Modules.{module_of}
use Rattle.vlog_parse.proofs.Exact.{Exact}
use Rattle.vlog_parse.proofs.SteadyLists.{steady_word, steady_flag, steady_ident, steady_optional, steady_others, steady_commas, steady_until, steady_bounded, steady_past_word}
use Rattle.vlog_parse.proofs.SteadyParts.{steady_expr, steady_shape, steady_direction, steady_binding, steady_ports, steady_wires, steady_registers, steady_integers, steady_genvars, steady_parameters, steady_constants, steady_assign, steady_gates, steady_instances}
use Rattle.vlog_parse.proofs.Given.{Laws}
use Rattle.vlog_parse.proofs.BlocksExact.{Inner}
use Rattle.vlog_parse.proofs.ArmsExact.{default_eats, labelled_eats}
use Rattle.vlog_parse.proofs.ItemBegins.{item_begins}
use Rattle.vlog_parse.proofs.ItemsExact.{exact_item}

pub steady_always : Laws → (room more : ℕ) → room ≤ more → Steady room (always room) (always more)
unfolding always
steady_always laws room more le =
    let built = steady_peek place_if >>= (λ place. steady_past_word (codes "always") (past_mark (codes "@") (steady_fewer {n = room - 2} (omega arith) (laws.steady_control room more le) >>= (λ c. laws.steady_stmt room more le >>= (λ s. steady_pure (i.Always place c s)))))) in
    steady_fewer (omega arith) built

steady_label : {k : ℕ} → Steady k label label
unfolding label
steady_label = let built = steady_expect (codes ":") >> steady_ident in built

abbrev ArmOf : Type 0
ArmOf = Arm (Block (List Item))

module _ (laws : Laws) (room more : ℕ) (le : room ≤ more) (inner outer : Reader Item) (s : Steady room inner outer) (e : Exact inner (Inner room) (Inner room)) where
  pub takes : (ls : List Lexeme) (x : Item) (rest : List Lexeme) → inner ls ≡ (Ok x, rest) → length rest < length ls
  takes ls x rest h =
      let t = e.sound ls x rest h in let b = item_begins t.taken x t.spelled.spelled in let n = ap length b.is in
      omega (arith, ap length t.parts, length-append t.taken rest)

  steady_items : (w : List ℕ) → Steady room (until w inner) (until w outer)
  steady_items w = steady_until room w inner outer s takes

  steady_generate : Steady (suc room) (generate room inner) (generate more outer)
  unfolding generate
  steady_generate = let built = steady_peek place_if >>= (λ place. steady_past_word (codes "generate") (steady_items (codes "endgenerate") >>= (λ items. steady_pure (i.Generate place items)))) in built

  steady_loop : Steady (suc room) (repeated room inner) (repeated more outer)
  unfolding repeated turned
  steady_loop =
      let built = steady_peek place_if >>= (λ place. steady_past_word (codes "for") (laws.steady_loop room more le >>= (λ h. steady_word (codes "begin") >> (steady_label >>= (λ n. steady_items (codes "end") >>= (λ items. steady_pure (i.For place h n items))))))) in built

  steady_block : Steady room (block room inner) (block more outer)
  unfolding block group short nothing
  steady_block =
      let built = steady_peek (sees_word (codes "begin")) >>= (λ grouped. steady_if grouped
      (steady_word (codes "begin") >> (steady_optional (sees (codes ":")) steady_label >>= (λ n. steady_items (codes "end") >>= (λ items. steady_pure (record { name = n; items = items })))))
      (steady_peek (sees (codes ";")) >>= (λ empty. steady_if empty (steady_expect (codes ";") >> steady_pure (record { name = None; items = [] })) (s >>= (λ x. steady_pure (record { name = None; items = x ∷ [] })))))) in built

  steady_choice : Steady (suc room) (choice room inner) (choice more outer)
  unfolding choice otherwise
  steady_choice =
      let built = steady_peek place_if >>= (λ place. steady_past_word (codes "if") (steady_expect (codes "(") >> (steady_expr room more le >>= (λ test. steady_expect (codes ")") >> (steady_block >>= (λ y.
      steady_optional (sees_word (codes "else")) (steady_word (codes "else") >> steady_block) >>= (λ n. steady_pure (i.If place test y n)))))))) in built

  steady_default : Steady room (default_arm room inner) (default_arm more outer)
  unfolding default_arm default_body
  steady_default =
      let built = steady_peek place_if >>= (λ place. steady_word (codes "default") >> (steady_peek (sees (codes ":")) >>= (λ there. steady_if there
      (steady_expect (codes ":") >> (steady_block >>= (λ b. steady_pure (record { place = place; labels = []; body = b }))))
      (steady_block >>= (λ b. steady_pure (record { place = place; labels = []; body = b })))))) in built

  steady_labelled : Steady room (labelled_arm room inner) (labelled_arm more outer)
  unfolding labelled_arm
  steady_labelled =
      let built = steady_peek place_if >>= (λ place. steady_commas (steady_expr room more le) >>= (λ ls. steady_expect (codes ":") >> (steady_block >>= (λ b. steady_pure (record { place = place; labels = ls; body = b }))))) in built

  steady_arm_then : {p p' : Reader ArmOf} {q q' : Reader (List ArmOf)} → Steady room p p' → Steady room q q' → Steady room (arm_then room inner p q) (arm_then more outer p' q')
  unfolding arm_then
  steady_arm_then f g = let built = f >>= (λ a. g >>= (λ others. steady_pure (a ∷ others))) in built

  steady_arms_by : (done other may : Bool) {q q' r r' : Reader (List ArmOf)} → Steady room q q' → Steady room r r' → Steady room (arms_by room inner done other may q r) (arms_by more outer done other may q' r')
  unfolding arms_by
  steady_arms_by true other may f g = let built = steady_word (codes "endcase") >> steady_pure [] in built
  steady_arms_by false true true f g = steady_arm_then steady_default f
  steady_arms_by false true false f g = steady_wrong
  steady_arms_by false false may f g = steady_arm_then steady_labelled g

  arms_from_steady : (n : ℕ) (may : Bool) → Steady room (arms_from room inner n may) (arms_from more outer n may)
  unfolding arms_from
  arms_from_steady zero may = steady_wrong
  arms_from_steady (suc n) may =
      let built = steady_peek (sees_word (codes "endcase")) >>= (λ done. steady_peek (sees_word (codes "default")) >>= (λ other. steady_arms_by done other may (arms_from_steady n false) (arms_from_steady n may))) in built

  -- enough turns are as good as more
  then_same : (q r : Reader (List ArmOf)) (v : Result ArmOf Stuck) (mid : List Lexeme) → ((a : ArmOf) → v ≡ Ok a → q mid ≡ r mid)
      → onward v mid (λ a ls. onward (q ls).0 (q ls).1 (λ others. pure (a ∷ others))) ≡ onward v mid (λ a ls. onward (r ls).0 (r ls).1 (λ others. pure (a ∷ others)))
  then_same q r (Ok a) mid same = ap (λ o. onward o.0 o.1 (λ others. pure (a ∷ others))) (same a refl)
  then_same q r (Err why) mid same = refl

  arm_same : (p : Reader ArmOf) (q r : Reader (List ArmOf)) (ls : List Lexeme) → ((a : ArmOf) (rest : List Lexeme) → p ls ≡ (Ok a, rest) → q rest ≡ r rest) → arm_then room inner p q ls ≡ arm_then room inner p r ls
  unfolding arm_then
  arm_same p q r ls same = then_same q r (p ls).0 (p ls).1 (λ a was. same a (p ls).1 (ap (λ v. (v, (p ls).1)) was))

  by_same : (done other may : Bool) (q q' r r' : Reader (List ArmOf)) (ls : List Lexeme) → ((rest : List Lexeme) → length rest < length ls → (q rest ≡ q' rest) × (r rest ≡ r' rest)) → arms_by room inner done other may q r ls ≡ arms_by room inner done other may q' r' ls
  unfolding arms_by
  by_same true other may q q' r r' ls same = refl
  by_same false true true q q' r r' ls same = arm_same (default_arm room inner) q q' ls (λ a rest h. (same rest (default_eats room inner e ls a rest h)).0)
  by_same false true false q q' r r' ls same = refl
  by_same false false may q q' r r' ls same = arm_same (labelled_arm room inner) r r' ls (λ a rest h. (same rest (labelled_eats room inner e ls a rest h)).1)

  arms_enough : (n m : ℕ) (may : Bool) (ls : List Lexeme) → length ls ≤ n → length ls ≤ m → arms_from room inner (suc n) may ls ≡ arms_from room inner (suc m) may ls
  unfolding arms_from
  arms_enough zero zero may ls f g = refl
  arms_enough zero (suc m) may ls f g = by_same (sees_word (codes "endcase") (first ls)) (sees_word (codes "default") (first ls)) may (arms_from room inner zero false) (arms_from room inner (suc m) false) (arms_from room inner zero may) (arms_from room inner (suc m) may) ls
      (λ rest less. absurd (omega arith))
  arms_enough (suc n) zero may ls f g = by_same (sees_word (codes "endcase") (first ls)) (sees_word (codes "default") (first ls)) may (arms_from room inner (suc n) false) (arms_from room inner zero false) (arms_from room inner (suc n) may) (arms_from room inner zero may) ls
      (λ rest less. absurd (omega arith))
  arms_enough (suc n) (suc m) may ls f g = by_same (sees_word (codes "endcase") (first ls)) (sees_word (codes "default") (first ls)) may (arms_from room inner (suc n) false) (arms_from room inner (suc m) false) (arms_from room inner (suc n) may) (arms_from room inner (suc m) may) ls
      (λ rest less. (arms_enough n m false rest (omega arith) (omega arith), arms_enough n m may rest (omega arith) (omega arith)))

  steady_arms : Steady room (arms room inner) (arms more outer)
  unfolding arms
  steady_arms = let built = steady_bounded room (λ n. arms_from room inner (suc n) true) (λ n. arms_from more outer (suc n) true) (λ n. arms_from_steady (suc n) true) (λ n m ls f g. arms_enough n m true ls f g) in built

  steady_cases : Steady (suc room) (cases room inner) (cases more outer)
  unfolding cases
  steady_cases =
      let built = steady_peek place_if >>= (λ place. steady_past_word (codes "case") (steady_expect (codes "(") >> (steady_expr room more le >>= (λ selector. steady_expect (codes ")") >> (steady_arms >>= (λ found. steady_pure (i.Case place selector found))))))) in built

  up : suc room ≤ suc more
  up = omega arith

  -- one that begins with a lexeme, where there is room for more
  with_room : {p q : Reader Item} → Steady (suc room) p q → SteadyFront (suc room) (if nat_le 1 room then p else stop Deep) (if nat_le 1 more then q else stop Deep)
  with_room t = steady_within room more (omega arith) le (record { local = t.local; stays = t.stays; shallow = λ l ls few. t.shallow (l ∷ ls) (omega arith) })

  steady_item_by : (h : Head) → SteadyFront (suc room) (item_by room inner (suc room) h) (item_by more outer (suc more) h)
  unfolding item_by
  steady_item_by head.Ports = steady_front (steady_ports (suc room) (suc more) up)
  steady_item_by head.Wires = steady_front (steady_wires (suc room) (suc more) up)
  steady_item_by head.Registers = steady_front (steady_registers (suc room) (suc more) up)
  steady_item_by head.Integers = steady_front (steady_integers (suc room) (suc more) up)
  steady_item_by head.Genvars = steady_front (steady_genvars (suc room) (suc more) up)
  steady_item_by head.Parameters = steady_front (steady_parameters (suc room) (suc more) up)
  steady_item_by head.Constants = steady_front (steady_constants (suc room) (suc more) up)
  steady_item_by head.Assign = steady_front (steady_assign (suc room) (suc more) up laws)
  steady_item_by (head.Gates which) = steady_front (steady_gates (suc room) (suc more) up which)
  steady_item_by head.Instances = steady_front (steady_instances (suc room) (suc more) up)
  steady_item_by head.Always = steady_front (steady_always laws (suc room) (suc more) up)
  steady_item_by head.Generate = steady_front steady_generate
  steady_item_by head.For = with_room steady_loop
  steady_item_by head.If = with_room steady_choice
  steady_item_by head.Case = with_room steady_cases
  steady_item_by head.Nothing = steady_front steady_wrong

-- where no lexeme is left no item begins
none_begins : head_of None ≡ head.Nothing
unfolding head_of word_if head_in declaration_in construct_in gate_in is_name name_in is_reserved reserved_with
none_begins = refl

nothing_is : (h : Head) → is_nothing h ≡ true → h ≡ head.Nothing
nothing_is head.Ports is = cc
nothing_is head.Wires is = cc
nothing_is head.Registers is = cc
nothing_is head.Integers is = cc
nothing_is head.Genvars is = cc
nothing_is head.Parameters is = cc
nothing_is head.Constants is = cc
nothing_is head.Assign is = cc
nothing_is (head.Gates which) is = cc
nothing_is head.Instances is = cc
nothing_is head.Always is = cc
nothing_is head.Generate is = cc
nothing_is head.For is = cc
nothing_is head.If is = cc
nothing_is head.Case is = cc
nothing_is head.Nothing is = refl

wrong_at_end : (room more : ℕ) → Steady (suc room) (item_by room (item room) (suc room) (head_of None)) (item_by more (item more) (suc more) (head_of None))
unfolding item_by
wrong_at_end room more = subst (λ h. Steady (suc room) (item_by room (item room) (suc room) h) (item_by more (item more) (suc more) h)) (sym none_begins) steady_wrong

-- what begins no item is wrong
item_wrong : (d : ℕ) (ls : List Lexeme) → head_of (first ls) ≡ head.Nothing → item d ls ≡ (Err Wrong, ls)
unfolding item item_by deep_by
item_wrong zero ls none = ap (λ h. deep_by h ls) none
item_wrong (suc d) ls none = ap (λ h. item_by d (item d) (suc d) h ls) none

wrong_stays : (d : ℕ) (b : Bool) (ls : List Lexeme) → is_nothing (head_of (first ls)) ≡ b → wants_room {A = Item} ((if b then stop Wrong else stop Deep) ls).0 ≡ false → item d ls ≡ (if b then stop Wrong else stop Deep) ls
wrong_stays d true ls is calm = item_wrong d ls (nothing_is (head_of (first ls)) is)
wrong_stays d false ls is calm = cc

steady_none : (more : ℕ) → Steady 0 (item zero) (item more)
unfolding item deep_by
steady_none more = record {
  local = λ ls. (let built = steady_peek {k = 0} head_of >>= (λ h. steady_if (is_nothing h) steady_wrong (steady_deep {q = stop Deep})) in built.local ls);
  stays = λ ls calm. wrong_stays more (is_nothing (head_of (first ls))) ls refl calm;
  shallow = λ ls few. absurd (omega arith);
}

pub steady_item : Laws → (room more : ℕ) → room ≤ more → Steady room (item room) (item more)
unfolding item
steady_item laws zero more le = steady_none more
steady_item laws (suc room) zero le = absurd (omega arith)
steady_item laws (suc room) (suc more) le =
    let by = steady_item_by laws room more (omega arith) (item room) (item more) (steady_item laws room more (omega arith)) (exact_item laws room) in
    steady_at head_of (item_by room (item room) (suc room)) (item_by more (item more) (suc more)) (wrong_at_end room more) by

module _ (room more : ℕ) (le : room ≤ more) where
  steady_parameter : Steady room (m.parameter room) (m.parameter more)
  unfolding m.parameter
  steady_parameter = let built = steady_shape room more le >>= (λ s. steady_binding room more le >>= (λ b. steady_pure (record { shape = s; binding = b }))) in built

  pub steady_further : Steady room (m.further room) (m.further more)
  unfolding m.further
  steady_further = let built = steady_flag (codes "parameter") >>= (λ said. steady_parameter) in built

  steady_parameters_of : Steady room (m.parameters room) (m.parameters more)
  unfolding m.parameters m.parameters_there m.parameter_list
  steady_parameters_of =
      let built = steady_peek (sees (codes "#")) >>= (λ there. steady_if there (steady_expect (codes "#") >> (steady_expect (codes "(") >>
      ((steady_word (codes "parameter") >> (steady_parameter >>= (λ p. steady_others steady_further >>= (λ ps. steady_pure (p ∷ ps))))) >>= (λ ps. steady_expect (codes ")") >> steady_pure ps)))) (steady_pure [])) in built

  pub steady_bare : Steady room m.bare m.bare
  unfolding m.bare
  steady_bare = let built = steady_ident >>= (λ x. steady_pure (port_as.Named x)) in built

  steady_ansi : Steady room (m.ansi room) (m.ansi more)
  unfolding m.ansi
  steady_ansi = let built = steady_direction >>= (λ d. steady_shape room more le >>= (λ s. steady_ident >>= (λ x. steady_pure (port_as.Declared d s x)))) in built

  pub steady_port : Steady room (m.port room) (m.port more)
  unfolding m.port
  steady_port = let built = steady_peek names >>= (λ called. steady_if called steady_bare steady_ansi) in built

  steady_port_list : Steady room (m.port_list room) (m.port_list more)
  unfolding m.port_list m.ansi_list
  steady_port_list = let built = steady_peek names >>= (λ called. steady_if called (steady_commas steady_bare) (steady_ansi >>= (λ p. steady_others steady_port >>= (λ ps. steady_pure (p ∷ ps))))) in built

  steady_ports_of : Steady room (m.ports room) (m.ports more)
  unfolding m.ports m.ports_there m.some_ports
  steady_ports_of =
      let built = steady_peek (sees (codes "(")) >>= (λ there. steady_if there
      (steady_expect (codes "(") >> ((steady_peek (sees (codes ")")) >>= (λ none. steady_if none (steady_pure []) steady_port_list)) >>= (λ ps. steady_expect (codes ")") >> steady_pure ps))) (steady_pure [])) in built

  pub steady_module : Laws → Steady room (module_of room) (module_of more)
  unfolding module_of
  steady_module laws =
      let built = steady_peek place_if >>= (λ place. steady_word (codes "module") >> (steady_ident >>= (λ name. steady_parameters_of >>= (λ qs. steady_ports_of >>= (λ ps. steady_expect (codes ";") >>
      (steady_items laws room more le (item room) (item more) (steady_item laws room more le) (exact_item laws room) (codes "endmodule") >>= (λ items. steady_pure (record { place = place; name = name; parameters = qs; ports = ps; items = items })))))))) in built

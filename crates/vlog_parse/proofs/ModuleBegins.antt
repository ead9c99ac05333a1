-- What a reading of a module says of the lexemes: one tree a text, and no module begins where it stops.
use Rattle.std.proofs.Common.{◌≡◌, ℕ, ◌+◌, ◌≤◌, max, Bool, true, false, List, [], ◌∷◌, ◌++◌, length, Ok, Err, refl, sym, ap, ◌∙◌, subst, append-nil, length-append, arith}
use Rattle.std.specs.Prelude.{nat_le}
use Rattle.std.proofs.lemmas.Bool.{leb-true, leb-false}
use Rattle.std.proofs.lemmas.List.{append_cancel_right}
use Rattle.vlog_tree.specs.declared.module.Module.{Module}
use Rattle.vlog_tree.specs.Lexemes.{Lexeme}
use Rattle.vlog_tree.specs.Modules.{SpellsModule}
use Rattle.vlog_tree.specs.Depth.{depth_of_module}
use Rattle.vlog_expr.specs.declared.stuck.Stuck.{Stuck}
use Rattle.vlog_expr.specs.declared.stuck.Stuck.TheVariants.{Wrong, Deep}
use Rattle.vlog_expr.specs.Reading.{first}
use Rattle.vlog_expr.proofs.Readers.{Steps, wants_room}
use Rattle.vlog_expr.proofs.Inversion.{gave}
use Rattle.vlog_parse.specs.Modules.{module_of}
use Rattle.vlog_parse.proofs.Commas.{fit}
use Rattle.vlog_parse.proofs.Given.{Laws}
use Rattle.vlog_parse.proofs.PortsExact.{exact_module}
use Rattle.vlog_parse.proofs.SteadyItems.{steady_module}

-- no module is spelled by these lexemes and then ones that begin as the rest does
abbrev pub NoModule : List Lexeme → List Lexeme → Type 0
NoModule pre rest = (vs : List Lexeme) (m : Module) → SpellsModule (pre ++ vs) m → first vs ≡ first rest → ⊥

-- none that is so deep at most
abbrev pub NoShallowModule : ℕ → List Lexeme → List Lexeme → Type 0
NoShallowModule room pre rest = (vs : List Lexeme) (m : Module) → SpellsModule (pre ++ vs) m → depth_of_module m ≤ room → first vs ≡ first rest → ⊥

module _ (laws : Laws) where
  -- what is spelled is read
  pub module_read : (room : ℕ) → 1 ≤ room → (us rest : List Lexeme) (m : Module) → SpellsModule us m → depth_of_module m ≤ room → module_of room (us ++ rest) ≡ (Ok m, rest)
  module_read room some us rest m s low = (exact_module room some laws).complete us m rest (fit s low)

  whole_read : (room : ℕ) → 1 ≤ room → (us : List Lexeme) (m : Module) → SpellsModule us m → depth_of_module m ≤ room → module_of room us ≡ (Ok m, [])
  whole_read room some us m s low = ap (module_of room) (sym (append-nil us)) ∙ module_read room some us [] m s low

  -- what is read is spelled
  pub module_spelled : (room : ℕ) → 1 ≤ room → (ls rest : List Lexeme) (m : Module) → module_of room ls ≡ (Ok m, rest)
      → (us : List Lexeme) × (ls ≡ us ++ rest) × SpellsModule us m × (depth_of_module m ≤ room)
  module_spelled room some ls rest m h = let t = (exact_module room some laws).sound ls m rest h in (t.taken, t.parts, t.spelled.spelled, t.spelled.shallow)

  -- one list of lexemes spells at most one module
  pub one_module : (us : List Lexeme) (m n : Module) → SpellsModule us m → SpellsModule us n → m ≡ n
  one_module us m n s t =
      let room = max 1 (max (depth_of_module m) (depth_of_module n)) in
      let first = whole_read room (omega arith) us m s (omega arith) in
      let second = whole_read room (omega arith) us n t (omega arith) in
      (gave n [] m [] (sym second ∙ first)).same

  pub stopped : (room : ℕ) (pre rest vs : List Lexeme) (why : Stuck) → module_of room (pre ++ rest) ≡ (Err why, rest) → first vs ≡ first rest → module_of room (pre ++ vs) ≡ (Err why, vs)
  stopped room pre rest vs why h alike =
      let s : Steps (module_of room) (pre ++ rest) (Err why) rest = subst (λ o. Steps (module_of room) (pre ++ rest) o.0 o.1) h ((steady_module room room (omega arith) laws).local (pre ++ rest)) in
      let front : s.pre ≡ pre = append_cancel_right s.pre pre rest (sym s.parts) in
      ap (λ z. module_of room (z ++ vs)) (sym front) ∙ s.same vs alike

  -- where a reading is wrong, no module begins so
  pub wrong_begins : (room : ℕ) (pre rest : List Lexeme) → module_of room (pre ++ rest) ≡ (Err Wrong, rest) → NoModule pre rest
  wrong_begins room pre rest h vs m spelled alike =
      let here = stopped room pre rest vs Wrong h alike in
      let most = max (max 1 room) (depth_of_module m) in
      let there = (steady_module room most (omega arith) laws).stays (pre ++ vs) (ap (λ o. wants_room o.0) here) ∙ here in
      let whole = whole_read most (omega arith) (pre ++ vs) m spelled (omega arith) in
      let never = ap (λ o. o.0) (sym there ∙ whole) in
      cc

  -- where it wants room, none so shallow does
  pub deep_begins : (room : ℕ) → 1 ≤ room → (pre rest : List Lexeme) → module_of room (pre ++ rest) ≡ (Err Deep, rest) → NoShallowModule room pre rest
  deep_begins room some pre rest h vs m spelled low alike =
      let here = stopped room pre rest vs Deep h alike in
      let whole = whole_read room some (pre ++ vs) m spelled low in
      let never = ap (λ o. o.0) (sym here ∙ whole) in
      cc

  front_of : List Lexeme → List Lexeme
  front_of [] = []
  front_of (l ∷ ls) = l ∷ []

  same_front : (rest : List Lexeme) → first (front_of rest) ≡ first rest
  unfolding front_of first
  same_front [] = refl
  same_front (l ∷ rest) = refl

  short_front : (rest : List Lexeme) → length (front_of rest) ≤ 1
  unfolding front_of
  short_front [] = omega arith
  short_front (l ∷ rest) = omega arith

  deep_short : (room : ℕ) (us left : List Lexeme) → module_of room us ≡ (Err Deep, left) → room ≤ length us
  deep_short room us left h = by (nat_le room (length us)) refl
    where
      by : (b : Bool) → nat_le room (length us) ≡ b → room ≤ length us
      by true enough = leb-true room (length us) enough
      by false few =
          let calm = (steady_module room room (omega arith) laws).shallow us (leb-false room (length us) few) in
          let never = ap (λ o. wants_room o.0) h in cc

  -- and so many lexemes but one stand before the one that it stops at
  pub deep_long : (room : ℕ) (pre rest : List Lexeme) → module_of room (pre ++ rest) ≡ (Err Deep, rest) → room ≤ length pre + 1
  deep_long room pre rest h =
      let enough = deep_short room (pre ++ front_of rest) (front_of rest) (stopped room pre rest (front_of rest) Deep h (same_front rest)) in
      let one = short_front rest in
      omega (arith, length-append pre (front_of rest))

-- Readers of targets are steady, with more room too.
use Rattle.std.proofs.Common.{◌≡◌, ℕ, zero, suc, ◌-◌, ◌<◌, ◌≤◌, Bool, true, false, List, [], ◌∷◌, length, Option, Some, None, Ok, Err, refl, ap, arith}
use Rattle.std.specs.Prelude.{if◌then◌else◌, nat_le, ◌||◌, codes}
use Rattle.rdc_outside.specs.declared.source.Place.{Place}
use Rattle.vlog_tree.specs.declared.expr.Expr.{Expr}
use Rattle.vlog_tree.specs.declared.expr.Expr.TheVariants as e
use Rattle.vlog_tree.specs.declared.expr.Part.{Part}
use Rattle.vlog_tree.specs.Lexemes.{Lexeme}
use Rattle.vlog_expr.specs.declared.stuck.Stuck.TheVariants.{Wrong, Deep}
use Rattle.vlog_expr.specs.Reading as reading
use Rattle.vlog_expr.specs.Reading.{Reader, first, onward, pure, stop, place_if, name_if, sees, expect}
use Rattle.vlog_expr.specs.Exprs.{part_if}
use Rattle.vlog_expr.proofs.Readers.{Steady, ◌>>=◌, ◌>>◌, steady_pure, steady_wrong, steady_peek, steady_if, steady_expect, steady_deep, steady_fewer, wants_room}
use Rattle.vlog_expr.proofs.Inversion.{met}
use Rattle.vlog_expr.proofs.PlainLemmas.{plain_steady}
use Rattle.vlog_stmt.specs.Lists.{known, known_by, commas, Keeps, Eats}
use Rattle.vlog_stmt.specs.Targets.{is_named, begins_target, no_target, index_end, part_end, select, named, members, braced, whole_target, target}
use Rattle.vlog_stmt.proofs.ListsSteady.{steady_known, steady_roomy, steady_commas, steady_keeps, steady_mark}

module _ (k room more : ℕ) (inner outer : Reader Expr) (few : room ≤ suc k) (le : room ≤ more) (parts : Steady k inner outer) where
  index_end_steady : (place : Place) (called : List ℕ) (i : Expr) → Steady room (index_end room inner place called i) (index_end more outer place called i)
  unfolding index_end
  index_end_steady place called i = let built = steady_expect (codes "]") >> steady_pure (e.Index place called i) in built

  part_end_steady : (place : Place) (called : List ℕ) (i : Expr) (part : Part) → Steady room (part_end room inner place called i part) (part_end more outer place called i part)
  unfolding part_end
  part_end_steady place called i part =
      let built = plain_steady room more le >>= (λ j. steady_expect (codes "]") >> steady_pure (e.Select part place called i j)) in built

  select_steady : (place : Place) (called : List ℕ) → Steady room (select room inner place called) (select more outer place called)
  unfolding select
  select_steady place called =
      let built = steady_expect (codes "[") >> (plain_steady room more le >>= (λ i. steady_known part_if (part_end_steady place called i) (index_end_steady place called i))) in built

  named_steady : (place : Place) (called : List ℕ) → Steady room (named room inner place called) (named more outer place called)
  unfolding named
  named_steady place called =
      let built = steady_peek (sees (codes "[")) >>= (λ there. steady_if there (steady_roomy room more le (select_steady place called)) (steady_pure (e.Name place called))) in built

  members_steady : (place : Place) → Steady (suc k) (members room inner place) (members more outer place)
  unfolding members
  members_steady place =
      let built = steady_mark (codes "{") (steady_commas parts >>= (λ es. steady_expect (codes "}") >> steady_pure (e.Concat place es))) in built

  braced_steady : (place : Place) → Steady room (braced room inner place) (braced more outer place)
  unfolding braced
  braced_steady place =
      let built = steady_peek (sees (codes "{")) >>= (λ there. steady_if there (steady_roomy room more le (steady_fewer few (members_steady place))) steady_wrong) in built

  whole_target_steady : Steady room (whole_target room inner) (whole_target more outer)
  unfolding whole_target
  whole_target_steady =
      let built = steady_peek place_if >>= (λ place. steady_known name_if (named_steady place) (braced_steady place)) in built

-- wanting room at once or wrong, beside what is wrong too
pub deep_or_wrong : {A : Type 0} (test : Option Lexeme → Bool) (q : Reader A) → ((ls : List Lexeme) → test (first ls) ≡ false → q ls ≡ (Err Wrong, ls)) → Steady 0 (λ ls. (if test (first ls) then stop Deep else stop Wrong) ls) q
deep_or_wrong {A = A} test q wrong = record {
  local = λ ls. (let built = steady_peek {k = 0} test >>= (λ there. steady_if there (steady_deep {A = A} {q = stop Deep}) steady_wrong) in built.local ls);
  stays = λ ls calm. by (test (first ls)) ls refl calm;
  shallow = λ ls few. absurd (omega arith);
}
  where
    by : (b : Bool) (ls : List Lexeme) → test (first ls) ≡ b → wants_room {A = A} ((if b then stop Deep else stop Wrong) ls).0 ≡ false → q ls ≡ (if b then stop Deep else stop Wrong) ls
    by true ls seen calm = cc
    by false ls seen calm = wrong ls seen

named_first : (o : Option (List ℕ)) → is_named o ≡ false → o ≡ None
unfolding is_named
named_first None e = refl
named_first (Some name) e = cc

or_both : (a b : Bool) → (a || b) ≡ false → (a ≡ false) × (b ≡ false)
or_both true b e = cc
or_both false b e = (refl, e)

-- what begins no target is wrong
pub target_wrong : (d : ℕ) (ls : List Lexeme) → begins_target (first ls) ≡ false → target d ls ≡ (Err Wrong, ls)
unfolding target no_target whole_target braced known known_by begins_target
target_wrong zero ls none = rw none refl
target_wrong (suc d) ls none =
    let both = or_both (is_named (name_if (first ls))) (sees (codes "{") (first ls)) none in
    rw (named_first (name_if (first ls)) both.0, both.1) refl

-- a target of so much depth is too deep only behind as many lexemes, but for the last
pub target_steady : (d more : ℕ) → d ≤ more → Steady (d - 1) (target d) (target more)
unfolding target no_target
target_steady zero more le = let built = deep_or_wrong begins_target (target more) (target_wrong more) in built
target_steady (suc d) zero le = absurd (omega arith)
target_steady (suc d) (suc more) le =
    steady_fewer (omega arith) (whole_target_steady (d - 1) d more (target d) (target more) (omega arith) (omega arith) (target_steady d more (omega arith)))

pub target_keeps : (d : ℕ) → Keeps (target d)
target_keeps d = steady_keeps (target_steady d d (omega arith))

-- each answer leaves fewer lexemes
braced_leaves : (d : ℕ) (place : Place) (there room : Bool) (ls : List Lexeme) (x : Expr) (rest : List Lexeme) → (there ≡ true → 1 ≤ length ls)
    → (if there then (if room then members d (target d) place else stop Deep) else stop Wrong) ls ≡ (Ok x, rest) → length rest < length ls
unfolding members
braced_leaves d place false room ls x rest some h = let no = ap (λ o. o.0) h in cc
braced_leaves d place true false ls x rest some h = let no = ap (λ o. o.0) h in cc
braced_leaves d place true true ls x rest some h =
    let m = met (codes "{") ls (reading.◌>>=◌ (commas (target d)) (λ es. reading.◌>>◌ (expect (codes "}")) (pure (e.Concat place es)))) x rest h in
    let tail = steady_commas (target_steady d d (omega arith)) >>= (λ es. steady_expect (codes "}") >> steady_pure (e.Concat place es)) in
    let less = (steady_keeps tail).leaves m.mid x rest m.onwards in
    omega (arith, ap length m.is)

seen_brace : (ls : List Lexeme) → sees (codes "{") (first ls) ≡ true → 1 ≤ length ls
unfolding first sees
seen_brace [] seen = cc
seen_brace (l ∷ ls) seen = omega arith

whole_leaves : (d : ℕ) (place : Place) (name : Option (List ℕ)) (ls : List Lexeme) (x : Expr) (rest : List Lexeme) → name_if (first ls) ≡ name
    → known_by (named d (target d) place) (braced d (target d) place) name ls ≡ (Ok x, rest) → length rest < length ls
unfolding known_by braced first name_if
whole_leaves d place None ls x rest seen h = braced_leaves d place (sees (codes "{") (first ls)) (nat_le 1 d) ls x rest (seen_brace ls) h
whole_leaves d place (Some called) [] x rest seen h = cc
whole_leaves d place (Some called) (l ∷ ls) x rest seen h =
    let less = (steady_keeps (named_steady (d - 1) d d (target d) (target d) (omega arith) (omega arith) (target_steady d d (omega arith)) place called)).leaves ls x rest h in omega arith

zero_leaves : (there : Bool) (ls : List Lexeme) (x : Expr) (rest : List Lexeme) → (if there then stop Deep else stop Wrong) ls ≡ (Ok x, rest) → length rest < length ls
zero_leaves true ls x rest h = let no = ap (λ o. o.0) h in cc
zero_leaves false ls x rest h = let no = ap (λ o. o.0) h in cc

pub target_eats : (d : ℕ) → Eats (target d)
unfolding target no_target whole_target known
target_eats zero = record { leaves = λ ls x rest h. zero_leaves (begins_target (first ls)) ls x rest h }
target_eats (suc d) = record { leaves = λ ls x rest h. whole_leaves d (place_if (first ls)) (name_if (first ls)) ls x rest refl h }

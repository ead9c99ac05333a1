-- Readers of statements are steady, with more room too, and each answer of one leaves fewer lexemes.
use Rattle.std.proofs.Common.{◌≡◌, ℕ, zero, suc, ◌-◌, ◌<◌, ◌≤◌, Bool, true, false, List, [], ◌∷◌, ◌++◌, length, Option, Some, None, Ok, Err, refl, ap, arith}
use Rattle.std.specs.Prelude.{if◌then◌else◌, nat_le, codes}
use Rattle.rdc_outside.specs.declared.source.Place.{Place}
use Rattle.vlog_tree.specs.declared.expr.Expr.{Expr}
use Rattle.vlog_tree.specs.declared.stmt.Assigns.{Assigns}
use Rattle.vlog_tree.specs.declared.stmt.Matching.{Matching}
use Rattle.vlog_tree.specs.declared.stmt.Matching.TheVariants.{Exact, Wildcard}
use Rattle.vlog_tree.specs.declared.stmt.Arm.{Arm}
use Rattle.vlog_tree.specs.declared.stmt.Stmt.{Stmt}
use Rattle.vlog_tree.specs.declared.stmt.Stmt.TheVariants as s
use Rattle.vlog_tree.specs.Lexemes.{Lexeme}
use Rattle.vlog_expr.specs.declared.stuck.Stuck.TheVariants.{Wrong, Deep}
use Rattle.vlog_expr.specs.Reading as reading
use Rattle.vlog_expr.specs.Reading.{Reader, first, onward, pure, stop, advance, place_if, sees, sees_word, expect, expect_word}
use Rattle.vlog_expr.specs.Exprs.{expr}
use Rattle.vlog_expr.proofs.Readers.{Steady, ◌>>=◌, ◌>>◌, steady_pure, steady_wrong, steady_peek, steady_if, steady_expect, steady_deep, steady_fewer, wants_room}
use Rattle.vlog_expr.proofs.Inversion.{went, met}
use Rattle.vlog_expr.proofs.PlainLemmas.{any_steady, plain_steady}
use Rattle.vlog_stmt.specs.declared.form.Form.{Form}
use Rattle.vlog_stmt.specs.declared.form.Form.TheVariants as form
use Rattle.vlog_stmt.specs.Lists.{known, commas, many, Keeps, Eats}
use Rattle.vlog_stmt.specs.Targets.{value, target}
use Rattle.vlog_stmt.specs.Statements.{assigns_if, form_if, header, choice, before, before_arm, assigned, assign, block, otherwise, branch, labelled, default, arms_behind, arms, cases, repeated, by_form, whole_stmt, deep_by, stmt}
use Rattle.vlog_stmt.proofs.ListsSteady.{steady_known, steady_ident, steady_label, steady_took, steady_took_word, steady_roomy_in, steady_many, steady_commas, steady_keeps, steady_mark, steady_word, steady_expect_word}
use Rattle.vlog_stmt.proofs.TargetsSteady.{target_steady, target_eats}

pub choice_steady : (room more : ℕ) → room ≤ more → (matching : Matching) → Steady room (choice room matching) (choice more matching)
unfolding choice
choice_steady room more le Exact = plain_steady room more le
choice_steady room more le Wildcard = any_steady room more le

pub choice_keeps : (room : ℕ) (matching : Matching) → Keeps (choice room matching)
choice_keeps room matching = steady_keeps (choice_steady room room (omega arith) matching)

pub value_keeps : (room : ℕ) → Keeps (value room)
value_keeps room = steady_keeps (plain_steady room room (omega arith))

pub wild_keeps : (room : ℕ) → Keeps (expr room 0)
wild_keeps room = steady_keeps (any_steady room room (omega arith))

pub header_steady : (room more : ℕ) → room ≤ more → Steady room (header room) (header more)
unfolding header
header_steady room more le =
    let built = steady_expect (codes "(") >> (steady_ident >>= (λ variable. steady_expect (codes "=") >> (plain_steady room more le >>= (λ start. steady_expect (codes ";") >> (plain_steady room more le >>= (λ test. steady_expect (codes ";")
    >> (steady_ident >>= (λ stepped. steady_expect (codes "=") >> (plain_steady room more le >>= (λ step. steady_expect (codes ")") >> steady_pure (record { variable = variable; start = start; test = test; stepped = stepped; step = step }))))))))))) in built

-- behind a word or a mark fewer lexemes are left
eats_behind : {A : Type 0} (test : Option Lexeme → Bool) → test None ≡ false → (p : Reader A) → Keeps p → (there : Bool) (ls : List Lexeme) → test (first ls) ≡ there → (x : A) (rest : List Lexeme)
    → onward ((if there then advance else stop Wrong) ls).0 ((if there then advance else stop Wrong) ls).1 (λ _. p) ≡ (Ok x, rest) → length rest < length ls
unfolding first
eats_behind test none p k false ls seen x rest h = let no = ap (λ o. o.0) h in cc
eats_behind test none p k true [] seen x rest h = cc
eats_behind test none p k true (l ∷ ls) seen x rest h = let less = k.leaves ls x rest h in omega arith

-- steady, and each answer leaves fewer lexemes
pub record Fine (k : ℕ) {A : Type 0} (p q : Reader A) : Type 0 where
  pub steady : Steady k p q
  pub eats : Eats p

fine_word : {k : ℕ} {A : Type 0} (word : List ℕ) {p q : Reader A} → Steady k p q
    → Fine (suc k) (λ ls. onward (expect_word word ls).0 (expect_word word ls).1 (λ _. p)) (λ ls. onward (expect_word word ls).0 (expect_word word ls).1 (λ _. q))
unfolding expect_word sees_word
fine_word word {p = p} s = record { steady = steady_word word s; eats = record { leaves = λ ls x rest h. eats_behind (sees_word word) refl p (steady_keeps s) (sees_word word (first ls)) ls refl x rest h } }

fine_mark : {k : ℕ} {A : Type 0} (mark : List ℕ) {p q : Reader A} → Steady k p q
    → Fine (suc k) (λ ls. onward (expect mark ls).0 (expect mark ls).1 (λ _. p)) (λ ls. onward (expect mark ls).0 (expect mark ls).1 (λ _. q))
unfolding expect sees
fine_mark mark {p = p} s = record { steady = steady_mark mark s; eats = record { leaves = λ ls x rest h. eats_behind (sees mark) refl p (steady_keeps s) (sees mark (first ls)) ls refl x rest h } }

fine_fewer : {k n : ℕ} {A : Type 0} {p q : Reader A} → n ≤ k → Fine k p q → Fine n p q
fine_fewer le f = record { steady = steady_fewer le f.steady; eats = f.eats }

roomy_eats : {A : Type 0} (p : Reader A) (b : Bool) → Eats p → Eats (if b then p else stop Deep)
roomy_eats p true e = e
roomy_eats p false e = record { leaves = λ ls x rest h. (let no = ap (λ o. o.0) h in cc) }

fine_roomy : {k : ℕ} {A : Type 0} {p q : Reader A} (room more : ℕ) → k ≤ room → room ≤ more → Fine k p q → Fine k (if nat_le 1 room then p else stop Deep) (if nat_le 1 more then q else stop Deep)
fine_roomy {p = p} room more few le f = record { steady = steady_roomy_in room more few le f.steady; eats = roomy_eats p (nat_le 1 room) f.eats }

fine_wrong : {k : ℕ} {A : Type 0} → Fine k {A = A} (stop Wrong) (stop Wrong)
fine_wrong = record { steady = steady_wrong; eats = record { leaves = λ ls x rest h. (let no = ap (λ o. o.0) h in cc) } }

-- an answer that fewer lexemes are left behind, and on
eats_on : {A B : Type 0} (p : Reader A) (f : A → Reader B) → Eats p → ((a : A) → Keeps (f a)) → (ls : List Lexeme) (b : B) (rest : List Lexeme) → onward (p ls).0 (p ls).1 f ≡ (Ok b, rest) → length rest < length ls
eats_on p f e k ls b rest h =
    let w = went (p ls).0 (p ls).1 f b rest h in
    let less = e.leaves ls w.answer (p ls).1 (ap (λ v. (v, (p ls).1)) w.was) in
    let kept = (k w.answer).leaves (p ls).1 b rest w.onwards in
    omega arith

module _ (room more : ℕ) (inner outer : Reader Stmt) (le : room ≤ more) (parts : Steady (room - 2) inner outer) (eats : Eats inner) where
  low : {A : Type 0} {p q : Reader A} → Steady room p q → Steady (room - 2) p q
  low s = steady_fewer (omega arith) s

  value_low : Steady (room - 2) (value room) (value more)
  value_low = low (plain_steady room more le)

  assigned_steady : (place : Place) (t : Expr) (by : Assigns) → Steady room (assigned room inner place t by) (assigned more outer place t by)
  unfolding assigned
  assigned_steady place t by = let built = plain_steady room more le >>= (λ v. steady_expect (codes ";") >> steady_pure (s.Assign place t by v)) in built

  mark_steady : (place : Place) (t : Expr) → Steady (room - 1) (known assigns_if (assigned room inner place t) (stop Wrong)) (known assigns_if (assigned more outer place t) (stop Wrong))
  mark_steady place t = steady_known assigns_if (λ by. steady_fewer (omega arith) (assigned_steady place t by)) steady_wrong

  assign_fine : (place : Place) → Fine (room - 1) (assign room inner place) (assign more outer place)
  unfolding assign
  assign_fine place =
      let built = target_steady room more le >>= mark_steady place in
      record { steady = built; eats = record { leaves = λ ls x rest h. eats_on (target room) (λ t. known assigns_if (assigned room inner place t) (stop Wrong)) (target_eats room) (λ t. steady_keeps (mark_steady place t)) ls x rest h } }

  block_fine : (place : Place) → Fine (suc (room - 2)) (block room inner place) (block more outer place)
  unfolding block
  block_fine place =
      let tail = low (steady_label room more le) >>= (λ name. steady_many (room - 2) (before (codes "end")) inner outer eats parts >>= (λ ss. steady_expect_word (codes "end") >> steady_pure (s.Block place name ss))) in
      let built = fine_word (codes "begin") tail in built

  otherwise_steady : (place : Place) (test : Expr) (a : Stmt) → Steady (room - 2) (otherwise room inner place test a) (otherwise more outer place test a)
  unfolding otherwise
  otherwise_steady place test a =
      let built = steady_took_word (codes "else") >>= (λ there. steady_if there (parts >>= (λ b. steady_pure (s.If place test a (Some b)))) (steady_pure (s.If place test a None))) in built

  branch_fine : (place : Place) → Fine (suc (room - 2)) (branch room inner place) (branch more outer place)
  unfolding branch
  branch_fine place =
      let tail = steady_expect (codes "(") >> (value_low >>= (λ test. steady_expect (codes ")") >> (parts >>= otherwise_steady place test))) in
      let built = fine_word (codes "if") tail in built

  pub labelled_steady : (matching : Matching) → Steady (room - 2) (labelled room inner matching) (labelled more outer matching)
  unfolding labelled
  labelled_steady matching =
      let built = steady_peek place_if >>= (λ place. steady_commas (low (choice_steady room more le matching)) >>= (λ labels. steady_expect (codes ":") >> (parts >>= (λ body. steady_pure (record { place = place; labels = labels; body = body }))))) in built

  default_steady : Steady (room - 2) (default room inner) (default more outer)
  unfolding default
  default_steady =
      let built = steady_peek place_if >>= (λ place. steady_expect_word (codes "default") >> (steady_took (codes ":") >>= (λ colon. parts >>= (λ body. steady_pure (record { place = place; labels = []; body = body }))))) in built

  -- an item is behind its labels
  body_keeps : Keeps inner
  body_keeps = steady_keeps parts

  pub item_eats : (matching : Matching) → Eats (labelled room inner matching)
  unfolding labelled
  item_eats matching = record {
    leaves = λ ls x rest h.
        let place = place_if (first ls) in
        let labels = commas (choice room matching) in
        let a = went (labels ls).0 (labels ls).1 (λ es. reading.◌>>◌ (expect (codes ":")) (reading.◌>>=◌ inner (λ body. pure (record { place = place; labels = es; body = body })))) x rest h in
        let first_kept = (steady_keeps (steady_commas (choice_steady room room (omega arith) matching))).leaves ls a.answer (labels ls).1 (ap (λ v. (v, (labels ls).1)) a.was) in
        let m = met (codes ":") (labels ls).1 (reading.◌>>=◌ inner (λ body. pure (record { place = place; labels = a.answer; body = body }))) x rest a.onwards in
        let b = went (inner m.mid).0 (inner m.mid).1 (λ body. pure (record { place = place; labels = a.answer; body = body })) x rest m.onwards in
        let kept = body_keeps.leaves m.mid b.answer (inner m.mid).1 (ap (λ v. (v, (inner m.mid).1)) b.was) in
        let last = ap (λ o. length o.1) b.onwards in
        omega (arith, ap length m.is);
  }

  many_labelled : (in_front : Bool) (matching : Matching) → Steady (room - 2) (many (before_arm in_front) (labelled room inner matching)) (many (before_arm in_front) (labelled more outer matching))
  many_labelled in_front matching = steady_many (room - 2) (before_arm in_front) (labelled room inner matching) (labelled more outer matching) (item_eats matching) (labelled_steady matching)

  behind_steady : (matching : Matching) (xs : List (Arm Stmt)) → Steady (room - 2) (arms_behind room inner matching xs) (arms_behind more outer matching xs)
  unfolding arms_behind
  behind_steady matching xs =
      let built = steady_peek (sees_word (codes "default")) >>= (λ there. steady_if there (default_steady >>= (λ x. many_labelled false matching >>= (λ ys. steady_pure (xs ++ x ∷ ys)))) (steady_pure xs)) in built

  arms_steady : (matching : Matching) → Steady (room - 2) (arms room inner matching) (arms more outer matching)
  unfolding arms
  arms_steady matching = let built = many_labelled true matching >>= behind_steady matching in built

  cases_fine : (place : Place) (word : List ℕ) (matching : Matching) → Fine (suc (room - 2)) (cases room inner place word matching) (cases more outer place word matching)
  unfolding cases
  cases_fine place word matching =
      let tail = steady_expect (codes "(") >> (value_low >>= (λ selector. steady_expect (codes ")") >> (arms_steady matching >>= (λ items. steady_expect_word (codes "endcase") >> steady_pure (s.Case place matching selector items))))) in
      let built = fine_word word tail in built

  loop_fine : (place : Place) → Fine (suc (room - 2)) (repeated room inner place) (repeated more outer place)
  unfolding repeated
  loop_fine place =
      let tail = low (header_steady room more le) >>= (λ head. parts >>= (λ body. steady_pure (s.For place head body))) in
      let built = fine_word (codes "for") tail in built

  empty_fine : (place : Place) → Fine (suc (room - 2)) (reading.◌>>◌ (expect (codes ";")) (pure (s.Empty place))) (reading.◌>>◌ (expect (codes ";")) (pure (s.Empty place)))
  empty_fine place = fine_mark (codes ";") (steady_pure (s.Empty place))

  by_form_fine : (place : Place) (f : Form) → Fine (room - 1) (by_form room inner place f) (by_form more outer place f)
  unfolding by_form
  by_form_fine place form.Empty = fine_fewer (omega arith) (empty_fine place)
  by_form_fine place form.Block = fine_fewer (omega arith) (block_fine place)
  by_form_fine place form.If = fine_roomy room more (omega arith) le (fine_fewer (omega arith) (branch_fine place))
  by_form_fine place form.Case = fine_roomy room more (omega arith) le (fine_fewer (omega arith) (cases_fine place (codes "case") Exact))
  by_form_fine place form.Casez = fine_roomy room more (omega arith) le (fine_fewer (omega arith) (cases_fine place (codes "casez") Wildcard))
  by_form_fine place form.For = fine_roomy room more (omega arith) le (fine_fewer (omega arith) (loop_fine place))
  by_form_fine place form.Target = fine_roomy room more (omega arith) le (assign_fine place)
  by_form_fine place form.Other = fine_wrong

  whole_fine : Fine (room - 1) (whole_stmt room inner) (whole_stmt more outer)
  unfolding whole_stmt
  whole_fine = record {
    steady = (let built = steady_peek place_if >>= (λ place. steady_peek form_if >>= (λ f. (by_form_fine place f).steady)) in built);
    eats = record { leaves = λ ls x rest h. (by_form_fine (place_if (first ls)) (form_if (first ls))).eats.leaves ls x rest h };
  }

deep_by_steady : (f : Form) → Steady 0 (deep_by f) (deep_by f)
unfolding deep_by
deep_by_steady form.Empty = steady_deep
deep_by_steady form.Block = steady_deep
deep_by_steady form.If = steady_deep
deep_by_steady form.Case = steady_deep
deep_by_steady form.Casez = steady_deep
deep_by_steady form.For = steady_deep
deep_by_steady form.Target = steady_deep
deep_by_steady form.Other = steady_wrong

-- what begins no statement is wrong
pub stmt_wrong : (d : ℕ) (ls : List Lexeme) → form_if (first ls) ≡ form.Other → stmt d ls ≡ (Err Wrong, ls)
unfolding stmt whole_stmt by_form deep_by
stmt_wrong zero ls none = ap (λ f. deep_by f ls) none
stmt_wrong (suc d) ls none = ap (λ f. by_form d (stmt d) (place_if (first ls)) f ls) none

zero_stays : (d : ℕ) (f : Form) (ls : List Lexeme) → form_if (first ls) ≡ f → wants_room (deep_by f ls).0 ≡ false → stmt d ls ≡ deep_by f ls
unfolding deep_by
zero_stays d form.Empty ls seen calm = cc
zero_stays d form.Block ls seen calm = cc
zero_stays d form.If ls seen calm = cc
zero_stays d form.Case ls seen calm = cc
zero_stays d form.Casez ls seen calm = cc
zero_stays d form.For ls seen calm = cc
zero_stays d form.Target ls seen calm = cc
zero_stays d form.Other ls seen calm = stmt_wrong d ls seen

no_answer : (f : Form) (ls : List Lexeme) (x : Stmt) (rest : List Lexeme) → deep_by f ls ≡ (Ok x, rest) → ⊥
unfolding deep_by
no_answer form.Empty ls x rest h = let no = ap (λ o. o.0) h in cc
no_answer form.Block ls x rest h = let no = ap (λ o. o.0) h in cc
no_answer form.If ls x rest h = let no = ap (λ o. o.0) h in cc
no_answer form.Case ls x rest h = let no = ap (λ o. o.0) h in cc
no_answer form.Casez ls x rest h = let no = ap (λ o. o.0) h in cc
no_answer form.For ls x rest h = let no = ap (λ o. o.0) h in cc
no_answer form.Target ls x rest h = let no = ap (λ o. o.0) h in cc
no_answer form.Other ls x rest h = let no = ap (λ o. o.0) h in cc

zero_fine : (more : ℕ) → Fine 0 (stmt zero) (stmt more)
unfolding stmt
zero_fine more = record {
  steady = record {
    local = λ ls. (let built = steady_peek {k = 0} form_if >>= deep_by_steady in built.local ls);
    stays = λ ls calm. zero_stays more (form_if (first ls)) ls refl calm;
    shallow = λ ls few. absurd (omega arith);
  };
  eats = record { leaves = λ ls x rest h. absurd (no_answer (form_if (first ls)) ls x rest h) };
}

-- a statement of so much depth is too deep only behind as many lexemes, but for the last two
pub stmt_fine : (d more : ℕ) → d ≤ more → Fine (d - 2) (stmt d) (stmt more)
unfolding stmt
stmt_fine zero more le = fine_fewer (omega arith) (zero_fine more)
stmt_fine (suc d) zero le = absurd (omega arith)
stmt_fine (suc d) (suc more) le =
    let below = stmt_fine d more (omega arith) in
    fine_fewer (omega arith) (whole_fine d more (stmt d) (stmt more) (omega arith) below.steady below.eats)

pub stmt_steady : (d more : ℕ) → d ≤ more → Steady (d - 2) (stmt d) (stmt more)
stmt_steady d more le = (stmt_fine d more le).steady

pub stmt_eats : (d : ℕ) → Eats (stmt d)
stmt_eats d = (stmt_fine d d (omega arith)).eats

pub labelled_eats : (d : ℕ) (matching : Matching) → Eats (labelled d (stmt d) matching)
labelled_eats d matching = item_eats d d (stmt d) (stmt d) (omega arith) (stmt_steady d d (omega arith)) (stmt_eats d) matching

-- Serves specs/Laws.antt: no form of statement leaves a loop, or makes a turn too many.
use Rattle.std.proofs.Common.{◌≡◌, ◌⊎◌, inl, inr, ℕ, zero, suc, ◌<◌, Bool, true, false, ◌||◌, not, if◌then◌else◌, List, [], ◌∷◌, ◌++◌, map, All, Option, Some, None, Ok, Err, refl, sym, ap, subst, ◌∙◌, arith}
use Rattle.std.specs.List.{list_any}
use Rattle.std.proofs.lemmas.List.Elements.{All-nil, All-push}
use Rattle.std.proofs.lemmas.List.Folds.{list_any_none}
use Rattle.std.proofs.lemmas.Bool.Decides.{nat_tests}
use Rattle.rdc_outside.specs.declared.source.Place.{Place}
use Rattle.vlog_tree.specs.declared.expr.Expr.{Expr}
use Rattle.vlog_tree.specs.declared.ident.Ident.{Ident}
use Rattle.vlog_tree.specs.declared.stmt.Arm.{Arm}
use Rattle.vlog_tree.specs.declared.stmt.Assigns.{Assigns}
use Rattle.vlog_tree.specs.declared.stmt.Loop.{Loop}
use Rattle.vlog_tree.specs.declared.stmt.Matching.{Matching}
use Rattle.vlog_tree.specs.declared.stmt.Stmt.{Stmt, fold-roll-Stmt, ind-Stmt, map-Stmt, roll-Stmt}
use Rattle.vlog_tree.specs.declared.stmt.Stmt.TheOpen.{Stmt-F}
use Rattle.vlog_tree.specs.declared.stmt.Stmt.TheVariants.{Empty, Block, Assign, If, Case, For, rolls-Empty, rolls-Block, rolls-Assign, rolls-If, rolls-Case, rolls-For}
use Rattle.vlog_const.specs.declared.answer.ConstValue.{ConstValue}
use Rattle.vlog_const.specs.Names.{Values, no_values}
use Rattle.vlog_const.specs.Worths.{is_true}
use Rattle.vlog_const.specs.Constants.{value_of, value_within}
use Rattle.proc_loops.specs.declared.progress.Progress.{Progress}
use Rattle.proc_loops.specs.declared.pieces.Sides.{Sides}
use Rattle.proc_loops.specs.declared.turn.Turn.{Turn}
use Rattle.proc_loops.specs.declared.turn.Turn.TheVariants.{Ended, Full, Cut, Made}
use Rattle.proc_loops.specs.declared.turn.Unrolled.{Unrolled}
use Rattle.proc_loops.specs.Faults.{Or_fault, and_then, constant}
use Rattle.proc_loops.specs.Headers.{unknown}
use Rattle.proc_loops.specs.Turns.{Run, most_turns, is_full, one_more, closed, ended, stepped, cut, turn, after_turn, turns, unroll_loop, begun}
use Rattle.proc_loops.specs.Unrolled.{put_in, all_put_in, each, arm_in, sides, other_side, assignment, unroll, unrolled, unrolled_if}
use Rattle.proc_loops.specs.Laws.{has_loop, has_loop_by_parts}
use Rattle.proc_loops.proofs.AssignForms.{any_map}
use Rattle.proc_loops.proofs.UnrollForms.{each-map, with_body, unroll-Empty, unroll-Block, unroll-Assign, unroll-If, unroll-Case, unroll-For}

-- ---- forms

loop-Empty : (place : Place) → has_loop (Empty place) ≡ false
unfolding has_loop has_loop_by_parts
loop-Empty place = ap has_loop (sym (rolls-Empty place)) ∙ fold-roll-Stmt Bool has_loop_by_parts (Stmt-F.Empty place)

pub loop-Block : (place : Place) (label : Option Ident) (ss : List Stmt) → has_loop (Block place label ss) ≡ list_any has_loop ss
unfolding has_loop has_loop_by_parts
loop-Block place label ss = ap has_loop (sym (rolls-Block place label ss)) ∙ fold-roll-Stmt Bool has_loop_by_parts (Stmt-F.Block place label ss) ∙ any_map has_loop (λ b. b) ss

loop-Assign : (place : Place) (target : Expr) (by : Assigns) (value : Expr) → has_loop (Assign place target by value) ≡ false
unfolding has_loop has_loop_by_parts
loop-Assign place target by value = ap has_loop (sym (rolls-Assign place target by value)) ∙ fold-roll-Stmt Bool has_loop_by_parts (Stmt-F.Assign place target by value)

pub loop-If-None : (place : Place) (test : Expr) (a : Stmt) → has_loop (If place test a None) ≡ (has_loop a || false)
unfolding has_loop has_loop_by_parts
loop-If-None place test a = ap has_loop (sym (rolls-If place test a None)) ∙ fold-roll-Stmt Bool has_loop_by_parts (Stmt-F.If place test a None)

pub loop-If-Some : (place : Place) (test : Expr) (a b : Stmt) → has_loop (If place test a (Some b)) ≡ (has_loop a || has_loop b)
unfolding has_loop has_loop_by_parts
loop-If-Some place test a b = ap has_loop (sym (rolls-If place test a (Some b))) ∙ fold-roll-Stmt Bool has_loop_by_parts (Stmt-F.If place test a (Some b))

pub loop-Case : (place : Place) (how : Matching) (selector : Expr) (arms : List (Arm Stmt)) → has_loop (Case place how selector arms) ≡ list_any (λ a. has_loop a.body) arms
unfolding has_loop has_loop_by_parts
loop-Case place how selector arms =
    ap has_loop (sym (rolls-Case place how selector arms)) ∙ fold-roll-Stmt Bool has_loop_by_parts (Stmt-F.Case place how selector arms) ∙ any_map _ (λ a. a.body) arms

pub loop-For : (place : Place) (h : Loop) (body : Stmt) → has_loop (For place h body) ≡ true
unfolding has_loop has_loop_by_parts
loop-For place h body = ap has_loop (sym (rolls-For place h body)) ∙ fold-roll-Stmt Bool has_loop_by_parts (Stmt-F.For place h body)

-- ---- steps

then_of : {A B : Type 0} (r : Or_fault A) (f : A → Or_fault B) (y : B) → and_then r f ≡ Ok y → (x : A) × ((r ≡ Ok x) × (f x ≡ Ok y))
unfolding and_then
then_of (Ok x) f y h = (x, (refl, h))
then_of (Err fault) f y h = absurd cc

-- which side of a choice
chosen : {A : Type 0} (b : Bool) (x y z : A) → (if b then x else y) ≡ z → ((b ≡ true) × (x ≡ z)) ⊎ ((b ≡ false) × (y ≡ z))
chosen true x y z h = inl (refl, h)
chosen false x y z h = inr (refl, h)

-- ---- what is kept

abbrev IsShort : Progress → Type 0
IsShort p = p.turns < 65536

abbrev IsFree : Stmt → Type 0
IsFree s = has_loop s ≡ false

abbrev Keeps : {A : Type 0} → (A → Type 0) → Run A → Type 0
Keeps {A} Holds f = (values : Values) (p : Progress) (r : A × Progress) → IsShort p → f values p ≡ Ok r → Holds r.0 × IsShort r.1

answered : {A : Type 0} (Holds : A → Type 0) (a : A) (p : Progress) (r : A × Progress) → (let x : Or_fault (A × Progress) = Ok (a, p) in x) ≡ Ok r → Holds a → IsShort p → Holds r.0 × IsShort r.1
answered {A} Holds a p r is h short = let same : (let x : A × Progress = (a, p) in x) ≡ r = cc in subst (λ z. Holds z.0 × IsShort z.1) same (h, short)

each_keeps : {S T : Type 0} (Holds : T → Type 0) (g : S → Run T) → ((x : S) → Keeps Holds (g x)) → (done : List T) (xs : List S) → All Holds done → Keeps (All Holds) (each g done xs)
unfolding each
each_keeps Holds g keeps done [] all values p r short is = answered (All Holds) done p r is all short
each_keeps Holds g keeps done (x ∷ xs) all values p r short is =
    elim (chosen p.is_cut (Ok (done, p)) (and_then (g x values p) (λ t. each g (done ++ t.0 ∷ []) xs values t.1)) (Ok r) is) [
      | inl e ↦ answered (All Holds) done p r e.1 all short
      | inr e ↦
          let step = then_of (g x values p) (λ t. each g (done ++ t.0 ∷ []) xs values t.1) r e.1 in
          let kept = keeps x values p step.0 short step.1.0 in
          each_keeps Holds g keeps (done ++ step.0.0 ∷ []) xs (All-push Holds done step.0.0 all kept.0) values step.0.1 r kept.1 step.1.1
    ]

-- ---- loops

TurnFree : Turn → Type 0
TurnFree Ended = Unit
TurnFree Full = Unit
TurnFree (Cut s q) = IsFree s × IsShort q
TurnFree (Made s w q) = IsFree s × IsShort q

room : (p : Progress) → is_full p ≡ false → IsShort (one_more p)
unfolding most_turns
room p is = grind (arith, nat_tests)

turn_keeps : (h : Loop) (inside : Values) (body : Run Stmt) → Keeps IsFree body → (v : ConstValue) (p : Progress) (t : Turn) → turn h inside body v p ≡ Ok t → TurnFree t
unfolding turn TurnFree
turn_keeps h inside body keeps v p t is =
    let tested = then_of (constant (value_of inside h.test)) _ t is in
    elim (chosen (not (is_true tested.0)) _ _ (Ok t) tested.1.1) [
      | inl e ↦ let same : Ended ≡ t = cc in subst TurnFree same tt
      | inr e ↦
          elim (chosen (is_full p) _ _ (Ok t) e.1) [
            | inl f ↦ let same : Full ≡ t = cc in subst TurnFree same tt
            | inr f ↦
                let made = then_of (body inside (one_more p)) _ t f.1 in
                let kept = keeps inside (one_more p) made.0 (room p f.0) made.1.0 in
                elim (chosen made.0.1.is_cut _ _ (Ok t) made.1.1) [
                  | inl g ↦ let same : Cut made.0.0 made.0.1 ≡ t = cc in subst TurnFree same kept
                  | inr g ↦
                      let given = then_of (constant (value_within inside 32 h.step)) _ t g.1 in
                      let same : Made made.0.0 (stepped h v given.0) made.0.1 ≡ t = cc in subst TurnFree same kept
                ]
          ]
    ]

-- the turns that follow
abbrev Goes : (ConstValue → List Stmt → Progress → Or_fault (List Stmt × Progress)) → Type 0
Goes more = (v : ConstValue) (done : List Stmt) (p : Progress) (r : List Stmt × Progress) → All IsFree done → IsShort p → more v done p ≡ Ok r → All IsFree r.0 × IsShort r.1

after_keeps : (more : ConstValue → List Stmt → Progress → Or_fault (List Stmt × Progress)) → Goes more → (h : Loop) (v : ConstValue) (done : List Stmt) (p : Progress) (t : Turn) (r : List Stmt × Progress)
    → TurnFree t → All IsFree done → IsShort p → after_turn more h v done p t ≡ Ok r → All IsFree r.0 × IsShort r.1
unfolding after_turn TurnFree
after_keeps more goes h v done p Ended r free all short is = answered (All IsFree) _ (closed p) r is (All-push IsFree done (ended h.variable v) all (loop-Assign _ _ _ _)) short
after_keeps more goes h v done p Full r free all short is = answered (All IsFree) done (cut p) r is all short
after_keeps more goes h v done p (Cut s q) r free all short is = answered (All IsFree) _ q r is (All-push IsFree done s all free.0) free.1
after_keeps more goes h v done p (Made s w q) r free all short is = goes w (done ++ s ∷ []) q r (All-push IsFree done s all free.0) free.1 is

turns_keep : (n : ℕ) (h : Loop) (inside : ConstValue → Values) (body : Run Stmt) → Keeps IsFree body → Goes (turns n h inside body)
unfolding turns
turns_keep zero h inside body keeps v done p r all short is = answered (All IsFree) done (cut p) r is all short
turns_keep (suc n) h inside body keeps v done p r all short is =
    let step = then_of (turn h (inside v) body v p) (after_turn (turns n h inside body) h v done p) r is in
    after_keeps (turns n h inside body) (turns_keep n h inside body keeps) h v done p step.0 r (turn_keeps h (inside v) body keeps v p step.0 step.1.0) all short step.1.1

block_free : (place : Place) (label : Option Ident) (ss : List Stmt) → All IsFree ss → IsFree (Block place label ss)
block_free place label ss all = loop-Block place label ss ∙ list_any_none has_loop ss all

loop_keeps : (place : Place) (h : Loop) (body : Stmt) (run : Run Stmt) → Keeps IsFree run → Keeps IsFree (unroll_loop place h body run)
unfolding unroll_loop
loop_keeps place h body run keeps values p r short is =
    let start = then_of (constant (value_within values 32 h.start)) _ r is in
    let made = then_of _ (λ (q : List Stmt × Progress). let x : Or_fault (Stmt × Progress) = Ok (Block place None q.0, q.1) in x) r start.1.1 in
    let kept = turns_keep most_turns h _ run keeps _ [] _ made.0 (All-nil IsFree) short made.1.0 in
    answered IsFree (Block place None made.0.0) made.0.1 r made.1.1 (block_free place None made.0.0 kept.0) kept.1

-- ---- forms of statements

abbrev IsSo : Stmt → Type 0
IsSo s = Keeps IsFree (unroll s)

abbrev Known : Type 0
Known = (s : Stmt) × IsSo s

abbrev known : Known → Stmt
known k = k.0

by_form : (s t : Stmt) (f : Run Stmt) → s ≡ t → ((values : Values) (p : Progress) → unroll t values p ≡ f values p) → Keeps IsFree f → IsSo s
by_form s t f rolls form keeps = subst IsSo (sym rolls) (λ values p r short is. keeps values p r short (sym (form values p) ∙ is))

known_keep : (k : Known) → Keeps IsFree (unroll (known k))
known_keep k = k.1

empty_keeps : (place : Place) → Keeps IsFree (λ values p. Ok (Empty place, p))
empty_keeps place values p r short is = answered IsFree (Empty place) p r is (loop-Empty place) short

assignment_keeps : (place : Place) (target : Expr) (by : Assigns) (value : Expr) → Keeps IsFree (assignment place target by value)
unfolding assignment
assignment_keeps place target by value values p r short is =
    let first = then_of (put_in values target) _ r is in
    let second = then_of (put_in values value) _ r first.1.1 in
    answered IsFree (Assign place first.0 by second.0) p r second.1.1 (loop-Assign place first.0 by second.0) short

block_keeps : (place : Place) (label : Option Ident) (ss : List Known) → Keeps IsFree (λ values p. and_then (each unroll [] (map known ss) values p) (λ r. Ok (Block place label r.0, r.1)))
block_keeps place label ss values p r short is =
    let made = then_of _ (λ (q : List Stmt × Progress). let x : Or_fault (Stmt × Progress) = Ok (Block place label q.0, q.1) in x) r is in
    let kept = each_keeps IsFree (λ k. unroll (known k)) known_keep [] ss (All-nil IsFree) values p made.0 short (sym (each-map known unroll [] ss values p) ∙ made.1.0) in
    answered IsFree (Block place label made.0.0) made.0.1 r made.1.1 (block_free place label made.0.0 kept.0) kept.1

abbrev IsFreeArm : Arm Stmt → Type 0
IsFreeArm a = has_loop a.body ≡ false

arm_keeps : (a : Arm Known) → Keeps IsFreeArm (arm_in unroll (with_body known a))
unfolding arm_in
arm_keeps a values p r short is =
    let labels = then_of (all_put_in values [] a.labels) _ r is in
    let made = then_of (unroll a.body.0 values p) _ r labels.1.1 in
    let kept = a.body.1 values p made.0 short made.1.0 in
    answered IsFreeArm (record { place = a.place; labels = labels.0; body = made.0.0 }) made.0.1 r made.1.1 kept.0 kept.1

case_keeps : (place : Place) (how : Matching) (selector : Expr) (arms : List (Arm Known))
    → Keeps IsFree (λ values p. and_then (put_in values selector) (λ s. and_then (each (arm_in unroll) [] (map (with_body known) arms) values p) (λ r. Ok (Case place how s r.0, r.1))))
case_keeps place how selector arms values p r short is =
    let s = then_of (put_in values selector) _ r is in
    let made = then_of _ (λ (q : List (Arm Stmt) × Progress). let x : Or_fault (Stmt × Progress) = Ok (Case place how s.0 q.0, q.1) in x) r s.1.1 in
    let kept = each_keeps IsFreeArm (λ a. arm_in unroll (with_body known a)) arm_keeps [] arms (All-nil IsFreeArm) values p made.0 short (sym (each-map (with_body known) (arm_in unroll) [] arms values p) ∙ made.1.0) in
    answered IsFree (Case place how s.0 made.0.0) made.0.1 r made.1.1 (loop-Case place how s.0 made.0.0 ∙ list_any_none (λ a. has_loop a.body) made.0.0 kept.0) kept.1

-- both sides of an `if`
record FreeSides (r : Sides) : Type 0 where
  pub free : (place : Place) (test : Expr) → IsFree (If place test r.first r.other)
  pub short : IsShort r.then

one_side : (q : Stmt × Progress) (r : Sides) → IsFree q.0 → IsShort q.1 → (let x : Or_fault Sides = Ok (record { first = q.0; other = None; then = q.1 }) in x) ≡ Ok r → FreeSides r
one_side q r free short is =
    let same : (let x : Sides = record { first = q.0; other = None; then = q.1 } in x) ≡ r = cc in
    subst FreeSides same (record { free = λ place test. loop-If-None place test q.0 ∙ ap (λ b. b || false) free; short = short })

sides_keep : (b : Option Known) (values : Values) (q : Stmt × Progress) (r : Sides) → IsFree q.0 → IsShort q.1 → other_side (λ k. unroll (known k)) b values q ≡ Ok r → FreeSides r
unfolding other_side
sides_keep None values q r free short is = one_side q r free short is
sides_keep (Some k) values q r free short is =
    elim (chosen q.1.is_cut _ _ (Ok r) is) [
      | inl e ↦ one_side q r free short e.1
      | inr e ↦
          let made = then_of (unroll (known k) values q.1) _ r e.1 in
          let kept = k.1 values q.1 made.0 short made.1.0 in
          let same : (let x : Sides = record { first = q.0; other = Some made.0.0; then = made.0.1 } in x) ≡ r = cc in
          subst FreeSides same (record { free = λ place test. loop-If-Some place test q.0 made.0.0 ∙ ap (λ b. b || has_loop made.0.0) free ∙ kept.0; short = kept.1 })
    ]

if_keeps : (place : Place) (test : Expr) (a : Known) (b : Option Known) (o : Option Stmt) → ((values : Values) (q : Stmt × Progress) → other_side unroll o values q ≡ other_side (λ k. unroll (known k)) b values q)
    → Keeps IsFree (λ values p. and_then (put_in values test) (λ t. and_then (sides unroll o values (unroll (known a) values p)) (λ r. Ok (If place t r.first r.other, r.then))))
if_keeps place test a b o same values p r short is =
    let t = then_of (put_in values test) _ r is in
    let made = then_of (sides unroll o values (unroll (known a) values p)) (λ (q : Sides). let x : Or_fault (Stmt × Progress) = Ok (If place t.0 q.first q.other, q.then) in x) r t.1.1 in
    let first = then_of (unroll (known a) values p) (other_side unroll o values) made.0 made.1.0 in
    let kept = a.1 values p first.0 short first.1.0 in
    let both = sides_keep b values first.0 made.0 kept.0 kept.1 (sym (same values first.0) ∙ first.1.1) in
    answered IsFree (If place t.0 made.0.first made.0.other) made.0.then r made.1.1 (both.free place t.0) both.short

none_same : (values : Values) (q : Stmt × Progress) → other_side unroll None values q ≡ other_side (λ k. unroll (known k)) None values q
unfolding other_side
none_same values q = refl

some_same : (k : Known) (values : Values) (q : Stmt × Progress) → other_side unroll (Some (known k)) values q ≡ other_side (λ k. unroll (known k)) (Some k) values q
unfolding other_side
some_same k values q = refl

by_parts : (y : Stmt-F Known) → IsSo (roll-Stmt (map-Stmt Known Stmt known y))
by_parts (Stmt-F.Empty place) = by_form _ _ _ (rolls-Empty place) (unroll-Empty place) (empty_keeps place)
by_parts (Stmt-F.Block place label ss) = by_form _ _ _ (rolls-Block place label (map known ss)) (unroll-Block place label (map known ss)) (block_keeps place label ss)
by_parts (Stmt-F.Assign place target by value) = by_form _ _ _ (rolls-Assign place target by value) (unroll-Assign place target by value) (assignment_keeps place target by value)
by_parts (Stmt-F.If place test a None) = by_form _ _ _ (rolls-If place test (known a) None) (unroll-If place test (known a) None) (if_keeps place test a None None none_same)
by_parts (Stmt-F.If place test a (Some b)) =
    by_form _ _ _ (rolls-If place test (known a) (Some (known b))) (unroll-If place test (known a) (Some (known b))) (if_keeps place test a (Some b) (Some (known b)) (some_same b))
by_parts (Stmt-F.Case place how selector arms) =
    by_form _ _ _ (rolls-Case place how selector (map (with_body known) arms)) (unroll-Case place how selector (map (with_body known) arms)) (case_keeps place how selector arms)
by_parts (Stmt-F.For place h body) = by_form _ _ _ (rolls-For place h (known body)) (unroll-For place h (known body)) (loop_keeps place h (known body) (unroll (known body)) body.1)

statement_keeps : (s : Stmt) → IsSo s
statement_keeps s = ind-Stmt IsSo (λ x y is. subst (λ z. IsSo (roll-Stmt z)) is (by_parts y)) s

-- ---- bodies

pub record Lawful (u : Unrolled) : Type 0 where
  pub free : IsFree u.body
  pub short : u.turns < 65536

lawful_if : (s : Stmt) (o : Option Place) (u : Unrolled) → unrolled_if s o ≡ Ok u → Lawful u
unfolding unrolled_if
lawful_if s (Some place) u is = absurd cc
lawful_if s None u is =
    let made = then_of (unroll s no_values begun) _ u is in
    let kept = statement_keeps s no_values begun made.0 (omega arith) made.1.0 in
    let same : (let x : Unrolled = record { body = made.0.0; turns = made.0.1.turns; headers = made.0.1.headers; is_cut = made.0.1.is_cut } in x) ≡ u = cc in
    subst Lawful same (record { free = kept.0; short = kept.1 })

pub lawful : (s : Stmt) (u : Unrolled) → unrolled s ≡ Ok u → Lawful u
unfolding unrolled
lawful s u is = lawful_if s (unknown s no_values) u is

pub no_loops : (s : Stmt) (u : Unrolled) → unrolled s ≡ Ok u → has_loop u.body ≡ false
no_loops s u is = (lawful s u is).free

pub few_turns : (s : Stmt) (u : Unrolled) → unrolled s ≡ Ok u → u.turns < 65536
few_turns s u is = (lawful s u is).short

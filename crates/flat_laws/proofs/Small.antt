-- What a flat design says in the first form is small.
use Rattle.std.proofs.Common.{◌≡◌, ℕ, ◌+◌, ◌*◌, ◌<◌, ◌≤◌, ◌^◌, max, min, Bool, true, false, not, ◌&&◌, ◌||◌, nat_lt, if◌then◌else◌, List, [], ◌∷◌, ◌++◌, filter, map, length, sum_by, Option, Some, None, Result, Ok, Err, refl, sym, ap, subst, ◌∙◌, inl, inr, arith, length-append}
use Rattle.std.specs.Prelude.{IsTrue}
use Rattle.std.specs.Option.{option_map}
use Rattle.std.specs.List.Sorted.{IsPermutation}
use Rattle.std.proofs.lemmas.Bool.{cases_Bool, cond-true, cond-false}
use Rattle.std.proofs.lemmas.Bool.Decides.{nat_tests}
use Rattle.std.proofs.lemmas.List.{length-map}
use Rattle.std.proofs.lemmas.List.Sorted.{length_permutation}
use Rattle.std.proofs.lemmas.List.Sums.{sum_by-cons, sum_by-append}
use Rattle.rdc_outside.specs.declared.source.Place.{Place}
use Rattle.vlog_tree.specs.declared.expr.Expr.{Expr, out-Expr, roll-Expr, roll-out-Expr}
use Rattle.vlog_tree.specs.declared.expr.Expr.TheOpen.{Expr-F}
use Rattle.vlog_tree.specs.declared.expr.Expr.TheVariants as expr
use Rattle.vlog_tree.specs.declared.stmt.Assigns.{Assigns}
use Rattle.vlog_tree.specs.declared.stmt.Stmt.{Stmt, out-Stmt, roll-Stmt, roll-out-Stmt}
use Rattle.vlog_tree.specs.declared.stmt.Stmt.TheOpen.{Stmt-F}
use Rattle.vlog_tree.specs.declared.stmt.Stmt.TheVariants as stmt
use Rattle.vlog_tree.specs.declared.stmt.Control.{Control}
use Rattle.vlog_const.specs.declared.shape.Shape.{Shape}
use Rattle.vlog_const.specs.Widths.{within}
use Rattle.design_form.specs.declared.signal.Signal.{Signal}
use Rattle.design_form.specs.declared.parts.Parts.{Parts}
use Rattle.design_form.specs.declared.parts.Driver.{Driver}
use Rattle.design_form.specs.declared.parts.GateUse.{GateUse}
use Rattle.design_form.specs.declared.parts.Process as flat
use Rattle.design_form.specs.Signals.{bit_names, bounds_of, width_of}
use Rattle.design_form.specs.Numbers.{printed, bits_of, numbers_of, number_in, signal_of}
use Rattle.design_form.specs.State.{value_at, seen_as, seen_in, word_at}
use Rattle.design_form.specs.Values.{named, valued}
use Rattle.design_form.specs.Selects.{Seen}
use Rattle.design_form.proofs.NameLemmas.{length-bit_names}
use Rattle.design_form.proofs.ValueLemmas.{valued-Name}
use Rattle.design_sizes.specs.Sizes.{Sized, shape_of, sized, sized_target, sized_within, sized_assignment, sized_alone, sized_statement}
use Rattle.proc_loops.specs.declared.turn.Unrolled.{Unrolled}
use Rattle.proc_loops.specs.Unrolled.{unrolled}
use Rattle.proc_loops.specs.Laws.{has_loop}
use Rattle.proc_loops.proofs.LoopLaws.{loop-If-Some}
use Rattle.proc_loops.proofs.PlainBodies.{bodies_stay}
use Rattle.elab_names.specs.Answers.{Or_fault}
use Rattle.elab_names.specs.declared.fault.ElabFault.TheVariants.{Heavy}
use Rattle.elab_scopes.specs.declared.placed.Placed.{Placed}
use Rattle.elab_scopes.specs.Threads.{threaded}
use Rattle.elab_weight.specs.Limits.{most_weight, weighed}
use Rattle.elab_weight.specs.PartWeights.{part_weight, parts_weight}
use Rattle.elab_weight.specs.Weights.{driver_weight, gate_weight, body_weight}
use Rattle.elab_weight.specs.TargetBits.{assigned}
use Rattle.elab_weight.specs.Choices.{choice_weight}
use Rattle.elab_bits.specs.Touches.{once}
use Rattle.elab_bits.specs.Parts.{input_bits}
use Rattle.elab_items.specs.Instances.{Lib}
use Rattle.elab_tree.specs.Hierarchy.{State}
use Rattle.elab_tree.specs.Tops.{Top, grown_from, top_of, top_ports}
use Rattle.vlog_elab.specs.Tallies.{Tally, lifted, outside, driver_tallied, gate_tallied, process_tallied, body_tallied, tallied}
use Rattle.vlog_elab.specs.Bits as marks
use Rattle.vlog_elab.specs.Orders.{repeated}
use Rattle.elab_sound.specs.Sound.{sound}
use Rattle.vlog_elab.specs.Flat.{Gives, laid, places_of, checked, numbered, finished, flat}
use Rattle.thin_tree.specs.declared.tree.Class.{Class}
use Rattle.thin_tree.specs.Tree as tree
use Rattle.thin_tree.specs.Postfix.{postfix}
use Rattle.thin_tree.specs.Grammar.{size, steps_in}
use Rattle.thin_tree.specs.Copies.{name_in, name_of}
use Rattle.thin_tree.specs.Form.{all_of, where_so, said, load_in, load_of, Branches, branches_of, choice_in, choice_of, process_of, events_of, class_at, is_wire, is_register, class_of, input_names, signal_in, assignment_in, process_in, rooted, stays, is_clock, is_empty, without_clocks, form_of, test_of, bit_of}
use Rattle.thin_tree.proofs.Named as options
use Rattle.flat_laws.specs.Laws.{AreSmall}
use Rattle.flat_laws.proofs.Answers.{followed}
use Rattle.flat_laws.proofs.Forms.{parts-Assign, parts-If-Some, loop-Assign}
use Rattle.flat_laws.proofs.Counting.{whole_fits}
use Rattle.flat_laws.proofs.Weighing.{each_weighed}

-- ---- forms

none_is : {A P : Type 0} (a : A) → None ≡ Some a → P
none_is a h = absurd cc

-- an expression that is a name
name_form : (x : Expr) (n : List ℕ) → name_of x ≡ Some n → (place : Place) × (x ≡ expr.Name place n)
unfolding name_of name_in
name_form x n h = go (out-Expr x) refl
  where
    go : (f : Expr-F Expr) → out-Expr x ≡ f → (place : Place) × (x ≡ expr.Name place n)
    go (Expr-F.Name place m) e =
        let same : Some m ≡ Some n = sym (ap name_in e) ∙ h in
        let is : m ≡ n = cc in
        (place, sym (roll-out-Expr x) ∙ ap roll-Expr e ∙ expr.rolls-Name place m ∙ ap (expr.Name place) is)
    go (Expr-F.Number place a) e = none_is n (sym (ap name_in e) ∙ h)
    go (Expr-F.Index place a b) e = none_is n (sym (ap name_in e) ∙ h)
    go (Expr-F.Select how place a b c) e = none_is n (sym (ap name_in e) ∙ h)
    go (Expr-F.Brackets place a) e = none_is n (sym (ap name_in e) ∙ h)
    go (Expr-F.Concat place a) e = none_is n (sym (ap name_in e) ∙ h)
    go (Expr-F.Repeat place a b) e = none_is n (sym (ap name_in e) ∙ h)
    go (Expr-F.Unary place a b) e = none_is n (sym (ap name_in e) ∙ h)
    go (Expr-F.Binary place a b c) e = none_is n (sym (ap name_in e) ∙ h)
    go (Expr-F.Conditional place a b c) e = none_is n (sym (ap name_in e) ∙ h)

-- NAME <= VALUE;
pub record Loads (s : Stmt) (n : List ℕ) (x : Expr) : Type 0 where
  pub place : Place
  pub target : Expr
  pub by : Assigns
  pub is : s ≡ stmt.Assign place target by x
  pub name : name_of target ≡ Some n

load_form : (s : Stmt) (n : List ℕ) (x : Expr) → load_of s ≡ Some (n, x) → Loads s n x
unfolding load_of load_in
load_form s n x h = go (out-Stmt s) refl
  where
    go : (f : Stmt-F Stmt) → out-Stmt s ≡ f → Loads s n x
    go (Stmt-F.Assign place target by value) e =
        let f = options.followed (name_of target) _ (n, x) (sym (ap load_in e) ∙ h) in
        let so = options.held _ (f.value, value) (n, x) f.follows in
        let pair : (f.value, value) ≡ (n, x) = so.1 in
        let called : f.value ≡ n = ap (λ (p : List ℕ × Expr). p.0) pair in
        let given : value ≡ x = ap (λ (p : List ℕ × Expr). p.1) pair in
        record {
          place = place;
          target = target;
          by = by;
          is = sym (roll-out-Stmt s) ∙ ap roll-Stmt e ∙ stmt.rolls-Assign place target by value ∙ ap (stmt.Assign place target by) given;
          name = f.there ∙ ap (λ (m : List ℕ). Some m) called;
        }
    go (Stmt-F.Empty place) e = none_is (n, x) (sym (ap load_in e) ∙ h)
    go (Stmt-F.Block place a b) e = none_is (n, x) (sym (ap load_in e) ∙ h)
    go (Stmt-F.If place a b c) e = none_is (n, x) (sym (ap load_in e) ∙ h)
    go (Stmt-F.Case place a b c) e = none_is (n, x) (sym (ap load_in e) ∙ h)
    go (Stmt-F.For place a b) e = none_is (n, x) (sym (ap load_in e) ∙ h)

-- if (TEST) CLEARED <= BIT; else LOADED <= DATA;
pub record Chooses (s : Stmt) (n : List ℕ) (e : tree.Expr) : Type 0 where
  pub place : Place
  pub test : Expr
  pub chosen : Stmt
  pub other : Stmt
  pub is : s ≡ stmt.If place test chosen (Some other)
  pub cleared : List ℕ
  pub bit : Expr
  pub clears : Loads chosen cleared bit
  pub value : Expr
  pub loads : Loads other n value
  pub says : said value ≡ Some e

two_branches : (s : Stmt) (place : Place) (test : Expr) (chosen other : Stmt) (b : Branches) → s ≡ stmt.If place test chosen (Some other) → branches_of test chosen other ≡ Some b → Chooses s b.2.0 b.2.1
unfolding branches_of
two_branches s place test chosen other b layer h =
    let t = options.followed (test_of test) _ b h in
    let clear = options.followed (load_of chosen) _ b t.follows in
    let bit = options.followed (bit_of clear.value.1) _ b clear.follows in
    let load = options.followed (load_of other) _ b bit.follows in
    let next = options.followed (said load.value.1) _ b load.follows in
    let made : Branches = (t.value, (clear.value.0, bit.value), (load.value.0, next.value)) in
    let same : Some made ≡ Some b = next.follows in
    let is : made ≡ b = cc in
    let name_is : load.value.0 ≡ b.2.0 = ap (λ (p : Branches). p.2.0) is in
    let expr_is : next.value ≡ b.2.1 = ap (λ (p : Branches). p.2.1) is in
    record {
      place = place;
      test = test;
      chosen = chosen;
      other = other;
      is = layer;
      cleared = clear.value.0;
      bit = clear.value.1;
      clears = load_form chosen clear.value.0 clear.value.1 clear.there;
      value = load.value.1;
      loads = subst (λ (m : List ℕ). Loads other m load.value.1) name_is (load_form other load.value.0 load.value.1 load.there);
      says = next.there ∙ ap (λ (x : tree.Expr). Some x) expr_is;
    }

branches_form : (s : Stmt) (b : Branches) → choice_of s ≡ Some b → Chooses s b.2.0 b.2.1
unfolding choice_of choice_in
branches_form s b h = go (out-Stmt s) refl
  where
    go : (f : Stmt-F Stmt) → out-Stmt s ≡ f → Chooses s b.2.0 b.2.1
    go (Stmt-F.If place test chosen (Some other)) e =
        two_branches s place test chosen other b (sym (roll-out-Stmt s) ∙ ap roll-Stmt e ∙ stmt.rolls-If place test chosen (Some other)) (sym (ap choice_in e) ∙ h)
    go (Stmt-F.If place test chosen None) e = none_is b (sym (ap choice_in e) ∙ h)
    go (Stmt-F.Empty place) e = none_is b (sym (ap choice_in e) ∙ h)
    go (Stmt-F.Block place a c) e = none_is b (sym (ap choice_in e) ∙ h)
    go (Stmt-F.Assign place a c x) e = none_is b (sym (ap choice_in e) ∙ h)
    go (Stmt-F.Case place a c x) e = none_is b (sym (ap choice_in e) ∙ h)
    go (Stmt-F.For place a c) e = none_is b (sym (ap choice_in e) ∙ h)

process_form : (c : Control) (s : Stmt) (q : tree.Process) → process_of c s ≡ Some q → Chooses s q.loaded q.data
unfolding process_of
process_form c s q h =
    let ev = options.followed (events_of c) _ q h in
    let ch = options.followed (choice_of s) _ q ev.follows in
    let of : Chooses s ch.value.2.0 ch.value.2.1 = branches_form s ch.value ch.there in
    let same : Some _ ≡ Some q = ch.follows in
    let loaded : ch.value.2.0 ≡ q.loaded = cc in
    let stepped : ch.value.2.1 ≡ q.data = cc in
    subst (λ (e : tree.Expr). Chooses s q.loaded e) stepped (subst (λ (n : List ℕ). Chooses s n ch.value.2.1) loaded of)

-- ---- weights

-- a signal's name stands in at least one bit
wide : (d : Parts) (x : Expr) (n : List ℕ) (s : Signal) → name_of x ≡ Some n → signal_of d.signals n ≡ Some s → 1 ≤ (shape_of d x).width
unfolding seen_in seen_as
wide d x n s h there =
    let f = name_form x n h in
    let shape_is : (shape_of d x).width ≡ length (seen_in d [] n).word = ap (λ (y : Expr). (shape_of d y).width) f.1 ∙ ap (λ v. v.shape.width) (valued-Name (seen_in d []) f.0 n) in
    let word_is : length (seen_in d [] n).word ≡ length (word_at d.signals [] s) = ap (λ (o : Option Signal). length (seen_as d.signals [] o).word) there in
    omega (arith, shape_is, word_is, length-map (numbers_of d.signals s) (value_at []), length-map (bit_names s) (number_in (bits_of d.signals)), length-bit_names s)

-- what is assigned weighs each of its steps
assignment_weighs : (d : Parts) (target x : Expr) (n : List ℕ) (s : Signal) (e : tree.Expr) → name_of target ≡ Some n → signal_of d.signals n ≡ Some s → said x ≡ Some e → length (postfix e) ≤ parts_weight d (sized_assignment d target x)
assignment_weighs d target x n s e h there is =
    let c = within (shape_of d target).width (shape_of d x) in
    let one = wide d target n s h there in
    let broad : 1 ≤ c.width = grind (arith, one) in
    let heavy = (each_weighed x e is).heavy d c broad in
    omega (arith, heavy, sum_by-append (part_weight d) (sized_target d target) (sized_within d (shape_of d target).width x))

-- the signal of a class that is known
class_known : (d : Parts) (n : List ℕ) (test : Option Class → Bool) → test None ≡ false → IsTrue (test (class_at d n)) → (s : Signal) × (signal_of d.signals n ≡ Some s)
class_known d n test none h = go (signal_of d.signals n) refl
  where
    go : (o : Option Signal) → signal_of d.signals n ≡ o → (s : Signal) × (signal_of d.signals n ≡ Some s)
    go None e = let bad : test None ≡ true = ap (λ (o : Option Signal). test (option_map (class_of (input_names d.ports)) o)) (sym e) ∙ h in absurd cc
    go (Some s) e = (s, e)

-- the steps of what is read, if something is
abbrev steps_if : {A : Type 0} → (A → tree.Expr) → Option A → ℕ
steps_if f None = 0
steps_if f (Some a) = length (postfix (f a))

abbrev driver_steps : Parts → Driver → ℕ
driver_steps d x = steps_if (λ (a : tree.Assignment). a.value) (assignment_in d x)

abbrev process_steps : Parts → flat.Process → ℕ
process_steps d p = steps_if (λ (q : tree.Process). q.data) (process_in d p)

one_driver : (d : Parts) (x : Driver) (a : tree.Assignment) → assignment_in d x ≡ Some a → length (postfix a.value) ≤ driver_weight d x
unfolding assignment_in is_wire
one_driver d x a h =
    let t = options.followed (name_of x.target) _ a h in
    let v = options.followed (said x.value) _ a t.follows in
    let so = options.held (is_wire (class_at d t.value)) (record { target = t.value; value = v.value }) a v.follows in
    let known = class_known d t.value is_wire refl so.0 in
    let same : v.value ≡ a.value = ap (λ (b : tree.Assignment). b.value) so.1 in
    omega (arith, ap (λ (e : tree.Expr). length (postfix e)) same, assignment_weighs d x.target x.value t.value known.0 v.value t.there known.1 v.there)

driver_weighs : (d : Parts) (x : Driver) → driver_steps d x ≤ driver_weight d x
driver_weighs d x = go (assignment_in d x) refl
  where
    go : (o : Option tree.Assignment) → assignment_in d x ≡ o → steps_if (λ (a : tree.Assignment). a.value) (assignment_in d x) ≤ driver_weight d x
    go None e = omega (arith, ap (steps_if (λ (a : tree.Assignment). a.value)) e)
    go (Some a) e = omega (arith, ap (steps_if (λ (b : tree.Assignment). b.value)) e, one_driver d x a e)

one_process : (d : Parts) (p : flat.Process) (q : tree.Process) (u : Unrolled) → process_in d p ≡ Some q → unrolled p.body ≡ Ok u → length (postfix q.data) ≤ body_weight d u
unfolding process_in is_register
one_process d p q u h un =
    let r = options.followed (process_of p.control p.body) _ q h in
    let so = options.held (is_register (class_at d r.value.loaded)) (rooted d r.value) q r.follows in
    let known = class_known d r.value.loaded is_register refl so.0 in
    let same : r.value.data ≡ q.data = ap (λ (b : tree.Process). b.data) so.1 in
    let f = process_form p.control p.body r.value r.there in
    let calm : has_loop p.body ≡ false =
    ap has_loop f.is ∙ loop-If-Some f.place f.test f.chosen f.other
    ∙ ap (λ (s : Stmt). has_loop s || has_loop f.other) f.clears.is ∙ ap (λ (s : Stmt). has_loop (stmt.Assign f.clears.place f.clears.target f.clears.by f.bit) || has_loop s) f.loads.is
    ∙ ap (λ (b : Bool). b || has_loop (stmt.Assign f.loads.place f.loads.target f.loads.by f.value)) (loop-Assign f.clears.place f.clears.target f.clears.by f.bit) ∙ loop-Assign f.loads.place f.loads.target f.loads.by f.value in
    let stays = bodies_stay p.body calm in
    let whole : Ok (record { body = p.body; turns = 0; headers = 0; is_cut = false }) ≡ Ok u = sym stays ∙ un in
    let body_is : p.body ≡ u.body = cc in
    let parts_are : sized_statement d u.body ≡ sized_alone d f.test ++ (sized_statement d f.chosen ++ sized_assignment d f.loads.target f.value) =
    ap (sized_statement d) (sym body_is ∙ f.is) ∙ parts-If-Some d f.place f.test f.chosen f.other
    ∙ ap (λ (s : Stmt). sized_alone d f.test ++ (sized_statement d f.chosen ++ sized_statement d s)) f.loads.is
    ∙ ap (λ (ps : List Sized). sized_alone d f.test ++ (sized_statement d f.chosen ++ ps)) (parts-Assign d f.loads.place f.loads.target f.loads.by f.value) in
    omega (
      arith,
      ap (λ (e : tree.Expr). length (postfix e)) same,
      assignment_weighs d f.loads.target f.value r.value.loaded known.0 r.value.data f.loads.name known.1 f.says,
      ap (parts_weight d) parts_are,
      sum_by-append (part_weight d) (sized_alone d f.test) (sized_statement d f.chosen ++ sized_assignment d f.loads.target f.value),
      sum_by-append (part_weight d) (sized_statement d f.chosen) (sized_assignment d f.loads.target f.value),
    )

process_weighs : (d : Parts) (p : flat.Process) (u : Unrolled) → unrolled p.body ≡ Ok u → process_steps d p ≤ body_weight d u
process_weighs d p u un = go (process_in d p) refl
  where
    go : (o : Option tree.Process) → process_in d p ≡ o → steps_if (λ (q : tree.Process). q.data) (process_in d p) ≤ body_weight d u
    go None e = omega (arith, ap (steps_if (λ (q : tree.Process). q.data)) e)
    go (Some q) e = omega (arith, ap (steps_if (λ (r : tree.Process). r.data)) e, one_process d p q u e un)

-- ---- tallies

weighed_is : (place : Place) (n w : ℕ) → weighed place n ≡ Ok w → (w ≡ n) × (w < 1048576)
unfolding weighed most_weight
weighed_is place n w h =
    elim (cases_Bool (nat_lt n 1048576)) [
      | inl few ↦
          let good : Ok n ≡ Ok w = sym (cond-true (nat_lt n 1048576) (Ok n) (Err (Heavy place)) few) ∙ h in
          let same : n ≡ w = cc in
          let lt : n < 1048576 = grind (arith, nat_tests) in
          (sym same, omega (arith, same, lt))
      | inr most ↦ let bad : Err (Heavy place) ≡ Ok w = sym (cond-false (nat_lt n 1048576) (Ok n) (Err (Heavy place)) most) ∙ h in absurd cc
    ]

-- after steps that each add a weight
tallied_each : {X : Type 0} (g : X → ℕ) (step : Tally → X → Or_fault Tally) → ((s : Tally) (x : X) (t : Tally) → step s x ≡ Ok t → (s.weight + g x ≤ t.weight) × (t.weight < 1048576)) → (s : Tally) (xs : List X) (t : Tally)
    → s.weight < 1048576 → threaded step s xs ≡ Ok t → (s.weight + sum_by g xs ≤ t.weight) × (t.weight < 1048576)
unfolding threaded
tallied_each g step each s [] t lt h = let same : s ≡ t = cc in let w = ap (λ (u : Tally). u.weight) same in (omega (arith, w), omega (arith, w, lt))
tallied_each g step each s (x ∷ xs) t lt h =
    let f = followed (step s x) (λ u. threaded step u xs) t h in
    let one = each s x f.value f.there in
    let rest = tallied_each g step each f.value xs t one.1 f.follows in
    (omega (arith, one.0, rest.0, sum_by-cons g x xs), rest.1)

driver_adds : (d : Parts) (s : Tally) (x : Driver) (t : Tally) → driver_tallied d s x ≡ Ok t → (s.weight + driver_steps d x ≤ t.weight) × (t.weight < 1048576)
unfolding driver_tallied
driver_adds d s x t h =
    let w = followed (weighed x.place (s.weight + driver_weight d x)) _ t h in
    let is = weighed_is x.place (s.weight + driver_weight d x) w.value w.there in
    let made : w.value ≡ t.weight = cc in
    (omega (arith, made, is.0, driver_weighs d x), omega (arith, made, is.1))

gate_adds : (d : Parts) (s : Tally) (g : GateUse) (t : Tally) → gate_tallied d s g ≡ Ok t → (s.weight + 0 ≤ t.weight) × (t.weight < 1048576)
unfolding gate_tallied
gate_adds d s g t h =
    let w = followed (weighed g.place (s.weight + gate_weight d g)) _ t h in
    let is = weighed_is g.place (s.weight + gate_weight d g) w.value w.there in
    let made : w.value ≡ t.weight = cc in
    (omega (arith, made, is.0), omega (arith, made, is.1))

lifted_ok : (r : _) (u : Unrolled) → lifted r ≡ Ok u → r ≡ Ok u
unfolding lifted
lifted_ok (Ok v) u h = cc
lifted_ok (Err fault) u h = absurd cc

process_adds : (d : Parts) (inputs : List ℕ) (s : Tally) (p : flat.Process) (t : Tally) → process_tallied d inputs s p ≡ Ok t → (s.weight + process_steps d p ≤ t.weight) × (t.weight < 1048576)
unfolding process_tallied body_tallied
process_adds d inputs s p t h =
    let u = followed (lifted (unrolled p.body)) _ t h in
    let w = followed (weighed p.place (s.weight + body_weight d u.value)) _ t u.follows in
    let is = weighed_is p.place (s.weight + body_weight d u.value) w.value w.there in
    let made : w.value ≡ t.weight = cc in
    (omega (arith, made, is.0, process_weighs d p u.value (lifted_ok (unrolled p.body) u.value u.there)), omega (arith, made, is.1))

design_weighs : (d : Parts) (n : ℕ) (t : Tally) → n < 1048576 → tallied d n ≡ Ok t → (n + (sum_by (driver_steps d) d.drivers + sum_by (process_steps d) d.processes) ≤ t.weight) × (t.weight < 1048576)
unfolding tallied
design_weighs d n t lt h =
    let a = followed (threaded (driver_tallied d) (outside d n) d.drivers) _ t h in
    let b = followed (threaded (gate_tallied d) a.value d.gates) _ t a.follows in
    let first = tallied_each (driver_steps d) (driver_tallied d) (driver_adds d) (outside d n) d.drivers a.value lt a.there in
    let second = tallied_each (λ g. 0) (gate_tallied d) (gate_adds d) a.value d.gates b.value first.1 b.there in
    let third = tallied_each (process_steps d) (process_tallied d (once (input_bits d.signals d.ports))) (process_adds d (once (input_bits d.signals d.ports))) b.value d.processes t second.1 b.follows in
    (omega (arith, first.0, second.0, third.0), third.1)

-- ---- what is read

-- each is read once
all_steps : {A B : Type 0} (f : A → Option B) (g : B → tree.Expr) (xs : List A) (ys : List B) → all_of f xs ≡ Some ys → sum_by (λ y. length (postfix (g y))) ys ≡ sum_by (λ x. steps_if g (f x)) xs
unfolding all_of
all_steps f g [] ys h = let same : [] ≡ ys = cc in sym (ap (sum_by (λ y. length (postfix (g y)))) same)
all_steps {A} {B} f g (x ∷ xs) ys h =
    let first = options.followed (f x) _ ys h in
    let r = options.followed (all_of f xs) _ ys first.follows in
    let same : first.value ∷ r.value ≡ ys = cc in
    omega (
      arith,
      ap (sum_by (λ (y : B). length (postfix (g y)))) same,
      sum_by-cons (λ (y : B). length (postfix (g y))) first.value r.value,
      all_steps f g xs r.value r.there,
      sum_by-cons (λ (z : A). steps_if g (f z)) x xs,
      ap (steps_if g) first.there,
    )

all_counted : {A B : Type 0} (f : A → Option B) (xs : List A) (ys : List B) → all_of f xs ≡ Some ys → length ys ≡ length xs
unfolding all_of
all_counted f [] ys h = let same : [] ≡ ys = cc in sym (ap length same)
all_counted f (x ∷ xs) ys h =
    let first = options.followed (f x) _ ys h in
    let r = options.followed (all_of f xs) _ ys first.follows in
    let same : first.value ∷ r.value ≡ ys = cc in
    omega (arith, ap length same, all_counted f xs r.value r.there)

fewer : {A : Type 0} (test : A → Bool) (xs : List A) → length (filter test xs) ≤ length xs
fewer test [] = omega arith
fewer {A} test (x ∷ xs) =
    let rest = fewer test xs in
    elim (test x) as (λ b. length (if b then x ∷ filter test xs else filter test xs) ≤ length (x ∷ xs)) [ true ↦ omega (arith, rest) | false ↦ omega (arith, rest) ]

less : {A : Type 0} (g : A → ℕ) (test : A → Bool) (xs : List A) → sum_by g (filter test xs) ≤ sum_by g xs
less g test [] = omega arith
less {A} g test (x ∷ xs) =
    let rest = less g test xs in
    let all = sum_by-cons g x xs in
    elim (test x) as (λ b. sum_by g (if b then x ∷ filter test xs else filter test xs) ≤ sum_by g (x ∷ xs)) [ true ↦ omega (arith, rest, all, sum_by-cons g x (filter test xs)) | false ↦ omega (arith, rest, all) ]

form_small : (d : Parts) (t : tree.Module) → form_of d ≡ Some t → size t ≤ length d.signals + (sum_by (driver_steps d) d.drivers + sum_by (process_steps d) d.processes)
unfolding form_of
form_small d t h =
    let ss = options.followed (all_of (signal_in (input_names d.ports)) d.signals) _ t h in
    let xs = options.followed (all_of (assignment_in d) d.drivers) _ t ss.follows in
    let ps = options.followed (all_of (process_in d) d.processes) _ t xs.follows in
    let so = options.held (is_empty d.boxes && is_empty d.gates) (without_clocks d ss.value xs.value ps.value) t ps.follows in
    omega (
      arith,
      ap size so.1,
      fewer (stays d ps.value) ss.value,
      less (λ (a : tree.Assignment). length (postfix a.value)) (λ a. not (is_clock d ps.value a.target)) xs.value,
      all_counted (signal_in (input_names d.ports)) d.signals ss.value ss.there,
      all_steps (assignment_in d) (λ (a : tree.Assignment). a.value) d.drivers xs.value xs.there,
      all_steps (process_in d) (λ (p : tree.Process). p.data) d.processes ps.value ps.there,
    )

-- ---- designs

pub numbered_is : (place : Place) (p d : Parts) → numbered place p ≡ Ok d → p ≡ d
unfolding numbered
numbered_is place p d h =
    elim (cases_Bool (nat_lt (length (printed p.signals)) (2 ^ 32))) [
      | inl few ↦ let good : Ok p ≡ Ok d = sym (cond-true (nat_lt (length (printed p.signals)) (2 ^ 32)) (Ok p) (Err (Heavy place)) few) ∙ h in cc
      | inr most ↦ let bad : Err (Heavy place) ≡ Ok d = sym (cond-false (nat_lt (length (printed p.signals)) (2 ^ 32)) (Ok p) (Err (Heavy place)) most) ∙ h in absurd cc
    ]

pub are_small : AreSmall
unfolding flat finished checked
are_small lib name d t gives said =
    let top = followed (top_of lib name) _ d gives.is in
    let ports = followed (top_ports top.value.body) _ d top.follows in
    let s = followed (grown_from lib top.value) _ d ports.follows in
    let apart = followed (repeated gives.signals) _ d s.follows in
    let n = followed (numbered top.value.body.name.place (laid gives.signals ports.value s.value.plan)) _ d apart.follows in
    let c = followed (checked n.value (places_of gives.signals) s.value.size) _ d n.follows in
    let is_d : n.value ≡ d = cc in
    let laid_is = numbered_is top.value.body.name.place (laid gives.signals ports.value s.value.plan) n.value n.there in
    let fits = whole_fits lib top.value s.value s.there in
    let order = gives.order top.value ports.value s.value top.there ports.there s.there in
    let m = followed (marks.once n.value.signals (places_of gives.signals)) _ c.value c.there in
    let u = followed (sound n.value) _ c.value m.follows in
    let w = followed (tallied n.value s.value.size) _ c.value u.follows in
    let light = design_weighs n.value s.value.size w.value fits.below w.there in
    let form = form_small n.value t (ap form_of is_d ∙ said) in
    omega (
      arith,
      form,
      light.0,
      light.1,
      fits.signals,
      length_permutation s.value.plan.draft.drawn.signals gives.signals order.same,
      sym (ap (λ (p : Parts). length p.signals) laid_is),
      length-map gives.signals (λ (p : Placed). p.signal),
    )

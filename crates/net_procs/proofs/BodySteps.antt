-- Serves src/body.rt: choices, statements in order, and items of a `case` from the last one up.
use Rattle.std.proofs.Common.{◌≡◌, ℕ, zero, suc, ◌+◌, ◌<◌, ◌≤◌, Bool, true, false, if◌then◌else◌, List, [], ◌∷◌, length, map, drop, get_or, Option, Some, None, slice_get, Result, Ok, Err, IsErr, IsErrAnd, refl, sym, ap, subst, ◌∙◌, arith}
use Rattle.std.specs.Option.{option_map}
use Rattle.std.proofs.lemmas.List.{drop_all, drop_more}
use Rattle.std.proofs.lemmas.Option.{slice_get_read, slice_get_past, slice_get-map}
use Rattle.vlog_tree.specs.declared.expr.Expr.{Expr}
use Rattle.vlog_tree.specs.declared.stmt.Arm.{Arm}
use Rattle.vlog_tree.specs.declared.stmt.Matching.{Matching}
use Rattle.vlog_tree.specs.declared.stmt.Stmt.{Stmt}
use Rattle.vlog_tree.specs.declared.stmt.Stmt.TheVariants as s
use Rattle.rdc_outside.specs.declared.source.Place.{Place}
use Rattle.vlog_const.specs.declared.shape.Shape.{Shape}
use Rattle.design_form.specs.declared.parts.Parts.{Parts}
use Rattle.design_sizes.specs.Sizes.{case_shape}
use Rattle.proc_cases.specs.Full.{is_full, labels_of}
use Rattle.net_view.specs.View.{Numbered}
use Rattle.net_gates.specs.declared.fault.GateFault.{GateFault}
use Rattle.net_words.specs.Builds.{Build, Builds, ◌>>=◌, return}
use Rattle.net_words.proofs.BuildLemmas.{IsLeft, all_left, next, fault}
use Rattle.net_exprs.specs.Names.{wired_in}
use Rattle.net_exprs.specs.Lowered.{built_in}
use Rattle.net_exprs.proofs.Transport.{same_build}
use Rattle.proc_values.specs.Cases.{is_at, standing, with_body}
use Rattle.proc_values.proofs.CaseLemmas.{labels_kept, standing_kept}
use Rattle.net_procs.specs.Runs.{Run, Step, chosen}
use Rattle.net_procs.specs.Cases.{item, item_if, chain, body_in, body_at, case_run}
use Rattle.net_procs.specs.Labels.{any_hit}
use Rattle.net_procs.specs.Bodies.{tested, branch, side, cases, in_order, run}
use Rattle.net_procs.proofs.BodyForms.{form-If, form-Either}
use Rattle.net_procs.proofs.Steps.{steps_through, step_alone, left_as, given, there_is, down}

-- ---- choices

-- a test that isn't drawn
pub if_fault : {B : Type 0} (g : B → Run) (d : Parts) (reads bits : List ℕ) (t : Stmt) (place : Place) (test : Expr) (a : Stmt) (other : Option Stmt) (r : Run) (old new : List Numbered) (e : GateFault) (q : Result B GateFault)
    → t ≡ s.If place test a other → Builds (λ n. n) (tested d test r.now) old (Err e) new → IsErr q × IsErrAnd q (λ x. x ≡ e) → Builds g (run d reads bits t r) old q new
unfolding branch
if_fault g d reads bits t place test a None r old new e q is built same =
    same_build (branch d reads bits test (run d reads bits a) (side None) r) (run d reads bits t r) (form-If d reads bits t place test a a None r is refl refl)
    (fault _ _ (all_left (branch d reads bits test (run d reads bits a) (side None) r) old) built same)
if_fault g d reads bits t place test a (Some b) r old new e q is built same =
    same_build (branch d reads bits test (run d reads bits a) (side (Some (run d reads bits b))) r) (run d reads bits t r) (form-Either d reads bits t place test a a b b (Some b) r is refl refl refl)
    (fault _ _ (all_left (branch d reads bits test (run d reads bits a) (side (Some (run d reads bits b))) r) old) built same)

-- a first side that isn't drawn
pub one_fault : {B : Type 0} (g : B → Run) (f : B → Run) (d : Parts) (reads bits : List ℕ) (t : Stmt) (place : Place) (test : Expr) (a x : Stmt) (other : Option Stmt) (r : Run) (old mid new : List Numbered) (c : ℕ) (e : GateFault) (q : Result B GateFault)
    → t ≡ s.If place test a other → x ≡ a → Builds (λ n. n) (tested d test r.now) old (Ok c) mid → Builds f (run d reads bits x r) mid (Err e) new → IsErr q × IsErrAnd q (λ x. x ≡ e) → Builds g (run d reads bits t r) old q new
unfolding branch
one_fault g f d reads bits t place test a x None r old mid new c e q is one first built same =
    same_build (branch d reads bits test (run d reads bits x) (side None) r) (run d reads bits t r) (form-If d reads bits t place test a x None r is refl one)
    (fault _ _ (next _ _ (all_left (branch d reads bits test (run d reads bits x) (side None) r) old) first) built same)
one_fault g f d reads bits t place test a x (Some b) r old mid new c e q is one first built same =
    same_build (branch d reads bits test (run d reads bits x) (side (Some (run d reads bits b))) r) (run d reads bits t r) (form-Either d reads bits t place test a x b b (Some b) r is refl one refl)
    (fault _ _ (next _ _ (all_left (branch d reads bits test (run d reads bits x) (side (Some (run d reads bits b))) r) old) first) built same)

-- no second side: the nodes as they are
pub one_side : {all : Build Run} {old now : List Numbered} (reads bits : List ℕ) (c : ℕ) (x r : Run) → IsLeft all old now (side None r >>= (λ y. chosen reads bits c x y)) → IsLeft all old now (chosen reads bits c x r)
unfolding side
one_side reads bits c x r left = given r (λ y. chosen reads bits c x y) left

pub two_sides : {all : Build Run} {old now : List Numbered} (reads bits : List ℕ) (c : ℕ) (x r : Run) (f : Step) → IsLeft all old now (side (Some f) r >>= (λ y. chosen reads bits c x y)) → IsLeft all old now (f r >>= (λ y. chosen reads bits c x y))
unfolding side
two_sides reads bits c x r f left = left

pub case_left : (net : List Numbered) (d : Parts) (reads bits : List ℕ) (how how' : Matching) (selector : Expr) (arms : List (Arm Stmt)) (r : Run) (c : Shape) (full : Bool) (at : Option ℕ)
    → how' ≡ how → c ≡ case_shape d selector (labels_of arms) → full ≡ is_full d how selector (labels_of arms) → at ≡ standing full arms
    → IsLeft (cases d reads bits how selector (map (with_body (run d reads bits)) arms) r) net net
    (built_in (wired_in d r.now) (case_shape d selector (labels_of arms)) selector >>= (λ word. case_run reads bits (any_hit d r.now how' c word) at (map (with_body (run d reads bits)) arms) r))
unfolding cases
case_left net d reads bits how how' selector arms r c full at how-is shape full-is at-is =
    let items = map (with_body (run d reads bits)) arms in
    let labels : labels_of items ≡ labels_of arms = labels_kept (run d reads bits) arms in
    let shape-is : case_shape d selector (labels_of items) ≡ c = ap (case_shape d selector) labels ∙ sym shape in
    let stands : standing (is_full d how selector (labels_of items)) items ≡ at =
    ap (λ (l : List Expr). standing (is_full d how selector l) items) labels ∙ standing_kept (run d reads bits) (is_full d how selector (labels_of arms)) arms
    ∙ ap (λ (b : Bool). standing b arms) (sym full-is) ∙ sym at-is in
    left_as _ _
    (λ k. built_in (wired_in d r.now) (case_shape d selector (labels k)) selector >>= (λ word. case_run reads bits (any_hit d r.now (sym how-is k) (shape-is k) word) (stands k) items r))
    (all_left (cases d reads bits how selector items r) net)

-- ---- statements in order

pub order_here : {all : Build Run} {old now : List Numbered} (f : Stmt → Step) (ss : List Stmt) (i : ℕ) (s : Stmt) (r : Run) → i < length ss → s ≡ get_or ss i s
    → IsLeft all old now (in_order (map f (drop i ss)) r) → IsLeft all old now (f s r >>= (λ next. in_order (map f (drop (i + 1) ss)) next))
unfolding in_order
order_here {all} {old} {now} f ss i s r inside is left =
    subst (λ (l : List Stmt). IsLeft all old now (in_order (map f l) r)) (drop_more ss i s inside ∙ ap (λ (x : Stmt). x ∷ drop (i + 1) ss) (sym is)) left

pub order_whole : {all : Build Run} {old now : List Numbered} (f : Stmt → Step) (ss : List Stmt) (i : ℕ) (r : Run) → length ss ≤ i → IsLeft all old now (in_order (map f (drop i ss)) r) → IsLeft all old now (return r)
unfolding in_order
order_whole {all} {old} {now} f ss i r past left = subst (λ (l : List Stmt). IsLeft all old now (in_order (map f l) r)) (drop_all i ss past) left

-- ---- the item that stands for the default

pub none_stands : (at : Option ℕ) (arms : List (Arm Step)) (r : Run) → at ≡ None → return r ≡ body_at at arms r
unfolding body_at
none_stands at arms r none = ap (λ (o : Option ℕ). body_at o arms r) (sym none)

pub stands_past : (f : Stmt → Step) (at : Option ℕ) (i : ℕ) (arms : List (Arm Stmt)) (r : Run) → at ≡ Some i → length arms ≤ i → return r ≡ body_at at (map (with_body f) arms) r
unfolding body_at body_in
stands_past f at i arms r is past =
    ap (λ (o : Option (Arm Step)). body_in o r) (sym (slice_get-map (with_body f) arms i ∙ ap (option_map (with_body f)) (slice_get_past arms i past)))
    ∙ ap (λ (o : Option ℕ). body_at o (map (with_body f) arms) r) (sym is)

pub stands : (f : Stmt → Step) (at : Option ℕ) (i : ℕ) (arms : List (Arm Stmt)) (arm : Arm Stmt) (body : Stmt) (r : Run) → at ≡ Some i → i < length arms → arm ≡ get_or arms i arm → body ≡ arm.body
    → f body r ≡ body_at at (map (with_body f) arms) r
unfolding body_at body_in
stands f at i arms arm body r is inside here same =
    ap (λ (b : Stmt). f b r) same
    ∙ ap (λ (o : Option (Arm Step)). body_in o r) (sym (slice_get-map (with_body f) arms i ∙ ap (option_map (with_body f)) (slice_get_read arms (length arms) i arm refl inside here)))
    ∙ ap (λ (o : Option ℕ). body_at o (map (with_body f) arms) r) (sym is)

-- ---- items from the last one up

module _ (reads bits : List ℕ) (hit : List Expr → Build ℕ) (at : Option ℕ) (f : Stmt → Step) (arms : List (Arm Stmt)) (r : Run) where
  abbrev one_item : ℕ → Option (Arm Stmt) → Run → Build Run
  one_item i None rest = return rest
  one_item i (Some arm) rest = item_if reads bits hit at i (with_body f arm) r rest

  -- item i before what comes behind it
  abbrev pub item_on : ℕ → Run → Build Run
  item_on i rest = one_item i (slice_get arms i) rest

  item_is : (i : ℕ) (arm : Arm Stmt) (rest : Run) → i < length arms → arm ≡ get_or arms i arm → item_on i rest ≡ item_if reads bits hit at i (with_body f arm) r rest
  item_is i arm rest inside is = ap (λ (o : Option (Arm Stmt)). one_item i o rest) (slice_get_read arms (length arms) i arm refl inside is)

  abbrev from_item : Step → ℕ → Build Run
  from_item other n = chain reads bits hit at n (map (with_body f) (drop n arms)) other r

  one_above : (other : Step) (n : ℕ) (arm : Arm Stmt) → n < length arms → arm ≡ get_or arms n arm → from_item other n ≡ (from_item other (suc n) >>= item_on n)
  unfolding chain
  one_above other n arm inside is =
      ap (λ (l : List (Arm Stmt)). chain reads bits hit at n (map (with_body f) l) other r) (drop_more arms n arm inside ∙ (λ k. sym is k ∷ drop (step k) arms))
      ∙ ap (λ (m : ℕ). chain reads bits hit at m (map (with_body f) (drop (suc n) arms)) other r >>= (λ rest. item_if reads bits hit at n (with_body f arm) r rest)) step
      ∙ ap (λ (g : Run → Build Run). from_item other (suc n) >>= g) (λ k rest. sym (item_is n arm rest inside is) k)
    where
      step : n + 1 ≡ suc n
      step = omega arith

  at_item : (other : Step) (n : ℕ) (l : List (Arm Stmt)) → l ≡ arms → n < length arms → from_item other n ≡ (from_item other (suc n) >>= item_on n)
  at_item other n [] is lt = absurd (omega (arith, lt, ap length is))
  at_item other n (m ∷ l) is lt = one_above other n (get_or arms n m) lt (there_is arms n m lt)

  items_above : (other : Step) (n : ℕ) → n ≤ length arms → from_item other 0 ≡ (from_item other n >>= down item_on n)
  unfolding down
  items_above other zero inside = sym (step_alone (from_item other 0))
  items_above other (suc n) inside =
      items_above other n (omega (arith, inside))
      ∙ ap (λ (b : Build Run). b >>= down item_on n) (at_item other n arms refl (omega (arith, inside)))
      ∙ steps_through (from_item other (suc n)) (item_on n) (down item_on n)

  behind_items : (other : Step) → from_item other (length arms) ≡ other r
  unfolding chain
  behind_items other = ap (λ (l : List (Arm Stmt)). chain reads bits hit at (length arms) (map (with_body f) l) other r) (drop_all (length arms) arms (omega arith))

  pub items_first : (net : List Numbered) (other : Step) → IsLeft (chain reads bits hit at 0 (map (with_body f) arms) other r) net net (other r >>= down item_on (length arms))
  items_first net other =
      left_as (from_item other 0) (other r >>= down item_on (length arms))
      (items_above other (length arms) (omega arith) ∙ ap (λ (b : Build Run). b >>= down item_on (length arms)) (behind_items other))
      (all_left (from_item other 0) net)

  here : (i left : ℕ) (arm : Arm Stmt) (rest : Run) → left ≡ i + 1 → left ≤ length arms → arm ≡ get_or arms i arm → down item_on left rest ≡ (item_if reads bits hit at i (with_body f arm) r rest >>= down item_on i)
  unfolding down
  here i left arm rest step inside is =
      ap (λ (n : ℕ). down item_on n rest) (next i left step) ∙ ap (λ (b : Build Run). b >>= down item_on i) (item_is i arm rest (omega (arith, step, inside)) is)
    where
      next : (i left : ℕ) → left ≡ i + 1 → left ≡ suc i
      next i left step = omega (arith, step)

  pub item_here : {all : Build Run} {old now : List Numbered} (i left : ℕ) (arm : Arm Stmt) (labels : List Expr) (body : Stmt) (rest : Run) → left ≡ i + 1 → left ≤ length arms → arm ≡ get_or arms i arm → labels ≡ arm.labels → body ≡ arm.body
      → is_at at i ≡ false → IsLeft all old now (down item_on left rest) → IsLeft all old now (item reads bits (hit labels) (f body) r rest >>= down item_on i)
  item_here {all} {old} {now} i left arm labels body rest step inside is labels-are body-is other left_over =
      left_as (down item_on left rest) (item reads bits (hit labels) (f body) r rest >>= down item_on i)
      (here i left arm rest step inside is
      ∙ ap (λ (b : Bool). (if b then return rest else item reads bits (hit arm.labels) (f arm.body) r rest) >>= down item_on i) other
      ∙ (λ k. item reads bits (hit (sym labels-are k)) (f (sym body-is k)) r rest >>= down item_on i))
      left_over

  pub item_skipped : {all : Build Run} {old now : List Numbered} (i left : ℕ) (arm : Arm Stmt) (rest : Run) → left ≡ i + 1 → left ≤ length arms → arm ≡ get_or arms i arm → is_at at i ≡ true
      → IsLeft all old now (down item_on left rest) → IsLeft all old now (down item_on i rest)
  item_skipped {all} {old} {now} i left arm rest step inside is stands-at left_over =
      given rest (down item_on i)
      (left_as (down item_on left rest) (return rest >>= down item_on i)
      (here i left arm rest step inside is ∙ ap (λ (b : Bool). (if b then return rest else item reads bits (hit arm.labels) (f arm.body) r rest) >>= down item_on i) stands-at)
      left_over)

  pub items_whole : {all : Build Run} {old now : List Numbered} (left : ℕ) (rest : Run) → left ≤ 0 → IsLeft all old now (down item_on left rest) → IsLeft all old now (return rest)
  unfolding down
  items_whole {all} {old} {now} left rest none left_over = subst (λ (n : ℕ). IsLeft all old now (down item_on n rest)) (zero_is left none) left_over
    where
      zero_is : (n : ℕ) → n ≤ 0 → n ≡ zero
      zero_is n none = omega (arith, none)

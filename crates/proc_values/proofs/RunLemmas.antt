-- Serves bodies: sides that are tried, and what is put back.
use Rattle.std.proofs.Common.{◌≡◌, ℕ, suc, ◌+◌, ◌-◌, ◌<◌, ◌≤◌, Bool, true, false, if◌then◌else◌, List, [], ◌∷◌, length, map, drop, get_or, refl, sym, ap, subst, ◌∙◌, arith, eq-eqb, ne_eqb, Option, Some, None, Result, Ok, Err, OnOk, IfOk}
use Rattle.std.proofs.lemmas.List.{drop_all, drop_more, length-map}
use Rattle.vlog_tree.specs.declared.expr.Expr.{Expr}
use Rattle.vlog_tree.specs.declared.stmt.Arm.{Arm}
use Rattle.vlog_tree.specs.declared.stmt.Stmt.{Stmt}
use Rattle.rdc_tern.specs.declared.value.Tern.{Tern}
use Rattle.rdc_tern.specs.Shifts.{select_of}
use Rattle.design_form.specs.State.{value_at}
use Rattle.proc_values.specs.declared.sides.Side.{Side}
use Rattle.proc_values.specs.Runs.{Run, chosen, values_of}
use Rattle.proc_values.specs.Cases.{Step, chain, default_from, is_at, with_body}
use Rattle.proc_values.specs.Bodies.{in_order}
use Rattle.proc_values.specs.Marks.{Moves, IsSide, Runs, IsReady, scattered}
use Rattle.proc_values.proofs.ChangeLemmas.{moves_not, moves_on, restored, placed, chosen_side}

pub long_values : (s : List Tern) (bits : List ℕ) (vs : List Tern) → vs ≡ values_of s bits → length vs ≡ length bits
long_values s bits vs is = ap length is ∙ length-map bits (value_at s)

pub long_select : (c : Tern) (x y : List Tern) (n : ℕ) → length x ≡ n → length y ≡ n → length (select_of c x y) ≡ n
long_select c [] y n h k = h
long_select c (a ∷ x) [] n h k = absurd (omega (arith, h, k))
long_select c (a ∷ x) (b ∷ y) n h k = ap suc (long_select c x y (length x) refl (omega (arith, h, k))) ∙ h

-- a side that is put over what was there
pub side_runs : (reads bits : List ℕ) (out : Run) (now next seen becomes now' next' : List Tern) → IsSide reads bits (record { now = now; next = next }) out seen becomes → now' ≡ scattered reads seen now → next' ≡ scattered bits becomes next
    → Runs reads bits (λ _. out) now next now' next'
side_runs reads bits out now next seen becomes now' next' side now-is next-is =
    let first : now' ≡ out.now = now-is ∙ ap (λ (v : List Tern). scattered reads v now) side.now_is ∙ placed reads now out.now side.now_moves in
    let second : next' ≡ out.next = next-is ∙ ap (λ (v : List Tern). scattered bits v next) side.next_is ∙ placed bits next out.next side.next_moves in
    record {
      same = (λ k. record { now = first k; next = second k });
      now_moves = subst (Moves reads now) (sym first) side.now_moves;
      next_moves = subst (Moves bits next) (sym second) side.next_moves;
    }

pub runs_as : (reads bits : List ℕ) (f g : Step) (now next now' next' : List Tern) → f (record { now = now; next = next }) ≡ g (record { now = now; next = next }) → Runs reads bits f now next now' next' → Runs reads bits g now next now' next'
runs_as reads bits f g now next now' next' is runs = record { same = runs.same ∙ is; now_moves = runs.now_moves; next_moves = runs.next_moves }

pub ok_as : {A E : Type 0} (reads bits : List ℕ) (f g : Step) (now next now' next' : List Tern) (r : Result A E) → f (record { now = now; next = next }) ≡ g (record { now = now; next = next }) → OnOk r (Runs reads bits f now next now' next')
    → OnOk r (Runs reads bits g now next now' next')
ok_as reads bits f g now next now' next' (Ok a) is runs = runs_as reads bits f g now next now' next' is runs
ok_as reads bits f g now next now' next' (Err e) is runs = tt

-- the bits as they are
pub side_here : (reads bits : List ℕ) (now next seen becomes : List Tern) → seen ≡ values_of now reads → becomes ≡ values_of next bits → IsSide reads bits (record { now = now; next = next }) (record { now = now; next = next }) seen becomes
side_here reads bits now next seen becomes s b = record { now_is = s; next_is = b; now_moves = moves_not reads now; next_moves = moves_not bits next }

-- what a step left
pub side_left : (reads bits : List ℕ) (f : Step) (now next now' next' seen becomes : List Tern) → Runs reads bits f now next now' next' → seen ≡ values_of now' reads → becomes ≡ values_of next' bits
    → IsSide reads bits (record { now = now; next = next }) (f (record { now = now; next = next })) seen becomes
side_left reads bits f now next now' next' seen becomes runs s b = record {
  now_is = s ∙ ap (λ (r : Run). values_of r.now reads) runs.same;
  next_is = b ∙ ap (λ (r : Run). values_of r.next bits) runs.same;
  now_moves = subst (λ (r : Run). Moves reads now r.now) runs.same runs.now_moves;
  next_moves = subst (λ (r : Run). Moves bits next r.next) runs.same runs.next_moves;
}

pub ready_on : (reads bits : List ℕ) (read_marks marks : List Bool) (now next now' next' : List Tern) → IsReady reads bits read_marks marks now next → length now' ≡ length now → length next' ≡ length next → IsReady reads bits read_marks marks now' next'
ready_on reads bits read_marks marks now next now' next' ready n m = record { reads_are = ready.reads_are; marks_are = ready.marks_are; now_long = n ∙ ready.now_long; next_long = m ∙ ready.next_long }

-- ---- statements in order

pub order_more : (f : Stmt → Step) (ss : List Stmt) (i : ℕ) (s : Stmt) (r r' whole : Run) → i < length ss → s ≡ get_or ss i s → r' ≡ f s r → in_order (map f (drop i ss)) r ≡ whole → in_order (map f (drop (i + 1) ss)) r' ≡ whole
unfolding in_order
order_more f ss i s r r' whole lt is step left =
    ap (in_order (map f (drop (i + 1) ss))) (step ∙ ap (λ (x : Stmt). f x r) is) ∙ ap (λ (l : List Stmt). in_order (map f l) r) (sym (drop_more ss i s lt)) ∙ left

pub order_end : (f : Stmt → Step) (ss : List Stmt) (i : ℕ) (r whole : Run) → length ss ≤ i → in_order (map f (drop i ss)) r ≡ whole → r ≡ whole
unfolding in_order
order_end f ss i r whole past left = ap (λ (l : List Stmt). in_order (map f l) r) (sym (drop_all i ss past)) ∙ left

-- ---- items

pub default_here : {S : Type 0} (arms : List (Arm S)) (i : ℕ) (arm : Arm S) (whole : Option ℕ) → i < length arms → arm ≡ get_or arms i arm → length arm.labels ≡ 0 → default_from i (drop i arms) ≡ whole → Some i ≡ whole
unfolding default_from
default_here {S} arms i arm whole lt is none left =
    let step : drop i arms ≡ arm ∷ drop (i + 1) arms = drop_more arms i arm lt ∙ ap (λ (a : Arm S). a ∷ drop (i + 1) arms) (sym is) in
    sym (rw (eq-eqb (length arm.labels) 0 none) refl) ∙ ap (default_from i) (sym step) ∙ left

pub default_next : {S : Type 0} (arms : List (Arm S)) (i : ℕ) (arm : Arm S) (whole : Option ℕ) → i < length arms → arm ≡ get_or arms i arm → 0 < length arm.labels → default_from i (drop i arms) ≡ whole → default_from (i + 1) (drop (i + 1) arms) ≡ whole
unfolding default_from
default_next {S} arms i arm whole lt is some left =
    let step : drop i arms ≡ arm ∷ drop (i + 1) arms = drop_more arms i arm lt ∙ ap (λ (a : Arm S). a ∷ drop (i + 1) arms) (sym is) in
    sym (rw (ne_eqb (length arm.labels) 0 (λ e. omega (arith, e, some))) refl) ∙ ap (default_from i) (sym step) ∙ left

pub default_none : {S : Type 0} (arms : List (Arm S)) (i : ℕ) (whole : Option ℕ) → length arms ≤ i → default_from i (drop i arms) ≡ whole → None ≡ whole
unfolding default_from
default_none {S} arms i whole past left = ap (default_from i) (sym (drop_all i arms past)) ∙ left

-- ---- sides that are mixed

pub ok_sides : {E : Type 0} (reads bits : List ℕ) (r one other : Run) (c hit : Tern) (a b x y : List Tern) (q : Result Side E) → IsSide reads bits r one a b → IsSide reads bits r other x y → c ≡ hit
    → IfOk q (λ side. side.seen.items ≡ select_of c a x) → IfOk q (λ side. side.becomes.items ≡ select_of c b y) → IfOk q (λ side. IsSide reads bits r (chosen reads bits hit one other) side.seen.items side.becomes.items)
ok_sides reads bits r one other c hit a b x y (Ok side) first second is now next =
    subst (λ (h : Tern). IsSide reads bits r (chosen reads bits h one other) side.seen.items side.becomes.items) is (chosen_side reads bits r one other c a b x y _ _ first second now next)
ok_sides reads bits r one other c hit a b x y (Err e) first second is now next = tt

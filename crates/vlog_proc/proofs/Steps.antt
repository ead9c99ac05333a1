-- Steps through statements and case items: what is left of some decides what all leave done.
use Rattle.std.proofs.Common.{◌≡◌, ◌⊎◌, ℕ, suc, ◌+◌, ◌<◌, ◌≤◌, List, length, drop, get_or, Option, Some, None, Ok, Err, inl, inr, refl, sym, ap, ◌∙◌, ⊎_elim, add-one}
use Rattle.std.proofs.Math.Seq.{drop-cons}
use Rattle.std.proofs.lemmas.List.{drop_all}
use Rattle.vlog_proc.specs.declared.fault.ProcFault.{ProcFault}
use Rattle.vlog_proc.specs.declared.fault.ProcFault.TheVariants.{Memory}
use Rattle.vlog_proc.specs.Faults.{Or_fault, and_then}
use Rattle.rdc_outside.specs.declared.source.Place.{Place}
use Rattle.vlog_tree.specs.declared.expr.Expr.{Expr}
use Rattle.vlog_tree.specs.declared.stmt.Arm.{Arm}
use Rattle.vlog_tree.specs.declared.stmt.Matching.{Matching}
use Rattle.vlog_tree.specs.declared.stmt.Stmt.{Stmt}
use Rattle.vlog_tree.specs.declared.stmt.Stmt.TheVariants.{If, Case}
use Rattle.design_form.specs.declared.parts.Parts.{Parts}
use Rattle.vlog_proc.specs.Paths.{Walk, also, begun, case_walk, choice_walk, in_turn, item_walk, met_with, or_done, other_side, settled, tested, walk}
use Rattle.vlog_proc.proofs.WalkForms.{walk-If, walk-Case}

-- the first fault of two steps
pub unless : {A B : Type 0} (r : Or_fault A) (f : A → Or_fault B) (whole : Or_fault B) (fault : ProcFault) → and_then r f ≡ whole → (fault ≡ Memory) ⊎ (r ≡ Err fault) → (fault ≡ Memory) ⊎ (whole ≡ Err fault)
unfolding and_then
unless {A} r f whole fault before answer = ⊎_elim (λ lack. inl lack) (λ bad. inr (sym before ∙ ap (λ (s : Or_fault A). and_then s f) bad)) answer

pub goes : {A B : Type 0} (r : Or_fault A) (f : A → Or_fault B) (whole : Or_fault B) (a : A) → and_then r f ≡ whole → r ≡ Ok a → f a ≡ whole
unfolding and_then
goes {A} r f whole a before passed = sym (ap (λ (s : Or_fault A). and_then s f) passed) ∙ before

-- ---- statements

turn : {S : Type 0} (f : S → Walk) (ss : List S) (i : ℕ) (s : S) (done : List ℕ) → i < length ss → s ≡ get_or ss i s → in_turn f (drop i ss) done ≡ and_then (f s done) (λ x. in_turn f (drop (i + 1) ss) x)
unfolding in_turn
turn {S} f ss i s done lt is = rw add-one (ap (λ (ts : List S). in_turn f ts done) (drop-cons ss i s lt) ∙ ap (λ (y : S). and_then (f y done) (λ x. in_turn f (drop (suc i) ss) x)) (sym is))

pub turn_more : {S : Type 0} (f : S → Walk) (ss : List S) (i : ℕ) (s : S) (done after : List ℕ) (whole : Or_fault (List ℕ)) → i < length ss → s ≡ get_or ss i s → in_turn f (drop i ss) done ≡ whole → f s done ≡ Ok after → in_turn f (drop (i + 1) ss) after ≡ whole
turn_more f ss i s done after whole lt is before passed = goes (f s done) (λ x. in_turn f (drop (i + 1) ss) x) whole after (sym (turn f ss i s done lt is) ∙ before) passed

pub turn_stops : {S : Type 0} (f : S → Walk) (ss : List S) (i : ℕ) (s : S) (done : List ℕ) (fault : ProcFault) (whole : Or_fault (List ℕ)) → i < length ss → s ≡ get_or ss i s → in_turn f (drop i ss) done ≡ whole → (fault ≡ Memory) ⊎ (f s done ≡ Err fault) → (fault ≡ Memory) ⊎ (whole ≡ Err fault)
turn_stops f ss i s done fault whole lt is before answer = unless (f s done) (λ x. in_turn f (drop (i + 1) ss) x) whole fault (sym (turn f ss i s done lt is) ∙ before) answer

pub turn_end : {S : Type 0} (f : S → Walk) (ss : List S) (i : ℕ) (done : List ℕ) (whole : Or_fault (List ℕ)) → length ss ≤ i → in_turn f (drop i ss) done ≡ whole → whole ≡ Ok done
unfolding in_turn
turn_end {S} f ss i done whole past before = sym before ∙ ap (λ (ts : List S). in_turn f ts done) (drop_all i ss past)

-- ---- case items

item : {S : Type 0} (f : S → Walk) (ss : List S) (i : ℕ) (s : S) (met : Option (List ℕ)) (done : List ℕ) → i < length ss → s ≡ get_or ss i s → also f (drop i ss) met done ≡ and_then (f s done) (λ y. also f (drop (i + 1) ss) (Some (met_with met y)) done)
unfolding also
item {S} f ss i s met done lt is = rw add-one (ap (λ (ts : List S). also f ts met done) (drop-cons ss i s lt) ∙ ap (λ (x : S). and_then (f x done) (λ y. also f (drop (suc i) ss) (Some (met_with met y)) done)) (sym is))

pub item_more : {S : Type 0} (f : S → Walk) (ss : List S) (i : ℕ) (s : S) (met : Option (List ℕ)) (done own all : List ℕ) (whole : Or_fault (List ℕ)) → i < length ss → s ≡ get_or ss i s → also f (drop i ss) met done ≡ whole → f s done ≡ Ok own → all ≡ met_with met own → also f (drop (i + 1) ss) (Some all) done ≡ whole
item_more f ss i s met done own all whole lt is before passed joins =
    ap (λ (x : List ℕ). also f (drop (i + 1) ss) (Some x) done) joins ∙ goes (f s done) (λ y. also f (drop (i + 1) ss) (Some (met_with met y)) done) whole own (sym (item f ss i s met done lt is) ∙ before) passed

pub item_stops : {S : Type 0} (f : S → Walk) (ss : List S) (i : ℕ) (s : S) (met : Option (List ℕ)) (done : List ℕ) (fault : ProcFault) (whole : Or_fault (List ℕ)) → i < length ss → s ≡ get_or ss i s → also f (drop i ss) met done ≡ whole → (fault ≡ Memory) ⊎ (f s done ≡ Err fault) → (fault ≡ Memory) ⊎ (whole ≡ Err fault)
item_stops f ss i s met done fault whole lt is before answer = unless (f s done) (λ y. also f (drop (i + 1) ss) (Some (met_with met y)) done) whole fault (sym (item f ss i s met done lt is) ∙ before) answer

pub item_end : {S : Type 0} (f : S → Walk) (ss : List S) (i : ℕ) (met : Option (List ℕ)) (done : List ℕ) (whole : Or_fault (List ℕ)) → length ss ≤ i → also f (drop i ss) met done ≡ whole → whole ≡ Ok (or_done done met)
unfolding also
item_end {S} f ss i met done whole past before = sym before ∙ ap (λ (ts : List S). also f ts met done) (drop_all i ss past)

item_is : (d : Parts) (bits : List ℕ) (a : Arm Stmt) (labels : List Expr) (body : Stmt) (done : List ℕ) → labels ≡ a.labels → body ≡ a.body
    → item_walk d bits (walk d bits) a done ≡ and_then (begun d bits labels done) (λ own. walk d bits body own)
unfolding item_walk
item_is d bits a labels body done at to =
    ap (λ (es : List Expr). and_then (begun d bits es done) (λ own. walk d bits a.body own)) (sym at)
    ∙ ap (λ (s : Stmt). and_then (begun d bits labels done) (λ own. walk d bits s own)) (sym to)

pub item_ok : (d : Parts) (bits : List ℕ) (a : Arm Stmt) (labels : List Expr) (body : Stmt) (done own after : List ℕ) → labels ≡ a.labels → body ≡ a.body
    → begun d bits labels done ≡ Ok own → walk d bits body own ≡ Ok after → item_walk d bits (walk d bits) a done ≡ Ok after
item_ok d bits a labels body done own after at to first second = sym (goes (begun d bits labels done) (λ own. walk d bits body own) (item_walk d bits (walk d bits) a done) own (sym (item_is d bits a labels body done at to)) first) ∙ second

pub labels_stop : (d : Parts) (bits : List ℕ) (a : Arm Stmt) (labels : List Expr) (done : List ℕ) (fault : ProcFault) → labels ≡ a.labels
    → (fault ≡ Memory) ⊎ (begun d bits labels done ≡ Err fault) → (fault ≡ Memory) ⊎ (item_walk d bits (walk d bits) a done ≡ Err fault)
labels_stop d bits a labels done fault at answer = unless (begun d bits labels done) (λ own. walk d bits a.body own) (item_walk d bits (walk d bits) a done) fault (sym (item_is d bits a labels a.body done at refl)) answer

pub body_stops : (d : Parts) (bits : List ℕ) (a : Arm Stmt) (labels : List Expr) (body : Stmt) (done own : List ℕ) (fault : ProcFault) → labels ≡ a.labels → body ≡ a.body
    → begun d bits labels done ≡ Ok own → (fault ≡ Memory) ⊎ (walk d bits body own ≡ Err fault) → (fault ≡ Memory) ⊎ (item_walk d bits (walk d bits) a done ≡ Err fault)
body_stops d bits a labels body done own fault at to first answer = ⊎_elim
    (λ lack. inl lack)
    (λ bad. inr (sym (goes (begun d bits labels done) (λ own. walk d bits body own) (item_walk d bits (walk d bits) a done) own (sym (item_is d bits a labels body done at to)) first) ∙ bad))
    answer

-- ---- `if`

if_form : (d : Parts) (bits : List ℕ) (s : Stmt) (place : Place) (test t : Expr) (a first : Stmt) (b o : Option Stmt) (done : List ℕ) → s ≡ If place test a b → t ≡ test → first ≡ a → o ≡ b
    → and_then (tested d bits t done) (λ own. and_then (walk d bits first own) (λ x. other_side (walk d bits) o x done)) ≡ walk d bits s done
unfolding choice_walk
if_form d bits s place test t a first b o done is at to other =
    ap (λ (e : Expr). and_then (tested d bits e done) (λ own. and_then (walk d bits first own) (λ x. other_side (walk d bits) o x done))) at
    ∙ ap (λ (f : Stmt). and_then (tested d bits test done) (λ own. and_then (walk d bits f own) (λ x. other_side (walk d bits) o x done))) to
    ∙ ap (λ (f : Option Stmt). and_then (tested d bits test done) (λ own. and_then (walk d bits a own) (λ x. other_side (walk d bits) f x done))) other
    ∙ sym (ap (λ (f : Stmt). walk d bits f done) is ∙ walk-If d bits done place test a b)

pub test_stops : (d : Parts) (bits : List ℕ) (s : Stmt) (place : Place) (test t : Expr) (a : Stmt) (b : Option Stmt) (done : List ℕ) (fault : ProcFault) → s ≡ If place test a b → t ≡ test
    → (fault ≡ Memory) ⊎ (tested d bits t done ≡ Err fault) → (fault ≡ Memory) ⊎ (walk d bits s done ≡ Err fault)
test_stops d bits s place test t a b done fault is at answer =
    unless (tested d bits t done) (λ own. and_then (walk d bits a own) (λ x. other_side (walk d bits) b x done)) (walk d bits s done) fault (if_form d bits s place test t a a b b done is at refl refl) answer

pub first_stops : (d : Parts) (bits : List ℕ) (s : Stmt) (place : Place) (test t : Expr) (a first : Stmt) (b : Option Stmt) (done own : List ℕ) (fault : ProcFault) → s ≡ If place test a b → t ≡ test → first ≡ a
    → tested d bits t done ≡ Ok own → (fault ≡ Memory) ⊎ (walk d bits first own ≡ Err fault) → (fault ≡ Memory) ⊎ (walk d bits s done ≡ Err fault)
first_stops d bits s place test t a first b done own fault is at to passed answer =
    unless (walk d bits first own) (λ x. other_side (walk d bits) b x done) (walk d bits s done) fault
    (goes (tested d bits t done) (λ o. and_then (walk d bits first o) (λ x. other_side (walk d bits) b x done)) (walk d bits s done) own (if_form d bits s place test t a first b b done is at to refl) passed) answer

pub side_ends : (d : Parts) (bits : List ℕ) (s : Stmt) (place : Place) (test t : Expr) (a first : Stmt) (b o : Option Stmt) (done own x : List ℕ) → s ≡ If place test a b → t ≡ test → first ≡ a → o ≡ b
    → tested d bits t done ≡ Ok own → walk d bits first own ≡ Ok x → other_side (walk d bits) o x done ≡ walk d bits s done
side_ends d bits s place test t a first b o done own x is at to other passed made =
    goes (walk d bits first own) (λ y. other_side (walk d bits) o y done) (walk d bits s done) x
    (goes (tested d bits t done) (λ z. and_then (walk d bits first z) (λ y. other_side (walk d bits) o y done)) (walk d bits s done) own (if_form d bits s place test t a first b o done is at to other) passed) made

-- ---- `case`

case_form : (d : Parts) (bits : List ℕ) (s : Stmt) (place : Place) (how : Matching) (selector t : Expr) (arms xs ys : List (Arm Stmt)) (done : List ℕ) → s ≡ Case place how selector arms → t ≡ selector → xs ≡ arms → ys ≡ arms
    → and_then (tested d bits t done) (λ own. and_then (also (item_walk d bits (walk d bits)) xs None own) (λ x. settled d how t ys done x)) ≡ walk d bits s done
unfolding case_walk
case_form d bits s place how selector t arms xs ys done is at to also_to =
    ap (λ (e : Expr). and_then (tested d bits e done) (λ own. and_then (also (item_walk d bits (walk d bits)) xs None own) (λ x. settled d how e ys done x))) at
    ∙ ap (λ (l : List (Arm Stmt)). and_then (tested d bits selector done) (λ own. and_then (also (item_walk d bits (walk d bits)) l None own) (λ x. settled d how selector ys done x))) to
    ∙ ap (λ (l : List (Arm Stmt)). and_then (tested d bits selector done) (λ own. and_then (also (item_walk d bits (walk d bits)) arms None own) (λ x. settled d how selector l done x))) also_to
    ∙ sym (ap (λ (f : Stmt). walk d bits f done) is ∙ walk-Case d bits done place how selector arms)

pub selector_stops : (d : Parts) (bits : List ℕ) (s : Stmt) (place : Place) (how : Matching) (selector t : Expr) (arms : List (Arm Stmt)) (done : List ℕ) (fault : ProcFault) → s ≡ Case place how selector arms → t ≡ selector
    → (fault ≡ Memory) ⊎ (tested d bits t done ≡ Err fault) → (fault ≡ Memory) ⊎ (walk d bits s done ≡ Err fault)
selector_stops d bits s place how selector t arms done fault is at answer =
    unless (tested d bits t done) (λ own. and_then (also (item_walk d bits (walk d bits)) arms None own) (λ x. settled d how t arms done x)) (walk d bits s done) fault (case_form d bits s place how selector t arms arms arms done is at refl refl) answer

pub items_stop : (d : Parts) (bits : List ℕ) (s : Stmt) (place : Place) (how : Matching) (selector t : Expr) (arms xs : List (Arm Stmt)) (done own : List ℕ) (fault : ProcFault) → s ≡ Case place how selector arms → t ≡ selector → xs ≡ arms
    → tested d bits t done ≡ Ok own → (fault ≡ Memory) ⊎ (also (item_walk d bits (walk d bits)) xs None own ≡ Err fault) → (fault ≡ Memory) ⊎ (walk d bits s done ≡ Err fault)
items_stop d bits s place how selector t arms xs done own fault is at to passed answer =
    unless (also (item_walk d bits (walk d bits)) xs None own) (λ x. settled d how t arms done x) (walk d bits s done) fault
    (goes (tested d bits t done) (λ o. and_then (also (item_walk d bits (walk d bits)) xs None o) (λ x. settled d how t arms done x)) (walk d bits s done) own (case_form d bits s place how selector t arms xs arms done is at to refl) passed) answer

pub case_ends : (d : Parts) (bits : List ℕ) (s : Stmt) (place : Place) (how : Matching) (selector t : Expr) (arms xs ys : List (Arm Stmt)) (done own x : List ℕ) → s ≡ Case place how selector arms → t ≡ selector → xs ≡ arms → ys ≡ arms
    → tested d bits t done ≡ Ok own → also (item_walk d bits (walk d bits)) xs None own ≡ Ok x → settled d how t ys done x ≡ walk d bits s done
case_ends d bits s place how selector t arms xs ys done own x is at to also_to passed made =
    goes (also (item_walk d bits (walk d bits)) xs None own) (λ z. settled d how t ys done z) (walk d bits s done) x
    (goes (tested d bits t done) (λ o. and_then (also (item_walk d bits (walk d bits)) xs None o) (λ z. settled d how t ys done z)) (walk d bits s done) own (case_form d bits s place how selector t arms xs ys done is at to also_to) passed) made

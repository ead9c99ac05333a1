-- A table of modules and boxes that is made one by one.
use Rattle.std.proofs.Common.{◌≡◌, ℕ, suc, ◌+◌, ◌<◌, ◌≤◌, Bool, true, false, if◌then◌else◌, List, [], ◌∷◌, length, drop, get_or, Option, Some, None, sym, ap, subst, ◌∙◌, add-one, arith}
use Rattle.std.proofs.Math.Seq.{drop-cons}
use Rattle.std.proofs.lemmas.List.{drop_all}
use Rattle.std.specs.Str.{bytes_eq}
use Rattle.vlog_tree.specs.declared.module.Module.{Module}
use Rattle.elab_binds.specs.declared.boxes.BoxPorts.{BoxPorts}
use Rattle.elab_binds.specs.declared.index.Found.{Found}
use Rattle.elab_binds.specs.declared.index.Found.TheVariants as found
use Rattle.elab_binds.specs.declared.index.Listed.{Listed}
use Rattle.elab_binds.specs.declared.index.Listed.TheVariants.{Once, Twice}
use Rattle.elab_binds.specs.Books.{Book, no_books, with_module, with_box, module_entered, box_entered, modules_from, boxes_from, library, IsWithin}

-- ---- modules

next_module : (t : Book) (ms : List Module) (k : ℕ) (m : Module) → k < length ms → m ≡ get_or ms k m
    → modules_from t k (drop k ms) ≡ modules_from (module_entered t k m.name.name) (k + 1) (drop (k + 1) ms)
unfolding modules_from
next_module t ms k m lt is =
    rw add-one (ap (modules_from t k) (drop-cons ms k m lt) ∙ ap (λ y. modules_from (module_entered t k y.name.name) (suc k) (drop (suc k) ms)) (sym is))

-- once the module at k is entered, the others are left
pub one_module : (t u v : Book) (ms : List Module) (k : ℕ) (m : Module) (name : List ℕ) → k < length ms → m ≡ get_or ms k m → name ≡ m.name.name
    → modules_from t k (drop k ms) ≡ v → u ≡ module_entered t k name → modules_from u (k + 1) (drop (k + 1) ms) ≡ v
one_module t u v ms k m name lt is named before done =
    ap (λ w. modules_from w (k + 1) (drop (k + 1) ms)) (done ∙ ap (module_entered t k) named) ∙ (sym (next_module t ms k m lt is) ∙ before)

-- behind the last one nothing is left
pub all_modules : (t v : Book) (ms : List Module) (k : ℕ) → length ms ≤ k → modules_from t k (drop k ms) ≡ v → t ≡ v
unfolding modules_from
all_modules t v ms k past before = sym (ap (modules_from t k) (drop_all k ms past)) ∙ before

-- ---- boxes

next_box : (t : Book) (bs : List BoxPorts) (k : ℕ) (b : BoxPorts) → k < length bs → b ≡ get_or bs k b
    → boxes_from t k (drop k bs) ≡ boxes_from (box_entered t k b.module) (k + 1) (drop (k + 1) bs)
unfolding boxes_from
next_box t bs k b lt is =
    rw add-one (ap (boxes_from t k) (drop-cons bs k b lt) ∙ ap (λ y. boxes_from (box_entered t k y.module) (suc k) (drop (suc k) bs)) (sym is))

pub one_box : (t u v : Book) (bs : List BoxPorts) (k : ℕ) (b : BoxPorts) (name : List ℕ) → k < length bs → b ≡ get_or bs k b → name ≡ b.module
    → boxes_from t k (drop k bs) ≡ v → u ≡ box_entered t k name → boxes_from u (k + 1) (drop (k + 1) bs) ≡ v
one_box t u v bs k b name lt is named before done =
    ap (λ w. boxes_from w (k + 1) (drop (k + 1) bs)) (done ∙ ap (box_entered t k) named) ∙ (sym (next_box t bs k b lt is) ∙ before)

pub all_boxes : (t v : Book) (bs : List BoxPorts) (k : ℕ) → length bs ≤ k → boxes_from t k (drop k bs) ≡ v → t ≡ v
unfolding boxes_from
all_boxes t v bs k past before = sym (ap (boxes_from t k) (drop_all k bs past)) ∙ before

-- ---- what a name means is one of the list

abbrev pub Within : ℕ → ℕ → Book → Type 0
Within m n t = (name : List ℕ) (f : Found) → t name ≡ Some (Once f) → IsWithin m n f

module_at : (m n k : ℕ) (same : Bool) (before old : Option Listed) (f : Found) → k < m → (old ≡ Some (Once f) → IsWithin m n f)
    → (if same then Some (with_module before k) else old) ≡ Some (Once f) → IsWithin m n f
unfolding with_module
module_at m n k true None old f lt within is = let here : found.Module k ≡ f = cc in subst (IsWithin m n) here lt
module_at m n k true (Some l) old f lt within is = absurd (cc)
module_at m n k false before old f lt within is = within is

box_at : (m n k : ℕ) (same : Bool) (before old : Option Listed) (f : Found) → k < n → (before ≡ Some (Once f) → IsWithin m n f) → (old ≡ Some (Once f) → IsWithin m n f)
    → (if same then Some (with_box before k) else old) ≡ Some (Once f) → IsWithin m n f
unfolding with_box
box_at m n k true None old f lt first within is = let here : found.Box k ≡ f = cc in subst (IsWithin m n) here lt
box_at m n k true (Some (Once (found.Box j))) old f lt first within is = first is
box_at m n k true (Some (Once (found.Module j))) old f lt first within is = absurd (cc)
box_at m n k true (Some Twice) old f lt first within is = absurd (cc)
box_at m n k false before old f lt first within is = within is

modules_within : (m n : ℕ) (t : Book) (k : ℕ) (ms : List Module) → k + length ms ≡ m → Within m n t → Within m n (modules_from t k ms)
unfolding modules_from
modules_within m n t k [] sum within = within
modules_within m n t k (x ∷ ms) sum within =
    modules_within m n (module_entered t k x.name.name) (suc k) ms (omega (arith, sum)) (λ other f is. module_at m n k (bytes_eq x.name.name other) (t x.name.name) (t other) f (omega (arith, sum)) (within other f) is)

boxes_within : (m n : ℕ) (t : Book) (k : ℕ) (bs : List BoxPorts) → k + length bs ≡ n → Within m n t → Within m n (boxes_from t k bs)
unfolding boxes_from
boxes_within m n t k [] sum within = within
boxes_within m n t k (x ∷ bs) sum within =
    boxes_within m n (box_entered t k x.module) (suc k) bs (omega (arith, sum)) (λ other f is. box_at m n k (bytes_eq x.module other) (t x.module) (t other) f (omega (arith, sum)) (within x.module f) (within other f) is)

-- what a name means in a library is a module or a box of it
pub library_within : (ms : List Module) (bs : List BoxPorts) (name : List ℕ) (f : Found) → library ms bs name ≡ Some (Once f) → IsWithin (length ms) (length bs) f
library_within ms bs = boxes_within (length ms) (length bs) (modules_from no_books 0 ms) 0 bs (omega arith) (modules_within (length ms) (length bs) no_books 0 ms (omega arith) (λ name f is. absurd (cc)))

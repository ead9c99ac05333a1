-- What a table of modules and boxes says of one name.
use Rattle.std.proofs.Common.{◌≡◌, ℕ, suc, Bool, true, false, if◌then◌else◌, List, [], ◌∷◌, map, Option, Some, None, refl, ap, ◌∙◌}
use Rattle.std.proofs.lemmas.Slice.Eq.{bytes_eq-Decides}
use Rattle.std.specs.Str.{bytes_eq}
use Rattle.vlog_tree.specs.declared.module.Module.{Module}
use Rattle.elab_binds.specs.declared.boxes.BoxPorts.{BoxPorts}
use Rattle.elab_binds.specs.declared.index.Found.TheVariants as found
use Rattle.elab_binds.specs.declared.index.Listed.{Listed}
use Rattle.elab_binds.specs.declared.index.Listed.TheVariants.{Once, Twice}
use Rattle.elab_binds.specs.Books.{Book, no_books, with_module, with_box, module_entered, box_entered, modules_from, boxes_from}
use Rattle.elab_binds.specs.Laws.{places_of, meaning_of, module_name, box_name, MeansByPlaces}

-- a name behind what it meant, once it stands at these places
unfoldable after : (Option Listed → ℕ → Listed) → Option Listed → List ℕ → Option Listed
after step before [] = before
after step before (k ∷ ks) = after step (Some (step before k)) ks

-- one more name, which is this one or isn't
at_next : (step : Option Listed → ℕ → Listed) (t : Book) (k : ℕ) (n name ks : List ℕ) (same : Bool) → bytes_eq n name ≡ same
    → after step (if same then Some (step (t n) k) else t name) ks ≡ after step (t name) (if same then k ∷ ks else ks)
unfolding after
at_next step t k n name ks true is = ap (λ (at : List ℕ). after step (Some (step (t at) k)) ks) ((bytes_eq-Decides n name).0 is)
at_next step t k n name ks false is = refl

modules_at : (t : Book) (k : ℕ) (ms : List Module) (name : List ℕ) → modules_from t k ms name ≡ after with_module (t name) (places_of name k (map module_name ms))
unfolding modules_from after places_of
modules_at t k [] name = refl
modules_at t k (m ∷ ms) name =
    modules_at (module_entered t k m.name.name) (suc k) ms name
    ∙ at_next with_module t k m.name.name name (places_of name (suc k) (map module_name ms)) (bytes_eq m.name.name name) refl

boxes_at : (t : Book) (k : ℕ) (bs : List BoxPorts) (name : List ℕ) → boxes_from t k bs name ≡ after with_box (t name) (places_of name k (map box_name bs))
unfolding boxes_from after places_of
boxes_at t k [] name = refl
boxes_at t k (b ∷ bs) name =
    boxes_at (box_entered t k b.module) (suc k) bs name
    ∙ at_next with_box t k b.module name (places_of name (suc k) (map box_name bs)) (bytes_eq b.module name) refl

-- ---- what stays, whatever comes behind

modules_stay : (ks : List ℕ) → after with_module (Some Twice) ks ≡ Some Twice
unfolding after with_module
modules_stay [] = refl
modules_stay (k ∷ ks) = modules_stay ks

boxes_stay : (ks : List ℕ) → after with_box (Some Twice) ks ≡ Some Twice
unfolding after with_box
boxes_stay [] = refl
boxes_stay (k ∷ ks) = boxes_stay ks

first_stays : (b : ℕ) (ks : List ℕ) → after with_box (Some (Once (found.Box b))) ks ≡ Some (Once (found.Box b))
unfolding after with_box
first_stays b [] = refl
first_stays b (k ∷ ks) = first_stays b ks

-- first the modules, and then the boxes
both : (ms bs : List ℕ) → after with_box (after with_module None ms) bs ≡ meaning_of ms bs
unfolding after with_module with_box meaning_of
both [] [] = refl
both [] (b ∷ bs) = first_stays b bs
both (m ∷ []) [] = refl
both (m ∷ []) (b ∷ bs) = boxes_stay bs
both (m ∷ n ∷ ms) bs = ap (λ (l : Option Listed). after with_box l bs) (modules_stay ms) ∙ boxes_stay bs

pub by_places : MeansByPlaces
by_places ms bs name =
    boxes_at (modules_from no_books 0 ms) 0 bs name
    ∙ (ap (λ (l : Option Listed). after with_box l (places_of name 0 (map box_name bs))) (modules_at no_books 0 ms name)
    ∙ both (places_of name 0 (map module_name ms)) (places_of name 0 (map box_name bs)))

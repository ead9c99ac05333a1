-- A table of names, after one name more is put in front.
use Rattle.std.proofs.Common.{◌≡◌, ℕ, ◌+◌, ◌<◌, List, ◌∷◌, ◌-◌, ◌≤◌, map, drop, length, get_or, Option, Some, None, Vec, Global, add-one, refl, sym, ap, ◌∙◌, arith}
use Rattle.std.proofs.Math.Seq.{drop-cons, drop-length}
use Rattle.std.specs.Borrow.{Bor}
use Rattle.std.specs.Str.{bytes_eq}
use Rattle.std.specs.HashMap as hash
use Rattle.std.specs.HashMap.{HashMap}
use Rattle.design_form.specs.Numbers.{index_from}
use Rattle.design_form.proofs.TableLemmas.{put_in_front, no_names}
use Rattle.thin_tree.specs.Written.{texts}

-- a name more, in front of those behind it
pub table-more : {S : Type 0} (names : List (Bor (List ℕ))) (left : ℕ) (d : Bor (List ℕ)) (m n : HashMap (Vec ℕ Global) ℕ S) (name : List ℕ) → 0 < left → left ≤ length names → name ≡ (get_or names (left - 1) d).now
    → hash.UpdatesBy (λ x y. bytes_eq x.items y.items) (λ key. bytes_eq name key.items) m n (Some (left - 1))
    → (λ (other : List ℕ). hash.get_by (λ key. bytes_eq other key.items) m) ≡ index_from left (texts (drop left names))
    → (λ (other : List ℕ). hash.get_by (λ key. bytes_eq other key.items) n) ≡ index_from (left - 1) (texts (drop (left - 1) names))
table-more names left d m n name some within same h before =
    let k = left - 1 in
    let e : left ≡ k + 1 = omega arith in
    let lt : k < length names = omega arith in
    let dropped : drop k names ≡ get_or names k d ∷ drop (k + 1) names = rw (add-one, drop-cons names k d lt) refl in
    put_in_front m n k name (texts (drop (k + 1) names)) h (before ∙ ap (λ (j : ℕ). index_from j (texts (drop j names))) e)
    ∙ ap (λ (x : List ℕ). index_from k (x ∷ texts (drop (k + 1) names))) same
    ∙ ap (λ (xs : List (Bor (List ℕ))). index_from k (texts xs)) (sym dropped)

pub table-start : (names : List (Bor (List ℕ))) (t : List ℕ → Option ℕ) → t ≡ (λ (other : List ℕ). None) → t ≡ index_from (length names) (texts (drop (length names) names))
table-start names t h =
    h ∙ sym (no_names (length names)) ∙ ap (λ (xs : List (Bor (List ℕ))). index_from (length names) (texts xs)) (sym (drop-length names))

pub table-end : (names : List (Bor (List ℕ))) (left : ℕ) (t : List ℕ → Option ℕ) → left ≡ 0 → t ≡ index_from left (texts (drop left names)) → t ≡ index_from 0 (texts names)
table-end names left t e h = h ∙ ap (λ (j : ℕ). index_from j (texts (drop j names))) e

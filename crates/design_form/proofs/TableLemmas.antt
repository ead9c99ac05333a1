-- A table of names, after one name more is put in front.
use Rattle.std.proofs.Common.{◌≡◌, ℕ, ◌+◌, ◌<◌, Bool, true, false, List, [], ◌∷◌, ◌-◌, ◌≤◌, map, drop, length, get_or, Option, Some, None, Vec, Global, add-one, refl, sym, ap, subst, ◌∙◌, ⊎_elim, arith}
use Rattle.std.proofs.Math.Seq.{drop-cons, drop-length}
use mathlib.Core.Path.{fun_ext}
use Rattle.std.specs.Str.{bytes_eq}
use Rattle.std.specs.Map.{lookup, IsKeyTest, AreApart, KeepsOthers}
use Rattle.std.specs.HashMap as hash
use Rattle.std.specs.HashMap.{HashMap}
use Rattle.std.proofs.lemmas.Bool.{cases_Bool, cond-true, cond-false}
use Rattle.std.proofs.lemmas.Cmp.{nat_list_eq_equiv}
use Rattle.std.proofs.lemmas.Slice.Eq.{bytes_eq-Decides}
use Rattle.design_form.specs.Numbers.{index_from}

-- no key is equal to two names
apart : (name other key : List ℕ) → bytes_eq name other ≡ false → bytes_eq name key ≡ true → bytes_eq other key ≡ false
apart name other key differ is = nat_list_eq_equiv.symm other key ∙ sym (nat_list_eq_equiv.congr name key other is) ∙ differ

others : {K X : Type 0} (eq : K → K → Bool) (test : K → Bool) (old new : List (K × X)) → KeepsOthers eq test old new → (other : K → Bool) → IsKeyTest eq other → AreApart test other → lookup other new ≡ lookup other old
unfolding KeepsOthers
others eq test old new h = h

-- what the table has at each name, where it had the names behind this one
pub put_in_front : {S : Type 0} (m n : HashMap (Vec ℕ Global) ℕ S) (k : ℕ) (name : List ℕ) (ns : List (List ℕ))
    → hash.UpdatesBy (λ x y. bytes_eq x.items y.items) (λ key. bytes_eq name key.items) m n (Some k)
    → (λ (other : List ℕ). hash.get_by (λ key. bytes_eq other key.items) m) ≡ index_from (k + 1) ns
    → (λ (other : List ℕ). hash.get_by (λ key. bytes_eq other key.items) n) ≡ index_from k (name ∷ ns)
unfolding index_from
put_in_front m n k name ns h before =
    fun_ext (λ other.
    ⊎_elim
    (λ same. subst (λ (at : List ℕ). hash.get_by (λ key. bytes_eq at key.items) n ≡ Some k) ((bytes_eq-Decides name other).0 (nat_list_eq_equiv.symm name other ∙ same)) h.1 ∙ sym (cond-true (bytes_eq other name) (Some k) _ same))
    (λ differ.
    others _ _ _ _ h.3 _ (λ x y. nat_list_eq_equiv.congr other x.items y.items) (λ key. apart name other key.items (nat_list_eq_equiv.symm name other ∙ differ))
    ∙ ap (λ (f : List ℕ → Option ℕ). f other) before
    ∙ sym (cond-false (bytes_eq other name) (Some k) _ differ))
    (cases_Bool (bytes_eq other name)))

pub no_names : (k : ℕ) → index_from k [] ≡ (λ (other : List ℕ). None)
unfolding index_from
no_names k = refl

-- ---- steps of the loop, which goes down

-- a name more, in front of those behind it
pub table-more : {S : Type 0} (names : List (Vec ℕ Global)) (left : ℕ) (d : Vec ℕ Global) (m n : HashMap (Vec ℕ Global) ℕ S) (name : List ℕ) → 0 < left → left ≤ length names → name ≡ (get_or names (left - 1) d).items
    → hash.UpdatesBy (λ x y. bytes_eq x.items y.items) (λ key. bytes_eq name key.items) m n (Some (left - 1))
    → (λ (other : List ℕ). hash.get_by (λ key. bytes_eq other key.items) m) ≡ index_from left (map (λ x. x.items) (drop left names))
    → (λ (other : List ℕ). hash.get_by (λ key. bytes_eq other key.items) n) ≡ index_from (left - 1) (map (λ x. x.items) (drop (left - 1) names))
table-more names left d m n name some within same h before =
    let k = left - 1 in
    let e : left ≡ k + 1 = omega arith in
    let lt : k < length names = omega arith in
    let dropped : drop k names ≡ get_or names k d ∷ drop (k + 1) names = rw (add-one, drop-cons names k d lt) refl in
    put_in_front m n k name (map (λ x. x.items) (drop (k + 1) names)) h (before ∙ ap (λ (j : ℕ). index_from j (map (λ x. x.items) (drop j names))) e)
    ∙ ap (λ (x : List ℕ). index_from k (x ∷ map (λ x. x.items) (drop (k + 1) names))) same
    ∙ ap (λ (xs : List (Vec ℕ Global)). index_from k (map (λ x. x.items) xs)) (sym dropped)

pub table-start : (names : List (Vec ℕ Global)) (t : List ℕ → Option ℕ) → t ≡ (λ (other : List ℕ). None) → t ≡ index_from (length names) (map (λ x. x.items) (drop (length names) names))
table-start names t h =
    h ∙ sym (no_names (length names)) ∙ ap (λ (xs : List (Vec ℕ Global)). index_from (length names) (map (λ x. x.items) xs)) (sym (drop-length names))

pub table-end : (names : List (Vec ℕ Global)) (left : ℕ) (t : List ℕ → Option ℕ) → left ≡ 0 → t ≡ index_from left (map (λ x. x.items) (drop left names)) → t ≡ index_from 0 (map (λ x. x.items) names)
table-end names left t e h = h ∙ ap (λ (j : ℕ). index_from j (map (λ x. x.items) (drop j names))) e

-- A hashed table, after one name gets another value.
use Rattle.std.proofs.Common.{◌≡◌, ℕ, Bool, true, false, if◌then◌else◌, List, Option, Some, Vec, Global, sym, subst, ◌∙◌, ⊎_elim}
use mathlib.Core.Path.{fun_ext}
use Rattle.std.specs.Str.{bytes_eq}
use Rattle.std.specs.Map.{lookup, IsKeyTest, AreApart, KeepsOthers}
use Rattle.std.specs.HashMap as hash
use Rattle.std.specs.HashMap.{HashMap}
use Rattle.std.proofs.lemmas.Bool.{cases_Bool, cond-true, cond-false}
use Rattle.std.proofs.lemmas.Cmp.{nat_list_eq_equiv}
use Rattle.std.proofs.lemmas.Slice.Eq.{bytes_eq-Decides}

-- no key is equal to two names
apart : (name other key : List ℕ) → bytes_eq name other ≡ false → bytes_eq name key ≡ true → bytes_eq other key ≡ false
apart name other key differ is = nat_list_eq_equiv.symm other key ∙ sym (nat_list_eq_equiv.congr name key other is) ∙ differ

others : {K X : Type 0} (eq : K → K → Bool) (test : K → Bool) (old new : List (K × X)) → KeepsOthers eq test old new → (other : K → Bool) → IsKeyTest eq other → AreApart test other → lookup other new ≡ lookup other old
unfolding KeepsOthers
others eq test old new h = h

-- what the table has at each name
pub updated : {S X : Type 0} (m n : HashMap (Vec ℕ Global) X S) (name : List ℕ) (e : X) → hash.UpdatesBy (λ x y. bytes_eq x.items y.items) (λ key. bytes_eq name key.items) m n (Some e)
    → ◌≡◌ {A = List ℕ → Option X} (λ other. hash.get_by (λ key. bytes_eq other key.items) n) (λ other. if bytes_eq name other then Some e else hash.get_by (λ key. bytes_eq other key.items) m)
updated m n name e h =
    fun_ext (λ other.
    ⊎_elim
    (λ same. subst (λ (at : List ℕ). hash.get_by (λ key. bytes_eq at key.items) n ≡ Some e) ((bytes_eq-Decides name other).0 same) h.1 ∙ sym (cond-true (bytes_eq name other) (Some e) _ same))
    (λ differ.
    others _ _ _ _ h.3 _ (λ x y. nat_list_eq_equiv.congr other x.items y.items) (λ key. apart name other key.items differ) ∙ sym (cond-false (bytes_eq name other) (Some e) _ differ))
    (cases_Bool (bytes_eq name other)))

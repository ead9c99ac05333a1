-- A table of meanings, after one name gets another one; and frames in their order.
use Rattle.std.proofs.Common.{◌≡◌, ℕ, ◌+◌, ◌-◌, ◌<◌, ◌≤◌, Bool, true, false, List, [], ◌∷◌, ◌++◌, map, take, drop, length, get_or, Some, None, Option, Vec, Global, add-one, refl, sym, ap, subst, ◌∙◌, ⊎_elim, arith}
use Rattle.std.proofs.Math.Seq.{drop-cons, drop-length}
use mathlib.Core.Path.{fun_ext}
use Rattle.std.specs.Str.{bytes_eq}
use Rattle.std.specs.Map.{lookup, IsKeyTest, AreApart, KeepsOthers}
use Rattle.std.specs.HashMap as hash
use Rattle.std.specs.HashMap.{HashMap}
use Rattle.std.specs.Option.{option_or}
use Rattle.std.proofs.lemmas.Bool.{cases_Bool, cond-true, cond-false}
use Rattle.std.proofs.lemmas.Slice.Eq.{bytes_eq-Decides}
use Rattle.std.proofs.lemmas.Cmp.{nat_list_eq_equiv}
use Rattle.std.proofs.lemmas.List.{reverse-append, take-append-drop}
use Rattle.elab_names.specs.declared.meaning.Meaning.{Meaning}
use Rattle.elab_names.specs.declared.frame.Frame.{Frame}
use Rattle.elab_names.specs.Meanings.{found, with_name, names_of, names_of_all}

-- no key is equal to two names
apart : (name other key : List ℕ) → bytes_eq name other ≡ false → bytes_eq name key ≡ true → bytes_eq other key ≡ false
apart name other key differ is = nat_list_eq_equiv.symm other key ∙ sym (nat_list_eq_equiv.congr name key other is) ∙ differ

others : {K X : Type 0} (eq : K → K → Bool) (test : K → Bool) (old new : List (K × X)) → KeepsOthers eq test old new → (other : K → Bool) → IsKeyTest eq other → AreApart test other → lookup other new ≡ lookup other old
unfolding KeepsOthers
others eq test old new h = h

-- what the table has at each name
pub updated : {S : Type 0} (m n : HashMap (Vec ℕ Global) Meaning S) (name : List ℕ) (v : Meaning) → hash.UpdatesBy (λ x y. bytes_eq x.items y.items) (λ key. bytes_eq name key.items) m n (Some v) → (λ (other : List ℕ). hash.get_by (λ key. bytes_eq other key.items) n) ≡ with_name (λ other. hash.get_by (λ key. bytes_eq other key.items) m) name v
updated m n name v h =
    fun_ext (λ other.
    ⊎_elim
    (λ same. subst (λ (at : List ℕ). hash.get_by (λ key. bytes_eq at key.items) n ≡ Some v) ((bytes_eq-Decides name other).0 same) h.1 ∙ sym (cond-true (bytes_eq name other) (Some v) _ same))
    (λ differ.
    others _ _ _ _ h.3 _ (λ x y. nat_list_eq_equiv.congr other x.items y.items) (λ key. apart name other key.items differ) ∙ sym (cond-false (bytes_eq name other) (Some v) _ differ))
    (cases_Bool (bytes_eq name other)))

-- ---- the last frame counts first

ended : (frames : List Frame) (last : Frame) → 1 ≤ length frames → last ≡ get_or frames (length frames - 1) last → take (length frames - 1) frames ++ last ∷ [] ≡ frames
ended frames last some is =
    let k = length frames - 1 in
    let lt : k < length frames = omega arith in
    let e : k + 1 ≡ length frames = omega arith in
    let dropped : drop k frames ≡ get_or frames k last ∷ drop (k + 1) frames = rw (add-one, drop-cons frames k last lt) refl in
    let behind : drop (k + 1) frames ≡ [] = ap (λ (j : ℕ). drop j frames) e ∙ drop-length frames in
    let rest : drop k frames ≡ last ∷ [] = dropped ∙ ap (λ (f : Frame). f ∷ drop (k + 1) frames) (sym is) ∙ ap (λ (fs : List Frame). last ∷ fs) behind in
    ap (λ (fs : List Frame). take k frames ++ fs) (sym rest) ∙ take-append-drop k frames

found-last : (outer : List Frame) (last : Frame) (name : List ℕ) → found (names_of_all (outer ++ last ∷ [])) name ≡ option_or (names_of last name) (found (names_of_all outer) name)
unfolding found
found-last outer last name = ap (λ (fs : List Frame). found (map names_of fs) name) (reverse-append outer (last ∷ []))

split : (frames : List Frame) (last : Frame) (name : List ℕ) → 1 ≤ length frames → last ≡ get_or frames (length frames - 1) last
    → found (names_of_all frames) name ≡ option_or (names_of last name) (found (names_of_all (take (length frames - 1) frames)) name)
split frames last name some is = ap (λ (fs : List Frame). found (names_of_all fs) name) (sym (ended frames last some is)) ∙ found-last (take (length frames - 1) frames) last name

pub found-here : (frames : List Frame) (last : Frame) (name : List ℕ) (m : Meaning) → 1 ≤ length frames → last ≡ get_or frames (length frames - 1) last
    → Some m ≡ names_of last name → Some m ≡ found (names_of_all frames) name
found-here frames last name m some is here = sym (split frames last name some is ∙ ap (λ (o : Option Meaning). option_or o (found (names_of_all (take (length frames - 1) frames)) name)) (sym here))

pub found-outside : (frames : List Frame) (last : Frame) (name : List ℕ) → 1 ≤ length frames → last ≡ get_or frames (length frames - 1) last
    → None ≡ names_of last name → found (names_of_all (take (length frames - 1) frames)) name ≡ found (names_of_all frames) name
found-outside frames last name some is none = sym (split frames last name some is ∙ ap (λ (o : Option Meaning). option_or o (found (names_of_all (take (length frames - 1) frames)) name)) (sym none))

pub found-nowhere : (frames : List Frame) (name : List ℕ) → length frames < 1 → None ≡ found (names_of_all frames) name
unfolding found
found-nowhere [] name few = refl
found-nowhere (f ∷ frames) name few = absurd (omega arith)

-- Serves the first state of a checker.
use Rattle.std.proofs.Common.{◌≡◌, ℕ, zero, suc, Bool, List, [], ◌∷◌, length, refl, ap, ◌∙◌, Option, None, ℤ, ◌++◌}
use mathlib.Core.Path.{fun_ext}
use Rattle.sat_chain.specs.Store.{cut, cut_from, IsCut, AscendTo, marked}
use Rattle.sat_chain.specs.Marks.{at, nothing}
use Rattle.sat_chain.proofs.KeptLemmas.{Holds}

pub is_cut_new : (lits : List ℤ) (bs : List ℕ) → lits ≡ [] → bs ≡ 0 ∷ [] → IsCut (length lits) bs
unfolding IsCut AscendTo
is_cut_new lits bs none one = rw (none, one) (refl, refl)

pub cut_new : (lits : List ℤ) (bs : List ℕ) → lits ≡ [] → bs ≡ 0 ∷ [] → cut bs lits ≡ []
unfolding cut cut_from
cut_new lits bs none one = rw (none, one) refl

pub marked_new : (gs : List Bool) (cs : List (List ℤ)) → gs ≡ [] → marked gs cs ≡ []
unfolding marked
marked_new gs cs none = rw none refl

-- an empty mark more
pub none_push : (ms : List (Option Bool)) → ((x : ℕ) → at ms x ≡ None) → (x : ℕ) → at (ms ++ None ∷ []) x ≡ None
none_push [] h zero = refl
none_push [] h (suc x) = refl
none_push (m ∷ ms) h zero = h 0
none_push (m ∷ ms) h (suc x) = none_push ms (λ y. h (suc y)) x

pub none_push_at : (ms ms' : List (Option Bool)) → ms' ≡ ms ++ None ∷ [] → ((x : ℕ) → at ms x ≡ None) → (x : ℕ) → at ms' x ≡ None
none_push_at ms ms' is h x = ap (λ m. at m x) is ∙ none_push ms h x

pub nothing_is : (ms : List (Option Bool)) → ((x : ℕ) → at ms x ≡ None) → at ms ≡ nothing
nothing_is ms h = fun_ext h

pub none_new : (ms : List (Option Bool)) → ms ≡ [] → (x : ℕ) → at ms x ≡ None
none_new ms is x = ap (λ m. at m x) is

pub holds_new : (v : ℕ) (lits : List ℤ) (bs : List ℕ) (gs : List Bool) → lits ≡ [] → bs ≡ 0 ∷ [] → gs ≡ [] → Holds v lits bs gs × (cut bs lits ≡ []) × (marked gs (cut bs lits) ≡ [])
holds_new v lits bs gs l b g =
    let c : cut bs lits ≡ [] = cut_new lits bs l b in (
      record {
        places = is_cut_new lits bs l b;
        flags = rw (b, g) refl;
        clauses = rw c tt;
        follows = λ a meets. rw c tt;
      },
      c,
      marked_new gs (cut bs lits) g,
    )

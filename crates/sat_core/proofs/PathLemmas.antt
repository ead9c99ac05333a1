-- Serves specs/Path.antt: a path with one more choice, and one that is cut and turned.
use Rattle.std.proofs.Common.{◌≡◌, ◌≢◌, ℕ, zero, suc, ◌+◌, ◌-◌, ◌<◌, ◌≤◌, Bool, true, false, not, nat_eq, cond, List, [], ◌∷◌, ◌++◌, length, get_or, set, refl, sym, ap, ◌∙◌, Option, Some, None, arith, ℤ, get_or-set_same, get_or-set_other, length-set, length-append}
use Rattle.std.proofs.Math.ListN.{get_or-append}
use Rattle.std.proofs.Math.Seq.{get_or-append_seam}
use Rattle.std.proofs.lemmas.Option.{same_Some}
use Rattle.std.proofs.lemmas.Bool.Decides.{nat_tests}
use Rattle.sat_core.specs.Path.{sign_at, turned, is_false, some_false, IsFirstFalse, IsReason, IsPath}
use Rattle.sat_core.proofs.FalseLemmas.{Same, false_same, some_false_same, none_before, none_push, none_at}

-- false clauses at the same signs
first_same : (a b : ℕ → Bool) (i : ℕ) (c : List ℤ) → Same a b i → IsFirstFalse a i c → IsFirstFalse b i c
first_same a b i c same f = record {
  now = sym (false_same a b i c same) ∙ f.now;
  before = sym (false_same a b (i - 1) c (λ x le. same x (omega arith))) ∙ f.before;
}

turned_same : (a b : ℕ → Bool) (i n : ℕ) → Same a b n → Same (turned a i) (turned b i) n
turned_same a b i n same x le = ap (λ s. cond (nat_eq x i) (not s) s) (same x le)

-- a reason at the same signs, among more clauses
abbrev pub Extends : (cs cs' : List (List ℤ)) → Type 0
Extends cs cs' = (length cs ≤ length cs') × ((k : ℕ) → k < length cs → get_or cs' k [] ≡ get_or cs k [])

reason_same : (cs cs' : List (List ℤ)) (a b : ℕ → Bool) (i k : ℕ) → Extends cs cs' → Same a b i → IsReason cs a i k → IsReason cs' b i k
reason_same cs cs' a b i k more same r = (
  omega (arith, more.0, r.0),
  rw (more.1 k r.0) (first_same (turned a i) (turned b i) i (get_or cs k []) (turned_same a b i i same) r.1),
)

pub extends_same : (cs : List (List ℤ)) → Extends cs cs
extends_same cs = (omega arith, λ k lt. refl)

pub extends_push : (cs : List (List ℤ)) (c : List ℤ) → Extends cs (cs ++ c ∷ [])
extends_push cs c = (omega (arith, length-append cs (c ∷ [])), λ k lt. get_or-append cs (c ∷ []) [] k lt)

-- signs that differ at a variable are the same before it
set_same : (signs : List Bool) (i : ℕ) (s : Bool) (n : ℕ) → n < i → Same (sign_at signs) (sign_at (set signs i s)) n
set_same signs i s n lt x le = let ne : x ≢ i = omega arith in sym (get_or-set_other signs i x s false ne)

reason_other : (reasons : List (Option ℕ)) (at i k : ℕ) (r : Option ℕ) → i ≢ at → get_or (set reasons at r) i None ≡ Some k → get_or reasons i None ≡ Some k
reason_other reasons at i k r ne is = sym (get_or-set_other reasons at i r None ne) ∙ is

-- a choice more
pub path_choose : (vars : ℕ) (cs : List (List ℤ)) (signs : List Bool) (reasons : List (Option ℕ)) (top : ℕ) → IsPath vars cs signs reasons top → top < vars → some_false (sign_at signs) top cs ≡ false
    → IsPath vars cs (set signs (top + 1) false) (set reasons (top + 1) None) (top + 1)
path_choose vars cs signs reasons top p more clear = record {
  top_within = omega arith;
  signs_len = length-set signs (top + 1) false ∙ p.signs_len;
  reasons_len = length-set reasons (top + 1) None ∙ p.reasons_len;
  because = λ i k some le is. elim (nat_eq i (top + 1)) as (λ b. nat_eq i (top + 1) ≡ b → IsReason cs (sign_at (set signs (top + 1) false)) i k) [
    | true ↦ λ e. (
        let same : i ≡ top + 1 = grind (arith, nat_tests) in
        let lt : top + 1 < length reasons = omega (arith, p.reasons_len) in
        let none : get_or (set reasons (top + 1) None) i None ≡ None = ap (λ j. get_or (set reasons (top + 1) None) j None) same ∙ get_or-set_same reasons (top + 1) None None lt in
        cc
        )
    | false ↦ λ e. (
        let ne : i ≢ top + 1 = grind (arith, nat_tests) in
        reason_same cs cs (sign_at signs) (sign_at (set signs (top + 1) false)) i k (extends_same cs) (set_same signs (top + 1) false i (omega arith)) (p.because i k some (omega arith) (reason_other reasons (top + 1) i k None ne is))
        )
  ] refl;
  clear =
      let e : top + 1 - 1 ≡ top = omega arith in
      ap (λ n. some_false (sign_at (set signs (top + 1) false)) n cs) e ∙ sym (some_false_same (sign_at signs) (sign_at (set signs (top + 1) false)) top cs (set_same signs (top + 1) false top (omega arith))) ∙ clear;
}

not_not : (b : Bool) → not (not b) ≡ b
not_not true = refl
not_not false = refl

-- turned twice a sign is as it was
turned_back : (signs : List Bool) (at n : ℕ) → at < length signs → Same (sign_at signs) (turned (sign_at (set signs at (not (sign_at signs at)))) at) n
turned_back signs at n lt x le = elim (nat_eq x at) as (λ b. nat_eq x at ≡ b → sign_at signs x ≡ cond b (not (sign_at (set signs at (not (sign_at signs at))) x)) (sign_at (set signs at (not (sign_at signs at))) x)) [
  | true ↦ λ e. (
      let same : x ≡ at = grind (arith, nat_tests) in
      let here : sign_at (set signs at (not (sign_at signs at))) x ≡ not (sign_at signs at) = ap (sign_at (set signs at (not (sign_at signs at)))) same ∙ get_or-set_same signs at (not (sign_at signs at)) false lt in
      sym (ap not here ∙ not_not (sign_at signs at) ∙ ap (sign_at signs) (sym same))
      )
  | false ↦ λ e. (let ne : x ≢ at = grind (arith, nat_tests) in sym (get_or-set_other signs at x (not (sign_at signs at)) false ne))
] refl

-- the path up to a variable, which is turned for a reason
pub path_turn : (vars : ℕ) (cs cs' : List (List ℤ)) (signs : List Bool) (reasons : List (Option ℕ)) (top at id : ℕ) → IsPath vars cs signs reasons top → Extends cs cs' → 0 < at → at ≤ top → some_false (sign_at signs) (at - 1) cs' ≡ false
    → id < length cs' → IsFirstFalse (sign_at signs) at (get_or cs' id []) → IsPath vars cs' (set signs at (not (sign_at signs at))) (set reasons at (Some id)) at
path_turn vars cs cs' signs reasons top at id p more some le clear known first =
    let lt : at < length signs = omega (arith, p.top_within, p.signs_len) in
    let lt' : at < length reasons = omega (arith, p.top_within, p.reasons_len) in
    record {
      top_within = omega (arith, p.top_within);
      signs_len = length-set signs at (not (sign_at signs at)) ∙ p.signs_len;
      reasons_len = length-set reasons at (Some id) ∙ p.reasons_len;
      because = λ i k pos upto is. elim (nat_eq i at) as (λ b. nat_eq i at ≡ b → IsReason cs' (sign_at (set signs at (not (sign_at signs at)))) i k) [
        | true ↦ λ e. (
            let same : i ≡ at = grind (arith, nat_tests) in
            let here : Some id ≡ Some k = sym (get_or-set_same reasons at (Some id) None lt') ∙ ap (λ j. get_or (set reasons at (Some id)) j None) (sym same) ∙ is in
            let it : id ≡ k = same_Some id k here in
            rw (same, ← it) (known, first_same (sign_at signs) (turned (sign_at (set signs at (not (sign_at signs at)))) at) at (get_or cs' id []) (turned_back signs at at lt) first)
            )
        | false ↦ λ e. (
            let ne : i ≢ at = grind (arith, nat_tests) in
            reason_same cs cs' (sign_at signs) (sign_at (set signs at (not (sign_at signs at)))) i k more (set_same signs at (not (sign_at signs at)) i (omega arith)) (p.because i k pos (omega arith) (reason_other reasons at i k (Some id) ne is))
            )
      ] refl;
      clear = sym (some_false_same (sign_at signs) (sign_at (set signs at (not (sign_at signs at)))) (at - 1) cs' (set_same signs at (not (sign_at signs at)) (at - 1) (omega arith))) ∙ clear;
    }

-- the last variable turned, by a clause that stands there
pub path_turn_top : (vars : ℕ) (cs : List (List ℤ)) (signs : List Bool) (reasons : List (Option ℕ)) (top id : ℕ) → IsPath vars cs signs reasons top → 0 < top → id < length cs → is_false (sign_at signs) top (get_or cs id []) ≡ true
    → IsPath vars cs (set signs top (not (sign_at signs top))) (set reasons top (Some id)) top
path_turn_top vars cs signs reasons top id p some known now =
    path_turn vars cs cs signs reasons top top id p (extends_same cs) some (omega arith) p.clear known record { now = now; before = none_at (sign_at signs) (top - 1) cs id p.clear known }

-- a choice turned, by a derived clause
pub path_turn_derived : (vars : ℕ) (cs cs' : List (List ℤ)) (signs : List Bool) (reasons : List (Option ℕ)) (top at id : ℕ) (c : List ℤ) → IsPath vars cs signs reasons top → 0 < at → at ≤ top → cs' ≡ cs ++ c ∷ [] → id ≡ length cs → IsFirstFalse (sign_at signs) at c
    → IsPath vars cs' (set signs at (not (sign_at signs at))) (set reasons at (Some id)) at
path_turn_derived vars cs cs' signs reasons top at id c p some le more is first =
    let last : get_or (cs ++ c ∷ []) id [] ≡ c = ap (λ k. get_or (cs ++ c ∷ []) k []) is ∙ get_or-append_seam cs c [] [] in
    rw more (path_turn vars cs (cs ++ c ∷ []) signs reasons top at id p (extends_push cs c) some le
    (none_push (sign_at signs) (at - 1) cs c (none_before (sign_at signs) (at - 1) (top - 1) cs (omega arith) p.clear) first.before)
    (omega (arith, length-append cs (c ∷ []))) (rw last first))

-- something false needs a variable
pub path_some : (vars : ℕ) (cs : List (List ℤ)) (signs : List Bool) (reasons : List (Option ℕ)) (top id : ℕ) → IsPath vars cs signs reasons top → id < length cs → is_false (sign_at signs) top (get_or cs id []) ≡ true → 0 < top
path_some vars cs signs reasons zero id p known now = let no : is_false (sign_at signs) 0 (get_or cs id []) ≡ false = none_at (sign_at signs) 0 cs id p.clear known in cc
path_some vars cs signs reasons (suc n) id p known now = omega arith

-- a path with no variable set
pub path_start : (vars : ℕ) (cs : List (List ℤ)) (signs : List Bool) (reasons : List (Option ℕ)) (top : ℕ) → length signs ≡ vars + 1 → length reasons ≡ vars + 1 → top ≡ 0 → some_false (sign_at signs) 0 cs ≡ false → IsPath vars cs signs reasons top
path_start vars cs signs reasons top s r none clear = record {
  top_within = omega arith;
  signs_len = s;
  reasons_len = r;
  because = λ i k some le is. absurd (omega arith);
  clear = (let e : top - 1 ≡ 0 = omega arith in ap (λ n. some_false (sign_at signs) n cs) e ∙ clear);
}

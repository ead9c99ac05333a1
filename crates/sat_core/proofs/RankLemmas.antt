-- Serves specs/Path.antt: a choice keeps the rank, and a turned variable raises it.
use Rattle.std.proofs.Common.{◌≡◌, ◌≢◌, ℕ, zero, suc, ◌+◌, ◌-◌, ◌*◌, ◌^◌, ◌<◌, ◌≤◌, Bool, true, false, cond, List, length, get_or, set, refl, sym, ap, ◌∙◌, Option, Some, None, is_some, arith, get_or-set_same, get_or-set_other, add-one}
use Rattle.std.proofs.Math.Nat.{pow-succ', mul-le-mul_right}
use Rattle.sat_core.specs.Path.{rank}
use Rattle.sat_core.specs.Search.{left_of}

rank_same : (r s : List (Option ℕ)) (vars n : ℕ) → ((i : ℕ) → i ≤ n → get_or r i None ≡ get_or s i None) → rank r vars n ≡ rank s vars n
unfolding rank
rank_same r s vars zero same = refl
rank_same r s vars (suc n) same =
    let here : get_or r (n + 1) None ≡ get_or s (n + 1) None = same (n + 1) (omega arith) in
    rw (rank_same r s vars n (λ i le. same i (omega arith)), here) refl

pow_half : (vars n : ℕ) → n + 1 ≤ vars → 2 ^ (vars - n) ≡ 2 * 2 ^ (vars - (n + 1))
pow_half vars n le =
    let e : vars - n ≡ suc (vars - (n + 1)) = omega arith in
    ap (λ k. 2 ^ k) e ∙ pow-succ' 2 (vars - (n + 1))

pow_some : (n : ℕ) → 0 < 2 ^ n
pow_some zero = omega arith
pow_some (suc n) = omega (arith, pow-succ' 2 n, pow_some n)

bit_le : (b : Bool) (g : ℕ) → cond b g 0 ≤ g
bit_le true g = omega arith
bit_le false g = omega arith

step_falls : (a c g h b : ℕ) → c ≤ g → h ≡ 2 * g → a + h ≤ b → (a + c) + g ≤ b
step_falls a c g h b le e s = omega arith

-- what is left of the rank falls along the path
falls_by : (r : List (Option ℕ)) (vars n k : ℕ) → n + k ≤ vars → rank r vars (n + k) + 2 ^ (vars - (n + k)) ≤ rank r vars n + 2 ^ (vars - n)
unfolding rank
falls_by r vars n zero le = let e : n + 0 ≡ n = omega arith in rw e (omega arith)
falls_by r vars n (suc k) le =
    let e : n + suc k ≡ suc (n + k) = omega arith in
    let d : suc (n + k) ≡ (n + k) + 1 = omega arith in
    let half = pow_half vars (n + k) (omega arith) in
    let bit = bit_le (is_some (get_or r (n + k + 1) None)) (2 ^ (vars - (n + k + 1))) in
    let at : 2 ^ (vars - suc (n + k)) ≡ 2 ^ (vars - (n + k + 1)) = ap (λ j. 2 ^ (vars - j)) d in
    rw e (rw at (step_falls (rank r vars (n + k)) _ (2 ^ (vars - (n + k + 1))) (2 ^ (vars - (n + k))) _ bit half (falls_by r vars n k (omega arith))))

pub rank_falls : (r : List (Option ℕ)) (vars n m : ℕ) → n ≤ m → m ≤ vars → rank r vars m + 2 ^ (vars - m) ≤ rank r vars n + 2 ^ (vars - n)
rank_falls r vars n m le most =
    let e : n + (m - n) ≡ m = omega arith in
    rw e at (falls_by r vars n (m - n) (omega arith))

-- the rank is below 2 to the number of variables
pub rank_below : (r : List (Option ℕ)) (vars n : ℕ) → n ≤ vars → rank r vars n < 2 ^ vars
unfolding rank
rank_below r vars n le =
    let e : vars - 0 ≡ vars = omega arith in
    let f : rank r vars n + 2 ^ (vars - n) ≤ 0 + 2 ^ vars = rw e at (rank_falls r vars 0 n (omega arith) le) in
    omega (arith, pow_some (vars - n))

-- a choice keeps the rank
pub rank_choose : (r : List (Option ℕ)) (vars top : ℕ) → top + 1 < length r → rank (set r (top + 1) None) vars (top + 1) ≡ rank r vars top
unfolding rank
rank_choose r vars top lt =
    let d : top + 1 ≡ suc top = add-one top in
    let same : rank (set r (top + 1) None) vars top ≡ rank r vars top = rank_same (set r (top + 1) None) r vars top (λ i le. (let ne : i ≢ top + 1 = omega arith in get_or-set_other r (top + 1) i None None ne)) in
    let none : get_or (set r (top + 1) None) (top + 1) None ≡ None = get_or-set_same r (top + 1) None None lt in
    let more : rank (set r (top + 1) None) vars (suc top) ≡ rank r vars top + 0 = rw (same, none) refl in
    ap (rank (set r (top + 1) None) vars) d ∙ more ∙ omega arith

rank_turn_suc : (r : List (Option ℕ)) (vars n top id : ℕ) → suc n < length r → suc n ≤ top → top ≤ vars → get_or r (n + 1) None ≡ None → rank r vars top + 1 ≤ rank (set r (n + 1) (Some id)) vars (suc n)
unfolding rank
rank_turn_suc r vars n top id lt le most none =
    let same : rank (set r (n + 1) (Some id)) vars n ≡ rank r vars n = rank_same (set r (n + 1) (Some id)) r vars n (λ i le. (let ne : i ≢ n + 1 = omega arith in get_or-set_other r (n + 1) i (Some id) None ne)) in
    let here : get_or (set r (n + 1) (Some id)) (n + 1) None ≡ Some id = get_or-set_same r (n + 1) (Some id) None (omega arith) in
    let new : rank (set r (n + 1) (Some id)) vars (suc n) ≡ rank r vars n + 2 ^ (vars - (n + 1)) = rw (same, here) refl in
    let old : rank r vars (suc n) ≡ rank r vars n + 0 = rw none refl in
    let falls = rank_falls r vars (suc n) top le most in
    let d : 2 ^ (vars - suc n) ≡ 2 ^ (vars - (n + 1)) = ap (λ j. 2 ^ (vars - j)) (sym (add-one n)) in
    omega (arith, pow_some (vars - top))

-- a choice that is turned raises it
pub rank_turn : (r : List (Option ℕ)) (vars at top id : ℕ) → at < length r → 0 < at → at ≤ top → top ≤ vars → get_or r at None ≡ None → rank r vars top + 1 ≤ rank (set r at (Some id)) vars at
rank_turn r vars zero top id lt some le most none = absurd (omega arith)
rank_turn r vars (suc n) top id lt some le most none = rw (add-one n) at (rank_turn_suc r vars n top id lt le most (rw (add-one n) none))

-- a choice leaves less
pub left_choose : (vars rank rank' top top' : ℕ) → rank' ≡ rank → top' ≡ top + 1 → top < vars → left_of vars rank' top' < left_of vars rank top
left_choose vars rank rank' top top' e is lt =
    let same : (2 ^ vars - rank') * (vars + 1) ≡ (2 ^ vars - rank) * (vars + 1) = ap (λ r. (2 ^ vars - r) * (vars + 1)) e in
    let less : vars - top' < vars - top = omega arith in
    omega (arith, same, less)

left_by : (a b p q r s n : ℕ) → p ≡ b * (n + 1) → q ≡ a * (n + 1) → (b + 1) * (n + 1) ≤ q → r ≤ n → p + r < q + s
left_by a b p q r s n e f le m = omega arith

-- a turn leaves less
pub left_turn : (vars rank rank' top top' : ℕ) → rank + 1 ≤ rank' → rank' ≤ 2 ^ vars → left_of vars rank' top' < left_of vars rank top
left_turn vars rank rank' top top' more most =
    let fewer : (2 ^ vars - rank') + 1 ≤ 2 ^ vars - rank = omega arith in
    left_by (2 ^ vars - rank) (2 ^ vars - rank') _ _ (vars - top') (vars - top) vars refl refl (mul-le-mul_right (vars + 1) fewer) (omega arith)

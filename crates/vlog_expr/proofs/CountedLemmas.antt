-- What digits are worth, modulo a power of two.
use Rattle.std.proofs.Common.{◌≡◌, ℕ, suc, ◌+◌, ◌-◌, ◌*◌, ◌^◌, ◌%◌, ◌<◌, ◌≤◌, Bool, true, false, List, [], ◌∷◌, length, drop, get_or, refl, sym, ap, ◌∙◌, add_comm, add-one, length-drop, arith}
use Rattle.std.specs.Prelude.{◌==◌, if◌then◌else◌}
use Rattle.std.proofs.Math.Nat.{add-mod-mod, mod-mod, mod-eq_of_lt}
use Rattle.std.proofs.Math.Pow.{mod-mod-pow}
use Rattle.std.proofs.Math.Seq.{drop-cons}
use Rattle.std.proofs.lemmas.Nat.{mul-mod_second}
use Rattle.vlog_tree.specs.Numbers.{counted}

next_mod : (r v w m : ℕ) → (r * (v % m) + w) % m ≡ (r * v + w) % m
next_mod r v w m =
    ap (λ n. n % m) (add_comm (r * (v % m)) w)
    ∙ (sym (add-mod-mod w (r * (v % m)) m)
    ∙ (ap (λ n. (w + n) % m) (mul-mod_second r v m)
    ∙ (add-mod-mod w (r * v) m ∙ ap (λ n. n % m) (add_comm w (r * v)))))

by_digit : (b : Bool) (r v w m : ℕ) → (if b then v % m else r * (v % m) + w) % m ≡ (if b then v else r * v + w) % m
by_digit true r v w m = mod-mod v m
by_digit false r v w m = next_mod r v w m

-- a value may be cut before more digits
pub counted-mod : (worth : ℕ → ℕ) (r v m : ℕ) (ds : List ℕ) → counted worth r (v % m) ds % m ≡ counted worth r v ds % m
unfolding counted
counted-mod worth r v m [] = mod-mod v m
counted-mod worth r v m (d ∷ ds) =
    sym (counted-mod worth r (if d == 95 then v % m else r * (v % m) + worth d) m ds)
    ∙ (ap (λ n. counted worth r n ds % m) (by_digit (d == 95) r v (worth d) m)
    ∙ counted-mod worth r (if d == 95 then v else r * v + worth d) m ds)

-- one digit more
pub counted_next : (worth : ℕ → ℕ) (r v m i : ℕ) (ds : List ℕ) → i < length ds
    → counted worth r ((if get_or ds i 0 == 95 then v else r * v + worth (get_or ds i 0)) % m) (drop (i + 1) ds) % m ≡ counted worth r v (drop i ds) % m
unfolding counted
counted_next worth r v m i ds within =
    counted-mod worth r (if get_or ds i 0 == 95 then v else r * v + worth (get_or ds i 0)) m (drop (i + 1) ds)
    ∙ (ap (λ k. counted worth r (if get_or ds i 0 == 95 then v else r * v + worth (get_or ds i 0)) (drop k ds) % m) (add-one i)
    ∙ ap (λ xs. counted worth r v xs % m) (sym (drop-cons ds i 0 within)))

none_left : (worth : ℕ → ℕ) (r v : ℕ) (ds : List ℕ) → length ds ≡ 0 → counted worth r v ds ≡ v
unfolding counted
none_left worth r v [] none = refl
none_left worth r v (d ∷ ds) none = absurd (omega arith)

-- behind the last digit
pub counted_end : (worth : ℕ → ℕ) (r v m i : ℕ) (ds : List ℕ) → length ds ≤ i → v < m → counted worth r v (drop i ds) % m ≡ v
counted_end worth r v m i ds done fits =
    ap (λ n. n % m) (none_left worth r v (drop i ds) (omega (arith, length-drop i ds))) ∙ mod-eq_of_lt fits

-- fewer bits of some bits
pub cut : (x k : ℕ) → k ≤ 128 → x % 2 ^ 128 % 2 ^ k ≡ x % 2 ^ k
cut x k most = let sum : 128 - k + k ≡ 128 = omega arith in ap (λ n. x % 2 ^ n % 2 ^ k) (sym sum) ∙ mod-mod-pow x (128 - k) k

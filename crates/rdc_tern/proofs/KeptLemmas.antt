-- Serves specs/WordLaws.antt: a relation of values that every gate keeps is kept by every operation on words.
use Rattle.std.proofs.Common.{◌≡◌, ℕ, zero, suc, ◌+◌, ◌-◌, ◌^◌, ◌<◌, List, [], ◌∷◌, ◌++◌, length, take, get_or, replicate, refl, subst, arith}
use Rattle.std.specs.List.{AllZip}
use Rattle.std.proofs.lemmas.List.Elements.{length_all_zip}
use Rattle.rdc_tern.specs.declared.value.Tern.{Tern}
use Rattle.rdc_tern.specs.declared.value.Tern.TheVariants.{Zero, One, Unsettled}
use Rattle.rdc_tern.specs.Kleene.{not_of, and_of, or_of, xor_of, mux_of}
use Rattle.rdc_tern.specs.Shifts.{raised, lowered, select_of, shift_of, top_of, shl_of, shr_of, sar_of}
use Rattle.rdc_tern.specs.Words.{masked, inverted, zeros, sum_bit, carry_of, sum_of, add_of, sub_of, neg_of, products_of, mul_of, any_of, all_of, parity_of, eq_of, lt_bit, lt_from, lt_of, top_inverted, lt_signed_of}

-- the gates and the constants keep the relation
pub record IsKept (R : Tern → Tern → Type 0) : Type 0 where
  pub low : R Zero Zero
  pub high : R One One
  pub inverter : (a a' : Tern) → R a a' → R (not_of a) (not_of a')
  pub conjunction : (a a' b b' : Tern) → R a a' → R b b' → R (and_of a b) (and_of a' b')
  pub disjunction : (a a' b b' : Tern) → R a a' → R b b' → R (or_of a b) (or_of a' b')
  pub difference : (a a' b b' : Tern) → R a a' → R b b' → R (xor_of a b) (xor_of a' b')

-- an empty word stays empty
pub nothing_shifts : (f : Tern) (i : ℕ) (amount : List Tern) → shift_of (lowered f) i [] amount ≡ []
nothing_shifts f i [] = refl
nothing_shifts f i (b ∷ amount) = nothing_shifts f (i + 1) amount

module _ (R : Tern → Tern → Type 0) (k : IsKept R) where
  sum_bit_kept : (c c' a a' b b' : Tern) → R c c' → R a a' → R b b' → R (sum_bit c a b) (sum_bit c' a' b')
  sum_bit_kept c c' a a' b b' rc ra rb = k.difference _ _ _ _ (k.difference _ _ _ _ ra rb) rc

  carry_kept : (c c' a a' b b' : Tern) → R c c' → R a a' → R b b' → R (carry_of c a b) (carry_of c' a' b')
  carry_kept c c' a a' b b' rc ra rb = k.disjunction _ _ _ _ (k.conjunction _ _ _ _ ra rb) (k.conjunction _ _ _ _ rc (k.difference _ _ _ _ ra rb))

  mux_kept : (s s' a a' b b' : Tern) → R s s' → R a a' → R b b' → R (mux_of s a b) (mux_of s' a' b')
  mux_kept s s' a a' b b' rs ra rb = k.disjunction _ _ _ _ (k.conjunction _ _ _ _ rs ra) (k.conjunction _ _ _ _ (k.inverter _ _ rs) rb)

  lt_bit_kept : (c c' a a' b b' : Tern) → R c c' → R a a' → R b b' → R (lt_bit c a b) (lt_bit c' a' b')
  lt_bit_kept c c' a a' b b' rc ra rb =
      k.disjunction _ _ _ _ (k.conjunction _ _ _ _ (k.inverter _ _ ra) rb) (k.conjunction _ _ _ _ (k.inverter _ _ (k.difference _ _ _ _ ra rb)) rc)

  sum_kept : (c c' : Tern) (x x' y y' : List Tern) → R c c' → AllZip R x x' → AllZip R y y' → AllZip R (sum_of c x y) (sum_of c' x' y')
  sum_kept c c' [] [] y y' rc rx ry = tt
  sum_kept c c' [] (a' ∷ x') y y' rc rx ry = absurd rx
  sum_kept c c' (a ∷ x) [] y y' rc rx ry = absurd rx
  sum_kept c c' (a ∷ x) (a' ∷ x') [] [] rc rx ry = tt
  sum_kept c c' (a ∷ x) (a' ∷ x') [] (b' ∷ y') rc rx ry = absurd ry
  sum_kept c c' (a ∷ x) (a' ∷ x') (b ∷ y) [] rc rx ry = absurd ry
  sum_kept c c' (a ∷ x) (a' ∷ x') (b ∷ y) (b' ∷ y') rc rx ry =
      (sum_bit_kept c c' a a' b b' rc rx.0 ry.0, sum_kept (carry_of c a b) (carry_of c' a' b') x x' y y' (carry_kept c c' a a' b b' rc rx.0 ry.0) rx.1 ry.1)

  pub add_kept : (x x' y y' : List Tern) → AllZip R x x' → AllZip R y y' → AllZip R (add_of x y) (add_of x' y')
  add_kept x x' y y' rx ry = sum_kept Zero Zero x x' y y' k.low rx ry

  inverted_kept : (x x' : List Tern) → AllZip R x x' → AllZip R (inverted x) (inverted x')
  inverted_kept [] [] rx = tt
  inverted_kept [] (a' ∷ x') rx = absurd rx
  inverted_kept (a ∷ x) [] rx = absurd rx
  inverted_kept (a ∷ x) (a' ∷ x') rx = (k.inverter a a' rx.0, inverted_kept x x' rx.1)

  pub sub_kept : (x x' y y' : List Tern) → AllZip R x x' → AllZip R y y' → AllZip R (sub_of x y) (sub_of x' y')
  sub_kept x x' y y' rx ry = sum_kept One One x x' (inverted y) (inverted y') k.high rx (inverted_kept y y' ry)

  zeros_kept : (x x' : List Tern) → AllZip R x x' → AllZip R (zeros x) (zeros x')
  zeros_kept [] [] rx = tt
  zeros_kept [] (a' ∷ x') rx = absurd rx
  zeros_kept (a ∷ x) [] rx = absurd rx
  zeros_kept (a ∷ x) (a' ∷ x') rx = (k.low, zeros_kept x x' rx.1)

  pub neg_kept : (x x' : List Tern) → AllZip R x x' → AllZip R (neg_of x) (neg_of x')
  neg_kept x x' rx = sub_kept (zeros x) (zeros x') x x' (zeros_kept x x' rx) rx

  masked_kept : (b b' : Tern) (x x' : List Tern) → R b b' → AllZip R x x' → AllZip R (masked b x) (masked b' x')
  masked_kept b b' [] [] rb rx = tt
  masked_kept b b' [] (a' ∷ x') rb rx = absurd rx
  masked_kept b b' (a ∷ x) [] rb rx = absurd rx
  masked_kept b b' (a ∷ x) (a' ∷ x') rb rx = (k.conjunction a a' b b' rx.0 rb, masked_kept b b' x x' rb rx.1)

  take_kept : (n : ℕ) (x x' : List Tern) → AllZip R x x' → AllZip R (take n x) (take n x')
  take_kept zero x x' rx = tt
  take_kept (suc n) [] [] rx = tt
  take_kept (suc n) [] (a' ∷ x') rx = absurd rx
  take_kept (suc n) (a ∷ x) [] rx = absurd rx
  take_kept (suc n) (a ∷ x) (a' ∷ x') rx = (rx.0, take_kept n x x' rx.1)

  filled_kept : (f f' : Tern) (n : ℕ) (x x' : List Tern) → R f f' → AllZip R x x' → AllZip R (replicate n f ++ x) (replicate n f' ++ x')
  filled_kept f f' zero x x' rf rx = rx
  filled_kept f f' (suc n) x x' rf rx = (rf, filled_kept f f' n x x' rf rx)

  raised_kept : (n : ℕ) (x x' : List Tern) → AllZip R x x' → AllZip R (raised Zero n x) (raised Zero n x')
  raised_kept n x x' rx =
      let same : length x ≡ length x' = length_all_zip R x x' rx in
      subst (λ (m : ℕ). AllZip R (raised Zero n x) (take m (replicate n Zero ++ x'))) same (take_kept (length x) (replicate n Zero ++ x) (replicate n Zero ++ x') (filled_kept Zero Zero n x x' k.low rx))

  get_kept : (n : ℕ) (f f' : Tern) (x x' : List Tern) → R f f' → AllZip R x x' → R (get_or x n f) (get_or x' n f')
  get_kept n f f' [] [] rf rx = rf
  get_kept n f f' [] (a' ∷ x') rf rx = absurd rx
  get_kept n f f' (a ∷ x) [] rf rx = absurd rx
  get_kept zero f f' (a ∷ x) (a' ∷ x') rf rx = rx.0
  get_kept (suc n) f f' (a ∷ x) (a' ∷ x') rf rx = get_kept n f f' x x' rf rx.1

  lowered_kept : (f f' : Tern) (n : ℕ) (x x' : List Tern) → R f f' → AllZip R x x' → AllZip R (lowered f n x) (lowered f' n x')
  lowered_kept f f' n [] [] rf rx = tt
  lowered_kept f f' n [] (a' ∷ x') rf rx = absurd rx
  lowered_kept f f' n (a ∷ x) [] rf rx = absurd rx
  lowered_kept f f' n (a ∷ x) (a' ∷ x') rf rx = (get_kept n f f' (a ∷ x) (a' ∷ x') rf rx, lowered_kept f f' n x x' rf rx.1)

  select_kept : (s s' : Tern) (x x' y y' : List Tern) → R s s' → AllZip R x x' → AllZip R y y' → AllZip R (select_of s x y) (select_of s' x' y')
  select_kept s s' [] [] y y' rs rx ry = tt
  select_kept s s' [] (a' ∷ x') y y' rs rx ry = absurd rx
  select_kept s s' (a ∷ x) [] y y' rs rx ry = absurd rx
  select_kept s s' (a ∷ x) (a' ∷ x') [] [] rs rx ry = tt
  select_kept s s' (a ∷ x) (a' ∷ x') [] (b' ∷ y') rs rx ry = absurd ry
  select_kept s s' (a ∷ x) (a' ∷ x') (b ∷ y) [] rs rx ry = absurd ry
  select_kept s s' (a ∷ x) (a' ∷ x') (b ∷ y) (b' ∷ y') rs rx ry = (mux_kept s s' a a' b b' rs rx.0 ry.0, select_kept s s' x x' y y' rs rx.1 ry.1)

  shift_kept : (moved moved' : ℕ → List Tern → List Tern) (i : ℕ) (w w' amount amount' : List Tern)
      → ((n : ℕ) (x x' : List Tern) → AllZip R x x' → AllZip R (moved n x) (moved' n x')) → AllZip R w w' → AllZip R amount amount'
      → AllZip R (shift_of moved i w amount) (shift_of moved' i w' amount')
  shift_kept moved moved' i w w' [] [] rm rw' ra = rw'
  shift_kept moved moved' i w w' [] (b' ∷ amount') rm rw' ra = absurd ra
  shift_kept moved moved' i w w' (b ∷ amount) [] rm rw' ra = absurd ra
  shift_kept moved moved' i w w' (b ∷ amount) (b' ∷ amount') rm rw' ra =
      shift_kept moved moved' (i + 1) (select_of b (moved (2 ^ i) w) w) (select_of b' (moved' (2 ^ i) w') w') amount amount' rm
      (select_kept b b' (moved (2 ^ i) w) (moved' (2 ^ i) w') w w' ra.0 (rm (2 ^ i) w w' rw') rw') ra.1

  pub shl_kept : (w w' n n' : List Tern) → AllZip R w w' → AllZip R n n' → AllZip R (shl_of w n) (shl_of w' n')
  shl_kept w w' n n' kept amount = shift_kept (raised Zero) (raised Zero) 0 w w' n n' (λ i x x' rx. raised_kept i x x' rx) kept amount

  pub shr_kept : (w w' n n' : List Tern) → AllZip R w w' → AllZip R n n' → AllZip R (shr_of w n) (shr_of w' n')
  shr_kept w w' n n' kept amount = shift_kept (lowered Zero) (lowered Zero) 0 w w' n n' (λ i x x' rx. lowered_kept Zero Zero i x x' k.low rx) kept amount

  last_kept : (n : ℕ) (d : Tern) (x x' : List Tern) → n < length x → AllZip R x x' → R (get_or x n d) (get_or x' n d)
  last_kept n d [] x' lt rx = absurd (omega arith)
  last_kept n d (a ∷ x) [] lt rx = absurd rx
  last_kept zero d (a ∷ x) (a' ∷ x') lt rx = rx.0
  last_kept (suc n) d (a ∷ x) (a' ∷ x') lt rx = last_kept n d x x' (omega arith) rx.1

  top_kept : (a a' : Tern) (x x' : List Tern) → AllZip R (a ∷ x) (a' ∷ x') → R (top_of (a ∷ x)) (top_of (a' ∷ x'))
  top_kept a a' x x' rx =
      let same : length x ≡ length x' = length_all_zip R x x' rx.1 in
      subst (λ (n : ℕ). R (top_of (a ∷ x)) (get_or (a' ∷ x') (suc n - 1) Unsettled)) same (last_kept (suc (length x) - 1) Unsettled (a ∷ x) (a' ∷ x') (omega arith) rx)

  pub sar_kept : (w w' n n' : List Tern) → AllZip R w w' → AllZip R n n' → AllZip R (sar_of w n) (sar_of w' n')
  sar_kept [] [] n n' kept amount = rw (nothing_shifts Unsettled 0 n, nothing_shifts Unsettled 0 n') tt
  sar_kept [] (a' ∷ w') n n' kept amount = absurd kept
  sar_kept (a ∷ w) [] n n' kept amount = absurd kept
  sar_kept (a ∷ w) (a' ∷ w') n n' kept amount =
      shift_kept (lowered (top_of (a ∷ w))) (lowered (top_of (a' ∷ w'))) 0 (a ∷ w) (a' ∷ w') n n' (λ i x x' rx. lowered_kept (top_of (a ∷ w)) (top_of (a' ∷ w')) i x x' (top_kept a a' w w' kept) rx) kept amount

  products_kept : (s s' a a' : List Tern) (i : ℕ) (b b' : List Tern) → AllZip R s s' → AllZip R a a' → AllZip R b b' → AllZip R (products_of s a i b) (products_of s' a' i b')
  products_kept s s' a a' i [] [] rs ra rb = rs
  products_kept s s' a a' i [] (c' ∷ b') rs ra rb = absurd rb
  products_kept s s' a a' i (c ∷ b) [] rs ra rb = absurd rb
  products_kept s s' a a' i (c ∷ b) (c' ∷ b') rs ra rb =
      products_kept (add_of s (masked c (raised Zero i a))) (add_of s' (masked c' (raised Zero i a'))) a a' (i + 1) b b'
      (add_kept s s' (masked c (raised Zero i a)) (masked c' (raised Zero i a')) rs (masked_kept c c' (raised Zero i a) (raised Zero i a') rb.0 (raised_kept i a a' ra))) ra rb.1

  pub mul_kept : (a a' b b' : List Tern) → AllZip R a a' → AllZip R b b' → AllZip R (mul_of a b) (mul_of a' b')
  mul_kept a a' b b' ra rb = products_kept (zeros a) (zeros a') a a' 0 b b' (zeros_kept a a' ra) ra rb

  pub any_kept : (x x' : List Tern) → AllZip R x x' → R (any_of x) (any_of x')
  any_kept [] [] rx = k.low
  any_kept [] (a' ∷ x') rx = absurd rx
  any_kept (a ∷ x) [] rx = absurd rx
  any_kept (a ∷ x) (a' ∷ x') rx = k.disjunction a a' (any_of x) (any_of x') rx.0 (any_kept x x' rx.1)

  pub all_kept : (x x' : List Tern) → AllZip R x x' → R (all_of x) (all_of x')
  all_kept [] [] rx = k.high
  all_kept [] (a' ∷ x') rx = absurd rx
  all_kept (a ∷ x) [] rx = absurd rx
  all_kept (a ∷ x) (a' ∷ x') rx = k.conjunction a a' (all_of x) (all_of x') rx.0 (all_kept x x' rx.1)

  pub parity_kept : (x x' : List Tern) → AllZip R x x' → R (parity_of x) (parity_of x')
  parity_kept [] [] rx = k.low
  parity_kept [] (a' ∷ x') rx = absurd rx
  parity_kept (a ∷ x) [] rx = absurd rx
  parity_kept (a ∷ x) (a' ∷ x') rx = k.difference a a' (parity_of x) (parity_of x') rx.0 (parity_kept x x' rx.1)

  pub eq_kept : (x x' y y' : List Tern) → AllZip R x x' → AllZip R y y' → R (eq_of x y) (eq_of x' y')
  eq_kept [] [] y y' rx ry = k.high
  eq_kept [] (a' ∷ x') y y' rx ry = absurd rx
  eq_kept (a ∷ x) [] y y' rx ry = absurd rx
  eq_kept (a ∷ x) (a' ∷ x') [] [] rx ry = k.high
  eq_kept (a ∷ x) (a' ∷ x') [] (b' ∷ y') rx ry = absurd ry
  eq_kept (a ∷ x) (a' ∷ x') (b ∷ y) [] rx ry = absurd ry
  eq_kept (a ∷ x) (a' ∷ x') (b ∷ y) (b' ∷ y') rx ry = k.conjunction _ _ _ _ (k.inverter _ _ (k.difference a a' b b' rx.0 ry.0)) (eq_kept x x' y y' rx.1 ry.1)

  lt_from_kept : (s s' : Tern) (x x' y y' : List Tern) → R s s' → AllZip R x x' → AllZip R y y' → R (lt_from s x y) (lt_from s' x' y')
  lt_from_kept s s' [] [] y y' rs rx ry = rs
  lt_from_kept s s' [] (a' ∷ x') y y' rs rx ry = absurd rx
  lt_from_kept s s' (a ∷ x) [] y y' rs rx ry = absurd rx
  lt_from_kept s s' (a ∷ x) (a' ∷ x') [] [] rs rx ry = rs
  lt_from_kept s s' (a ∷ x) (a' ∷ x') [] (b' ∷ y') rs rx ry = absurd ry
  lt_from_kept s s' (a ∷ x) (a' ∷ x') (b ∷ y) [] rs rx ry = absurd ry
  lt_from_kept s s' (a ∷ x) (a' ∷ x') (b ∷ y) (b' ∷ y') rs rx ry = lt_from_kept (lt_bit s a b) (lt_bit s' a' b') x x' y y' (lt_bit_kept s s' a a' b b' rs rx.0 ry.0) rx.1 ry.1

  pub lt_kept : (x x' y y' : List Tern) → AllZip R x x' → AllZip R y y' → R (lt_of x y) (lt_of x' y')
  lt_kept x x' y y' rx ry = lt_from_kept Zero Zero x x' y y' k.low rx ry

  top_inverted_kept : (x x' : List Tern) → AllZip R x x' → AllZip R (top_inverted x) (top_inverted x')
  top_inverted_kept [] [] rx = tt
  top_inverted_kept [] (a' ∷ x') rx = absurd rx
  top_inverted_kept (a ∷ x) [] rx = absurd rx
  top_inverted_kept (a ∷ []) (a' ∷ []) rx = (k.inverter a a' rx.0, tt)
  top_inverted_kept (a ∷ []) (a' ∷ b' ∷ x') rx = absurd rx.1
  top_inverted_kept (a ∷ b ∷ x) (a' ∷ []) rx = absurd rx.1
  top_inverted_kept (a ∷ b ∷ x) (a' ∷ b' ∷ x') rx = (rx.0, top_inverted_kept (b ∷ x) (b' ∷ x') rx.1)

  pub lt_signed_kept : (x x' y y' : List Tern) → AllZip R x x' → AllZip R y y' → R (lt_signed_of x y) (lt_signed_of x' y')
  lt_signed_kept x x' y y' rx ry = lt_kept (top_inverted x) (top_inverted x') (top_inverted y) (top_inverted y') (top_inverted_kept x x' rx) (top_inverted_kept y y' ry)

-- A relation of values that every gate keeps is kept by every operation on words.
use Rattle.std.proofs.Common.{ℕ, zero, suc, ◌+◌, ◌-◌, ◌/◌, ◌%◌, ◌==◌, Bool, true, false, if◌then◌else◌, nat_le, List, [], ◌∷◌, ◌++◌, length, take, replicate, get_or, subst}
use Rattle.std.specs.List.{AllZip}
use Rattle.std.proofs.lemmas.List.Elements.{length_all_zip}
use Rattle.vlog_tree.specs.declared.expr.Part.{Part}
use Rattle.vlog_tree.specs.declared.operator.Unary.{Unary}
use Rattle.vlog_tree.specs.declared.operator.Unary.TheVariants as unary
use Rattle.vlog_tree.specs.declared.operator.Binary.{Binary}
use Rattle.vlog_tree.specs.declared.operator.Binary.TheVariants as binary
use Rattle.rdc_tern.specs.declared.value.Tern.{Tern}
use Rattle.rdc_tern.specs.declared.value.Tern.TheVariants.{Zero, One}
use Rattle.rdc_tern.specs.Kleene.{mux_of}
use Rattle.rdc_tern.specs.Shifts.{select_of}
use Rattle.rdc_tern.specs.Words.{inverted, eq_of}
use Rattle.rdc_tern.proofs.KeptLemmas.{IsKept, add_kept, sub_kept, neg_kept, mul_kept, shl_kept, shr_kept, sar_kept, any_kept, all_kept, parity_kept, eq_kept, lt_kept, lt_signed_kept}
use Rattle.vlog_const.specs.declared.shape.Shape.{Shape}
use Rattle.vlog_const.specs.declared.shape.Family.{Family}
use Rattle.vlog_const.specs.declared.shape.Family.TheVariants.{Contextual, Compared, Alone, Leading}
use Rattle.vlog_const.specs.declared.whole.Whole.{Whole}
use Rattle.vlog_const.specs.declared.answer.ConstValue.{ConstValue}
use Rattle.vlog_const.specs.Worths.{Or_fault}
use Rattle.std.proofs.Common.{Ok, Err}
use Rattle.design_form.specs.declared.signal.Bounds.{Bounds}
use Rattle.design_form.specs.declared.start.Start.{Start}
use Rattle.design_form.specs.declared.start.Start.TheVariants.{From, Below}
use Rattle.design_form.specs.Signals.{is_down, width_of}
use Rattle.design_form.specs.Bits.{bits, low_bit, fill_of, extended, each, copies, start_word, can_be}
use Rattle.design_form.specs.Gates.{gate_of, sized, arithmetic, less, compared, reduced, logical, shifted, before_in, between_in}
use Rattle.design_form.specs.Selects.{bit_less, part_bit, part_from, starts, start_of, hit, reached, picked_bit, hits_from, picked_from}
use Rattle.design_form.specs.Values.{constant_bits}

module _ (R : Tern → Tern → Type 0) (k : IsKept R) where
  get_kept : (n : ℕ) (x x' : List Tern) → AllZip R x x' → R (get_or x n Zero) (get_or x' n Zero)
  get_kept n [] [] rx = k.low
  get_kept n [] (a' ∷ x') rx = absurd rx
  get_kept n (a ∷ x) [] rx = absurd rx
  get_kept zero (a ∷ x) (a' ∷ x') rx = rx.0
  get_kept (suc n) (a ∷ x) (a' ∷ x') rx = get_kept n x x' rx.1

  take_kept : (n : ℕ) (x x' : List Tern) → AllZip R x x' → AllZip R (take n x) (take n x')
  take_kept zero x x' rx = tt
  take_kept (suc n) [] [] rx = tt
  take_kept (suc n) [] (a' ∷ x') rx = absurd rx
  take_kept (suc n) (a ∷ x) [] rx = absurd rx
  take_kept (suc n) (a ∷ x) (a' ∷ x') rx = (rx.0, take_kept n x x' rx.1)

  filled_kept : (f f' : Tern) (n : ℕ) → R f f' → AllZip R (replicate n f) (replicate n f')
  filled_kept f f' zero rf = tt
  filled_kept f f' (suc n) rf = (rf, filled_kept f f' n rf)

  pub append_kept : (x x' y y' : List Tern) → AllZip R x x' → AllZip R y y' → AllZip R (x ++ y) (x' ++ y')
  append_kept [] [] y y' rx ry = ry
  append_kept [] (a' ∷ x') y y' rx ry = absurd rx
  append_kept (a ∷ x) [] y y' rx ry = absurd rx
  append_kept (a ∷ x) (a' ∷ x') y y' rx ry = (rx.0, append_kept x x' y y' rx.1 ry)

  inverted_kept : (x x' : List Tern) → AllZip R x x' → AllZip R (inverted x) (inverted x')
  inverted_kept [] [] rx = tt
  inverted_kept [] (a' ∷ x') rx = absurd rx
  inverted_kept (a ∷ x) [] rx = absurd rx
  inverted_kept (a ∷ x) (a' ∷ x') rx = (k.inverter a a' rx.0, inverted_kept x x' rx.1)

  -- ---- constants

  low_bit_kept : (n : ℕ) → R (low_bit n) (low_bit n)
  low_bit_kept n = elim (n % 2 == 1) as (λ b. R (if b then One else Zero) (if b then One else Zero)) [ true ↦ k.high | false ↦ k.low ]

  pub bits_kept : (w n : ℕ) → AllZip R (bits w n) (bits w n)
  unfolding bits
  bits_kept zero n = tt
  bits_kept (suc w) n = (low_bit_kept n, bits_kept w (n / 2))

  start_word_kept : (w : ℕ) (s : Start) → AllZip R (start_word w s) (start_word w s)
  unfolding start_word
  start_word_kept w (From n) = bits_kept w n
  start_word_kept w (Below n) = inverted_kept (bits w n) (bits w n) (bits_kept w n)

  pub constant_kept : (w : ℕ) (r : Or_fault ConstValue) → AllZip R (constant_bits w r) (constant_bits w r)
  unfolding constant_bits
  constant_kept w (Ok v) = bits_kept w v.bits
  constant_kept w (Err fault) = bits_kept w 0

  -- ---- words in a context

  fill_kept : (signed : Bool) (x x' : List Tern) → AllZip R x x' → R (fill_of signed x) (fill_of signed x')
  unfolding fill_of
  fill_kept true x x' rx = subst (λ (n : ℕ). R (get_or x (length x - 1) Zero) (get_or x' (n - 1) Zero)) (length_all_zip R x x' rx) (get_kept (length x - 1) x x' rx)
  fill_kept false x x' rx = k.low

  pub extended_kept : (c : Shape) (x x' : List Tern) → AllZip R x x' → AllZip R (extended c x) (extended c x')
  unfolding extended
  extended_kept c x x' rx =
      append_kept (take c.width x) (take c.width x') _ _ (take_kept c.width x x' rx)
      (subst (λ (n : ℕ). AllZip R (replicate (c.width - length x) (fill_of c.signed x)) (replicate (c.width - n) (fill_of c.signed x'))) (length_all_zip R x x' rx)
      (filled_kept (fill_of c.signed x) (fill_of c.signed x') (c.width - length x) (fill_kept c.signed x x' rx)))

  one_kept : (c : Shape) (a a' : Tern) → R a a' → AllZip R (extended c (a ∷ [])) (extended c (a' ∷ []))
  one_kept c a a' ra = extended_kept c (a ∷ []) (a' ∷ []) (ra, tt)

  -- ---- operators

  gate_kept : (op : Binary) (a a' b b' : Tern) → R a a' → R b b' → R (gate_of op a b) (gate_of op a' b')
  unfolding gate_of
  gate_kept binary.And a a' b b' ra rb = k.conjunction a a' b b' ra rb
  gate_kept binary.Or a a' b b' ra rb = k.disjunction a a' b b' ra rb
  gate_kept binary.Xor a a' b b' ra rb = k.difference a a' b b' ra rb
  gate_kept binary.Xnor a a' b b' ra rb = k.inverter _ _ (k.difference a a' b b' ra rb)
  gate_kept _ a a' b b' ra rb = k.low

  each_kept : (op : Binary) (x x' y y' : List Tern) → AllZip R x x' → AllZip R y y' → AllZip R (each (gate_of op) x y) (each (gate_of op) x' y')
  unfolding each
  each_kept op [] [] y y' rx ry = tt
  each_kept op [] (a' ∷ x') y y' rx ry = absurd rx
  each_kept op (a ∷ x) [] y y' rx ry = absurd rx
  each_kept op (a ∷ x) (a' ∷ x') [] [] rx ry = tt
  each_kept op (a ∷ x) (a' ∷ x') [] (b' ∷ y') rx ry = absurd ry
  each_kept op (a ∷ x) (a' ∷ x') (b ∷ y) [] rx ry = absurd ry
  each_kept op (a ∷ x) (a' ∷ x') (b ∷ y) (b' ∷ y') rx ry = (gate_kept op a a' b b' rx.0 ry.0, each_kept op x x' y y' rx.1 ry.1)

  sized_kept : (op : Unary) (x x' : List Tern) → AllZip R x x' → AllZip R (sized op x) (sized op x')
  unfolding sized
  sized_kept unary.Minus x x' rx = neg_kept R k x x' rx
  sized_kept unary.Invert x x' rx = inverted_kept x x' rx
  sized_kept _ x x' rx = rx

  arithmetic_kept : (op : Binary) (x x' y y' : List Tern) → AllZip R x x' → AllZip R y y' → AllZip R (arithmetic op x y) (arithmetic op x' y')
  unfolding arithmetic
  arithmetic_kept binary.Add x x' y y' rx ry = add_kept R k x x' y y' rx ry
  arithmetic_kept binary.Subtract x x' y y' rx ry = sub_kept R k x x' y y' rx ry
  arithmetic_kept binary.Multiply x x' y y' rx ry = mul_kept R k x x' y y' rx ry
  arithmetic_kept op x x' y y' rx ry = each_kept op x x' y y' rx ry

  less_kept : (signed : Bool) (x x' y y' : List Tern) → AllZip R x x' → AllZip R y y' → R (less signed x y) (less signed x' y')
  unfolding less
  less_kept true x x' y y' rx ry = lt_signed_kept R k x x' y y' rx ry
  less_kept false x x' y y' rx ry = lt_kept R k x x' y y' rx ry

  compared_kept : (op : Binary) (signed : Bool) (x x' y y' : List Tern) → AllZip R x x' → AllZip R y y' → R (compared op signed x y) (compared op signed x' y')
  unfolding compared
  compared_kept binary.Less signed x x' y y' rx ry = less_kept signed x x' y y' rx ry
  compared_kept binary.AtMost signed x x' y y' rx ry = k.inverter _ _ (less_kept signed y y' x x' ry rx)
  compared_kept binary.Greater signed x x' y y' rx ry = less_kept signed y y' x x' ry rx
  compared_kept binary.AtLeast signed x x' y y' rx ry = k.inverter _ _ (less_kept signed x x' y y' rx ry)
  compared_kept binary.Equal signed x x' y y' rx ry = eq_kept R k x x' y y' rx ry
  compared_kept binary.CaseEqual signed x x' y y' rx ry = eq_kept R k x x' y y' rx ry
  compared_kept binary.NotEqual signed x x' y y' rx ry = k.inverter _ _ (eq_kept R k x x' y y' rx ry)
  compared_kept binary.CaseNotEqual signed x x' y y' rx ry = k.inverter _ _ (eq_kept R k x x' y y' rx ry)
  compared_kept _ signed x x' y y' rx ry = k.low

  reduced_kept : (op : Unary) (x x' : List Tern) → AllZip R x x' → R (reduced op x) (reduced op x')
  unfolding reduced
  reduced_kept unary.Not x x' rx = k.inverter _ _ (any_kept R k x x' rx)
  reduced_kept unary.ReduceAnd x x' rx = all_kept R k x x' rx
  reduced_kept unary.ReduceNand x x' rx = k.inverter _ _ (all_kept R k x x' rx)
  reduced_kept unary.ReduceOr x x' rx = any_kept R k x x' rx
  reduced_kept unary.ReduceNor x x' rx = k.inverter _ _ (any_kept R k x x' rx)
  reduced_kept unary.ReduceXor x x' rx = parity_kept R k x x' rx
  reduced_kept unary.ReduceXnor x x' rx = k.inverter _ _ (parity_kept R k x x' rx)
  reduced_kept _ x x' rx = k.low

  logical_kept : (op : Binary) (x x' y y' : List Tern) → AllZip R x x' → AllZip R y y' → R (logical op x y) (logical op x' y')
  unfolding logical
  logical_kept binary.LogicalAnd x x' y y' rx ry = k.conjunction _ _ _ _ (any_kept R k x x' rx) (any_kept R k y y' ry)
  logical_kept binary.LogicalOr x x' y y' rx ry = k.disjunction _ _ _ _ (any_kept R k x x' rx) (any_kept R k y y' ry)
  logical_kept _ x x' y y' rx ry = k.low

  shifted_kept : (op : Binary) (signed : Bool) (x x' n n' : List Tern) → AllZip R x x' → AllZip R n n' → AllZip R (shifted op signed x n) (shifted op signed x' n')
  unfolding shifted
  shifted_kept binary.ShiftLeft signed x x' n n' rx rn = shl_kept R k x x' n n' rx rn
  shifted_kept binary.ArithmeticShiftLeft signed x x' n n' rx rn = shl_kept R k x x' n n' rx rn
  shifted_kept binary.ShiftRight signed x x' n n' rx rn = shr_kept R k x x' n n' rx rn
  shifted_kept binary.ArithmeticShiftRight true x x' n n' rx rn = sar_kept R k x x' n n' rx rn
  shifted_kept binary.ArithmeticShiftRight false x x' n n' rx rn = shr_kept R k x x' n n' rx rn
  shifted_kept _ signed x x' n n' rx rn = rx

  pub before_kept : (f : Family) (op : Unary) (c : Shape) (x x' : List Tern) → AllZip R x x' → AllZip R (before_in f op c x) (before_in f op c x')
  unfolding before_in
  before_kept Contextual op c x x' rx = sized_kept op x x' rx
  before_kept Compared op c x x' rx = one_kept c _ _ (reduced_kept op x x' rx)
  before_kept Alone op c x x' rx = one_kept c _ _ (reduced_kept op x x' rx)
  before_kept Leading op c x x' rx = one_kept c _ _ (reduced_kept op x x' rx)

  pub between_kept : (f : Family) (op : Binary) (signed : Bool) (c : Shape) (x x' y y' : List Tern) → AllZip R x x' → AllZip R y y' → AllZip R (between_in f op signed c x y) (between_in f op signed c x' y')
  unfolding between_in
  between_kept Contextual op signed c x x' y y' rx ry = arithmetic_kept op x x' y y' rx ry
  between_kept Compared op signed c x x' y y' rx ry = one_kept c _ _ (compared_kept op signed x x' y y' rx ry)
  between_kept Alone op signed c x x' y y' rx ry = one_kept c _ _ (logical_kept op x x' y y' rx ry)
  between_kept Leading op signed c x x' y y' rx ry = shifted_kept op c.signed x x' y y' rx ry

  mux_kept : (s s' a a' b b' : Tern) → R s s' → R a a' → R b b' → R (mux_of s a b) (mux_of s' a' b')
  mux_kept s s' a a' b b' rs ra rb = k.disjunction _ _ _ _ (k.conjunction _ _ _ _ rs ra) (k.conjunction _ _ _ _ (k.inverter _ _ rs) rb)

  pub select_kept : (s s' : Tern) (x x' y y' : List Tern) → R s s' → AllZip R x x' → AllZip R y y' → AllZip R (select_of s x y) (select_of s' x' y')
  select_kept s s' [] [] y y' rs rx ry = tt
  select_kept s s' [] (a' ∷ x') y y' rs rx ry = absurd rx
  select_kept s s' (a ∷ x) [] y y' rs rx ry = absurd rx
  select_kept s s' (a ∷ x) (a' ∷ x') [] [] rs rx ry = tt
  select_kept s s' (a ∷ x) (a' ∷ x') [] (b' ∷ y') rs rx ry = absurd ry
  select_kept s s' (a ∷ x) (a' ∷ x') (b ∷ y) [] rs rx ry = absurd ry
  select_kept s s' (a ∷ x) (a' ∷ x') (b ∷ y) (b' ∷ y') rs rx ry = (mux_kept s s' a a' b b' rs rx.0 ry.0, select_kept s s' x x' y y' rs rx.1 ry.1)

  pub copies_kept : (n : ℕ) (x x' : List Tern) → AllZip R x x' → AllZip R (copies n x) (copies n x')
  unfolding copies
  copies_kept zero x x' rx = tt
  copies_kept (suc n) x x' rx = append_kept x x' (copies n x) (copies n x') rx (copies_kept n x x' rx)

  -- ---- selects

  bit_kept : (x x' : List Tern) (a b : ℕ) → AllZip R x x' → R (bit_less x a b) (bit_less x' a b)
  unfolding bit_less
  bit_kept x x' a b rx = elim (nat_le b a) as (λ t. R (if t then get_or x (a - b) Zero else Zero) (if t then get_or x' (a - b) Zero else Zero)) [ true ↦ get_kept (a - b) x x' rx | false ↦ k.low ]

  part_bit_kept : (r : Bounds) (x x' : List Tern) (j : Whole) (t : ℕ) → AllZip R x x' → R (part_bit r x j t) (part_bit r x' j t)
  unfolding part_bit
  part_bit_kept r x x' j t rx =
      elim (is_down r) as (λ d. R (if d then (if j.negative then bit_less x t (r.lsb + j.magnitude) else bit_less x (j.magnitude + t) r.lsb) else (if j.negative then bit_less x (r.lsb + t + j.magnitude) 0 else bit_less x (r.lsb + t) j.magnitude)) (if d then (if j.negative then bit_less x' t (r.lsb + j.magnitude) else bit_less x' (j.magnitude + t) r.lsb) else (if j.negative then bit_less x' (r.lsb + t + j.magnitude) 0 else bit_less x' (r.lsb + t) j.magnitude))) [
        | true ↦ elim j.negative as (λ n. R (if n then bit_less x t (r.lsb + j.magnitude) else bit_less x (j.magnitude + t) r.lsb) (if n then bit_less x' t (r.lsb + j.magnitude) else bit_less x' (j.magnitude + t) r.lsb)) [ true ↦ bit_kept x x' t (r.lsb + j.magnitude) rx | false ↦ bit_kept x x' (j.magnitude + t) r.lsb rx ]
        | false ↦ elim j.negative as (λ n. R (if n then bit_less x (r.lsb + t + j.magnitude) 0 else bit_less x (r.lsb + t) j.magnitude) (if n then bit_less x' (r.lsb + t + j.magnitude) 0 else bit_less x' (r.lsb + t) j.magnitude)) [ true ↦ bit_kept x x' (r.lsb + t + j.magnitude) 0 rx | false ↦ bit_kept x x' (r.lsb + t) j.magnitude rx ]
      ]

  pub part_kept : (r : Bounds) (x x' : List Tern) (j : Whole) (t n : ℕ) → AllZip R x x' → AllZip R (part_from r x j t n) (part_from r x' j t n)
  unfolding part_from
  part_kept r x x' j t zero rx = tt
  part_kept r x x' j t (suc n) rx = (part_bit_kept r x x' j t rx, part_kept r x x' j (t + 1) n rx)

  hit_kept : (how : Part) (r : Bounds) (n : ℕ) (s : Shape) (e e' : List Tern) (i : ℕ) → AllZip R e e' → R (hit how r n s e i) (hit how r n s e' i)
  unfolding hit
  hit_kept how r n s e e' i re =
      let at = start_of how r n i in
      elim (can_be s at) as (λ t. R (if t then eq_of e (start_word s.width at) else Zero) (if t then eq_of e' (start_word s.width at) else Zero)) [
        | true ↦ eq_kept R k e e' (start_word s.width at) (start_word s.width at) re (start_word_kept s.width at)
        | false ↦ k.low
      ]

  hits_kept : (how : Part) (r : Bounds) (n : ℕ) (s : Shape) (e e' : List Tern) (i m : ℕ) → AllZip R e e' → AllZip R (hits_from how r n s e i m) (hits_from how r n s e' i m)
  unfolding hits_from
  hits_kept how r n s e e' i zero re = tt
  hits_kept how r n s e e' i (suc m) re = (hit_kept how r n s e e' i re, hits_kept how r n s e e' (i + 1) m re)

  reached_kept : (r : Bounds) (x x' : List Tern) (n i j : ℕ) → AllZip R x x' → R (reached r x n i j) (reached r x' n i j)
  unfolding reached
  reached_kept r x x' n i j rx =
      elim (is_down r) as (λ d. R (if d then bit_less x (i + j) (n - 1) else bit_less x (width_of r + j) (i + 1)) (if d then bit_less x' (i + j) (n - 1) else bit_less x' (width_of r + j) (i + 1))) [
        | true ↦ bit_kept x x' (i + j) (n - 1) rx
        | false ↦ bit_kept x x' (width_of r + j) (i + 1) rx
      ]

  picked_bit_kept : (h h' : List Tern) (r : Bounds) (x x' : List Tern) (n i j : ℕ) → AllZip R h h' → AllZip R x x' → R (picked_bit h r x n i j) (picked_bit h' r x' n i j)
  unfolding picked_bit
  picked_bit_kept [] [] r x x' n i j rh rx = k.low
  picked_bit_kept [] (b' ∷ h') r x x' n i j rh rx = absurd rh
  picked_bit_kept (b ∷ h) [] r x x' n i j rh rx = absurd rh
  picked_bit_kept (b ∷ h) (b' ∷ h') r x x' n i j rh rx =
      k.disjunction _ _ _ _ (k.conjunction _ _ _ _ rh.0 (reached_kept r x x' n i j rx)) (picked_bit_kept h h' r x x' n (i + 1) j rh.1 rx)

  picked_from_kept : (h h' : List Tern) (r : Bounds) (x x' : List Tern) (n j m : ℕ) → AllZip R h h' → AllZip R x x' → AllZip R (picked_from h r x n j m) (picked_from h' r x' n j m)
  unfolding picked_from
  picked_from_kept h h' r x x' n j zero rh rx = tt
  picked_from_kept h h' r x x' n j (suc m) rh rx = (picked_bit_kept h h' r x x' n 0 j rh rx, picked_from_kept h h' r x x' n (j + 1) m rh rx)

  pub picked_kept : (how : Part) (r : Bounds) (n : ℕ) (s : Shape) (x x' e e' : List Tern) → AllZip R x x' → AllZip R e e' → AllZip R (picked_from (hits_from how r n s e 0 (starts r n)) r x n 0 n) (picked_from (hits_from how r n s e' 0 (starts r n)) r x' n 0 n)
  picked_kept how r n s x x' e e' rx re = picked_from_kept _ _ r x x' n 0 n (hits_kept how r n s e e' 0 (starts r n) re) rx

-- Values of bits, changed and put back.
use Rattle.std.proofs.Common.{◌≡◌, ℕ, zero, suc, ◌+◌, ◌<◌, ◌≤◌, ◌==◌, ◌||◌, Bool, true, false, if◌then◌else◌, inl, inr, List, [], ◌∷◌, ◌++◌, length, replicate, map, drop, get_or, set, refl, sym, ap, subst, ◌∙◌, arith, eq-eqb, ne_eqb}
use Rattle.std.proofs.lemmas.List.{drop_all, drop_more, length-set, get_or-set_same, get_or-set_other, get_or_past, set_past, ext_get_or}
use Rattle.std.proofs.lemmas.Bool.{eqb-true, cases_lt}
use Rattle.rdc_tern.specs.declared.value.Tern.{Tern}
use Rattle.rdc_tern.specs.declared.value.Tern.TheVariants.{Zero, One, Unsettled}
use Rattle.rdc_tern.specs.Kleene.{mux_of}
use Rattle.rdc_tern.specs.Shifts.{select_of}
use Rattle.design_form.specs.State.{value_at}
use Rattle.proc_values.specs.declared.stroke.Stroke.{Stroke}
use Rattle.proc_values.specs.Runs.{Run, is_among, put, struck, mixed_from, mixed, chosen, values_of}
use Rattle.proc_values.specs.Marks.{AreMarks, StaysOutside, Moves, IsSide, scattered}

-- ---- among

pub among_cons : (b : ℕ) (bits : List ℕ) (n : ℕ) → is_among (b ∷ bits) n ≡ ((n == b) || is_among bits n)
unfolding is_among
among_cons b bits n = refl

among_first : (b : ℕ) (bits : List ℕ) → is_among (b ∷ bits) b ≡ true
among_first b bits = among_cons b bits b ∙ ap (λ (t : Bool). t || is_among bits b) (eq-eqb b b refl)

or_right : (a b : Bool) → b ≡ true → (a || b) ≡ true
or_right true b h = refl
or_right false b h = h

among_later : (b : ℕ) (bits : List ℕ) (n : ℕ) → is_among bits n ≡ true → is_among (b ∷ bits) n ≡ true
among_later b bits n h = among_cons b bits n ∙ or_right (n == b) (is_among bits n) h

-- ---- moves

pub moves_not : (bits : List ℕ) (a : List Tern) → Moves bits a a
moves_not bits a = record { long = refl; outside = λ n out. refl }

pub moves_on : (bits : List ℕ) (a b c : List Tern) → Moves bits a b → Moves bits b c → Moves bits a c
moves_on bits a b c ab bc = record { long = bc.long ∙ ab.long; outside = λ n out. ab.outside n out ∙ bc.outside n out }

true_not_false : true ≡ false → ⊥
true_not_false h = absurd (cc)

-- one bit of these
pub moves_set : (bits : List ℕ) (s : List Tern) (n : ℕ) (v : Tern) → is_among bits n ≡ true → Moves bits s (set s n v)
moves_set bits s n v in_bits = record {
  long = length-set s n v;
  outside = λ m out. sym (get_or-set_other s n m v Unsettled (λ same. true_not_false (sym in_bits ∙ ap (is_among bits) (sym same) ∙ out)));
}

pub put_among : (bits : List ℕ) (s : List Tern) (n : ℕ) (v : Tern) → is_among bits n ≡ true → put bits s n v ≡ set s n v
unfolding put
put_among bits s n v h = rw h refl

pub put_other : (bits : List ℕ) (s : List Tern) (n : ℕ) (v : Tern) → is_among bits n ≡ false → put bits s n v ≡ s
unfolding put
put_other bits s n v h = rw h refl

pub put_past : (bits : List ℕ) (s : List Tern) (n : ℕ) (v : Tern) → length s ≤ n → put bits s n v ≡ s
unfolding put
put_past bits s n v past = by (is_among bits n)
  where
    by : (t : Bool) → (if t then set s n v else s) ≡ s
    by true = set_past s n v past
    by false = refl

pub struck_more : (bits : List ℕ) (ks : List Stroke) (s after whole : List Tern) (i : ℕ) (k : Stroke) → i < length ks → after ≡ put bits s (get_or ks i k).bit (mux_of (get_or ks i k).hit (get_or ks i k).value (value_at s (get_or ks i k).bit))
    → struck bits (drop i ks) s ≡ whole → struck bits (drop (i + 1) ks) after ≡ whole
unfolding struck
struck_more bits ks s after whole i k lt put left = ap (struck bits (drop (i + 1) ks)) put ∙ ap (λ (l : List Stroke). struck bits l s) (sym (drop_more ks i k lt)) ∙ left

pub struck_end : (bits : List ℕ) (ks : List Stroke) (s whole : List Tern) (i : ℕ) → length ks ≤ i → struck bits (drop i ks) s ≡ whole → s ≡ whole
unfolding struck
struck_end bits ks s whole i past left = ap (λ (l : List Stroke). struck bits l s) (sym (drop_all i ks past)) ∙ left

-- ---- values put back

pub scattered_more : (bits : List ℕ) (vs s whole : List Tern) (i e : ℕ) (d : Tern) → i < length bits → i < length vs → scattered (drop i bits) (drop i vs) s ≡ whole
    → scattered (drop (i + 1) bits) (drop (i + 1) vs) (set s (get_or bits i e) (get_or vs i d)) ≡ whole
unfolding scattered
scattered_more bits vs s whole i e d in_bits in_vs left = (λ k. scattered (sym (drop_more bits i e in_bits) k) (sym (drop_more vs i d in_vs) k) s) ∙ left

pub scattered_end : (bits : List ℕ) (vs s whole : List Tern) (i : ℕ) → length bits ≤ i → scattered (drop i bits) (drop i vs) s ≡ whole → s ≡ whole
unfolding scattered
scattered_end bits vs s whole i past left = ap (λ (l : List ℕ). scattered l (drop i vs) s) (sym (drop_all i bits past)) ∙ left

-- a bit put back
set_back : (b : ℕ) (bits : List ℕ) (r s : List Tern) → length r ≡ length s → ((n : ℕ) → is_among (b ∷ bits) n ≡ false → value_at r n ≡ value_at s n)
    → (n : ℕ) → is_among bits n ≡ false → value_at r n ≡ value_at (set s b (value_at r b)) n
set_back b bits r s long same n out = by (n == b) refl
  where
    at_b : n ≡ b → value_at r n ≡ value_at (set s b (value_at r b)) n
    at_b e = elim (cases_lt b (length s)) [
      | inl inside ↦ ap (value_at r) e ∙ sym (get_or-set_same s b (value_at r b) Unsettled inside) ∙ ap (value_at (set s b (value_at r b))) (sym e)
      | inr past ↦ get_or_past r n Unsettled (omega (arith, long, past, e)) ∙ sym (get_or_past (set s b (value_at r b)) n Unsettled (omega (arith, length-set s b (value_at r b), past, e)))
    ]

    by : (t : Bool) → (n == b) ≡ t → value_at r n ≡ value_at (set s b (value_at r b)) n
    by true e = at_b (eqb-true n b e)
    by false e = same n (among_cons b bits n ∙ (λ k. e k || out k)) ∙ sym (get_or-set_other s b n (value_at r b) Unsettled (λ h. true_not_false (sym (eq-eqb n b h) ∙ e)))

nothing_among : (n : ℕ) → is_among [] n ≡ false
unfolding is_among
nothing_among n = refl

pub back : (bits : List ℕ) (r s : List Tern) → length r ≡ length s → ((n : ℕ) → is_among bits n ≡ false → value_at r n ≡ value_at s n) → scattered bits (values_of r bits) s ≡ r
unfolding scattered
back [] r s long same = ext_get_or Unsettled s r (sym long) (λ i lt. sym (same i (nothing_among i)))
back (b ∷ bits) r s long same = back bits r (set s b (value_at r b)) (long ∙ sym (length-set s b (value_at r b))) (set_back b bits r s long same)

-- what is put back over what a side left
pub restored : (bits : List ℕ) (r s : List Tern) → Moves bits r s → scattered bits (values_of r bits) s ≡ r
restored bits r s moves = back bits r s (sym moves.long) moves.outside

-- what a side left is put over what was there
pub placed : (bits : List ℕ) (r s : List Tern) → Moves bits r s → scattered bits (values_of s bits) r ≡ s
placed bits r s moves = back bits s r moves.long (λ n out. sym (moves.outside n out))

-- ---- mixed

mux_nothing : (c : Tern) → mux_of c Unsettled Unsettled ≡ Unsettled
mux_nothing Zero = refl
mux_nothing One = refl
mux_nothing Unsettled = refl

mixed_in : (bits : List ℕ) (c : Tern) (k : ℕ) (ys ns : List Tern) (b : ℕ) → length ys ≡ length ns → is_among bits (k + b) ≡ true → value_at (mixed_from bits c k ys ns) b ≡ mux_of c (value_at ys b) (value_at ns b)
unfolding mixed_from
mixed_in bits c k [] [] b long h = sym (mux_nothing c)
mixed_in bits c k [] (n ∷ ns) b long h = absurd (omega (arith, long))
mixed_in bits c k (y ∷ ys) [] b long h = absurd (omega (arith, long))
mixed_in bits c k (y ∷ ys) (n ∷ ns) zero long h = ap (λ (t : Bool). if t then mux_of c y n else n) (ap (is_among bits) (omega arith) ∙ h)
mixed_in bits c k (y ∷ ys) (n ∷ ns) (suc b) long h = mixed_in bits c (k + 1) ys ns b (omega (arith, long)) (ap (is_among bits) (omega arith) ∙ h)

mixed_out : (bits : List ℕ) (c : Tern) (k : ℕ) (ys ns : List Tern) (b : ℕ) → is_among bits (k + b) ≡ false → value_at (mixed_from bits c k ys ns) b ≡ value_at ns b
unfolding mixed_from
mixed_out bits c k [] [] b h = refl
mixed_out bits c k [] (n ∷ ns) b h = refl
mixed_out bits c k (y ∷ ys) [] b h = refl
mixed_out bits c k (y ∷ ys) (n ∷ ns) zero h = ap (λ (t : Bool). if t then mux_of c y n else n) (ap (is_among bits) (omega arith) ∙ h)
mixed_out bits c k (y ∷ ys) (n ∷ ns) (suc b) h = mixed_out bits c (k + 1) ys ns b (ap (is_among bits) (omega arith) ∙ h)

length-mixed : (bits : List ℕ) (c : Tern) (k : ℕ) (ys ns : List Tern) → length (mixed_from bits c k ys ns) ≡ length ns
unfolding mixed_from
length-mixed bits c k [] [] = refl
length-mixed bits c k [] (n ∷ ns) = refl
length-mixed bits c k (y ∷ ys) [] = refl
length-mixed bits c k (y ∷ ys) (n ∷ ns) = ap suc (length-mixed bits c (k + 1) ys ns)

mixed_some : (all bits : List ℕ) (c : Tern) (ys ns : List Tern) → length ys ≡ length ns → ((n : ℕ) → is_among bits n ≡ true → is_among all n ≡ true)
    → select_of c (values_of ys bits) (values_of ns bits) ≡ values_of (mixed all c ys ns) bits
mixed_some all [] c ys ns long inside = refl
mixed_some all (b ∷ bits) c ys ns long inside =
    (λ k. sym (mixed_in all c 0 ys ns b long (ap (is_among all) (omega arith) ∙ inside b (among_first b bits))) k ∷ mixed_some all bits c ys ns long (λ n h. inside n (among_later b bits n h)) k)

-- the values of these bits are mixed one by one
pub mixed_values : (bits : List ℕ) (c : Tern) (ys ns : List Tern) → length ys ≡ length ns → select_of c (values_of ys bits) (values_of ns bits) ≡ values_of (mixed bits c ys ns) bits
mixed_values bits c ys ns long = mixed_some bits bits c ys ns long (λ n h. h)

pub mixed_moves : (bits : List ℕ) (c : Tern) (r ys ns : List Tern) → Moves bits r ns → Moves bits r (mixed bits c ys ns)
mixed_moves bits c r ys ns moves = record {
  long = length-mixed bits c 0 ys ns ∙ moves.long;
  outside = λ n out. moves.outside n out ∙ sym (mixed_out bits c 0 ys ns n (ap (is_among bits) (omega arith) ∙ out));
}

-- two sides, mixed
pub chosen_side : (reads bits : List ℕ) (r yes_out no_out : Run) (c : Tern) (a b x y now next : List Tern) → IsSide reads bits r yes_out a b → IsSide reads bits r no_out x y → now ≡ select_of c a x → next ≡ select_of c b y
    → IsSide reads bits r (chosen reads bits c yes_out no_out) now next
chosen_side reads bits r one other c a b x y now next first second now-is next-is = record {
  now_is = now-is ∙ (λ k. select_of c (first.now_is k) (second.now_is k)) ∙ mixed_values reads c one.now other.now (first.now_moves.long ∙ sym second.now_moves.long);
  next_is = next-is ∙ (λ k. select_of c (first.next_is k) (second.next_is k)) ∙ mixed_values bits c one.next other.next (first.next_moves.long ∙ sym second.next_moves.long);
  now_moves = mixed_moves reads c r.now one.now other.now second.now_moves;
  next_moves = mixed_moves bits c r.next one.next other.next second.next_moves;
}

-- ---- marks

or_true : (a : Bool) → (a || true) ≡ true
or_true true = refl
or_true false = refl

or_false : (a : Bool) → (a || false) ≡ a
or_false true = refl
or_false false = refl

marks_here : (marks : List Bool) (b n : ℕ) (bits : List ℕ) → n < length marks → (get_or (set marks b true) n false || is_among bits n) ≡ (get_or marks n false || is_among (b ∷ bits) n)
marks_here marks b n bits lt = by (n == b) refl
  where
    by : (t : Bool) → (n == b) ≡ t → (get_or (set marks b true) n false || is_among bits n) ≡ (get_or marks n false || is_among (b ∷ bits) n)
    by true e =
        let same : n ≡ b = eqb-true n b e in
        let inside : b < length marks = omega (arith, same, lt) in
        ap (λ (t : Bool). t || is_among bits n) (ap (λ (m : ℕ). get_or (set marks b true) m false) same ∙ get_or-set_same marks b true false inside)
        ∙ sym (ap (λ (t : Bool). get_or marks n false || t) (among_cons b bits n ∙ ap (λ (t : Bool). t || is_among bits n) e) ∙ or_true (get_or marks n false))
    by false e =
        ap (λ (t : Bool). t || is_among bits n) (get_or-set_other marks b n true false (λ h. true_not_false (sym (eq-eqb n b h) ∙ e)))
        ∙ sym (ap (λ (t : Bool). get_or marks n false || t) (among_cons b bits n ∙ ap (λ (t : Bool). t || is_among bits n) e))

pub marks_more : (bits : List ℕ) (marks : List Bool) (i e n : ℕ) → i < length bits → n < length marks → (get_or marks n false || is_among (drop i bits) n) ≡ is_among bits n
    → (get_or (set marks (get_or bits i e) true) n false || is_among (drop (i + 1) bits) n) ≡ is_among bits n
marks_more bits marks i e n lt inside h =
    marks_here marks (get_or bits i e) n (drop (i + 1) bits) inside ∙ ap (λ (l : List ℕ). get_or marks n false || is_among l n) (sym (drop_more bits i e lt)) ∙ h

pub marks_end : (bits : List ℕ) (marks : List Bool) (i n : ℕ) → length bits ≤ i → (get_or marks n false || is_among (drop i bits) n) ≡ is_among bits n → get_or marks n false ≡ is_among bits n
marks_end bits marks i n past h =
    sym (or_false (get_or marks n false)) ∙ ap (λ (t : Bool). get_or marks n false || t) (sym (nothing_among n)) ∙ ap (λ (l : List ℕ). get_or marks n false || is_among l n) (sym (drop_all i bits past)) ∙ h

pub marks_begin : (bits : List ℕ) (count n : ℕ) → (get_or (replicate count false) n false || is_among bits n) ≡ is_among bits n
marks_begin bits count n = ap (λ (t : Bool). t || is_among bits n) (all_false count n)
  where
    all_false : (count n : ℕ) → get_or (replicate count false) n false ≡ false
    all_false zero n = refl
    all_false (suc count) zero = refl
    all_false (suc count) (suc n) = all_false count n

pub marked_among : (bits : List ℕ) (marks : List Bool) (n : ℕ) → AreMarks bits marks → get_or marks n false ≡ true → is_among bits n ≡ true
marked_among bits marks n are h = elim (cases_lt n (length marks)) [
  | inl inside ↦ sym (are n inside) ∙ h
  | inr past ↦ absurd (true_not_false (sym h ∙ get_or_past marks n false past))
]

pub not_marked : (bits : List ℕ) (marks : List Bool) (s : List Tern) (n : ℕ) (v : Tern) → AreMarks bits marks → length s ≡ length marks → get_or marks n false ≡ false → put bits s n v ≡ s
not_marked bits marks s n v are long h = elim (cases_lt n (length marks)) [
  | inl inside ↦ put_other bits s n v (sym (are n inside) ∙ h)
  | inr past ↦ put_past bits s n v (omega (arith, long, past))
]

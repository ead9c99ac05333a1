-- Selects bit by bit: what is left after each step, and bits far away.
use Rattle.std.proofs.Common.{◌≡◌, ℕ, zero, suc, ◌+◌, ◌-◌, ◌<◌, ◌≤◌, List, [], ◌∷◌, length, drop, get_or, refl, sym, ap, ◌∙◌, add-one, arith}
use Rattle.std.proofs.Math.Seq.{drop-cons}
use Rattle.std.proofs.lemmas.List.{drop_all, drop_more}
use Rattle.vlog_tree.specs.declared.expr.Part.{Part}
use Rattle.rdc_tern.specs.declared.value.Tern.{Tern}
use Rattle.rdc_tern.specs.declared.value.Tern.TheVariants.{One}
use Rattle.rdc_tern.specs.Kleene.{or_of, and_of, not_of, xor_of}
use Rattle.rdc_tern.specs.Words.{eq_of}
use Rattle.rdc_tern.proofs.GateLemmas.{or_assoc, or_zero, and_assoc, and_one}
use Rattle.vlog_const.specs.declared.shape.Shape.{Shape}
use Rattle.vlog_const.specs.declared.whole.Whole.{Whole}
use Rattle.design_form.specs.declared.signal.Bounds.{Bounds}
use Rattle.design_form.specs.declared.start.Start.{Start}
use Rattle.design_form.specs.declared.start.Start.TheVariants.{From, Below}
use Rattle.design_form.specs.Bits.{bits, start_word, start_bit, start_rest}
use Rattle.design_form.specs.Selects.{part_bit, part_from, hit, hits_from, reached, picked_bit, picked_from}

pub part-more : (r : Bounds) (w : List Tern) (j : Whole) (t n : ℕ) → t < n → part_from r w j t (n - t) ≡ part_bit r w j t ∷ part_from r w j (t + 1) (n - (t + 1))
unfolding part_from
part-more r w j t n h =
    let e : n - t ≡ suc (n - (t + 1)) = omega arith in
    ap (part_from r w j t) e

pub part-end : (r : Bounds) (w : List Tern) (j : Whole) (t n : ℕ) → n ≤ t → part_from r w j t (n - t) ≡ []
unfolding part_from
part-end r w j t n h =
    let e : n - t ≡ zero = omega arith in
    ap (part_from r w j t) e

pub hits-more : (how : Part) (r : Bounds) (n : ℕ) (s : Shape) (e : List Tern) (i m : ℕ) → i < m → hits_from how r n s e i (m - i) ≡ hit how r n s e i ∷ hits_from how r n s e (i + 1) (m - (i + 1))
unfolding hits_from
hits-more how r n s e i m h =
    let f : m - i ≡ suc (m - (i + 1)) = omega arith in
    ap (hits_from how r n s e i) f

pub hits-end : (how : Part) (r : Bounds) (n : ℕ) (s : Shape) (e : List Tern) (i m : ℕ) → m ≤ i → hits_from how r n s e i (m - i) ≡ []
unfolding hits_from
hits-end how r n s e i m h =
    let f : m - i ≡ zero = omega arith in
    ap (hits_from how r n s e i) f

pub length-hits : (how : Part) (r : Bounds) (n : ℕ) (s : Shape) (e : List Tern) (i k : ℕ) → length (hits_from how r n s e i k) ≡ k
unfolding hits_from
length-hits how r n s e i zero = refl
length-hits how r n s e i (suc k) = ap suc (length-hits how r n s e (i + 1) k)

pub picked-more : (hits : List Tern) (r : Bounds) (w : List Tern) (n j m : ℕ) → j < m → picked_from hits r w n j (m - j) ≡ picked_bit hits r w n 0 j ∷ picked_from hits r w n (j + 1) (m - (j + 1))
unfolding picked_from
picked-more hits r w n j m h =
    let e : m - j ≡ suc (m - (j + 1)) = omega arith in
    ap (picked_from hits r w n j) e

pub picked-end : (hits : List Tern) (r : Bounds) (w : List Tern) (n j m : ℕ) → m ≤ j → picked_from hits r w n j (m - j) ≡ []
unfolding picked_from
picked-end hits r w n j m h =
    let e : m - j ≡ zero = omega arith in
    ap (picked_from hits r w n j) e

pub picked_bit-more : (hits : List Tern) (r : Bounds) (w : List Tern) (n i j : ℕ) (d : Tern) → i < length hits → picked_bit (drop i hits) r w n i j ≡ or_of (and_of (get_or hits i d) (reached r w n i j)) (picked_bit (drop (i + 1) hits) r w n (i + 1) j)
unfolding picked_bit
picked_bit-more hits r w n i j d h = rw (drop-cons hits i d h, add-one) refl

-- one start more
pub found-more : (found : Tern) (hits : List Tern) (r : Bounds) (w : List Tern) (n i j : ℕ) (d whole : Tern) → i < length hits → or_of found (picked_bit (drop i hits) r w n i j) ≡ whole
    → or_of (or_of found (and_of (get_or hits i d) (reached r w n i j))) (picked_bit (drop (i + 1) hits) r w n (i + 1) j) ≡ whole
found-more found hits r w n i j d whole lt h =
    or_assoc found (and_of (get_or hits i d) (reached r w n i j)) (picked_bit (drop (i + 1) hits) r w n (i + 1) j)
    ∙ ap (or_of found) (sym (picked_bit-more hits r w n i j d lt)) ∙ h

pub nothing_left : (found : Tern) (hits : List Tern) (r : Bounds) (w : List Tern) (n i j : ℕ) → length hits ≤ 0 → or_of found (picked_bit hits r w n i j) ≡ found
unfolding picked_bit
nothing_left found [] r w n i j h = or_zero found
nothing_left found (a ∷ hits) r w n i j h = absurd (omega arith)

-- ---- an index beside a start, bit by bit

start_word-more : (w : ℕ) (s : Start) → start_word (suc w) s ≡ start_bit s ∷ start_word w (start_rest s)
unfolding start_word start_bit start_rest bits
start_word-more w (From n) = refl
start_word-more w (Below n) = refl

-- one bit more
pub equal-more : (so_far : Tern) (x : List Tern) (s : Start) (i : ℕ) (d whole : Tern) → i < length x → and_of so_far (eq_of (drop i x) (start_word (length x - i) s)) ≡ whole
    → and_of (and_of so_far (not_of (xor_of (get_or x i d) (start_bit s)))) (eq_of (drop (i + 1) x) (start_word (length x - (i + 1)) (start_rest s))) ≡ whole
equal-more so_far x s i d whole lt h =
    let e : length x - i ≡ suc (length x - (i + 1)) = omega arith in
    let word : start_word (length x - i) s ≡ start_bit s ∷ start_word (length x - (i + 1)) (start_rest s) = ap (λ (k : ℕ). start_word k s) e ∙ start_word-more (length x - (i + 1)) s in
    and_assoc so_far (not_of (xor_of (get_or x i d) (start_bit s))) _ ∙ (rw (drop_more x i d lt, word) at h)

pub equal-end : (so_far : Tern) (x : List Tern) (s : Start) (i : ℕ) (whole : Tern) → length x ≤ i → and_of so_far (eq_of (drop i x) (start_word (length x - i) s)) ≡ whole → so_far ≡ whole
equal-end so_far x s i whole le h = sym (and_one so_far) ∙ (rw (drop_all i x le) at h)

pub ruleset select_steps = (part-more, part-end, hits-more, hits-end, picked-more, picked-end)

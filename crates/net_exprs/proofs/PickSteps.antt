-- Serves src/selects.rt and src/picks.rt: one bit more of a select, and nodes that are there.
use Rattle.std.proofs.Common.{◌≡◌, ℕ, zero, suc, ◌+◌, ◌-◌, ◌<◌, ◌≤◌, Bool, true, false, nat_le, if◌then◌else◌, List, [], ◌∷◌, ◌++◌, All, length, drop, get_or, Option, Some, None, IfSome, slice_get, refl, sym, ap, subst, ◌∙◌, add-one, drop-cons, append-nil, arith, lt_of_lt_of_le}
use Rattle.std.proofs.lemmas.List.{drop_all}
use Rattle.std.proofs.lemmas.List.Elements.{All-head, All-tail, All-push}
use Rattle.vlog_tree.specs.declared.expr.Part.{Part}
use Rattle.vlog_const.specs.declared.shape.Shape.{Shape}
use Rattle.vlog_const.specs.declared.whole.Whole.{Whole}
use Rattle.design_form.specs.declared.signal.Bounds.{Bounds}
use Rattle.design_form.specs.Signals.{is_down, width_of}
use Rattle.net_view.specs.View.{Numbered}
use Rattle.net_view.specs.declared.gate.Gate.TheVariants.{And}
use Rattle.rdc_tern.specs.declared.value.Tern.{Tern}
use Rattle.design_form.specs.Bits.{can_be, start_word}
use Rattle.design_form.specs.Selects.{start_of}
use Rattle.net_words.specs.Builds.{Built, Build, onward, ◌>>=◌, return, put}
use Rattle.net_words.proofs.BuildLemmas.{IsLeft, all_left, begins_itself}
use Rattle.net_exprs.specs.Selects.{bit_at, node_or_0, part_bit, part_from, equals, hit_if, hit, hits_from, reached, term, with_term, terms, picked_bit, picked_from}
use Rattle.net_exprs.specs.Starts.{AreMaybe}
use Rattle.net_exprs.proofs.Rows.{ahead, piece_first, all_items}

-- ---- steps

left_more : (m i : ℕ) → i < m → m - i ≡ suc (m - (i + 1))
left_more m i less = omega (arith, less)

left_none : (m i : ℕ) → m ≤ i → m - i ≡ zero
left_none m i past = omega (arith, past)

pub part_here : {all : Build (List ℕ)} {old now : List Numbered} (r : Bounds) (w : List ℕ) (j : Whole) (t n : ℕ) (made : List ℕ) → t < n
    → IsLeft all old now (ahead made (part_from r w j t (n - t))) → IsLeft all old now (node_or_0 (part_bit r w j t) >>= (λ b. ahead (made ++ b ∷ []) (part_from r w j (t + 1) (n - (t + 1)))))
unfolding part_from
part_here {all} {old} {now} r w j t n made less left =
    piece_first made (node_or_0 (part_bit r w j t)) (λ b. b ∷ []) (λ b. part_from r w j (t + 1) (n - (t + 1)))
    (subst (λ (k : ℕ). IsLeft all old now (ahead made (part_from r w j t k))) (left_more n t less) left)

pub part_whole : {all : Build (List ℕ)} {old now : List Numbered} (r : Bounds) (w : List ℕ) (j : Whole) (t n : ℕ) (made : List ℕ) → n ≤ t
    → IsLeft all old now (ahead made (part_from r w j t (n - t))) → IsLeft all old now (return made)
unfolding part_from
part_whole {all} {old} {now} r w j t n made past left = all_items made (subst (λ (k : ℕ). IsLeft all old now (ahead made (part_from r w j t k))) (left_none n t past) left)

pub hits_here : {all : Build (List (Option ℕ))} {old now : List Numbered} (how : Part) (r : Bounds) (n : ℕ) (s : Shape) (e : List ℕ) (i m : ℕ) (made : List (Option ℕ)) → i < m
    → IsLeft all old now (ahead made (hits_from how r n s e i (m - i))) → IsLeft all old now (hit how r n s e i >>= (λ h. ahead (made ++ h ∷ []) (hits_from how r n s e (i + 1) (m - (i + 1)))))
unfolding hits_from
hits_here {all} {old} {now} how r n s e i m made less left =
    piece_first made (hit how r n s e i) (λ h. h ∷ []) (λ h. hits_from how r n s e (i + 1) (m - (i + 1)))
    (subst (λ (k : ℕ). IsLeft all old now (ahead made (hits_from how r n s e i k))) (left_more m i less) left)

pub hits_whole : {all : Build (List (Option ℕ))} {old now : List Numbered} (how : Part) (r : Bounds) (n : ℕ) (s : Shape) (e : List ℕ) (i m : ℕ) (made : List (Option ℕ)) → m ≤ i
    → IsLeft all old now (ahead made (hits_from how r n s e i (m - i))) → IsLeft all old now (return made)
unfolding hits_from
hits_whole {all} {old} {now} how r n s e i m made past left = all_items made (subst (λ (k : ℕ). IsLeft all old now (ahead made (hits_from how r n s e i k))) (left_none m i past) left)

pub picked_here : {all : Build (List ℕ)} {old now : List Numbered} (hits : List (Option ℕ)) (r : Bounds) (w : List ℕ) (n j m : ℕ) (made : List ℕ) → j < m
    → IsLeft all old now (ahead made (picked_from hits r w n j (m - j))) → IsLeft all old now (picked_bit hits r w n j >>= (λ b. ahead (made ++ b ∷ []) (picked_from hits r w n (j + 1) (m - (j + 1)))))
unfolding picked_from
picked_here {all} {old} {now} hits r w n j m made less left =
    piece_first made (picked_bit hits r w n j) (λ b. b ∷ []) (λ b. picked_from hits r w n (j + 1) (m - (j + 1)))
    (subst (λ (k : ℕ). IsLeft all old now (ahead made (picked_from hits r w n j k))) (left_more m j less) left)

pub picked_whole : {all : Build (List ℕ)} {old now : List Numbered} (hits : List (Option ℕ)) (r : Bounds) (w : List ℕ) (n j m : ℕ) (made : List ℕ) → m ≤ j
    → IsLeft all old now (ahead made (picked_from hits r w n j (m - j))) → IsLeft all old now (return made)
unfolding picked_from
picked_whole {all} {old} {now} hits r w n j m made past left = all_items made (subst (λ (k : ℕ). IsLeft all old now (ahead made (picked_from hits r w n j k))) (left_none m j past) left)

passed_on : {X Y Z : Type 0} (f : X → Y) (k : Y → Build Z) (o : Option (Built X))
    → onward (onward o (λ x gates. Some (record { gates = gates; made = f x }))) k ≡ onward o (λ x. k (f x))
passed_on f k None = refl
passed_on f k (Some built) = refl

returned : {X Y Z : Type 0} {all : Build Z} {old now : List Numbered} (b : Build X) (f : X → Y) (k : Y → Build Z)
    → IsLeft all old now (b >>= (λ x. k (f x))) → IsLeft all old now ((b >>= (λ x. return (f x))) >>= k)
unfolding ◌>>=◌ return
returned {now = now} b f k is = record { front = is.front; left = passed_on f k (b now) ∙ is.left }

pub terms_here : {all : Build (List ℕ)} {old now : List Numbered} (hits : List (Option ℕ)) (r : Bounds) (w : List ℕ) (n i j : ℕ) (h : Option ℕ) (made : List ℕ) → i < length hits → h ≡ get_or hits i h
    → IsLeft all old now (ahead made (terms (drop i hits) r w n i j))
    → IsLeft all old now (with_term made h (reached r w n i j) >>= (λ found. ahead found (terms (drop (i + 1) hits) r w n (i + 1) j)))
unfolding terms with_term
terms_here {all} {old} {now} hits r w n i j h made inside is left =
    returned (term h (reached r w n i j)) (λ first. made ++ first) (λ found. ahead found (terms (drop (i + 1) hits) r w n (i + 1) j))
    (piece_first made (term h (reached r w n i j)) (λ first. first) (λ first. terms (drop (i + 1) hits) r w n (i + 1) j)
    (subst (λ (hs : List (Option ℕ)). IsLeft all old now (ahead made (terms hs r w n i j))) (drop-cons hits i h inside ∙ (λ k. sym is k ∷ drop (sym (add-one i) k) hits)) left))

pub terms_whole : {all : Build (List ℕ)} {old now : List Numbered} (hits : List (Option ℕ)) (r : Bounds) (w : List ℕ) (n i j : ℕ) (made : List ℕ) → length hits ≤ i
    → IsLeft all old now (ahead made (terms (drop i hits) r w n i j)) → IsLeft all old now (return made)
unfolding terms
terms_whole {all} {old} {now} hits r w n i j made past left = all_items made (subst (λ (hs : List (Option ℕ)). IsLeft all old now (ahead made (terms hs r w n i j))) (drop_all i hits past) left)

-- ---- nodes that are there

pub some_more : (h : Option ℕ) (a b : ℕ) → a ≤ b → IfSome h (λ n. n < a) → IfSome h (λ n. n < b)
some_more None a b longer inside = inside
some_more (Some n) a b longer inside = lt_of_lt_of_le inside longer

pub maybe_there : (old now : List Numbered) (hits : List (Option ℕ)) → AreMaybe old hits → length old ≤ length now → AreMaybe now hits
maybe_there old now hits there longer k d inside = some_more (get_or hits k d) (length old) (length now) longer (there k d inside)

pub hit_there : (old now : List Numbered) (hits : List (Option ℕ)) (i : ℕ) (h : Option ℕ) → AreMaybe old hits → length old ≤ length now → i < length hits → h ≡ get_or hits i h → IfSome h (λ n. n < length now)
hit_there old now hits i h there longer inside is = subst (λ (x : Option ℕ). IfSome x (λ n. n < length now)) (sym is) (maybe_there old now hits there longer i h inside)

pub one_maybe : (old new : List Numbered) (hits : List (Option ℕ)) (h : Option ℕ) → AreMaybe old hits → length old ≤ length new → IfSome h (λ n. n < length new) → AreMaybe new (hits ++ h ∷ [])
one_maybe old new hits h there longer inside = All-push (λ x. IfSome x (λ n. n < length new)) hits h (maybe_there old new hits there longer) inside

get_there : (w : List ℕ) (i k : ℕ) → All (λ n. n < k) w → IfSome (slice_get w i) (λ n. n < k)
get_there [] i k there = tt
get_there (a ∷ w) zero k there = All-head (λ n. n < k) a w there
get_there (a ∷ w) (suc i) k there = get_there w i k (All-tail (λ n. n < k) a w there)

if_there : (b : Bool) (x y : Option ℕ) (k : ℕ) → IfSome x (λ n. n < k) → IfSome y (λ n. n < k) → IfSome (if b then x else y) (λ n. n < k)
if_there true x y k one other = one
if_there false x y k one other = other

at_there : (w : List ℕ) (a b k : ℕ) → All (λ n. n < k) w → IfSome (bit_at w a b) (λ n. n < k)
at_there w a b k there = if_there (nat_le b a) (slice_get w (a - b)) None k (get_there w (a - b) k there) tt

pub part_bit_there : (r : Bounds) (w : List ℕ) (j : Whole) (t k : ℕ) → All (λ n. n < k) w → IfSome (part_bit r w j t) (λ n. n < k)
part_bit_there r w j t k there =
    if_there (is_down r) _ _ k
    (if_there j.negative _ _ k (at_there w t (r.lsb + j.magnitude) k there) (at_there w (j.magnitude + t) r.lsb k there))
    (if_there j.negative _ _ k (at_there w (r.lsb + t + j.magnitude) 0 k there) (at_there w (r.lsb + t) j.magnitude k there))

pub reached_there : (r : Bounds) (w : List ℕ) (n i j k : ℕ) → All (λ n. n < k) w → IfSome (reached r w n i j) (λ n. n < k)
reached_there r w n i j k there = if_there (is_down r) _ _ k (at_there w (i + j) (n - 1) k there) (at_there w (width_of r + j) (i + 1) k there)

-- ---- one start

pub hit_not : (net : List Numbered) (how : Part) (r : Bounds) (n : ℕ) (s : Shape) (e : List ℕ) (i : ℕ) → can_be s (start_of how r n i) ≡ false → IsLeft (hit how r n s e i) net net (return None)
unfolding hit_if
hit_not net how r n s e i not = subst (λ (b : Bool). IsLeft (hit_if b e (start_word s.width (start_of how r n i))) net net (return None)) (sym not) (all_left (return None) net)

pub hit_so : (net : List Numbered) (how : Part) (r : Bounds) (n : ℕ) (s : Shape) (e : List ℕ) (i : ℕ) (w : List Tern) → can_be s (start_of how r n i) ≡ true → start_word s.width (start_of how r n i) ≡ w
    → IsLeft (hit how r n s e i) net net (equals e w >>= (λ m. return (Some m)))
unfolding hit_if
hit_so net how r n s e i w so is =
    subst (λ (b : Bool). IsLeft (hit_if b e (start_word s.width (start_of how r n i))) net net (equals e w >>= (λ m. return (Some m)))) (sym so)
    (subst (λ (x : List Tern). IsLeft (equals e x >>= (λ m. return (Some m))) net net (equals e w >>= (λ m. return (Some m)))) (sym is) (all_left (equals e w >>= (λ m. return (Some m))) net))

-- ---- one term

pub term_not : (net : List Numbered) (found : List ℕ) (h b : Option ℕ) → (h ≡ None) → IsLeft (with_term found h b) net net (return found)
unfolding with_term term ◌>>=◌ return
term_not net found None b is = record { front = begins_itself net; left = ap (λ w. Some (record { gates = net; made = w })) (sym (append-nil found)) }
term_not net found (Some n) b is = absurd cc

pub term_none : (net : List Numbered) (found : List ℕ) (h b : Option ℕ) → (b ≡ None) → IsLeft (with_term found h b) net net (return found)
unfolding with_term term ◌>>=◌ return
term_none net found None b is = record { front = begins_itself net; left = ap (λ w. Some (record { gates = net; made = w })) (sym (append-nil found)) }
term_none net found (Some n) None is = record { front = begins_itself net; left = ap (λ w. Some (record { gates = net; made = w })) (sym (append-nil found)) }
term_none net found (Some n) (Some b) is = absurd cc

appended : (found : List ℕ) (o : Option (Built ℕ)) → onward o (λ n gates. Some (record { gates = gates; made = found ++ n ∷ [] })) ≡ onward (onward o (λ n gates. Some (record { gates = gates; made = n ∷ [] }))) (λ first gates. Some (record { gates = gates; made = found ++ first }))
appended found None = refl
appended found (Some built) = refl

pub term_so : (net : List Numbered) (found : List ℕ) (h b : Option ℕ) (n m : ℕ) → h ≡ Some n → b ≡ Some m → IsLeft (with_term found h b) net net (put (And n m) >>= (λ both. return (found ++ both ∷ [])))
unfolding with_term term ◌>>=◌ return
term_so net found h b n m one other =
    subst (λ (x : Option ℕ). IsLeft (with_term found x b) net net (put (And n m) >>= (λ both. return (found ++ both ∷ [])))) (sym one)
    (subst (λ (y : Option ℕ). IsLeft (with_term found (Some n) y) net net (put (And n m) >>= (λ both. return (found ++ both ∷ [])))) (sym other) (record { front = begins_itself net; left = built }))
  where
    built : (put (And n m) >>= (λ both. return (found ++ both ∷ []))) net ≡ with_term found (Some n) (Some m) net
    built = appended found (put (And n m) net)

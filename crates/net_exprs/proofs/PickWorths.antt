-- Serves specs/Laws.antt: what selects are worth.
use Rattle.std.proofs.Common.{◌≡◌, ℕ, zero, suc, ◌+◌, ◌-◌, Bool, true, false, nat_le, if◌then◌else◌, List, [], ◌∷◌, ◌++◌, map, get_or, slice_get, Option, Some, None, refl, sym, ap, ◌∙◌, rules}
use Rattle.std.proofs.lemmas.List.{map-append}
use Rattle.vlog_tree.specs.declared.expr.Part.{Part}
use Rattle.vlog_tree.specs.declared.expr.Part.TheVariants.{Fixed, Up, Down}
use Rattle.rdc_tern.specs.declared.value.Tern.{Tern}
use Rattle.rdc_tern.specs.declared.value.Tern.TheVariants.{Zero}
use Rattle.rdc_tern.specs.Kleene.{and_of, or_of}
use Rattle.rdc_tern.specs.Words.{any_of, eq_of}
use Rattle.vlog_const.specs.declared.shape.Shape.{Shape}
use Rattle.vlog_const.specs.declared.whole.Whole.{Whole}
use Rattle.design_form.specs.declared.signal.Bounds.{Bounds}
use Rattle.design_form.specs.Signals.{is_down, lowest, width_of}
use Rattle.design_form.specs.Bits.{bits, start_word, can_be}
use Rattle.design_form.specs.Selects as design
use Rattle.design_form.specs.Selects.{bit_less, start_of, difference, starts}
use Rattle.net_view.specs.View.{Numbered}
use Rattle.net_view.specs.Values.{State, at, IsValuation}
use Rattle.net_view.specs.declared.gate.Gate.TheVariants.{Const, And}
use Rattle.net_words.specs.Builds.{Gives}
use Rattle.net_words.proofs.WorthLemmas.{gives_return, gives_then, gives_put, gives_more}
use Rattle.net_words.proofs.WordWorths.{any_gives}
use Rattle.net_words.proofs.ComparisonWorths.{eq_gives}
use Rattle.net_exprs.specs.Selects.{bit_at, node_or_0, part_bit, part_from, equals, hit_if, hit, hits_from, reached, term, terms, picked_bit, picked_from, picked_of}
use Rattle.net_exprs.proofs.FormWorths.{AreBits, bits_are, inverted_are, constants_gives}

-- ---- nodes that may be there

abbrev pub seen : (ℕ → Tern) → Option ℕ → Tern
seen v (Some n) = v n
seen v None = Zero

get_seen : (v : ℕ → Tern) (w : List ℕ) (i : ℕ) → seen v (slice_get w i) ≡ get_or (map v w) i Zero
get_seen v [] i = refl
get_seen v (a ∷ w) zero = refl
get_seen v (a ∷ w) (suc i) = get_seen v w i

if_seen : (v : ℕ → Tern) (b : Bool) (x y : Option ℕ) (s t : Tern) → seen v x ≡ s → seen v y ≡ t → seen v (if b then x else y) ≡ (if b then s else t)
if_seen v true x y s t one other = one
if_seen v false x y s t one other = other

at_seen : (v : ℕ → Tern) (w : List ℕ) (a b : ℕ) → seen v (bit_at w a b) ≡ bit_less (map v w) a b
unfolding bit_less
at_seen v w a b = if_seen v (nat_le b a) (slice_get w (a - b)) None _ Zero (get_seen v w (a - b)) refl

part_seen : (v : ℕ → Tern) (r : Bounds) (w : List ℕ) (j : Whole) (t : ℕ) → seen v (part_bit r w j t) ≡ design.part_bit r (map v w) j t
unfolding design.part_bit
part_seen v r w j t =
    if_seen v (is_down r) _ _ _ _
    (if_seen v j.negative _ _ _ _ (at_seen v w t (r.lsb + j.magnitude)) (at_seen v w (j.magnitude + t) r.lsb))
    (if_seen v j.negative _ _ _ _ (at_seen v w (r.lsb + t + j.magnitude) 0) (at_seen v w (r.lsb + t) j.magnitude))

reached_seen : (v : ℕ → Tern) (r : Bounds) (w : List ℕ) (n i j : ℕ) → seen v (reached r w n i j) ≡ design.reached r (map v w) n i j
unfolding design.reached
reached_seen v r w n i j = if_seen v (is_down r) _ _ _ _ (at_seen v w (i + j) (n - 1)) (at_seen v w (width_of r + j) (i + 1))

-- ---- starts are words without X

if_are : {S : Type 0} (f : S → List Tern) (t : Bool) (x y : S) → AreBits (f x) → AreBits (f y) → AreBits (f (if t then x else y))
if_are f true x y one other = one
if_are f false x y one other = other

less_are : (a b w : ℕ) → AreBits (start_word w (difference a b))
unfolding difference start_word
less_are a b w = if_are (start_word w) (nat_le b a) _ _ (bits_are w (a - b)) (inverted_are (bits w ((b - a) - 1)) (bits_are w ((b - a) - 1)))

start_are : (how : Part) (r : Bounds) (n i w : ℕ) → AreBits (start_word w (start_of how r n i))
unfolding start_of start_word
start_are Up r n i w = less_are (lowest r + i) (n - 1) w
start_are Fixed r n i w = bits_are w (lowest r + i)
start_are Down r n i w = bits_are w (lowest r + i)

-- ---- OR over terms

or_none : (a : Tern) → or_of Zero a ≡ a
or_none a = search rules

and_none : (a : Tern) → and_of a Zero ≡ Zero
and_none a = search rules

none_and : (a : Tern) → and_of Zero a ≡ Zero
none_and a = search rules

-- the terms of some starts
abbrev sees : (ℕ → Tern) → List (Option ℕ) → List Tern
sees v hits = map (seen v) hits

-- what a term adds
abbrev adds : Tern → List Tern → Tern
adds t w = or_of t (any_of w)

module _ (whole : List Numbered) (state : State) (found : List Tern) (valued : IsValuation whole state found) where
  or_0_gives : (o : Option ℕ) → Gives whole (node_or_0 o) (λ n. at found n ≡ seen (at found) o)
  unfolding node_or_0
  or_0_gives (Some n) = gives_return whole _ n refl
  or_0_gives None = gives_put whole state found valued (Const false)

  pub part_gives : (r : Bounds) (w : List ℕ) (j : Whole) (t n : ℕ) → Gives whole (part_from r w j t n) (λ made. map (at found) made ≡ design.part_from r (map (at found) w) j t n)
  unfolding part_from design.part_from
  part_gives r w j t zero = gives_return whole _ [] refl
  part_gives r w j t (suc n) =
      gives_then whole _ _ _ _ (or_0_gives (part_bit r w j t)) (λ b.
      gives_then whole _ _ _ _ (part_gives r w j (t + 1) n) (λ rest.
      gives_return whole _ (b ∷ rest) (λ rest-is b-is k. (b-is ∙ part_seen (at found) r w j t) k ∷ rest-is k)))

  equals_gives : (e : List ℕ) (w : List Tern) → AreBits w → Gives whole (equals e w) (λ n. at found n ≡ eq_of (map (at found) e) w)
  unfolding equals
  equals_gives e w h =
      gives_then whole _ _ _ _ (constants_gives whole state found valued w h) (λ number.
      gives_more whole _ _ _ (eq_gives whole state found valued e number) (λ n n-is number-is. n-is ∙ ap (eq_of (map (at found) e)) number-is))

  hit_by : (b : Bool) (e : List ℕ) (w : List Tern) → AreBits w → Gives whole (hit_if b e w) (λ h. seen (at found) h ≡ (if b then eq_of (map (at found) e) w else Zero))
  unfolding hit_if
  hit_by true e w h = gives_then whole _ _ _ _ (equals_gives e w h) (λ n. gives_return whole _ (Some n) (λ n-is. n-is))
  hit_by false e w h = gives_return whole _ None refl

  hit_gives : (how : Part) (r : Bounds) (n : ℕ) (s : Shape) (e : List ℕ) (i : ℕ) → Gives whole (hit how r n s e i) (λ h. seen (at found) h ≡ design.hit how r n s (map (at found) e) i)
  unfolding design.hit
  hit_gives how r n s e i = hit_by (can_be s (start_of how r n i)) e (start_word s.width (start_of how r n i)) (start_are how r n i s.width)

  hits_gives : (how : Part) (r : Bounds) (n : ℕ) (s : Shape) (e : List ℕ) (i k : ℕ) → Gives whole (hits_from how r n s e i k) (λ hits. sees (at found) hits ≡ design.hits_from how r n s (map (at found) e) i k)
  unfolding hits_from design.hits_from
  hits_gives how r n s e i zero = gives_return whole _ [] refl
  hits_gives how r n s e i (suc k) =
      gives_then whole _ _ _ _ (hit_gives how r n s e i) (λ h.
      gives_then whole _ _ _ _ (hits_gives how r n s e (i + 1) k) (λ rest.
      gives_return whole _ (h ∷ rest) (λ rest-is h-is j. h-is j ∷ rest-is j)))

  term_gives : (h b : Option ℕ) → Gives whole (term h b) (λ first. any_of (map (at found) first) ≡ and_of (seen (at found) h) (seen (at found) b))
  unfolding term
  term_gives (Some h) (Some b) =
      gives_then whole _ _ _ _ (gives_put whole state found valued (And h b)) (λ n. gives_return whole _ (n ∷ []) (λ n-is. or_zero_end (at found n) ∙ n-is))
    where
      or_zero_end : (a : Tern) → or_of a Zero ≡ a
      or_zero_end a = search rules
  term_gives (Some h) None = gives_return whole _ [] (sym (and_none (at found h)))
  term_gives None b = gives_return whole _ [] (sym (none_and (seen (at found) b)))

  any_both : (x y : List Tern) → any_of (x ++ y) ≡ or_of (any_of x) (any_of y)
  any_both [] y = sym (or_none (any_of y))
  any_both (a ∷ x) y = ap (or_of a) (any_both x y) ∙ sym (or_chain a (any_of x) (any_of y))
    where
      or_chain : (a b c : Tern) → or_of (or_of a b) c ≡ or_of a (or_of b c)
      or_chain a b c = search rules

  terms_gives : (hits : List (Option ℕ)) (r : Bounds) (w : List ℕ) (n i j : ℕ) → Gives whole (terms hits r w n i j) (λ all. any_of (map (at found) all) ≡ design.picked_bit (sees (at found) hits) r (map (at found) w) n i j)
  unfolding terms design.picked_bit
  terms_gives [] r w n i j = gives_return whole _ [] refl
  terms_gives (h ∷ hits) r w n i j =
      gives_then whole _ _ _ _ (term_gives h (reached r w n i j)) (λ first.
      gives_then whole _ _ _ _ (terms_gives hits r w n (i + 1) j) (λ rest.
      gives_return whole _ (first ++ rest) (λ rest-is first-is.
      ap any_of (map-append (at found) first rest) ∙ any_both (map (at found) first) (map (at found) rest)
      ∙ ap (λ (t : Tern). or_of t (any_of (map (at found) rest))) (first-is ∙ ap (and_of (seen (at found) h)) (reached_seen (at found) r w n i j))
      ∙ ap (or_of (and_of (seen (at found) h) (design.reached r (map (at found) w) n i j))) rest-is)))

  bit_gives : (hits : List (Option ℕ)) (r : Bounds) (w : List ℕ) (n j : ℕ) → Gives whole (picked_bit hits r w n j) (λ b. at found b ≡ design.picked_bit (sees (at found) hits) r (map (at found) w) n 0 j)
  unfolding picked_bit
  bit_gives hits r w n j =
      gives_then whole _ _ _ _ (terms_gives hits r w n 0 j) (λ all. gives_more whole _ _ _ (any_gives whole state found valued all) (λ b b-is all-is. b-is ∙ all-is))

  bits_gives : (hits : List (Option ℕ)) (r : Bounds) (w : List ℕ) (n j m : ℕ) → Gives whole (picked_from hits r w n j m) (λ made. map (at found) made ≡ design.picked_from (sees (at found) hits) r (map (at found) w) n j m)
  unfolding picked_from design.picked_from
  bits_gives hits r w n j zero = gives_return whole _ [] refl
  bits_gives hits r w n j (suc m) =
      gives_then whole _ _ _ _ (bit_gives hits r w n j) (λ b.
      gives_then whole _ _ _ _ (bits_gives hits r w n (j + 1) m) (λ rest.
      gives_return whole _ (b ∷ rest) (λ rest-is b-is k. b-is k ∷ rest-is k)))

  pub picked_gives : (how : Part) (r : Bounds) (w : List ℕ) (n : ℕ) (s : Shape) (e : List ℕ)
      → Gives whole (picked_of how r w n s e) (λ made. map (at found) made ≡ design.picked_from (design.hits_from how r n s (map (at found) e) 0 (starts r n)) r (map (at found) w) n 0 n)
  unfolding picked_of
  picked_gives how r w n s e =
      gives_then whole _ _ _ _ (hits_gives how r n s e 0 (starts r n)) (λ hits.
      gives_more whole _ _ _ (bits_gives hits r w n 0 n) (λ made made-is hits-is. made-is ∙ ap (λ (x : List Tern). design.picked_from x r (map (at found) w) n 0 n) hits-is))

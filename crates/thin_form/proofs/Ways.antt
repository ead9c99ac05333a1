-- A walk whose way is kept with its last wire at the end.
use Rattle.std.proofs.Common.{◌≡◌, inl, inr, ℕ, ◌+◌, ◌-◌, ◌<◌, ◌≤◌, List, [], ◌∷◌, ◌++◌, length, get_or, set, reverse, replicate, refl, sym, ap, subst, ◌∙◌, arith}
use Rattle.std.proofs.lemmas.List.{reverse-append, get_or-replicate, length-replicate, get_or_past}
use Rattle.std.proofs.lemmas.Bool.{cases_lt}
use Rattle.thin_form.specs.Walk.{reads_of, steps_at, next_of, ReadWithin}
use Rattle.thin_form.proofs.Walks.{IsWalk, IsEntered, in_at, same_or_not, raised, enter, follow, leave}

pub end_first : (xs ys : List ℕ) (u : ℕ) → ys ≡ xs ++ u ∷ [] → reverse ys ≡ u ∷ reverse xs
end_first xs ys u e = ap reverse e ∙ reverse-append xs (u ∷ [])

-- the last wire of the way is taken off
pub taken : (rs : List (List ℕ)) (ms old rest order : List ℕ) (u : ℕ) → old ≡ rest ++ u ∷ [] → IsWalk rs ms (reverse old) order → IsWalk rs ms (u ∷ reverse rest) order
taken rs ms old rest order u e walk = subst (λ (way : List ℕ). IsWalk rs ms way order) (end_first rest old u e) walk

-- what was seen is seen still
pub seen_still : (ms : List ℕ) (u x bound : ℕ) → 0 < x → u < length ms → ((w : ℕ) → w < bound → 0 < get_or ms w 0) → (w : ℕ) → w < bound → 0 < get_or (set ms u x) w 0
seen_still ms u x bound some within seen w lt =
    let now = raised ms u x within in
    elim (same_or_not w u) [
      | inl e ↦ let at : get_or (set ms u x) w 0 ≡ x = ap (λ (y : ℕ). get_or (set ms u x) y 0) e ∙ now.here in omega arith
      | inr ne ↦ omega (arith, now.others w ne, seen w lt)
    ]

module _ (rs : List (List ℕ)) (ms rest order : List ℕ) (u : ℕ) (walk : IsWalk rs ms (u ∷ reverse rest) order) where
  top : IsEntered rs ms u
  top = walk.entered u (inl refl)

  pub top_within : u < length ms
  top_within = omega (arith, top.within, walk.count)

  -- all that u reads is done
  pub left_now : (x : ℕ) (longer : List ℕ) → length (reads_of rs u) < get_or ms u 0 → x ≡ get_or ms u 0 + 1 → longer ≡ order ++ u ∷ [] → IsWalk rs (set ms u x) (reverse rest) longer
  left_now x longer all one pushed =
      let now = subst (λ (y : ℕ). IsWalk rs (set ms u y) (reverse rest) (order ++ u ∷ [])) (sym one) (leave rs ms (set ms u (get_or ms u 0 + 1)) order u (reverse rest) all (raised ms u (get_or ms u 0 + 1) top_within) walk) in
      subst (IsWalk rs (set ms u x) (reverse rest)) (sym pushed) now

  -- u goes on, since what it reads next is done
  pub followed_now : (x : ℕ) (way : List ℕ) → ReadWithin rs → get_or ms u 0 ≤ length (reads_of rs u) → get_or ms (next_of rs ms u) 0 ≡ steps_at rs (next_of rs ms u) → x ≡ get_or ms u 0 + 1 → way ≡ rest ++ u ∷ [] → IsWalk rs (set ms u x) (reverse way) order
  followed_now x way reads more known one pushed =
      let now = subst (λ (y : ℕ). IsWalk rs (set ms u y) (u ∷ reverse rest) order) (sym one) (follow rs ms (set ms u (get_or ms u 0 + 1)) order u (reverse rest) reads more known (raised ms u (get_or ms u 0 + 1) top_within) walk) in
      subst (λ (w : List ℕ). IsWalk rs (set ms u x) w order) (sym (end_first rest way u pushed)) now

  -- what u reads next is entered
  pub entered_now : (v : ℕ) (way longer : List ℕ) → v < length rs → get_or ms u 0 ≤ length (reads_of rs u) → v ≡ next_of rs ms u → get_or ms v 0 ≡ 0 → way ≡ rest ++ u ∷ [] → longer ≡ way ++ v ∷ [] → IsWalk rs (set ms v 1) (reverse longer) order
  entered_now v way longer within more next fresh pushed also =
      let now = enter rs ms (set ms v 1) order v (u ∷ reverse rest) within fresh (raised ms v 1 (omega (arith, walk.count))) (more, next, walk.chain) walk in
      let shape : reverse longer ≡ v ∷ (u ∷ reverse rest) = end_first way longer v also ∙ ap (λ (xs : List ℕ). v ∷ xs) (end_first rest way u pushed) in
      subst (λ (w : List ℕ). IsWalk rs (set ms v 1) w order) (sym shape) now

  -- what u reads next is there
  pub next_within : ReadWithin rs → get_or ms u 0 ≤ length (reads_of rs u) → next_of rs ms u < length rs
  next_within reads more = reads u (next_of rs ms u) (in_at (reads_of rs u) (get_or ms u 0 - 1) (omega (arith, top.entered)))

-- a way begins at a wire that is new
pub begun : (rs : List (List ℕ)) (ms old way order : List ℕ) (v : ℕ) → v < length rs → get_or ms v 0 ≡ 0 → old ≡ [] → way ≡ old ++ v ∷ [] → IsWalk rs ms (reverse old) order → IsWalk rs (set ms v 1) (reverse way) order
begun rs ms old way order v within fresh free pushed walk =
    let from : IsWalk rs ms [] order = subst (λ (w : List ℕ). IsWalk rs ms w order) (ap reverse free) walk in
    let now = enter rs ms (set ms v 1) order v [] within fresh (raised ms v 1 (omega (arith, from.count))) tt from in
    let shape : reverse way ≡ v ∷ [] = end_first old way v pushed ∙ ap (λ (xs : List ℕ). v ∷ reverse xs) free in
    subst (λ (w : List ℕ). IsWalk rs (set ms v 1) w order) (sym shape) now

pub all_zero : (ms : List ℕ) (count : ℕ) → ms ≡ replicate count 0 → (w : ℕ) → get_or ms w 0 ≡ 0
all_zero ms count e w = ap (λ (xs : List ℕ). get_or xs w 0) e ∙ elim (cases_lt w count) [
  | inl lt ↦ get_or-replicate count w 0 0 lt
  | inr le ↦ get_or_past (replicate count 0) w 0 (omega (arith, length-replicate {A = ℕ} count 0))
]

-- after a wire was entered or seen, one more was seen
pub seen_more : (ms : List ℕ) (bound : ℕ) → 0 < get_or ms bound 0 → ((w : ℕ) → w < bound → 0 < get_or ms w 0) → (w : ℕ) → w < bound + 1 → 0 < get_or ms w 0
seen_more ms bound here seen w lt = elim (same_or_not w bound) [
  | inl e ↦ subst (λ (x : ℕ). 0 < get_or ms x 0) (sym e) here
  | inr ne ↦ seen w (omega (arith, ne))
]

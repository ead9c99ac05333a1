-- A walk through wires and what they read: what is known between its steps.
use Rattle.std.proofs.Common.{◌≡◌, ◌≢◌, ◌⊎◌, inl, inr, ℕ, zero, suc, ◌+◌, ◌-◌, ◌<◌, ◌≤◌, List, [], ◌∷◌, ◌++◌, length, get_or, set, map, refl, sym, ap, subst, ◌∙◌, arith}
use Rattle.std.specs.List.{sum_by}
use Rattle.std.proofs.lemmas.List.{get_or-set_same, get_or-set_other, length-set, get_or-map}
use Rattle.std.proofs.lemmas.List.Sums.{sum_by-set, sum_by-cons}
use Rattle.std.proofs.lemmas.Bool.{cases_lt}
use Rattle.thin_form.specs.Walk.{IsIn, reads_of, IsReadyAfter, IsOrder, IsCircle, steps_at, next_of, ReadWithin}

-- ---- members of lists

pub in_at : (xs : List ℕ) (k : ℕ) → k < length xs → IsIn (get_or xs k 0) xs
in_at [] k lt = absurd (omega arith)
in_at (x ∷ xs) zero lt = inl refl
in_at (x ∷ xs) (suc k) lt = inr (in_at xs k (omega arith))

pub in_left : (xs ys : List ℕ) (x : ℕ) → IsIn x xs → IsIn x (xs ++ ys)
in_left [] ys x h = absurd h
in_left (w ∷ xs) ys x (inl e) = inl e
in_left (w ∷ xs) ys x (inr h) = inr (in_left xs ys x h)

pub in_right : (xs ys : List ℕ) (x : ℕ) → IsIn x ys → IsIn x (xs ++ ys)
in_right [] ys x h = h
in_right (w ∷ xs) ys x h = inr (in_right xs ys x h)

pub in_either : (xs ys : List ℕ) (x : ℕ) → IsIn x (xs ++ ys) → IsIn x xs ⊎ IsIn x ys
in_either [] ys x h = inr h
in_either (w ∷ xs) ys x (inl e) = inl (inl e)
in_either (w ∷ xs) ys x (inr h) = elim (in_either xs ys x h) [ inl there ↦ inl (inr there) | inr there ↦ inr there ]

-- what holds at each place holds of each member
pub in_by_place : (P : ℕ → Type 0) (xs : List ℕ) → ((k : ℕ) → k < length xs → P (get_or xs k 0)) → (x : ℕ) → IsIn x xs → P x
in_by_place P [] at x h = absurd h
in_by_place P (w ∷ xs) at x (inl e) = subst P (sym e) (at 0 (omega arith))
in_by_place P (w ∷ xs) at x (inr h) = in_by_place P xs (λ k lt. at (suc k) (omega arith)) x h

-- what a list of lists has at a place reads what is in there
pub read_there : {X : Type 0} (items : X → List ℕ) (reads : List X) (u k v : ℕ) (r : X) → u < length reads → r ≡ get_or reads u r → k < length (items r) → v ≡ get_or (items r) k v → IsIn v (reads_of (map items reads) u)
read_there items reads u k v r lt at within is =
    let here : reads_of (map items reads) u ≡ items r = get_or-map items reads u r [] lt ∙ ap items (sym at) in
    let value : v ≡ get_or (items r) k 0 = is ∙ same_default (items r) k v within in
    subst (λ (xs : List ℕ). IsIn v xs) (sym here) (subst (λ (y : ℕ). IsIn y (items r)) (sym value) (in_at (items r) k within))
  where
    same_default : (xs : List ℕ) (k d : ℕ) → k < length xs → get_or xs k d ≡ get_or xs k 0
    same_default [] k d lt = absurd (omega arith)
    same_default (x ∷ xs) zero d lt = refl
    same_default (x ∷ xs) (suc k) d lt = same_default xs k d (omega arith)

-- ---- one number raised

pub same_or_not : (a b : ℕ) → (a ≡ b) ⊎ (a ≢ b)
same_or_not a b = elim (cases_lt a b) [
  | inl lt ↦ inr (λ e. absurd (omega arith))
  | inr le ↦ elim (cases_lt b a) [ inl lt ↦ inr (λ e. absurd (omega arith)) | inr also ↦ inl (omega arith) ]
]

-- the number at u is x now, and the others are as before
pub record IsRaised (old new : List ℕ) (u x : ℕ) : Type 0 where
  pub len : length new ≡ length old
  pub here : get_or new u 0 ≡ x
  pub others : (w : ℕ) → w ≢ u → get_or new w 0 ≡ get_or old w 0

pub raised : (ms : List ℕ) (u x : ℕ) → u < length ms → IsRaised ms (set ms u x) u x
raised ms u x lt = record { len = length-set ms u x; here = get_or-set_same ms u x 0 lt; others = λ w ne. get_or-set_other ms u w x 0 ne }

-- ---- the walk

-- each wire on the way reads next the one above it
abbrev pub IsChain : List (List ℕ) → List ℕ → ℕ → List ℕ → Type 0
IsChain rs ms top [] = Unit {0}
IsChain rs ms top (u ∷ ws) = (get_or ms u 0 ≤ length (reads_of rs u)) × (top ≡ next_of rs ms u) × IsChain rs ms u ws

abbrev pub IsWay : List (List ℕ) → List ℕ → List ℕ → Type 0
IsWay rs ms [] = Unit {0}
IsWay rs ms (w ∷ ws) = IsChain rs ms w ws

abbrev pub AreApart : List ℕ → Type 0
AreApart [] = Unit {0}
AreApart (w ∷ ws) = (IsIn w ws → ⊥) × AreApart ws

-- the wire was entered and not left
pub record IsEntered (rs : List (List ℕ)) (ms : List ℕ) (w : ℕ) : Type 0 where
  pub within : w < length rs
  pub entered : 0 < get_or ms w 0
  pub open_still : get_or ms w 0 < steps_at rs w

-- what is known between the steps: the way, the last wire first, and the wires that are left, in order
pub record IsWalk (rs : List (List ℕ)) (ms way order : List ℕ) : Type 0 where
  pub count : length ms ≡ length rs
  pub below : (w : ℕ) → w < length rs → get_or ms w 0 ≤ steps_at rs w
  pub entered : (w : ℕ) → IsIn w way → IsEntered rs ms w
  pub apart : AreApart way
  pub on_way : (w : ℕ) → IsEntered rs ms w → IsIn w way
  pub chain : IsWay rs ms way
  pub followed : (w k : ℕ) → w < length rs → k + 1 < get_or ms w 0 → k < length (reads_of rs w) → IsIn (get_or (reads_of rs w) k 0) order
  pub left : (w : ℕ) → w < length rs → get_or ms w 0 ≡ steps_at rs w → IsIn w order
  pub done : (w : ℕ) → IsIn w order → (w < length rs) × (get_or ms w 0 ≡ steps_at rs w)
  pub ready : IsReadyAfter rs [] order

chain_kept : (rs : List (List ℕ)) (ms new : List ℕ) (top : ℕ) (ws : List ℕ) → ((w : ℕ) → IsIn w ws → get_or new w 0 ≡ get_or ms w 0) → IsChain rs ms top ws → IsChain rs new top ws
chain_kept rs ms new top [] same chain = tt
chain_kept rs ms new top (u ∷ ws) same chain =
    let here = same u (inl refl) in
    (omega (arith, chain.0), chain.1 ∙ ap (λ (m : ℕ). get_or (reads_of rs u) (m - 1) 0) (sym here), chain_kept rs ms new u ws (λ w h. same w (inr h)) chain.2)

way_tail : (rs : List (List ℕ)) (ms : List ℕ) (u : ℕ) (ws : List ℕ) → IsChain rs ms u ws → IsWay rs ms ws
way_tail rs ms u [] chain = tt
way_tail rs ms u (w ∷ ws) chain = chain.2

way_kept : (rs : List (List ℕ)) (ms new : List ℕ) (ws : List ℕ) → ((w : ℕ) → IsIn w ws → get_or new w 0 ≡ get_or ms w 0) → IsWay rs ms ws → IsWay rs new ws
way_kept rs ms new [] same way = tt
way_kept rs ms new (w ∷ ws) same way = chain_kept rs ms new w ws (λ v h. same v (inr h)) way

-- a wire that is new and reads only what is done goes to the end
ready_more : (rs : List (List ℕ)) (done ws : List ℕ) (x : ℕ) → IsReadyAfter rs done ws → (IsIn x done → ⊥) → (IsIn x ws → ⊥) → ((v : ℕ) → IsIn v (reads_of rs x) → IsIn v done ⊎ IsIn v ws) → IsReadyAfter rs done (ws ++ x ∷ [])
ready_more rs done [] x ready new also reads = (new, λ v h. elim (reads v h) [ inl there ↦ there | inr none ↦ absurd none ], tt)
ready_more rs done (w ∷ ws) x ready new also reads = (
  ready.0,
  ready.1,
  ready_more rs (w ∷ done) ws x ready.2 (λ h. elim h [ inl e ↦ also (inl e) | inr there ↦ new there ]) (λ h. also (inr h)) (λ v h. elim (reads v h) [
    | inl there ↦ inl (inr there)
    | inr there ↦ elim there [ inl e ↦ inl (inl e) | inr later ↦ inr later ]
  ]),
)

entered_other : (rs : List (List ℕ)) (ms new : List ℕ) (w : ℕ) → get_or new w 0 ≡ get_or ms w 0 → IsEntered rs ms w → IsEntered rs new w
entered_other rs ms new w same is = record { within = is.within; entered = omega (arith, is.entered); open_still = omega (arith, is.open_still) }

module _ (rs : List (List ℕ)) (ms new : List ℕ) (order : List ℕ) where
  -- wire v is entered
  pub enter : (v : ℕ) (way : List ℕ) → v < length rs → get_or ms v 0 ≡ 0 → IsRaised ms new v 1 → IsChain rs ms v way → IsWalk rs ms way order → IsWalk rs new (v ∷ way) order
  enter v way lt fresh r link walk =
      let others : (w : ℕ) → IsIn w way → w ≢ v = λ w h e. let is = walk.entered w h in let at : get_or ms w 0 ≡ 0 = ap (λ (x : ℕ). get_or ms x 0) e ∙ fresh in absurd (omega (arith, is.entered)) in
      record {
        count = r.len ∙ walk.count;
        below = λ w within. elim (same_or_not w v) [
          | inl e ↦ subst (λ (x : ℕ). get_or new x 0 ≤ steps_at rs x) (sym e) (omega (arith, r.here))
          | inr ne ↦ omega (arith, r.others w ne, walk.below w within)
        ];
        entered = λ w h. elim h [
          | inl e ↦ subst (IsEntered rs new) (sym e) (record { within = lt; entered = omega (arith, r.here); open_still = omega (arith, r.here) })
          | inr there ↦ entered_other rs ms new w (r.others w (others w there)) (walk.entered w there)
        ];
        apart = (λ h. others v h refl, walk.apart);
        on_way = λ w is. elim (same_or_not w v) [
          | inl e ↦ inl e
          | inr ne ↦ inr (walk.on_way w (entered_other rs new ms w (sym (r.others w ne)) is))
        ];
        chain = chain_kept rs ms new v way (λ w h. r.others w (others w h)) link;
        followed = λ w k within early inside. elim (same_or_not w v) [
          | inl e ↦ absurd (let at : get_or new w 0 ≡ 1 = ap (λ (x : ℕ). get_or new x 0) e ∙ r.here in omega arith)
          | inr ne ↦ walk.followed w k within (omega (arith, r.others w ne)) inside
        ];
        left = λ w within full. elim (same_or_not w v) [
          | inl e ↦ absurd (let at : get_or new w 0 ≡ 1 = ap (λ (x : ℕ). get_or new x 0) e ∙ r.here in omega arith)
          | inr ne ↦ walk.left w within (sym (r.others w ne) ∙ full)
        ];
        done = λ w h.
            let was = walk.done w h in
            let ne : w ≢ v = λ e. let at : get_or ms w 0 ≡ 0 = ap (λ (x : ℕ). get_or ms x 0) e ∙ fresh in absurd (omega (arith, was.1)) in
            (was.0, r.others w ne ∙ was.1);
        ready = walk.ready;
      }

  -- at wire u a read is followed that was left
  pub follow : (u : ℕ) (way : List ℕ) → ReadWithin rs → get_or ms u 0 ≤ length (reads_of rs u) → get_or ms (next_of rs ms u) 0 ≡ steps_at rs (next_of rs ms u) → IsRaised ms new u (get_or ms u 0 + 1) → IsWalk rs ms (u ∷ way) order → IsWalk rs new (u ∷ way) order
  follow u way reads more known r walk =
      let top = walk.entered u (inl refl) in
      let others : (w : ℕ) → IsIn w way → w ≢ u = λ w h e. walk.apart.0 (subst (λ (x : ℕ). IsIn x way) e h) in
      let inside_now : get_or ms u 0 - 1 < length (reads_of rs u) = omega (arith, top.entered) in
      let next_read = in_at (reads_of rs u) (get_or ms u 0 - 1) inside_now in
      let next_in : IsIn (next_of rs ms u) order = walk.left (next_of rs ms u) (reads u (next_of rs ms u) next_read) known in
      record {
        count = r.len ∙ walk.count;
        below = λ w within. elim (same_or_not w u) [
          | inl e ↦ subst (λ (x : ℕ). get_or new x 0 ≤ steps_at rs x) (sym e) (omega (arith, r.here))
          | inr ne ↦ omega (arith, r.others w ne, walk.below w within)
        ];
        entered = λ w h. elim h [
          | inl e ↦ subst (IsEntered rs new) (sym e) (record { within = top.within; entered = omega (arith, r.here); open_still = omega (arith, r.here) })
          | inr there ↦ entered_other rs ms new w (r.others w (others w there)) (walk.entered w (inr there))
        ];
        apart = walk.apart;
        on_way = λ w is. elim (same_or_not w u) [
          | inl e ↦ inl e
          | inr ne ↦ walk.on_way w (entered_other rs new ms w (sym (r.others w ne)) is)
        ];
        chain = chain_kept rs ms new u way (λ w h. r.others w (others w h)) walk.chain;
        followed = λ w k within early inside. elim (same_or_not w u) [
          | inl e ↦
              let at : get_or new w 0 ≡ get_or ms u 0 + 1 = ap (λ (x : ℕ). get_or new x 0) e ∙ r.here in
              let old : get_or ms w 0 ≡ get_or ms u 0 = ap (λ (x : ℕ). get_or ms x 0) e in
              elim (cases_lt (k + 1) (get_or ms u 0)) [
                | inl lt ↦ walk.followed w k within (omega arith) inside
                | inr le ↦
                    let here : k ≡ get_or ms u 0 - 1 = omega (arith, top.entered) in
                    let read : get_or (reads_of rs w) k 0 ≡ next_of rs ms u = ap (λ (x : ℕ). get_or (reads_of rs x) k 0) e ∙ ap (λ (j : ℕ). get_or (reads_of rs u) j 0) here in
                    subst (λ (x : ℕ). IsIn x order) (sym read) next_in
              ]
          | inr ne ↦ walk.followed w k within (omega (arith, r.others w ne)) inside
        ];
        left = λ w within full. elim (same_or_not w u) [
          | inl e ↦ absurd (let at : get_or new w 0 ≡ get_or ms u 0 + 1 = ap (λ (x : ℕ). get_or new x 0) e ∙ r.here in let len : length (reads_of rs w) ≡ length (reads_of rs u) = ap (λ (x : ℕ). length (reads_of rs x)) e in omega arith)
          | inr ne ↦ walk.left w within (sym (r.others w ne) ∙ full)
        ];
        done = λ w h.
            let was = walk.done w h in
            let ne : w ≢ u = λ e. let at : get_or ms w 0 ≡ get_or ms u 0 = ap (λ (x : ℕ). get_or ms x 0) e in let len : length (reads_of rs w) ≡ length (reads_of rs u) = ap (λ (x : ℕ). length (reads_of rs x)) e in absurd (omega (arith, was.1, top.open_still)) in
            (was.0, r.others w ne ∙ was.1);
        ready = walk.ready;
      }

  -- wire u is left
  pub leave : (u : ℕ) (way : List ℕ) → length (reads_of rs u) < get_or ms u 0 → IsRaised ms new u (get_or ms u 0 + 1) → IsWalk rs ms (u ∷ way) order → IsWalk rs new way (order ++ u ∷ [])
  leave u way all r walk =
      let top = walk.entered u (inl refl) in
      let full_now : get_or new u 0 ≡ steps_at rs u = omega (arith, r.here, top.open_still) in
      let others : (w : ℕ) → IsIn w way → w ≢ u = λ w h e. walk.apart.0 (subst (λ (x : ℕ). IsIn x way) e h) in
      let fresh : IsIn u order → ⊥ = λ h. let was = walk.done u h in omega (arith, was.1, top.open_still) in
      record {
        count = r.len ∙ walk.count;
        below = λ w within. elim (same_or_not w u) [
          | inl e ↦ subst (λ (x : ℕ). get_or new x 0 ≤ steps_at rs x) (sym e) (omega arith)
          | inr ne ↦ omega (arith, r.others w ne, walk.below w within)
        ];
        entered = λ w h. entered_other rs ms new w (r.others w (others w h)) (walk.entered w (inr h));
        apart = walk.apart.1;
        on_way = λ w is. elim (same_or_not w u) [
          | inl e ↦ absurd (let at : get_or new w 0 ≡ get_or new u 0 = ap (λ (x : ℕ). get_or new x 0) e in let len : length (reads_of rs w) ≡ length (reads_of rs u) = ap (λ (x : ℕ). length (reads_of rs x)) e in omega (arith, is.open_still))
          | inr ne ↦ elim (walk.on_way w (entered_other rs new ms w (sym (r.others w ne)) is)) [ inl e ↦ absurd (ne e) | inr there ↦ there ]
        ];
        chain = way_kept rs ms new way (λ w h. r.others w (others w h)) (way_tail rs ms u way walk.chain);
        followed = λ w k within early inside. in_left order (u ∷ []) (get_or (reads_of rs w) k 0) (elim (same_or_not w u) [
          | inl e ↦
              let old : get_or ms w 0 ≡ get_or ms u 0 = ap (λ (x : ℕ). get_or ms x 0) e in
              let len : length (reads_of rs w) ≡ length (reads_of rs u) = ap (λ (x : ℕ). length (reads_of rs x)) e in
              walk.followed w k within (omega arith) inside
          | inr ne ↦ walk.followed w k within (omega (arith, r.others w ne)) inside
        ]);
        left = λ w within full. elim (same_or_not w u) [
          | inl e ↦ in_right order (u ∷ []) w (inl e)
          | inr ne ↦ in_left order (u ∷ []) w (walk.left w within (sym (r.others w ne) ∙ full))
        ];
        done = λ w h. elim (in_either order (u ∷ []) w h) [
          | inl there ↦ let was = walk.done w there in let ne : w ≢ u = λ e. fresh (subst (λ (x : ℕ). IsIn x order) e there) in (was.0, r.others w ne ∙ was.1)
          | inr here ↦ elim here [ inl e ↦ subst (λ (x : ℕ). (x < length rs) × (get_or new x 0 ≡ steps_at rs x)) (sym e) (top.within, full_now) | inr none ↦ absurd none ]
        ];
        ready = ready_more rs [] order u walk.ready (λ h. h) fresh (λ v h. inr (in_by_place (λ x. IsIn x order) (reads_of rs u) (λ k lt. walk.followed u k top.within (omega arith) lt) v h));
      }

-- before the first step nothing is entered
pub at_first : (rs : List (List ℕ)) (ms : List ℕ) → length ms ≡ length rs → ((w : ℕ) → get_or ms w 0 ≡ 0) → IsWalk rs ms [] []
at_first rs ms count fresh = record {
  count = count;
  below = λ w within. omega (arith, fresh w);
  entered = λ w h. absurd h;
  apart = tt;
  on_way = λ w is. absurd (omega (arith, is.entered, fresh w));
  chain = tt;
  followed = λ w k within early inside. absurd (omega (arith, fresh w));
  left = λ w within full. absurd (omega (arith, fresh w));
  done = λ w h. absurd h;
  ready = tt;
}

-- where nothing is on the way and every wire was entered, the wires are in order
pub at_last : (rs : List (List ℕ)) (ms order : List ℕ) → IsWalk rs ms [] order → ((w : ℕ) → w < length rs → 0 < get_or ms w 0) → IsOrder rs order
at_last rs ms order walk seen = record {
  ready = walk.ready;
  all = λ w within.
      let low = walk.below w within in
      let entered = seen w within in
      elim (cases_lt (get_or ms w 0) (steps_at rs w)) [
        | inl lt ↦ absurd (walk.on_way w (record { within = within; entered = entered; open_still = lt }))
        | inr le ↦ walk.left w within (omega arith)
      ];
  within = λ w h. (walk.done w h).0;
}

lower_reads : (rs : List (List ℕ)) (ms : List ℕ) (top : ℕ) (ws : List ℕ) → IsChain rs ms top ws → ((w : ℕ) → IsIn w ws → 0 < get_or ms w 0) → (w : ℕ) → IsIn w ws → (v : ℕ) × IsIn v (reads_of rs w) × IsIn v (top ∷ ws)
lower_reads rs ms top [] chain entered w h = absurd h
lower_reads rs ms top (u ∷ ws) chain entered w (inl e) =
    let there = in_at (reads_of rs u) (get_or ms u 0 - 1) (omega (arith, chain.0, entered u (inl refl))) in
    (top, subst (λ (x : ℕ). IsIn top (reads_of rs x)) (sym e) (subst (λ (x : ℕ). IsIn x (reads_of rs u)) (sym chain.1) there), inl refl)
lower_reads rs ms top (u ∷ ws) chain entered w (inr h) =
    let found = lower_reads rs ms u ws chain.2 (λ v i. entered v (inr i)) w h in
    (found.0, found.1, inr found.2)

-- where the next read is on the way, the way is a circle
pub circle : (rs : List (List ℕ)) (ms : List ℕ) (u : ℕ) (way order : List ℕ) → ReadWithin rs → get_or ms u 0 ≤ length (reads_of rs u) → 0 < get_or ms (next_of rs ms u) 0 → get_or ms (next_of rs ms u) 0 ≢ steps_at rs (next_of rs ms u) → IsWalk rs ms (u ∷ way) order → IsCircle rs (u ∷ way)
circle rs ms u way order reads more entered open_still walk =
    let top = walk.entered u (inl refl) in
    let read = in_at (reads_of rs u) (get_or ms u 0 - 1) (omega (arith, top.entered)) in
    let within = reads u (next_of rs ms u) read in
    let low = walk.below (next_of rs ms u) within in
    let on = walk.on_way (next_of rs ms u) (record { within = within; entered = entered; open_still = omega (arith, open_still) }) in
    record {
      some = omega arith;
      reads = λ w h. elim h [
        | inl e ↦ (next_of rs ms u, subst (λ (x : ℕ). IsIn (next_of rs ms u) (reads_of rs x)) (sym e) read, on)
        | inr lower ↦ lower_reads rs ms u way walk.chain (λ v i. (walk.entered v (inr i)).entered) w lower
      ];
    }

-- ---- how many steps are left

-- how many steps a walk makes
abbrev pub all_steps : List (List ℕ) → ℕ
all_steps rs = sum_by (λ r. length r + 2) rs

-- how many steps were made
abbrev pub steps_made : List ℕ → ℕ
steps_made ms = sum_by (λ m. m) ms

steps_below : (rs : List (List ℕ)) (ms : List ℕ) → length ms ≡ length rs → ((w : ℕ) → w < length rs → get_or ms w 0 ≤ steps_at rs w) → steps_made ms ≤ all_steps rs
steps_below [] [] count below = omega arith
steps_below [] (m ∷ ms) count below = absurd (omega arith)
steps_below (r ∷ rs) [] count below = absurd (omega arith)
steps_below (r ∷ rs) (m ∷ ms) count below = omega (arith, sum_by-cons (λ (x : List ℕ). length x + 2) r rs, sum_by-cons (λ (x : ℕ). x) m ms, below 0 (omega arith), steps_below rs ms (omega arith) (λ w lt. below (suc w) (omega arith)))

-- a step leaves fewer
pub fewer : (rs : List (List ℕ)) (ms way order : List ℕ) (u x : ℕ) → u < length ms → x ≡ get_or ms u 0 + 1 → IsWalk rs (set ms u x) way order → all_steps rs - steps_made (set ms u x) < all_steps rs - steps_made ms
fewer rs ms way order u x lt one walk =
    let low = steps_below rs (set ms u x) walk.count walk.below in
    let more = sum_by-set (λ m. m) ms u x 0 lt in
    omega arith

-- Serves specs/Queue.antt: what each step of a queue keeps.
use Rattle.std.proofs.Common.{◌≡◌, ◌≢◌, ◌⊎◌, inl, inr, ℕ, zero, suc, ◌+◌, ◌<◌, ◌≤◌, Bool, true, false, List, [], ◌∷◌, ◌++◌, length, set, All, AllPairs, Contains, IsPermutation, eqb, sym, subst, ap, refl, ◌∙◌, arith, get_or-set_other, get_or-set_same, length-set}
use Rattle.std.specs.Prelude.{slice_index, slice_index_or}
use Rattle.std.specs.List.{range_with_len}
use Rattle.std.specs.Cmp.{unsigned_Decides, nat_eq_equiv}
use Rattle.std.proofs.lemmas.Bool.{cases_lt}
use Rattle.std.proofs.lemmas.List.Elements.{All-contains, Contains-get_or, Contains-push, Contains-push_cases, Contains-append_left}
use Rattle.std.proofs.lemmas.List.Kept.{AllPairs-cons}
use Rattle.std.proofs.lemmas.Map.Keys.{IsDistinct-IsPermutation}
use Rattle.std.proofs.lemmas.Map.Made.{length-le_from_is_member, is_member-Decides, IsDistinct-from_AllPairs, AllPairs-from_IsDistinct}
use Rattle.net_view.specs.Queue.{needs_of, need_at, is_marked, Waits, IsQueue}
use Rattle.net_view.proofs.Members.{contains_none, contains_head, contains_behind, contains_cases, contains_at, adds_one, All-from_contains}

-- two numbers are equal or not
pub same_or_not : (a b : ℕ) → (a ≡ b) ⊎ (a ≢ b)
same_or_not a b = elim (cases_lt a b) [
  | inl lt ↦ inr (λ e. omega arith)
  | inr ge ↦ elim (cases_lt b a) [ inl lt ↦ inr (λ e. omega arith) | inr le ↦ inl (omega arith) ]
]

-- numbers that differ, in another order
pub apart_moved : (xs ys : List ℕ) → IsPermutation xs ys → AllPairs (λ a b. a ≢ b) xs → AllPairs (λ a b. a ≢ b) ys
apart_moved xs ys moved apart =
    AllPairs-from_IsDistinct unsigned_Decides ys (IsDistinct-IsPermutation eqb (λ x y. nat_eq_equiv.symm x y) xs ys moved (IsDistinct-from_AllPairs unsigned_Decides xs apart))

-- the first of numbers that differ is none of the others, and those differ
pub head_apart : (x y : ℕ) (xs : List ℕ) → AllPairs (λ a b. a ≢ b) (x ∷ xs) → Contains xs y → x ≢ y
head_apart x y xs apart h e =
    let there = contains_at xs y h in
    apart 0 (suc there.0) 0 (omega arith) (let bound = there.1 in omega arith) (e ∙ sym there.2)

pub tail_apart : (x : ℕ) (xs : List ℕ) → AllPairs (λ a b. a ≢ b) (x ∷ xs) → AllPairs (λ a b. a ≢ b) xs
tail_apart x xs apart i j d lt within e = apart (suc i) (suc j) d (omega arith) (omega arith) e

pub not_both : (b : Bool) → b ≡ true → b ≡ false → ⊥
not_both b h k = cc

-- the numbers from one on
pub range_length : (a n : ℕ) → length (range_with_len a n) ≡ n
range_length a zero = refl
range_length a (suc n) = ap suc (range_length (a + 1) n)

pub range_has : (a n x : ℕ) → a ≤ x → x < a + n → Contains (range_with_len a n) x
range_has a zero x low high = absurd (omega arith)
range_has a (suc n) x low high = elim (cases_lt a x) [
  | inl lt ↦ contains_behind a x (range_with_len (a + 1) n) (range_has (a + 1) n x (omega arith) (omega arith))
  | inr ge ↦ let same : a ≡ x = omega arith in subst (λ (z : ℕ). Contains (range_with_len a (suc n)) z) same (contains_head a (range_with_len (a + 1) n))
]

pub range_below : (a n x : ℕ) → Contains (range_with_len a n) x → x < a + n
range_below a zero x h = absurd (contains_none x h)
range_below a (suc n) x h = elim (contains_cases a x (range_with_len (a + 1) n) h) [
  | inl e ↦ omega arith
  | inr rest ↦ let low = range_below (a + 1) n x rest in omega arith
]

-- numbers below n that differ are at most n
pub apart_short : (xs : List ℕ) (n : ℕ) → All (λ x. x < n) xs → AllPairs (λ a b. a ≢ b) xs → length xs ≤ n
apart_short xs n all apart =
    let among = length-le_from_is_member nat_eq_equiv xs (range_with_len 0 n) (IsDistinct-from_AllPairs unsigned_Decides xs apart)
    (λ q h.
    let there = (is_member-Decides unsigned_Decides xs q).0 h in
    (is_member-Decides unsigned_Decides (range_with_len 0 n) q).1 (range_has 0 n q (omega arith) (let low = All-contains (λ x. x < n) xs q all there in omega arith))) in
    omega (arith, among, range_length 0 n)

pub unmarked : (b : Bool) → (b ≡ true → ⊥) → b ≡ false
unmarked true h = absurd (h refl)
unmarked false h = refl

-- an item that is queued needs no place
pub settle_again : (needs : List (List ℕ)) (at : List ℕ) (waiting : List (List ℕ)) (queued listed : List Bool) (ready order due : List ℕ) (f : ℕ) → is_marked queued f ≡ true
    → IsQueue needs at waiting queued listed ready order (f ∷ due) → IsQueue needs at waiting queued listed ready order due
settle_again needs at waiting queued listed ready order due f is q = record {
  at_len = q.at_len;
  waiting_len = q.waiting_len;
  queued_len = q.queued_len;
  listed_len = q.listed_len;
  listed_is = q.listed_is;
  queued_is = q.queued_is;
  inside = λ x h. elim h [ inl there ↦ q.inside x (inl there) | inr d ↦ q.inside x (inr (contains_behind f x due d)) ];
  closed = q.closed;
  within = q.within;
  passed = q.passed;
  done = q.done;
  placed = λ x lt. elim (q.placed x lt) [
    | inl there ↦ elim there [
      | inl in-queue ↦ inl (inl in-queue)
      | inr d ↦ elim (contains_cases f x due d) [
        | inl here ↦ inl (inl ((q.queued_is x).0 (subst (λ (z : ℕ). is_marked queued z ≡ true) (sym here) is)))
        | inr rest ↦ inl (inr rest)
      ]
    ]
    | inr waits ↦ inr waits
  ];
  waiting_inside = q.waiting_inside;
  apart = q.apart;
  once = q.once;
}

-- an item waits for the need at which it stops
pub settle_waits : (needs : List (List ℕ)) (at : List ℕ) (waiting : List (List ℕ)) (queued listed : List Bool) (ready order due : List ℕ) (f i : ℕ) → f < length needs → is_marked queued f ≡ false
    → i < length (needs_of needs f) → ((k : ℕ) → slice_index at f ≤ k → k < i → is_marked listed (slice_index (needs_of needs f) k) ≡ true)
    → is_marked listed (slice_index (needs_of needs f) i) ≡ false → IsQueue needs at waiting queued listed ready order (f ∷ due)
    → IsQueue needs (set at f i) (set waiting (slice_index (needs_of needs f) i) (slice_index_or waiting (slice_index (needs_of needs f) i) [] ++ f ∷ [])) queued listed ready order due
settle_waits needs at waiting queued listed ready order due f i f-in free i-in past stop q =
    let g = slice_index (needs_of needs f) i in
    let row = slice_index_or waiting g [] in
    let at' = set at f i in
    let waiting' = set waiting g (row ++ f ∷ []) in
    let g-in : g < length needs = q.closed f g (Contains-get_or (needs_of needs f) i 0 i-in) in
    let f-at : f < length at = omega (arith, q.at_len) in
    let g-at : g < length waiting = omega (arith, q.waiting_len) in
    let here : slice_index at' f ≡ i = get_or-set_same at f i 0 f-at in
    let there : (x : ℕ) → x ≢ f → slice_index at' x ≡ slice_index at x = λ x ne. get_or-set_other at f x i 0 ne in
    let out : (x : ℕ) → Contains ready x ⊎ Contains order x → x ≢ f = λ x h e. not_both (is_marked queued f) ((q.queued_is f).1 (subst (λ (z : ℕ). Contains ready z ⊎ Contains order z) e h)) free in
    let more : (h x : ℕ) → Contains (slice_index_or waiting h []) x → Contains (slice_index_or waiting' h []) x = λ h x w. elim (same_or_not h g) [
      | inl e ↦
          let old : Contains row x = subst (λ (z : ℕ). Contains (slice_index_or waiting z []) x) e w in
          subst (λ (r : List ℕ). Contains r x) (sym (ap (λ (z : ℕ). slice_index_or waiting' z []) e ∙ get_or-set_same waiting g (row ++ f ∷ []) [] g-at)) (Contains-append_left row (f ∷ []) x old)
      | inr ne ↦ subst (λ (r : List ℕ). Contains r x) (sym (get_or-set_other waiting g h (row ++ f ∷ []) [] ne)) w
    ] in
    let g-is : need_at needs at' f ≡ g = ap (slice_index (needs_of needs f)) here in
    let f-waits : Waits needs at' waiting' order f = record {
      before_end = subst (λ (k : ℕ). k < length (needs_of needs f)) (sym here) i-in;
      unlisted = λ h. not_both (is_marked listed g) ((q.listed_is g).1 (subst (λ (z : ℕ). Contains order z) g-is h)) stop;
      waits = subst (λ (r : List ℕ). Contains r f) (sym (ap (λ (z : ℕ). slice_index_or waiting' z []) g-is ∙ get_or-set_same waiting g (row ++ f ∷ []) [] g-at)) (Contains-push row f);
    } in
    record {
      at_len = length-set at f i ∙ q.at_len;
      waiting_len = length-set waiting g (row ++ f ∷ []) ∙ q.waiting_len;
      queued_len = q.queued_len;
      listed_len = q.listed_len;
      listed_is = q.listed_is;
      queued_is = q.queued_is;
      inside = λ x h. elim h [ inl in-queue ↦ q.inside x (inl in-queue) | inr d ↦ q.inside x (inr (contains_behind f x due d)) ];
      closed = q.closed;
      within = λ x. elim (same_or_not x f) [
        | inl e ↦ subst (λ (z : ℕ). slice_index at' z ≤ length (needs_of needs z)) (sym e) (omega (arith, here))
        | inr ne ↦ subst (λ (k : ℕ). k ≤ length (needs_of needs x)) (sym (there x ne)) (q.within x)
      ];
      passed = λ x k lt. elim (same_or_not x f) [
        | inl e ↦
            let k-lt : k < i = let low = subst (λ (z : ℕ). k < slice_index at' z) e lt in omega (arith, low, here) in
            subst (λ (z : ℕ). Contains order (slice_index (needs_of needs z) k)) (sym e)
            (elim (cases_lt k (slice_index at f)) [ inl before ↦ q.passed f k before | inr after ↦ (q.listed_is (slice_index (needs_of needs f) k)).0 (past k after k-lt) ])
        | inr ne ↦ q.passed x k (subst (λ (n : ℕ). k < n) (there x ne) lt)
      ];
      done = λ x h. there x (out x h) ∙ q.done x h;
      placed = λ x lt. elim (same_or_not x f) [
        | inl e ↦ inr (subst (λ (z : ℕ). Waits needs at' waiting' order z) (sym e) f-waits)
        | inr ne ↦ elim (q.placed x lt) [
          | inl old ↦ elim old [
            | inl in-queue ↦ inl (inl in-queue)
            | inr d ↦ elim (contains_cases f x due d) [ inl e ↦ absurd (ne e) | inr rest ↦ inl (inr rest) ]
          ]
          | inr waits ↦
              let need-is : need_at needs at' x ≡ need_at needs at x = ap (slice_index (needs_of needs x)) (there x ne) in
              inr (record {
                before_end = subst (λ (k : ℕ). k < length (needs_of needs x)) (sym (there x ne)) waits.before_end;
                unlisted = λ h. waits.unlisted (subst (λ (z : ℕ). Contains order z) need-is h);
                waits = subst (λ (z : ℕ). Contains (slice_index_or waiting' z []) x) (sym need-is) (more (need_at needs at x) x waits.waits);
              })
        ]
      ];
      waiting_inside = λ h x w. elim (same_or_not h g) [
        | inl e ↦
            let w' : Contains (row ++ f ∷ []) x = subst (λ (r : List ℕ). Contains r x) (ap (λ (z : ℕ). slice_index_or waiting' z []) e ∙ get_or-set_same waiting g (row ++ f ∷ []) [] g-at) w in
            elim (Contains-push_cases row f x w') [ inl old ↦ q.waiting_inside g x old | inr is ↦ subst (λ (z : ℕ). z < length needs) is f-in ]
        | inr ne ↦ q.waiting_inside h x (subst (λ (r : List ℕ). Contains r x) (get_or-set_other waiting g h (row ++ f ∷ []) [] ne) w)
      ];
      apart = q.apart;
      once = q.once;
    }

-- an item whose needs are all listed is ready
pub settle_ready : (needs : List (List ℕ)) (at : List ℕ) (waiting : List (List ℕ)) (queued listed : List Bool) (ready new order due : List ℕ) (f i : ℕ) → f < length needs → is_marked queued f ≡ false
    → i ≡ length (needs_of needs f) → ((k : ℕ) → slice_index at f ≤ k → k < i → is_marked listed (slice_index (needs_of needs f) k) ≡ true)
    → IsPermutation (f ∷ ready) new → IsQueue needs at waiting queued listed ready order (f ∷ due)
    → IsQueue needs (set at f i) waiting (set queued f true) listed new order due
settle_ready needs at waiting queued listed ready new order due f i f-in free i-is past moved q =
    let at' = set at f i in
    let queued' = set queued f true in
    let adds = adds_one f ready new moved in
    let f-at : f < length at = omega (arith, q.at_len) in
    let f-queued : f < length queued = omega (arith, q.queued_len) in
    let here : slice_index at' f ≡ i = get_or-set_same at f i 0 f-at in
    let there : (x : ℕ) → x ≢ f → slice_index at' x ≡ slice_index at x = λ x ne. get_or-set_other at f x i 0 ne in
    let out : (x : ℕ) → Contains ready x ⊎ Contains order x → x ≢ f = λ x h e. not_both (is_marked queued f) ((q.queued_is f).1 (subst (λ (z : ℕ). Contains ready z ⊎ Contains order z) e h)) free in
    let f-new : Contains new f = (adds.each f).1 (inl refl) in
    let kept : (x : ℕ) → Contains ready x ⊎ Contains order x → Contains new x ⊎ Contains order x = λ x h. elim h [ inl r ↦ inl ((adds.each x).1 (inr r)) | inr o ↦ inr o ] in
    let back : (x : ℕ) → x ≢ f → Contains new x ⊎ Contains order x → Contains ready x ⊎ Contains order x = λ x ne h. elim h [
      | inl n ↦ elim ((adds.each x).0 n) [ inl e ↦ absurd (ne e) | inr r ↦ inl r ]
      | inr o ↦ inr o
    ] in
    let within-at : (x : ℕ) → slice_index at' x ≤ length (needs_of needs x) = λ x. elim (same_or_not x f) [
      | inl e ↦ subst (λ (z : ℕ). slice_index at' z ≤ length (needs_of needs z)) (sym e) (omega (arith, here))
      | inr ne ↦ subst (λ (k : ℕ). k ≤ length (needs_of needs x)) (sym (there x ne)) (q.within x)
    ] in
    record {
      at_len = length-set at f i ∙ q.at_len;
      waiting_len = q.waiting_len;
      queued_len = length-set queued f true ∙ q.queued_len;
      listed_len = q.listed_len;
      listed_is = q.listed_is;
      queued_is = λ x. elim (same_or_not x f) [
        | inl e ↦ (λ h. inl (subst (λ (z : ℕ). Contains new z) (sym e) f-new), λ h. subst (λ (z : ℕ). is_marked queued' z ≡ true) (sym e) (get_or-set_same queued f true false f-queued))
        | inr ne ↦
            let same : is_marked queued' x ≡ is_marked queued x = get_or-set_other queued f x true false ne in
            (λ h. kept x ((q.queued_is x).0 (sym same ∙ h)), λ h. same ∙ (q.queued_is x).1 (back x ne h))
      ];
      inside = λ x h. elim h [
        | inl in-queue ↦ elim (same_or_not x f) [ inl e ↦ subst (λ (z : ℕ). z < length needs) (sym e) f-in | inr ne ↦ q.inside x (inl (back x ne in-queue)) ]
        | inr d ↦ q.inside x (inr (contains_behind f x due d))
      ];
      closed = q.closed;
      within = within-at;
      passed = λ x k lt. elim (same_or_not x f) [
        | inl e ↦
            let k-lt : k < i = let low = subst (λ (z : ℕ). k < slice_index at' z) e lt in omega (arith, low, here) in
            subst (λ (z : ℕ). Contains order (slice_index (needs_of needs z) k)) (sym e)
            (elim (cases_lt k (slice_index at f)) [ inl before ↦ q.passed f k before | inr after ↦ (q.listed_is (slice_index (needs_of needs f) k)).0 (past k after k-lt) ])
        | inr ne ↦ q.passed x k (subst (λ (n : ℕ). k < n) (there x ne) lt)
      ];
      done = λ x h. elim (same_or_not x f) [
        | inl e ↦ subst (λ (z : ℕ). slice_index at' z ≡ length (needs_of needs z)) (sym e) (here ∙ i-is)
        | inr ne ↦ there x ne ∙ q.done x (back x ne h)
      ];
      placed = λ x lt. elim (same_or_not x f) [
        | inl e ↦ inl (inl (inl (subst (λ (z : ℕ). Contains new z) (sym e) f-new)))
        | inr ne ↦ elim (q.placed x lt) [
          | inl old ↦ elim old [
            | inl in-queue ↦ inl (inl (kept x in-queue))
            | inr d ↦ elim (contains_cases f x due d) [ inl e ↦ absurd (ne e) | inr rest ↦ inl (inr rest) ]
          ]
          | inr waits ↦
              let need-is : need_at needs at' x ≡ need_at needs at x = ap (slice_index (needs_of needs x)) (there x ne) in
              inr (record {
                before_end = subst (λ (k : ℕ). k < length (needs_of needs x)) (sym (there x ne)) waits.before_end;
                unlisted = λ h. waits.unlisted (subst (λ (z : ℕ). Contains order z) need-is h);
                waits = subst (λ (z : ℕ). Contains (slice_index_or waiting z []) x) (sym need-is) waits.waits;
              })
        ]
      ];
      waiting_inside = q.waiting_inside;
      apart = λ x n o. elim (same_or_not x f) [
        | inl e ↦ out x (inr o) e
        | inr ne ↦ elim ((adds.each x).0 n) [ inl e ↦ ne e | inr r ↦ q.apart x r o ]
      ];
      once = apart_moved (f ∷ ready) new moved (AllPairs-cons (λ a b. a ≢ b) f ready (All-from_contains (λ y. f ≢ y) ready (λ y r e. out y (inl r) (sym e))) q.once);
    }

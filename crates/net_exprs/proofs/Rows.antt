-- Serves the loops: what stands in front of, or behind, what is still built.
use Rattle.std.proofs.Common.{◌≡◌, ℕ, List, [], ◌++◌, append_assoc, append-nil, refl, sym, ◌∙◌, ap, Option, Some, None}
use Rattle.net_view.specs.View.{Numbered}
use Rattle.net_words.specs.Builds.{Built, Build, onward, ◌>>=◌, return}
use Rattle.net_words.proofs.BuildLemmas.{IsLeft, begins_itself}

-- with these in front
unfoldable pub ahead : {A : Type 0} → List A → Build (List A) → Build (List A)
ahead front b = b >>= (λ rest. return (front ++ rest))

nothing_front : {A : Type 0} (o : Option (Built (List A))) → onward o (λ rest gates. Some (record { gates = gates; made = [] ++ rest })) ≡ o
nothing_front None = refl
nothing_front (Some built) = refl

ahead_nothing : {A : Type 0} (b : Build (List A)) (gates : List Numbered) → ahead [] b gates ≡ b gates
unfolding ahead ◌>>=◌ return
ahead_nothing b gates = nothing_front (b gates)

pub no_items : {A : Type 0} (all : Build (List A)) (old : List Numbered) → IsLeft all old old (ahead [] all)
no_items all old = record { front = begins_itself old; left = ahead_nothing all old }

one_piece : {A : Type 0} (front piece : List A) (o : Option (Built (List A)))
    → onward o (λ rest gates. Some (record { gates = gates; made = (front ++ piece) ++ rest }))
    ≡ onward (onward o (λ rest gates. Some (record { gates = gates; made = piece ++ rest }))) (λ rest gates. Some (record { gates = gates; made = front ++ rest }))
one_piece front piece None = refl
one_piece front piece (Some built) = ap (λ w. Some (record { gates = built.gates; made = w })) (append_assoc front piece built.made)

pieces_moved : {A X : Type 0} (front : List A) (piece : X → List A) (rest : X → Build (List A)) (o : Option (Built X))
    → onward o (λ x gates. onward (rest x gates) (λ w gates'. Some (record { gates = gates'; made = (front ++ piece x) ++ w })))
    ≡ onward (onward o (λ x gates. onward (rest x gates) (λ w gates'. Some (record { gates = gates'; made = piece x ++ w })))) (λ w gates'. Some (record { gates = gates'; made = front ++ w }))
pieces_moved front piece rest None = refl
pieces_moved front piece rest (Some built) = one_piece front (piece built.made) (rest built.made built.gates)

piece_step : {A X : Type 0} (front : List A) (b : Build X) (piece : X → List A) (rest : X → Build (List A)) (gates : List Numbered)
    → (b >>= (λ x. ahead (front ++ piece x) (rest x))) gates ≡ ahead front (b >>= (λ x. rest x >>= (λ w. return (piece x ++ w)))) gates
unfolding ahead ◌>>=◌ return
piece_step front b piece rest gates = pieces_moved front piece rest (b gates)

-- some of them, and the others behind them
pub piece_first : {A X : Type 0} {all : Build (List A)} {old now : List Numbered} (front : List A) (b : Build X) (piece : X → List A) (rest : X → Build (List A))
    → IsLeft all old now (ahead front (b >>= (λ x. rest x >>= (λ w. return (piece x ++ w))))) → IsLeft all old now (b >>= (λ x. ahead (front ++ piece x) (rest x)))
piece_first {now = now} front b piece rest is = record { front = is.front; left = piece_step front b piece rest now ∙ is.left }

nothing_behind : {A : Type 0} (front : List A) (gates : List Numbered) → return front gates ≡ ahead front (return []) gates
unfolding ahead ◌>>=◌ return
nothing_behind front gates = ap (λ w. Some (record { gates = gates; made = w })) (sym (append-nil front))

-- behind the last one
pub all_items : {A : Type 0} {all : Build (List A)} {old now : List Numbered} (front : List A) → IsLeft all old now (ahead front (return [])) → IsLeft all old now (return front)
all_items {now = now} front is = record { front = is.front; left = nothing_behind front now ∙ is.left }

-- ---- below what stands above

-- with these above
unfoldable pub under : List ℕ → Build (List ℕ) → Build (List ℕ)
under above b = b >>= (λ low. return (low ++ above))

nothing_above : (o : Option (Built (List ℕ))) → onward o (λ low gates. Some (record { gates = gates; made = low ++ [] })) ≡ o
nothing_above None = refl
nothing_above (Some built) = ap (λ w. Some (record { gates = built.gates; made = w })) (append-nil built.made)

under_nothing : (b : Build (List ℕ)) (gates : List Numbered) → under [] b gates ≡ b gates
unfolding under ◌>>=◌ return
under_nothing b gates = nothing_above (b gates)

pub no_members : (all : Build (List ℕ)) (old : List Numbered) → IsLeft all old old (under [] all)
no_members all old = record { front = begins_itself old; left = under_nothing all old }

one_member : (above top : List ℕ) (o : Option (Built (List ℕ)))
    → onward o (λ low gates. Some (record { gates = gates; made = low ++ (top ++ above) }))
    ≡ onward (onward o (λ low gates. Some (record { gates = gates; made = low ++ top }))) (λ low gates. Some (record { gates = gates; made = low ++ above }))
one_member above top None = refl
one_member above top (Some built) = ap (λ w. Some (record { gates = built.gates; made = w })) (sym (append_assoc built.made top above))

members_moved : (above : List ℕ) (rest : Build (List ℕ)) (o : Option (Built (List ℕ)))
    → onward o (λ top gates. onward (rest gates) (λ low gates'. Some (record { gates = gates'; made = low ++ (top ++ above) })))
    ≡ onward (onward o (λ top gates. onward (rest gates) (λ low gates'. Some (record { gates = gates'; made = low ++ top })))) (λ low gates'. Some (record { gates = gates'; made = low ++ above }))
members_moved above rest None = refl
members_moved above rest (Some built) = one_member above built.made (rest built.gates)

member_step : (above : List ℕ) (b rest : Build (List ℕ)) (gates : List Numbered)
    → (b >>= (λ top. under (top ++ above) rest)) gates ≡ under above (b >>= (λ top. rest >>= (λ low. return (low ++ top)))) gates
unfolding under ◌>>=◌ return
member_step above b rest gates = members_moved above rest (b gates)

pub member_first : {all : Build (List ℕ)} {old now : List Numbered} (above : List ℕ) (b rest : Build (List ℕ))
    → IsLeft all old now (under above (b >>= (λ top. rest >>= (λ low. return (low ++ top))))) → IsLeft all old now (b >>= (λ top. under (top ++ above) rest))
member_first {now = now} above b rest is = record { front = is.front; left = member_step above b rest now ∙ is.left }

nothing_below : (above : List ℕ) (gates : List Numbered) → return above gates ≡ under above (return []) gates
unfolding under ◌>>=◌ return
nothing_below above gates = refl

pub all_members : {all : Build (List ℕ)} {old now : List Numbered} (above : List ℕ) → IsLeft all old now (under above (return [])) → IsLeft all old now (return above)
all_members {now = now} above is = record { front = is.front; left = nothing_below above now ∙ is.left }

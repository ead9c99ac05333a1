-- Serves specs/Placed.antt: the clause at a place, and one clause more.
use Rattle.std.proofs.Common.{◌≡◌, ℕ, zero, suc, ◌+◌, ◌≤◌, List, [], ◌∷◌, ◌++◌, length, take, drop, refl, sym, ap, ◌∙◌, Some, arith, ℤ, length-append}
use Rattle.std.specs.Prelude.{slice_range, slice_get}
use Rattle.std.specs.Option.{option_map}
use Rattle.std.specs.List.{AllByRecursion}
use Rattle.std.proofs.lemmas.Option.{same_Some, slice_get-map}
use Rattle.sat_chain.specs.Clause.{IsClause, AreClauses}
use Rattle.sat_chain.specs.Placed.{pieces}
use Rattle.sat_chain.proofs.SoundLemmas.{by_push}
use Rattle.sat_chain.specs.declared.clauses.Place.{Place}
use Rattle.sat_chain.proofs.StoreLemmas.{range_front, range_back, parts_range}

-- a place lies in so many literals
abbrev pub Lies : ℕ → Place → Type 0
Lies end p = (p.start ≤ p.end) × (p.end ≤ end)

pub place_lies : (end : ℕ) (ps : List Place) (k : ℕ) (p : Place) → AllByRecursion (Lies end) ps → slice_get ps k ≡ Some p → Lies end p
place_lies end [] k p h is = cc
place_lies end (q ∷ ps) zero p h is = let e = same_Some q p is in (omega (arith, h.0.0, ap (λ (r : Place). r.start) e, ap (λ (r : Place). r.end) e), omega (arith, h.0.1, ap (λ (r : Place). r.end) e))
place_lies end (q ∷ ps) (suc k) p h is = place_lies end ps k p h.1 is

pub piece_at : (lits : List ℤ) (ps : List Place) (k : ℕ) (p : Place) → p.start ≤ p.end → slice_get ps k ≡ Some p → slice_get (pieces lits ps) k ≡ Some (drop p.start (take p.end lits))
piece_at lits ps k p le is = slice_get-map (λ (q : Place). slice_range lits q.start q.end) ps k ∙ ap (option_map (λ (q : Place). slice_range lits q.start q.end)) is ∙ ap (λ (r : List ℤ). Some r) (sym (parts_range p.start p.end lits le))

pub pieces_more : (lits more : List ℤ) (ps : List Place) → AllByRecursion (Lies (length lits)) ps → pieces (lits ++ more) ps ≡ pieces lits ps
pieces_more lits more [] h = refl
pieces_more lits more (p ∷ ps) h = rw (range_front p.start p.end lits more h.0.0 h.0.1, pieces_more lits more ps h.1) refl

lies_more : (end more : ℕ) (ps : List Place) → end ≤ more → AllByRecursion (Lies end) ps → AllByRecursion (Lies more) ps
lies_more end more [] le h = h
lies_more end more (p ∷ ps) le h = ((h.0.0, omega (arith, h.0.1)), lies_more end more ps le h.1)

pieces_push : (lits : List ℤ) (ps : List Place) (p : Place) → pieces lits (ps ++ p ∷ []) ≡ pieces lits ps ++ slice_range lits p.start p.end ∷ []
pieces_push lits [] p = refl
pieces_push lits (q ∷ ps) p = ap (λ r. slice_range lits q.start q.end ∷ r) (pieces_push lits ps p)

lies_push : (end : ℕ) (ps : List Place) (p : Place) → AllByRecursion (Lies end) ps → Lies end p → AllByRecursion (Lies end) (ps ++ p ∷ [])
lies_push end [] p h l = (l, h)
lies_push end (q ∷ ps) p h l = (h.0, lies_push end ps p h.1 l)

-- a clause more
pub placed_push : (lits more lits' : List ℤ) (ps ps' : List Place) (p : Place) → AllByRecursion (Lies (length lits)) ps → lits' ≡ lits ++ more → p.start ≡ length lits → p.end ≡ length lits' → ps' ≡ ps ++ p ∷ []
    → AllByRecursion (Lies (length lits')) ps' × (pieces lits' ps' ≡ pieces lits ps ++ more ∷ [])
placed_push lits more lits' ps ps' p h l-is s-is e-is p-is =
    let len : length lits' ≡ length lits + length more = ap length l-is ∙ length-append lits more in
    let range : slice_range lits' p.start p.end ≡ more = ap (λ s. slice_range lits' s p.end) s-is ∙ ap (λ e. slice_range lits' (length lits) e) e-is ∙ rw l-is (range_back lits more) in (
      rw p-is (lies_push (length lits') ps p (lies_more (length lits) (length lits') ps (omega arith) h) (omega arith, omega arith)),
      rw p-is (pieces_push lits' ps p ∙ rw range (ap (λ r. r ++ more ∷ []) (rw l-is (pieces_more lits more ps h)))),
    )

pub length-pieces : (lits : List ℤ) (ps : List Place) → length (pieces lits ps) ≡ length ps
length-pieces lits [] = refl
length-pieces lits (p ∷ ps) = omega (arith, length-pieces lits ps)

-- the same literals are the same clauses
pub placed_kept : (v : ℕ) (lits lits' : List ℤ) (ps : List Place) → lits' ≡ lits → AllByRecursion (Lies (length lits)) ps → AreClauses v (pieces lits ps) → AllByRecursion (Lies (length lits')) ps × AreClauses v (pieces lits' ps)
placed_kept v lits lits' ps is h k = rw is (h, k)

pub placed_more : (v : ℕ) (cs cs' : List (List ℤ)) (c : List ℤ) → cs' ≡ cs ++ c ∷ [] → AreClauses v cs → IsClause v c → AreClauses v cs'
placed_more v cs cs' c is h k = rw is (by_push (IsClause v) cs c h k)

-- Serves specs/LeastFirst.antt: there is at most one order, and none where there is a cycle.
use Rattle.std.proofs.Common.{◌≡◌, ◌⊎◌, inl, inr, ℕ, true, false, List, [], ◌∷◌, ◌++◌, Contains, sym, subst, ap, refl, ◌∙◌, arith}
use Rattle.std.specs.Ordering.{nat_cmp, is_lt, ordering_reverse}
use Rattle.std.specs.declared.cmp.Ordering.{Ordering}
use Rattle.std.specs.declared.cmp.Ordering.TheVariants.{Less, Equal, Greater}
use Rattle.std.specs.Cmp.Lexicographic.{slice_cmp}
use Rattle.std.proofs.lemmas.Cmp.{nat_list_cmp_total}
use Rattle.std.proofs.lemmas.List.Elements.{Contains-push_cases}
use Rattle.net_view.specs.LeastFirst.{IsOrderAfter, IsLeastFirst, IsPathTo, IsLoop}
use Rattle.net_view.specs.PinOrder.{name_of, IsNamedBefore}
use Rattle.net_view.proofs.Members.{contains_none, contains_head, contains_behind, contains_cases}

module _ (Member : ℕ → Type 0) (Depends Before : ℕ → ℕ → Type 0) where
  -- the same list, from the same start on
  pub order_once : ((n m : ℕ) → Before n m → Before m n → ⊥) → (listed a b : List ℕ) → IsOrderAfter Member Depends Before listed a → IsOrderAfter Member Depends Before listed b → a ≡ b
  order_once asym listed [] [] h k = refl
  order_once asym listed [] (m ∷ b) h k = absurd (k.0.ready.unlisted (h m k.0.ready.member))
  order_once asym listed (n ∷ a) [] h k = absurd (h.0.ready.unlisted (k n h.0.ready.member))
  order_once asym listed (n ∷ a) (m ∷ b) h k =
      let same : n ≡ m = elim (k.0.first n h.0.ready) [
        | inl e ↦ e
        | inr before ↦ elim (h.0.first m k.0.ready) [ inl e ↦ sym e | inr after ↦ absurd (asym m n before after) ]
      ] in
      let rest = subst (λ (z : ℕ). IsOrderAfter Member Depends Before (listed ++ z ∷ []) b) (sym same) k.1 in
      ap (λ (z : ℕ). z ∷ a) same ∙ ap (λ (zs : List ℕ). m ∷ zs) (order_once asym (listed ++ n ∷ []) a b h.1 rest)

  -- each of a cycle depends on another of it, or on its end
  path_next : (end : ℕ) (xs : List ℕ) (x : ℕ) → IsPathTo Member Depends Before end xs → Contains xs x → (y : ℕ) × Depends x y × (Contains xs y ⊎ (y ≡ end))
  path_next end [] x path h = absurd path
  path_next end (n ∷ []) x path h = elim (contains_cases n x [] h) [
    | inl e ↦ (end, subst (λ (z : ℕ). Depends z end) (sym e) path, inr refl)
    | inr none ↦ absurd (contains_none x none)
  ]
  path_next end (n ∷ m ∷ rest) x path h = elim (contains_cases n x (m ∷ rest) h) [
    | inl e ↦ (m, subst (λ (z : ℕ). Depends z m) (sym e) path.0, inl (contains_behind n m (m ∷ rest) (contains_head m rest)))
    | inr there ↦
        let next = path_next end (m ∷ rest) x path.1 there in
        (next.0, next.1, elim next.2 [ inl in-rest ↦ inl (contains_behind n next.0 (m ∷ rest) in-rest) | inr e ↦ inr e ])
  ]

  -- what depends on something of its own is never listed
  never_listed : (xs : List ℕ) → ((x : ℕ) → Contains xs x → (y : ℕ) × Depends x y × Contains xs y) → ((x : ℕ) → Contains xs x → Member x) → (x : ℕ) → Contains xs x
      → (listed rest : List ℕ) → ((y : ℕ) → Contains xs y → Contains listed y → ⊥) → IsOrderAfter Member Depends Before listed rest → ⊥
  never_listed xs next member x h listed [] out order = out x h (order x (member x h))
  never_listed xs next member x h listed (n ∷ rest) out order =
      never_listed xs next member x h (listed ++ n ∷ []) rest
      (λ y in-xs in-listed. elim (Contains-push_cases listed n y in-listed) [
        | inl old ↦ out y in-xs old
        | inr e ↦
            let step = next n (subst (λ (z : ℕ). Contains xs z) (sym e) in-xs) in
            out step.0 step.2 (order.0.ready.free step.0 step.1)
      ])
      order.1

  pub no_loop : ((n m : ℕ) → Depends n m → Member n) → (order loop : List ℕ) → IsLeastFirst Member Depends Before order → IsLoop Member Depends Before loop → ⊥
  no_loop member order [] least loop = loop
  no_loop member order (n ∷ rest) least loop =
      let xs = n ∷ rest in
      let next : (x : ℕ) → Contains xs x → (y : ℕ) × Depends x y × Contains xs y = λ x h.
      let step = path_next n xs x loop.0 h in
      (step.0, step.1, elim step.2 [ inl there ↦ there | inr e ↦ subst (λ (z : ℕ). Contains xs z) (sym e) (contains_head n rest) ]) in
      never_listed xs next (λ x h. let step = next x h in member x step.0 step.1) n (contains_head n rest) [] order (λ y in-xs none. contains_none y none) least

not_true : false ≡ true → ⊥
not_true e = cc

not_both_ways : (o p : Ordering) → o ≡ ordering_reverse p → is_lt o ≡ true → is_lt p ≡ true → ⊥
not_both_ways o Less e h k = not_true (subst (λ (z : Ordering). is_lt z ≡ true) e h)
not_both_ways o Equal e h k = cc
not_both_ways o Greater e h k = cc

-- of two flops at most one comes first
pub named_once : (names : List (List ℕ)) (f g : ℕ) → IsNamedBefore names f g → IsNamedBefore names g f → ⊥
named_once names f g h k =
    let a = name_of names f in
    let b = name_of names g in
    let R = slice_cmp nat_cmp in
    elim h [
      | inl lt ↦ elim k [
        | inl gt ↦ not_both_ways (R a b) (R b a) (nat_list_cmp_total.antisymm a b) lt gt
        | inr same ↦ not_both_ways (R a b) (R b a) (nat_list_cmp_total.antisymm a b) lt (subst (λ (z : List ℕ). is_lt (R b z) ≡ true) same.0 (subst (λ (z : List ℕ). is_lt (R z b) ≡ true) (sym same.0) lt))
      ]
      | inr same ↦ elim k [
        | inl gt ↦ not_both_ways (R b a) (R a b) (nat_list_cmp_total.antisymm b a) gt (subst (λ (z : List ℕ). is_lt (R a z) ≡ true) same.0 (subst (λ (z : List ℕ). is_lt (R z a) ≡ true) (sym same.0) gt))
        | inr other ↦ absurd (omega (arith, same.1, other.1))
      ]
    ]

-- Serves specs/Order.antt: what gates of a list read is in the list.
use Rattle.std.proofs.Common.{◌≡◌, inl, inr, ℕ, ◌<◌, ◌≤◌, List, [], ◌∷◌, length, Contains, Option, Some, None, refl, sym, subst, arith}
use Rattle.std.specs.Prelude.{slice_get, slice_index_or, IfSome}
use Rattle.std.proofs.lemmas.Option.{slice_get_within}
use Rattle.std.proofs.lemmas.List.{get_or_past}
use Rattle.std.proofs.lemmas.List.Elements.{All-contains}
use Rattle.std.proofs.lemmas.Bool.{cases_lt}
use Rattle.net_view.specs.declared.gate.Gate.TheVariants.{Const, Source, Not, And, Or, Xor, Pick, Lift}
use Rattle.net_view.specs.View.{Numbered}
use Rattle.net_view.proofs.Members.{contains_none, contains_cases}
use Rattle.net_gates.specs.Gates.{IsGateList, MayAdd}
use Rattle.net_order.specs.Order.{root_in, roots_in, fan_ins, reads_there, reads, AreInside}
use Rattle.net_order.proofs.Stepping.{flat_in}

one_of : (P : ℕ → Type 0) (a : ℕ) → P a → (j : ℕ) → Contains (a ∷ []) j → P j
one_of P a p j c = elim (contains_cases a j [] c) [ inl is ↦ subst P (sym is) p | inr rest ↦ absurd (contains_none j rest) ]

two_of : (P : ℕ → Type 0) (a b : ℕ) → P a → P b → (j : ℕ) → Contains (a ∷ b ∷ []) j → P j
two_of P a b p q j c = elim (contains_cases a j (b ∷ []) c) [ inl is ↦ subst P (sym is) p | inr rest ↦ one_of P b q j rest ]

root_inside : (n : ℕ) (root : Option ℕ) → IfSome root (λ k. k < n) → (j : ℕ) → Contains (root_in root) j → j < n
root_inside n None h j c = absurd (contains_none j c)
root_inside n (Some k) h j c = one_of (λ i. i < n) k h j c

pub roots_inside : (n : ℕ) (roots : List (Option ℕ)) → AreInside n roots → (j : ℕ) → Contains (roots_in roots) j → j < n
roots_inside n roots h j c = flat_in root_in (λ i. i < n) roots (λ root there i ci. root_inside n root (All-contains (λ r. IfSome r (λ k. k < n)) roots root h there) i ci) j c

root_at : (n : ℕ) (roots : List (Option ℕ)) → AreInside n roots → (b : ℕ) → IfSome (slice_index_or roots b None) (λ k. k < n)
root_at n roots h b = elim (cases_lt b (length roots)) [
  | inl lt ↦ h b None lt
  | inr past ↦ subst (λ (r : Option ℕ). IfSome r (λ k. k < n)) (sym (get_or_past roots b None past)) tt
]

gate_inside : (n k : ℕ) (roots : List (Option ℕ)) (g : Numbered) → k < n → AreInside n roots → MayAdd k g → (j : ℕ) → Contains (fan_ins roots g) j → j < n
gate_inside n k roots (Const b) lt h may j c = absurd (contains_none j c)
gate_inside n k roots (Source b) lt h may j c = root_inside n (slice_index_or roots b None) (root_at n roots h b) j c
gate_inside n k roots (Not a) lt h may j c = one_of (λ i. i < n) a (omega arith) j c
gate_inside n k roots (And a b) lt h may j c = two_of (λ i. i < n) a b (omega (arith, may.0)) (omega (arith, may.1)) j c
gate_inside n k roots (Or a b) lt h may j c = two_of (λ i. i < n) a b (omega (arith, may.0)) (omega (arith, may.1)) j c
gate_inside n k roots (Xor a b) lt h may j c = two_of (λ i. i < n) a b (omega (arith, may.0)) (omega (arith, may.1)) j c
gate_inside n k roots (Pick a b d) lt h may j c = absurd may
gate_inside n k roots (Lift a b d) lt h may j c = absurd may

there_inside : (gates : List Numbered) (roots : List (Option ℕ)) → IsGateList gates → AreInside (length gates) roots → (k : ℕ) (g : Option Numbered) → slice_get gates k ≡ g → (j : ℕ) → Contains (reads_there roots g) j → j < length gates
there_inside gates roots lawful h k None at j c = absurd (contains_none j c)
there_inside gates roots lawful h k (Some g) at j c = gate_inside (length gates) k roots g (slice_get_within gates k g at) h (lawful.each k g at) j c

pub reads_inside : (gates : List Numbered) (roots : List (Option ℕ)) → IsGateList gates → AreInside (length gates) roots → (k j : ℕ) → Contains (reads gates roots k) j → j < length gates
reads_inside gates roots lawful h k j c = there_inside gates roots lawful h k (slice_get gates k) refl j c

root_few : (root : Option ℕ) → length (root_in root) ≤ 3
root_few None = omega arith
root_few (Some k) = omega arith

gate_few : (roots : List (Option ℕ)) (g : Numbered) → length (fan_ins roots g) ≤ 3
gate_few roots (Const b) = omega arith
gate_few roots (Source b) = root_few (slice_index_or roots b None)
gate_few roots (Not a) = omega arith
gate_few roots (And a b) = omega arith
gate_few roots (Or a b) = omega arith
gate_few roots (Xor a b) = omega arith
gate_few roots (Pick a b c) = omega arith
gate_few roots (Lift a b c) = omega arith

there_few : (roots : List (Option ℕ)) (g : Option Numbered) → length (reads_there roots g) ≤ 3
there_few roots None = omega arith
there_few roots (Some g) = gate_few roots g

pub reads_few : (gates : List Numbered) (roots : List (Option ℕ)) (k : ℕ) → length (reads gates roots k) ≤ 3
reads_few gates roots k = there_few roots (slice_get gates k)

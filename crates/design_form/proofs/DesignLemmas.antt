-- What the tables of a design give.
use Rattle.std.proofs.Common.{◌≡◌, ℕ, suc, ◌+◌, ◌-◌, ◌<◌, ◌≤◌, ◌^◌, List, [], ◌∷◌, map, length, Option, Some, None, Vec, Global, refl, sym, ap, ◌∙◌, inl, inr, arith}
use Rattle.std.specs.Str.{bytes_eq}
use Rattle.std.specs.List.{slice_get}
use Rattle.std.specs.Option.{option_map}
use Rattle.std.proofs.lemmas.Bool.{cases_Bool, cond-true, cond-false}
use Rattle.std.proofs.lemmas.List.{length-map}
use Rattle.std.proofs.lemmas.Option.{slice_get-map}
use Rattle.design_form.specs.declared.signal.Signal.{Signal}
use Rattle.design_form.specs.Numbers.{printed, bits_of, index_from, index_of, numbers_of, signal_of}
use Rattle.design_form.specs.Tables.{AreTables}
use Rattle.design_form.proofs.NameLemmas.{length-entered, signals-printed}

pub few-names : (ss : List Signal) (names : List (Vec ℕ Global)) (b p : List ℕ → Option ℕ) (ns : List (List ℕ)) → AreTables ss (map (λ n. n.items) names) b p ns → length names < 2 ^ 32
few-names ss names b p ns t = omega (arith, length-map names (λ (n : Vec ℕ Global). n.items), ap length t.names_are, length-entered [] (printed ss), t.few)

-- where a signal's name stands, the signal stands
pub found-at : (k : ℕ) (ss : List Signal) (name : List ℕ) (i : ℕ) → index_from k (map (λ s. s.name) ss) name ≡ Some i → (k ≤ i) × (slice_get ss (i - k) ≡ signal_of ss name)
unfolding index_from signal_of
found-at k [] name i e = absurd cc
found-at k (s ∷ ss) name i e =
    elim (cases_Bool (bytes_eq name s.name)) [
      | inl same ↦
          let here : Some k ≡ Some i = sym (cond-true (bytes_eq name s.name) (Some k) (index_from (k + 1) (map (λ s. s.name) ss) name) same) ∙ e in
          let is : k ≡ i = cc in
          let none : i - k ≡ 0 = omega arith in
          (omega arith, ap (slice_get (s ∷ ss)) none ∙ sym (cond-true (bytes_eq name s.name) (Some s) (signal_of ss name) same))
      | inr other ↦
          let later : index_from (k + 1) (map (λ s. s.name) ss) name ≡ Some i = sym (cond-false (bytes_eq name s.name) (Some k) (index_from (k + 1) (map (λ s. s.name) ss) name) other) ∙ e in
          let rest = found-at (k + 1) ss name i later in
          let least = rest.0 in
          let one : i - k ≡ suc (i - (k + 1)) = omega arith in
          (omega arith, ap (slice_get (s ∷ ss)) one ∙ rest.1 ∙ sym (cond-false (bytes_eq name s.name) (Some s) (signal_of ss name) other))
    ]

pub found-nowhere : (k : ℕ) (ss : List Signal) (name : List ℕ) → index_from k (map (λ s. s.name) ss) name ≡ None → signal_of ss name ≡ None
unfolding index_from signal_of
found-nowhere k [] name e = refl
found-nowhere k (s ∷ ss) name e =
    elim (cases_Bool (bytes_eq name s.name)) [
      | inl same ↦ let here : Some k ≡ None = sym (cond-true (bytes_eq name s.name) (Some k) (index_from (k + 1) (map (λ s. s.name) ss) name) same) ∙ e in absurd cc
      | inr other ↦
          let later : index_from (k + 1) (map (λ s. s.name) ss) name ≡ None = sym (cond-false (bytes_eq name s.name) (Some k) (index_from (k + 1) (map (λ s. s.name) ss) name) other) ∙ e in
          cond-false (bytes_eq name s.name) (Some s) (signal_of ss name) other ∙ found-nowhere (k + 1) ss name later
    ]

-- the signal where its name stands
pub signal-at : (ss : List Signal) (p : List ℕ → Option ℕ) (name : List ℕ) (i : ℕ) → p ≡ index_of (map (λ s. s.name) ss) → p name ≡ Some i → slice_get ss i ≡ signal_of ss name
signal-at ss p name i are is =
    let at = found-at 0 ss name i (sym (ap (λ (f : List ℕ → Option ℕ). f name) are) ∙ is) in
    let e : i - 0 ≡ i = omega arith in
    sym (ap (slice_get ss) e) ∙ at.1

pub signal-nowhere : (ss : List Signal) (p : List ℕ → Option ℕ) (name : List ℕ) → p ≡ index_of (map (λ s. s.name) ss) → p name ≡ None → signal_of ss name ≡ None
signal-nowhere ss p name are is = found-nowhere 0 ss name (sym (ap (λ (f : List ℕ → Option ℕ). f name) are) ∙ is)

-- its numbers stand there too
pub numbers-at : (ss : List Signal) (numbers : List (Vec ℕ Global)) (p : List ℕ → Option ℕ) (name : List ℕ) (i : ℕ) → map (λ n. n.items) numbers ≡ map (numbers_of ss) ss → p ≡ index_of (map (λ s. s.name) ss) → p name ≡ Some i
    → option_map (λ n. n.items) (slice_get numbers i) ≡ option_map (numbers_of ss) (signal_of ss name)
numbers-at ss numbers p name i all are is =
    sym (slice_get-map (λ (n : Vec ℕ Global). n.items) numbers i) ∙ ap (λ (xs : List (List ℕ)). slice_get xs i) all ∙ slice_get-map (numbers_of ss) ss i
    ∙ ap (option_map (numbers_of ss)) (signal-at ss p name i are is)

-- ---- what a new design needs

pub few-sorted : (ss : List Signal) (names : List (Vec ℕ Global)) → map (λ n. n.items) names ≡ bits_of ss → length (printed ss) < 2 ^ 32 → length names < 2 ^ 32
few-sorted ss names are few = omega (arith, length-map names (λ (n : Vec ℕ Global). n.items), ap length are, length-entered [] (printed ss))

pub few-signals : (ss : List Signal) (names : List (Vec ℕ Global)) → map (λ n. n.items) names ≡ map (λ s. s.name) ss → length (printed ss) < 2 ^ 32 → length names < 2 ^ 32
few-signals ss names are few = omega (arith, length-map names (λ (n : Vec ℕ Global). n.items), ap length are, length-map ss (λ (s : Signal). s.name), signals-printed ss)

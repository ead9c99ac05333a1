-- Serves specs/SmallNet.antt: what is laid out so is a net.
use Rattle.std.proofs.Common.{◌≡◌, ℕ, zero, suc, ◌+◌, ◌<◌, ◌≤◌, Bool, true, ◌&&◌, nat_eq, nat_lt, nat_le, List, [], ◌∷◌, length, sym, ap, ◌∙◌, subst, inl, inr, arith}
use Rattle.std.proofs.lemmas.Bool.{and_parts, eqb-true, ltb-true, leb-true}
use Rattle.std.proofs.lemmas.Option.{slice_get_cases, same_Some}
use Rattle.net_view.specs.declared.gate.Gate.TheVariants.{Const, Source, Not, And, Or, Xor, Pick, Lift}
use Rattle.net_view.specs.View.{Numbered, Reads, IsGateAt, IsNet}
use Rattle.tern_cnf.specs.Asked.{AreSources}
use Rattle.solve_tests.specs.SmallNet.{is_placed, is_laid_out, are_sources}

laid_at : (sources k : ℕ) (gs : List Numbered) → is_laid_out sources k gs ≡ true → (j i : ℕ) (g : Numbered) → i ≡ k + j → IsGateAt gs j g → is_placed sources i g ≡ true
laid_at sources k [] h j i g is there = cc
laid_at sources k (f ∷ gs) h zero i g is there =
    let same : k ≡ i = omega arith in
    subst (λ (e : Numbered). is_placed sources i e ≡ true) (same_Some f g there) (subst (λ (n : ℕ). is_placed sources n f ≡ true) same (and_parts (is_placed sources k f) (is_laid_out sources (k + 1) gs) h).0)
laid_at sources k (f ∷ gs) h (suc j) i g is there = laid_at sources (k + 1) gs (and_parts (is_placed sources k f) (is_laid_out sources (k + 1) gs) h).1 j i g (omega arith) there

laid_long : (sources k : ℕ) (gs : List Numbered) → is_laid_out sources k gs ≡ true → sources ≤ k + length gs
laid_long sources k [] h = omega (arith, leb-true sources k h)
laid_long sources k (f ∷ gs) h = omega (arith, laid_long sources (k + 1) gs (and_parts (is_placed sources k f) (is_laid_out sources (k + 1) gs) h).1)

placed_reads : (sources k : ℕ) (g : Numbered) → is_placed sources k g ≡ true → Reads (λ j. j < k) (λ s. s < sources) g
placed_reads sources k (Const b) h = tt
placed_reads sources k (Source s) h = let p = and_parts (nat_eq s k) (nat_lt k sources) h in omega (arith, eqb-true s k p.0, ltb-true k sources p.1)
placed_reads sources k (Not a) h = ltb-true a k (and_parts (nat_le sources k) (nat_lt a k) h).1
placed_reads sources k (And a b) h = let p = and_parts (nat_lt a k) (nat_lt b k) (and_parts (nat_le sources k) (nat_lt a k && nat_lt b k) h).1 in (ltb-true a k p.0, ltb-true b k p.1)
placed_reads sources k (Or a b) h = let p = and_parts (nat_lt a k) (nat_lt b k) (and_parts (nat_le sources k) (nat_lt a k && nat_lt b k) h).1 in (ltb-true a k p.0, ltb-true b k p.1)
placed_reads sources k (Xor a b) h = let p = and_parts (nat_lt a k) (nat_lt b k) (and_parts (nat_le sources k) (nat_lt a k && nat_lt b k) h).1 in (ltb-true a k p.0, ltb-true b k p.1)
placed_reads sources k (Pick c a b) h =
    let q = and_parts (nat_lt c k) (nat_lt a k && nat_lt b k) (and_parts (nat_le sources k) (nat_lt c k && (nat_lt a k && nat_lt b k)) h).1 in
    let p = and_parts (nat_lt a k) (nat_lt b k) q.1 in
    (ltb-true c k q.0, ltb-true a k p.0, ltb-true b k p.1)
placed_reads sources k (Lift c a r) h = let p = and_parts (nat_lt c k) (nat_lt a k) (and_parts (nat_le sources k) (nat_lt c k && nat_lt a k) h).1 in (ltb-true c k p.0, ltb-true a k p.1)

abbrev source_gate : ℕ → Numbered
source_gate s = Source s

beyond : (sources k : ℕ) (rest : Bool) (P : Type 0) → k < sources → (nat_le sources k && rest) ≡ true → P
beyond sources k rest P lt h = let le = leb-true sources k (and_parts (nat_le sources k) rest h).0 in absurd (omega arith)

placed_source : (sources k : ℕ) (g : Numbered) → k < sources → is_placed sources k g ≡ true → g ≡ Source k
placed_source sources k (Const b) lt h = let le = leb-true sources k h in absurd (omega arith)
placed_source sources k (Source s) lt h = ap source_gate (eqb-true s k (and_parts (nat_eq s k) (nat_lt k sources) h).0)
placed_source sources k (Not a) lt h = beyond sources k _ _ lt h
placed_source sources k (And a b) lt h = beyond sources k _ _ lt h
placed_source sources k (Or a b) lt h = beyond sources k _ _ lt h
placed_source sources k (Xor a b) lt h = beyond sources k _ _ lt h
placed_source sources k (Pick c a b) lt h = beyond sources k _ _ lt h
placed_source sources k (Lift c a r) lt h = beyond sources k _ _ lt h

source_at : (sources : ℕ) (gs : List Numbered) (s : ℕ) → is_laid_out sources 0 gs ≡ true → s < sources → IsGateAt gs s (Source s)
source_at sources gs s h lt =
    let long = laid_long sources 0 gs h in
    elim (slice_get_cases gs s).1 [
      | inl here ↦ subst (λ (e : Numbered). IsGateAt gs s e) (placed_source sources s here.0 lt (laid_at sources 0 gs h s s here.0 (omega arith) here.2)) here.2
      | inr past ↦ absurd (omega (arith, past.0))
    ]

own_number : (sources : ℕ) (gs : List Numbered) (k s : ℕ) → is_laid_out sources 0 gs ≡ true → IsGateAt gs k (Source s) → s ≡ k
own_number sources gs k s h there = eqb-true s k (and_parts (nat_eq s k) (nat_lt k sources) (laid_at sources 0 gs h k k (Source s) (omega arith) there)).0

pub laid_net : (sources : ℕ) (gs : List Numbered) → is_laid_out sources 0 gs ≡ true → IsNet gs sources
laid_net sources gs h = record {
  lower = λ k g there. placed_reads sources k g (laid_at sources 0 gs h k k g (omega arith) there);
  placed = λ s lt. (s, source_at sources gs s h lt);
  once = λ j k s one two. sym (own_number sources gs j s h one) ∙ own_number sources gs k s h two;
}

-- numbers below that of the sources are those of sources
pub laid_sources : (sources : ℕ) (gs : List Numbered) (ks : List ℕ) → is_laid_out sources 0 gs ≡ true → are_sources sources ks ≡ true → AreSources gs ks
laid_sources sources gs [] h all = tt
laid_sources sources gs (k ∷ ks) h all = let p = and_parts (nat_lt k sources) (are_sources sources ks) all in ((k, source_at sources gs k h (ltb-true k sources p.0)), laid_sources sources gs ks h p.1)

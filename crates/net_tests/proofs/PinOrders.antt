-- The pin orders of the two small nets.
use Rattle.std.proofs.Common.{◌≡◌, ℕ, zero, suc, Bool, true, false, ◌||◌, ◌==◌, IsTrue, List, [], ◌∷◌, Option, Some, None, Contains, refl, sym, inl, inr, ap, ◌∙◌, subst}
use Rattle.run_model.specs.Machine.{Pin, FlopMeaning, AFlop, Machine}
use Rattle.run_model.specs.Laws.{ReadsNone, IsOrdered}
use Rattle.run_model.specs.Netlist.{Netlist, net_of, node_logic, flop_meaning, sources_of, level_of, machine_of, reads_within}
use Rattle.run_model.specs.ExampleNet.{example_netlist, example_resets, example_flop}
use Rattle.net_tests.specs.TreeNet.{tree_gates, tree_names, tree_flop, tree_kinds, tree_bits}
use Rattle.run_model.proofs.Places.{contains_split, contains_here, contains_later, contains_none}

-- whether a test passes some number of a list
abbrev passes_any : (ℕ → Bool) → List ℕ → Bool
passes_any test [] = false
passes_any test (k ∷ ks) = test k || passes_any test ks

fails_first : (a b : Bool) → (a || b) ≡ false → a ≡ false
fails_first true b e = absurd (cc)
fails_first false b e = refl

fails_later : (a b : Bool) → (a || b) ≡ false → b ≡ false
fails_later true b e = absurd (cc)
fails_later false b e = e

passes_none : (test : ℕ → Bool) (ks : List ℕ) → passes_any test ks ≡ false → (k : ℕ) → Contains ks k → IsTrue (test k) → ⊥
passes_none test [] e k c h = contains_none k c
passes_none test (j ∷ js) e k c h = elim (contains_split js j k c) [
  | inl same ↦ let here : test j ≡ false = fails_first (test j) (passes_any test js) e in let there : test j ≡ true = subst (λ i. test i ≡ true) same h in absurd (cc)
  | inr later ↦ passes_none test js (fails_later (test j) (passes_any test js) e) k later h
]

unlisted : (ks : List ℕ) (n : ℕ) → passes_any (λ k. k == n) ks ≡ false → (n == n) ≡ true → Contains ks n → ⊥
unlisted ks n e same c = passes_none (λ k. k == n) ks e n c same

same_pin : (f g : FlopMeaning) (p q : Pin) → AFlop f ≡ AFlop g → f.pin ≡ Some p → g.pin ≡ Some q → p ≡ q
same_pin f g p q same at_f at_g =
    let flops : f ≡ g = cc in
    let pins : Some p ≡ Some q = sym at_f ∙ ap (λ h. h.pin) flops ∙ at_g in cc

-- the pin of a flop reads none of these
by_cone : (m : Machine) (n : ℕ) (f : FlopMeaning) (p : Pin) → m.source n ≡ AFlop f → f.pin ≡ Some p → (ks : List ℕ) → passes_any p.logic.cone ks ≡ false → ReadsNone m n ks
by_cone m n f p is pin ks e = λ g q k has c reads.
    let same : q ≡ p = same_pin g f q p (sym has.flop ∙ is) has.pin pin in
    passes_none p.logic.cone ks e k c (subst (λ r. IsTrue (r.logic.cone k)) same reads)

no_pin : (f g : FlopMeaning) (q : Pin) → AFlop f ≡ AFlop g → f.pin ≡ None → g.pin ≡ Some q → ⊥
no_pin f g q same none some =
    let flops : f ≡ g = cc in
    let pins : None ≡ Some q = sym none ∙ ap (λ h. h.pin) flops ∙ some in cc

without_pin : (m : Machine) (n : ℕ) (f : FlopMeaning) → m.source n ≡ AFlop f → f.pin ≡ None → (ks : List ℕ) → ReadsNone m n ks
without_pin m n f is none ks = λ g q k has c reads. no_pin f g q (sym is ∙ has.flop) none has.pin

-- the net of the tests, with h declared active high and p active low
abbrev pub tree_netlist : Netlist
tree_netlist = net_of tree_gates tree_names tree_kinds tree_bits

abbrev pub tree_resets : List (ℕ × Bool)
tree_resets = (3, true) ∷ (5, false) ∷ []

abbrev tree_machine : Machine
tree_machine = machine_of tree_netlist (level_of tree_resets) (λ n. None) (2 ∷ 4 ∷ 6 ∷ 7 ∷ 8 ∷ [])

abbrev pin_at : ℕ → Bool → ℕ → Option ℕ → Pin
pin_at node high root copied = record { logic = node_logic tree_netlist.gates node; high = high; root = root; copied = copied }

tree_n : ReadsNone tree_machine 4 (4 ∷ 6 ∷ 7 ∷ 8 ∷ [])
unfolding reads_within
tree_n = by_cone tree_machine 4 (flop_meaning tree_netlist 4 (tree_flop false 7 (Some 3) true true 0)) (pin_at 3 true 0 (Some 3)) refl refl (4 ∷ 6 ∷ 7 ∷ 8 ∷ []) refl

tree_s : ReadsNone tree_machine 6 (6 ∷ 7 ∷ 8 ∷ [])
unfolding reads_within
tree_s = by_cone tree_machine 6 (flop_meaning tree_netlist 6 (tree_flop true 1 (Some 5) false false 1)) (pin_at 5 false 1 (Some 5)) refl refl (6 ∷ 7 ∷ 8 ∷ []) refl

tree_t : ReadsNone tree_machine 7 (7 ∷ 8 ∷ [])
unfolding reads_within
tree_t = by_cone tree_machine 7 (flop_meaning tree_netlist 7 (tree_flop true 2 (Some 10) false false 2)) (pin_at 10 false 2 None) refl refl (7 ∷ 8 ∷ []) refl

tree_u : ReadsNone tree_machine 8 (8 ∷ [])
unfolding reads_within
tree_u = by_cone tree_machine 8 (flop_meaning tree_netlist 8 (tree_flop true 1 (Some 6) false false 3)) (pin_at 6 false 3 (Some 6)) refl refl (8 ∷ []) refl

tree_listed : (n : ℕ) (f : FlopMeaning) → sources_of tree_netlist n ≡ AFlop f → Contains (2 ∷ 4 ∷ 6 ∷ 7 ∷ 8 ∷ []) n
tree_listed zero f is = absurd (cc)
tree_listed (suc zero) f is = absurd (cc)
tree_listed (suc (suc zero)) f is = contains_here (4 ∷ 6 ∷ 7 ∷ 8 ∷ []) 2
tree_listed (suc (suc (suc zero))) f is = absurd (cc)
tree_listed (suc (suc (suc (suc zero)))) f is = contains_later (4 ∷ 6 ∷ 7 ∷ 8 ∷ []) 2 4 (contains_here (6 ∷ 7 ∷ 8 ∷ []) 4)
tree_listed (suc (suc (suc (suc (suc zero))))) f is = absurd (cc)
tree_listed (suc (suc (suc (suc (suc (suc zero)))))) f is =
    contains_later (4 ∷ 6 ∷ 7 ∷ 8 ∷ []) 2 6 (contains_later (6 ∷ 7 ∷ 8 ∷ []) 4 6 (contains_here (7 ∷ 8 ∷ []) 6))
tree_listed (suc (suc (suc (suc (suc (suc (suc zero))))))) f is =
    contains_later (4 ∷ 6 ∷ 7 ∷ 8 ∷ []) 2 7 (contains_later (6 ∷ 7 ∷ 8 ∷ []) 4 7 (contains_later (7 ∷ 8 ∷ []) 6 7 (contains_here (8 ∷ []) 7)))
tree_listed (suc (suc (suc (suc (suc (suc (suc (suc zero)))))))) f is =
    contains_later (4 ∷ 6 ∷ 7 ∷ 8 ∷ []) 2 8 (contains_later (6 ∷ 7 ∷ 8 ∷ []) 4 8 (contains_later (7 ∷ 8 ∷ []) 6 8 (contains_later (8 ∷ []) 7 8 (contains_here [] 8))))
tree_listed (suc (suc (suc (suc (suc (suc (suc (suc (suc k))))))))) f is = absurd (cc)

pub tree_ordered : IsOrdered (machine_of tree_netlist (level_of tree_resets) (λ n. None) (2 ∷ 4 ∷ 6 ∷ 7 ∷ 8 ∷ []))
tree_ordered = record {
  pins = (
    without_pin tree_machine 2 (flop_meaning tree_netlist 2 (tree_flop true 1 None false false 0)) refl refl (2 ∷ 4 ∷ 6 ∷ 7 ∷ 8 ∷ []),
    unlisted (4 ∷ 6 ∷ 7 ∷ 8 ∷ []) 2 refl refl,
    (tree_n, unlisted (6 ∷ 7 ∷ 8 ∷ []) 4 refl refl, (tree_s, unlisted (7 ∷ 8 ∷ []) 6 refl refl, (tree_t, unlisted (8 ∷ []) 7 refl refl, (tree_u, unlisted [] 8 refl refl, tt)))),
  );
  listed = tree_listed;
}

abbrev example_machine : Machine
example_machine = machine_of example_netlist (level_of example_resets) (λ n. None) (0 ∷ 4 ∷ [])

example_a : ReadsNone example_machine 0 (0 ∷ 4 ∷ [])
unfolding reads_within
example_a = by_cone example_machine 0 (flop_meaning example_netlist 0 (example_flop 1 3 5 0)) (record { logic = node_logic example_netlist.gates 5; high = false; root = 0; copied = Some 5 }) refl refl (0 ∷ 4 ∷ []) refl

example_q : ReadsNone example_machine 4 (4 ∷ [])
unfolding reads_within
example_q = by_cone example_machine 4 (flop_meaning example_netlist 4 (example_flop 2 0 6 1)) (record { logic = node_logic example_netlist.gates 6; high = false; root = 1; copied = Some 6 }) refl refl (4 ∷ []) refl

example_listed : (n : ℕ) (f : FlopMeaning) → sources_of example_netlist n ≡ AFlop f → Contains (0 ∷ 4 ∷ []) n
example_listed zero f is = contains_here (4 ∷ []) 0
example_listed (suc zero) f is = absurd (cc)
example_listed (suc (suc zero)) f is = absurd (cc)
example_listed (suc (suc (suc zero))) f is = absurd (cc)
example_listed (suc (suc (suc (suc zero)))) f is = contains_later (4 ∷ []) 0 4 (contains_here [] 4)
example_listed (suc (suc (suc (suc (suc zero))))) f is = absurd (cc)
example_listed (suc (suc (suc (suc (suc (suc zero)))))) f is = absurd (cc)
example_listed (suc (suc (suc (suc (suc (suc (suc k))))))) f is = absurd (cc)

pub example_ordered : IsOrdered (machine_of example_netlist (level_of example_resets) (λ n. None) (0 ∷ 4 ∷ []))
example_ordered = record {
  pins = (example_a, unlisted (4 ∷ []) 0 refl refl, (example_q, unlisted [] 4 refl refl, tt));
  listed = example_listed;
}

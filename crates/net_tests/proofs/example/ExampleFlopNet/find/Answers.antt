use Rattle.std.proofs.Common.{◌≡◌, ℕ, List, [], ◌∷◌, get_or, refl, sym, ap, ◌∙◌, inl, inr, arith}
use Rattle.std.proofs.lemmas.Slice.Eq.{bytes_eq-Decides}
use Rattle.net_tests.proofs.ExampleNetLemmas.{bit_ra, bit_rb, bit_found}
use Rattle.net_tests.proofs.example.ExampleFlopNet.find.Goals as goal

other_names : (name : List ℕ) → name ≡ 114 ∷ 98 ∷ [] → bit_ra.name ≡ name → ⊥
other_names name rb ra = let e : ◌≡◌ {A = ℕ} 97 98 = ap (λ (l : List ℕ). get_or l 1 0) (ra ∙ rb) in omega arith

pub returns-then-eq : goal.returns-then-eq
returns-then-eq c =
    let named = (bytes_eq-Decides c.args.name.now (114 ∷ 97 ∷ [])).0 (sym c.if-eq.ensures) in
    ((bit_ra, refl, sym named), λ k bit below is same. omega arith)

pub returns-then-eq-2 : goal.returns-then-eq-2
returns-then-eq-2 c =
    let named = (bytes_eq-Decides c.args.name.now (114 ∷ 98 ∷ [])).0 (sym c.if-eq-2.ensures) in (
      (bit_rb, refl, sym named),
      λ k bit below is same. elim (bit_found k bit is) [
        | inl x ↦ other_names c.args.name.now named (sym (ap (λ b. b.name) x.1) ∙ same)
        | inr x ↦ omega (arith, x.0)
      ],
    )

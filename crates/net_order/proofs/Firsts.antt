-- Serves specs/Order.antt: lists of which each member is kept where it stands first.
use Rattle.std.proofs.Common.{◌≡◌, inl, inr, ℕ, Bool, List, [], ◌∷◌, ◌++◌, Contains, refl, sym, ap, subst, ◌∙◌}
use Rattle.std.specs.Prelude.{if◌then◌else◌}
use Rattle.std.proofs.lemmas.Bool.{cases_eq, eq-eqb}
use Rattle.std.proofs.lemmas.Bool.Decides.{eqb_tells}
use Rattle.net_view.proofs.Members.{contains_none, contains_head, contains_behind, contains_cases}
use Rattle.net_order.specs.Order.{without, firsts}

without_same : (x y : ℕ) (ys : List ℕ) → x ≡ y → without x (y ∷ ys) ≡ without x ys
without_same x y ys e = ap (λ (b : Bool). if b then without x ys else (y ∷ without x ys)) (eq-eqb x y e)

without_other : (x y : ℕ) (ys : List ℕ) → (x ≡ y → ⊥) → without x (y ∷ ys) ≡ y ∷ without x ys
without_other x y ys ne = elim (eqb_tells x y) [
  | inl t ↦ absurd (ne t.1)
  | inr f ↦ ap (λ (b : Bool). if b then without x ys else (y ∷ without x ys)) f.0
]

without_again : (x : ℕ) (ys : List ℕ) → without x (without x ys) ≡ without x ys
without_again x [] = refl
without_again x (y ∷ ys) = elim (cases_eq x y) [
  | inl e ↦ ap (without x) (without_same x y ys e) ∙ without_again x ys ∙ sym (without_same x y ys e)
  | inr ne ↦ ap (without x) (without_other x y ys ne) ∙ without_other x y (without x ys) ne ∙ ap (λ (zs : List ℕ). y ∷ zs) (without_again x ys) ∙ sym (without_other x y ys ne)
]

without_swap : (x y : ℕ) (zs : List ℕ) → without x (without y zs) ≡ without y (without x zs)
without_swap x y [] = refl
without_swap x y (z ∷ zs) = elim (cases_eq x z) [
  | inl e ↦ elim (cases_eq y z) [
    | inl f ↦ ap (without x) (without_same y z zs f) ∙ without_swap x y zs ∙ sym (ap (without y) (without_same x z zs e))
    | inr nf ↦ ap (without x) (without_other y z zs nf) ∙ without_same x z (without y zs) e ∙ without_swap x y zs ∙ sym (ap (without y) (without_same x z zs e))
  ]
  | inr ne ↦ elim (cases_eq y z) [
    | inl f ↦ ap (without x) (without_same y z zs f) ∙ without_swap x y zs ∙ sym (without_same y z (without x zs) f) ∙ sym (ap (without y) (without_other x z zs ne))
    | inr nf ↦ ap (without x) (without_other y z zs nf) ∙ without_other x z (without y zs) ne ∙ ap (λ (ws : List ℕ). z ∷ ws) (without_swap x y zs) ∙ sym (without_other y z (without x zs) nf) ∙ sym (ap (without y) (without_other x z zs ne))
  ]
]

firsts_again : (x : ℕ) (ys zs : List ℕ) → without x (firsts (ys ++ x ∷ zs)) ≡ without x (firsts (ys ++ zs))
firsts_again x [] zs = without_same x x (without x (firsts zs)) refl ∙ without_again x (firsts zs)
firsts_again x (y ∷ ys) zs =
    let a : List ℕ = firsts (ys ++ x ∷ zs) in
    let b : List ℕ = firsts (ys ++ zs) in
    let inner : without x (without y a) ≡ without x (without y b) = without_swap x y a ∙ ap (without y) (firsts_again x ys zs) ∙ without_swap y x b in
    elim (cases_eq x y) [
      | inl e ↦ without_same x y (without y a) e ∙ inner ∙ sym (without_same x y (without y b) e)
      | inr ne ↦ without_other x y (without y a) ne ∙ ap (λ (ws : List ℕ). y ∷ ws) inner ∙ sym (without_other x y (without y b) ne)
    ]

-- a member that stands before adds nothing
in_already : (done : List ℕ) (x : ℕ) (xs : List ℕ) → Contains done x → firsts (done ++ x ∷ xs) ≡ firsts (done ++ xs)
in_already [] x xs h = absurd (contains_none x h)
in_already (d ∷ ds) x xs h = elim (contains_cases d x ds h) [
  | inl e ↦ ap (λ (ws : List ℕ). d ∷ ws) (subst (λ (z : ℕ). without d (firsts (ds ++ z ∷ xs)) ≡ without d (firsts (ds ++ xs))) (sym e) (firsts_again d ds xs))
  | inr there ↦ ap (λ (ws : List ℕ). d ∷ without d ws) (in_already ds x xs there)
]

pub all_already : (done p xs : List ℕ) → ((x : ℕ) → Contains p x → Contains done x) → firsts (done ++ (p ++ xs)) ≡ firsts (done ++ xs)
all_already done [] xs h = refl
all_already done (x ∷ p) xs h = in_already done x (p ++ xs) (h x (contains_head x p)) ∙ all_already done p xs (λ y c. h y (contains_behind x y p c))

without_push : (x k : ℕ) (ys : List ℕ) → (x ≡ k → ⊥) → without x (ys ++ k ∷ []) ≡ without x ys ++ k ∷ []
without_push x k [] ne = without_other x k [] ne
without_push x k (y ∷ ys) ne = elim (cases_eq x y) [
  | inl e ↦ without_same x y (ys ++ k ∷ []) e ∙ without_push x k ys ne ∙ sym (ap (λ (ws : List ℕ). ws ++ k ∷ []) (without_same x y ys e))
  | inr other ↦ without_other x y (ys ++ k ∷ []) other ∙ ap (λ (ws : List ℕ). y ∷ ws) (without_push x k ys ne) ∙ sym (ap (λ (ws : List ℕ). ws ++ k ∷ []) (without_other x y ys other))
]

-- a new member comes behind those that were there
pub firsts_push : (done : List ℕ) (k : ℕ) → (Contains done k → ⊥) → firsts (done ++ k ∷ []) ≡ firsts done ++ k ∷ []
firsts_push [] k new = refl
firsts_push (d ∷ ds) k new =
    ap (λ (ws : List ℕ). d ∷ without d ws) (firsts_push ds k (λ h. new (contains_behind d k ds h)))
    ∙ ap (λ (ws : List ℕ). d ∷ ws) (without_push d k (firsts ds) (λ e. new (subst (λ (z : ℕ). Contains (d ∷ ds) z) e (contains_head d ds))))

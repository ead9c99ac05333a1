-- A module has at most one design.
use Rattle.std.proofs.Common.{◌≡◌, ◌⊎◌, inl, inr, ℕ, Bool, true, false, List, [], ◌∷◌, map, Option, Some, None, refl, sym, ap, subst, ◌∙◌}
use Rattle.std.specs.List.{AllByRecursion}
use Rattle.thin_tree.specs.Tree as tree
use Rattle.thin_tree.specs.Tree.{Expr, Name, Brackets, Assignment, Process, Module}
use Rattle.thin_form.specs.Formula as formula
use Rattle.thin_form.specs.Formula.{Formula}
use Rattle.thin_form.specs.Design.{Flop, Kind, Register, Source, Wire, Design, names}
use Rattle.thin_form.specs.Meaning.{place, value_for, process_for, IsFormulaOf, a_source, a_wire, brackets, negation, both, either, IsFlopOf, IsKindOf, IsDesignOf}
use Rattle.thin_form.specs.Rules.{is_among, processes, assignments}
use Rattle.thin_form.proofs.Sorting.{one_order}

module _ (ns : List (List ℕ)) (assigns : List Assignment) where
  -- what a formula is, by its expression
  abbrev Inverts : Expr → Formula → Type 0
  Inverts (Name n) f = ((is_among n ns ≡ true) × (f ≡ formula.Source (place ns n))) ⊎ ((is_among n ns ≡ false) × ((v : Expr) × (value_for n assigns ≡ Some v) × IsFormulaOf ns assigns v f))
  Inverts (Brackets a) f = IsFormulaOf ns assigns a f
  Inverts (tree.Not a) f = (x : Formula) × (f ≡ formula.Not x) × IsFormulaOf ns assigns a x
  Inverts (tree.And a b) f = (x : Formula) × (y : Formula) × (f ≡ formula.And x y) × IsFormulaOf ns assigns a x × IsFormulaOf ns assigns b y
  Inverts (tree.Or a b) f = (x : Formula) × (y : Formula) × (f ≡ formula.Or x y) × IsFormulaOf ns assigns a x × IsFormulaOf ns assigns b y

  invert : (e : Expr) (f : Formula) → IsFormulaOf ns assigns e f → Inverts e f
  invert _ _ (a_source n h) = inl (h, refl)
  invert _ _ (a_wire n v f absent found x) = inr (absent, (v, found, x))
  invert _ _ (brackets a f x) = x
  invert _ _ (negation a f x) = (f, refl, x)
  invert _ _ (both a b f g x y) = (f, g, refl, x, y)
  invert _ _ (either a b f g x y) = (f, g, refl, x, y)

  pub one_formula : (e : Expr) (f : Formula) → IsFormulaOf ns assigns e f → (g : Formula) → IsFormulaOf ns assigns e g → f ≡ g
  one_formula _ _ (a_source n h) g y = elim (invert (Name n) g y) [ inl is ↦ sym is.1 | inr wire ↦ absurd (let there : is_among n ns ≡ true = h in let absent = wire.0 in cc) ]
  one_formula _ _ (a_wire n v f absent found x) g y = elim (invert (Name n) g y) [
    | inl is ↦ absurd (let there = is.0 in cc)
    | inr wire ↦
        let also = wire.1.1 in
        let same : wire.1.0 ≡ v = cc in
        one_formula v f x g (subst (λ (e : Expr). IsFormulaOf ns assigns e g) same wire.1.2)
  ]
  one_formula _ _ (brackets a f x) g y = one_formula a f x g (invert (Brackets a) g y)
  one_formula _ _ (negation a f x) g y = let is = invert (tree.Not a) g y in ap formula.Not (one_formula a f x is.0 is.2) ∙ sym is.1
  one_formula _ _ (both a b f h x z) g y =
      let is = invert (tree.And a b) g y in
      let first = one_formula a f x is.0 is.3 in
      let second = one_formula b h z is.1 is.4 in
      ap (λ (p : Formula). formula.And p h) first ∙ ap (formula.And is.0) second ∙ sym is.2
  one_formula _ _ (either a b f h x z) g y =
      let is = invert (tree.Or a b) g y in
      let first = one_formula a f x is.0 is.3 in
      let second = one_formula b h z is.1 is.4 in
      ap (λ (p : Formula). formula.Or p h) first ∙ ap (formula.Or is.0) second ∙ sym is.2

  one_flop : (p : Process) (f g : Flop) → IsFlopOf ns assigns p f → IsFlopOf ns assigns p g → f ≡ g
  one_flop p f g x y =
      let next = one_formula p.data f.next x.next g.next y.next in
      let clock : f.clock ≡ g.clock = x.clock ∙ sym y.clock in
      let pin : f.pin ≡ g.pin = x.pin ∙ sym y.pin in
      let high : f.high ≡ g.high = x.high ∙ sym y.high in
      let reset : f.reset ≡ g.reset = x.reset ∙ sym y.reset in
      ap (λ (c : ℕ). record { clock = c; pin = f.pin; high = f.high; reset = f.reset; next = f.next }) clock
      ∙ ap (λ (c : ℕ). record { clock = g.clock; pin = c; high = f.high; reset = f.reset; next = f.next }) pin
      ∙ ap (λ (b : Bool). record { clock = g.clock; pin = g.pin; high = b; reset = f.reset; next = f.next }) high
      ∙ ap (λ (b : Bool). record { clock = g.clock; pin = g.pin; high = g.high; reset = b; next = f.next }) reset
      ∙ ap (λ (h : Formula). record { clock = g.clock; pin = g.pin; high = g.high; reset = g.reset; next = h }) next

  one_kind : (o : Option Process) (a b : Kind) → IsKindOf ns assigns o a → IsKindOf ns assigns o b → a ≡ b
  one_kind None a b x y = x ∙ sym y
  one_kind (Some p) a b x y = x.1 ∙ ap Register (one_flop p x.0 y.0 x.2 y.2) ∙ sym y.1

  same_sources : (ps : List Process) (as_one bs : List Source) → map (λ s. s.name) as_one ≡ map (λ s. s.name) bs → AllByRecursion (λ s. IsKindOf ns assigns (process_for s.name ps) s.kind) as_one → AllByRecursion (λ s. IsKindOf ns assigns (process_for s.name ps) s.kind) bs → as_one ≡ bs
  same_sources ps [] [] e x y = refl
  same_sources ps [] (b ∷ bs) e x y = absurd cc
  same_sources ps (a ∷ rest) [] e x y = absurd cc
  same_sources ps (a ∷ rest) (b ∷ bs) e x y =
      let name_is : a.name ≡ b.name = cc in
      let others : map (λ s. s.name) rest ≡ map (λ s. s.name) bs = cc in
      let kind_is = one_kind (process_for b.name ps) a.kind b.kind (subst (λ (n : List ℕ). IsKindOf ns assigns (process_for n ps) a.kind) name_is x.0) y.0 in
      let first : a ≡ b = ap (λ (n : List ℕ). record { name = n; kind = a.kind }) name_is ∙ ap (λ (k : Kind). record { name = b.name; kind = k }) kind_is in
      let tails = same_sources ps rest bs others x.1 y.1 in
      cc

  same_wires : (as_one bs : List Wire) → map (λ w. w.name) as_one ≡ map (λ w. w.name) bs → AllByRecursion (λ w. IsFormulaOf ns assigns (Name w.name) w.value) as_one → AllByRecursion (λ w. IsFormulaOf ns assigns (Name w.name) w.value) bs → as_one ≡ bs
  same_wires [] [] e x y = refl
  same_wires [] (b ∷ bs) e x y = absurd cc
  same_wires (a ∷ rest) [] e x y = absurd cc
  same_wires (a ∷ rest) (b ∷ bs) e x y =
      let name_is : a.name ≡ b.name = cc in
      let others : map (λ w. w.name) rest ≡ map (λ w. w.name) bs = cc in
      let value_is = one_formula (Name b.name) a.value (subst (λ (n : List ℕ). IsFormulaOf ns assigns (Name n) a.value) name_is x.0) b.value y.0 in
      let first : a ≡ b = ap (λ (n : List ℕ). record { name = n; value = a.value }) name_is ∙ ap (λ (f : Formula). record { name = b.name; value = f }) value_is in
      let tails = same_wires rest bs others x.1 y.1 in
      cc

-- a module means at most one design
pub one_meaning : (m : Module) (a b : Design) → IsDesignOf m a → IsDesignOf m b → a ≡ b
one_meaning m a b x y =
    let named : names a ≡ names b = one_order (names a) (names b) x.sources.ascending y.sources.ascending (λ n. x.sources.declared_names n ∙ sym (y.sources.declared_names n)) in
    let kinds = subst (λ (ns : List (List ℕ)). AllByRecursion (λ s. IsKindOf ns (assignments m) (process_for s.name (processes m)) s.kind) a.sources) named x.sources.kinds in
    let sources : a.sources ≡ b.sources = same_sources (names b) (assignments m) (processes m) a.sources b.sources named kinds y.sources.kinds in
    let wire_names : map (λ w. w.name) a.wires ≡ map (λ w. w.name) b.wires = one_order (map (λ w. w.name) a.wires) (map (λ w. w.name) b.wires) x.wires.ascending y.wires.ascending (λ n. x.wires.declared_names n ∙ sym (y.wires.declared_names n)) in
    let values = subst (λ (ns : List (List ℕ)). AllByRecursion (λ w. IsFormulaOf ns (assignments m) (Name w.name) w.value) a.wires) named x.wires.values in
    let wires : a.wires ≡ b.wires = same_wires (names b) (assignments m) a.wires b.wires wire_names values y.wires.values in
    ap (λ (s : List Source). record { sources = s; wires = a.wires }) sources ∙ ap (λ (w : List Wire). record { sources = b.sources; wires = w }) wires

-- Serves specs/Values.antt: a gate's value depends on what it reads alone, keeps the order, and fixes the net's values.
use Rattle.std.proofs.Common.{◌≡◌, ◌≢◌, ℕ, zero, suc, ◌+◌, ◌<◌, ◌≤◌, true, false, append_assoc, List, [], ◌∷◌, ◌++◌, length, set, refl, sym, ap, ◌∙◌, subst, inl, inr, Option, Some, arith, rules, get_or-set_other, get_or-set_same}
use Rattle.std.proofs.lemmas.Bool.{cases_lt}
use Rattle.std.proofs.lemmas.List.{get_or_past, get_or_append_left, get_or_push, get_or_at, append-nil, length-append, drop_all}
use Rattle.std.proofs.lemmas.List.Prefix.{front_from_reads}
use Rattle.std.proofs.lemmas.Option.{slice_get_within, slice_get_cases, slice_get_read}
use Rattle.rdc_tern.specs.declared.value.Tern.{Tern}
use Rattle.rdc_tern.specs.declared.value.Tern.TheVariants.{Unsettled}
use Rattle.rdc_tern.specs.Kleene.{not_of, and_of, or_of, xor_of, join_of, IsBelow, IsSettled}
use Rattle.net_view.specs.FlopNet.{IsPlain}
use Rattle.net_view.specs.declared.gate.Gate.TheVariants.{Const, Source, Not, And, Or, Xor, Pick, Lift}
use Rattle.net_view.specs.View.{Numbered, Reads, IsGateAt, IsNet}
use Rattle.net_view.specs.Values.{State, at, pick_of, lift_of, gate_value, IsValuation, IsRaised, values, values_after}

abbrev pub some : Numbered → Option Numbered
some g = Some g

-- the nodes before the place have their gates' values
pub record ValuedBelow (gates : List Numbered) (sources : State) (values : List Tern) (n : ℕ) : Type 0 where
  pub each : (k : ℕ) (g : Numbered) → k < n → IsGateAt gates k g → at values k ≡ gate_value sources (at values) g

-- what holds of all that is read, so does what follows from it
pub reads_more : (P Q R S : ℕ → Type 0) (g : Numbered) → ((j : ℕ) → P j → R j) → ((s : ℕ) → Q s → S s) → Reads P Q g → Reads R S g
reads_more P Q R S (Const b) p q h = tt
reads_more P Q R S (Source s) p q h = q s h
reads_more P Q R S (Not a) p q h = p a h
reads_more P Q R S (And a b) p q h = (p a h.0, p b h.1)
reads_more P Q R S (Or a b) p q h = (p a h.0, p b h.1)
reads_more P Q R S (Xor a b) p q h = (p a h.0, p b h.1)
reads_more P Q R S (Pick c a b) p q h = (p c h.0, p a h.1, p b h.2)
reads_more P Q R S (Lift c a b) p q h = (p c h.0, p a h.1)

pub some_is : (a b : Numbered) → some a ≡ some b → a ≡ b
some_is a b e = cc

-- equal fan-ins and sources give equal values
pub gate_value_same : (x y a b : State) (g : Numbered) → Reads (λ j. a j ≡ b j) (λ s. x s ≡ y s) g → gate_value x a g ≡ gate_value y b g
gate_value_same x y a b (Const v) h = refl
gate_value_same x y a b (Source s) h = h
gate_value_same x y a b (Not i) h = ap not_of h
gate_value_same x y a b (And i j) h = rw (h.0, h.1) refl
gate_value_same x y a b (Or i j) h = rw (h.0, h.1) refl
gate_value_same x y a b (Xor i j) h = rw (h.0, h.1) refl
gate_value_same x y a b (Pick c i j) h = rw (h.0, h.1, h.2) refl
gate_value_same x y a b (Lift c i v) h = rw (h.0, h.1) refl

pub not_below : (a b : Tern) → IsBelow a b → IsBelow (not_of a) (not_of b)
not_below a b h = search rules

and_below : (a b c d : Tern) → IsBelow a b → IsBelow c d → IsBelow (and_of a c) (and_of b d)
and_below a b c d h k = search rules

or_below : (a b c d : Tern) → IsBelow a b → IsBelow c d → IsBelow (or_of a c) (or_of b d)
or_below a b c d h k = search rules

xor_below : (a b c d : Tern) → IsBelow a b → IsBelow c d → IsBelow (xor_of a c) (xor_of b d)
xor_below a b c d h k = search rules

join_below : (a b c d : Tern) → IsBelow a b → IsBelow c d → IsBelow (join_of a c) (join_of b d)
join_below a b c d h k = search rules

pick_below : (p q a b c d : Tern) → IsBelow p q → IsBelow a b → IsBelow c d → IsBelow (pick_of p a c) (pick_of q b d)
pick_below p q a b c d e h k = search rules

lift_below : (p q a b : Tern) (r : Tern) → IsBelow p q → IsBelow a b → IsBelow (lift_of p a r) (lift_of q b r)
lift_below p q a b r e h = search rules

-- raised fan-ins and sources give a raised value
pub gate_value_raised : (x y a b : State) (g : Numbered) → Reads (λ j. IsBelow (a j) (b j)) (λ s. IsBelow (x s) (y s)) g → IsBelow (gate_value x a g) (gate_value y b g)
gate_value_raised x y a b (Const v) h = inl refl
gate_value_raised x y a b (Source s) h = h
gate_value_raised x y a b (Not i) h = not_below _ _ h
gate_value_raised x y a b (And i j) h = and_below _ _ _ _ h.0 h.1
gate_value_raised x y a b (Or i j) h = or_below _ _ _ _ h.0 h.1
gate_value_raised x y a b (Xor i j) h = xor_below _ _ _ _ h.0 h.1
gate_value_raised x y a b (Pick c i j) h = pick_below _ _ _ _ _ _ h.0 h.1 h.2
gate_value_raised x y a b (Lift c i v) h = lift_below _ _ _ _ _ h.0 h.1

pub valued_none : (gates : List Numbered) (x : State) (values : List Tern) → ValuedBelow gates x values 0
valued_none gates x values = record { each = λ k g lt is. absurd (omega arith) }

-- one more place has its gate's value, where the places before it keep theirs
valued_step : (gates : List Numbered) (count : ℕ) (x : State) (before after : List Tern) (n : ℕ) (h : Numbered) → IsNet gates count → ((j : ℕ) → j < n → at before j ≡ at after j)
    → IsGateAt gates n h → at after n ≡ gate_value x (at before) h → ValuedBelow gates x before n → ValuedBelow gates x after (n + 1)
valued_step gates count x before after n h net kept is-h here valued =
    let again : (k : ℕ) (g : Numbered) → k < n + 1 → IsGateAt gates k g → gate_value x (at before) g ≡ gate_value x (at after) g = λ k g lt is.
    gate_value_same x x (at before) (at after) g (reads_more (λ j. j < k) (λ s. s < count) (λ j. at before j ≡ at after j) (λ s. x s ≡ x s) g (λ j below. kept j (omega arith)) (λ s below. refl) (net.lower k g is)) in
    record {
      each = λ k g lt is. elim (cases_lt k n) [
        | inl below ↦ sym (kept k below) ∙ valued.each k g below is ∙ again k g lt is
        | inr above ↦
            let k-is : k ≡ n = omega arith in
            let is-n : IsGateAt gates n g = subst (λ (i : ℕ). IsGateAt gates i g) k-is is in
            let h-is : h ≡ g = some_is h g (sym is-h ∙ is-n) in
            ap (at after) k-is ∙ here ∙ ap (gate_value x (at before)) h-is ∙ again k g lt is
      ];
    }

-- a write at the next place
pub valued_more : (gates : List Numbered) (count : ℕ) (x : State) (values : List Tern) (n : ℕ) (v : Tern) (h : Numbered) → IsNet gates count → n < length values
    → IsGateAt gates n h → v ≡ gate_value x (at values) h → ValuedBelow gates x values n → ValuedBelow gates x (set values n v) (n + 1)
valued_more gates count x values n v h net inside is-h v-is before =
    valued_step gates count x values (set values n v) n h net (λ j lt. let ne : j ≢ n = omega arith in sym (get_or-set_other values n j v Unsettled ne)) is-h
    (get_or-set_same values n v Unsettled inside ∙ v-is) before

-- a value put at the end
valued_push : (gates : List Numbered) (count : ℕ) (x : State) (values : List Tern) (h : Numbered) → IsNet gates count → IsGateAt gates (length values) h
    → ValuedBelow gates x values (length values) → ValuedBelow gates x (values ++ gate_value x (at values) h ∷ []) (length values + 1)
valued_push gates count x values h net is-h before =
    valued_step gates count x values (values ++ gate_value x (at values) h ∷ []) (length values) h net
    (λ j lt. sym (get_or_append_left values (gate_value x (at values) h ∷ []) Unsettled j lt)) is-h (get_or_push values (gate_value x (at values) h) Unsettled (length values) refl) before

pub valued_all : (gates : List Numbered) (x : State) (values : List Tern) (n : ℕ) → length gates ≤ n → length values ≡ length gates → ValuedBelow gates x values n → IsValuation gates x values
valued_all gates x values n all len before = record {
  whole = len;
  each = λ k g is. before.each k g (let inside : k < length gates = slice_get_within gates k g is in omega arith) is;
}

raised_below : (gates : List Numbered) (count : ℕ) (x y : State) (low high : List Tern) → IsNet gates count → IsRaised x y → IsValuation gates x low → IsValuation gates y high
    → (n k : ℕ) → k < n → IsBelow (at low k) (at high k)
raised_below gates count x y low high net up lows highs zero k lt = absurd (omega arith)
raised_below gates count x y low high net up lows highs (suc n) k lt =
    elim (slice_get_cases gates k).1 [
      | inl here ↦
          let g = here.0 in
          let values-rise : IsBelow (gate_value x (at low) g) (gate_value y (at high) g) =
          gate_value_raised x y (at low) (at high) g (reads_more (λ j. j < k) (λ s. s < count) (λ j. IsBelow (at low j) (at high j)) (λ s. IsBelow (x s) (y s)) g
          (λ j below. raised_below gates count x y low high net up lows highs n j (omega arith)) (λ s below. up s) (net.lower k g here.2)) in
          rw (lows.each k g here.2, highs.each k g here.2) values-rise
      | inr past ↦
          let low-is : at low k ≡ Unsettled = get_or_past low k Unsettled (omega (arith, lows.whole, past.0)) in
          let high-is : at high k ≡ Unsettled = get_or_past high k Unsettled (omega (arith, highs.whole, past.0)) in
          inr high-is
    ]

-- a state with raised sources has raised nodes
pub raised_values : (gates : List Numbered) (count : ℕ) (x y : State) (low high : List Tern) → IsNet gates count → IsRaised x y → IsValuation gates x low → IsValuation gates y high → IsRaised (at low) (at high)
raised_values gates count x y low high net up lows highs k = raised_below gates count x y low high net up lows highs (suc k) k (omega arith)

-- the gate behind a front of the list
gate_behind : (front : List Numbered) (g : Numbered) (rest : List Numbered) → IsGateAt (front ++ g ∷ rest) (length front) g
gate_behind front g rest =
    let len : length front < length (front ++ g ∷ rest) = omega (arith, length-append front (g ∷ rest)) in
    slice_get_read (front ++ g ∷ rest) (length (front ++ g ∷ rest)) (length front) g refl len (sym (get_or_at front g rest g (length front) refl))

valued_behind : (gates : List Numbered) (count : ℕ) (x : State) (front rest : List Numbered) (known : List Tern) → IsNet gates count → front ++ rest ≡ gates → length known ≡ length front
    → ValuedBelow gates x known (length known) → IsValuation gates x (values_after x known rest)
valued_behind gates count x front [] known net parts len valued =
    let whole : length known ≡ length gates = len ∙ sym (ap length (append-nil front)) ∙ ap length parts in
    valued_all gates x known (length known) (omega arith) whole valued
valued_behind gates count x front (g ∷ rest) known net parts len valued =
    let is : IsGateAt gates (length known) g = subst (λ (i : ℕ). IsGateAt gates i g) (sym len) (subst (λ (gs : List Numbered). IsGateAt gs (length front) g) parts (gate_behind front g rest)) in
    let more = known ++ gate_value x (at known) g ∷ [] in
    let more-len : length more ≡ length known + 1 = length-append known (gate_value x (at known) g ∷ []) in
    valued_behind gates count x (front ++ g ∷ []) rest more net (append_assoc front (g ∷ []) rest ∙ parts) (more-len ∙ ap (λ (n : ℕ). n + 1) len ∙ sym (length-append front (g ∷ [])))
    (subst (λ (n : ℕ). ValuedBelow gates x more n) (sym more-len) (valued_push gates count x known g net is valued))

-- from left to right each node gets its gate's value
pub values_valued : (gates : List Numbered) (count : ℕ) (x : State) → IsNet gates count → IsValuation gates x (values gates x)
values_valued gates count x net = valued_behind gates count x [] gates [] net refl refl (valued_none gates x [])

equal_both_ways : (a b : Tern) → IsBelow a b → IsBelow b a → a ≡ b
equal_both_ways a b h k = search rules

equal_lists : (xs ys : List Tern) → length xs ≡ length ys → ((k : ℕ) → at xs k ≡ at ys k) → xs ≡ ys
equal_lists xs ys len same =
    front_from_reads Unsettled xs ys (omega arith) (λ i lt. same i) ∙ ap (λ (zs : List Tern). ys ++ zs) (drop_all (length ys) xs (omega arith)) ∙ append-nil ys

-- a net has one valuation
pub valuation_is : (gates : List Numbered) (count : ℕ) (x : State) (found : List Tern) → IsNet gates count → IsValuation gates x found → found ≡ values gates x
valuation_is gates count x found net valued =
    let known = values_valued gates count x net in
    equal_lists found (values gates x) (valued.whole ∙ sym known.whole)
    (λ k. equal_both_ways (at found k) (at (values gates x) k) (raised_values gates count x x found (values gates x) net (λ s. inl refl) valued known k)
    (raised_values gates count x x (values gates x) found net (λ s. inl refl) known valued k))

not_settled : (a : Tern) → IsSettled a → IsSettled (not_of a)
not_settled a h = search rules

and_settled : (a b : Tern) → IsSettled a → IsSettled b → IsSettled (and_of a b)
and_settled a b h k = search rules

or_settled : (a b : Tern) → IsSettled a → IsSettled b → IsSettled (or_of a b)
or_settled a b h k = search rules

xor_settled : (a b : Tern) → IsSettled a → IsSettled b → IsSettled (xor_of a b)
xor_settled a b h k = search rules

-- settled fan-ins and sources give a settled value, at the gates of a design
pub gate_value_settled : (x a : State) (g : Numbered) → IsPlain g → Reads (λ j. IsSettled (a j)) (λ s. IsSettled (x s)) g → IsSettled (gate_value x a g)
gate_value_settled x a (Const true) p h = λ e. cc
gate_value_settled x a (Const false) p h = λ e. cc
gate_value_settled x a (Source s) p h = h
gate_value_settled x a (Not i) p h = not_settled _ h
gate_value_settled x a (And i j) p h = and_settled _ _ h.0 h.1
gate_value_settled x a (Or i j) p h = or_settled _ _ h.0 h.1
gate_value_settled x a (Xor i j) p h = xor_settled _ _ h.0 h.1
gate_value_settled x a (Pick c i j) p h = absurd p
gate_value_settled x a (Lift c i v) p h = absurd p

settled_below : (gates : List Numbered) (count : ℕ) (x : State) (found : List Tern) → IsNet gates count → ((k : ℕ) (g : Numbered) → IsGateAt gates k g → IsPlain g) → ((s : ℕ) → IsSettled (x s))
    → IsValuation gates x found → (n k : ℕ) (g : Numbered) → k < n → IsGateAt gates k g → IsSettled (at found k)
settled_below gates count x found net plain all valued zero k g lt is = absurd (omega arith)
settled_below gates count x found net plain all valued (suc n) k g lt is =
    let inside : k < length gates = slice_get_within gates k g is in
    let fan_ins = reads_more (λ j. j < k) (λ s. s < count) (λ j. IsSettled (at found j)) (λ s. IsSettled (x s)) g
    (λ j below. elim (slice_get_cases gates j).1 [
      | inl here ↦ settled_below gates count x found net plain all valued n j here.0 (omega arith) here.2
      | inr past ↦ absurd (omega (arith, past.0))
    ]) (λ s below. all s) (net.lower k g is) in
    subst IsSettled (sym (valued.each k g is)) (gate_value_settled x (at found) g (plain k g is) fan_ins)

-- settled sources give settled nodes
pub settled_values : (gates : List Numbered) (count : ℕ) (x : State) (found : List Tern) → IsNet gates count → ((k : ℕ) (g : Numbered) → IsGateAt gates k g → IsPlain g) → ((s : ℕ) → IsSettled (x s))
    → IsValuation gates x found → (k : ℕ) (g : Numbered) → IsGateAt gates k g → IsSettled (at found k)
settled_values gates count x found net plain all valued k g is = settled_below gates count x found net plain all valued (suc k) k g (omega arith) is

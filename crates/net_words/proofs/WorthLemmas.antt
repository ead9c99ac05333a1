-- Serves specs/Builds.antt: what is built is worth in the whole net, step by step.
use Rattle.std.proofs.Common.{◌≡◌, ℕ, Bool, true, false, List, [], ◌∷◌, ◌++◌, length, append_assoc, refl, sym, ◌∙◌, subst, Option, Some, None, if◌then◌else◌, ◌==◌}
use Rattle.rdc_tern.specs.declared.value.Tern.{Tern}
use Rattle.net_view.specs.View.{Numbered, IsGateAt}
use Rattle.net_view.specs.Values.{State, at, gate_value, IsValuation}
use Rattle.net_gates.specs.Gates.{most_nodes}
use Rattle.net_words.specs.Builds.{Built, Build, onward, ◌>>=◌, return, put, Begins, Gives}

some_built : {X : Type 0} (a b : Built X) → Some a ≡ Some b → a ≡ b
some_built a b e = cc

-- where the second step's answer comes from
through : {X Y : Type 0} (o : Option (Built X)) (k : X → Build Y) (built : Built Y) → onward o k ≡ Some built → (mid : Built X) × (o ≡ Some mid) × (k mid.made mid.gates ≡ Some built)
through None k built is = absurd (cc)
through (Some mid) k built is = (mid, refl, is)

built_if : {X : Type 0} (full : Bool) (x built : Built X) → (if full then None else Some x) ≡ Some built → x ≡ built
built_if true x built is = absurd (cc)
built_if false x built is = some_built x built is

-- the gate behind the others
gate_there : (gates more : List Numbered) (g : Numbered) → IsGateAt ((gates ++ g ∷ []) ++ more) (length gates) g
gate_there [] more g = refl
gate_there (h ∷ gates) more g = gate_there gates more g

pub gives_return : (whole : List Numbered) {X : Type 0} (P : X → Type 0) (x : X) → P x → Gives whole (return x) P
unfolding return
gives_return whole P x holds gates built is begins =
    let same = some_built (record { gates = gates; made = x }) built is in
    (subst (λ (b : Built _). Begins b.gates whole) (sym same) begins, subst (λ (b : Built _). P b.made) same holds)

pub gives_then : (whole : List Numbered) {X Y : Type 0} (b : Build X) (k : X → Build Y) (P : X → Type 0) (Q : Y → Type 0)
    → Gives whole b P → ((x : X) → Gives whole (k x) (λ y. P x → Q y)) → Gives whole (b >>= k) Q
unfolding ◌>>=◌
gives_then whole b k P Q one other gates built is begins =
    let step = through (b gates) k built is in
    let behind = other step.0.made step.0.gates built step.2 begins in
    let before = one gates step.0 step.1 behind.0 in
    (before.0, behind.1 before.1)

-- what follows of what is given
pub gives_more : (whole : List Numbered) {X : Type 0} (b : Build X) (P Q : X → Type 0) → Gives whole b P → ((x : X) → P x → Q x) → Gives whole b Q
gives_more whole b P Q given more gates built is begins = let g = given gates built is begins in (g.0, more built.made g.1)

pub gives_put : (whole : List Numbered) (state : State) (found : List Tern) → IsValuation whole state found → (g : Numbered) → Gives whole (put g) (λ n. at found n ≡ gate_value state (at found) g)
unfolding put
gives_put whole state found valued g gates built is begins =
    let same = built_if (length gates == most_nodes) (record { gates = gates ++ g ∷ []; made = length gates }) built is in
    let front : Begins (gates ++ g ∷ []) whole = subst (λ (b : Built ℕ). Begins b.gates whole) (sym same) begins in
    let there : IsGateAt whole (length gates) g = subst (λ (all : List Numbered). IsGateAt all (length gates) g) front.1 (gate_there gates front.0 g) in
    ((g ∷ front.0, sym (append_assoc gates (g ∷ []) front.0) ∙ front.1), subst (λ (b : Built ℕ). at found b.made ≡ gate_value state (at found) g) same (valued.each (length gates) g there))

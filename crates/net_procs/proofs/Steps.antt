-- Serves calls that draw: steps that draw nothing, steps that are made of steps, and what is the same.
use Rattle.std.proofs.Common.{◌≡◌, ℕ, zero, suc, ◌<◌, All, List, [], ◌∷◌, length, get_or, arith, Option, Some, None, Result, Ok, Err, IfOk, IfErr, refl, sym, subst}
use Rattle.net_view.specs.View.{Numbered}
use Rattle.net_gates.specs.declared.fault.GateFault.{GateFault}
use Rattle.net_gates.specs.declared.fault.GateFault.TheVariants.{Memory}
use Rattle.net_words.specs.Builds.{Built, Build, Answers, Builds, onward, ◌>>=◌, return}
use Rattle.net_words.proofs.BuildLemmas.{IsLeft, all_left, begins_itself, done}

-- ---- steps

onward_through : {X Y Z : Type 0} (k : X → Build Y) (h : Y → Build Z) (o : Option (Built X)) → onward (onward o k) h ≡ onward o (λ x gates. onward (k x gates) h)
onward_through k h None = refl
onward_through k h (Some built) = refl

-- steps that are made of steps
pub steps_through : {X Y Z : Type 0} (b : Build X) (k : X → Build Y) (h : Y → Build Z) → ((b >>= k) >>= h) ≡ (b >>= (λ x. k x >>= h))
unfolding ◌>>=◌
steps_through b k h = λ i gates. onward_through k h (b gates) i

onward_same : {X : Type 0} (o : Option (Built X)) → onward o (λ x gates. Some (record { gates = gates; made = x })) ≡ o
onward_same None = refl
onward_same (Some built) = refl

-- nothing behind a step
pub step_alone : {X : Type 0} (b : Build X) → (b >>= (λ x. return x)) ≡ b
unfolding ◌>>=◌ return
step_alone b = λ i gates. onward_same (b gates) i

-- what is there already
pub no_step : {X Y : Type 0} (x : X) (k : X → Build Y) → (return x >>= k) ≡ k x
unfolding ◌>>=◌ return
no_step x k = refl

pub left_as : {X : Type 0} {all : Build X} {old now : List Numbered} (b b' : Build X) → b ≡ b' → IsLeft all old now b → IsLeft all old now b'
left_as {all = all} {old = old} {now = now} b b' same left = subst (λ (z : Build _). IsLeft all old now z) same left

pub given : {X Y : Type 0} {all : Build Y} {old now : List Numbered} (x : X) (k : X → Build Y) → IsLeft all old now (return x >>= k) → IsLeft all old now (k x)
given x k left = left_as (return x >>= k) (k x) (no_step x k) left

pub inner : {X Y Z : Type 0} {all : Build Z} {old now : List Numbered} (b : Build X) (k : X → Build Y) (h : Y → Build Z) → IsLeft all old now ((b >>= k) >>= h) → IsLeft all old now (b >>= (λ x. k x >>= h))
inner b k h left = left_as ((b >>= k) >>= h) (b >>= (λ x. k x >>= h)) (steps_through b k h) left

-- ---- calls that draw nothing

pub nothing_drawn : {A X : Type 0} (f : A → X) (x : X) (net : List Numbered) (r : Result A GateFault) → IfOk r (λ a. f a ≡ x) → IfErr r (λ e. e ≡ Memory) → Builds f (return x) net r net
nothing_drawn f x net (Ok a) is memory = done f a (subst (λ (y : _). IsLeft (return x) net net (return y)) (sym is) (all_left (return x) net))
nothing_drawn f x net (Err e) is memory = record { front = begins_itself net; answers = subst (λ (z : GateFault). Answers f (return x) net (Err z) net) (sym memory) tt }

pub made_inside : {A X : Type 0} (f : A → List X) (P : X → Type 0) (x : List X) (r : Result A GateFault) → IfOk r (λ a. f a ≡ x) → All P x → IfOk r (λ a. All P (f a))
made_inside {X = X} f P x (Ok a) is there = subst (λ (y : List X). All P y) (sym is) there
made_inside f P x (Err e) is there = tt

-- ---- steps counted down

-- an element is there, whatever stands for one that isn't
pub there_is : {A : Type 0} (l : List A) (k : ℕ) (m : A) → k < length l → get_or l k m ≡ get_or l k (get_or l k m)
there_is [] k m lt = absurd (omega (arith, lt))
there_is (x ∷ l) zero m lt = refl
there_is (x ∷ l) (suc k) m lt = there_is l k m (omega (arith, lt))

-- the steps from number n - 1 down to 0
unfoldable pub down : {X : Type 0} → (ℕ → X → Build X) → ℕ → X → Build X
down f zero x = return x
down f (suc n) x = f n x >>= down f n

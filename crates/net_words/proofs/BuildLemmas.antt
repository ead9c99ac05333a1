-- Serves specs/Builds.antt: what a call does that goes step by step.
use Rattle.std.proofs.Common.{◌≡◌, ℕ, ◌<◌, length, arith, if◌then◌else◌, ◌==◌, eq-eqb, ne_eqb, IfOk, OnOk, OnErr, MatchResult, List, [], ◌∷◌, ◌++◌, append_assoc, append-nil, refl, sym, ◌∙◌, ap, subst, Option, Some, None, Result, Ok, Err, IsErr, IsErrAnd}
use Rattle.net_view.specs.View.{Numbered}
use Rattle.net_gates.specs.declared.fault.GateFault.{GateFault}
use Rattle.net_gates.specs.declared.fault.GateFault.TheVariants.{Memory, Full}
use Rattle.net_gates.specs.Gates.{most_nodes, IsRefusedAt}
use Rattle.net_words.specs.Builds.{Built, Build, onward, ◌>>=◌, return, put, Begins, Answers, Builds}

-- a word, with these nodes in front
unfoldable pub behind : List ℕ → Build (List ℕ) → Build (List ℕ)
behind front b = b >>= (λ rest. return (front ++ rest))

pub begins_itself : (gates : List Numbered) → Begins gates gates
begins_itself gates = ([], append-nil gates)

pub begins_through : (a b c : List Numbered) → Begins a b → Begins b c → Begins a c
begins_through a b c ab bc = (ab.0 ++ bc.0, sym (append_assoc a ab.0 bc.0) ∙ ap (λ l. l ++ bc.0) ab.1 ∙ bc.1)

-- what is left to do makes of the gates that are there what all makes of the first
pub record IsLeft {X : Type 0} (all : Build X) (old now : List Numbered) (rest : Build X) : Type 0 where
  pub front : Begins old now
  pub left : rest now ≡ all old

pub all_left : {X : Type 0} (all : Build X) (old : List Numbered) → IsLeft all old old all
all_left all old = record { front = begins_itself old; left = refl }

step_left : {X Y : Type 0} (b : Build X) (k : X → Build Y) (gates : List Numbered) (built : Built X) → b gates ≡ Some built → k built.made built.gates ≡ (b >>= k) gates
unfolding ◌>>=◌
step_left b k gates built is = sym (ap (λ o. onward o k) is)

-- one step done
pub next : {A X Y : Type 0} {f : A → X} {all : Build Y} {old now new : List Numbered} {a : A} (b : Build X) (k : X → Build Y)
    → IsLeft all old now (b >>= k) → Builds f b now (Ok a) new → IsLeft all old new (k (f a))
next {f = f} {old = old} {now = now} {new = new} {a = a} b k is built = record {
  front = begins_through old now new is.front built.front;
  left = step_left b k now (record { gates = new; made = f a }) built.answers ∙ is.left;
}

answers_last : {B Y : Type 0} (g : B → Y) (all rest : Build Y) (old now new : List Numbered) (r : Result B GateFault) → rest now ≡ all old → Answers g rest now r new → Answers g all old r new
answers_last g all rest old now new (Ok b) left is = sym left ∙ is
answers_last g all rest old now new (Err Full) left is = sym left ∙ is
answers_last g all rest old now new (Err Memory) left is = tt

-- the last step answers for all
pub last : {B Y : Type 0} {g : B → Y} {all rest : Build Y} {old now new : List Numbered} {r : Result B GateFault} → IsLeft all old now rest → Builds g rest now r new → Builds g all old r new
last {g = g} {all = all} {rest = rest} {old = old} {now = now} {new = new} {r = r} is built = record {
  front = begins_through old now new is.front built.front;
  answers = answers_last g all rest old now new r is.left built.answers;
}

full_left : {X Y : Type 0} (b : Build X) (k : X → Build Y) (gates : List Numbered) → b gates ≡ None → (b >>= k) gates ≡ None
unfolding ◌>>=◌
full_left b k gates is = ap (λ o. onward o k) is

answers_fault : {A B X Y : Type 0} (f : A → X) (g : B → Y) (b : Build X) (k : X → Build Y) (all : Build Y) (old now new : List Numbered) (e : GateFault)
    → (b >>= k) now ≡ all old → Answers f b now (Err e) new → Answers g all old (Err e) new
answers_fault f g b k all old now new Full left is = sym left ∙ full_left b k now is
answers_fault f g b k all old now new Memory left is = tt

-- a step's fault is the fault of all
pub fault : {A B X Y : Type 0} {f : A → X} {g : B → Y} {all : Build Y} {old now new : List Numbered} {e : GateFault} {r : Result B GateFault} (b : Build X) (k : X → Build Y)
    → IsLeft all old now (b >>= k) → Builds f b now (Err e) new → IsErr r × IsErrAnd r (λ x. x ≡ e) → Builds g all old r new
fault {f = f} {g = g} {all = all} {old = old} {now = now} {new = new} {e = e} {r = Err x} b k is built same =
    subst (λ (x' : GateFault). Builds g all old (Err x') new) (sym same.1)
    (record { front = begins_through old now new is.front built.front; answers = answers_fault f g b k all old now new e is.left built.answers })
fault {r = Ok x} b k is built same = absurd same.1

return_is : {X : Type 0} (x : X) (gates : List Numbered) → return x gates ≡ Some (record { gates = gates; made = x })
unfolding return
return_is x gates = refl

-- nothing is left
pub done : {B Y : Type 0} (g : B → Y) {all : Build Y} {old now : List Numbered} (b : B) → IsLeft all old now (return (g b)) → Builds g all old (Ok b) now
done g {now = now} b is = record { front = is.front; answers = sym is.left ∙ return_is (g b) now }

-- of a word: with nothing in front it is as it is
nothing_front : (o : Option (Built (List ℕ))) → onward o (λ rest gates. Some (record { gates = gates; made = [] ++ rest })) ≡ o
nothing_front None = refl
nothing_front (Some built) = refl

behind_nothing : (b : Build (List ℕ)) (gates : List Numbered) → behind [] b gates ≡ b gates
unfolding behind ◌>>=◌ return
behind_nothing b gates = nothing_front (b gates)

pub no_bits : (all : Build (List ℕ)) (old : List Numbered) → IsLeft all old old (behind [] all)
no_bits all old = record { front = begins_itself old; left = behind_nothing all old }

one_bit : (front : List ℕ) (n : ℕ) (o : Option (Built (List ℕ)))
    → onward o (λ rest gates. Some (record { gates = gates; made = (front ++ n ∷ []) ++ rest }))
    ≡ onward (onward o (λ rest gates. Some (record { gates = gates; made = n ∷ rest }))) (λ rest gates. Some (record { gates = gates; made = front ++ rest }))
one_bit front n None = refl
one_bit front n (Some built) = ap (λ w. Some (record { gates = built.gates; made = w })) (append_assoc front (n ∷ []) built.made)

bits_moved : {X : Type 0} (front : List ℕ) (bit : X → ℕ) (rest : X → Build (List ℕ)) (o : Option (Built X))
    → onward o (λ x gates. onward (rest x gates) (λ w gates'. Some (record { gates = gates'; made = (front ++ bit x ∷ []) ++ w })))
    ≡ onward (onward o (λ x gates. onward (rest x gates) (λ w gates'. Some (record { gates = gates'; made = bit x ∷ w })))) (λ w gates'. Some (record { gates = gates'; made = front ++ w }))
bits_moved front bit rest None = refl
bits_moved front bit rest (Some built) = one_bit front (bit built.made) (rest built.made built.gates)

bit_step : {X : Type 0} (front : List ℕ) (b : Build X) (bit : X → ℕ) (rest : X → Build (List ℕ)) (gates : List Numbered)
    → (b >>= (λ x. behind (front ++ bit x ∷ []) (rest x))) gates ≡ behind front (b >>= (λ x. rest x >>= (λ w. return (bit x ∷ w)))) gates
unfolding behind ◌>>=◌ return
bit_step front b bit rest gates = bits_moved front bit rest (b gates)

-- one bit, and the others behind it
pub bit_first : {X : Type 0} {all : Build (List ℕ)} {old now : List Numbered} (front : List ℕ) (b : Build X) (bit : X → ℕ) (rest : X → Build (List ℕ))
    → IsLeft all old now (behind front (b >>= (λ x. rest x >>= (λ w. return (bit x ∷ w))))) → IsLeft all old now (b >>= (λ x. behind (front ++ bit x ∷ []) (rest x)))
bit_first {now = now} front b bit rest is = record { front = is.front; left = bit_step front b bit rest now ∙ is.left }

nothing_behind : (front : List ℕ) (gates : List Numbered) → return front gates ≡ behind front (return []) gates
unfolding behind ◌>>=◌ return
nothing_behind front gates = ap (λ w. Some (record { gates = gates; made = w })) (sym (append-nil front))

-- behind the last bit
pub all_bits : {all : Build (List ℕ)} {old now : List Numbered} (front : List ℕ) → IsLeft all old now (behind front (return [])) → IsLeft all old now (return front)
all_bits {now = now} front is = record { front = is.front; left = nothing_behind front now ∙ is.left }

-- a bit that is there, in front of a word with one new bit
kept_bit : {X : Type 0} (b : ℕ) (word : X → List ℕ) (o : Option (Built X))
    → onward o (λ n gates. Some (record { gates = gates; made = b ∷ word n })) ≡ onward (onward o (λ n gates. Some (record { gates = gates; made = word n }))) (λ rest gates. Some (record { gates = gates; made = b ∷ rest }))
kept_bit b word None = refl
kept_bit b word (Some built) = refl

pub bit_kept : {X : Type 0} (b : ℕ) (word : X → List ℕ) (step : Build X) (gates : List Numbered)
    → (step >>= (λ n. return (b ∷ word n))) gates ≡ onward ((step >>= (λ n. return (word n))) gates) (λ rest gates'. Some (record { gates = gates'; made = b ∷ rest }))
unfolding ◌>>=◌ return
bit_kept b word step gates = kept_bit b word (step gates)

full_if : (n : ℕ) (x : Built ℕ) → n ≡ most_nodes → (if n == most_nodes then None else Some x) ≡ None
full_if n x is = rw (eq-eqb n most_nodes is) refl

room_if : (n : ℕ) (x : Built ℕ) → n < most_nodes → (if n == most_nodes then None else Some x) ≡ Some x
room_if n x less = rw (ne_eqb n most_nodes (λ e. omega (arith, e, less))) refl

-- one gate more, or none
pub put_answers : (g : Numbered) (old new : List Numbered) (r : Result ℕ GateFault) → IfOk r (λ n. n ≡ length old) → OnOk r (new ≡ old ++ g ∷ [])
    → OnErr r (new ≡ old) → MatchResult r (λ _. length old < most_nodes) (IsRefusedAt (length old)) → Builds (λ n. n) (put g) old r new
unfolding put
put_answers g old new (Ok n) node gates unchanged full = record {
  front = (g ∷ [], sym gates);
  answers = room_if (length old) _ full ∙ (λ j. Some (record { gates = sym gates j; made = sym node j }));
}
put_answers g old new (Err Full) node gates unchanged full = record {
  front = subst (Begins old) (sym unchanged) (begins_itself old);
  answers = full_if (length old) _ full;
}
put_answers g old new (Err Memory) node gates unchanged full = record { front = subst (Begins old) (sym unchanged) (begins_itself old); answers = tt }

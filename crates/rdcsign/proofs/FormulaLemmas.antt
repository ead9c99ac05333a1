-- Serves specs/FormulaValue.antt, Closed.antt and Origin.antt: a formula is a lawful net, a netlist's design is closed,
-- and the origin of a formula says what a flop that reads it may read.
use Rattle.std.proofs.Common.{◌≡◌, ℕ, ◌+◌, ◌<◌, Bool, true, false, not, cond, ◌&&◌, ◌||◌, IsTrue, rules, List, [], ◌∷◌, ◌++◌, length, refl, sym, ap, subst, ◌∙◌, arith}
use Rattle.std.specs.Prelude.{◌==◌}
use Rattle.std.specs.List.{AllByRecursion, list_any, list_all}
use Rattle.std.proofs.lemmas.List.Folds.{list_any-append, list_all-append}
use Rattle.std.proofs.lemmas.Bool.Decides.{nat_tests}
use Rattle.rdc_tern.specs.declared.value.Tern.{Tern}
use Rattle.rdc_tern.specs.Kleene.{not_of, and_of, or_of, IsBelow, IsSettled}
use Rattle.thin_form.specs.Formula.{Formula, Source, Not, And, Or, sources_in}
use Rattle.thin_form.specs.Design.{Flop, Kind, Input, Register, Design, kind_at}
use Rattle.thin_cons.specs.Roles.{role_at}
use Rattle.thin_cons.specs.declared.role.Role.{Role}
use Rattle.thin_cons.specs.declared.role.Role.TheVariants.{Free, Clock, Reset}
use Rattle.run_model.specs.State.{State}
use Rattle.run_model.specs.Laws.{IsLogic}
use Rattle.rdcsign.specs.FormulaValue.{formula_value, reads, logic_of}
use Rattle.rdcsign.specs.Verdict.{reads_same, is_same}
use Rattle.rdcsign.specs.Origin.{origin_of_source, met, origin_of, allows}
use Rattle.rdcsign.specs.declared.origin.Origin.{Origin}
use Rattle.rdcsign.specs.declared.origin.Origin.TheVariants.{Ports, Flops, Mixed}

-- ---- cones

or_left : (a b : Bool) → IsTrue a → IsTrue (a || b)
or_left true b is = refl
or_left false b is = absurd cc

or_right : (a b : Bool) → IsTrue b → IsTrue (a || b)
or_right true b is = refl
or_right false b is = is

among_left : (n : ℕ) (ns ms : List ℕ) → IsTrue (list_any (λ k. k == n) ns) → IsTrue (list_any (λ k. k == n) (ns ++ ms))
among_left n ns ms is = rw (list_any-append (λ k. k == n) ns ms) (or_left (list_any (λ k. k == n) ns) (list_any (λ k. k == n) ms) is)

among_right : (n : ℕ) (ns ms : List ℕ) → IsTrue (list_any (λ k. k == n) ms) → IsTrue (list_any (λ k. k == n) (ns ++ ms))
among_right n ns ms is = rw (list_any-append (λ k. k == n) ns ms) (or_right (list_any (λ k. k == n) ns) (list_any (λ k. k == n) ms) is)

pub reads_itself : (n : ℕ) → IsTrue (reads (Source n) n)
reads_itself n = grind (arith, nat_tests)

-- ---- a formula is a lawful net

not_below : (a b : Tern) → IsBelow a b → IsBelow (not_of a) (not_of b)
not_below a b h = search rules

and_below : (a b c d : Tern) → IsBelow a b → IsBelow c d → IsBelow (and_of a c) (and_of b d)
and_below a b c d h k = search rules

or_below : (a b c d : Tern) → IsBelow a b → IsBelow c d → IsBelow (or_of a c) (or_of b d)
or_below a b c d h k = search rules

not_settled : (a : Tern) → IsSettled a → IsSettled (not_of a)
not_settled a h = search rules

and_settled : (a b : Tern) → IsSettled a → IsSettled b → IsSettled (and_of a b)
and_settled a b h k = search rules

or_settled : (a b : Tern) → IsSettled a → IsSettled b → IsSettled (or_of a b)
or_settled a b h k = search rules

raised : (s t : State) (f : Formula) → ((n : ℕ) → IsTrue (reads f n) → IsBelow (s n) (t n)) → IsBelow (formula_value s f) (formula_value t f)
raised s t (Source n) up = up n (reads_itself n)
raised s t (Not a) up = not_below _ _ (raised s t a up)
raised s t (And a b) up = and_below _ _ _ _ (raised s t a (λ n r. up n (among_left n (sources_in a) (sources_in b) r))) (raised s t b (λ n r. up n (among_right n (sources_in a) (sources_in b) r)))
raised s t (Or a b) up = or_below _ _ _ _ (raised s t a (λ n r. up n (among_left n (sources_in a) (sources_in b) r))) (raised s t b (λ n r. up n (among_right n (sources_in a) (sources_in b) r)))

settles : (s : State) (f : Formula) → ((n : ℕ) → IsTrue (reads f n) → IsSettled (s n)) → IsSettled (formula_value s f)
settles s (Source n) all = all n (reads_itself n)
settles s (Not a) all = not_settled _ (settles s a all)
settles s (And a b) all = and_settled _ _ (settles s a (λ n r. all n (among_left n (sources_in a) (sources_in b) r))) (settles s b (λ n r. all n (among_right n (sources_in a) (sources_in b) r)))
settles s (Or a b) all = or_settled _ _ (settles s a (λ n r. all n (among_left n (sources_in a) (sources_in b) r))) (settles s b (λ n r. all n (among_right n (sources_in a) (sources_in b) r)))

-- what is true of each number in a list is true of one that stands there
pub among : (P : ℕ → Type 0) (ns : List ℕ) (n : ℕ) → AllByRecursion P ns → IsTrue (list_any (λ k. k == n) ns) → P n
among P [] n all is = absurd cc
among P (k ∷ ns) n all is = here (k == n) refl (among P ns n all.1) where
  here : (b : Bool) → (k == n) ≡ b → (IsTrue (list_any (λ j. j == n) ns) → P n) → P n
  here true e rest = let same : k ≡ n = grind (arith, nat_tests, e) in subst P same all.0
  here false e rest = rest (rw e at is)

pub formula_is_logic : (count : ℕ) (f : Formula) → AllByRecursion (λ n. n < count) (sources_in f) → IsLogic count (logic_of f)
formula_is_logic count f all = record {
  within = λ n r. among (λ k. k < count) (sources_in f) n all r;
  raised = λ s t up. raised s t f up;
  settles = λ s all. settles s f all;
}

-- ---- origins

and_self : (a : Bool) → a ≡ (a && a)
and_self true = refl
and_self false = refl

-- two cones are allowed together where each is
allows_met : (f : Flop) (a b : Origin) → allows f (met a b) ≡ (allows f a && allows f b)
allows_met f Ports b = refl
allows_met f Mixed b = refl
allows_met f (Flops p h) Ports = grind (arith, nat_tests)
allows_met f (Flops p h) Mixed = grind (arith, nat_tests)
allows_met f (Flops p h) (Flops q g) = go ((p == q) && cond h g (not g)) refl where
  go : (c : Bool) → ((p == q) && cond h g (not g)) ≡ c → allows f (cond c (Flops p h) Mixed) ≡ (allows f (Flops p h) && allows f (Flops q g))
  go true e = let same : p ≡ q = grind (arith, nat_tests, e) in let level : h ≡ g = grind (arith, nat_tests, e) in rw (same, level) (and_self (allows f (Flops q g)))
  go false e = grind (arith, nat_tests, e)

-- a flop is the same where the origin of what it reads allows it
pub allowed : (d : Design) (roles : List Role) (f : Flop) (g : Formula) → allows f (origin_of d roles g) ≡ list_all (λ n. reads_same f (role_at roles n) (kind_at d n)) (sources_in g)
allowed d roles f (Source n) = one (role_at roles n) (kind_at d n) where
  one : (r : Role) (k : Kind) → allows f (origin_of_source r k) ≡ (reads_same f r k && true)
  one Free Input = refl
  one Clock Input = refl
  one (Reset high) Input = refl
  one r (Register h) = grind (arith, nat_tests)
allowed d roles f (Not a) = allowed d roles f a
allowed d roles f (And a b) =
    allows_met f (origin_of d roles a) (origin_of d roles b) ∙ ap (λ x. x && allows f (origin_of d roles b)) (allowed d roles f a)
    ∙ ap (λ x. list_all (λ n. reads_same f (role_at roles n) (kind_at d n)) (sources_in a) && x) (allowed d roles f b)
    ∙ sym (list_all-append (λ n. reads_same f (role_at roles n) (kind_at d n)) (sources_in a) (sources_in b))
allowed d roles f (Or a b) =
    allows_met f (origin_of d roles a) (origin_of d roles b) ∙ ap (λ x. x && allows f (origin_of d roles b)) (allowed d roles f a)
    ∙ ap (λ x. list_all (λ n. reads_same f (role_at roles n) (kind_at d n)) (sources_in a) && x) (allowed d roles f b)
    ∙ sym (list_all-append (λ n. reads_same f (role_at roles n) (kind_at d n)) (sources_in a) (sources_in b))

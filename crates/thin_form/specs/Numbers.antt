-- Names as numbers: what names, expressions and processes are where the names of sources and wires are listed in order.
--     Lists                        names of inputs, sources and wires, and which sources are clocks
--     term_of, terms_of, rules_of  a name, the steps of an expression, and several expressions
--     IsControlled, flop_of        a process without its data
--     marked                       the clocks of processes
use Rattle.std.specs.Prelude.{◌≡◌, ℕ, ◌<◌, ◌^◌, Bool, false, not, if◌then◌else◌, IsTrue, List, [], ◌∷◌, ◌++◌, length, slice_index_or, Option, Some, None}
use Rattle.std.specs.List.{AllByRecursion}
use Rattle.thin_tree.specs.Tree.{Process, Expr}
use Rattle.thin_tree.specs.Postfix.{Step, postfix, name, brackets, negation, both, either}
use Rattle.thin_form.specs.Design.{IsAscending}
use Rattle.thin_form.specs.Meaning.{place}
use Rattle.thin_form.specs.Rules.{is_among, clocks}
use Rattle.thin_form.specs.declared.kind.Flop.{Flop}
use Rattle.thin_form.specs.declared.term.Term.{Term}
use Rattle.thin_form.specs.declared.term.Term.TheVariants as term

-- the names of the inputs, the sources and the wires, and for each source whether it is a clock
pub record Lists : Type 0 where
  pub inputs : List (List ℕ)
  pub sources : List (List ℕ)
  pub wires : List (List ℕ)
  pub clocks : List Bool

-- the names are in order, inputs are sources, and numbers are small
pub record AreLists (l : Lists) : Type 0 where
  pub inputs : IsAscending l.inputs
  pub sources : IsAscending l.sources
  pub wires : IsAscending l.wires
  pub few_inputs : length l.inputs < 2 ^ 32
  pub few_sources : length l.sources < 2 ^ 32
  pub few_wires : length l.wires < 2 ^ 32
  pub each : (t : List ℕ) → IsTrue (is_among t l.inputs) → IsTrue (is_among t l.sources)
  pub clocks : length l.clocks ≡ length l.sources

-- the source of the name is a clock
abbrev pub is_clock : Lists → List ℕ → Bool
is_clock l t = slice_index_or l.clocks (place l.sources t) false

-- the source or the wire of a name, where it has one that is no clock
abbrev pub term_of : Lists → List ℕ → Option Term
term_of l t = if is_among t l.sources then (if is_clock l t then None else Some (term.Source (place l.sources t))) else if is_among t l.wires then Some (term.Wire (place l.wires t)) else None

-- a term alone, where it is there
abbrev pub one : Option Term → Option (List Term)
one None = None
one (Some t) = Some (t ∷ [])

-- what a step is: brackets are nothing
abbrev pub terms_at : Lists → Step → Option (List Term)
terms_at l (name n) = one (term_of l n)
terms_at l brackets = Some []
terms_at l negation = Some (term.Not ∷ [])
terms_at l both = Some (term.And ∷ [])
terms_at l either = Some (term.Or ∷ [])

-- the first and then the others, where both are there
abbrev pub joined : Option (List Term) → Option (List Term) → Option (List Term)
joined None others = None
joined (Some ts) None = None
joined (Some ts) (Some us) = Some (ts ++ us)

-- what steps are
unfoldable pub terms_of : Lists → List Step → Option (List Term)
terms_of l [] = Some []
terms_of l (s ∷ ss) = joined (terms_at l s) (terms_of l ss)

-- the terms of one expression before those of others, where all are there
abbrev pub fronted : Option (List Term) → Option (List (List Term)) → Option (List (List Term))
fronted None others = None
fronted (Some ts) None = None
fronted (Some ts) (Some us) = Some (ts ∷ us)

-- what several expressions are
unfoldable pub rules_of : Lists → List Expr → Option (List (List Term))
rules_of l [] = Some []
rules_of l (e ∷ es) = fronted (terms_of l (postfix e)) (rules_of l es)

-- the rules of a process, without those of its register and data
pub record IsControlled (l : Lists) (p : Process) : Type 0 where
  pub clock : IsTrue (is_among p.clock l.inputs)
  pub pin : IsTrue (is_among p.event l.inputs)
  pub apart : is_clock l p.event ≡ false
  pub negated : p.negated ≡ p.falling
  pub tested : p.tested ≡ p.event
  pub both : p.loaded ≡ p.cleared

-- the flop of a process, without its data
abbrev pub flop_of : Lists → Process → Flop
flop_of l p = record { clock = place l.sources p.clock; pin = place l.sources p.event; high = not p.falling; reset = p.value; «data» = 0 }

-- the clocks of these processes are inputs
abbrev pub AreInputs : List (List ℕ) → List Process → Type 0
AreInputs inputs ps = AllByRecursion (λ p. IsTrue (is_among p.clock inputs)) ps

-- a mark stands at exactly the clocks
abbrev pub AreMarked : List (List ℕ) → List Process → List Bool → Type 0
AreMarked sources ps marks = (t : List ℕ) → IsTrue (is_among t sources) → slice_index_or marks (place sources t) false ≡ is_among t (clocks ps)

-- Serves specs/Domain.antt: what is reached from a reset is its domain.
use Rattle.std.proofs.Common.{◌≡◌, ◌↔◌, ℕ, ◌+◌, ◌<◌, List, [], ◌∷◌, ◌++◌, length, get_or, take, Option, Some, None, sym, subst, ap, refl, ◌∙◌, arith}
use Rattle.std.specs.Prelude.{IfSome}
use Rattle.std.proofs.lemmas.List.{map_more, map-append, append-nil, get_or-map, length-map}
use Rattle.std.proofs.lemmas.List.Elements.{All-push, filter_map-append}
use Rattle.cons_bind.specs.Binding.{forms_of}
use Rattle.cons_bind.specs.declared.bound.BoundForm.{BoundForm}
use Rattle.cons_bind.specs.declared.bound.BoundLine.{BoundLine}
use Rattle.reset_trees.specs.declared.answers.DomainOf.{DomainOf}
use Rattle.reset_trees.specs.Domains.{reset_in, resets_in, AreInside, AreDomainsOf}
use Rattle.net_view.specs.Cone.{Lists}
use Rattle.net_view.proofs.SourceLemmas.{lists_same}
use Rattle.cons_bind.specs.Names.{Net}
use Rattle.reset_trees.specs.Domain.{InDomain, reads, follows}
use Rattle.reset_trees.specs.Reach.{Reaches, seed, step}
use Rattle.reset_trees.specs.Reads.{PinReads}

-- what is reached by the same steps, from the same seeds
pub reaches_same : (S T : ℕ → ℕ → Type 0) (P Q : ℕ → Type 0) → ((m n : ℕ) → S m n → T m n) → ((n : ℕ) → P n → Q n) → (n : ℕ) → Reaches S P n → Reaches T Q n
reaches_same S T P Q steps seeds n (seed _ h) = seed n (seeds n h)
reaches_same S T P Q steps seeds n (step m _ before led) = step m n (reaches_same S T P Q steps seeds m before) (steps m n led)

module _ (net : Net) (r : ℕ) (S : ℕ → ℕ → Type 0) (P : ℕ → Type 0) (is : (s f : ℕ) → S s f ↔ PinReads net f s) (from : (f : ℕ) → P f ↔ PinReads net f r) where
  reached_in : (f : ℕ) → Reaches S P f → InDomain net r f
  reached_in f (seed _ h) = reads f ((from f).0 h)
  reached_in f (step g _ before led) = follows f g ((is g f).0 led) (reached_in g before)

  in_reached : (f : ℕ) → InDomain net r f → Reaches S P f
  in_reached f (reads _ h) = seed f ((from f).1 h)
  in_reached f (follows _ g h before) = step g f (in_reached g before) ((is g f).1 h)

  pub domain_reached : (found : List ℕ) → Lists (Reaches S P) found → Lists (InDomain net r) found
  domain_reached found lists = lists_same (Reaches S P) (InDomain net r) found (λ f. (reached_in f, in_reached f)) lists

-- no line was looked at
pub domains_none : (net : Net) → AreDomainsOf net [] []
domains_none net = record { listed = refl; flops = λ k d lt. absurd (omega arith) }

pub forms_more : (lines : List BoundLine) (k : ℕ) (line : BoundLine) → k < length lines → line ≡ get_or lines k line → forms_of (take (k + 1) lines) ≡ forms_of (take k lines) ++ line.form ∷ []
forms_more lines k line lt is = map_more (λ (l : BoundLine). l.form) lines k line lt ∙ ap (λ (l : BoundLine). forms_of (take k lines) ++ l.form ∷ []) (sym is)

one_reset : (form : BoundForm) (r : ℕ) → reset_in form ≡ Some r → resets_in (form ∷ []) ≡ r ∷ []
one_reset form r e = rw e refl

no_reset : (form : BoundForm) → reset_in form ≡ None → resets_in (form ∷ []) ≡ []
no_reset form e = rw e refl

-- one more line, which declares a reset
pub domains_more : (net : Net) (lines : List BoundLine) (k : ℕ) (line : BoundLine) (resets : List DomainOf) (new : DomainOf) → k < length lines → line ≡ get_or lines k line → reset_in line.form ≡ Some new.reset → Lists (InDomain net new.reset) new.flops
    → AreDomainsOf net (forms_of (take k lines)) resets → AreDomainsOf net (forms_of (take (k + 1) lines)) (resets ++ new ∷ [])
domains_more net lines k line resets new lt is reset lists before = record {
  listed =
      map-append (λ (d : DomainOf). d.reset) resets (new ∷ []) ∙ ap (λ (rs : List ℕ). rs ++ new.reset ∷ []) before.listed
      ∙ sym (ap resets_in (forms_more lines k line lt is) ∙ filter_map-append reset_in (forms_of (take k lines)) (line.form ∷ []) ∙ ap (λ (rs : List ℕ). resets_in (forms_of (take k lines)) ++ rs) (one_reset line.form new.reset reset));
  flops = All-push (λ (d : DomainOf). Lists (InDomain net d.reset) d.flops) resets new before.flops lists;
}

-- one that doesn't
pub domains_skip : (net : Net) (lines : List BoundLine) (k : ℕ) (line : BoundLine) (resets : List DomainOf) → k < length lines → line ≡ get_or lines k line → reset_in line.form ≡ None
    → AreDomainsOf net (forms_of (take k lines)) resets → AreDomainsOf net (forms_of (take (k + 1) lines)) resets
domains_skip net lines k line resets lt is none before = record {
  listed =
      before.listed
      ∙ sym (ap resets_in (forms_more lines k line lt is) ∙ filter_map-append reset_in (forms_of (take k lines)) (line.form ∷ []) ∙ ap (λ (rs : List ℕ). resets_in (forms_of (take k lines)) ++ rs) (no_reset line.form none) ∙ append-nil (resets_in (forms_of (take k lines))));
  flops = before.flops;
}

none_of : (o : Option ℕ) → ((r : ℕ) → o ≡ Some r → ⊥) → o ≡ None
none_of None h = refl
none_of (Some r) h = absurd (h r refl)

pub no_claim : (form : BoundForm) (o : Option ℕ) → o ≡ reset_in form → ((r : ℕ) → o ≡ Some r → ⊥) → reset_in form ≡ None
no_claim form o is none = sym is ∙ none_of o none

-- a declared reset is inside
pub line_inside : (count : ℕ) (lines : List BoundLine) (k : ℕ) (line : BoundLine) (r : ℕ) → AreInside count (forms_of lines) → k < length lines → line ≡ get_or lines k line → reset_in line.form ≡ Some r → r < count
line_inside count lines k line r inside lt is reset =
    let form : get_or (forms_of lines) k line.form ≡ line.form = get_or-map (λ (l : BoundLine). l.form) lines k line line.form lt ∙ ap (λ (l : BoundLine). l.form) (sym is) in
    let here : IfSome (reset_in line.form) (λ s. s < count) = subst (λ (f : BoundForm). IfSome (reset_in f) (λ s. s < count)) form (inside k line.form (omega (arith, length-map lines (λ (l : BoundLine). l.form)))) in
    subst (λ (o : Option ℕ). IfSome o (λ s. s < count)) reset here

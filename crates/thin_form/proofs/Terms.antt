-- Names and steps as terms.
use Rattle.std.proofs.Common.{◌≡◌, ℕ, ◌≢◌, ◌<◌, ◌≤◌, ◌+◌, Bool, true, false, ◌||◌, set, inl, inr, List, [], ◌∷◌, ◌++◌, length, get_or, map, drop, Option, Some, None, refl, sym, ap, ◌∙◌, append_assoc, arith}
use Rattle.std.specs.Option.{option_map}
use Rattle.std.specs.Str.{bytes_eq}
use Rattle.std.proofs.lemmas.Bool.{cases_Bool}
use Rattle.std.proofs.lemmas.List.{drop_more, drop_all, append-nil, map-append, get_or-set_same, get_or-set_other}
use Rattle.thin_tree.specs.Postfix.{step_of, postfix, expression_of}
use Rattle.thin_tree.specs.declared.steps.Step as lent
use Rattle.thin_form.specs.declared.assigned.Expressed.{Expressed}
use Rattle.thin_form.specs.Meaning.{place}
use Rattle.thin_form.specs.Rules.{is_among}
use Rattle.thin_form.specs.Numbers.{Lists, AreLists, is_clock, term_of, terms_at, terms_of, joined, rules_of, fronted}
use Rattle.thin_form.specs.declared.term.Term.{Term}
use Rattle.thin_form.specs.declared.term.Term.TheVariants as term
use Rattle.thin_form.proofs.Naming.{place_lt, one_place, same_eq, eq_same}

pub mark_within : (l : Lists) (t : List ℕ) (n : ℕ) → AreLists l → is_among t l.sources ≡ true → n ≡ place l.sources t → n < length l.clocks
mark_within l t n are there at = omega (arith, place_lt l.sources t there, are.clocks)

clock_at : (l : Lists) (t : List ℕ) (n : ℕ) (b : Bool) → n ≡ place l.sources t → get_or l.clocks n false ≡ b → is_clock l t ≡ b
clock_at l t n b at marked = ap (λ (k : ℕ). get_or l.clocks k false) (sym at) ∙ marked

pub a_clock : (l : Lists) (t : List ℕ) (n : ℕ) → is_among t l.sources ≡ true → n ≡ place l.sources t → get_or l.clocks n false ≡ true → None ≡ term_of l t
a_clock l t n there at marked = sym (rw (there, clock_at l t n true at marked) refl)

pub a_source : (l : Lists) (t : List ℕ) (n : ℕ) → is_among t l.sources ≡ true → n ≡ place l.sources t → get_or l.clocks n false ≡ false → Some (term.Source n) ≡ term_of l t
a_source l t n there at unmarked = ap (λ (k : ℕ). Some (term.Source k)) at ∙ sym (rw (there, clock_at l t n false at unmarked) refl)

pub a_wire : (l : Lists) (t : List ℕ) (w : ℕ) → is_among t l.sources ≡ false → is_among t l.wires ≡ true → w ≡ place l.wires t → Some (term.Wire w) ≡ term_of l t
a_wire l t w absent there at = ap (λ (k : ℕ). Some (term.Wire k)) at ∙ sym (rw (absent, there) refl)

pub nothing : (l : Lists) (t : List ℕ) → is_among t l.sources ≡ false → is_among t l.wires ≡ false → None ≡ term_of l t
nothing l t absent also = sym (rw (absent, also) refl)

-- ---- steps one after another

joined_more : (out new : List Term) (a b : Option (List Term)) → option_map (λ ts. out ++ ts) a ≡ Some new → option_map (λ ts. new ++ ts) b ≡ option_map (λ ts. out ++ ts) (joined a b)
joined_more out new None b e = absurd cc
joined_more out new (Some ts) None e = refl
joined_more out new (Some ts) (Some us) e = let made : out ++ ts ≡ new = cc in rw (← made, append_assoc) refl

module _ (l : Lists) (steps : List lent.Step) (i : ℕ) (d : lent.Step) (r : Option (List Term)) (lt : i < length steps) where
  next_terms : terms_of l (map step_of (drop i steps)) ≡ joined (terms_at l (step_of (get_or steps i d))) (terms_of l (map step_of (drop (i + 1) steps)))
  unfolding terms_of
  next_terms = ap (λ (xs : List lent.Step). terms_of l (map step_of xs)) (drop_more steps i d lt)

  pub terms_more : (out new : List Term) → option_map (λ ts. out ++ ts) (terms_of l (map step_of (drop i steps))) ≡ r → option_map (λ ts. out ++ ts) (terms_at l (step_of (get_or steps i d))) ≡ Some new
      → option_map (λ ts. new ++ ts) (terms_of l (map step_of (drop (i + 1) steps))) ≡ r
  terms_more out new so_far here =
      joined_more out new (terms_at l (step_of (get_or steps i d))) (terms_of l (map step_of (drop (i + 1) steps))) here
      ∙ ap (option_map (λ ts. out ++ ts)) (sym next_terms) ∙ so_far

  pub terms_stop : (out : List Term) → option_map (λ ts. out ++ ts) (terms_of l (map step_of (drop i steps))) ≡ r → terms_at l (step_of (get_or steps i d)) ≡ None → r ≡ None
  terms_stop out so_far here =
      sym so_far ∙ ap (option_map (λ ts. out ++ ts)) (next_terms ∙ ap (λ (o : Option (List Term)). joined o (terms_of l (map step_of (drop (i + 1) steps)))) here)

pub terms_done : (l : Lists) (steps : List lent.Step) (i : ℕ) (r : Option (List Term)) (out : List Term) → length steps ≤ i → option_map (λ ts. out ++ ts) (terms_of l (map step_of (drop i steps))) ≡ r → r ≡ Some out
unfolding terms_of
terms_done l steps i r out le so_far = sym so_far ∙ ap (λ (xs : List lent.Step). option_map (λ ts. out ++ ts) (terms_of l (map step_of xs))) (drop_all i steps le) ∙ ap Some (append-nil out)

-- ---- expressions one after another

fronted_more : (out : List (List Term)) (ts : List Term) (b : Option (List (List Term))) → option_map (λ rs. (out ++ ts ∷ []) ++ rs) b ≡ option_map (λ rs. out ++ rs) (fronted (Some ts) b)
fronted_more out ts None = refl
fronted_more out ts (Some us) = rw append_assoc refl

module _ (l : Lists) (read : List Expressed) (i : ℕ) (d : Expressed) (r : Option (List (List Term))) (lt : i < length read) where
  next_rules : rules_of l (map (λ e. expression_of e.of.now) (drop i read)) ≡ fronted (terms_of l (postfix (expression_of (get_or read i d).of.now))) (rules_of l (map (λ e. expression_of e.of.now) (drop (i + 1) read)))
  unfolding rules_of
  next_rules = ap (λ (xs : List Expressed). rules_of l (map (λ e. expression_of e.of.now) xs)) (drop_more read i d lt)

  pub rules_more : (out : List (List Term)) (ts : List Term) → option_map (λ rs. out ++ rs) (rules_of l (map (λ e. expression_of e.of.now) (drop i read))) ≡ r → terms_of l (postfix (expression_of (get_or read i d).of.now)) ≡ Some ts
      → option_map (λ rs. (out ++ ts ∷ []) ++ rs) (rules_of l (map (λ e. expression_of e.of.now) (drop (i + 1) read))) ≡ r
  rules_more out ts so_far here =
      fronted_more out ts (rules_of l (map (λ e. expression_of e.of.now) (drop (i + 1) read)))
      ∙ ap (λ (o : Option (List Term)). option_map (λ rs. out ++ rs) (fronted o (rules_of l (map (λ e. expression_of e.of.now) (drop (i + 1) read))))) (sym here)
      ∙ ap (option_map (λ rs. out ++ rs)) (sym next_rules) ∙ so_far

  pub rules_stop : (out : List (List Term)) → option_map (λ rs. out ++ rs) (rules_of l (map (λ e. expression_of e.of.now) (drop i read))) ≡ r → terms_of l (postfix (expression_of (get_or read i d).of.now)) ≡ None → r ≡ None
  rules_stop out so_far here =
      sym so_far ∙ ap (option_map (λ rs. out ++ rs)) (next_rules ∙ ap (λ (o : Option (List Term)). fronted o (rules_of l (map (λ e. expression_of e.of.now) (drop (i + 1) read)))) here)

pub rules_done : (l : Lists) (read : List Expressed) (i : ℕ) (r : Option (List (List Term))) (out : List (List Term)) → length read ≤ i → option_map (λ rs. out ++ rs) (rules_of l (map (λ e. expression_of e.of.now) (drop i read))) ≡ r → r ≡ Some out
unfolding rules_of
rules_done l read i r out le so_far = sym so_far ∙ ap (λ (xs : List Expressed). option_map (λ rs. out ++ rs) (rules_of l (map (λ e. expression_of e.of.now) xs))) (drop_all i read le) ∙ ap Some (append-nil out)

pub rules_pushed : {X : Type 0} (items : X → List Term) (l : Lists) (read : List Expressed) (i : ℕ) (d : Expressed) (r : Option (List (List Term))) (out new : List X) (x : X) → i < length read → new ≡ out ++ x ∷ [] → d ≡ get_or read i d
    → option_map (λ rs. map items out ++ rs) (rules_of l (map (λ e. expression_of e.of.now) (drop i read))) ≡ r → terms_of l (postfix (expression_of d.of.now)) ≡ Some (items x)
    → option_map (λ rs. map items new ++ rs) (rules_of l (map (λ e. expression_of e.of.now) (drop (i + 1) read))) ≡ r
rules_pushed items l read i d r out new x lt pushed at so_far here =
    let all : map items new ≡ map items out ++ items x ∷ [] = ap (map items) pushed ∙ map-append items out (x ∷ []) in
    ap (λ (os : List (List Term)). option_map (λ rs. os ++ rs) (rules_of l (map (λ e. expression_of e.of.now) (drop (i + 1) read)))) all
    ∙ rules_more l read i d r lt (map items out) (items x) so_far (ap (λ (e : Expressed). terms_of l (postfix (expression_of e.of.now))) (sym at) ∙ here)

pub rules_ended : (l : Lists) (read : List Expressed) (i : ℕ) (d : Expressed) (r : Option (List (List Term))) (out : List (List Term)) → i < length read → d ≡ get_or read i d
    → option_map (λ rs. out ++ rs) (rules_of l (map (λ e. expression_of e.of.now) (drop i read))) ≡ r → terms_of l (postfix (expression_of d.of.now)) ≡ None → r ≡ None
rules_ended l read i d r out lt at so_far here = rules_stop l read i d r lt out so_far (ap (λ (e : Expressed). terms_of l (postfix (expression_of e.of.now))) (sym at) ∙ here)

-- ---- marks at clocks

or_true : (b : Bool) → (b || true) ≡ true
or_true true = refl
or_true false = refl

pub marked_step : (ns : List (List ℕ)) (marks : List Bool) (n : ℕ) (clock t : List ℕ) (rest all : Bool) → length marks ≡ length ns → is_among clock ns ≡ true → n ≡ place ns clock → is_among t ns ≡ true
    → (get_or marks (place ns t) false || (bytes_eq t clock || rest)) ≡ all → (get_or (set marks n true) (place ns t) false || rest) ≡ all
marked_step ns marks n clock t rest all len there at among so_far =
    let within : n < length marks = omega (arith, place_lt ns clock there) in
    elim (cases_Bool (bytes_eq t clock)) [
      | inl same ↦
          let here : place ns t ≡ n = ap (place ns) (same_eq t clock same) ∙ sym at in
          let written : get_or (set marks n true) (place ns t) false ≡ true = ap (λ (k : ℕ). get_or (set marks n true) k false) here ∙ get_or-set_same marks n true false within in
          ap (λ (b : Bool). b || rest) written ∙ sym (or_true (get_or marks (place ns t) false)) ∙ ap (λ (b : Bool). get_or marks (place ns t) false || (b || rest)) (sym same) ∙ so_far
      | inr other ↦
          let elsewhere : place ns t ≢ n = λ one. let same = one_place ns t clock among there (one ∙ at) in let is : bytes_eq t clock ≡ true = eq_same t clock same in absurd cc in
          ap (λ (b : Bool). b || rest) (get_or-set_other marks n (place ns t) true false elsewhere) ∙ ap (λ (b : Bool). get_or marks (place ns t) false || (b || rest)) (sym other) ∙ so_far
    ]

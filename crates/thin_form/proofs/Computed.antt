-- What the terms of an expression read and compute.
use Rattle.std.proofs.Common.{◌≡◌, ◌⊎◌, inl, inr, ℕ, ◌<◌, ◌≤◌, Bool, true, false, cond, List, [], ◌∷◌, ◌++◌, length, Some, None, refl, sym, ap, subst, ◌∙◌, append_assoc, arith}
use Rattle.std.specs.Str.{bytes_eq}
use Rattle.std.proofs.lemmas.Bool.{cases_Bool, or_cases, or_left, or_right}
use Rattle.std.proofs.lemmas.List.{append-nil, length-append}
use Rattle.std.proofs.lemmas.List.Folds.{list_any-append}
use Rattle.thin_tree.specs.Tree as tree
use Rattle.thin_tree.specs.Tree.{Expr, Name, Brackets}
use Rattle.thin_tree.specs.Postfix.{postfix}
use Rattle.thin_tree.specs.Postfix as step
use Rattle.thin_tree.specs.Grammar.{names_in}
use Rattle.thin_form.specs.Formula as formula
use Rattle.thin_form.specs.Formula.{Formula}
use Rattle.thin_form.specs.Netlist.{formula_at}
use Rattle.thin_form.specs.Walk.{IsIn}
use Rattle.thin_form.specs.Meaning as means
use Rattle.thin_form.specs.Meaning.{place, IsFormulaOf}
use Rattle.thin_form.specs.Rules.{is_among}
use Rattle.thin_form.specs.Numbers.{Lists, is_clock, term_of}
use Rattle.thin_form.specs.Values.{after_terms, last_of, value_of, IsWhole, wires_in, sources_in}
use Rattle.thin_form.specs.declared.term.Term.{Term}
use Rattle.thin_form.specs.declared.term.Term.TheVariants.{Source, Wire, Not, And, Or}
use Rattle.thin_form.proofs.Naming.{place_lt, same_eq, eq_same}
use Rattle.thin_form.proofs.Walks.{in_left, in_right, in_either}
use Rattle.thin_form.proofs.Exprs.{IsTerms, a_name, in_brackets, a_not, an_and, an_or}

-- ---- the term of a name

abbrev OneOf : Lists → List ℕ → Term → Type 0
OneOf l n t = ((is_among n l.sources ≡ true) × (is_clock l n ≡ false) × (t ≡ Source (place l.sources n))) ⊎ ((is_among n l.sources ≡ false) × (is_among n l.wires ≡ true) × (t ≡ Wire (place l.wires n)))

pub term_cases : (l : Lists) (n : List ℕ) (t : Term) → term_of l n ≡ Some t → OneOf l n t
term_cases l n t is = elim (cases_Bool (is_among n l.sources)) [
  | inl there ↦
      let source : cond (is_clock l n) None (Some (Source (place l.sources n))) ≡ Some t = ap (λ (b : Bool). cond b (cond (is_clock l n) None (Some (Source (place l.sources n)))) (cond (is_among n l.wires) (Some (Wire (place l.wires n))) None)) (sym there) ∙ is in
      elim (cases_Bool (is_clock l n)) [
        | inl clock ↦ absurd (let none : None ≡ Some t = ap (λ (b : Bool). cond b None (Some (Source (place l.sources n)))) (sym clock) ∙ source in cc)
        | inr other ↦ let some : Some (Source (place l.sources n)) ≡ Some t = ap (λ (b : Bool). cond b None (Some (Source (place l.sources n)))) (sym other) ∙ source in inl (there, other, cc)
      ]
  | inr absent ↦
      let wire : cond (is_among n l.wires) (Some (Wire (place l.wires n))) None ≡ Some t = ap (λ (b : Bool). cond b (cond (is_clock l n) None (Some (Source (place l.sources n)))) (cond (is_among n l.wires) (Some (Wire (place l.wires n))) None)) (sym absent) ∙ is in
      elim (cases_Bool (is_among n l.wires)) [
        | inl there ↦ let some : Some (Wire (place l.wires n)) ≡ Some t = ap (λ (b : Bool). cond b (Some (Wire (place l.wires n))) None) (sym there) ∙ wire in inr (absent, there, cc)
        | inr also ↦ absurd (let none : None ≡ Some t = ap (λ (b : Bool). cond b (Some (Wire (place l.wires n))) None) (sym also) ∙ wire in cc)
      ]
]

-- ---- wires and sources that are read

wires-append : (xs ys : List Term) → wires_in (xs ++ ys) ≡ wires_in xs ++ wires_in ys
wires-append [] ys = refl
wires-append (Source n ∷ xs) ys = wires-append xs ys
wires-append (Wire w ∷ xs) ys = ap (λ (ws : List ℕ). w ∷ ws) (wires-append xs ys)
wires-append (Not ∷ xs) ys = wires-append xs ys
wires-append (And ∷ xs) ys = wires-append xs ys
wires-append (Or ∷ xs) ys = wires-append xs ys

sources-append : (xs ys : List Term) → sources_in (xs ++ ys) ≡ sources_in xs ++ sources_in ys
sources-append [] ys = refl
sources-append (Source n ∷ xs) ys = ap (λ (ws : List ℕ). n ∷ ws) (sources-append xs ys)
sources-append (Wire w ∷ xs) ys = sources-append xs ys
sources-append (Not ∷ xs) ys = sources-append xs ys
sources-append (And ∷ xs) ys = sources-append xs ys
sources-append (Or ∷ xs) ys = sources-append xs ys

-- a gate behind terms reads nothing more
wires-gate : (xs : List Term) (g : Term) → wires_in (g ∷ []) ≡ [] → wires_in (xs ++ g ∷ []) ≡ wires_in xs
wires-gate xs g none = wires-append xs (g ∷ []) ∙ ap (λ (ws : List ℕ). wires_in xs ++ ws) none ∙ append-nil (wires_in xs)

sources-gate : (xs : List Term) (g : Term) → sources_in (g ∷ []) ≡ [] → sources_in (xs ++ g ∷ []) ≡ sources_in xs
sources-gate xs g none = sources-append xs (g ∷ []) ∙ ap (λ (ws : List ℕ). sources_in xs ++ ws) none ∙ append-nil (sources_in xs)

wires-two : (xs ys : List Term) (g : Term) → wires_in (g ∷ []) ≡ [] → wires_in (xs ++ (ys ++ g ∷ [])) ≡ wires_in xs ++ wires_in ys
wires-two xs ys g none = wires-append xs (ys ++ g ∷ []) ∙ ap (λ (ws : List ℕ). wires_in xs ++ ws) (wires-gate ys g none)

sources-two : (xs ys : List Term) (g : Term) → sources_in (g ∷ []) ≡ [] → sources_in (xs ++ (ys ++ g ∷ [])) ≡ sources_in xs ++ sources_in ys
sources-two xs ys g none = sources-append xs (ys ++ g ∷ []) ∙ ap (λ (ws : List ℕ). sources_in xs ++ ws) (sources-gate ys g none)

-- wire v is read by its name
pub record IsNamedIn (l : Lists) (e : Expr) (v : ℕ) : Type 0 where
  pub name : List ℕ
  pub there : is_among name (names_in e) ≡ true
  pub no_source : is_among name l.sources ≡ false
  pub wire : is_among name l.wires ≡ true
  pub at : place l.wires name ≡ v

among_left : (n : List ℕ) (xs ys : List (List ℕ)) → is_among n xs ≡ true → is_among n (xs ++ ys) ≡ true
among_left n xs ys h = list_any-append (bytes_eq n) xs ys ∙ or_left (is_among n xs) (is_among n ys) h

among_right : (n : List ℕ) (xs ys : List (List ℕ)) → is_among n ys ≡ true → is_among n (xs ++ ys) ≡ true
among_right n xs ys h = list_any-append (bytes_eq n) xs ys ∙ or_right (is_among n xs) (is_among n ys) h

among_either : (n : List ℕ) (xs ys : List (List ℕ)) → is_among n (xs ++ ys) ≡ true → (is_among n xs ≡ true) ⊎ (is_among n ys ≡ true)
among_either n xs ys h = or_cases (is_among n xs) (is_among n ys) (sym (list_any-append (bytes_eq n) xs ys) ∙ h)

named_left : (l : Lists) (a b e : Expr) (v : ℕ) → names_in e ≡ names_in a ++ names_in b → IsNamedIn l a v → IsNamedIn l e v
named_left l a b e v is h = record { name = h.name; there = ap (is_among h.name) is ∙ among_left h.name (names_in a) (names_in b) h.there; no_source = h.no_source; wire = h.wire; at = h.at }

named_right : (l : Lists) (a b e : Expr) (v : ℕ) → names_in e ≡ names_in a ++ names_in b → IsNamedIn l b v → IsNamedIn l e v
named_right l a b e v is h = record { name = h.name; there = ap (is_among h.name) is ∙ among_right h.name (names_in a) (names_in b) h.there; no_source = h.no_source; wire = h.wire; at = h.at }

itself : (n : List ℕ) → is_among n (n ∷ []) ≡ true
itself n = rw (eq_same n n refl) refl

-- a wire that the terms read is named in the expression
pub named : (l : Lists) (e : Expr) (ts : List Term) (v : ℕ) → IsTerms l e ts → IsIn v (wires_in ts) → IsNamedIn l e v
named l _ _ v (a_name n t is) h = elim (term_cases l n t is) [
  | inl source ↦ absurd (subst (λ (x : Term). IsIn v (wires_in (x ∷ []))) source.2 h)
  | inr wire ↦
      let at : IsIn v (wires_in (Wire (place l.wires n) ∷ [])) = subst (λ (x : Term). IsIn v (wires_in (x ∷ []))) wire.2 h in
      elim at [ inl e ↦ record { name = n; there = itself n; no_source = wire.0; wire = wire.1; at = sym e } | inr none ↦ absurd none ]
]
named l _ _ v (in_brackets a ts is) h = let below = named l a ts v is h in record { name = below.name; there = below.there; no_source = below.no_source; wire = below.wire; at = below.at }
named l _ _ v (a_not a ts is) h = let below = named l a ts v is (subst (IsIn v) (wires-gate ts Not refl) h) in record { name = below.name; there = below.there; no_source = below.no_source; wire = below.wire; at = below.at }
named l _ _ v (an_and a b ts us x y) h = elim (in_either (wires_in ts) (wires_in us) v (subst (IsIn v) (wires-two ts us And refl) h)) [
  | inl there ↦ named_left l a b (tree.And a b) v refl (named l a ts v x there)
  | inr there ↦ named_right l a b (tree.And a b) v refl (named l b us v y there)
]
named l _ _ v (an_or a b ts us x y) h = elim (in_either (wires_in ts) (wires_in us) v (subst (IsIn v) (wires-two ts us Or refl) h)) [
  | inl there ↦ named_left l a b (tree.Or a b) v refl (named l a ts v x there)
  | inr there ↦ named_right l a b (tree.Or a b) v refl (named l b us v y there)
]

-- a name in the expression that is no source is a wire that the terms read
pub wire_read : (l : Lists) (e : Expr) (ts : List Term) (n : List ℕ) → IsTerms l e ts → is_among n (names_in e) ≡ true → is_among n l.sources ≡ false → (is_among n l.wires ≡ true) × IsIn (place l.wires n) (wires_in ts)
wire_read l _ _ n (a_name m t is) h absent =
    let same : n ≡ m = elim (or_cases (bytes_eq n m) false h) [ inl e ↦ same_eq n m e | inr e ↦ absurd cc ] in
    elim (term_cases l m t is) [
      | inl source ↦ absurd (let there : is_among n l.sources ≡ true = ap (λ (x : List ℕ). is_among x l.sources) same ∙ source.0 in cc)
      | inr wire ↦ (ap (λ (x : List ℕ). is_among x l.wires) same ∙ wire.1, subst (λ (x : Term). IsIn (place l.wires n) (wires_in (x ∷ []))) (sym wire.2) (inl (ap (place l.wires) same)))
    ]
wire_read l _ _ n (in_brackets a ts is) h absent = wire_read l a ts n is h absent
wire_read l _ _ n (a_not a ts is) h absent = let below = wire_read l a ts n is h absent in (below.0, subst (IsIn (place l.wires n)) (sym (wires-gate ts Not refl)) below.1)
wire_read l _ _ n (an_and a b ts us x y) h absent = elim (among_either n (names_in a) (names_in b) h) [
  | inl there ↦ let below = wire_read l a ts n x there absent in (below.0, subst (IsIn (place l.wires n)) (sym (wires-two ts us And refl)) (in_left (wires_in ts) (wires_in us) (place l.wires n) below.1))
  | inr there ↦ let below = wire_read l b us n y there absent in (below.0, subst (IsIn (place l.wires n)) (sym (wires-two ts us And refl)) (in_right (wires_in ts) (wires_in us) (place l.wires n) below.1))
]
wire_read l _ _ n (an_or a b ts us x y) h absent = elim (among_either n (names_in a) (names_in b) h) [
  | inl there ↦ let below = wire_read l a ts n x there absent in (below.0, subst (IsIn (place l.wires n)) (sym (wires-two ts us Or refl)) (in_left (wires_in ts) (wires_in us) (place l.wires n) below.1))
  | inr there ↦ let below = wire_read l b us n y there absent in (below.0, subst (IsIn (place l.wires n)) (sym (wires-two ts us Or refl)) (in_right (wires_in ts) (wires_in us) (place l.wires n) below.1))
]

-- a source that the terms read is there
pub source_there : (l : Lists) (e : Expr) (ts : List Term) (n : ℕ) → IsTerms l e ts → IsIn n (sources_in ts) → n < length l.sources
source_there l _ _ n (a_name m t is) h = elim (term_cases l m t is) [
  | inl source ↦
      let at : IsIn n (sources_in (Source (place l.sources m) ∷ [])) = subst (λ (x : Term). IsIn n (sources_in (x ∷ []))) source.2 h in
      elim at [ inl e ↦ omega (arith, place_lt l.sources m source.0, e) | inr none ↦ absurd none ]
  | inr wire ↦ absurd (subst (λ (x : Term). IsIn n (sources_in (x ∷ []))) wire.2 h)
]
source_there l _ _ n (in_brackets a ts is) h = source_there l a ts n is h
source_there l _ _ n (a_not a ts is) h = source_there l a ts n is (subst (IsIn n) (sources-gate ts Not refl) h)
source_there l _ _ n (an_and a b ts us x y) h = elim (in_either (sources_in ts) (sources_in us) n (subst (IsIn n) (sources-two ts us And refl) h)) [ inl there ↦ source_there l a ts n x there | inr there ↦ source_there l b us n y there ]
source_there l _ _ n (an_or a b ts us x y) h = elim (in_either (sources_in ts) (sources_in us) n (subst (IsIn n) (sources-two ts us Or refl) h)) [ inl there ↦ source_there l a ts n x there | inr there ↦ source_there l b us n y there ]

-- ---- what the terms compute

-- the terms put one value on the stack, and it is the formula of the expression where its wires have theirs
pub record IsComputed (l : Lists) (fs : List Formula) (e : Expr) (ts : List Term) : Type 0 where
  pub value : Formula
  pub runs : (rest : List Term) (st : List Formula) → after_terms fs (ts ++ rest) st ≡ after_terms fs rest (value ∷ st)
  pub means : (assigns : List tree.Assignment) → ((n : List ℕ) → is_among n (names_in e) ≡ true → is_among n l.sources ≡ false → IsFormulaOf l.sources assigns (Name n) (formula_at fs (place l.wires n))) → IsFormulaOf l.sources assigns e value

step_source : (fs : List Formula) (n : ℕ) (rest : List Term) (st : List Formula) → after_terms fs (Source n ∷ rest) st ≡ after_terms fs rest (formula.Source n ∷ st)
unfolding after_terms
step_source fs n rest st = refl

step_wire : (fs : List Formula) (w : ℕ) (rest : List Term) (st : List Formula) → after_terms fs (Wire w ∷ rest) st ≡ after_terms fs rest (formula_at fs w ∷ st)
unfolding after_terms
step_wire fs w rest st = refl

step_not : (fs : List Formula) (f : Formula) (rest : List Term) (st : List Formula) → after_terms fs (Not ∷ rest) (f ∷ st) ≡ after_terms fs rest (formula.Not f ∷ st)
unfolding after_terms
step_not fs f rest st = refl

step_and : (fs : List Formula) (f g : Formula) (rest : List Term) (st : List Formula) → after_terms fs (And ∷ rest) (g ∷ (f ∷ st)) ≡ after_terms fs rest (formula.And f g ∷ st)
unfolding after_terms
step_and fs f g rest st = refl

step_or : (fs : List Formula) (f g : Formula) (rest : List Term) (st : List Formula) → after_terms fs (Or ∷ rest) (g ∷ (f ∷ st)) ≡ after_terms fs rest (formula.Or f g ∷ st)
unfolding after_terms
step_or fs f g rest st = refl

pub computed : (l : Lists) (fs : List Formula) (e : Expr) (ts : List Term) → IsTerms l e ts → IsComputed l fs e ts
computed l fs _ _ (a_name n t is) = elim (term_cases l n t is) [
  | inl source ↦ record {
    value = formula.Source (place l.sources n);
    runs = λ rest st. ap (λ (x : Term). after_terms fs (x ∷ rest) st) source.2 ∙ step_source fs (place l.sources n) rest st;
    means = λ assigns wires. means.a_source n source.0;
  }
  | inr wire ↦ record {
    value = formula_at fs (place l.wires n);
    runs = λ rest st. ap (λ (x : Term). after_terms fs (x ∷ rest) st) wire.2 ∙ step_wire fs (place l.wires n) rest st;
    means = λ assigns wires. wires n (itself n) wire.0;
  }
]
computed l fs _ _ (in_brackets a ts is) =
    let below = computed l fs a ts is in
    record { value = below.value; runs = below.runs; means = λ assigns wires. means.brackets a below.value (below.means assigns wires) }
computed l fs _ _ (a_not a ts is) =
    let below = computed l fs a ts is in
    record {
      value = formula.Not below.value;
      runs = λ rest st. ap (λ (xs : List Term). after_terms fs xs st) (append_assoc ts (Not ∷ []) rest) ∙ below.runs (Not ∷ rest) st ∙ step_not fs below.value rest st;
      means = λ assigns wires. means.negation a below.value (below.means assigns wires);
    }
computed l fs _ _ (an_and a b ts us x y) =
    let first = computed l fs a ts x in
    let second = computed l fs b us y in
    record {
      value = formula.And first.value second.value;
      runs = λ rest st.
          ap (λ (xs : List Term). after_terms fs xs st) (append_assoc ts (us ++ And ∷ []) rest ∙ ap (λ (zs : List Term). ts ++ zs) (append_assoc us (And ∷ []) rest))
          ∙ first.runs (us ++ And ∷ rest) st ∙ second.runs (And ∷ rest) (first.value ∷ st) ∙ step_and fs first.value second.value rest st;
      means = λ assigns wires. means.both a b first.value second.value (first.means assigns (λ n h absent. wires n (among_left n (names_in a) (names_in b) h) absent)) (second.means assigns (λ n h absent. wires n (among_right n (names_in a) (names_in b) h) absent));
    }
computed l fs _ _ (an_or a b ts us x y) =
    let first = computed l fs a ts x in
    let second = computed l fs b us y in
    record {
      value = formula.Or first.value second.value;
      runs = λ rest st.
          ap (λ (xs : List Term). after_terms fs xs st) (append_assoc ts (us ++ Or ∷ []) rest ∙ ap (λ (zs : List Term). ts ++ zs) (append_assoc us (Or ∷ []) rest))
          ∙ first.runs (us ++ Or ∷ rest) st ∙ second.runs (Or ∷ rest) (first.value ∷ st) ∙ step_or fs first.value second.value rest st;
      means = λ assigns wires. means.either a b first.value second.value (first.means assigns (λ n h absent. wires n (among_left n (names_in a) (names_in b) h) absent)) (second.means assigns (λ n h absent. wires n (among_right n (names_in a) (names_in b) h) absent));
    }

nothing_more : (fs : List Formula) (st : List Formula) → after_terms fs [] st ≡ Some st
unfolding after_terms
nothing_more fs st = refl

pub value_is : (l : Lists) (fs : List Formula) (e : Expr) (ts : List Term) (c : IsComputed l fs e ts) → value_of fs ts ≡ Some c.value
value_is l fs e ts c = ap last_of (ap (λ (xs : List Term). after_terms fs xs []) (sym (append-nil ts)) ∙ c.runs [] [] ∙ nothing_more fs (c.value ∷ []))

pub is_whole : (l : Lists) (e : Expr) (ts : List Term) → IsTerms l e ts → IsWhole ts
is_whole l e ts is ws none = let value = value_is l ws e ts (computed l ws e ts is) in cc

-- terms are no more than steps
pub fewer_terms : (l : Lists) (e : Expr) (ts : List Term) → IsTerms l e ts → length ts ≤ length (postfix e)
fewer_terms l _ _ (a_name n t is) = omega arith
fewer_terms l _ _ (in_brackets a ts is) = omega (arith, fewer_terms l a ts is, length-append (postfix a) (step.brackets ∷ []))
fewer_terms l _ _ (a_not a ts is) = omega (arith, fewer_terms l a ts is, length-append (postfix a) (step.negation ∷ []), length-append ts (Not ∷ []))
fewer_terms l _ _ (an_and a b ts us x y) = omega (arith, fewer_terms l a ts x, fewer_terms l b us y, length-append (postfix a) (postfix b ++ step.both ∷ []), length-append (postfix b) (step.both ∷ []), length-append ts (us ++ And ∷ []), length-append us (And ∷ []))
fewer_terms l _ _ (an_or a b ts us x y) = omega (arith, fewer_terms l a ts x, fewer_terms l b us y, length-append (postfix a) (postfix b ++ step.either ∷ []), length-append (postfix b) (step.either ∷ []), length-append ts (us ++ Or ∷ []), length-append us (Or ∷ []))

-- An expression as terms: what it reads and what it computes.
use Rattle.std.proofs.Common.{◌≡◌, ℕ, List, [], ◌∷◌, ◌++◌, Option, Some, None, refl, sym, ap, subst, ◌∙◌, append_assoc}
use Rattle.std.specs.List.{AllByRecursion}
use Rattle.std.proofs.lemmas.List.{append-nil}
use Rattle.thin_tree.specs.Tree as tree
use Rattle.thin_tree.specs.Tree.{Expr, Name, Brackets}
use Rattle.thin_tree.specs.Postfix.{Step, postfix}
use Rattle.thin_tree.specs.Postfix as step
use Rattle.thin_tree.specs.Grammar.{names_in}
use Rattle.thin_form.specs.Numbers.{Lists, term_of, terms_at, terms_of, joined, one}
use Rattle.thin_form.specs.declared.term.Term.{Term}
use Rattle.thin_form.specs.declared.term.Term.TheVariants.{Not, And, Or}

joined-assoc : (a b c : Option (List Term)) → joined (joined a b) c ≡ joined a (joined b c)
joined-assoc None b c = refl
joined-assoc (Some x) None c = refl
joined-assoc (Some x) (Some y) None = refl
joined-assoc (Some x) (Some y) (Some z) = ap (λ (ts : List Term). Some ts) (append_assoc x y z)

joined-none : (a : Option (List Term)) → joined a (Some []) ≡ a
joined-none None = refl
joined-none (Some x) = ap (λ (ts : List Term). Some ts) (append-nil x)

terms-append : (l : Lists) (xs ys : List Step) → terms_of l (xs ++ ys) ≡ joined (terms_of l xs) (terms_of l ys)
unfolding terms_of
terms-append l [] ys = go (terms_of l ys)
  where
    go : (o : Option (List Term)) → o ≡ joined (Some []) o
    go None = refl
    go (Some ts) = refl
terms-append l (x ∷ xs) ys = ap (joined (terms_at l x)) (terms-append l xs ys) ∙ sym (joined-assoc (terms_at l x) (terms_of l xs) (terms_of l ys))

terms-one : (l : Lists) (x : Step) → terms_of l (x ∷ []) ≡ terms_at l x
unfolding terms_of
terms-one l x = joined-none (terms_at l x)

-- an expression as terms
abbrev pub terms_in : Lists → Expr → Option (List Term)
terms_in l e = terms_of l (postfix e)

terms-name : (l : Lists) (n : List ℕ) → terms_in l (Name n) ≡ one (term_of l n)
terms-name l n = terms-one l (step.name n)

terms-brackets : (l : Lists) (a : Expr) → terms_in l (Brackets a) ≡ terms_in l a
terms-brackets l a = terms-append l (postfix a) (step.brackets ∷ []) ∙ ap (joined (terms_in l a)) (terms-one l step.brackets) ∙ joined-none (terms_in l a)

terms-not : (l : Lists) (a : Expr) → terms_in l (tree.Not a) ≡ joined (terms_in l a) (Some (Not ∷ []))
terms-not l a = terms-append l (postfix a) (step.negation ∷ []) ∙ ap (joined (terms_in l a)) (terms-one l step.negation)

terms-and : (l : Lists) (a b : Expr) → terms_in l (tree.And a b) ≡ joined (terms_in l a) (joined (terms_in l b) (Some (And ∷ [])))
terms-and l a b = terms-append l (postfix a) (postfix b ++ step.both ∷ []) ∙ ap (joined (terms_in l a)) (terms-append l (postfix b) (step.both ∷ []) ∙ ap (joined (terms_in l b)) (terms-one l step.both))

terms-or : (l : Lists) (a b : Expr) → terms_in l (tree.Or a b) ≡ joined (terms_in l a) (joined (terms_in l b) (Some (Or ∷ [])))
terms-or l a b = terms-append l (postfix a) (postfix b ++ step.either ∷ []) ∙ ap (joined (terms_in l a)) (terms-append l (postfix b) (step.either ∷ []) ∙ ap (joined (terms_in l b)) (terms-one l step.either))

-- ---- parts of what is joined

record AreParts (a b : Option (List Term)) (ts : List Term) : Type 0 where
  first : List Term
  second : List Term
  first_is : a ≡ Some first
  second_is : b ≡ Some second
  whole : ts ≡ first ++ second

parts_of : (a b : Option (List Term)) (ts : List Term) → joined a b ≡ Some ts → AreParts a b ts
parts_of None b ts e = absurd cc
parts_of (Some x) None ts e = absurd cc
parts_of (Some x) (Some y) ts e = record { first = x; second = y; first_is = refl; second_is = refl; whole = cc }

joined_some : (a b : Option (List Term)) → (a ≡ None → ⊥) → (b ≡ None → ⊥) → joined a b ≡ None → ⊥
joined_some None b x y e = x refl
joined_some (Some ts) None x y e = y refl
joined_some (Some ts) (Some us) x y e = cc

-- an expression and what it is, as a relation
pub data IsTerms (l : Lists) : Expr → List Term → Type 0 where
  a_name : (n : List ℕ) (t : Term) → term_of l n ≡ Some t → IsTerms l (Name n) (t ∷ [])
  in_brackets : (a : Expr) (ts : List Term) → IsTerms l a ts → IsTerms l (Brackets a) ts
  a_not : (a : Expr) (ts : List Term) → IsTerms l a ts → IsTerms l (tree.Not a) (ts ++ Not ∷ [])
  an_and : (a b : Expr) (ts us : List Term) → IsTerms l a ts → IsTerms l b us → IsTerms l (tree.And a b) (ts ++ (us ++ And ∷ []))
  an_or : (a b : Expr) (ts us : List Term) → IsTerms l a ts → IsTerms l b us → IsTerms l (tree.Or a b) (ts ++ (us ++ Or ∷ []))

one_term : (l : Lists) (n : List ℕ) (ts : List Term) (o : Option Term) → term_of l n ≡ o → one o ≡ Some ts → IsTerms l (Name n) ts
one_term l n ts None is e = absurd cc
one_term l n ts (Some t) is e = let same : t ∷ [] ≡ ts = cc in subst (IsTerms l (Name n)) same (a_name n t is)

pub as_terms : (l : Lists) (e : Expr) (ts : List Term) → terms_in l e ≡ Some ts → IsTerms l e ts
as_terms l (Name n) ts is = one_term l n ts (term_of l n) refl (sym (terms-name l n) ∙ is)
as_terms l (Brackets a) ts is = in_brackets a ts (as_terms l a ts (sym (terms-brackets l a) ∙ is))
as_terms l (tree.Not a) ts is =
    let p = parts_of (terms_in l a) (Some (Not ∷ [])) ts (sym (terms-not l a) ∙ is) in
    let last : Not ∷ [] ≡ p.second = let e = p.second_is in cc in
    subst (IsTerms l (tree.Not a)) (ap (λ (us : List Term). p.first ++ us) last ∙ sym p.whole) (a_not a p.first (as_terms l a p.first p.first_is))
as_terms l (tree.And a b) ts is =
    let p = parts_of (terms_in l a) (joined (terms_in l b) (Some (And ∷ []))) ts (sym (terms-and l a b) ∙ is) in
    let q = parts_of (terms_in l b) (Some (And ∷ [])) p.second p.second_is in
    let last : And ∷ [] ≡ q.second = let e = q.second_is in cc in
    let end : q.first ++ And ∷ [] ≡ p.second = ap (λ (us : List Term). q.first ++ us) last ∙ sym q.whole in
    subst (IsTerms l (tree.And a b)) (ap (λ (us : List Term). p.first ++ us) end ∙ sym p.whole) (an_and a b p.first q.first (as_terms l a p.first p.first_is) (as_terms l b q.first q.first_is))
as_terms l (tree.Or a b) ts is =
    let p = parts_of (terms_in l a) (joined (terms_in l b) (Some (Or ∷ []))) ts (sym (terms-or l a b) ∙ is) in
    let q = parts_of (terms_in l b) (Some (Or ∷ [])) p.second p.second_is in
    let last : Or ∷ [] ≡ q.second = let e = q.second_is in cc in
    let end : q.first ++ Or ∷ [] ≡ p.second = ap (λ (us : List Term). q.first ++ us) last ∙ sym q.whole in
    subst (IsTerms l (tree.Or a b)) (ap (λ (us : List Term). p.first ++ us) end ∙ sym p.whole) (an_or a b p.first q.first (as_terms l a p.first p.first_is) (as_terms l b q.first q.first_is))

-- ---- where every name has a term, the expression has

all_left : (P : List ℕ → Type 0) (xs ys : List (List ℕ)) → AllByRecursion P (xs ++ ys) → AllByRecursion P xs
all_left P [] ys all = tt
all_left P (x ∷ xs) ys all = (all.0, all_left P xs ys all.1)

all_right : (P : List ℕ → Type 0) (xs ys : List (List ℕ)) → AllByRecursion P (xs ++ ys) → AllByRecursion P ys
all_right P [] ys all = all
all_right P (x ∷ xs) ys all = all_right P xs ys all.1

all_both : (P : List ℕ → Type 0) (xs ys : List (List ℕ)) → AllByRecursion P xs → AllByRecursion P ys → AllByRecursion P (xs ++ ys)
all_both P [] ys all also = also
all_both P (x ∷ xs) ys all also = (all.0, all_both P xs ys all.1 also)

some_one : (o : Option Term) → (o ≡ None → ⊥) → one o ≡ None → ⊥
some_one None some e = some refl
some_one (Some t) some e = cc

abbrev HasTerm : Lists → List ℕ → Type 0
HasTerm l n = term_of l n ≡ None → ⊥

pub terms_there : (l : Lists) (e : Expr) → AllByRecursion (HasTerm l) (names_in e) → terms_in l e ≡ None → ⊥
terms_there l (Name n) all none = some_one (term_of l n) all.0 (sym (terms-name l n) ∙ none)
terms_there l (Brackets a) all none = terms_there l a all (sym (terms-brackets l a) ∙ none)
terms_there l (tree.Not a) all none = joined_some (terms_in l a) (Some (Not ∷ [])) (terms_there l a all) (λ e. cc) (sym (terms-not l a) ∙ none)
terms_there l (tree.And a b) all none =
    joined_some (terms_in l a) (joined (terms_in l b) (Some (And ∷ []))) (terms_there l a (all_left (HasTerm l) (names_in a) (names_in b) all))
    (joined_some (terms_in l b) (Some (And ∷ [])) (terms_there l b (all_right (HasTerm l) (names_in a) (names_in b) all)) (λ e. cc)) (sym (terms-and l a b) ∙ none)
terms_there l (tree.Or a b) all none =
    joined_some (terms_in l a) (joined (terms_in l b) (Some (Or ∷ []))) (terms_there l a (all_left (HasTerm l) (names_in a) (names_in b) all))
    (joined_some (terms_in l b) (Some (Or ∷ [])) (terms_there l b (all_right (HasTerm l) (names_in a) (names_in b) all)) (λ e. cc)) (sym (terms-or l a b) ∙ none)

pub names_have : (l : Lists) (e : Expr) (ts : List Term) → IsTerms l e ts → AllByRecursion (λ n. term_of l n ≡ None → ⊥) (names_in e)
names_have l _ _ (a_name n t is) = (λ none. cc, tt)
names_have l _ _ (in_brackets a ts is) = names_have l a ts is
names_have l _ _ (a_not a ts is) = names_have l a ts is
names_have l _ _ (an_and a b ts us x y) = all_both (λ n. term_of l n ≡ None → ⊥) (names_in a) (names_in b) (names_have l a ts x) (names_have l b us y)
names_have l _ _ (an_or a b ts us x y) = all_both (λ n. term_of l n ≡ None → ⊥) (names_in a) (names_in b) (names_have l a ts x) (names_have l b us y)

use Rattle.std.proofs.Common.{◌≡◌, ℕ, true, List, [], ◌∷◌, refl, sym, ◌∙◌}
use Rattle.std.specs.Borrow.{Bor}
use Rattle.std.specs.Str.{bytes_eq}
use Rattle.std.proofs.lemmas.Bool.{and_parts}
use Rattle.std.proofs.lemmas.Slice.Eq.{bytes_eq-Decides}
use lib.Pointwise.{pointwise}
use Rattle.thin_tree.specs.Written.{texts}
use Rattle.thin_form.proofs.assigned.are_same.Goals as goal

one_by_one : (xs ys : List (Bor (List ℕ))) → pointwise (λ x y. bytes_eq x.now y.now) xs ys ≡ true → texts xs ≡ texts ys
one_by_one [] [] e = refl
one_by_one [] (y ∷ ys) e = absurd cc
one_by_one (x ∷ xs) [] e = absurd cc
one_by_one (x ∷ xs) (y ∷ ys) e =
    let both = and_parts (bytes_eq x.now y.now) (pointwise (λ x y. bytes_eq x.now y.now) xs ys) e in
    let first = (bytes_eq-Decides x.now y.now).0 both.0 in
    let rest = one_by_one xs ys both.1 in
    cc

all_at_once : (xs ys : List (Bor (List ℕ))) → texts xs ≡ texts ys → pointwise (λ x y. bytes_eq x.now y.now) xs ys ≡ true
all_at_once [] [] e = refl
all_at_once [] (y ∷ ys) e = absurd cc
all_at_once (x ∷ xs) [] e = absurd cc
all_at_once (x ∷ xs) (y ∷ ys) e =
    let first : x.now ≡ y.now = cc in
    let rest : texts xs ≡ texts ys = cc in
    rw ((bytes_eq-Decides x.now y.now).1 first) (all_at_once xs ys rest)

pub returns : goal.returns
returns c = (λ e. one_by_one c.args.names.now c.args.others.now (sym c.eq.ensures ∙ e), λ e. c.eq.ensures ∙ all_at_once c.args.names.now c.args.others.now e)

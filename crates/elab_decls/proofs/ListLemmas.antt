-- Declarations one after another.
use Rattle.std.proofs.Common.{◌≡◌, ℕ, suc, ◌+◌, ◌<◌, ◌≤◌, List, [], ◌∷◌, ◌++◌, length, drop, get_or, Option, None, Result, Ok, Err, refl, sym, ap, ◌∙◌, inl, inr, add-one}
use Rattle.std.proofs.Math.Seq.{drop-cons}
use Rattle.std.proofs.lemmas.List.{drop_all}
use Rattle.std.specs.List.{flat_map}
use mathlib.Core.Path.{fun_ext}
use Rattle.vlog_tree.specs.declared.port.Port.{Port}
use Rattle.elab_decls.specs.declared.fault.DeclFault.{DeclFault}
use Rattle.elab_decls.specs.Mentions.{Said, said_of_port, last_after, port_as, spread}
use Rattle.elab_decls.specs.Tables.{Table, Stops, and_then, entries, stands, stepped, whole}

-- steps in steps
then-then : {A B C : Type 0} (r : Result A DeclFault) (f : A → Result B DeclFault) (g : B → Result C DeclFault) → and_then (and_then r f) g ≡ and_then r (λ a. and_then (f a) g)
unfolding and_then
then-then (Ok a) f g = refl
then-then (Err fault) f g = refl

-- first some, and then the others
pub entries-append : (t : Table) (xs ys : List Said) → entries t (xs ++ ys) ≡ and_then (entries t xs) (λ u. entries u ys)
unfolding entries and_then
entries-append t [] ys = refl
entries-append t (x ∷ xs) ys = ap (and_then (stepped t x)) (fun_ext (λ u. entries-append u xs ys)) ∙ sym (then-then (stepped t x) (λ u. entries u xs) (λ u. entries u ys))

-- some that pass leave the others
pub passed : (t u : Table) (xs ys : List Said) → entries t xs ≡ Ok u → entries t (xs ++ ys) ≡ entries u ys
unfolding and_then
passed t u xs ys is = entries-append t xs ys ∙ ap (λ r. and_then r (λ v. entries v ys)) is

-- one that is refused ends all
pub stopped : (t : Table) (fault : DeclFault) (xs ys : List Said) → entries t xs ≡ Err fault → entries t (xs ++ ys) ≡ Err fault
unfolding and_then
stopped t fault xs ys is = entries-append t xs ys ∙ ap (λ r. and_then r (λ v. entries v ys)) is

-- ---- things that each declare some names, of which those before the place k are entered

-- the thing at k is next
next : {X : Type 0} (f : X → List Said) (xs : List X) (k : ℕ) (x : X) → k < length xs → x ≡ get_or xs k x → flat_map f (drop k xs) ≡ f x ++ flat_map f (drop (k + 1) xs)
next f xs k x lt is = rw add-one (ap (flat_map f) (drop-cons xs k x lt) ∙ ap (λ y. f y ++ flat_map f (drop (suc k) xs)) (sym is))

-- once it is entered, the others are left
pub one_more : {X : Type 0} (f : X → List Said) (t u v : Table) (xs : List X) (k : ℕ) (x : X) → k < length xs → x ≡ get_or xs k x
    → entries t (flat_map f (drop k xs)) ≡ entries v (flat_map f xs) → entries t (f x) ≡ Ok u
    → entries u (flat_map f (drop (k + 1) xs)) ≡ entries v (flat_map f xs)
one_more f t u v xs k x lt is before done = sym (passed t u (f x) (flat_map f (drop (k + 1) xs)) done) ∙ (ap (entries t) (sym (next f xs k x lt is)) ∙ before)

-- where it is refused, so are all
pub one_refused : {X : Type 0} (f : X → List Said) (t v : Table) (fault : DeclFault) (xs : List X) (k : ℕ) (x : X) → k < length xs → x ≡ get_or xs k x
    → entries t (flat_map f (drop k xs)) ≡ entries v (flat_map f xs) → Stops fault (entries t (f x)) → Stops fault (entries v (flat_map f xs))
one_refused f t v fault xs k x lt is before (inl memory) = inl memory
one_refused f t v fault xs k x lt is before (inr bad) = inr (sym before ∙ (ap (entries t) (next f xs k x lt is) ∙ stopped t fault (f x) (flat_map f (drop (k + 1) xs)) bad))

-- behind the last one nothing is left
pub all_entered : {X : Type 0} (f : X → List Said) (t v : Table) (xs : List X) (k : ℕ) → length xs ≤ k
    → entries t (flat_map f (drop k xs)) ≡ entries v (flat_map f xs) → entries v (flat_map f xs) ≡ Ok t
unfolding entries
all_entered f t v xs k past before = sym before ∙ ap (λ ys. entries t (flat_map f ys)) (drop_all k xs past)

-- ---- ports, of which those before the place k are entered, and have directions

-- the port at k is next
next_port : (last : Option Port) (xs : List Port) (k : ℕ) (x : Port) → k < length xs → x ≡ get_or xs k x → spread last (drop k xs) ≡ port_as last x ∷ spread (last_after last x) (drop (k + 1) xs)
unfolding spread
next_port last xs k x lt is = rw add-one (ap (spread last) (drop-cons xs k x lt) ∙ ap (λ y. port_as last y ∷ spread (last_after last y) (drop (suc k) xs)) (sym is))

pub port_entered : (last then : Option Port) (t u v : Table) (xs : List Port) (k : ℕ) (x : Port) → k < length xs → x ≡ get_or xs k x → then ≡ last_after last x
    → entries t (flat_map said_of_port (spread last (drop k xs))) ≡ entries v (flat_map said_of_port (spread None xs)) → entries t (said_of_port (port_as last x)) ≡ Ok u
    → entries u (flat_map said_of_port (spread then (drop (k + 1) xs))) ≡ entries v (flat_map said_of_port (spread None xs))
port_entered last then t u v xs k x lt is after before done =
    ap (λ (l : Option Port). entries u (flat_map said_of_port (spread l (drop (k + 1) xs)))) after
    ∙ (sym (passed t u (said_of_port (port_as last x)) (flat_map said_of_port (spread (last_after last x) (drop (k + 1) xs))) done)
    ∙ (ap (λ (ps : List Port). entries t (flat_map said_of_port ps)) (sym (next_port last xs k x lt is)) ∙ before))

pub port_refused : (last : Option Port) (t v : Table) (fault : DeclFault) (xs : List Port) (k : ℕ) (x : Port) → k < length xs → x ≡ get_or xs k x
    → entries t (flat_map said_of_port (spread last (drop k xs))) ≡ entries v (flat_map said_of_port (spread None xs)) → Stops fault (entries t (said_of_port (port_as last x)))
    → Stops fault (entries v (flat_map said_of_port (spread None xs)))
port_refused last t v fault xs k x lt is before (inl memory) = inl memory
port_refused last t v fault xs k x lt is before (inr bad) =
    inr (sym before ∙ (ap (λ (ps : List Port). entries t (flat_map said_of_port ps)) (next_port last xs k x lt is)
    ∙ stopped t fault (said_of_port (port_as last x)) (flat_map said_of_port (spread (last_after last x) (drop (k + 1) xs))) bad))

pub ports_entered : (last : Option Port) (t v : Table) (xs : List Port) (k : ℕ) → length xs ≤ k
    → entries t (flat_map said_of_port (spread last (drop k xs))) ≡ entries v (flat_map said_of_port (spread None xs)) → entries v (flat_map said_of_port (spread None xs)) ≡ Ok t
unfolding entries spread
ports_entered last t v xs k past before = sym before ∙ ap (λ (ps : List Port). entries t (flat_map said_of_port (spread last ps))) (drop_all k xs past)

pub port_more : (last then : Option Port) (t : Table) (xs : List Port) (k : ℕ) (x : Port) → k < length xs → x ≡ get_or xs k x → then ≡ last_after last x
    → whole t (spread last (drop k xs)) ≡ whole t (spread None xs) → stands t (port_as last x) ≡ Ok t → whole t (spread then (drop (k + 1) xs)) ≡ whole t (spread None xs)
unfolding and_then whole
port_more last then t xs k x lt is after before done =
    ap (λ (l : Option Port). whole t (spread l (drop (k + 1) xs))) after
    ∙ (sym (ap (λ r. and_then r (λ u. whole u (spread (last_after last x) (drop (k + 1) xs)))) done)
    ∙ (ap (whole t) (sym (next_port last xs k x lt is)) ∙ before))

pub port_stops : (last : Option Port) (t : Table) (fault : DeclFault) (xs : List Port) (k : ℕ) (x : Port) → k < length xs → x ≡ get_or xs k x
    → whole t (spread last (drop k xs)) ≡ whole t (spread None xs) → Stops fault (stands t (port_as last x)) → Stops fault (whole t (spread None xs))
unfolding and_then whole
port_stops last t fault xs k x lt is before (inl memory) = inl memory
port_stops last t fault xs k x lt is before (inr bad) =
    inr (sym before ∙ (ap (whole t) (next_port last xs k x lt is) ∙ ap (λ r. and_then r (λ u. whole u (spread (last_after last x) (drop (k + 1) xs)))) bad))

pub ports_ended : (last : Option Port) (t : Table) (xs : List Port) (k : ℕ) → length xs ≤ k → whole t (spread last (drop k xs)) ≡ whole t (spread None xs) → whole t (spread None xs) ≡ Ok t
unfolding whole spread
ports_ended last t xs k past before = sym before ∙ ap (λ (ps : List Port). whole t (spread last ps)) (drop_all k xs past)

-- The roles of a list of declarations, one declaration more at a time.
use Rattle.std.proofs.Common.{◌≡◌, ◌≢◌, inl, inr, ℕ, ◌+◌, ◌<◌, List, [], ◌∷◌, ◌++◌, map, length, get_or, set, take, drop, replicate, refl, sym, ap, subst, ◌∙◌, arith}
use Rattle.std.specs.declared.cmp.Ordering.TheVariants.{Less}
use Rattle.std.specs.List.{AllByRecursion}
use Rattle.std.specs.Ordering.{nat_cmp}
use Rattle.std.specs.Cmp.Lexicographic.{slice_cmp, nat_list_cmp_total}
use Rattle.std.specs.Str.{bytes_eq}
use Rattle.std.proofs.lemmas.Bool.{cases_Bool, cases_eq, cases_order}
use Rattle.std.proofs.lemmas.Cmp.{tied_itself}
use Rattle.std.proofs.lemmas.List.{take-append-drop, map-append, drop_more, length-map, length-set, get_or-map, get_or-set_same, get_or-set_other, ext_get_or}
use Rattle.std.proofs.lemmas.Map.Keys.{Less-from_sorted}
use Rattle.std.proofs.lemmas.Slice.Eq.{bytes_eq-Decides}
use Rattle.thin_form.specs.Design.{Input, Source, Design, IsAscending, names, name_at}
use Rattle.thin_cons.specs.Forms.{Declaration, Clock, Reset}
use Rattle.thin_cons.specs.Roles.{port_of, role_of, role_in, role_at, IsInput, AreOnce, AreRoles}
use Rattle.thin_cons.specs.Step.{IsFreeInput}
use Rattle.thin_cons.specs.declared.role.Role.{Role}
use Rattle.thin_cons.specs.declared.role.Role.TheVariants as roles

-- ---- names

apart : (design : Design) (n m : ℕ) → IsAscending (names design) → n < m → m < length design.sources → name_at design n ≡ name_at design m → ⊥
apart design n m lawful lt within same =
    let less = Less-from_sorted (slice_cmp nat_cmp) (names design) n m [] lawful lt (omega (arith, length-map design.sources (λ (s : Source). s.name))) in
    let here = subst (λ (x : List ℕ). slice_cmp nat_cmp x (name_at design m) ≡ Less) same less in
    let tied = tied_itself nat_list_cmp_total (name_at design m) in
    absurd cc

-- a name is one source's
pub one_place : (design : Design) (n m : ℕ) → IsAscending (names design) → n < length design.sources → m < length design.sources → name_at design n ≡ name_at design m → n ≡ m
one_place design n m lawful within within' same =
    elim (cases_order n m) [
      | inl e ↦ e
      | inr other ↦ elim other [
        | inl less ↦ absurd (apart design n m lawful less within' same)
        | inr more ↦ absurd (apart design m n lawful more within (sym same))
      ]
    ]

nothing : Source
nothing = record { name = []; kind = Input }

-- a function of each name, at a source
at_name : (f : List ℕ → Role) (design : Design) (n : ℕ) → n < length design.sources → role_at (map (λ s. f s.name) design.sources) n ≡ f (name_at design n)
at_name f design n within =
    get_or-map (λ (s : Source). f s.name) design.sources n nothing roles.Free within ∙ ap f (sym (get_or-map (λ (s : Source). s.name) design.sources n nothing [] within))

-- ---- declarations

all_push : {X : Type 0} (P : X → Type 0) (xs : List X) (y : X) → AllByRecursion P xs → P y → AllByRecursion P (xs ++ y ∷ [])
all_push P [] y all here = (here, tt)
all_push P (x ∷ xs) y all here = (all.0, all_push P xs y all.1 here)

all_at : {X : Type 0} (P : X → Type 0) (xs : List X) (y : X) (ys : List X) → AllByRecursion P (xs ++ y ∷ ys) → P y
all_at P [] y ys all = all.0
all_at P (x ∷ xs) y ys all = all_at P xs y ys all.1

once_push : (ds : List Declaration) (d : Declaration) → AreOnce ds → AllByRecursion (λ e. port_of e ≢ port_of d) ds → AreOnce (ds ++ d ∷ [])
once_push [] d once others = (tt, tt)
once_push (e ∷ ds) d once others = (all_push (λ other. port_of other ≢ port_of e) ds d once.0 (λ same. others.0 (sym same)), once_push ds d once.1 others.1)

once_at : (ds : List Declaration) (d : Declaration) (rest : List Declaration) → AreOnce (ds ++ d ∷ rest) → AllByRecursion (λ e. port_of e ≢ port_of d) ds
once_at [] d rest once = tt
once_at (e ∷ ds) d rest once = ((λ same. all_at (λ other. port_of other ≢ port_of e) ds d rest once.0 (sym same)), once_at ds d rest once.1)

-- a declared role isn't free
not_free : (d : Declaration) → role_of d ≡ roles.Free → ⊥
not_free (Clock port) e = cc
not_free (Reset port high) e = cc

no_others : (ds : List Declaration) (name : List ℕ) → role_in ds name ≡ roles.Free → AllByRecursion (λ d. port_of d ≢ name) ds
no_others [] name free = tt
no_others (d ∷ ds) name free =
    elim (cases_Bool (bytes_eq (port_of d) name)) [
      | inl named ↦ absurd (not_free d (rw named at free))
      | inr other ↦ ((λ same. let named = (bytes_eq-Decides (port_of d) name).1 same in absurd cc), no_others ds name (rw other at free))
    ]

is_free : (ds : List Declaration) (name : List ℕ) → AllByRecursion (λ d. port_of d ≢ name) ds → role_in ds name ≡ roles.Free
is_free [] name others = refl
is_free (d ∷ ds) name others =
    elim (cases_Bool (bytes_eq (port_of d) name)) [
      | inl named ↦ absurd (others.0 ((bytes_eq-Decides (port_of d) name).0 named))
      | inr other ↦ rw other (is_free ds name others.1)
    ]

role_in_push : (ds : List Declaration) (d : Declaration) (name : List ℕ) → role_in ds name ≡ roles.Free → port_of d ≡ name → role_in (ds ++ d ∷ []) name ≡ role_of d
role_in_push [] d name free same = rw ((bytes_eq-Decides (port_of d) name).1 same) refl
role_in_push (e ∷ ds) d name free same =
    elim (cases_Bool (bytes_eq (port_of e) name)) [
      | inl named ↦ absurd (not_free e (rw named at free))
      | inr other ↦ rw other (role_in_push ds d name (rw other at free) same)
    ]

role_in_push_other : (ds : List Declaration) (d : Declaration) (name : List ℕ) → port_of d ≢ name → role_in (ds ++ d ∷ []) name ≡ role_in ds name
role_in_push_other [] d name differs =
    elim (cases_Bool (bytes_eq (port_of d) name)) [
      | inl named ↦ absurd (differs ((bytes_eq-Decides (port_of d) name).0 named))
      | inr other ↦ rw other refl
    ]
role_in_push_other (e ∷ ds) d name differs =
    elim (cases_Bool (bytes_eq (port_of e) name)) [
      | inl named ↦ rw named refl
      | inr other ↦ rw other (role_in_push_other ds d name differs)
    ]

-- ---- roles

all_free : (sources : List Source) → replicate (length sources) roles.Free ≡ map (λ s. role_in [] s.name) sources
all_free [] = refl
all_free (s ∷ sources) = ap (λ (list : List Role). roles.Free ∷ list) (all_free sources)

pub no_roles : (design : Design) → AreRoles design [] (replicate (length design.sources) roles.Free)
no_roles design = record { inputs = tt; once = tt; roles = all_free design.sources }

-- the role at each place, after one more
at_place : (design : Design) (ds : List Declaration) (list : List Role) (d : Declaration) (n k : ℕ) → IsAscending (names design) → AreRoles design ds list → IsFreeInput design list (port_of d) n → role_in ds (port_of d) ≡ roles.Free → k < length design.sources
    → role_at (set list n (role_of d)) k ≡ role_at (map (λ s. role_in (ds ++ d ∷ []) s.name) design.sources) k
at_place design ds list d n k lawful before port free within =
    let there = at_name (role_in (ds ++ d ∷ [])) design k within in
    let len : length list ≡ length design.sources = ap length before.roles ∙ length-map design.sources (λ s. role_in ds s.name) in
    elim (cases_eq k n) [
      | inl e ↦
          let here : role_at (set list n (role_of d)) k ≡ role_of d = rw e (get_or-set_same list n (role_of d) roles.Free (omega (arith, port.within))) in
          let named : port_of d ≡ name_at design k = rw e (sym port.name) in
          here ∙ sym (there ∙ role_in_push ds d (name_at design k) (rw (← named) free) named)
      | inr differs ↦
          let other : port_of d ≢ name_at design k = λ same. differs (one_place design k n lawful within port.within (sym (port.name ∙ same))) in
          get_or-set_other list n k (role_of d) roles.Free differs ∙ ap (λ (r : List Role). role_at r k) before.roles ∙ at_name (role_in ds) design k within ∙ sym (there ∙ role_in_push_other ds d (name_at design k) other)
    ]

pub roles_push : (design : Design) (ds : List Declaration) (list : List Role) (d : Declaration) (n : ℕ) → IsAscending (names design) → AreRoles design ds list → IsFreeInput design list (port_of d) n → AreRoles design (ds ++ d ∷ []) (set list n (role_of d))
roles_push design ds list d n lawful before port =
    let free : role_in ds (port_of d) ≡ roles.Free = ap (role_in ds) (sym port.name) ∙ sym (at_name (role_in ds) design n port.within) ∙ ap (λ (r : List Role). role_at r n) (sym before.roles) ∙ port.free in
    let f = role_in (ds ++ d ∷ []) in
    let len : length list ≡ length design.sources = ap length before.roles ∙ length-map design.sources (λ s. role_in ds s.name) in
    let len_set : length (set list n (role_of d)) ≡ length design.sources = length-set list n (role_of d) ∙ len in
    let same : (k : ℕ) → k < length (set list n (role_of d)) → role_at (set list n (role_of d)) k ≡ role_at (map (λ (s : Source). f s.name) design.sources) k = λ k lt.
    let within : k < length design.sources = omega arith in
    at_place design ds list d n k lawful before port free within in
    record {
      inputs = all_push (λ e. IsInput design (port_of e)) ds d before.inputs (n, port.within, port.name, port.input);
      once = once_push ds d before.once (no_others ds (port_of d) free);
      roles = ext_get_or roles.Free (set list n (role_of d)) (map (λ (s : Source). f s.name) design.sources) (len_set ∙ sym (length-map design.sources (λ (s : Source). f s.name))) same;
    }

pub no_roles_past : (design : Design) (ds : List Declaration) (list : List Role) (d : Declaration) (rest : List Declaration) → AreRoles design ds list → ((n : ℕ) → IsFreeInput design list (port_of d) n → ⊥)
    → (other : List Role) → AreRoles design (ds ++ d ∷ rest) other → ⊥
no_roles_past design ds list d rest before refused other whole =
    let input = all_at (λ e. IsInput design (port_of e)) ds d rest whole.inputs in
    let n = input.0 in
    let free : role_at list n ≡ roles.Free = ap (λ (r : List Role). role_at r n) before.roles ∙ at_name (role_in ds) design n input.1 ∙ ap (role_in ds) input.2 ∙ is_free ds (port_of d) (once_at ds d rest whole.once) in
    refused n (record { within = input.1; name = input.2; input = input.3; free = free })

pub one_roles : (design : Design) (ds : List Declaration) (first second : List Role) → AreRoles design ds first → AreRoles design ds second → first ≡ second
one_roles design ds first second a b = a.roles ∙ sym b.roles

-- a list in three parts
pub map_parts : {X Y : Type 0} (f : X → Y) (xs : List X) (i : ℕ) (d : X) → i < length xs → map f xs ≡ map f (take i xs) ++ f (get_or xs i d) ∷ map f (drop (i + 1) xs)
map_parts f xs i d lt = ap (map f) (sym (take-append-drop i xs)) ∙ map-append f (take i xs) (drop i xs) ∙ ap (λ ys. map f (take i xs) ++ map f ys) (drop_more xs i d lt)

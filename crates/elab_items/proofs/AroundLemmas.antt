-- Scopes that are kept with the innermost last, and what the first of them says that declares a name.
use Rattle.std.proofs.Common.{◌≡◌, ℕ, ◌+◌, ◌-◌, ◌<◌, ◌≤◌, List, [], ◌∷◌, ◌++◌, map, take, drop, length, get_or, Some, None, Option, add-one, refl, sym, ap, ◌∙◌, arith}
use Rattle.std.proofs.Math.Seq.{drop-cons, drop-length}
use Rattle.std.proofs.lemmas.List.{reverse-append, take-append-drop}
use Rattle.std.specs.Option.{option_or}
use Rattle.elab_decls.specs.declared.entry.Entry.{Entry}
use Rattle.elab_decls.specs.declared.table.Entries.{Entries}
use Rattle.elab_items.specs.Scopes.{entry_in}
use Rattle.elab_items.specs.Tables.{around_of, entries_of}

ended : (around : List Entries) (last : Entries) → 1 ≤ length around → last ≡ get_or around (length around - 1) last → take (length around - 1) around ++ last ∷ [] ≡ around
ended around last some is =
    let k = length around - 1 in
    let lt : k < length around = omega arith in
    let e : k + 1 ≡ length around = omega arith in
    let dropped : drop k around ≡ get_or around k last ∷ drop (k + 1) around = rw (add-one, drop-cons around k last lt) refl in
    let behind : drop (k + 1) around ≡ [] = ap (λ (j : ℕ). drop j around) e ∙ drop-length around in
    let rest : drop k around ≡ last ∷ [] = dropped ∙ ap (λ (f : Entries). f ∷ drop (k + 1) around) (sym is) ∙ ap (λ (fs : List Entries). last ∷ fs) behind in
    ap (λ (fs : List Entries). take k around ++ fs) (sym rest) ∙ take-append-drop k around

entry-last : (outer : List Entries) (last : Entries) (name : List ℕ) → entry_in (around_of (outer ++ last ∷ [])) name ≡ option_or (entries_of last name) (entry_in (around_of outer) name)
unfolding entry_in
entry-last outer last name = ap (λ (fs : List Entries). entry_in (map entries_of fs) name) (reverse-append outer (last ∷ []))

split : (around : List Entries) (last : Entries) (name : List ℕ) → 1 ≤ length around → last ≡ get_or around (length around - 1) last
    → entry_in (around_of around) name ≡ option_or (entries_of last name) (entry_in (around_of (take (length around - 1) around)) name)
split around last name some is = ap (λ (fs : List Entries). entry_in (around_of fs) name) (sym (ended around last some is)) ∙ entry-last (take (length around - 1) around) last name

pub entry-here : (around : List Entries) (last : Entries) (name : List ℕ) (e : Entry) → 1 ≤ length around → last ≡ get_or around (length around - 1) last
    → Some e ≡ entries_of last name → Some e ≡ entry_in (around_of around) name
entry-here around last name e some is here = sym (split around last name some is ∙ ap (λ (o : Option Entry). option_or o (entry_in (around_of (take (length around - 1) around)) name)) (sym here))

pub entry-outside : (around : List Entries) (last : Entries) (name : List ℕ) → 1 ≤ length around → last ≡ get_or around (length around - 1) last
    → None ≡ entries_of last name → entry_in (around_of (take (length around - 1) around)) name ≡ entry_in (around_of around) name
entry-outside around last name some is none = sym (split around last name some is ∙ ap (λ (o : Option Entry). option_or o (entry_in (around_of (take (length around - 1) around)) name)) (sym none))

pub entry-nowhere : (around : List Entries) (name : List ℕ) → length around < 1 → None ≡ entry_in (around_of around) name
unfolding entry_in
entry-nowhere [] name few = refl
entry-nowhere (f ∷ around) name few = absurd (omega arith)

-- the innermost that is kept is the first
pub pushed : (around : List Entries) (one : Entries) → around_of (around ++ one ∷ []) ≡ entries_of one ∷ around_of around
pushed around one = ap (map entries_of) (reverse-append around (one ∷ []))

-- Sources and named bits that are put together from what is declared.
use Rattle.std.proofs.Common.{◌≡◌, ℕ, zero, suc, ◌+◌, ◌<◌, true, false, List, [], ◌∷◌, map, length, get_or, drop, filter, slice_get, Some, refl, sym, ap, ◌∙◌, arith}
use Rattle.std.specs.List.{AllByRecursion}
use Rattle.thin_tree.specs.declared.tree.Class.{Class}
use Rattle.thin_tree.specs.declared.tree.Class.TheVariants.{Input, Net, Register}
use Rattle.thin_tree.specs.Tree.{Declared}
use Rattle.thin_form.specs.Rules.{names_of}
use Rattle.thin_form.specs.Order.{of_class, no_wires}
use Rattle.thin_form.specs.Assembled.{bits_from, entries_from, wires_of, registers_of, with_data, no_flop}
use Rattle.thin_form.specs.Netlist.{Entry, NetBit}
use Rattle.thin_form.specs.declared.kind.Flop.{Flop}
use Rattle.thin_form.specs.declared.kind.Kind.TheVariants as kind

-- each case of a class
by_class : (P : Class → Type 0) → P Input → P Net → P Register → (c : Class) → P c
by_class P i n r Input = i
by_class P i n r Net = n
by_class P i n r Register = r

pub wires_are : (ds : List Declared) → wires_of ds ≡ length (of_class Net ds)
wires_are [] = refl
wires_are (d ∷ ds) = go d.class (wires_are ds)
  where
    go : (c : Class) → wires_of ds ≡ length (of_class Net ds) → wires_of (record { class = c; name = d.name } ∷ ds) ≡ length (of_class Net (record { class = c; name = d.name } ∷ ds))
    go Input e = omega arith
    go Net e = omega arith
    go Register e = omega arith

pub registers_are : (ds : List Declared) → registers_of ds ≡ length (of_class Register ds)
registers_are [] = refl
registers_are (d ∷ ds) = go d.class (registers_are ds)
  where
    go : (c : Class) → registers_of ds ≡ length (of_class Register ds) → registers_of (record { class = c; name = d.name } ∷ ds) ≡ length (of_class Register (record { class = c; name = d.name } ∷ ds))
    go Input e = omega arith
    go Net e = omega arith
    go Register e = omega arith

pub entry_names : (b r : ℕ) (fs : List Flop) (ks : List ℕ) (ds : List Declared) → map (λ s. s.name) (entries_from b r fs ks ds) ≡ no_wires ds
entry_names b r fs ks [] = refl
entry_names b r fs ks (d ∷ ds) = go d.class (entry_names (b + 1) r fs ks ds) (entry_names (b + 1) (r + 1) fs ks ds)
  where
    go : (c : Class) → map (λ s. s.name) (entries_from (b + 1) r fs ks ds) ≡ no_wires ds → map (λ s. s.name) (entries_from (b + 1) (r + 1) fs ks ds) ≡ no_wires ds → map (λ s. s.name) (entries_from b r fs ks (record { class = c; name = d.name } ∷ ds)) ≡ no_wires (record { class = c; name = d.name } ∷ ds)
    go Input e f = ap (λ (ns : List (List ℕ)). d.name ∷ ns) e
    go Net e f = e
    go Register e f = ap (λ (ns : List (List ℕ)). d.name ∷ ns) f

pub bit_names : (n w : ℕ) (ws : List ℕ) (ds : List Declared) → map (λ b. b.name) (bits_from n w ws ds) ≡ names_of ds
bit_names n w ws [] = refl
bit_names n w ws (d ∷ ds) = go d.class (bit_names (n + 1) w ws ds) (bit_names n (w + 1) ws ds)
  where
    go : (c : Class) → map (λ b. b.name) (bits_from (n + 1) w ws ds) ≡ names_of ds → map (λ b. b.name) (bits_from n (w + 1) ws ds) ≡ names_of ds → map (λ b. b.name) (bits_from n w ws (record { class = c; name = d.name } ∷ ds)) ≡ names_of (record { class = c; name = d.name } ∷ ds)
    go Input e f = ap (λ (ns : List (List ℕ)). d.name ∷ ns) e
    go Net e f = ap (λ (ns : List (List ℕ)). d.name ∷ ns) f
    go Register e f = ap (λ (ns : List (List ℕ)). d.name ∷ ns) e

pub wire_names : (n w : ℕ) (ws : List ℕ) (ds : List Declared) → map (λ b. b.name) (filter (λ b. b.wire) (bits_from n w ws ds)) ≡ of_class Net ds
wire_names n w ws [] = refl
wire_names n w ws (d ∷ ds) = go d.class (wire_names (n + 1) w ws ds) (wire_names n (w + 1) ws ds)
  where
    go : (c : Class) → map (λ b. b.name) (filter (λ b. b.wire) (bits_from (n + 1) w ws ds)) ≡ of_class Net ds → map (λ b. b.name) (filter (λ b. b.wire) (bits_from n (w + 1) ws ds)) ≡ of_class Net ds → map (λ b. b.name) (filter (λ b. b.wire) (bits_from n w ws (record { class = c; name = d.name } ∷ ds))) ≡ of_class Net (record { class = c; name = d.name } ∷ ds)
    go Input e f = e
    go Net e f = ap (λ (ns : List (List ℕ)). d.name ∷ ns) f
    go Register e f = e

-- ---- a list from a place on

pub record IsFrom {X : Type 0} (xs : List X) (r : ℕ) (y : X) (ys : List X) : Type 0 where
  pub within : r < length xs
  pub at : (d : X) → get_or xs r d ≡ y
  pub rest : drop (r + 1) xs ≡ ys

pub from_place : {X : Type 0} (xs : List X) (r : ℕ) (y : X) (ys : List X) → drop r xs ≡ y ∷ ys → IsFrom xs r y ys
from_place [] zero y ys e = absurd cc
from_place [] (suc r) y ys e = absurd cc
from_place (x ∷ xs) zero y ys e = record { within = omega arith; at = λ d. let h : x ≡ y = cc in h; rest = let h : xs ≡ ys = cc in h }
from_place (x ∷ xs) (suc r) y ys e = let below = from_place xs r y ys e in record { within = omega (arith, below.within); at = below.at; rest = ap (λ (k : ℕ). drop k (x ∷ xs)) (let same : suc r + 1 ≡ suc (r + 1) = omega arith in same) ∙ below.rest }

-- what holds of each entry that an input makes, and of each that a register makes
pub each_entry : (P : Entry → Type 0) (G : List ℕ → Type 0) (regs : List (List ℕ)) (fs : List Flop) (ks : List ℕ)
    → ((t : List ℕ) (b : ℕ) → G t → P (record { name = t; kind = kind.Input; bit = b }))
    → ((t : List ℕ) (b r : ℕ) → r < length regs → get_or regs r [] ≡ t → P (record { name = t; kind = kind.Register (with_data (get_or fs r no_flop) (get_or ks r 0)); bit = b }))
    → (b r : ℕ) (ds : List Declared) → AllByRecursion (λ d. d.class ≡ Input → G d.name) ds → drop r regs ≡ of_class Register ds → AllByRecursion P (entries_from b r fs ks ds)
each_entry P G regs fs ks input register b r [] all from = tt
each_entry P G regs fs ks input register b r (d ∷ ds) all from = go d.class all.0 from (λ e. each_entry P G regs fs ks input register (b + 1) r ds all.1 e) (λ e. each_entry P G regs fs ks input register (b + 1) (r + 1) ds all.1 e)
  where
    go : (c : Class) → (c ≡ Input → G d.name) → drop r regs ≡ of_class Register (record { class = c; name = d.name } ∷ ds) → (drop r regs ≡ of_class Register ds → AllByRecursion P (entries_from (b + 1) r fs ks ds)) → (drop (r + 1) regs ≡ of_class Register ds → AllByRecursion P (entries_from (b + 1) (r + 1) fs ks ds)) → AllByRecursion P (entries_from b r fs ks (record { class = c; name = d.name } ∷ ds))
    go Input is e same more = (input d.name b (is refl), same e)
    go Net is e same more = same e
    go Register is e same more = let here = from_place regs r d.name (of_class Register ds) e in (register d.name b r here.within (here.at []), more here.rest)

-- what holds of each bit that a source makes, and of each that a wire makes
pub each_bit : (P : NetBit → Type 0) (nets : List (List ℕ)) (ws : List ℕ) (count : ℕ)
    → ((t : List ℕ) (n : ℕ) → n < count → P (record { name = t; node = n; wire = false }))
    → ((t : List ℕ) (w : ℕ) → w < length nets → get_or nets w [] ≡ t → P (record { name = t; node = get_or ws w 0; wire = true }))
    → (n w : ℕ) (ds : List Declared) → n + length (no_wires ds) ≡ count → drop w nets ≡ of_class Net ds → AllByRecursion P (bits_from n w ws ds)
each_bit P nets ws count source wire n w [] total from = tt
each_bit P nets ws count source wire n w (d ∷ ds) total from = go d.class total from (λ t e. each_bit P nets ws count source wire (n + 1) w ds t e) (λ t e. each_bit P nets ws count source wire n (w + 1) ds t e)
  where
    go : (c : Class) → n + length (no_wires (record { class = c; name = d.name } ∷ ds)) ≡ count → drop w nets ≡ of_class Net (record { class = c; name = d.name } ∷ ds) → (n + 1 + length (no_wires ds) ≡ count → drop w nets ≡ of_class Net ds → AllByRecursion P (bits_from (n + 1) w ws ds)) → (n + length (no_wires ds) ≡ count → drop (w + 1) nets ≡ of_class Net ds → AllByRecursion P (bits_from n (w + 1) ws ds)) → AllByRecursion P (bits_from n w ws (record { class = c; name = d.name } ∷ ds))
    go Input t e same more = (source d.name n (omega arith), same (omega arith) e)
    go Net t e same more = let here = from_place nets w d.name (of_class Net ds) e in (wire d.name w here.within (here.at []), more t here.rest)
    go Register t e same more = (source d.name n (omega arith), same (omega arith) e)

-- source n has the bit of its number, and the node n
pub bit_of_source : (b r n w : ℕ) (fs : List Flop) (ks ws : List ℕ) (ds : List Declared) (i : ℕ) (s : Entry) → slice_get (entries_from b r fs ks ds) i ≡ Some s → (j : ℕ) × (s.bit ≡ b + j) × (slice_get (bits_from n w ws ds) j ≡ Some (record { name = s.name; node = n + i; wire = false }))
bit_of_source b r n w fs ks ws [] i s at = absurd cc
bit_of_source b r n w fs ks ws (d ∷ ds) i s at = go d.class i at (λ k h. bit_of_source (b + 1) r (n + 1) w fs ks ws ds k s h) (λ k h. bit_of_source (b + 1) r n (w + 1) fs ks ws ds k s h) (λ k h. bit_of_source (b + 1) (r + 1) (n + 1) w fs ks ws ds k s h)
  where
    go : (c : Class) (k : ℕ) → slice_get (entries_from b r fs ks (record { class = c; name = d.name } ∷ ds)) k ≡ Some s
        → ((k : ℕ) → slice_get (entries_from (b + 1) r fs ks ds) k ≡ Some s → (j : ℕ) × (s.bit ≡ b + 1 + j) × (slice_get (bits_from (n + 1) w ws ds) j ≡ Some (record { name = s.name; node = n + 1 + k; wire = false })))
        → ((k : ℕ) → slice_get (entries_from (b + 1) r fs ks ds) k ≡ Some s → (j : ℕ) × (s.bit ≡ b + 1 + j) × (slice_get (bits_from n (w + 1) ws ds) j ≡ Some (record { name = s.name; node = n + k; wire = false })))
        → ((k : ℕ) → slice_get (entries_from (b + 1) (r + 1) fs ks ds) k ≡ Some s → (j : ℕ) × (s.bit ≡ b + 1 + j) × (slice_get (bits_from (n + 1) w ws ds) j ≡ Some (record { name = s.name; node = n + 1 + k; wire = false })))
        → (j : ℕ) × (s.bit ≡ b + j) × (slice_get (bits_from n w ws (record { class = c; name = d.name } ∷ ds)) j ≡ Some (record { name = s.name; node = n + k; wire = false }))
    go Input zero at one two three =
        let is : record { name = d.name; kind = kind.Input; bit = b } ≡ s = cc in
        (0, sym (ap (λ (x : Entry). x.bit) is) ∙ omega arith, ap (λ (m : ℕ). Some (record { name = d.name; node = m; wire = false })) (omega arith) ∙ ap (λ (x : Entry). Some (record { name = x.name; node = n + 0; wire = false })) is)
    go Input (suc k) at one two three = let below = one k at in (suc below.0, omega (arith, below.1), below.2 ∙ ap (λ (m : ℕ). Some (record { name = s.name; node = m; wire = false })) (omega arith))
    go Net k at one two three = let below = two k at in (suc below.0, omega (arith, below.1), below.2)
    go Register zero at one two three =
        let is : record { name = d.name; kind = kind.Register (with_data (get_or fs r no_flop) (get_or ks r 0)); bit = b } ≡ s = cc in
        (0, sym (ap (λ (x : Entry). x.bit) is) ∙ omega arith, ap (λ (m : ℕ). Some (record { name = d.name; node = m; wire = false })) (omega arith) ∙ ap (λ (x : Entry). Some (record { name = x.name; node = n + 0; wire = false })) is)
    go Register (suc k) at one two three = let below = three k at in (suc below.0, omega (arith, below.1), below.2 ∙ ap (λ (m : ℕ). Some (record { name = s.name; node = m; wire = false })) (omega arith))

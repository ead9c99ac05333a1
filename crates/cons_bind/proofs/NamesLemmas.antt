-- Bits, their sources, and names with an index.
use Rattle.std.proofs.Common.{◌≡◌, ◌≢◌, ◌⊎◌, ℕ, ◌+◌, ◌-◌, ◌<◌, ◌≤◌, Bool, true, false, Some, List, [], ◌∷◌, ◌++◌, length, get_or, slice_get, take, drop, refl, sym, ap, subst, ◌∙◌, inl, inr, arith, length-append}
use Rattle.std.specs.Prelude.{codes, not}
use Rattle.std.specs.Str.{bytes_eq}
use Rattle.std.proofs.lemmas.Slice.Eq.{bytes_eq-Decides}
use Rattle.std.specs.List.{list_all}
use Rattle.std.specs.Char.{is_ascii_digit}
use Rattle.std.proofs.lemmas.Option.{slice_get-get_or, slice_get_within}
use Rattle.std.specs.Bool.{MatchBool}
use Rattle.std.proofs.lemmas.List.{take-append-drop, length-drop, length-take-le}
use Rattle.net_view.specs.declared.gate.Gate.TheVariants.{Source}
use Rattle.net_view.specs.View.{Numbered, IsGateAt}
use Rattle.net_view.specs.FlopNet.{Kind, Bit, IsBitAt, FindsBit, IsFlopNet}
use Rattle.cons_file.specs.Forms.{Form, Clock, Reset, Tie, Steady, Track, Order, Isolate, Quiet, Waive}
use Rattle.cons_bind.specs.Names.{Net, net_of, IsSourceBit, IsIndexed, IsBitOf}
use Rattle.cons_bind.specs.Declarations.{DeclaresReset, DeclaresClock}

no_bit : Bit
no_bit = record { name = []; node = 0; root = 0 }

-- bit b is there
pub bit_there : (bits : List Bit) (b : ℕ) → b < length bits → (bit : Bit) × IsBitAt bits b bit
bit_there bits b lt = (get_or bits b no_bit, slice_get-get_or bits b no_bit lt)

-- what is the node of the bit is a node
pub node_within : (gates : List Numbered) (sources : ℕ) (names : List (List ℕ)) (kinds : List Kind) (bits : List Bit) (b n : ℕ) → IsFlopNet gates sources names kinds bits → b < length bits
    → ((bit : Bit) → IsBitAt bits b bit → n ≡ bit.node) → n < length gates
node_within gates sources names kinds bits b n lawful lt is =
    let there = bit_there bits b lt in
    subst (λ k. k < length gates) (sym (is there.0 there.1)) (lawful.bit_nodes b there.0 there.1)

-- the bit is the source of its node where the names agree
pub source_bit : (gates : List Numbered) (names : List (List ℕ)) (kinds : List Kind) (bits : List Bit) (b node s : ℕ) (name bit_name : List ℕ) → b < length bits
    → ((bit : Bit) → IsBitAt bits b bit → node ≡ bit.node) → ((bit : Bit) → IsBitAt bits b bit → bit_name ≡ bit.name) → IsGateAt gates node (Source s) → slice_get names s ≡ Some name → name ≡ bit_name
    → IsSourceBit (net_of gates names kinds bits) b s
source_bit gates names kinds bits b node s name bit_name lt node_is name_is gate named same =
    let there = bit_there bits b lt in
    record {
      bit = there.0;
      there = there.1;
      node = subst (λ k. IsGateAt gates k (Source s)) (node_is there.0 there.1) gate;
      name = named ∙ ap (λ (n : List ℕ). Some n) (same ∙ name_is there.0 there.1);
    }

-- ---- names with an index

-- two ways to part a list at one place
cut_once : (a b c d : List ℕ) → length a ≡ length c → a ++ b ≡ c ++ d → (a ≡ c) × (b ≡ d)
cut_once [] b [] d len e = (refl, e)
cut_once [] b (y ∷ c) d len e = absurd (omega arith)
cut_once (x ∷ a) b [] d len e = absurd (omega arith)
cut_once (x ∷ a) b (y ∷ c) d len e =
    let head : x ≡ y = cc in
    let rest = cut_once a b c d (omega arith) cc in
    (rw (head, rest.0) refl, rest.1)

-- a name in four parts, where the second and the last are one byte
pub record Parted (vector name front bracket digits close : List ℕ) : Type 0 where
  pub whole : name ≡ front ++ (bracket ++ (digits ++ close))
  pub front_len : length front ≡ length vector
  pub bracket_len : length bracket ≡ 1
  pub close_len : length close ≡ 1

pub record HasParts (vector front bracket digits close : List ℕ) : Type 0 where
  pub front_is : front ≡ vector
  pub bracket_is : bracket ≡ codes "["
  pub digits_are : list_all is_ascii_digit digits ≡ true
  pub close_is : close ≡ codes "]"

pub indexed_parts : (vector name front bracket digits close : List ℕ) → Parted vector name front bracket digits close → IsIndexed vector name → HasParts vector front bracket digits close
indexed_parts vector name front bracket digits close parted is =
    let first = cut_once front (bracket ++ (digits ++ close)) vector (codes "[" ++ (is.digits ++ codes "]")) parted.front_len (sym parted.whole ∙ is.parts) in
    let second = cut_once bracket (digits ++ close) (codes "[") (is.digits ++ codes "]") parted.bracket_len first.1 in
    let len : length digits ≡ length is.digits = omega (arith, ap length second.1, length-append digits close, length-append is.digits (codes "]"), parted.close_len) in
    let third = cut_once digits close is.digits (codes "]") len second.1 in
    record {
      front_is = first.0;
      bracket_is = second.0;
      digits_are = ap (λ (ds : List ℕ). list_all is_ascii_digit ds) third.0 ∙ is.decimal;
      close_is = third.1;
    }

pub parts_indexed : (vector name front bracket digits close : List ℕ) → Parted vector name front bracket digits close → 0 < length digits → HasParts vector front bracket digits close → IsIndexed vector name
parts_indexed vector name front bracket digits close parted some has = record {
  digits = digits;
  some = λ none. let e = ap length none in omega (arith, some, e);
  decimal = has.digits_are;
  parts = parted.whole ∙ rw (has.front_is, has.bracket_is, has.close_is) refl;
}

longer : (xs : List ℕ) → xs ≢ [] → 0 < length xs
longer [] some = absurd (some refl)
longer (x ∷ xs) some = omega arith

-- the name has room for an index
pub indexed_long : (vector name : List ℕ) → IsIndexed vector name → length vector + 3 ≤ length name
indexed_long vector name is =
    let e = ap length is.parts in
    let a = length-append vector (codes "[" ++ (is.digits ++ codes "]")) in
    let b = length-append (codes "[") (is.digits ++ codes "]") in
    let c = length-append is.digits (codes "]") in
    let some = longer is.digits is.some in
    omega (arith, e, a, b, c, some)

-- a name cut at the vector's length, behind one byte, and before the last
pub parted_at : (vector name front behind bracket index digits close : List ℕ) → length vector + 3 ≤ length name → front ≡ take (length vector) name → behind ≡ drop (length vector) name → bracket ≡ take 1 behind → index ≡ drop 1 behind
    → digits ≡ take (length index - 1) index → close ≡ drop (length index - 1) index → Parted vector name front bracket digits close
parted_at vector name front behind bracket index digits close room at_front at_behind at_bracket at_index at_digits at_close =
    let behind_len = ap length at_behind ∙ length-drop (length vector) name in
    let index_len = ap length at_index ∙ length-drop 1 behind in
    let whole_index : digits ++ close ≡ index = rw (at_digits, at_close) (take-append-drop (length index - 1) index) in
    let whole_behind : bracket ++ index ≡ behind = rw (at_bracket, at_index) (take-append-drop 1 behind) in
    let whole_name : front ++ behind ≡ name = rw (at_front, at_behind) (take-append-drop (length vector) name) in
    record {
      whole = sym whole_name ∙ ap (λ (l : List ℕ). front ++ l) (sym whole_behind ∙ ap (λ (l : List ℕ). bracket ++ l) (sym whole_index));
      front_len = ap length at_front ∙ length-take-le (length vector) name (omega arith);
      bracket_len = ap length at_bracket ∙ length-take-le 1 behind (omega arith);
      close_len = ap length at_close ∙ length-drop (length index - 1) index ∙ omega arith;
    }

-- some digits stand between the brackets
pub some_digits : (vector name front bracket digits close : List ℕ) → length vector + 3 ≤ length name → Parted vector name front bracket digits close → 0 < length digits
some_digits vector name front bracket digits close room parted =
    let a = length-append front (bracket ++ (digits ++ close)) in
    let b = length-append bracket (digits ++ close) in
    let c = length-append digits close in
    omega (arith, ap length parted.whole, a, b, c, parted.front_len, parted.bracket_len, parted.close_len)

pub decided : (b : Bool) (P : Type 0) → (b ≡ true → P) → (P → b ≡ true) → MatchBool b P (P → ⊥)
decided true P to from = to refl
decided false P to from = λ is. let e = from is in absurd cc

-- what `!=` of two texts tells
pub told_same : (a b : List ℕ) (r : Bool) → r ≡ not (bytes_eq a b) → r ≡ false → a ≡ b
told_same a b r is told = (bytes_eq-Decides a b).0 (not_not (bytes_eq a b) (sym is ∙ told))
  where
    not_not : (b : Bool) → not b ≡ false → b ≡ true
    not_not true e = refl
    not_not false e = absurd cc

pub told_apart : (a b : List ℕ) (r : Bool) → r ≡ not (bytes_eq a b) → r ≡ true → a ≡ b → ⊥
told_apart a b r is told same = apart (bytes_eq a b) (sym is ∙ told) ((bytes_eq-Decides a b).1 same)
  where
    apart : (b : Bool) → not b ≡ true → b ≡ true → ⊥
    apart true e f = absurd cc
    apart false e f = absurd cc

-- ---- bits of a vector

some_bit : (a b : Bit) → Some a ≡ Some b → a ≡ b
some_bit a b e = cc

pub one_bit : (bits : List Bit) (b : ℕ) (x y : Bit) → IsBitAt bits b x → IsBitAt bits b y → x ≡ y
one_bit bits b x y at there = some_bit x y (sym at ∙ there)

-- a bit whose name has an index, and one whose name has none
pub bit_indexed : (net : Net) (vector name : List ℕ) (b : ℕ) (r : Bool) → b < length net.bits → ((bit : Bit) → IsBitAt net.bits b bit → name ≡ bit.name) → MatchBool r (IsIndexed vector name) (IsIndexed vector name → ⊥)
    → MatchBool r (IsBitOf net vector b) (IsBitOf net vector b → ⊥)
bit_indexed net vector name b true lt is indexed =
    let there = bit_there net.bits b lt in
    (there.0, there.1, subst (IsIndexed vector) (is there.0 there.1) indexed)
bit_indexed net vector name b false lt is none = λ found. none (subst (IsIndexed vector) (sym (is found.0 found.1)) found.2)

pub bit_of_within : (net : Net) (vector : List ℕ) (b : ℕ) → IsBitOf net vector b → b < length net.bits
bit_of_within net vector b is = slice_get_within net.bits b is.0 is.1

-- ---- a name is one bit's, and a bit one source

one_of_three : (b c : ℕ) → (b ≡ c) ⊎ ((b < c) ⊎ (c < b))
one_of_three b c = grind arith

pub find_once : (bits : List Bit) (name : List ℕ) (b c : ℕ) → FindsBit bits name (Some b) → FindsBit bits name (Some c) → b ≡ c
find_once bits name b c first second =
    elim (one_of_three b c) [
      | inl same ↦ same
      | inr (inl lower) ↦ absurd (second.1 b first.0.0 lower first.0.1 first.0.2)
      | inr (inr higher) ↦ absurd (first.1 c second.0.0 higher second.0.1 second.0.2)
    ]

abbrev source_gate : ℕ → Numbered
source_gate s = Source s

some_source : (s t : ℕ) → Some (source_gate s) ≡ Some (source_gate t) → s ≡ t
some_source s t e = cc

pub source_once : (net : Net) (b s t : ℕ) → IsSourceBit net b s → IsSourceBit net b t → s ≡ t
source_once net b s t first second =
    let same = one_bit net.bits b first.bit second.bit first.there second.there in
    some_source s t (sym first.node ∙ ap (λ (x : Bit). slice_get net.gates x.node) same ∙ second.node)

pub reset_once : (net : Net) (s t : ℕ) (form : Form) → DeclaresReset net s form → DeclaresReset net t form → s ≡ t
reset_once net s t (Clock port) p q = absurd p
reset_once net s t (Reset name high) p q =
    let same = find_once net.bits name p.0 q.0 p.1 q.1 in
    source_once net q.0 s t (subst (λ b. IsSourceBit net b s) same p.2.0) q.2.0
reset_once net s t (Tie port one) p q = absurd p
reset_once net s t (Steady port) p q = absurd p
reset_once net s t (Track name) p q = absurd p
reset_once net s t (Order first second) p q = absurd p
reset_once net s t (Isolate reset bit one) p q = absurd p
reset_once net s t (Quiet reset clock) p q = absurd p
reset_once net s t (Waive flop reason) p q = absurd p

pub clock_once : (net : Net) (s t : ℕ) (form : Form) → DeclaresClock net s form → DeclaresClock net t form → s ≡ t
clock_once net s t (Clock port) p q =
    let same = find_once net.bits port p.0 q.0 p.1 q.1 in
    source_once net q.0 s t (subst (λ b. IsSourceBit net b s) same p.2.0) q.2.0
clock_once net s t (Reset name high) p q = absurd p
clock_once net s t (Tie port one) p q = absurd p
clock_once net s t (Steady port) p q = absurd p
clock_once net s t (Track name) p q = absurd p
clock_once net s t (Order first second) p q = absurd p
clock_once net s t (Isolate reset bit one) p q = absurd p
clock_once net s t (Quiet reset clock) p q = absurd p
clock_once net s t (Waive flop reason) p q = absurd p

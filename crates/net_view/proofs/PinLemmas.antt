-- Serves specs/PinOrder.antt: the flops by place in name order, and what they need.
use Rattle.std.proofs.Common.{◌≡◌, ◌≢◌, ◌↔◌, ◌⊎◌, inl, inr, ℕ, zero, suc, ◌+◌, ◌<◌, ◌≤◌, List, [], ◌∷◌, ◌++◌, length, get_or, set, take, map, Option, Some, None, All, Contains, sym, subst, ap, refl, ◌∙◌, arith, get_or-set_other, get_or-set_same, length-set}
use Rattle.std.specs.Prelude.{slice_index, slice_index_or, slice_get, IfSome}
use Rattle.std.specs.Option.{option_map}
use Rattle.std.proofs.lemmas.Option.{get_or_from_slice_get}
use Rattle.std.proofs.lemmas.List.{take_more, length-take-le, get_or-take, get_or_default, get_or-map, length-map, map_more, map-append, length-append, get_or_push}
use Rattle.std.proofs.Math.ListN.{get_or-append}
use Rattle.std.proofs.lemmas.Bool.{cases_lt}
use Rattle.std.proofs.lemmas.List.Elements.{Contains-push_cases, Contains-push, Contains-append_left, Contains-get_or}
use Rattle.net_view.specs.Places.{IsPlaced, ArePlaces, HaveNeeds, IsNeedOf}
use Rattle.net_view.specs.declared.flop_net.FlopOf.{FlopOf}
use Rattle.net_view.specs.declared.flop_net.SrcKind.{SrcKind}
use Rattle.net_view.specs.declared.flop_net.SrcKind.TheVariants.{Flop}
use Rattle.net_view.specs.declared.gate.Gate.TheVariants.{Source}
use Rattle.net_view.specs.FlopNet.{Kind, Bit, renumbered_kind, IsFlopAt, IsFlopNet}
use Rattle.net_view.specs.View.{Numbered, IsNet}
use Rattle.net_view.specs.Cone.{Lists, ReadsSource}
use Rattle.net_view.specs.PinOrder.{IsFlop, name_of}
use Rattle.net_view.proofs.QueueLemmas.{same_or_not}

number_is : (a b : ℕ) → (◌≡◌ {A = Option ℕ} (Some a) (Some b)) → a ≡ b
number_is a b e = cc

none_or_some : (k : ℕ) → (◌≡◌ {A = Option ℕ} (Some k) None) → ⊥
none_or_some k e = cc

-- one more flop has its place
pub placed_more : (flops : List ℕ) (count : ℕ) (places : List (Option ℕ)) (i : ℕ) → i < length flops → slice_index flops i < count → IsPlaced (take i flops) count places
    → IsPlaced (take (i + 1) flops) count (set places (slice_index flops i) (Some i))
placed_more flops count places i lt inside p =
    let f = slice_index flops i in
    let f-in : f < length places = omega (arith, p.each_source) in
    let len : length (take i flops) ≡ i = length-take-le i flops (omega arith) in
    let more : length (take (i + 1) flops) ≡ i + 1 = length-take-le (i + 1) flops (omega arith) in
    record {
      each_source = length-set places f (Some i) ∙ p.each_source;
      some = λ s k h. elim (same_or_not s f) [
        | inl e ↦
            let there : slice_index_or (set places f (Some i)) s None ≡ Some i = ap (λ (z : ℕ). slice_index_or (set places f (Some i)) z None) e ∙ get_or-set_same places f (Some i) None f-in in
            let k-is : k ≡ i = number_is k i (sym h ∙ there) in
            (omega arith, get_or-take (i + 1) flops k 0 (omega arith) ∙ ap (slice_index flops) k-is ∙ sym e)
        | inr ne ↦
            let old = p.some s k (sym (get_or-set_other places f s (Some i) None ne) ∙ h) in
            let k-lt : k < i = let low = old.0 in omega arith in
            (omega arith, get_or-take (i + 1) flops k 0 (omega arith) ∙ sym (get_or-take i flops k 0 k-lt) ∙ old.1)
      ];
      none = λ s h in-more. elim (same_or_not s f) [
        | inl e ↦ none_or_some i (sym (ap (λ (z : ℕ). slice_index_or (set places f (Some i)) z None) e ∙ get_or-set_same places f (Some i) None f-in) ∙ h)
        | inr ne ↦
            elim (Contains-push_cases (take i flops) f s (subst (λ (xs : List ℕ). Contains xs s) (take_more flops i 0 lt) in-more)) [
              | inl old ↦ p.none s (sym (get_or-set_other places f s (Some i) None ne) ∙ h) old
              | inr e ↦ ne (sym e)
            ]
      ];
    }

pub placed_map : {S : Type 0} (number : S → ℕ) (flops : List S) (s : S) (count : ℕ) (places : List (Option ℕ)) (i : ℕ) → i < length flops → s ≡ get_or flops i s → number s < count
    → IsPlaced (take i (map number flops)) count places → IsPlaced (take (i + 1) (map number flops)) count (set places (number s) (Some i))
placed_map number flops s count places i lt is inside p =
    let here : slice_index (map number flops) i ≡ number s = get_or-map number flops i s 0 lt ∙ ap number (sym is) in
    subst (λ (z : ℕ). IsPlaced (take (i + 1) (map number flops)) count (set places z (Some i))) here
    (placed_more (map number flops) count places i (omega (arith, length-map flops number)) (subst (λ (z : ℕ). z < count) (sym here) inside) p)

-- one more source that has a place
pub places_some : {S : Type 0} (number : S → ℕ) (read : List S) (s : S) (places : List (Option ℕ)) (needs : List ℕ) (i k : ℕ) → i < length read → s ≡ get_or read i s → slice_index_or places (number s) None ≡ Some k
    → ArePlaces (map number (take i read)) places needs → ArePlaces (map number (take (i + 1) read)) places (needs ++ k ∷ [])
places_some number read s places needs i k lt is here before =
    let old = map number (take i read) in
    let more : map number (take (i + 1) read) ≡ old ++ number s ∷ [] = map_more number read i s lt ∙ ap (λ (z : ℕ). old ++ z ∷ []) (ap number (sym is)) in
    subst (λ (zs : List ℕ). ArePlaces zs places (needs ++ k ∷ [])) (sym more) (record {
      each = λ j. (
        λ h. elim (Contains-push_cases needs k j h) [
          | inl was ↦ let w = (before.each j).0 was in (w.0, Contains-append_left old (number s ∷ []) w.0 w.1, w.2)
          | inr e ↦ (number s, Contains-push old (number s), here ∙ ap (λ (z : ℕ). Some z) e)
        ],
        λ h. elim (Contains-push_cases old (number s) h.0 h.1) [
          | inl was ↦ Contains-append_left needs (k ∷ []) j ((before.each j).1 (h.0, was, h.2))
          | inr e ↦
              let k-is : k ≡ j = number_is k j (sym here ∙ ap (λ (z : ℕ). slice_index_or places z None) e ∙ h.2) in
              subst (λ (z : ℕ). Contains (needs ++ k ∷ []) z) k-is (Contains-push needs k)
        ],
      );
    })

-- one that has none
pub places_none : {S : Type 0} (number : S → ℕ) (read : List S) (s : S) (places : List (Option ℕ)) (needs : List ℕ) (i : ℕ) → i < length read → s ≡ get_or read i s → ((k : ℕ) → slice_index_or places (number s) None ≢ Some k)
    → ArePlaces (map number (take i read)) places needs → ArePlaces (map number (take (i + 1) read)) places needs
places_none number read s places needs i lt is none before =
    let old = map number (take i read) in
    let more : map number (take (i + 1) read) ≡ old ++ number s ∷ [] = map_more number read i s lt ∙ ap (λ (z : ℕ). old ++ z ∷ []) (ap number (sym is)) in
    subst (λ (zs : List ℕ). ArePlaces zs places needs) (sym more) (record {
      each = λ j. (
        λ h. let w = (before.each j).0 h in (w.0, Contains-append_left old (number s ∷ []) w.0 w.1, w.2),
        λ h. elim (Contains-push_cases old (number s) h.0 h.1) [
          | inl was ↦ (before.each j).1 (h.0, was, h.2)
          | inr e ↦ absurd (none j (ap (λ (z : ℕ). slice_index_or places z None) e ∙ h.2))
        ],
      );
    })

-- a flop's connections, over numbers
abbrev pub flop_over : {N : Type 0} → (N → ℕ) → FlopOf N → FlopOf ℕ
flop_over number f = record {
  clock = f.clock;
  rising = f.rising;
  next = option_map number f.next;
  calms = f.calms;
  pin = option_map number f.pin;
  high = f.high;
  reset = f.reset;
  root = f.root;
}

-- a source whose kind is a flop's
flop_here : {N : Type 0} (number : N → ℕ) (kinds : List Kind) (s : ℕ) (kind : SrcKind N) (f : FlopOf N) → slice_get kinds s ≡ Some (renumbered_kind number kind) → kind ≡ Flop f → IsFlopAt kinds s (flop_over number f)
flop_here {N} number kinds s kind f at is = subst (λ (k : SrcKind N). slice_get kinds s ≡ Some (renumbered_kind number k)) is at

pub flop_is : {N : Type 0} (number : N → ℕ) (kinds : List Kind) (s : ℕ) (kind : SrcKind N) (f : FlopOf N) → slice_get kinds s ≡ Some (renumbered_kind number kind) → kind ≡ Flop f → IsFlop kinds s
flop_is number kinds s kind f at is = (flop_over number f, flop_here number kinds s kind f at is)

-- a pin's node is one of the net
pub pin_inside : {N : Type 0} (number : N → ℕ) (gates : List Numbered) (count : ℕ) (names : List (List ℕ)) (kinds : List Kind) (bits : List Bit) (s : ℕ) (kind : SrcKind N) (f : FlopOf N) (pin : N) → IsFlopNet gates count names kinds bits
    → slice_get kinds s ≡ Some (renumbered_kind number kind) → kind ≡ Flop f → f.pin ≡ Some pin → number pin < length gates
pin_inside {N} number gates count names kinds bits s kind f pin net at is has =
    let connected = net.flops s (flop_over number f) (flop_here number kinds s kind f at is) in
    subst (λ (o : Option N). IfSome (option_map number o) (λ p. p < length gates)) has connected.pin

same_flop : (kinds : List Kind) (s : ℕ) (f g : FlopOf ℕ) → IsFlopAt kinds s f → IsFlopAt kinds s g → f ≡ g
same_flop kinds s f g a b = cc

-- the places that a flop needs are those of the sources that its pin reads
pub need_of : {N : Type 0} (number : N → ℕ) (gates : List Numbered) (kinds : List Kind) (s : ℕ) (kind : SrcKind N) (f : FlopOf N) (pin : N) (read : List ℕ) (places : List (Option ℕ)) (needs : List ℕ)
    → slice_get kinds s ≡ Some (renumbered_kind number kind) → kind ≡ Flop f → f.pin ≡ Some pin → Lists (ReadsSource gates (number pin)) read → ArePlaces read places needs
    → (j : ℕ) → Contains needs j ↔ IsNeedOf gates kinds places s j
need_of number gates kinds s kind f pin read places needs at is has lists are j =
    let here = flop_here number kinds s kind f at is in
    let pin-is : option_map number f.pin ≡ Some (number pin) = ap (option_map number) has in (
      λ h. let w = (are.each j).0 h in record {
        flop = flop_over number f;
        is_flop = here;
        pin = number pin;
        has_pin = pin-is;
        source = w.0;
        reads = (lists.whole w.0).0 w.1;
        place = w.2;
      },
      λ n.
          let same : n.flop ≡ flop_over number f = same_flop kinds s n.flop (flop_over number f) n.is_flop here in
          let pins : n.pin ≡ number pin = number_is n.pin (number pin) (sym n.has_pin ∙ ap (λ (x : FlopOf ℕ). x.pin) same ∙ pin-is) in
          (are.each j).1 (n.source, (lists.whole n.source).1 (subst (λ (z : ℕ). ReadsSource gates z n.source) pins n.reads), n.place),
    )

-- one more flop has its needs
pub have_more : {S : Type 0} (gates : List Numbered) (kinds : List Kind) (places : List (Option ℕ)) (number : S → ℕ) (flops : List S) (s : S) (i : ℕ) (needs : List (List ℕ)) (new : List ℕ) → i < length flops → s ≡ get_or flops i s
    → ((j : ℕ) → Contains new j ↔ IsNeedOf gates kinds places (number s) j) → HaveNeeds gates kinds places (map number flops) i needs → HaveNeeds gates kinds places (map number flops) (i + 1) (needs ++ new ∷ [])
have_more gates kinds places number flops s i needs new lt is each before =
    let count : length needs ≡ i = before.count_is in
    let here : slice_index (map number flops) i ≡ number s = get_or-map number flops i s 0 lt ∙ ap number (sym is) in
    record {
      count_is = simp length-append (omega (arith, count));
      each = λ k j k-lt. elim (cases_lt k i) [
        | inl low ↦ subst (λ (zs : List ℕ). Contains zs j ↔ IsNeedOf gates kinds places (slice_index (map number flops) k) j) (sym (get_or-append needs (new ∷ []) [] k (omega (arith, count)))) (before.each k j low)
        | inr ge ↦
            let k-is : i ≡ k = omega arith in
            subst (λ (z : ℕ). Contains (slice_index_or (needs ++ new ∷ []) z []) j ↔ IsNeedOf gates kinds places (slice_index (map number flops) z) j) k-is
            (subst (λ (zs : List ℕ). Contains zs j ↔ IsNeedOf gates kinds places (slice_index (map number flops) i) j) (sym (get_or_push needs new [] i count))
            (subst (λ (z : ℕ). Contains new j ↔ IsNeedOf gates kinds places z j) (sym here) (each j)))
      ];
    }

-- one more name
pub names_more : {S : Type 0} (number : S → ℕ) (names : List (List ℕ)) (flops : List S) (s : S) (i : ℕ) (done : List (List ℕ)) (name : List ℕ) → i < length flops → s ≡ get_or flops i s → slice_get names (number s) ≡ Some name
    → done ≡ map (name_of names) (map number (take i flops)) → done ++ name ∷ [] ≡ map (name_of names) (map number (take (i + 1) flops))
names_more number names flops s i done name lt is named before =
    let old = map number (take i flops) in
    let more : map number (take (i + 1) flops) ≡ old ++ number s ∷ [] = map_more number flops i s lt ∙ ap (λ (z : ℕ). old ++ z ∷ []) (ap number (sym is)) in
    let name-is : name_of names (number s) ≡ name = get_or_from_slice_get names (number s) name [] named in
    ap (λ (zs : List (List ℕ)). zs ++ name ∷ []) before ∙ ap (λ (z : List ℕ). map (name_of names) old ++ z ∷ []) (sym name-is) ∙ sym (ap (map (name_of names)) more ∙ map-append (name_of names) old (number s ∷ []))

-- what a root reads is a source of the net
pub read_inside : {S : Type 0} (gates : List Numbered) (count root : ℕ) (number : S → ℕ) (read : List S) (i : ℕ) (s : S) → IsNet gates count → Lists (ReadsSource gates root) (map number read) → i < length read → s ≡ get_or read i s → number s < count
read_inside gates count root number read i s net lists lt is =
    let here : get_or (map number read) i 0 ≡ number s = get_or-map number read i s 0 lt ∙ ap number (sym is) in
    let there = (lists.whole (number s)).0 (subst (λ (z : ℕ). Contains (map number read) z) here (Contains-get_or (map number read) i 0 (omega (arith, length-map read number)))) in
    net.lower there.0 (Source (number s)) there.2

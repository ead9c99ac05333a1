-- Serves specs/Net.antt: a name that comes after the last bit comes after each.
use Rattle.std.proofs.Common.{◌≡◌, ℕ, ◌-◌, ◌<◌, false, List, [], ◌∷◌, ◌++◌, length, refl, ap, ◌∙◌, subst, inl, inr, arith, true≢false}
use Rattle.std.specs.Ordering.{nat_cmp, is_gt}
use Rattle.std.specs.declared.cmp.Ordering.{Ordering}
use Rattle.std.specs.declared.cmp.Ordering.TheVariants.{Less, Equal, Greater}
use Rattle.std.specs.Cmp.Lexicographic.{slice_cmp}
use Rattle.std.proofs.lemmas.Cmp.{nat_list_cmp_total, tied_itself}
use Rattle.std.proofs.lemmas.Option.{slice_get_within, slice_get_cases}
use Rattle.net_view.specs.FlopNet.{Bit, IsBitAt, IsInNameOrder}
use Rattle.net_core.specs.Net.{ComesLast}
use Rattle.net_core.proofs.Items.{push_cases}

abbrev cmp : List ℕ → List ℕ → Ordering
cmp = slice_cmp nat_cmp

before_too : (x y z : List ℕ) → is_gt (cmp x y) ≡ false → cmp y z ≡ Less → cmp x z ≡ Less
before_too x y z le less = by (cmp x y) refl le
  where
    by : (o : Ordering) → cmp x y ≡ o → is_gt o ≡ false → cmp x z ≡ Less
    by Less e h = nat_list_cmp_total.trans x y z e less
    by Equal e h = nat_list_cmp_total.congr x y z e ∙ less
    by Greater e h = absurd (true≢false h)

-- what comes after the last bit comes after each
pub after_all : (bits : List Bit) (name : List ℕ) → IsInNameOrder bits → ComesLast bits name → (b : ℕ) (bit : Bit) → IsBitAt bits b bit → cmp bit.name name ≡ Less
after_all bits name ordered comes b bit is =
    let inside : b < length bits = slice_get_within bits b bit is in
    elim (slice_get_cases bits (length bits - 1)).1 [
      | inl last ↦ before_too bit.name last.0.name name (ordered b (length bits - 1) bit last.0 (omega arith) is last.2) (comes last.0 last.2)
      | inr past ↦ absurd (omega (arith, past.0))
    ]

less_is_other : (x y : List ℕ) → cmp x y ≡ Less → x ≡ y → ⊥
less_is_other x y less e =
    let tie : cmp y y ≡ Equal = tied_itself nat_list_cmp_total y in
    let clash : cmp y y ≡ Less = subst (λ (z : List ℕ). cmp z y ≡ Less) e less in
    absurd (cc)

-- and differs from it
pub other_names : (bits : List Bit) (name : List ℕ) → IsInNameOrder bits → ComesLast bits name → (b : ℕ) (bit : Bit) → IsBitAt bits b bit → bit.name ≡ name → ⊥
other_names bits name ordered comes b bit is = less_is_other bit.name name (after_all bits name ordered comes b bit is)

less_no_gt : (x y : List ℕ) → cmp x y ≡ Less → is_gt (cmp x y) ≡ false
less_no_gt x y e = ap is_gt e

itself_no_gt : (x : List ℕ) → is_gt (cmp x x) ≡ false
itself_no_gt x = ap is_gt (tied_itself nat_list_cmp_total x)

pub order_push : (bits : List Bit) (new : Bit) → IsInNameOrder bits → ((b : ℕ) (bit : Bit) → IsBitAt bits b bit → cmp bit.name new.name ≡ Less) → IsInNameOrder (bits ++ new ∷ [])
order_push bits new ordered after j k a b le is-j is-k =
    elim (push_cases bits new k b is-k) [
      | inl old-k ↦ elim (push_cases bits new j a is-j) [
        | inl old-j ↦ ordered j k a b le old-j old-k
        | inr new-j ↦ absurd (omega (arith, slice_get_within bits k b old-k, new-j.0))
      ]
      | inr new-k ↦ elim (push_cases bits new j a is-j) [
        | inl old-j ↦ subst (λ (x : Bit). is_gt (cmp a.name x.name) ≡ false) new-k.1 (less_no_gt a.name new.name (after j a old-j))
        | inr new-j ↦ subst (λ (x : Bit). is_gt (cmp x.name b.name) ≡ false) new-j.1 (subst (λ (x : Bit). is_gt (cmp new.name x.name) ≡ false) new-k.1 (itself_no_gt new.name))
      ]
    ]

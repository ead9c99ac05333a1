-- What gates of shifts are worth.
use Rattle.std.proofs.Common.{◌≡◌, ℕ, zero, suc, ◌+◌, ◌-◌, ◌^◌, ◌++◌, false, List, [], ◌∷◌, map, length, take, get_or, replicate, refl, sym, ◌∙◌, ap, arith}
use Rattle.std.proofs.lemmas.List.{length-map, get_or-map, map-append, take-map}
use Rattle.std.proofs.Math.ListN.{get_or-map as get_value}
use Rattle.rdc_tern.specs.declared.value.Tern.{Tern}
use Rattle.rdc_tern.specs.declared.value.Tern.TheVariants.{Unsettled}
use Rattle.rdc_tern.specs.Shifts as word
use Rattle.rdc_tern.proofs.KeptLemmas.{nothing_shifts}
use Rattle.net_view.specs.declared.gate.Gate.TheVariants.{Const}
use Rattle.net_view.specs.View.{Numbered}
use Rattle.net_view.specs.Values.{State, at, IsValuation}
use Rattle.net_words.specs.declared.shifts.Toward.{Toward}
use Rattle.net_words.specs.declared.shifts.Toward.TheVariants.{Top, Bottom}
use Rattle.net_words.specs.Builds.{Gives}
use Rattle.net_words.specs.Shifts.{raised, lowered, moved, shift_from, top_of, shl, shr, sar}
use Rattle.net_words.proofs.WorthLemmas.{gives_return, gives_then, gives_put, gives_more}
use Rattle.net_words.proofs.WordWorths.{select_gives}

fill_values : (v : ℕ → Tern) (n fill : ℕ) → map v (replicate n fill) ≡ replicate n (v fill)
fill_values v zero fill = refl
fill_values v (suc n) fill = ap (λ t. v fill ∷ t) (fill_values v n fill)

pub raised_values : (v : ℕ → Tern) (fill n : ℕ) (w : List ℕ) → map v (raised fill n w) ≡ word.raised (v fill) n (map v w)
raised_values v fill n w =
    sym (take-map v (length w) (replicate n fill ++ w))
    ∙ ap (take (length w)) (map-append v (replicate n fill) w ∙ ap (λ t. t ++ map v w) (fill_values v n fill))
    ∙ ap (λ k. take k (replicate n (v fill) ++ map v w)) (sym (length-map w v))

lowered_values : (v : ℕ → Tern) (fill n : ℕ) (w : List ℕ) → map v (lowered fill n w) ≡ word.lowered (v fill) n (map v w)
lowered_values v fill n [] = refl
lowered_values v fill n (a ∷ w) = λ j. sym (get_value v (a ∷ w) n fill) j ∷ lowered_values v fill n w j

-- where values move
abbrev moved_of : Toward → Tern → ℕ → List Tern → List Tern
moved_of Top fill n w = word.raised fill n w
moved_of Bottom fill n w = word.lowered fill n w

moved_values : (v : ℕ → Tern) (toward : Toward) (fill n : ℕ) (w : List ℕ) → map v (moved toward fill n w) ≡ moved_of toward (v fill) n (map v w)
moved_values v Top fill n w = raised_values v fill n w
moved_values v Bottom fill n w = lowered_values v fill n w

top_value : (v : ℕ → Tern) (a : ℕ) (w : List ℕ) → v (top_of (a ∷ w)) ≡ word.top_of (map v (a ∷ w))
top_value v a w =
    sym (get_or-map v (a ∷ w) (length (a ∷ w) - 1) 0 Unsettled (omega arith)) ∙ ap (λ n. get_or (map v (a ∷ w)) (n - 1) Unsettled) (sym (length-map (a ∷ w) v))

signed_same : (v : ℕ → Tern) (w : List ℕ) (amount : List Tern) → word.shift_of (word.lowered (v (top_of w))) 0 (map v w) amount ≡ word.sar_of (map v w) amount
signed_same v [] amount = nothing_shifts (v (top_of [])) 0 amount ∙ sym (nothing_shifts (word.top_of []) 0 amount)
signed_same v (a ∷ w) amount = ap (λ t. word.shift_of (word.lowered t) 0 (map v (a ∷ w)) amount) (top_value v a w)

module _ (whole : List Numbered) (state : State) (found : List Tern) (valued : IsValuation whole state found) where
  shift_gives : (toward : Toward) (fill i : ℕ) (w amount : List ℕ)
      → Gives whole (shift_from toward fill i w amount) (λ made. map (at found) made ≡ word.shift_of (moved_of toward (at found fill)) i (map (at found) w) (map (at found) amount))
  unfolding shift_from
  shift_gives toward fill i w [] = gives_return whole _ w refl
  shift_gives toward fill i w (b ∷ amount) =
      gives_then whole _ _ _ _ (select_gives whole state found valued b (moved toward fill (2 ^ i) w) w) (λ next.
      gives_more whole _ _ _ (shift_gives toward fill (i + 1) next amount) (λ made made-is next-is.
      made-is ∙ ap (λ t. word.shift_of (moved_of toward (at found fill)) (i + 1) t (map (at found) amount))
      (next-is ∙ ap (λ t. word.select_of (at found b) t (map (at found) w)) (moved_values (at found) toward fill (2 ^ i) w))))

  pub shl_gives : (w amount : List ℕ) → Gives whole (shl w amount) (λ made. map (at found) made ≡ word.shl_of (map (at found) w) (map (at found) amount))
  unfolding shl
  shl_gives w amount =
      gives_then whole _ _ _ _ (gives_put whole state found valued (Const false)) (λ low.
      gives_more whole _ _ _ (shift_gives Top low 0 w amount) (λ made made-is low-is.
      made-is ∙ ap (λ t. word.shift_of (word.raised t) 0 (map (at found) w) (map (at found) amount)) low-is))

  pub shr_gives : (w amount : List ℕ) → Gives whole (shr w amount) (λ made. map (at found) made ≡ word.shr_of (map (at found) w) (map (at found) amount))
  unfolding shr
  shr_gives w amount =
      gives_then whole _ _ _ _ (gives_put whole state found valued (Const false)) (λ low.
      gives_more whole _ _ _ (shift_gives Bottom low 0 w amount) (λ made made-is low-is.
      made-is ∙ ap (λ t. word.shift_of (word.lowered t) 0 (map (at found) w) (map (at found) amount)) low-is))

  pub sar_gives : (w amount : List ℕ) → Gives whole (sar w amount) (λ made. map (at found) made ≡ word.sar_of (map (at found) w) (map (at found) amount))
  unfolding sar
  sar_gives w amount =
      gives_more whole _ _ _ (shift_gives Bottom (top_of w) 0 w amount) (λ made made-is. made-is ∙ signed_same (at found) w (map (at found) amount))

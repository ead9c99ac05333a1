-- Serves specs/Outcome.antt: what pieces leave on the sink, one after the other.
use Rattle.std.proofs.Common.{◌≡◌, ℕ, ◌≤◌, Bool, true, false, List, ◌++◌, take, drop, Option, Some, None, Result, Ok, Err, refl, sym, ap, ◌∙◌, append_assoc, arith}
use Rattle.std.specs.Prelude.{⊤, OnErr, is_ok}
use Rattle.std.proofs.lemmas.List.{take-append-drop}
use Rattle.rdc_outside.specs.Counts.{Rose}
use Rattle.rdc_outside.specs.Sink.{written_with, part_written}
use Rattle.rdc_outside.specs.declared.writing.WroteUpTo.{WroteUpTo}
use Rattle.rdc_outside.specs.declared.outcome.Status.{Status}
use Rattle.rdc_outside.proofs.CountsLemmas.{Rose-widen}
use Rattle.rdcsign.specs.Outcome.{Outcome, IsCut, Puts, Says, text_of, status_of, cut_status}

-- one piece, by what writing it answered
pub puts_from_result : (bytes : List ℕ) (r : Result ⊤ WroteUpTo) (old new : Option (List ℕ)) (f f' : ℕ) → new ≡ written_with old (part_written r bytes) → OnErr r (Rose f f') → Puts bytes (is_ok r) old new f f'
puts_from_result bytes (Ok _) old new f f' is rose = is
puts_from_result bytes (Err up_to) old new f f' is rose = record { part = take up_to.count bytes; front = (drop up_to.count bytes, sym (take-append-drop up_to.count bytes)); written = is; failed = rose }

abbrev some : List ℕ → Option (List ℕ)
some x = Some x

-- two pieces are one
pub written_twice : (w : Option (List ℕ)) (a b : List ℕ) → written_with (written_with w a) b ≡ written_with w (a ++ b)
written_twice None a b = refl
written_twice (Some t) a b = ap some (append_assoc t a b)

-- a front of a piece, after a piece that was taken
pub cut_after : (a b : List ℕ) (old mid new : Option (List ℕ)) (f g h : ℕ) → mid ≡ written_with old a → f ≤ g → g ≤ h → IsCut b mid new g h → IsCut (a ++ b) old new f h
cut_after a b old mid new f g h first up up' cut = record {
  part = a ++ cut.part;
  front = (cut.front.0, ap (λ (t : List ℕ). a ++ t) cut.front.1 ∙ sym (append_assoc a cut.part cut.front.0));
  written = cut.written ∙ ap (λ (w : Option (List ℕ)). written_with w cut.part) first ∙ written_twice old a cut.part;
  failed = Rose-widen f g h h up up' cut.failed (omega arith);
}

-- a front of a piece is a front of what would follow too
pub cut_before : (a b : List ℕ) (old new : Option (List ℕ)) (f f' : ℕ) → IsCut a old new f f' → IsCut (a ++ b) old new f f'
cut_before a b old new f f' cut = record {
  part = cut.part;
  front = (cut.front.0 ++ b, ap (λ (t : List ℕ). t ++ b) cut.front.1 ∙ append_assoc cut.part cut.front.0 b);
  written = cut.written;
  failed = cut.failed;
}

-- a piece after one that was taken
pub puts_after : (a b : List ℕ) (r : Bool) (old mid new : Option (List ℕ)) (f g h : ℕ) → mid ≡ written_with old a → f ≤ g → g ≤ h → Puts b r mid new g h → Puts (a ++ b) r old new f h
puts_after a b true old mid new f g h first up up' is = is ∙ ap (λ (w : Option (List ℕ)). written_with w b) first ∙ written_twice old a b
puts_after a b false old mid new f g h first up up' cut = cut_after a b old mid new f g h first up up' cut

-- a status that stands whether all was taken or not
pub says : (outcome : Outcome) (status : Status) (whole : Bool) (old new : Option (List ℕ)) (f f' : ℕ) → status ≡ status_of outcome → status ≡ cut_status outcome → Puts (text_of outcome) whole old new f f'
    → Says outcome status old new f f'
says outcome status true old new f f' all cut puts = record { whole = true; text = puts; status_is = all }
says outcome status false old new f f' all cut puts = record { whole = false; text = puts; status_is = cut }

-- two pieces that were taken
pub written_twice_after : (a b : List ℕ) (old mid new : Option (List ℕ)) → mid ≡ written_with old a → new ≡ written_with mid b → new ≡ written_with old (a ++ b)
written_twice_after a b old mid new first second = second ∙ ap (λ (w : Option (List ℕ)). written_with w b) first ∙ written_twice old a b

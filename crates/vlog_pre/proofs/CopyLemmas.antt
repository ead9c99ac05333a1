-- Plain bytes are as many steps.
use Rattle.std.proofs.Common.{◌≡◌, ℕ, true, false, List, [], ◌∷◌, Option, Ok, length, drop, refl, sym, ap, subst, ◌∙◌, arith, nat_eq, append-nil, length-append, length-drop}
use Rattle.std.specs.Prelude.{nat_le}
use Rattle.std.proofs.lemmas.Bool.{leb-false}
use Rattle.rdc_outside.specs.Shelf.{Files, Calls}
use Rattle.rdc_outside.specs.declared.source.Place.{Place}
use Rattle.vlog_items.specs.declared.looking.Ahead.{Ahead}
use Rattle.vlog_items.specs.declared.looking.Ahead.TheVariants.{Read, Ended, Coming, Nothing}
use Rattle.vlog_items.specs.Items.{Item, Byte, End, Given, ahead_of}
use Rattle.vlog_pre.specs.Levels.{is_taken}
use Rattle.vlog_pre.specs.Known.{State, goes_on, with_byte}
use Rattle.vlog_pre.specs.Expansion.{goes, next}
use Rattle.vlog_pre.specs.Turns.{IsCopied, IsTurn}

-- the byte and the place of what stands first
abbrev byte_in : ℕ → Ahead → ℕ
byte_in other (Read b place) = b
byte_in other (Ended place) = other
byte_in other Coming = other
byte_in other Nothing = other

abbrev place_in : Place → Ahead → Place
place_in other (Read b place) = place
place_in other (Ended place) = other
place_in other Coming = other
place_in other Nothing = other

-- a plain byte is put out
next_copies : (known : State) (items : List Item) (b : ℕ) (place : Place) → ahead_of items ≡ Read b place → is_taken known.levels ≡ true → nat_eq b 96 ≡ false → nat_le 16777215 (length known.bytes) ≡ false → next known items ≡ goes_on (with_byte known b place) (drop 1 items)
next_copies known [] b place is taken plain short = absurd cc
next_copies known (End q ∷ items) b place is taken plain short = absurd cc
next_copies known (Given n ∷ items) b place is taken plain short = absurd cc
next_copies known (Byte c q w ∷ items) b place is taken plain short =
    let byte : c ≡ b = ap (λ (a : Ahead). byte_in c a) is in
    let at : q ≡ place = ap (λ (a : Ahead). place_in q a) is in
    rw (byte, at, taken, plain, short) refl

-- nothing is put out yet
pub copied_none : (known : State) (items : List Item) → IsCopied known items known items
copied_none known items = record { completes = λ told loaded answer more. more; shorter = omega arith; count = refl; files = refl; even = omega arith; small = λ below. below }

-- one byte more
pub copied_more : (old known new : State) (start items rest : List Item) (b : ℕ) (place : Place) → IsCopied old start known items → ahead_of items ≡ Read b place → is_taken known.levels ≡ true → nat_eq b 96 ≡ false → nat_le 16777215 (length known.bytes) ≡ false → new ≡ with_byte known b place → rest ≡ drop 1 items → IsCopied old start new rest
copied_more old known new start items rest b place so is taken plain short known_is rest_is =
    let more : IsCopied old start (with_byte known b place) (drop 1 items) = record {
      completes = λ told loaded answer more. so.completes told loaded answer (goes (with_byte known b place) (drop 1 items) (next_copies known items b place is taken plain short) more);
      shorter = omega (arith, so.shorter, length-drop 1 items);
      count = so.count;
      files = so.files;
      even = omega (arith, so.even, length-append known.bytes (b ∷ []), length-append known.places (place ∷ []));
      small = λ below. omega (arith, length-append known.bytes (b ∷ []), leb-false 16777215 (length known.bytes) short);
    } in
    subst (λ (s : State). IsCopied old start s rest) (sym known_is) (subst (λ (r : List Item). IsCopied old start (with_byte known b place) r) (sym rest_is) more)

-- a copy is a turn
pub copy_turn : (told : Option Files) (calls : Option Calls) (old new : State) (names : List (List ℕ)) (items rest : List Item) → IsCopied old items new rest → IsTurn told calls old items (Ok tt) new names rest calls
copy_turn told calls old new names items rest copy = record { more = []; listed = refl; known = copy.files ∙ sym (append-nil old.files); completes = copy.completes told }

-- Entries one after another, each a name with bytes: what the shelf in memory keeps its saves and its calls in.
--   Entry, PileState, room_taken                 what a pile is to the rest of the crate
--   span_length, entry_of, entries_of            the entries that stand in one text
--   total_length, IsReserved                     what its vectors promise; no public clause speaks of them
use Rattle.std.specs.Prelude.{◌≡◌, ◌≤◌, ℕ, ◌+◌, List, [], ◌∷◌, length, take, drop, Option, Vec, vec_len, vec_capacity}
use Rattle.std.specs.declared.alloc.Global.{Global}
use Rattle.rdc_outside.specs.declared.pile.Span.{Span}

-- a name with bytes, and a number beside it where there is one
pub record Entry : Type 0 where
  pub most : Option ℕ
  pub name : List ℕ
  pub bytes : List ℕ

-- the entries, and how much may be added without memory
pub record PileState : Type 0 where
  pub entries : List Entry
  pub room : ℕ

-- what one entry takes of the room: one, and the lengths of its name and its bytes
abbrev pub room_taken : List ℕ → List ℕ → ℕ
room_taken name bytes = 1 + length name + length bytes

-- how many bytes an entry has in the text
abbrev pub span_length : Span → ℕ
span_length span = span.name + span.bytes

-- the entry that stands at the front of a text
abbrev pub entry_of : Span → List ℕ → Entry
entry_of span text = record { most = span.most; name = take span.name text; bytes = take span.bytes (drop span.name text) }

-- the entries of a text
abbrev pub entries_of : List Span → List ℕ → List Entry
entries_of [] text = []
entries_of (span ∷ spans) text = entry_of span text ∷ entries_of spans (drop (span_length span) text)

-- how many bytes all entries have
abbrev pub total_length : List Span → ℕ
total_length [] = 0
total_length (span ∷ spans) = span_length span + total_length spans

-- the spans fill the text, and both have room
pub record IsReserved (spans : Vec Span Global) (text : Vec ℕ Global) (room : ℕ) : Type 0 where
  pub filled : total_length spans.items ≡ length text.items
  pub spans_fit : vec_len spans + room ≤ vec_capacity spans
  pub text_fits : vec_len text + room ≤ vec_capacity text

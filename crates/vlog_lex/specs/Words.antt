-- Names and strings: what bytes are one.
use Rattle.std.specs.Prelude.{◌≡◌, ℕ, ◌+◌, ◌<◌, ◌≤◌, Bool, IsTrue, List, length, slice_index}
use Rattle.vlog_lex.specs.Bytes.{is_letter, is_name_byte, is_dollar, is_backslash, is_visible, is_quotable}

-- a first byte, and then bytes that go on with it; at least so many in all
pub record IsWord (first : ℕ → Bool) (later : ℕ → Bool) (least : ℕ) (bs : List ℕ) : Type 0 where
  pub begins : IsTrue (first (slice_index bs 0))
  pub enough : least ≤ length bs
  pub goes_on : (k : ℕ) → 0 < k → k < length bs → IsTrue (later (slice_index bs k))

-- a letter or `_`, and then letters, digits, `_` and `$`
abbrev pub IsName : List ℕ → Type 0
IsName = IsWord is_letter is_name_byte 1

-- `$`, and then at least one letter, digit, `_` or `$`
abbrev pub IsSystemName : List ℕ → Type 0
IsSystemName = IsWord is_dollar is_name_byte 2

-- `\`, and then at least one byte that is no blank
abbrev pub IsEscapedName : List ℕ → Type 0
IsEscapedName = IsWord is_backslash is_visible 2

-- a quote, bytes of one line, and a quote
pub record IsQuoted (bs : List ℕ) : Type 0 where
  pub opens : slice_index bs 0 ≡ 34
  pub inner : (k : ℕ) → 0 < k → k + 1 < length bs → IsTrue (is_quotable (slice_index bs k))
  pub closes : (n : ℕ) × (0 < n) × (length bs ≡ n + 1) × (slice_index bs n ≡ 34)

-- The longest name and the longest string in front, from how many bytes go on with it.
use Rattle.std.proofs.Common.{◌≡◌, ℕ, ◌+◌, ◌-◌, ◌<◌, ◌≤◌, Bool, true, false, IsTrue, List, length, take, drop, get_or, refl, sym, ap, subst, ◌∙◌, arith, ⊎_elim, get_or-take, length-take-le, length-drop}
use Rattle.std.specs.List.{prefix_len}
use Rattle.std.proofs.lemmas.List.Sums.{prefix_len-le-length, prefix_len_passes, prefix_len_stops}
use Rattle.std.proofs.lemmas.Grind.{get_or_after_one}
use Rattle.std.proofs.lemmas.List.{get_or_past}
use Rattle.std.proofs.lemmas.Bool.{cases_lt}
use Rattle.vlog_lex.specs.Bytes.{is_quotable}
use Rattle.vlog_lex.specs.Longest.{IsLongest}
use Rattle.vlog_lex.specs.Words.{IsWord, IsQuoted}

-- a byte that goes on: the bytes behind the first, up to the run's end
passes : (later : ℕ → Bool) (bs : List ℕ) (k : ℕ) → 0 < k → k < 1 + prefix_len later (drop 1 bs) → later (get_or bs k 0) ≡ true
passes later bs k some early =
    let back : 1 + (k - 1) ≡ k = omega arith in
    let here : later (get_or (drop 1 bs) (k - 1) 0) ≡ true = prefix_len_passes later (drop 1 bs) (k - 1) 0 (omega arith) in
    ap (λ (i : ℕ). later (get_or bs i 0)) (sym back) ∙ ap later (sym (get_or_after_one bs (k - 1) 0)) ∙ here

-- the byte at the run's end does not go on
stops : (later : ℕ → Bool) (bs : List ℕ) → 1 + prefix_len later (drop 1 bs) < length bs → later (get_or bs (1 + prefix_len later (drop 1 bs)) 0) ≡ false
stops later bs more =
    ap later (sym (get_or_after_one bs (prefix_len later (drop 1 bs)) 0)) ∙ prefix_len_stops later (drop 1 bs) 0 (omega (arith, length-drop 1 bs))

-- the run ends within the text
within : (later : ℕ → Bool) (bs : List ℕ) → 0 < length bs → 1 + prefix_len later (drop 1 bs) ≤ length bs
within later bs some = omega (arith, prefix_len-le-length later (drop 1 bs), length-drop 1 bs)

-- a word's first byte and all bytes that go on with it are the longest
longest_run : (first later : ℕ → Bool) (least : ℕ) (bs : List ℕ) → 0 < length bs → IsTrue (first (get_or bs 0 0)) → least ≤ 1 + prefix_len later (drop 1 bs) → IsLongest (IsWord first later least) bs (1 + prefix_len later (drop 1 bs))
longest_run first later least bs some begins enough =
    let n : ℕ = 1 + prefix_len later (drop 1 bs) in
    let inside : n ≤ length bs = within later bs some in
    let size : length (take n bs) ≡ n = length-take-le n bs inside in
    record {
      within = inside;
      whole = record {
        begins = ap first (get_or-take n bs 0 0 (omega arith)) ∙ begins;
        enough = omega arith;
        goes_on = λ k positive early. ap later (get_or-take n bs k 0 (omega arith)) ∙ passes later bs k positive (omega arith);
      };
      longest = λ m fits word. ⊎_elim
          (λ longer.
          let whole : length (take m bs) ≡ m = length-take-le m bs fits in
          let on : later (get_or (take m bs) n 0) ≡ true = word.goes_on n (omega arith) (omega arith) in
          let same : get_or (take m bs) n 0 ≡ get_or bs n 0 = get_or-take m bs n 0 longer in
          let off : later (get_or bs n 0) ≡ false = stops later bs (omega arith) in
          absurd cc)
          (λ no_longer. no_longer)
          (cases_lt n m);
    }

pub longest_word : (first later : ℕ → Bool) (least : ℕ) (bs : List ℕ) (count : ℕ) → 0 < length bs → IsTrue (first (get_or bs 0 0)) → count ≡ prefix_len later (drop 1 bs) → least ≤ 1 + count → IsLongest (IsWord first later least) bs (1 + count)
longest_word first later least bs count some begins is enough =
    subst (λ (n : ℕ). IsLongest (IsWord first later least) bs (1 + n)) (sym is) (longest_run first later least bs some begins (omega arith))

-- a quote is no byte inside a string
quote_ends : is_quotable 34 ≡ false
unfolding is_quotable
quote_ends = refl

-- a byte that is not 0 stands within the text
inside_of : (bs : List ℕ) (k b : ℕ) → 0 < b → get_or bs k 0 ≡ b → k < length bs
inside_of bs k b some is = ⊎_elim (λ inside. inside) (λ past. let none = get_or_past bs k 0 past in absurd (omega arith)) (cases_lt k (length bs))

-- the bytes up to the next quote on the line are the longest string
pub longest_quoted : (bs : List ℕ) (count : ℕ) → 0 < length bs → get_or bs 0 0 ≡ 34 → count ≡ prefix_len is_quotable (drop 1 bs) → get_or (drop 1 bs) count 0 ≡ 34 → IsLongest IsQuoted bs (count + 2)
longest_quoted bs count some opens is closes =
    let more : count < length (drop 1 bs) = inside_of (drop 1 bs) count 34 (omega arith) closes in
    let n : ℕ = count + 2 in
    let inside : n ≤ length bs = omega (arith, length-drop 1 bs) in
    let size : length (take n bs) ≡ n = length-take-le n bs inside in
    let last : get_or bs (1 + count) 0 ≡ 34 = sym (get_or_after_one bs count 0) ∙ closes in
    let shift : count + 1 ≡ 1 + count = omega arith in
    let end : get_or bs (count + 1) 0 ≡ 34 = ap (λ (i : ℕ). get_or bs i 0) shift ∙ last in
    record {
      within = inside;
      whole = record {
        opens = get_or-take n bs 0 0 (omega arith) ∙ opens;
        inner = λ k positive early. ap is_quotable (get_or-take n bs k 0 (omega arith)) ∙ passes is_quotable bs k positive (omega arith);
        closes = (count + 1, omega arith, omega arith, get_or-take n bs (count + 1) 0 (omega arith) ∙ end);
      };
      longest = λ m fits word. ⊎_elim
          (λ longer.
          let whole : length (take m bs) ≡ m = length-take-le m bs fits in
          let on : is_quotable (get_or (take m bs) (count + 1) 0) ≡ true = word.inner (count + 1) (omega arith) (omega arith) in
          let same : get_or (take m bs) (count + 1) 0 ≡ get_or bs (count + 1) 0 = get_or-take m bs (count + 1) 0 (omega arith) in
          let off = quote_ends in
          absurd cc)
          (λ no_longer. no_longer)
          (cases_lt n m);
    }

-- where no quote follows on the line, no front is a string
pub no_quoted : (bs : List ℕ) (count : ℕ) → 0 < length bs → count ≡ prefix_len is_quotable (drop 1 bs) → (get_or (drop 1 bs) count 0 ≡ 34 → ⊥) → (n : ℕ) → IsLongest IsQuoted bs n → ⊥
no_quoted bs count some is closed n longest =
    let word = longest.whole in
    let k : ℕ = word.closes.0 in
    let size : length (take n bs) ≡ n = length-take-le n bs longest.within in
    let long : length (take n bs) ≡ k + 1 = word.closes.2 in
    let inside : n ≤ length bs = longest.within in
    let last : get_or (take n bs) k 0 ≡ 34 = word.closes.3 in
    let same : get_or (take n bs) k 0 ≡ get_or bs k 0 = get_or-take n bs k 0 (omega arith) in
    let positive : 0 < k = word.closes.1 in
    let off = quote_ends in
    ⊎_elim
    (λ early. let on : is_quotable (get_or bs k 0) ≡ true = passes is_quotable bs k positive (omega arith) in absurd cc)
    (λ late. ⊎_elim
    (λ after.
    let inner : is_quotable (get_or (take n bs) (1 + count) 0) ≡ true = word.inner (1 + count) (omega arith) (omega arith) in
    let here : get_or (take n bs) (1 + count) 0 ≡ get_or bs (1 + count) 0 = get_or-take n bs (1 + count) 0 (omega arith) in
    let far : 1 + prefix_len is_quotable (drop 1 bs) < length bs = omega arith in
    let stop : is_quotable (get_or bs (1 + prefix_len is_quotable (drop 1 bs)) 0) ≡ false = stops is_quotable bs far in
    let place : is_quotable (get_or bs (1 + count) 0) ≡ false = subst (λ (i : ℕ). is_quotable (get_or bs (1 + i) 0) ≡ false) (sym is) stop in
    absurd cc)
    (λ at. let there : k ≡ 1 + count = omega arith in closed (get_or_after_one bs count 0 ∙ ap (λ (i : ℕ). get_or bs i 0) (sym there) ∙ sym same ∙ last))
    (cases_lt (1 + count) k))
    (cases_lt k (1 + count))

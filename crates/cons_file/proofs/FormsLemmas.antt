-- A form is read from exactly the words that spell it.
use Rattle.std.proofs.Common.{◌≡◌, ◌≢◌, ℕ, Bool, true, false, Option, Some, None, List, [], ◌∷◌, take, refl, sym, ap, ◌∙◌, inl, inr}
use Rattle.std.specs.Prelude.{codes, if◌then◌else◌}
use Rattle.std.specs.Str.{bytes_eq}
use Rattle.std.proofs.lemmas.Bool.{cases_Bool}
use Rattle.std.proofs.lemmas.Slice.Eq.{bytes_eq-Decides}
use Rattle.cons_file.specs.Lines.{has_items, words_in}
use Rattle.cons_file.specs.Forms.{Form, Clock, Reset, Tie, Steady, Track, Order, Isolate, Quiet, Waive, IsForm, Spells, reason_in}
use Rattle.std.specs.Option.{option_map}
use Rattle.std.specs.Prelude.{IfSome, IfNone}
use Rattle.std.specs.Str.{IsAscii}
use Rattle.cons_file.specs.File.{form_said}
use Rattle.cons_file.specs.declared.line.LineForm.{LineForm}
use Rattle.cons_file.specs.Reading.{and_then, word_in, given_in, last_in, choice_in, reset_in, tie_in, order_in, isolate_in, quiet_in, waive_in, named_in, behind, form_in}

has_some : {X : Type 0} (xs : List X) → xs ≢ [] → has_items xs ≡ true
has_some [] apart = absurd (apart refl)
has_some (x ∷ xs) apart = refl

waive_complete : (words : List (List ℕ)) (rest flop reason : List ℕ) → take 2 words ≡ codes "waive" ∷ flop ∷ [] → rest ≡ reason → reason ≢ [] → form_in words rest ≡ Some (Waive flop reason)
unfolding form_in behind waive_in word_in and_then
waive_complete [] rest flop reason e same apart = absurd cc
waive_complete (a ∷ []) rest flop reason e same apart = absurd cc
waive_complete (a ∷ (b ∷ words)) rest flop reason e same apart =
    let first : a ≡ codes "waive" = cc in
    let second : b ≡ flop = cc in
    rw (first, second, same, has_some reason apart) refl

-- what spells a form is read as that form
pub complete : (words : List (List ℕ)) (rest : List ℕ) (form : Form) → IsForm words rest form → form_in words rest ≡ Some form
unfolding form_in behind reset_in tie_in order_in isolate_in quiet_in waive_in named_in choice_in last_in given_in word_in and_then
complete words rest (Clock port) e = rw e refl
complete words rest (Reset name true) e = rw e refl
complete words rest (Reset name false) e = rw e refl
complete words rest (Tie port true) e = rw e refl
complete words rest (Tie port false) e = rw e refl
complete words rest (Steady port) e = rw e refl
complete words rest (Track name) e = rw e refl
complete words rest (Order first second) e = rw e refl
complete words rest (Isolate reset bit true) e = rw e refl
complete words rest (Isolate reset bit false) e = rw e refl
complete words rest (Quiet reset clock) e = rw e refl
complete words rest (Waive flop reason) e = waive_complete words rest flop reason e.0 e.1 e.2

same_some : {A : Type 0} (x y : A) → Some x ≡ Some y → x ≡ y
same_some x y e = cc

is_word : (w given : List ℕ) → bytes_eq w given ≡ true → w ≡ given
is_word w given e = (bytes_eq-Decides w given).0 e

named_sound : (form : List ℕ → Form) (ws : List (List ℕ)) (read : Form) → named_in form ws ≡ Some read → (name : List ℕ) × (ws ≡ name ∷ []) × (form name ≡ read)
unfolding named_in last_in and_then
named_sound form [] read e = absurd cc
named_sound form (name ∷ []) read e = (name, refl, same_some (form name) read e)
named_sound form (name ∷ (w ∷ ws)) read e = absurd cc

choice_sound : (low high : List ℕ) (ws : List (List ℕ)) (b : Bool) → choice_in low high ws ≡ Some b → ws ≡ (if b then high else low) ∷ []
unfolding choice_in last_in and_then
choice_sound low high [] b e = absurd cc
choice_sound low high (w ∷ []) b e =
    elim (cases_Bool (bytes_eq w low)) [
      | inl first ↦ let is = rw first at e in rw (← same_some false b is, is_word w low first) refl
      | inr other ↦
          let rest = rw other at e in
          elim (cases_Bool (bytes_eq w high)) [
            | inl second ↦ let is = rw second at rest in rw (← same_some true b is, is_word w high second) refl
            | inr neither ↦ let is = rw neither at rest in absurd cc
          ]
    ]
choice_sound low high (w ∷ (v ∷ ws)) b e = absurd cc

given_sound : (given : List ℕ) (ws rest : List (List ℕ)) → given_in given ws ≡ Some rest → ws ≡ given ∷ rest
unfolding given_in
given_sound given [] rest e = absurd cc
given_sound given (w ∷ ws) rest e =
    elim (cases_Bool (bytes_eq w given)) [
      | inl same ↦ let is = rw same at e in rw (← same_some ws rest is, is_word w given same) refl
      | inr other ↦ let is = rw other at e in absurd cc
    ]

last_sound : (ws : List (List ℕ)) (w : List ℕ) → last_in ws ≡ Some w → ws ≡ w ∷ []
unfolding last_in
last_sound [] w e = absurd cc
last_sound (v ∷ []) w e = ap (λ (x : List ℕ). x ∷ []) (same_some v w e)
last_sound (v ∷ (u ∷ ws)) w e = absurd cc

word_sound : (ws : List (List ℕ)) (r : List ℕ × List (List ℕ)) → word_in ws ≡ Some r → ws ≡ r.0 ∷ r.1
unfolding word_in
word_sound [] r e = absurd cc
word_sound (w ∷ ws) r e = ap (λ (x : List ℕ × List (List ℕ)). x.0 ∷ x.1) (same_some (w, ws) r e)

-- a step that gave something had something
step_sound : {A B : Type 0} (r : Option A) (f : A → Option B) (y : B) → and_then r f ≡ Some y → (x : A) × (r ≡ Some x) × (f x ≡ Some y)
unfolding and_then
step_sound None f y e = absurd cc
step_sound (Some x) f y e = (x, refl, e)

-- words that are known, behind a verb, and the form that they are
as_form : (verb : List ℕ) (ws words : List (List ℕ)) (rest : List ℕ) (form read : Form) → ws ≡ words → form ≡ read → IsForm (verb ∷ words) rest form → IsForm (verb ∷ ws) rest read
as_form verb ws words rest form read same is spelled = rw (same, ← is) spelled

put : (w : List ℕ) (ws words : List (List ℕ)) → ws ≡ words → w ∷ ws ≡ w ∷ words
put w ws words e = ap (λ (l : List (List ℕ)). w ∷ l) e

reset_sound : (ws : List (List ℕ)) (rest : List ℕ) (read : Form) → reset_in ws ≡ Some read → IsForm (codes "reset" ∷ ws) rest read
unfolding reset_in
reset_sound ws rest read e =
    let name = step_sound _ _ _ e in
    let high = step_sound _ _ _ name.2 in
    let words = word_sound ws name.0 name.1 ∙ put name.0.0 _ _ (choice_sound (codes "low") (codes "high") name.0.1 high.0 high.1) in
    as_form (codes "reset") ws _ rest (Reset name.0.0 high.0) read words (same_some _ _ high.2) refl

tie_sound : (ws : List (List ℕ)) (rest : List ℕ) (read : Form) → tie_in ws ≡ Some read → IsForm (codes "tie" ∷ ws) rest read
unfolding tie_in
tie_sound ws rest read e =
    let port = step_sound _ _ _ e in
    let one = step_sound _ _ _ port.2 in
    let words = word_sound ws port.0 port.1 ∙ put port.0.0 _ _ (choice_sound (codes "0") (codes "1") port.0.1 one.0 one.1) in
    as_form (codes "tie") ws _ rest (Tie port.0.0 one.0) read words (same_some _ _ one.2) refl

order_sound : (ws : List (List ℕ)) (rest : List ℕ) (read : Form) → order_in ws ≡ Some read → IsForm (codes "order" ∷ ws) rest read
unfolding order_in
order_sound ws rest read e =
    let first = step_sound _ _ _ e in
    let after = step_sound _ _ _ first.2 in
    let second = step_sound _ _ _ after.2 in
    let words = word_sound ws first.0 first.1 ∙ put first.0.0 _ _ (given_sound (codes "before") first.0.1 after.0 after.1 ∙ put (codes "before") _ _ (last_sound after.0 second.0 second.1)) in
    as_form (codes "order") ws _ rest (Order first.0.0 second.0) read words (same_some _ _ second.2) refl

isolate_sound : (ws : List (List ℕ)) (rest : List ℕ) (read : Form) → isolate_in ws ≡ Some read → IsForm (codes "isolate" ∷ ws) rest read
unfolding isolate_in
isolate_sound ws rest read e =
    let reset = step_sound _ _ _ e in
    let a = step_sound _ _ _ reset.2 in
    let bit = step_sound _ _ _ a.2 in
    let b = step_sound _ _ _ bit.2 in
    let one = step_sound _ _ _ b.2 in
    let last = given_sound (codes "is") bit.0.1 b.0 b.1 ∙ put (codes "is") _ _ (choice_sound (codes "0") (codes "1") b.0 one.0 one.1) in
    let middle = given_sound (codes "when") reset.0.1 a.0 a.1 ∙ put (codes "when") _ _ (word_sound a.0 bit.0 bit.1 ∙ put bit.0.0 _ _ last) in
    let words = word_sound ws reset.0 reset.1 ∙ put reset.0.0 _ _ middle in
    as_form (codes "isolate") ws _ rest (Isolate reset.0.0 bit.0.0 one.0) read words (same_some _ _ one.2) refl

quiet_sound : (ws : List (List ℕ)) (rest : List ℕ) (read : Form) → quiet_in ws ≡ Some read → IsForm (codes "quiet" ∷ ws) rest read
unfolding quiet_in
quiet_sound ws rest read e =
    let reset = step_sound _ _ _ e in
    let clock = step_sound _ _ _ reset.2 in
    let words = word_sound ws reset.0 reset.1 ∙ put reset.0.0 _ _ (last_sound reset.0.1 clock.0 clock.1) in
    as_form (codes "quiet") ws _ rest (Quiet reset.0.0 clock.0) read words (same_some _ _ clock.2) refl

no_reason : (flop : List ℕ) (read : Form) → (if has_items {X = ℕ} [] then Some (Waive flop []) else None) ≡ Some read → ⊥
no_reason flop read e = cc

waive_sound : (ws : List (List ℕ)) (rest : List ℕ) (read : Form) → waive_in ws rest ≡ Some read → IsForm (codes "waive" ∷ ws) rest read
unfolding waive_in
waive_sound ws [] read e = let flop = step_sound _ _ _ e in absurd (no_reason flop.0.0 read flop.2)
waive_sound ws (b ∷ rest) read e =
    let flop = step_sound _ _ _ e in
    as_form (codes "waive") ws _ (b ∷ rest) (Waive flop.0.0 (b ∷ rest)) read (word_sound ws flop.0 flop.1) (same_some _ _ flop.2) (refl, refl, λ none. absurd cc)

named_form : (verb : List ℕ) (form : List ℕ → Form) (ws : List (List ℕ)) (rest : List ℕ) (read : Form) → ((name : List ℕ) → IsForm (verb ∷ name ∷ []) rest (form name)) → named_in form ws ≡ Some read → IsForm (verb ∷ ws) rest read
named_form verb form ws rest read spells e =
    let found = named_sound form ws read e in
    as_form verb ws (found.0 ∷ []) rest (form found.0) read found.1 found.2 (spells found.0)

abbrev no_form : Option Form
no_form = None

nothing : (read : Form) → no_form ≡ Some read → ⊥
nothing read e = absurd cc

behind_sound : (verb : List ℕ) (ws : List (List ℕ)) (rest : List ℕ) (read : Form) → behind verb ws rest ≡ Some read → IsForm (verb ∷ ws) rest read
unfolding behind
behind_sound verb ws rest read e =
    elim (cases_Bool (bytes_eq verb (codes "clock"))) [
      | inl same ↦ let is = rw same at e in rw (is_word verb _ same) (named_form (codes "clock") Clock ws rest read (λ name. refl) is)
      | inr n1 ↦ let e1 = rw n1 at e in
          elim (cases_Bool (bytes_eq verb (codes "reset"))) [
            | inl same ↦ let is = rw same at e1 in rw (is_word verb _ same) (reset_sound ws rest read is)
            | inr n2 ↦ let e2 = rw n2 at e1 in
                elim (cases_Bool (bytes_eq verb (codes "tie"))) [
                  | inl same ↦ let is = rw same at e2 in rw (is_word verb _ same) (tie_sound ws rest read is)
                  | inr n3 ↦ let e3 = rw n3 at e2 in
                      elim (cases_Bool (bytes_eq verb (codes "steady"))) [
                        | inl same ↦ let is = rw same at e3 in rw (is_word verb _ same) (named_form (codes "steady") Steady ws rest read (λ name. refl) is)
                        | inr n4 ↦ let e4 = rw n4 at e3 in
                            elim (cases_Bool (bytes_eq verb (codes "track"))) [
                              | inl same ↦ let is = rw same at e4 in rw (is_word verb _ same) (named_form (codes "track") Track ws rest read (λ name. refl) is)
                              | inr n5 ↦ let e5 = rw n5 at e4 in
                                  elim (cases_Bool (bytes_eq verb (codes "order"))) [
                                    | inl same ↦ let is = rw same at e5 in rw (is_word verb _ same) (order_sound ws rest read is)
                                    | inr n6 ↦ let e6 = rw n6 at e5 in
                                        elim (cases_Bool (bytes_eq verb (codes "isolate"))) [
                                          | inl same ↦ let is = rw same at e6 in rw (is_word verb _ same) (isolate_sound ws rest read is)
                                          | inr n7 ↦ let e7 = rw n7 at e6 in
                                              elim (cases_Bool (bytes_eq verb (codes "quiet"))) [
                                                | inl same ↦ let is = rw same at e7 in rw (is_word verb _ same) (quiet_sound ws rest read is)
                                                | inr n8 ↦ let e8 = rw n8 at e7 in
                                                    elim (cases_Bool (bytes_eq verb (codes "waive"))) [
                                                      | inl same ↦ let is = rw same at e8 in rw (is_word verb _ same) (waive_sound ws rest read is)
                                                      | inr n9 ↦ let e9 = rw n9 at e8 in
                                                          absurd (nothing read e9)
                                                    ]
                                              ]
                                        ]
                                  ]
                            ]
                      ]
                ]
          ]
    ]

-- what is read as a form spells it
pub sound : (words : List (List ℕ)) (rest : List ℕ) (form : Form) → form_in words rest ≡ Some form → IsForm words rest form
unfolding form_in
sound words rest form e =
    let verb = step_sound _ _ _ e in
    rw (word_sound words verb.0 verb.1) (behind_sound verb.0.0 verb.0.1 rest form verb.2)

-- ---- as the code reads a line

pub spells_read : (text : List ℕ) (read : Option LineForm) → IsAscii text → option_map form_said read ≡ form_in (words_in text) (reason_in text) → IfSome read (λ form. Spells text (form_said form))
spells_read text None ascii e = tt
spells_read text (Some form) ascii e = record { ascii = ascii; said = sound (words_in text) (reason_in text) (form_said form) (sym e) }

pub read_alone : (text : List ℕ) (read : Option LineForm) → option_map form_said read ≡ form_in (words_in text) (reason_in text) → IfNone read ((form : Form) → Spells text form → ⊥)
read_alone text None e = λ form spells. nothing form (e ∙ complete (words_in text) (reason_in text) form spells.said)
read_alone text (Some form) e = tt

-- a line spells at most one form
pub one_form : (text : List ℕ) (first second : Form) → Spells text first → Spells text second → first ≡ second
one_form text first second a b = same_some first second (sym (complete (words_in text) (reason_in text) first a.said) ∙ complete (words_in text) (reason_in text) second b.said)

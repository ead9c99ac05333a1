-- How far an expansion has come, turn by turn.
use Rattle.std.proofs.Common.{◌≡◌, ℕ, List, [], ◌++◌, map, Option, Result, Ok, Err, refl, sym, ap, subst, ◌∙◌, append-nil, append_assoc}
use Rattle.std.specs.Prelude.{⊤, MatchResult}
use Rattle.std.specs.String.{string_bytes}
use Rattle.rdc_outside.specs.Shelf.{Files, Calls}
use Rattle.rdc_outside.specs.declared.source.Text.{Text}
use Rattle.vlog_items.specs.Items.{Item}
use Rattle.vlog_pre.specs.declared.fault.PreFault.{PreFault}
use Rattle.vlog_pre.specs.declared.fault.Stopped.{Stopped}
use Rattle.vlog_pre.specs.declared.fault.PreFault.TheVariants.{Memory}
use Rattle.vlog_pre.specs.Known.{State}
use Rattle.vlog_pre.specs.Expansion.{Expands, ends, wants, next, first_state, first_items}
use Rattle.vlog_pre.specs.Answer.{IsText, IsAnswer, calls_with}
use Rattle.vlog_pre.specs.Turns.{IsTurn}
use Rattle.vlog_pre.proofs.TurnLemmas.{refusal, no_place, calls_with-append}

-- no turn yet
pub turn_none : (told : Option Files) (calls : Option Calls) (known : State) (names : List (List ℕ)) (items : List Item) → IsTurn told calls known items (Ok tt) known names items calls
turn_none told calls known names items = record { more = []; listed = refl; known = sym (append-nil known.files); completes = λ loaded answer more. more }

-- turns that went on, and one more
pub turn_more : (told : Option Files) (calls between later : Option Calls) (old mid new : State) (before names : List (List ℕ)) (items left rest : List Item) → IsTurn told calls old items (Ok tt) mid before left between → IsTurn told between mid left (Ok tt) new names rest later → IsTurn told calls old items (Ok tt) new names rest later
turn_more told calls between later old mid new before names items left rest so turn =
    record {
      more = so.more ++ turn.more;
      listed = turn.listed ∙ ap (λ (c : Option Calls). calls_with c turn.more) so.listed ∙ sym (calls_with-append calls so.more turn.more);
      known = turn.known ∙ ap (λ (files : List (List ℕ)). files ++ turn.more) so.known ∙ append_assoc old.files so.more turn.more;
      completes = λ loaded answer more.
          subst (λ (l : List (List ℕ)). Expands told old items l answer) (sym (append_assoc so.more turn.more loaded)) (so.completes (turn.more ++ loaded) answer (turn.completes loaded answer more));
    }

-- turns that went on, and one that refuses
pub turn_stops : (told : Option Files) (calls between later : Option Calls) (old mid new : State) (before names : List (List ℕ)) (items left rest : List Item) (fault : PreFault) → IsTurn told calls old items (Ok tt) mid before left between → IsTurn told between mid left (Err fault) new names rest later → IsTurn told calls old items (Err fault) new names rest later
turn_stops told calls between later old mid new before names items left rest fault so turn =
    record {
      more = so.more ++ turn.more;
      listed = turn.listed ∙ ap (λ (c : Option Calls). calls_with c turn.more) so.listed ∙ sym (calls_with-append calls so.more turn.more);
      known = λ placed. turn.known placed ∙ ap (λ (files : List (List ℕ)). files ++ turn.more) so.known ∙ append_assoc old.files so.more turn.more;
      completes = so.completes turn.more (Err fault) turn.completes;
    }

-- turns that went on, and want of memory
pub turn_want : (told : Option Files) (calls later : Option Calls) (old mid new : State) (before names : List (List ℕ)) (items left rest : List Item) (fault : PreFault) → fault ≡ Memory → IsTurn told calls old items (Ok tt) mid before left later → IsTurn told calls old items (Err fault) new names rest later
turn_want told calls later old mid new before names items left rest fault is so =
    record {
      more = so.more ++ [];
      listed = so.listed ∙ ap (calls_with calls) (sym (append-nil so.more));
      known = λ placed. absurd (no_place fault is placed);
      completes = so.completes [] (Err fault) (wants refl (ap refusal is));
    }

-- a turn from the start
from_first : (told : Option Files) (given : List (List ℕ)) (calls later : Option Calls) (old new : State) (names : List (List ℕ)) (items rest : List Item) (result : Result ⊤ PreFault) → old ≡ first_state → items ≡ first_items given → IsTurn told calls old items result new names rest later → IsTurn told calls first_state (first_items given) result new names rest later
from_first told given calls later old new names items rest result is left turn =
    subst (λ (i : List Item). IsTurn told calls first_state i result new names rest later) left (subst (λ (s : State). IsTurn told calls s items result new names rest later) is turn)

-- all turns, and nothing is left
answer_text : (told : Option Files) (given : List (List ℕ)) (calls later : Option Calls) (known : State) (names : List (List ℕ)) (rest : List Item) (text : Text) → IsTurn told calls first_state (first_items given) (Ok tt) known names rest later → rest ≡ [] → IsText known text → IsAnswer told given calls later (Ok text)
answer_text told given calls later known names rest text all none text_is =
    record {
      loaded = all.more ++ [];
      answers = record { known = known; expands = all.completes [] (Ok known) (ends (ap (next known) none) refl refl); is_text = text_is };
      listed = all.listed ∙ ap (calls_with calls) (sym (append-nil all.more));
    }

-- turns, of which the last refuses
answer_stop : (told : Option Files) (given : List (List ℕ)) (calls later : Option Calls) (known : State) (names : List (List ℕ)) (rest : List Item) (stop : Stopped) → map string_bytes stop.files ≡ names → IsTurn told calls first_state (first_items given) (Err stop.fault) known names rest later → IsAnswer told given calls later (Err stop)
answer_stop told given calls later known names rest stop named all =
    record { loaded = all.more; answers = record { expands = all.completes; files = λ placed. named ∙ all.known placed }; listed = all.listed }

pub answer_refusal : (told : Option Files) (given : List (List ℕ)) (calls later : Option Calls) (old known : State) (items rest : List Item) (stop : Stopped) → old ≡ first_state → items ≡ first_items given → IsTurn told calls old items (Err stop.fault) known (map string_bytes stop.files) rest later → IsAnswer told given calls later (Err stop)
answer_refusal told given calls later old known items rest stop is left turns =
    answer_stop told given calls later known (map string_bytes stop.files) rest stop refl (from_first told given calls later old known (map string_bytes stop.files) items rest (Err stop.fault) is left turns)

-- turns, and the text or want of memory
pub answer_end : (told : Option Files) (given : List (List ℕ)) (calls later : Option Calls) (old known : State) (names : List (List ℕ)) (items rest : List Item) (result : Result Text Stopped) → old ≡ first_state → items ≡ first_items given → rest ≡ [] → MatchResult result (IsText known) (λ stop. stop.fault ≡ Memory) → IsTurn told calls old items (Ok tt) known names rest later → IsAnswer told given calls later result
answer_end told given calls later old known names items rest (Ok text) is left none text_is turns =
    answer_text told given calls later known names rest text (from_first told given calls later old known names items rest (Ok tt) is left turns) none text_is
answer_end told given calls later old known names items rest (Err stop) is left none memory turns =
    let all = from_first told given calls later old known names items rest (Ok tt) is left turns in
    let want = turn_want told calls later first_state known known names (map string_bytes stop.files) (first_items given) rest rest stop.fault memory all in
    answer_stop told given calls later known (map string_bytes stop.files) rest stop refl want

-- memory is wanted before the first turn
pub answer_none : (told : Option Files) (given : List (List ℕ)) (calls : Option Calls) (stop : Stopped) → stop.fault ≡ Memory → IsAnswer told given calls calls (Err stop)
answer_none told given calls stop is =
    record { loaded = []; answers = record { expands = wants refl (ap refusal is); files = λ placed. absurd (no_place stop.fault is placed) }; listed = refl }

-- Loads and turns.
use Rattle.std.proofs.Common.{◌⊎◌, sym, ◌∙◌, subst, ⊎_elim, append-nil, ◌≡◌, ℕ, List, [], ◌∷◌, ◌++◌, Option, Result, Ok, Err, refl, ap, inl, inr}
use Rattle.std.specs.Option.{option_map}
use Rattle.rdc_outside.specs.Shelf.{Files, Calls, Load, list_call, calls_after_load}
use Rattle.rdc_outside.specs.declared.faults.LoadFault.{LoadFault}
use Rattle.rdc_outside.specs.declared.faults.LoadFault.TheVariants as load
use Rattle.vlog_items.specs.Items.{Item}
use Rattle.vlog_pre.specs.declared.fault.PreFault.{PreFault}
use Rattle.vlog_pre.specs.declared.fault.PreFault.TheVariants.{Memory, Absent, Read, TooLong, UnknownDirective, Unbalanced, BadMacroUse, MacroLoop, TooDeep}
use Rattle.vlog_pre.specs.Known.{State, refused, goes_on, loads}
use Rattle.vlog_pre.specs.Expansion.{Expands, stops, goes, enters, misses, exceeds, fails, wants, wants_more, next, with_file}
use Rattle.vlog_pre.specs.Answer.{HasPlace, calls_with}
use Rattle.vlog_pre.specs.Turns.{IsFaultOf, IsListed, IsTurn, Loads, IsLoadFault}

-- a load that fails is listed, unless it wanted memory
pub listed_fault : (calls : Option Calls) (name : List ℕ) (fault : LoadFault) (refusal : PreFault) → IsFaultOf name fault refusal → IsListed calls name (Err refusal) (calls_after_load calls name 16777216 (Err fault))
listed_fault calls name load.Memory refusal is = inr (is, refl)
listed_fault calls name load.Absent refusal is = inl refl
listed_fault calls name load.TooBig refusal is = inl refl
listed_fault calls name load.Failed refusal is = inl refl

-- the calls after some loads and one more
pub calls_with-append : (calls : Option Calls) (names others : List (List ℕ)) → calls_with calls (names ++ others) ≡ calls_with (calls_with calls names) others
calls_with-append calls [] others = refl
calls_with-append calls (name ∷ names) others = calls_with-append (option_map (λ told. list_call told (Load name 16777216)) calls) names others

-- a refusal
abbrev pub refusal : PreFault → Result State PreFault
refusal fault = Err fault

-- want of memory is no fault with a place
pub no_place : (fault : PreFault) → fault ≡ Memory → HasPlace fault → ⊥
no_place fault is placed = let bad : HasPlace Memory = subst HasPlace is placed in bad

-- a step that refuses the text
pub turn_refused : (told : Option Files) (calls : Option Calls) (old new : State) (names : List (List ℕ)) (items rest : List Item) (fault : PreFault) → (fault ≡ Memory) ⊎ (next old items ≡ refused fault) → names ≡ old.files → IsTurn told calls old items (Err fault) new names rest calls
turn_refused told calls old new names items rest fault is same =
    record {
      more = [];
      listed = refl;
      known = λ placed. same ∙ sym (append-nil old.files);
      completes = ⊎_elim (λ memory. wants refl (ap refusal memory)) (λ stop. stops fault stop refl refl) is;
    }

-- a step that goes on
pub turn_goes_on : (told : Option Files) (calls : Option Calls) (old new : State) (names : List (List ℕ)) (items rest : List Item) → next old items ≡ goes_on new rest → new.files ≡ old.files → IsTurn told calls old items (Ok tt) new names rest calls
turn_goes_on told calls old new names items rest is same =
    record { more = []; listed = refl; known = same ∙ sym (append-nil old.files); completes = λ loaded answer more. goes new rest is more }

-- a step that asks for a file, and the file
pub turn_loads : (told : Option Files) (calls later : Option Calls) (old mid new : State) (names : List (List ℕ)) (items between rest : List Item) (name : List ℕ) (within : List (List ℕ)) → next old items ≡ loads name within mid between → mid.files ≡ old.files
    → Loads told name within mid between new rest → later ≡ calls_with calls (name ∷ []) → IsTurn told calls old items (Ok tt) new names rest later
turn_loads told calls later old mid new names items between rest name within is same loaded listed =
    record {
      more = name ∷ [];
      listed = listed;
      known = ap (λ (s : State). s.files) loaded.known ∙ ap (λ (fs : List (List ℕ)). fs ++ name ∷ []) same;
      completes = λ others answer more.
          let known : Expands told (with_file mid name) rest others answer = subst (λ (s : State). Expands told s rest others answer) loaded.known more in
          enters name within mid between loaded.bytes others is loaded.found loaded.fits (subst (λ (r : List Item). Expands told (with_file mid name) r others answer) loaded.left known) refl;
    }

-- a file that can't be loaded
load_refused : (told : Option Files) (old mid : State) (items between : List Item) (name : List ℕ) (within : List (List ℕ)) (fault : PreFault) → next old items ≡ loads name within mid between → IsLoadFault told name fault → Expands told old items (name ∷ []) (Err fault)
load_refused told old mid items between name within Memory is why = wants_more name within mid between is refl refl
load_refused told old mid items between name within (Absent missing) is why = misses name within mid between is why.1 refl (ap (λ (n : List ℕ). refusal (Absent n)) why.0)
load_refused told old mid items between name within (Read failed) is why = fails name within mid between is refl (ap (λ (n : List ℕ). refusal (Read n)) why)
load_refused told old mid items between name within (TooLong long) is why = exceeds name within mid between is why.1 refl (ap (λ (n : List ℕ). refusal (TooLong n)) why.0)
load_refused told old mid items between name within (UnknownDirective place) is why = absurd why
load_refused told old mid items between name within (Unbalanced place) is why = absurd why
load_refused told old mid items between name within (BadMacroUse place) is why = absurd why
load_refused told old mid items between name within (MacroLoop looped place) is why = absurd why
load_refused told old mid items between name within (TooDeep place) is why = absurd why

-- a fault of a load has no place
load_no_place : (told : Option Files) (name : List ℕ) (fault : PreFault) → IsLoadFault told name fault → HasPlace fault → ⊥
load_no_place told name Memory why placed = placed
load_no_place told name (Absent missing) why placed = placed
load_no_place told name (Read failed) why placed = placed
load_no_place told name (TooLong long) why placed = placed
load_no_place told name (UnknownDirective place) why placed = why
load_no_place told name (Unbalanced place) why placed = why
load_no_place told name (BadMacroUse place) why placed = why
load_no_place told name (MacroLoop looped place) why placed = why
load_no_place told name (TooDeep place) why placed = why

pub turn_fails : (told : Option Files) (calls later : Option Calls) (old mid new : State) (names : List (List ℕ)) (items between rest : List Item) (name : List ℕ) (within : List (List ℕ)) (fault : PreFault) → next old items ≡ loads name within mid between
    → IsLoadFault told name fault → IsListed calls name (Err fault) later → IsTurn told calls old items (Err fault) new names rest later
turn_fails told calls later old mid new names items between rest name within fault is why listed =
    ⊎_elim
    (λ one. record { more = name ∷ []; listed = one; known = λ placed. absurd (load_no_place told name fault why placed); completes = load_refused told old mid items between name within fault is why })
    (λ none. record { more = []; listed = none.1; known = λ placed. absurd (load_no_place told name fault why placed); completes = wants refl (ap refusal none.0) })
    listed

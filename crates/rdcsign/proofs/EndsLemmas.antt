-- Serves specs/Ends.antt and specs/Signoff.antt: how the stages of a call join, and which status each end has.
use Rattle.std.proofs.Common.{◌≡◌, ℕ, ◌≤◌, Bool, true, false, cond, List, [], ◌∷◌, ◌++◌, length, Option, Some, None, Result, Ok, Err, refl, sym, ap, subst, ◌∙◌, inl, inr, ◌⊎◌}
use Rattle.std.specs.Prelude.{IsSomeAnd, IfSome}
use Rattle.rdc_outside.specs.Shelf.{Files, Calls, Call, Load, list_call}
use Rattle.rdc_outside.specs.declared.outcome.Status.{Status}
use Rattle.rdc_outside.specs.declared.source.Place.{Place}
use Rattle.rdc_outside.specs.declared.source.Text.{Text}
use Rattle.vlog_pre.specs.declared.fault.PreFault.{PreFault}
use Rattle.vlog_pre.specs.declared.fault.PreFault.TheVariants as pre
use Rattle.vlog_pre.specs.declared.fault.Stopped.{Stopped}
use Rattle.vlog_pre.specs.Known.{State}
use Rattle.vlog_pre.specs.Expansion.{Expands, first_state, first_items}
use Rattle.vlog_pre.specs.Answer.{HasPlace, IsExpansion, IsAnswer, calls_with}
use Rattle.vlog_lex.specs.declared.fault.LexFault.{LexFault}
use Rattle.vlog_lex.specs.declared.fault.LexFault.TheVariants as lex
use Rattle.vlog_lex.specs.Tokens.{AreTokens, IsFault}
use Rattle.rdcsign.specs.declared.loading.TheConstants.{MOST}
use Rattle.rdcsign.specs.Request.{Request, request_of, texts}
use Rattle.rdcsign.specs.Outcome.{Outcome, Usage, Absent, Read, Source, NotYet, Memory, Judged, status_of, cut_status, Says}
use Rattle.vlog_lex.specs.declared.tokens.Token.{Token}
use Rattle.vlog_tree.specs.declared.module.Module.{Module}
use Rattle.vlog_tree.specs.Lexemes.{Lexeme, lexemes, place_at}
use Rattle.vlog_parse.specs.declared.fault.ParseFault.{ParseFault}
use Rattle.vlog_parse.specs.declared.fault.ParseFault.TheVariants as parsing
use Rattle.vlog_parse.specs.Begins as parse
use Rattle.design_form.specs.declared.parts.Parts.{Parts}
use Rattle.vlog_const.specs.declared.answer.ConstFault.TheVariants as const
use Rattle.elab_names.specs.declared.fault.ElabFault.{ElabFault}
use Rattle.elab_names.specs.declared.fault.ElabFault.TheVariants as elab
use Rattle.vlog_elab.specs.Flat.{Gives}
use Rattle.front.specs.Stages.{lib_in}
use Rattle.rdcsign.specs.Faults.{stopped, unread, unparsed, unelaborated}
use Rattle.rdcsign.specs.Lexemes.{end_of, lexemes_of}
use Rattle.rdcsign.specs.Ends.{IsLoaded, IsRefusedLoad, loads_of, load_unless_memory, IsOrMemory, ExpandTo, HaveTokens, IsUnparsed, IsUnelaborated, SpellModules, SpellFlat, DeclaresNone, IsJudgement, IsReport, Ends, EndsRequest, at_constraints, at_sources, at_tokens, at_modules, at_design, with_all}
use Rattle.rdcsign.specs.Loads.{with_loads}
use Rattle.rdcsign.specs.Answers.{EndsText, no_tokens, no_modules, no_flat, judged, EndsListed, EndsWords}
use Rattle.rdcsign.specs.Signoff.{IsThere, IsTooBig, AreRead, IsJudgedAs, IsMissing, IsFaulty, IsUnformed, IsCauseFor, IsCauseOf, IsCause}

-- a load and then more loads
loads_after : (calls : Option Calls) (c : Call) (cs : List Call) → with_loads (with_loads calls (c ∷ [])) cs ≡ with_loads calls (c ∷ cs)
loads_after None c cs = refl
loads_after (Some told) c cs = refl

listed_after : (old mid new : Option Calls) (c : Call) (cs : List Call) → mid ≡ with_loads old (c ∷ []) → new ≡ with_loads mid cs → new ≡ with_loads old (c ∷ cs)
listed_after old mid new c cs first second = second ∙ ap (λ (w : Option Calls). with_loads w cs) first ∙ loads_after old c cs

-- the call ends at its first load
pub ends_at_constraints : (told : Option Files) (r : Request) (outcome : Outcome) (old new : Option Calls) → IsRefusedLoad told r.constraints outcome → new ≡ with_loads old (load_unless_memory r.constraints outcome)
    → EndsListed told r outcome old new
ends_at_constraints told r outcome old new is listed = record { made = load_unless_memory r.constraints outcome; ends = at_constraints is refl; listed = listed }

-- the loads of an expansion are loads
loads_are : (calls : Option Calls) (names : List (List ℕ)) → calls_with calls names ≡ with_loads calls (loads_of names)
loads_are None [] = refl
loads_are None (name ∷ names) = loads_are None names
loads_are (Some told) [] = refl
loads_are (Some told) (name ∷ names) = loads_are (Some (list_call told (Load name MOST))) names

-- the load of the constraints, and then those of an expansion
listed_behind : (old mid new : Option Calls) (name : List ℕ) (loaded : List (List ℕ)) → mid ≡ with_loads old (loads_of (name ∷ [])) → new ≡ calls_with mid loaded → new ≡ with_loads old (loads_of (name ∷ loaded))
listed_behind old mid new name loaded first second = listed_after old mid new (Load name MOST) (loads_of loaded) first (second ∙ loads_are mid loaded)

-- a fault without a place says nothing of the files
said_same : (files loaded : List (List ℕ)) (fault : PreFault) → (HasPlace fault → files ≡ loaded) → stopped files fault ≡ stopped loaded fault
said_same files loaded pre.Memory are = refl
said_same files loaded (pre.Absent name) are = refl
said_same files loaded (pre.Read name) are = refl
said_same files loaded (pre.TooLong name) are = refl
said_same files loaded (pre.UnknownDirective place) are = ap (λ (fs : List (List ℕ)). stopped fs (pre.UnknownDirective place)) (are tt)
said_same files loaded (pre.Unbalanced place) are = ap (λ (fs : List (List ℕ)). stopped fs (pre.Unbalanced place)) (are tt)
said_same files loaded (pre.BadMacroUse place) are = ap (λ (fs : List (List ℕ)). stopped fs (pre.BadMacroUse place)) (are tt)
said_same files loaded (pre.MacroLoop name place) are = ap (λ (fs : List (List ℕ)). stopped fs (pre.MacroLoop name place)) (are tt)
said_same files loaded (pre.TooDeep place) are = ap (λ (fs : List (List ℕ)). stopped fs (pre.TooDeep place)) (are tt)

-- it ends at the expansion of the sources
pub ends_at_sources : (told later : Option Files) (r : Request) (outcome : Outcome) (old mid new : Option Calls) (constraints : List ℕ) (stop : Stopped) → later ≡ told → IsLoaded told r.constraints constraints
    → IsAnswer later r.files mid new (Err stop) → IsOrMemory outcome (stopped (texts stop.files) stop.fault) → mid ≡ with_loads old (loads_of (r.constraints ∷ [])) → EndsListed told r outcome old new
ends_at_sources told later r outcome old mid new constraints stop same loaded answer is first =
    let at = subst (λ (t : Option Files). IsAnswer t r.files mid new (Err stop)) same answer in
    let said = said_same (texts stop.files) at.loaded stop.fault at.answers.files in
    record {
      made = loads_of (r.constraints ∷ at.loaded);
      ends = at_sources constraints at.loaded loaded (record { fault = stop.fault; expands = at.answers.expands; outcome_is = subst (IsOrMemory outcome) said is }) refl;
      listed = listed_behind old mid new r.constraints at.loaded first at.listed;
    }

-- the lexemes of the text are those of what is known
same_lexemes : {told : Option Files} {files : List (List ℕ)} {loaded : List (List ℕ)} {text : Text} (expansion : IsExpansion told files loaded text) (tokens : List Token) → lexemes text.bytes text.places tokens ≡ lexemes_of expansion.known tokens
same_lexemes {text = text} expansion tokens = ap (λ (bs : List ℕ). lexemes bs text.places tokens) expansion.is_text.bytes ∙ ap (λ (places : List Place). lexemes expansion.known.bytes places tokens) expansion.is_text.places

same_end : {told : Option Files} {files : List (List ℕ)} {loaded : List (List ℕ)} {text : Text} (expansion : IsExpansion told files loaded text) → place_at text.places (length text.bytes) ≡ end_of expansion.known
same_end {text = text} expansion = ap (λ (bs : List ℕ). place_at text.places (length bs)) expansion.is_text.bytes ∙ ap (λ (places : List Place). place_at places (length expansion.known.bytes)) expansion.is_text.places

have : (told : Option Files) (r : Request) (loaded : List (List ℕ)) (text : Text) (expansion : IsExpansion told r.files loaded text) (tokens : List Token) → AreTokens 0 text.bytes tokens → HaveTokens told r loaded expansion.known tokens
have told r loaded text expansion tokens are = record { expand = expansion.expands; are_tokens = subst (λ (bytes : List ℕ). AreTokens 0 bytes tokens) expansion.is_text.bytes are }

abbrev spelled : (told : Option Files) (r : Request) (loaded : List (List ℕ)) (text : Text) (expansion : IsExpansion told r.files loaded text) (tokens : List Token) (ms : List Module) → AreTokens 0 text.bytes tokens
    → parse.IsAnswer (lexemes text.bytes text.places tokens) ms → SpellModules told r loaded ms
spelled told r loaded text expansion tokens ms are is = record {
  known = expansion.known;
  tokens = tokens;
  have = have told r loaded text expansion tokens are;
  answer = subst (λ (ls : List Lexeme). parse.IsAnswer ls ms) (same_lexemes expansion tokens) is;
}

-- how what is known at the end of an expansion ends the call
ends_known : (told : Option Files) (r : Request) (outcome : Outcome) (constraints : List ℕ) (loaded : List (List ℕ)) (text : Text) → IsLoaded told r.constraints constraints → IsExpansion told r.files loaded text
    → EndsText r constraints text outcome → Ends told r outcome (loads_of (r.constraints ∷ loaded))
ends_known told r outcome constraints loaded text c expansion (no_tokens fault is outcome_is) =
    let known = expansion.known in
    let at_places = subst (λ (places : List Place). IsFault text.bytes places fault) expansion.is_text.places is in
    let is_fault = subst (λ (bytes : List ℕ). IsFault bytes (known.places ++ known.end ∷ []) fault) expansion.is_text.bytes at_places in
    at_tokens constraints loaded known c expansion.expands (record { fault = fault; is_fault = is_fault; outcome_is = subst (λ (fs : List (List ℕ)). IsOrMemory outcome (unread fs fault)) expansion.is_text.files outcome_is }) refl
ends_known told r outcome constraints loaded text c expansion (no_modules tokens fault are is outcome_is) =
    let known = expansion.known in
    at_modules constraints loaded known tokens c (have told r loaded text expansion tokens are)
    (record {
      fault = fault;
      is_fault = subst (λ (ls : List Lexeme). parse.IsFault (end_of known) ls fault) (same_lexemes expansion tokens) (subst (λ (at : Place). parse.IsFault at (lexemes text.bytes text.places tokens) fault) (same_end expansion) is);
      outcome_is = subst (λ (fs : List (List ℕ)). IsOrMemory outcome (unparsed fs fault)) expansion.is_text.files outcome_is;
    }) refl
ends_known told r outcome constraints loaded text c expansion (no_flat tokens ms are is out) =
    at_design constraints loaded ms (spelled told r loaded text expansion tokens ms are is) c (subst (λ (fs : List (List ℕ)). IsUnelaborated fs r.top ms outcome) expansion.is_text.files out) refl
ends_known told r outcome constraints loaded text c expansion (judged tokens ms flat are is gives judgement) =
    with_all constraints loaded flat c (record { modules = ms; spell = spelled told r loaded text expansion tokens ms are is; gives = gives }) judgement refl

-- it ends with the text of the sources
pub ends_with_text : (told later : Option Files) (r : Request) (outcome : Outcome) (old mid new : Option Calls) (constraints : List ℕ) (text : Text) → later ≡ told → IsLoaded told r.constraints constraints
    → IsAnswer later r.files mid new (Ok text) → EndsText r constraints text outcome → mid ≡ with_loads old (loads_of (r.constraints ∷ [])) → EndsListed told r outcome old new
ends_with_text told later r outcome old mid new constraints text same loaded answer is first =
    let at = subst (λ (t : Option Files). IsAnswer t r.files mid new (Ok text)) same answer in
    record {
      made = loads_of (r.constraints ∷ at.loaded);
      ends = ends_known told r outcome constraints at.loaded text loaded at.answers is;
      listed = listed_behind old mid new r.constraints at.loaded first at.listed;
    }

-- the words' end is their request's
pub ends_words : (told : Option Files) (words : List (List ℕ)) (r : Request) (outcome : Outcome) (old new : Option Calls) → Some r ≡ request_of words → EndsListed told r outcome old new → EndsWords told words outcome old new
ends_words told words r outcome old new is ends = record {
  made = ends.made;
  ends = subst (λ (o : Option Request). EndsRequest told o outcome ends.made) is ends.ends;
  listed = ends.listed;
}

there : (files : Files) (name bytes : List ℕ) → IsLoaded (Some files) name bytes → IsThere files name
there files name bytes loaded = subst (λ (o : Option (List ℕ)). IsSomeAnd o (λ bs. length bs ≤ MOST)) (sym loaded.value) loaded.within

judged_as : (files : Files) (r : Request) (constraints : List ℕ) (loaded : List (List ℕ)) (flat : Parts) (report : List ℕ) (crossing : Bool) → IsLoaded (Some files) r.constraints constraints → SpellFlat (Some files) r loaded flat
    → IsReport r.top constraints flat report crossing → IsJudgedAs crossing files r
judged_as files r constraints loaded flat report crossing c t is = record {
  design = is.design;
  roles = is.roles;
  spelled = record { are_read = record { constraints = constraints; loaded = loaded; flat = flat; has_constraints = c; spell = t }; of_form = is.of_form };
  verdict = sym is.verdict;
}

-- the status of an outcome, whole or cut
abbrev pub status_at : Outcome → Bool → Status
status_at outcome whole = cond whole (status_of outcome) (cut_status outcome)

-- a judgement's status, by its verdict
cause_of_judged : (files : Files) (r : Request) (report : List ℕ) (crossing : Bool) → IsJudgedAs crossing files r → (whole : Bool) → IsCauseFor files r (status_at (Judged report crossing) whole)
cause_of_judged files r report true is true = is
cause_of_judged files r report false is true = is
cause_of_judged files r report true is false = inr is
cause_of_judged files r report false is false = inl is

-- the statuses of refusals, whole or cut
cause_of_memory : (files : Files) (r : Request) (whole : Bool) → IsCauseFor files r (status_at Memory whole)
cause_of_memory files r true = tt
cause_of_memory files r false = tt

cause_of_read : (files : Files) (r : Request) (name : List ℕ) (whole : Bool) → IsCauseFor files r (status_at (Read name) whole)
cause_of_read files r name true = tt
cause_of_read files r name false = tt

cause_of_absent : (files : Files) (r : Request) (name : List ℕ) → IsMissing files r → (whole : Bool) → IsCauseFor files r (status_at (Absent name) whole)
cause_of_absent files r name is true = is
cause_of_absent files r name is false = is

cause_of_source : (files : Files) (r : Request) (details : List ℕ) → IsFaulty files r → (whole : Bool) → IsCauseFor files r (status_at (Source details) whole)
cause_of_source files r details is true = is
cause_of_source files r details is false = is

cause_of_notyet : (files : Files) (r : Request) (name : List ℕ) → IsTooBig files r.constraints ⊎ IsUnformed files r → (whole : Bool) → IsCauseFor files r (status_at (NotYet name) whole)
cause_of_notyet files r name is true = is
cause_of_notyet files r name is false = is

cause_at_constraints : (files : Files) (r : Request) (outcome : Outcome) → IsRefusedLoad (Some files) r.constraints outcome → (whole : Bool) → IsCauseFor files r (status_at outcome whole)
cause_at_constraints files r Usage is whole = absurd is
cause_at_constraints files r (Absent n) is whole = cause_of_absent files r n (inl is.1) whole
cause_at_constraints files r (Read n) is whole = cause_of_read files r n whole
cause_at_constraints files r (Source details) is whole = absurd is
cause_at_constraints files r (NotYet n) is whole = cause_of_notyet files r n (inl is.1) whole
cause_at_constraints files r Memory is whole = cause_of_memory files r whole
cause_at_constraints files r (Judged report crossing) is whole = absurd is

-- an outcome that is wanted, or want of memory
cause_of_either : (files : Files) (r : Request) (outcome wanted : Outcome) (whole : Bool) → IsOrMemory outcome wanted → IsCauseFor files r (status_at wanted whole) → IsCauseFor files r (status_at outcome whole)
cause_of_either files r outcome wanted whole (inl is) cause = subst (λ (o : Outcome). IsCauseFor files r (status_at o whole)) (sym is) cause
cause_of_either files r outcome wanted whole (inr is) cause = subst (λ (o : Outcome). IsCauseFor files r (status_at o whole)) (sym is) (cause_of_memory files r whole)

-- what is said of a fault of the source
abbrev details_of : Outcome → List ℕ
details_of Usage = []
details_of (Absent n) = []
details_of (Read n) = []
details_of (Source details) = details
details_of (NotYet n) = []
details_of Memory = []
details_of (Judged report crossing) = []

module _ (files : Files) (r : Request) (loaded : List (List ℕ)) (first : IsThere files r.constraints) (whole : Bool) where
  -- a fault of expansion that is one of the source
  faulty_text : (fault : PreFault) → Source (details_of (stopped loaded fault)) ≡ stopped loaded fault → Expands (Some files) first_state (first_items r.files) loaded (Err fault) → IsCauseFor files r (status_at (Source (details_of (stopped loaded fault))) whole)
  faulty_text fault said expands =
      cause_of_source files r (details_of (stopped loaded fault)) (first, (details_of (stopped loaded fault), (loaded, inl (record { fault = fault; expands = expands; outcome_is = inl said })))) whole

  cause_of_stop : (fault : PreFault) → Expands (Some files) first_state (first_items r.files) loaded (Err fault) → IsCauseFor files r (status_at (stopped loaded fault) whole)
  cause_of_stop pre.Memory expands = cause_of_memory files r whole
  cause_of_stop (pre.Absent name) expands = cause_of_absent files r name (inr (first, (name, loaded, expands))) whole
  cause_of_stop (pre.Read name) expands = cause_of_read files r name whole
  cause_of_stop (pre.TooLong name) expands = faulty_text (pre.TooLong name) refl expands
  cause_of_stop (pre.UnknownDirective place) expands = faulty_text (pre.UnknownDirective place) refl expands
  cause_of_stop (pre.Unbalanced place) expands = faulty_text (pre.Unbalanced place) refl expands
  cause_of_stop (pre.BadMacroUse place) expands = faulty_text (pre.BadMacroUse place) refl expands
  cause_of_stop (pre.MacroLoop name place) expands = faulty_text (pre.MacroLoop name place) refl expands
  cause_of_stop (pre.TooDeep place) expands = faulty_text (pre.TooDeep place) refl expands

  module _ (known : State) (expand : ExpandTo (Some files) r loaded known) where
    -- a fault of lexing that is one of the source
    faulty_tokens : (fault : LexFault) → Source (details_of (unread known.files fault)) ≡ unread known.files fault → IsFault known.bytes (known.places ++ known.end ∷ []) fault → IsCauseFor files r (status_at (Source (details_of (unread known.files fault))) whole)
    faulty_tokens fault said is =
        cause_of_source files r (details_of (unread known.files fault)) (first, (details_of (unread known.files fault), (loaded, inr (inl (known, expand, record { fault = fault; is_fault = is; outcome_is = inl said }))))) whole

    cause_of_unread : (fault : LexFault) → IsFault known.bytes (known.places ++ known.end ∷ []) fault → IsCauseFor files r (status_at (unread known.files fault) whole)
    cause_of_unread lex.Memory is = cause_of_memory files r whole
    cause_of_unread (lex.BadByte place) is = faulty_tokens (lex.BadByte place) refl is
    cause_of_unread (lex.BadNumber place) is = faulty_tokens (lex.BadNumber place) refl is
    cause_of_unread (lex.OpenComment place) is = faulty_tokens (lex.OpenComment place) refl is
    cause_of_unread (lex.OpenString place) is = faulty_tokens (lex.OpenString place) refl is

    module _ (tokens : List Token) (are : HaveTokens (Some files) r loaded known tokens) where
      -- a fault of parsing that is one of the source
      faulty_modules : (fault : ParseFault) → Source (details_of (unparsed known.files fault)) ≡ unparsed known.files fault → parse.IsFault (end_of known) (lexemes_of known tokens) fault → IsCauseFor files r (status_at (Source (details_of (unparsed known.files fault))) whole)
      faulty_modules fault said is =
          cause_of_source files r (details_of (unparsed known.files fault)) (first, (details_of (unparsed known.files fault), (loaded, inr (inr (inl (known, tokens, are, record { fault = fault; is_fault = is; outcome_is = inl said })))))) whole

      cause_of_unparsed : (fault : ParseFault) → parse.IsFault (end_of known) (lexemes_of known tokens) fault → IsCauseFor files r (status_at (unparsed known.files fault) whole)
      cause_of_unparsed parsing.Memory is = cause_of_memory files r whole
      cause_of_unparsed (parsing.Unsupported word place) is = faulty_modules (parsing.Unsupported word place) refl is
      cause_of_unparsed (parsing.Syntax place) is = faulty_modules (parsing.Syntax place) refl is
      cause_of_unparsed (parsing.TooDeep place) is = faulty_modules (parsing.TooDeep place) refl is

  module _ (ms : List Module) (spell : SpellModules (Some files) r loaded ms) where
    -- a fault of elaboration that is one of the source
    faulty_design : (fault : ElabFault) → Source (details_of (unelaborated spell.known.files fault)) ≡ unelaborated spell.known.files fault → Gives (lib_in ms []) r.top (Err fault) → IsCauseFor files r (status_at (Source (details_of (unelaborated spell.known.files fault))) whole)
    faulty_design fault said is =
        cause_of_source files r (details_of (unelaborated spell.known.files fault)) (first, (details_of (unelaborated spell.known.files fault), (loaded, inr (inr (inr (ms, spell, record { fault = fault; gives = is; outcome_is = inl said })))))) whole

    cause_of_unelaborated : (fault : ElabFault) → Gives (lib_in ms []) r.top (Err fault) → IsCauseFor files r (status_at (unelaborated spell.known.files fault) whole)
    cause_of_unelaborated elab.Memory is = cause_of_memory files r whole
    cause_of_unelaborated (elab.NoModule name None) is = faulty_design (elab.NoModule name None) refl is
    cause_of_unelaborated (elab.NoModule name (Some place)) is = faulty_design (elab.NoModule name (Some place)) refl is
    cause_of_unelaborated (elab.TwoModules name place) is = faulty_design (elab.TwoModules name place) refl is
    cause_of_unelaborated (elab.NoPort name place) is = faulty_design (elab.NoPort name place) refl is
    cause_of_unelaborated (elab.PortCount place) is = faulty_design (elab.PortCount place) refl is
    cause_of_unelaborated (elab.Undeclared name place) is = faulty_design (elab.Undeclared name place) refl is
    cause_of_unelaborated (elab.TwiceDeclared name place) is = faulty_design (elab.TwiceDeclared name place) refl is
    cause_of_unelaborated (elab.NotAssignable place) is = faulty_design (elab.NotAssignable place) refl is
    cause_of_unelaborated (elab.Recursion name place) is = faulty_design (elab.Recursion name place) refl is
    cause_of_unelaborated (elab.HierLimit place) is = faulty_design (elab.HierLimit place) refl is
    cause_of_unelaborated (elab.BadRange place) is = faulty_design (elab.BadRange place) refl is
    cause_of_unelaborated (elab.WidthLimit place) is = faulty_design (elab.WidthLimit place) refl is
    cause_of_unelaborated (elab.GenerateLimit place) is = faulty_design (elab.GenerateLimit place) refl is
    cause_of_unelaborated (elab.Const const.Memory) is = cause_of_memory files r whole
    cause_of_unelaborated (elab.Const (const.NotConstant place)) is = faulty_design (elab.Const (const.NotConstant place)) refl is
    cause_of_unelaborated (elab.Const (const.TooWide place)) is = faulty_design (elab.Const (const.TooWide place)) refl is
    cause_of_unelaborated (elab.Const (const.ZeroDivisor place)) is = faulty_design (elab.Const (const.ZeroDivisor place)) refl is
    cause_of_unelaborated (elab.Undriven name place) is = faulty_design (elab.Undriven name place) refl is
    cause_of_unelaborated (elab.TwiceDriven name place) is = faulty_design (elab.TwiceDriven name place) refl is
    cause_of_unelaborated (elab.Heavy place) is = faulty_design (elab.Heavy place) refl is
    cause_of_unelaborated (elab.NotBuilt place) is = faulty_design (elab.NotBuilt place) refl is

unformed : (files : Files) (r : Request) (constraints : List ℕ) (n : List ℕ) (are : AreRead files r) → are.constraints ≡ constraints → IsJudgement r constraints are.flat (NotYet n) → IsUnformed files r
unformed files r constraints n are same (inl is) = record { are_read = are; unformed = inl is.1 }
unformed files r constraints n are same (inr is) = record { are_read = are; unformed = inr (subst (λ (c : List ℕ). DeclaresNone c are.flat) (sym same) is.1) }

cause_with_all : (files : Files) (r : Request) (constraints : List ℕ) (loaded : List (List ℕ)) (flat : Parts) (outcome : Outcome) → IsLoaded (Some files) r.constraints constraints → SpellFlat (Some files) r loaded flat
    → IsJudgement r constraints flat outcome → (whole : Bool) → IsCauseFor files r (status_at outcome whole)
cause_with_all files r constraints loaded flat Usage c t is whole = absurd is
cause_with_all files r constraints loaded flat (Absent n) c t is whole = absurd is
cause_with_all files r constraints loaded flat (Read n) c t is whole = absurd is
cause_with_all files r constraints loaded flat (Source details) c t is whole = absurd is
cause_with_all files r constraints loaded flat (NotYet n) c t is whole =
    cause_of_notyet files r n (inr (unformed files r constraints n (record { constraints = constraints; loaded = loaded; flat = flat; has_constraints = c; spell = t }) refl is)) whole
cause_with_all files r constraints loaded flat Memory c t is whole = cause_of_memory files r whole
cause_with_all files r constraints loaded flat (Judged report crossing) c t is whole = cause_of_judged files r report crossing (judged_as files r constraints loaded flat report crossing c t is) whole

cause_of_ends : (files : Files) (r : Request) (outcome : Outcome) (made : List Call) → Ends (Some files) r outcome made → (whole : Bool) → IsCauseFor files r (status_at outcome whole)
cause_of_ends files r outcome made (at_constraints is made-is) whole = cause_at_constraints files r outcome is whole
cause_of_ends files r outcome made (at_sources constraints loaded c is made-is) whole =
    cause_of_either files r outcome (stopped loaded is.fault) whole is.outcome_is (cause_of_stop files r loaded (there files r.constraints constraints c) whole is.fault is.expands)
cause_of_ends files r outcome made (at_tokens constraints loaded known c expand is made-is) whole =
    cause_of_either files r outcome (unread known.files is.fault) whole is.outcome_is (cause_of_unread files r loaded (there files r.constraints constraints c) whole known expand is.fault is.is_fault)
cause_of_ends files r outcome made (at_modules constraints loaded known tokens c are is made-is) whole =
    cause_of_either files r outcome (unparsed known.files is.fault) whole is.outcome_is (cause_of_unparsed files r loaded (there files r.constraints constraints c) whole known are.expand tokens are is.fault is.is_fault)
cause_of_ends files r outcome made (at_design constraints loaded ms spell c is made-is) whole =
    cause_of_either files r outcome (unelaborated spell.known.files is.fault) whole is.outcome_is (cause_of_unelaborated files r loaded (there files r.constraints constraints c) whole ms spell is.fault is.gives)
cause_of_ends files r outcome made (with_all constraints loaded flat c t is made-is) whole = cause_with_all files r constraints loaded flat outcome c t is whole

cause_of_request : (files : Files) (asked : Option Request) (outcome : Outcome) (made : List Call) → EndsRequest (Some files) asked outcome made → (whole : Bool) → IsCauseOf files asked (status_at outcome whole)
cause_of_request files None outcome made ends true = ap status_of ends.0
cause_of_request files None outcome made ends false = ap cut_status ends.0
cause_of_request files (Some r) outcome made ends whole = cause_of_ends files r outcome made ends whole

-- over told files, what a call says has the status whose condition stands
pub cause_of_call : (told : Option Files) (words : List (List ℕ)) (outcome : Outcome) (made : List Call) (status : Status) (old new : Option (List ℕ)) (f f' : ℕ) → EndsRequest told (request_of words) outcome made
    → Says outcome status old new f f' → IfSome told (λ files. IsCause files words status)
cause_of_call None words outcome made status old new f f' ends says = tt
cause_of_call (Some files) words outcome made status old new f f' ends says =
    subst (λ (s : Status). IsCauseOf files (request_of words) s) (sym says.status_is) (cause_of_request files (request_of words) outcome made ends says.whole)

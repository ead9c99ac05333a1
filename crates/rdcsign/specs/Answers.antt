-- The answers of the stages of a call, as outcomes.
use Rattle.std.specs.Prelude.{◌≡◌, ℕ, List, [], length, Option, Result, Ok, Err}
use Rattle.rdc_outside.specs.Shelf.{Files, Calls, Call}
use Rattle.rdc_outside.specs.declared.source.Text.{Text}
use Rattle.vlog_lex.specs.declared.fault.LexFault.{LexFault}
use Rattle.vlog_lex.specs.declared.tokens.Token.{Token}
use Rattle.vlog_lex.specs.Tokens.{AreTokens, IsFault}
use Rattle.thin_form.specs.Design.{Design}
use Rattle.thin_cons.specs.Roles.{Declares}
use Rattle.thin_cons.specs.declared.role.Role.{Role}
use Rattle.rdcsign.specs.declared.refusal.Refusal.{Refusal}
use Rattle.rdcsign.specs.declared.report.Judgement.{Judgement}
use Rattle.rdcsign.specs.Request.{Request, first_of, texts}
use Rattle.rdcsign.specs.Outcome.{Outcome, Usage, Absent, Read, Source, NotYet, Memory, Judged, refused}
use Rattle.vlog_tree.specs.declared.module.Module.{Module}
use Rattle.vlog_tree.specs.Lexemes.{lexemes, place_at}
use Rattle.vlog_parse.specs.declared.fault.ParseFault.{ParseFault}
use Rattle.vlog_parse.specs.Begins as parse
use Rattle.design_form.specs.declared.parts.Parts.{Parts}
use Rattle.vlog_elab.specs.Flat.{Gives}
use Rattle.front.specs.Stages.{lib_in}
use Rattle.rdcsign.specs.Faults.{unread, unparsed}
use Rattle.rdcsign.specs.Ends.{IsOrMemory, IsUnelaborated, SayNone, IsJudgement, Ends, EndsCall}
use Rattle.rdcsign.specs.Loads.{with_loads}

-- a judgement or a refusal as an outcome
abbrev pub outcome_of : Result Judgement Refusal → Outcome
outcome_of (Ok j) = Judged j.report.items j.crossing
outcome_of (Err refusal) = refused refusal

-- the flat design is not of the form, or memory is wanted
abbrev pub IsNoDesign : Request → Parts → Outcome → Type 0
IsNoDesign r flat (NotYet n) = (n ≡ first_of r.files) × SayNone flat
IsNoDesign r flat Memory = Unit {0}
IsNoDesign r flat Usage = ⊥
IsNoDesign r flat (Absent n) = ⊥
IsNoDesign r flat (Read n) = ⊥
IsNoDesign r flat (Source details) = ⊥
IsNoDesign r flat (Judged report crossing) = ⊥

-- the constraints give the design's sources no roles, or memory is wanted
abbrev pub AreNoRoles : Request → Design → List ℕ → Outcome → Type 0
AreNoRoles r design constraints (NotYet n) = (n ≡ r.constraints) × ((roles : List Role) → Declares design constraints roles → ⊥)
AreNoRoles r design constraints Memory = Unit {0}
AreNoRoles r design constraints Usage = ⊥
AreNoRoles r design constraints (Absent n) = ⊥
AreNoRoles r design constraints (Read n) = ⊥
AreNoRoles r design constraints (Source details) = ⊥
AreNoRoles r design constraints (Judged report crossing) = ⊥

-- how a text, from which the sources expand, ends the call with these constraints: without tokens, with tokens that spell no modules, with modules that give no flat design, or with a flat design
pub data EndsText (r : Request) (constraints : List ℕ) (text : Text) (outcome : Outcome) : Type 0 where
  no_tokens : (fault : LexFault) → IsFault text.bytes text.places fault → IsOrMemory outcome (unread (texts text.files) fault) → EndsText r constraints text outcome
  no_modules : (tokens : List Token) (fault : ParseFault) → AreTokens 0 text.bytes tokens → parse.IsFault (place_at text.places (length text.bytes)) (lexemes text.bytes text.places tokens) fault
      → IsOrMemory outcome (unparsed (texts text.files) fault) → EndsText r constraints text outcome
  no_flat : (tokens : List Token) (ms : List Module) → AreTokens 0 text.bytes tokens → parse.IsAnswer (lexemes text.bytes text.places tokens) ms → IsUnelaborated (texts text.files) r.top ms outcome → EndsText r constraints text outcome
  judged : (tokens : List Token) (ms : List Module) (flat : Parts) → AreTokens 0 text.bytes tokens → parse.IsAnswer (lexemes text.bytes text.places tokens) ms → Gives (lib_in ms []) r.top (Ok flat) → IsJudgement r constraints flat outcome
      → EndsText r constraints text outcome

-- how a request ends, with its loads listed
pub record EndsListed (told : Option Files) (r : Request) (outcome : Outcome) (old new : Option Calls) : Type 0 where
  pub made : List Call
  pub ends : Ends told r outcome made
  pub listed : new ≡ with_loads old made

-- how the words end, with the loads listed
pub record EndsWords (told : Option Files) (words : List (List ℕ)) (outcome : Outcome) (old new : Option Calls) : Type 0 where
  pub made : List Call
  pub ends : EndsCall told words outcome made
  pub listed : new ≡ with_loads old made

-- The stages of a call, and how it ends at each.
--     IsLoaded, IsRefusedLoad      what the load of the constraints gives
--     IsStopped, IsUnread, IsUnparsed, SpellModules      what the sources give: a fault of expansion, of lexing or of parsing, or modules
--     IsUnelaborated, SpellFlat      what the modules give: a fault of elaboration, or a flat design
--     IsReport, IsJudgement      what the flat design and the constraints give
--     Ends, EndsCall      how the call ends, and the loads that it made
use Rattle.std.specs.Prelude.{◌≡◌, ◌<◌, ◌≤◌, ◌⊎◌, ℕ, Bool, List, [], ◌∷◌, ◌++◌, map, length, Option, Some, None, Ok, Err, IfSome, IsSomeAnd}
use Rattle.rdc_outside.specs.Shelf.{Files, Call, Load}
use Rattle.vlog_pre.specs.declared.fault.PreFault.{PreFault}
use Rattle.vlog_pre.specs.Known.{State}
use Rattle.vlog_pre.specs.Expansion.{Expands, first_state, first_items}
use Rattle.vlog_lex.specs.declared.fault.LexFault.{LexFault}
use Rattle.vlog_lex.specs.declared.tokens.Token.{Token}
use Rattle.vlog_lex.specs.Tokens.{AreTokens, IsFault}
use Rattle.vlog_tree.specs.declared.module.Module.{Module}
use Rattle.vlog_parse.specs.declared.fault.ParseFault.{ParseFault}
use Rattle.vlog_parse.specs.Begins as parse
use Rattle.design_form.specs.declared.parts.Parts.{Parts}
use Rattle.elab_names.specs.declared.fault.ElabFault.{ElabFault}
use Rattle.vlog_elab.specs.Flat.{Gives}
use Rattle.front.specs.Stages.{lib_in}
use Rattle.thin_form.specs.Source as form
use Rattle.thin_form.specs.Design.{Design}
use Rattle.thin_cons.specs.Roles.{Declares}
use Rattle.thin_cons.specs.declared.role.Role.{Role}
use Rattle.rdcsign.specs.declared.loading.TheConstants.{MOST}
use Rattle.rdcsign.specs.Request.{Request, request_of, first_of}
use Rattle.rdcsign.specs.Closed.{IsClosed}
use Rattle.rdcsign.specs.Verdict.{crosses}
use Rattle.rdcsign.specs.Report as texts
use Rattle.rdcsign.specs.Outcome.{Outcome, Usage, Absent, Read, Source, NotYet, Memory, Judged}
use Rattle.rdcsign.specs.Faults.{stopped, unread, unparsed, unelaborated}
use Rattle.rdcsign.specs.Lexemes.{places_of, end_of, lexemes_of}

-- the file of that name has these bytes, and not too many
pub record IsLoaded (told : Option Files) (name bytes : List ℕ) : Type 0 where
  pub value : IfSome told (λ files. files name ≡ Some bytes)
  pub within : length bytes ≤ MOST

-- the load of the file ends the call so
abbrev pub IsRefusedLoad : Option Files → List ℕ → Outcome → Type 0
IsRefusedLoad told name (Absent n) = (n ≡ name) × IfSome told (λ files. files name ≡ None)
IsRefusedLoad told name (NotYet n) = (n ≡ name) × IfSome told (λ files. IsSomeAnd (files name) (λ bytes. MOST < length bytes))
IsRefusedLoad told name (Read n) = n ≡ name
IsRefusedLoad told name Memory = Unit {0}
IsRefusedLoad told name Usage = ⊥
IsRefusedLoad told name (Source details) = ⊥
IsRefusedLoad told name (Judged report crossing) = ⊥

-- loads of files, each of so many bytes at most
abbrev pub loads_of : List (List ℕ) → List Call
loads_of names = map (λ name. Load name MOST) names

-- a load is listed unless it wanted memory
abbrev pub load_unless_memory : List ℕ → Outcome → List Call
load_unless_memory name Memory = []
load_unless_memory name outcome = loads_of (name ∷ [])

-- the outcome that is wanted, or want of memory
abbrev pub IsOrMemory : Outcome → Outcome → Type 0
IsOrMemory outcome wanted = (outcome ≡ wanted) ⊎ (outcome ≡ Memory)

-- the expansion of the sources stops at a fault, which ends the call; the n-th file that was loaded has the number n
pub record IsStopped (told : Option Files) (r : Request) (loaded : List (List ℕ)) (outcome : Outcome) : Type 0 where
  pub fault : PreFault
  pub expands : Expands told first_state (first_items r.files) loaded (Err fault)
  pub outcome_is : IsOrMemory outcome (stopped loaded fault)

-- the sources expand to this
abbrev pub ExpandTo : Option Files → Request → List (List ℕ) → State → Type 0
ExpandTo told r loaded known = Expands told first_state (first_items r.files) loaded (Ok known)

-- the text has no tokens, for a fault that ends the call
pub record IsUnread (known : State) (outcome : Outcome) : Type 0 where
  pub fault : LexFault
  pub is_fault : IsFault known.bytes (places_of known) fault
  pub outcome_is : IsOrMemory outcome (unread known.files fault)

-- the sources expand to a text with these tokens
pub record HaveTokens (told : Option Files) (r : Request) (loaded : List (List ℕ)) (known : State) (tokens : List Token) : Type 0 where
  pub expand : ExpandTo told r loaded known
  pub are_tokens : AreTokens 0 known.bytes tokens

-- the tokens spell no modules, for a fault that ends the call
pub record IsUnparsed (known : State) (tokens : List Token) (outcome : Outcome) : Type 0 where
  pub fault : ParseFault
  pub is_fault : parse.IsFault (end_of known) (lexemes_of known tokens) fault
  pub outcome_is : IsOrMemory outcome (unparsed known.files fault)

-- the sources' tokens spell these modules, less than 256 deep
pub record SpellModules (told : Option Files) (r : Request) (loaded : List (List ℕ)) (ms : List Module) : Type 0 where
  pub known : State
  pub tokens : List Token
  pub have : HaveTokens told r loaded known tokens
  pub answer : parse.IsAnswer (lexemes_of known tokens) ms

-- the sources spell modules that give no flat design below the top, for a fault that ends the call; no module is known by its ports alone
pub record IsUnelaborated (files : List (List ℕ)) (top : List ℕ) (ms : List Module) (outcome : Outcome) : Type 0 where
  pub fault : ElabFault
  pub gives : Gives (lib_in ms []) top (Err fault)
  pub outcome_is : IsOrMemory outcome (unelaborated files fault)

-- the sources spell modules that give this flat design below the top
pub record SpellFlat (told : Option Files) (r : Request) (loaded : List (List ℕ)) (flat : Parts) : Type 0 where
  pub modules : List Module
  pub spell : SpellModules told r loaded modules
  pub gives : Gives (lib_in modules []) r.top (Ok flat)

-- the flat design is not of the form
abbrev pub SayNone : Parts → Type 0
SayNone flat = (design : Design) → form.Says flat design → ⊥

-- the flat design says a design, and the constraints give its sources no roles
abbrev pub DeclaresNone : List ℕ → Parts → Type 0
DeclaresNone constraints flat = (design : Design) × form.Says flat design × ((roles : List Role) → Declares design constraints roles → ⊥)

-- the flat design says this design, and the constraints give its sources these roles
pub record IsOfForm (constraints : List ℕ) (flat : Parts) (design : Design) (roles : List Role) : Type 0 where
  pub design_is : form.Says flat design
  pub roles_are : Declares design constraints roles

-- this is the report on the flat design and the constraints, and whether an edge crosses
pub record IsReport (top constraints : List ℕ) (flat : Parts) (report : List ℕ) (crossing : Bool) : Type 0 where
  pub design : Design
  pub roles : List Role
  pub of_form : IsOfForm constraints flat design roles
  pub closed : IsClosed design
  pub text : report ≡ texts.report top design roles
  pub verdict : crossing ≡ crosses design roles

-- the flat design and the constraints end the call so: the design is looked at first, and named by the first file of source
abbrev pub IsJudgement : Request → List ℕ → Parts → Outcome → Type 0
IsJudgement r constraints flat (NotYet n) = (n ≡ first_of r.files) × SayNone flat ⊎ (n ≡ r.constraints) × DeclaresNone constraints flat
IsJudgement r constraints flat (Judged report crossing) = IsReport r.top constraints flat report crossing
IsJudgement r constraints flat Memory = Unit {0}
IsJudgement r constraints flat Usage = ⊥
IsJudgement r constraints flat (Absent n) = ⊥
IsJudgement r constraints flat (Read n) = ⊥
IsJudgement r constraints flat (Source details) = ⊥

-- how a request ends, and the loads that it made: at the constraints, at the expansion of the sources, at its tokens, at their modules, at the design of these, or with all in hand
pub data Ends (told : Option Files) (r : Request) (outcome : Outcome) (made : List Call) : Type 0 where
  at_constraints : IsRefusedLoad told r.constraints outcome → made ≡ load_unless_memory r.constraints outcome → Ends told r outcome made
  at_sources : (constraints : List ℕ) (loaded : List (List ℕ)) → IsLoaded told r.constraints constraints → IsStopped told r loaded outcome
      → made ≡ loads_of (r.constraints ∷ loaded) → Ends told r outcome made
  at_tokens : (constraints : List ℕ) (loaded : List (List ℕ)) (known : State) → IsLoaded told r.constraints constraints → ExpandTo told r loaded known → IsUnread known outcome
      → made ≡ loads_of (r.constraints ∷ loaded) → Ends told r outcome made
  at_modules : (constraints : List ℕ) (loaded : List (List ℕ)) (known : State) (tokens : List Token) → IsLoaded told r.constraints constraints → HaveTokens told r loaded known tokens → IsUnparsed known tokens outcome
      → made ≡ loads_of (r.constraints ∷ loaded) → Ends told r outcome made
  at_design : (constraints : List ℕ) (loaded : List (List ℕ)) (ms : List Module) (spell : SpellModules told r loaded ms) → IsLoaded told r.constraints constraints → IsUnelaborated spell.known.files r.top ms outcome
      → made ≡ loads_of (r.constraints ∷ loaded) → Ends told r outcome made
  with_all : (constraints : List ℕ) (loaded : List (List ℕ)) (flat : Parts) → IsLoaded told r.constraints constraints → SpellFlat told r loaded flat → IsJudgement r constraints flat outcome
      → made ≡ loads_of (r.constraints ∷ loaded) → Ends told r outcome made

-- the same of a request that may be none
abbrev pub EndsRequest : Option Files → Option Request → Outcome → List Call → Type 0
EndsRequest told None outcome made = (outcome ≡ Usage) × (made ≡ [])
EndsRequest told (Some r) outcome made = Ends told r outcome made

-- how the words end
abbrev pub EndsCall : Option Files → List (List ℕ) → Outcome → List Call → Type 0
EndsCall told words outcome made = EndsRequest told (request_of words) outcome made

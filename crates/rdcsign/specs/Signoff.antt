-- What one call of the program does: how it ends, what it says, which loads it makes, and when each status comes.
--     SignsOff      the whole call
--     AreRead, Spell, IsJudgedAs, IsMissing, IsFaulty, IsUnformed      what the told files say of a request
--     IsCause      when each status comes
use Rattle.std.specs.Prelude.{◌≡◌, ◌<◌, ◌≤◌, ◌⊎◌, ℕ, Bool, true, false, List, length, Option, Some, None, Err, IsSomeAnd}
use Rattle.rdc_outside.specs.Shelf.{Files, Calls, Call}
use Rattle.rdc_outside.specs.declared.outcome.Status.{Status}
use Rattle.rdc_outside.specs.declared.outcome.Status.TheVariants as statuses
use Rattle.vlog_pre.specs.declared.fault.PreFault.TheVariants.{Absent}
use Rattle.vlog_pre.specs.Known.{State}
use Rattle.vlog_pre.specs.Expansion.{Expands, first_state, first_items}
use Rattle.vlog_lex.specs.declared.tokens.Token.{Token}
use Rattle.vlog_tree.specs.declared.module.Module.{Module}
use Rattle.design_form.specs.declared.parts.Parts.{Parts}
use Rattle.thin_form.specs.Design.{Design}
use Rattle.thin_cons.specs.declared.role.Role.{Role}
use Rattle.rdcsign.specs.declared.loading.TheConstants.{MOST}
use Rattle.rdcsign.specs.Request.{Request, request_of}
use Rattle.rdcsign.specs.Verdict.{crosses}
use Rattle.rdcsign.specs.Outcome.{Outcome, Source, Says}
use Rattle.rdcsign.specs.Ends.{IsLoaded, IsStopped, ExpandTo, IsUnread, HaveTokens, IsUnparsed, SpellModules, IsUnelaborated, SpellFlat, SayNone, DeclaresNone, IsOfForm, EndsCall}
use Rattle.rdcsign.specs.Loads.{with_loads}

-- a call: how it ends, with its loads in order, and what it leaves on the sink
pub record SignsOff (told : Option Files) (words : List (List ℕ)) (calls calls' : Option Calls) (status : Status) (written written' : Option (List ℕ)) (faults faults' : ℕ) : Type 0 where
  pub outcome : Outcome
  pub made : List Call
  pub ends : EndsCall told words outcome made
  pub listed : calls' ≡ with_loads calls made
  pub says : Says outcome status written written' faults faults'

-- the file is there and not too big
abbrev pub IsThere : Files → List ℕ → Type 0
IsThere files name = IsSomeAnd (files name) (λ bytes. length bytes ≤ MOST)

-- the file is there and too big
abbrev pub IsTooBig : Files → List ℕ → Type 0
IsTooBig files name = IsSomeAnd (files name) (λ bytes. MOST < length bytes)

-- the constraints are there and not too big, and the sources spell a flat design
pub record AreRead (files : Files) (r : Request) : Type 0 where
  pub constraints : List ℕ
  pub loaded : List (List ℕ)
  pub flat : Parts
  pub has_constraints : IsLoaded (Some files) r.constraints constraints
  pub spell : SpellFlat (Some files) r loaded flat

-- the files of the request spell this design, and give its sources these roles
pub record Spell (files : Files) (r : Request) (design : Design) (roles : List Role) : Type 0 where
  pub are_read : AreRead files r
  pub of_form : IsOfForm are_read.constraints are_read.flat design roles

-- the files of the request spell a design in which an edge crosses, or none does
pub record IsJudgedAs (crossing : Bool) (files : Files) (r : Request) : Type 0 where
  pub design : Design
  pub roles : List Role
  pub spelled : Spell files r design roles
  pub verdict : crosses design roles ≡ crossing

-- the first file that can't be loaded, given or included, is missing
abbrev pub IsMissing : Files → Request → Type 0
IsMissing files r = (files r.constraints ≡ None)
    ⊎ IsThere files r.constraints × ((name : List ℕ) × (loaded : List (List ℕ)) × Expands (Some files) first_state (first_items r.files) loaded (Err (Absent name)))

-- the sources have a fault of expansion, of lexing, of parsing or of elaboration, of which this is said
abbrev pub IsFaultySource : Files → Request → List ℕ → Type 0
IsFaultySource files r details = (loaded : List (List ℕ)) × (IsStopped (Some files) r loaded (Source details)
    ⊎ (((known : State) × ExpandTo (Some files) r loaded known × IsUnread known (Source details))
    ⊎ (((known : State) × (tokens : List Token) × HaveTokens (Some files) r loaded known tokens × IsUnparsed known tokens (Source details))
    ⊎ ((modules : List Module) × (spell : SpellModules (Some files) r loaded modules) × IsUnelaborated spell.known.files r.top modules (Source details)))))

-- the constraints are there and not too big, and the source is faulty
abbrev pub IsFaulty : Files → Request → Type 0
IsFaulty files r = IsThere files r.constraints × ((details : List ℕ) × IsFaultySource files r details)

-- the constraints are there, and the sources' flat design is not of the form or the constraints give it no roles
pub record IsUnformed (files : Files) (r : Request) : Type 0 where
  pub are_read : AreRead files r
  pub unformed : SayNone are_read.flat ⊎ DeclaresNone are_read.constraints are_read.flat

-- when each status comes for a request over told files; no file says when memory or the outside fails
abbrev pub IsCauseFor : Files → Request → Status → Type 0
IsCauseFor files r statuses.Clean = IsJudgedAs false files r
IsCauseFor files r statuses.Hazard = IsJudgedAs true files r
IsCauseFor files r statuses.Source = IsFaulty files r
IsCauseFor files r statuses.Absent = IsMissing files r
IsCauseFor files r statuses.NotYet = IsTooBig files r.constraints ⊎ IsUnformed files r
IsCauseFor files r statuses.Write = IsJudgedAs false files r ⊎ IsJudgedAs true files r
IsCauseFor files r statuses.Read = Unit {0}
IsCauseFor files r statuses.Memory = Unit {0}
IsCauseFor files r other = ⊥

-- when each status comes: Usage exactly where the words ask for nothing
abbrev pub IsCauseOf : Files → Option Request → Status → Type 0
IsCauseOf files None status = status ≡ statuses.Usage
IsCauseOf files (Some r) status = IsCauseFor files r status

-- the same of the words of the command line
abbrev pub IsCause : Files → List (List ℕ) → Status → Type 0
IsCause files words status = IsCauseOf files (request_of words) status
